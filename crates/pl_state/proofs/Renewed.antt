-- What is kept after both lists were worked out anew.
use Rattle.std.proofs.Common.{◌≡◌, ℕ, ◌≤◌, Bool, false, List, [], ap, sym, subst, ◌∙◌}
use Rattle.pl_state.specs.declared.reservation.Setting.{Setting}
use Rattle.pl_state.specs.declared.reservation.Must.{Must}
use Rattle.pl_state.specs.declared.answer.BadSet.{BadSet}
use Rattle.pl_state.specs.declared.answer.BrokenMust.{BrokenMust}
use Rattle.pl_state.specs.declared.answer.StateChange.{StateChange}
use Rattle.pl_state.specs.Keys.{AreSorted}
use Rattle.pl_state.specs.Sorted.{bad_key}
use Rattle.pl_state.specs.Sets.{AreInOrder, state_from, is_allowed, bad_from}
use Rattle.pl_state.specs.Present.{present_of, broken_at, bad_at}
use Rattle.pl_state.proofs.Grouping.{all_is, bad_itself}
use Rattle.pl_state.proofs.Lists.{left_self}
use Rattle.pl_state.specs.Timelines.{Standing, IsSound, AreChanges, make, broken_now, bad_now, same_broken, same_bad}
use Rattle.pl_state.specs.declared.present.Present.{Present}
use Rattle.pl_state.specs.declared.change.Change.{Change}
use Rattle.pl_state.specs.declared.kept.Kept.{Kept}
use Rattle.pl_state.specs.Keeping.{stands_at, state_of, IsKept, IsMade, IsMended, after}
use Rattle.pl_lists.specs.Lists.{left_out}

pub sound_renewed : (h : ℕ) (any : Bool) (steps steps' : List (ℕ × ℕ)) (moment base value : ℕ) (sets : List Setting) (musts : List Must) (broken : List BrokenMust) (bad : List BadSet)
    → moment ≤ h → base ≤ moment → AreInOrder 0 sets → steps' ≡ steps → broken ≡ broken_at (present_of moment h base value) sets musts
    → bad ≡ bad_at any steps' (present_of moment h base value) sets → AreSorted bad_key bad → IsSound (make false h any steps moment base value sets musts) broken bad
sound_renewed h any steps steps' moment base value sets musts broken bad in_time based ordered same_steps is_broken is_bad sorted = record {
  in_time = in_time;
  based = based;
  ordered = ordered;
  musts = is_broken ∙ sym (all_is (λ t. state_from base t value sets) moment h musts);
  sets = is_bad ∙ ap (λ l. bad_from (is_allowed any l) base h moment value sets) same_steps;
  sorted = sorted;
}

pub renewed_changes : (s s' : Standing) (broken broken' : List BrokenMust) (bad bad' : List BadSet) (change : StateChange) → IsSound s broken bad → IsSound s' broken' bad' → AreChanges broken broken' bad bad' change → AreChanges (broken_now s) (broken_now s') (bad_now s) (bad_now s') change
renewed_changes s s' broken broken' bad bad' change one other is = record {
  musts_went = is.musts_went ∙ (ap (λ l. left_out same_broken l broken) other.musts ∙ ap (left_out same_broken (broken_now s')) one.musts);
  musts_came = is.musts_came ∙ (ap (λ l. left_out same_broken l broken') one.musts ∙ ap (left_out same_broken (broken_now s)) other.musts);
  steps_went = is.steps_went ∙ (ap (λ l. left_out same_bad l bad) other.sets ∙ ap (left_out same_bad (bad_now s')) one.sets);
  steps_came = is.steps_came ∙ (ap (λ l. left_out same_bad l bad') one.sets ∙ ap (left_out same_bad (bad_now s)) other.sets);
}

-- what an answer says that is made of both differences
pub answered : (broken broken' musts_went musts_came : List BrokenMust) (bad bad' steps_went steps_came : List BadSet) (change : StateChange)
    → change ≡ record { musts_went = musts_went; musts_came = musts_came; steps_went = steps_went; steps_came = steps_came }
    → musts_went ≡ left_out same_broken broken' broken → musts_came ≡ left_out same_broken broken broken' → steps_went ≡ left_out same_bad bad' bad → steps_came ≡ left_out same_bad bad bad' → AreChanges broken broken' bad bad' change
answered broken broken' musts_went musts_came bad bad' steps_went steps_came change is is_went is_came steps_gone steps_new = record {
  musts_went = ap (λ (c : StateChange). c.musts_went) is ∙ is_went;
  musts_came = ap (λ (c : StateChange). c.musts_came) is ∙ is_came;
  steps_went = ap (λ (c : StateChange). c.steps_went) is ∙ steps_gone;
  steps_came = ap (λ (c : StateChange). c.steps_came) is ∙ steps_new;
}

-- where the steps stay as they are
pub none_left : (bad steps : List BadSet) → steps ≡ [] → steps ≡ left_out same_bad bad bad
none_left bad steps none = none ∙ sym (left_self same_bad bad_itself bad)

-- a change that puts these sets and musts in the place of those that stood, and mends both lists
pub made : (change : Change) (old new : Kept) (sets : List Setting) (musts : List Must) (p : Present) (told : StateChange) → IsKept old → IsMended p (record old { sets = sets; musts = musts }) new told
    → make false p.horizon old.any old.steps.items p.moment p.base p.value sets musts ≡ after change (state_of false old) → IsMade change old new told
made change old new sets musts p told kept mended is = record {
  is = mended.same ∙ is;
  kept = mended.kept;
  answers = renewed_changes (state_of false old) (state_of false new) old.told.broken.items new.told.broken.items old.told.bad.items new.told.bad.items told kept mended.kept mended.answers;
}

-- both lists after they were worked out anew at a present
pub mended : (old new : Kept) (steps : List (ℕ × ℕ)) (p : Present) (told : StateChange) → p.moment ≤ p.horizon → p.base ≤ p.moment → AreInOrder 0 old.sets → steps ≡ old.steps.items → state_of false new ≡ stands_at false p old
    → new.told.broken.items ≡ broken_at p old.sets old.musts → new.told.bad.items ≡ bad_at old.any steps p old.sets → AreSorted bad_key new.told.bad.items
    → AreChanges old.told.broken.items new.told.broken.items old.told.bad.items new.told.bad.items told → IsMended p old new told
mended old new steps p told in_time based ordered same_steps same is_broken is_bad sorted answers = record {
  same = same;
  kept = subst (λ (s : Standing). IsSound s new.told.broken.items new.told.bad.items) (sym same)
      (sound_renewed p.horizon old.any old.steps.items steps p.moment p.base p.value old.sets old.musts new.told.broken.items new.told.bad.items in_time based ordered same_steps is_broken is_bad sorted);
  answers = answers;
}
