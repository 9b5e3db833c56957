-- What is known of a choice that is to be remembered.
use Rattle.std.proofs.Common.{◌≡◌, ℕ, zero, suc, ◌<◌, Bool, true, false, List, [], ◌∷◌, ◌++◌, length, get_or, take, refl, sym, ap, subst, ◌∙◌, arith}
use Rattle.std.specs.Prelude.{◌≢◌, All, Option, Some, None, find}
use Rattle.std.specs.List.{position_or_len}
use Rattle.std.proofs.lemmas.Option.{slice_get-get_or}
use Rattle.std.proofs.lemmas.List.Elements.{All-head, All-tail, All-weaker}
use Rattle.pl_plan.specs.declared.activity.Activity.{Activity}
use Rattle.pl_plan.specs.declared.repair.RepairMove.{RepairMove}
use Rattle.pl_plan.specs.Activities.{activity_of}
use Rattle.pl_semantics.specs.declared.plan_state.PlanState.{PlanState}
use Rattle.pl_semantics.specs.PlanStates.{of_found}
use Rattle.pl_semantics.specs.Moves.{applied, is_proper}
use Rattle.pl_update.specs.Changes.Replaced.{with_plan}
use Rattle.pl_update.specs.Timelines.Laws.{AreOnce}
use Rattle.pl_memo.specs.Memories.{AreProper, IsFewestAt, IsMadeFrom, WasFewestAt, going}
use Rattle.pl_memo.proofs.Fewest.{fewest_by_place, place_of_fewest}
use Rattle.pl_memo.proofs.Remembering.{made_from}
use Rattle.pl_moves.specs.Attempts.{IsToldOf, IsTrial}
use Rattle.pl_moves.specs.Changes.{gone_by}
use Rattle.pl_moves.specs.Undone.{alone, picked}
use Rattle.pl_moves.specs.declared.trial.Trial.{Trial}
use Rattle.pl_bounds.proofs.Summing.{once_gone}
use Rattle.pl_choose.specs.Found.{IsAllowed}
use Rattle.pl_choose.specs.Picks.{fewest, leaves_fewest}
use Rattle.pl_choose.specs.Remembered.{WasChosen, WasChosenIfTold}

pub all_proper : (s : PlanState) (moves : List RepairMove) → All (IsAllowed s) moves → AreProper s moves
all_proper s moves all = All-weaker (IsAllowed s) (λ m. is_proper s m ≡ true) (λ m can. can.proper) moves all

-- ---- the place of the best

pub fewest_there : (s : PlanState) (moves : List RepairMove) (place : ℕ) (d : RepairMove) → IsFewestAt s moves place → fewest s moves ≡ Some (get_or moves place d)
fewest_there s moves place d at = fewest_by_place s moves ∙ rw at.is (slice_get-get_or moves place d at.there)

module _ {X : Type 0} (p : X → Bool) where
  passes : (xs : List X) (y : X) → find p xs ≡ Some y → p y ≡ true
  passes [] y found = absurd (let bad : None ≡ Some y = found in cc)
  passes (x ∷ xs) y found = by (p x) refl (passes xs y)
    where
      by : (b : Bool) → p x ≡ b → (find p xs ≡ Some y → p y ≡ true) → p y ≡ true
      by true e more = let here : Some x ≡ Some y = rw e at found in let is : x ≡ y = cc in subst (λ z. p z ≡ true) is e
      by false e more = more (rw e at found)

  pub never_found : (xs : List X) (y : X) → find p xs ≡ Some y → All (λ x. x ≢ y) xs → ⊥
  never_found [] y found none = let bad : None ≡ Some y = found in cc
  never_found (x ∷ xs) y found none = by (p x) refl (never_found xs y)
    where
      by : (b : Bool) → p x ≡ b → (find p xs ≡ Some y → All (λ z. z ≢ y) xs → ⊥) → ⊥
      by true e more = let here : Some x ≡ Some y = rw e at found in let is : x ≡ y = cc in All-head (λ z. z ≢ y) x xs none is
      by false e more = more (rw e at found) (All-tail (λ z. z ≢ y) x xs none)

  -- what is found stands at the first place where it stands at all
  pub first_place : (xs : List X) (y d : X) (k : ℕ) → find p xs ≡ Some y → k < length xs → get_or xs k d ≡ y → All (λ x. x ≢ y) (take k xs) → position_or_len p xs ≡ k
  first_place [] y d k found lt here none = absurd (omega (arith, lt))
  first_place (x ∷ xs) y d zero found lt here none = let e : p x ≡ true = subst (λ z. p z ≡ true) (sym here) (passes (x ∷ xs) y found) in rw e refl
  first_place (x ∷ xs) y d (suc k) found lt here none = by (p x) refl (first_place xs y d k)
    where
      by : (b : Bool) → p x ≡ b → (find p xs ≡ Some y → k < length xs → get_or xs k d ≡ y → All (λ z. z ≢ y) (take k xs) → position_or_len p xs ≡ k) → position_or_len p (x ∷ xs) ≡ suc k
      by true e more = absurd (let front : Some x ≡ Some y = rw e at found in let is : x ≡ y = cc in All-head (λ z. z ≢ y) x (take k xs) none is)
      by false e more =
          let there : position_or_len p xs ≡ k = more (rw e at found) (omega (arith, lt)) here (All-tail (λ z. z ≢ y) x (take k xs) none) in
          rw (e, there) (omega arith)

pub at_first : (s : PlanState) (moves : List RepairMove) (m d : RepairMove) (k : ℕ) → k < length moves → get_or moves k d ≡ m → All (λ x. x ≢ m) (take k moves) → fewest s moves ≡ Some m → IsFewestAt s moves k
at_first s moves m d k lt here none best = record {
  there = lt;
  is = sym (place_of_fewest s moves) ∙ first_place (leaves_fewest s moves) moves m d k best lt here none;
}

pub never_fewest : (s : PlanState) (moves : List RepairMove) (m : RepairMove) (k : ℕ) → All (λ x. x ≢ m) moves → fewest s moves ≡ Some m → IsFewestAt s moves k
never_fewest s moves m k none best = absurd (never_found (leaves_fewest s moves) moves m best none)

-- ---- how the plan differs from the one before the move

picked_going : (xs : List Activity) (ids : List ℕ) → picked xs ids ≡ going xs ids
picked_going xs [] = refl
picked_going xs (id ∷ ids) = ap (λ (l : List Activity). of_found alone (activity_of id xs) ++ l) (picked_going xs ids)

made_by_trial : (s : PlanState) (m : RepairMove) (t : Trial) (now : PlanState) → IsTrial s m t → now ≡ applied s m → IsMadeFrom s now t.undo.placed.items t.change.placed.items
made_by_trial s m t now trial made =
    let xs : List Activity = s.plan.activities in
    let gone : List ℕ = t.change.gone.items in
    let more : List Activity = t.change.placed.items in
    let once : AreOnce gone = subst (λ (ids : List ℕ). AreOnce ids) (sym trial.gone_is) (once_gone s trial.whole m) in
    let back : going xs gone ≡ t.undo.placed.items = ap (λ (ids : List ℕ). going xs ids) trial.gone_is ∙ (sym (picked_going xs (gone_by s m)) ∙ sym trial.returning_is) in
    let is : with_plan gone more s ≡ now = trial.undone.made ∙ sym made in
    let P : List Activity → Type 0 = λ left. IsMadeFrom s now left more in
    let Q : PlanState → Type 0 = λ u. IsMadeFrom s u (going xs gone) more in
    subst P back (subst Q is (made_from s gone more trial.whole once trial.undone.can))

pub was_fewest : (s : PlanState) (moves : List RepairMove) (m : RepairMove) (t : Trial) (place : ℕ) → WasChosen s moves m t → ((b : PlanState) → fewest b moves ≡ Some m → IsFewestAt b moves place) → WasFewestAt s t.undo.placed.items t.change.placed.items moves place
was_fewest s moves m t place chosen there = record {
  before = chosen.before;
  made = made_by_trial chosen.before m t s chosen.trial chosen.made;
  proper = all_proper chosen.before moves chosen.allowed;
  fewest = there chosen.before chosen.best;
}

pub chosen_if_told : (before : PlanState) (moves : List RepairMove) (m : RepairMove) (told : Option Trial) (now : PlanState) → All (IsAllowed before) moves → fewest before moves ≡ Some m → now ≡ applied before m → IsToldOf before m told → WasChosenIfTold now moves m told
chosen_if_told before moves m None now allowed best made told = tt
chosen_if_told before moves m (Some t) now allowed best made told = record { before = before; allowed = allowed; best = best; made = made; trial = told }
