-- A replacement in which each id that goes is named once.
use Rattle.std.proofs.Common.{◌≡◌, ℕ, eqb, Bool, true, false, List, [], ◌∷◌, map, refl, sym, ap, ◌∙◌, subst, arith}
use Rattle.std.specs.Prelude.{◌||◌, All, if◌then◌else◌, None}
use Rattle.std.specs.List.Sorted.{IsStrictlyIncreasing}
use Rattle.std.proofs.lemmas.Bool.{eqb-true, eq-eqb}
use Rattle.std.proofs.lemmas.List.Elements.{All-nil, All-cons, All-head, All-tail, All-weaker}
use Rattle.std.proofs.lemmas.List.Kept.{AllPairs-from_increasing}
use Rattle.std.proofs.Math.Bool.{or-true}
use Rattle.pl_plan.specs.declared.activity.Activity.{Activity}
use Rattle.pl_plan.specs.Activities.{IsLive, activity_of}
use Rattle.pl_plan.specs.Trees.{id_of}
use Rattle.pl_plan.proofs.LookUpLaws.{same_activities}
use Rattle.pl_semantics.specs.declared.plan_state.PlanState.{PlanState}
use Rattle.pl_semantics.specs.PlanStates.{among}
use Rattle.pl_semantics.specs.Whole.{IsWhole}
use Rattle.pl_update.specs.Changes.Replaced.{taken, put, replaced, touched, CanReplace, with_plan}
use Rattle.pl_update.proofs.AboutChanges.Putting.{rising-taken, found-taken}
use Rattle.pl_update.specs.GoalsAndActivities.Near.{HoldSame}
use Rattle.pl_update.proofs.AboutLinks.Nearby.{among-append}
use Rattle.pl_update.specs.Timelines.Laws.{AreOnce}

pub once_rising : (ids : List ℕ) → IsStrictlyIncreasing ids → AreOnce ids
once_rising ids rising i j d lt within = let less = AllPairs-from_increasing ids rising i j d lt within in (λ same. omega (arith, less, same))

among_all : (P : ℕ → Type 0) (xs : List ℕ) → All P xs → (i : ℕ) → among i xs ≡ true → P i
among_all P [] all i e = absurd (cc)
among_all P (x ∷ xs) all i e = cases (eqb x i) refl (among_all P xs (All-tail P x xs all) i)
  where
    cases : (b : Bool) → eqb x i ≡ b → (among i xs ≡ true → P i) → P i
    cases true f more = subst P (eqb-true x i f) (All-head P x xs all)
    cases false f more = more (rw f at e)

all_among : (P : ℕ → Type 0) (xs : List ℕ) → ((i : ℕ) → among i xs ≡ true → P i) → All P xs
all_among P [] each = All-nil P
all_among P (x ∷ xs) each = All-cons P x xs (each x (rw (eq-eqb x x refl) refl)) (all_among P xs (λ i e. each i (rw e (or-true (eqb x i)))))

module _ (s : PlanState) (gone once : List ℕ) (more : List Activity) (whole : IsWhole s) (same : HoldSame once gone) where
  taken_once : taken s.plan.activities once ≡ taken s.plan.activities gone
  taken_once =
      same_activities (taken s.plan.activities once) (taken s.plan.activities gone) (rising-taken s.plan.activities once whole.rising) (rising-taken s.plan.activities gone whole.rising)
      (λ q. found-taken s.plan.activities once q whole.rising ∙ ap (λ b. if b then None else activity_of q s.plan.activities) (same q) ∙ sym (found-taken s.plan.activities gone q whole.rising))

  pub replaced_once : replaced s.plan.activities once more ≡ replaced s.plan.activities gone more
  unfolding replaced
  replaced_once = ap (λ xs. put xs more) taken_once

  pub plan_once : with_plan once more s ≡ with_plan gone more s
  plan_once = ap (λ xs. record (with_plan gone more s) { plan = record { activities = xs } }) replaced_once

  touched_once : (id : ℕ) → among id (touched once more) ≡ among id (touched gone more)
  touched_once id = among-append id once (map id_of more) ∙ ap (λ b. b || among id (map id_of more)) (same id) ∙ sym (among-append id gone (map id_of more))

  pub can_once : CanReplace s gone more → CanReplace s once more
  can_once can = record {
    live = all_among (λ id. IsLive id s.plan.activities) once (λ i e. among_all (λ id. IsLive id s.plan.activities) gone can.live i (sym (same i) ∙ e));
    once = can.once;
    free = All-weaker (λ (a : Activity). IsLive a.id s.plan.activities → among a.id gone ≡ true) (λ (a : Activity). IsLive a.id s.plan.activities → among a.id once ≡ true) (λ a goes live. same a.id ∙ goes live) more can.free;
    ids = can.ids;
    carried = can.carried;
    begun = can.begun;
    kept = λ id e. rw replaced_once (can.kept id (sym (touched_once id) ∙ e));
    fits = rw replaced_once can.fits;
    few = rw replaced_once can.few;
  }
