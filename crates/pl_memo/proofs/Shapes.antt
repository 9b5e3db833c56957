-- A plan is its base with what is gone taken out and what is placed put in.
use Rattle.std.proofs.Common.{◌≡◌, ℕ, suc, eqb, Bool, true, false, cond, List, [], ◌∷◌, Option, Some, None, refl, sym, ap, ◌∙◌, arith}
use Rattle.std.specs.Prelude.{map, is_some}
use Rattle.std.specs.Option.{option_or}
use Rattle.std.proofs.lemmas.Bool.{eqb-true, eq-eqb, ne_eqb}
use Rattle.pl_plan.specs.declared.activity.Activity.{Activity}
use Rattle.pl_plan.specs.Activities.{RiseFrom, AreRising, activity_of, placed}
use Rattle.pl_plan.specs.Trees.{id_of}
use Rattle.pl_plan.proofs.Lookups.{none_below, found-placed}
use Rattle.pl_plan.proofs.LookUpLaws.{same_activities}
use Rattle.pl_semantics.specs.PlanStates.{among}
use Rattle.pl_update.specs.Changes.Replaced.{taken, put, replaced}
use Rattle.pl_update.specs.Changes.Putting.{CanPut}
use Rattle.pl_update.proofs.AboutChanges.Putting.{found-taken, rising-replaced}
use Rattle.pl_renumbering.proofs.Ranks.{found_above}
use Rattle.pl_memo.specs.declared.difference.Difference.{Difference}
use Rattle.pl_memo.specs.Differences.{IsDifference}

among_ids : (id : ℕ) (ys : List Activity) → among id (map id_of ys) ≡ is_some (activity_of id ys)
among_ids id [] = refl
among_ids id (y ∷ ys) = by (eqb y.id id) refl (among_ids id ys)
  where
    by : (b : Bool) → eqb y.id id ≡ b → among id (map id_of ys) ≡ is_some (activity_of id ys) → among id (map id_of (y ∷ ys)) ≡ is_some (activity_of id (y ∷ ys))
    by true e more = rw e refl
    by false e more = rw e more

abbrev nobody : Option Activity
nobody = None

found_put : (ys more : List Activity) (c id : ℕ) → RiseFrom c more → CanPut ys more → activity_of id (put ys more) ≡ option_or (activity_of id more) (activity_of id ys)
found_put ys [] c id rises can = refl
found_put ys (a ∷ more) c id rises can =
    found_put (placed a ys) more (suc a.id) id rises.1 can.1
    ∙ (ap (option_or (activity_of id more)) (found-placed a ys id can.0) ∙ by (eqb a.id id) refl)
  where
    by : (b : Bool) → eqb a.id id ≡ b → option_or (activity_of id more) (cond b (Some a) (activity_of id ys)) ≡ option_or (cond b (Some a) (activity_of id more)) (activity_of id ys)
    by true e = let same = eqb-true a.id id e in ap (λ o. option_or o (Some a)) (none_below more (suc a.id) id rises.1 (omega (arith, same)))
    by false e = refl

free_put : (ys more : List Activity) (c : ℕ) → RiseFrom c more → ((id : ℕ) (a : Activity) → activity_of id more ≡ Some a → activity_of id ys ≡ None) → CanPut ys more
free_put ys [] c rises free = tt
free_put ys (a ∷ more) c rises free = (first, free_put (placed a ys) more (suc a.id) rises.1 later)
  where
    itself : eqb a.id a.id ≡ true → activity_of a.id (a ∷ more) ≡ Some a
    itself e = rw e refl

    first : activity_of a.id ys ≡ None
    first = free a.id a (itself (eq-eqb a.id a.id refl))

    later : (id : ℕ) (b : Activity) → activity_of id more ≡ Some b → activity_of id (placed a ys) ≡ None
    later id b there =
        let above = found_above 0 more (suc a.id) id b rises.1 there in
        let other : eqb a.id id ≡ false = ne_eqb a.id id (λ e. omega (arith, above, e)) in
        let here : activity_of id (a ∷ more) ≡ Some b = rw other there in
        found-placed a ys id first ∙ rw other (free id b here)

module _ (base xs : List Activity) (d : Difference) (stands : AreRising base) (rises : AreRising xs) (is : IsDifference base xs d) where
  found_out : (id : ℕ) → activity_of id (taken base (map id_of d.gone)) ≡ cond (is_some (activity_of id d.gone)) None (activity_of id base)
  found_out id = found-taken base (map id_of d.gone) id stands ∙ ap (λ b. cond b None (activity_of id base)) (among_ids id d.gone)

  pub can_put : CanPut (taken base (map id_of d.gone)) d.placed
  can_put = free_put (taken base (map id_of d.gone)) d.placed 0 is.placed_rises free
    where
      free : (id : ℕ) (a : Activity) → activity_of id d.placed ≡ Some a → activity_of id (taken base (map id_of d.gone)) ≡ None
      free id a there = found_out id ∙ by (activity_of id base) refl
        where
          nothing : (b : Bool) → cond b nobody nobody ≡ nobody
          nothing true = refl
          nothing false = refl

          by : (o : Option Activity) → activity_of id base ≡ o → cond (is_some (activity_of id d.gone)) None (activity_of id base) ≡ None
          by None e = rw e (nothing (is_some (activity_of id d.gone)))
          by (Some b) e = rw (is.instead id a b there e) refl

  found_all : (id : ℕ) → activity_of id xs ≡ activity_of id (replaced base (map id_of d.gone) d.placed)
  unfolding replaced
  found_all id =
      is.shows id ∙ sym (found_put (taken base (map id_of d.gone)) d.placed 0 id is.placed_rises can_put ∙ ap (option_or (activity_of id d.placed)) (found_out id))

  pub is_replaced : xs ≡ replaced base (map id_of d.gone) d.placed
  is_replaced = same_activities xs (replaced base (map id_of d.gone) d.placed) rises (rising-replaced base (map id_of d.gone) d.placed can_put stands) found_all
