-- Activities put one after another in the places of those of their ids, as if all were taken out first.
use Rattle.std.proofs.Common.{◌≡◌, ℕ, eqb, Bool, true, false, cond, List, [], ◌∷◌, ◌++◌, map, refl, sym, ap, ◌∙◌, arith}
use Rattle.std.specs.Prelude.{Option, Some, None, ◌||◌}
use Rattle.std.proofs.lemmas.Bool.{eqb-true, eqb-false}
use Rattle.pl_lists.proofs.Numbers.{eqb_itself}
use Rattle.pl_plan.specs.declared.activity.Activity.{Activity}
use Rattle.pl_plan.specs.Activities.{AreRising, IsLive, activity_of, placed, without, exchanged}
use Rattle.pl_plan.specs.Trees.{id_of}
use Rattle.pl_plan.proofs.Ids.{rising-without, rising-placed}
use Rattle.pl_plan.proofs.Lookups.{found-placed, found-without}
use Rattle.pl_semantics.specs.PlanStates.{among}
use Rattle.pl_update.specs.Changes.Replaced.{taken, put, replaced}
use Rattle.pl_update.specs.Changes.Putting.{CanPut}
use Rattle.pl_update.specs.Changes.Renewed.{renewed, all_renewed}
use Rattle.pl_plan.proofs.LookUpLaws.{same_activities}
use Rattle.pl_plan.proofs.Ids.{rising-exchanged}
use Rattle.pl_plan.proofs.Lookups.{found-exchanged, swapped}
use Rattle.pl_update.proofs.AboutChanges.Finding.{none_live}

pub free_without : (id : ℕ) (xs : List Activity) → AreRising xs → activity_of id (without id xs) ≡ None
free_without id xs rising = found-without id 0 xs id rising ∙ ap (λ b. cond b None (activity_of id xs)) (eqb_itself id)

pub rising_renewed : (a : Activity) (xs : List Activity) → AreRising xs → AreRising (renewed a xs)
rising_renewed a xs rising = rising-placed a 0 (without a.id xs) (free_without a.id xs rising) (omega arith) (rising-without a.id 0 xs rising)

pub found-renewed : (a : Activity) (xs : List Activity) (q : ℕ) → AreRising xs → activity_of q (renewed a xs) ≡ cond (eqb a.id q) (Some a) (activity_of q xs)
found-renewed a xs q rising =
    found-placed a (without a.id xs) q (free_without a.id xs rising)
    ∙ ap (λ o. cond (eqb a.id q) (Some a) o) (found-without a.id 0 xs q rising)
    ∙ both (eqb a.id q)
  where
    both : (b : Bool) → cond b (Some a) (cond b None (activity_of q xs)) ≡ cond b (Some a) (activity_of q xs)
    both true = refl
    both false = refl

-- an exchange is the same where the id is live
pub exchanged_renewed : (a : Activity) (xs : List Activity) → AreRising xs → IsLive a.id xs → exchanged a xs ≡ renewed a xs
exchanged_renewed a xs rising live =
    same_activities (exchanged a xs) (renewed a xs) (rising-exchanged a 0 xs rising) (rising_renewed a xs rising)
    (λ q. found-exchanged a xs q ∙ by q (eqb a.id q) refl (activity_of q xs) refl ∙ sym (found-renewed a xs q rising))
  where
    by : (q : ℕ) (b : Bool) → eqb a.id q ≡ b → (o : Option Activity) → activity_of q xs ≡ o → cond (eqb a.id q) (swapped a (activity_of q xs)) (activity_of q xs) ≡ cond (eqb a.id q) (Some a) (activity_of q xs)
    by q true e (Some x) f = rw (e, f) refl
    by q true e None f = absurd (let here : activity_of a.id xs ≡ None = rw (eqb-true a.id q e) f in let bad : IsLive a.id xs = live in cc)
    by q false e o f = rw e refl

-- what is put stays behind when others are taken out
placed_taken : (a : Activity) (ids : List ℕ) (xs : List Activity) → AreRising xs → activity_of a.id xs ≡ None → among a.id ids ≡ false → taken (placed a xs) ids ≡ placed a (taken xs ids)
placed_taken a [] xs rising free apart = refl
placed_taken a (g ∷ ids) xs rising free apart =
    ap (λ all. taken all ids) (one (or_left apart)) ∙ placed_taken a ids (without g xs) (rising-without g 0 xs rising) (still (or_left apart)) (or_right apart)
  where
    or_left : (eqb g a.id || among a.id ids) ≡ false → eqb g a.id ≡ false
    or_left e = cases (eqb g a.id) e
      where
        cases : (b : Bool) → (b || among a.id ids) ≡ false → b ≡ false
        cases true e = e
        cases false e = refl

    or_right : (eqb g a.id || among a.id ids) ≡ false → among a.id ids ≡ false
    or_right e = cases (eqb g a.id) e
      where
        cases : (b : Bool) → (b || among a.id ids) ≡ false → among a.id ids ≡ false
        cases true e = absurd (cc)
        cases false e = e

    still : eqb g a.id ≡ false → activity_of a.id (without g xs) ≡ None
    still ne = found-without g 0 xs a.id rising ∙ rw ne free

    one : eqb g a.id ≡ false → without g (placed a xs) ≡ placed a (without g xs)
    one ne =
        same_activities (without g (placed a xs)) (placed a (without g xs))
        (rising-without g 0 (placed a xs) (rising-placed a 0 xs free (omega arith) rising))
        (rising-placed a 0 (without g xs) (still ne) (omega arith) (rising-without g 0 xs rising))
        (λ q. found-without g 0 (placed a xs) q (rising-placed a 0 xs free (omega arith) rising)
        ∙ ap (λ o. cond (eqb g q) None o) (found-placed a xs q free)
        ∙ by q (eqb g q) refl (eqb a.id q) refl
        ∙ sym (found-placed a (without g xs) q (still ne) ∙ ap (λ o. cond (eqb a.id q) (Some a) o) (found-without g 0 xs q rising)))
      where
        by : (q : ℕ) (b : Bool) → eqb g q ≡ b → (c : Bool) → eqb a.id q ≡ c → cond (eqb g q) None (cond (eqb a.id q) (Some a) (activity_of q xs)) ≡ cond (eqb a.id q) (Some a) (cond (eqb g q) None (activity_of q xs))
        by q true e true f = absurd (eqb-false g a.id ne (eqb-true g q e ∙ sym (eqb-true a.id q f)))
        by q true e false f = rw (e, f) refl
        by q false e c f = rw e refl

-- no later one of those that can be put has the id of an earlier one
apart_later : (a : Activity) (xs more : List Activity) → activity_of a.id xs ≡ None → CanPut (placed a xs) more → among a.id (map id_of more) ≡ false
apart_later a xs more free can = none more (none_live (placed a xs) more a.id can (rw (found-placed a xs a.id free, eqb_itself a.id) refl))
  where
    none : (ys : List Activity) → activity_of a.id ys ≡ None → among a.id (map id_of ys) ≡ false
    none [] e = refl
    none (y ∷ ys) e = cases (eqb y.id a.id) refl (none ys)
      where
        cases : (b : Bool) → eqb y.id a.id ≡ b → (activity_of a.id ys ≡ None → among a.id (map id_of ys) ≡ false) → (eqb y.id a.id || among a.id (map id_of ys)) ≡ false
        cases true f more = absurd (let here : activity_of a.id (y ∷ ys) ≡ Some y = rw f refl in cc)
        cases false f more = rw f (more (rw f at e))

-- once the first is renewed, the others can be put as before
module _ (a : Activity) (first rest : List Activity) where
  fronts : (ys : List Activity) → among a.id (map id_of (ys ++ rest)) ≡ false → among a.id (map id_of ys) ≡ false
  fronts [] e = refl
  fronts (y ∷ ys) e = cases (eqb y.id a.id) refl (fronts ys)
    where
      cases : (b : Bool) → eqb y.id a.id ≡ b → (among a.id (map id_of (ys ++ rest)) ≡ false → among a.id (map id_of ys) ≡ false) → (eqb y.id a.id || among a.id (map id_of ys)) ≡ false
      cases true f more = absurd (let bad : true ≡ false = rw f at e in cc)
      cases false f more = rw f (more (rw f at e))

  renewed_first : (xs : List Activity) → AreRising xs → CanPut (taken (without a.id xs) (map id_of first)) (a ∷ (first ++ rest)) → taken (renewed a xs) (map id_of first) ≡ placed a (taken (without a.id xs) (map id_of first))
  renewed_first xs rising can =
      let others : among a.id (map id_of (first ++ rest)) ≡ false = apart_later a (taken (without a.id xs) (map id_of first)) (first ++ rest) can.0 can.1 in
      placed_taken a (map id_of first) (without a.id xs) (rising-without a.id 0 xs rising) (free_without a.id xs rising) (fronts first others)

-- what comes behind them can be put
pub renewed_puttable : (xs first rest : List Activity) → AreRising xs → CanPut (taken xs (map id_of first)) (first ++ rest) → CanPut (all_renewed xs first) rest
renewed_puttable xs [] rest rising can = can
renewed_puttable xs (a ∷ first) rest rising can =
    renewed_puttable (renewed a xs) first rest (rising_renewed a xs rising) (rw (renewed_first a first rest xs rising can) can.1)

-- to renew them one after another is to take them all out and put them
pub renewed_replaced : (xs first rest : List Activity) → AreRising xs → CanPut (taken xs (map id_of first)) (first ++ rest) → put (all_renewed xs first) rest ≡ replaced xs (map id_of first) (first ++ rest)
unfolding replaced
renewed_replaced xs [] rest rising can = refl
renewed_replaced xs (a ∷ first) rest rising can =
    let moved : taken (renewed a xs) (map id_of first) ≡ placed a (taken (without a.id xs) (map id_of first)) = renewed_first a first rest xs rising can in
    renewed_replaced (renewed a xs) first rest (rising_renewed a xs rising) (rw moved can.1) ∙ ap (λ all. put all (first ++ rest)) moved
