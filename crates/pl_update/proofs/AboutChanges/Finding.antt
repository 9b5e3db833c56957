-- What is found under an id after a replacement.
use Rattle.std.proofs.Common.{◌≡◌, ℕ, eqb, Bool, true, false, List, [], ◌∷◌, refl, ap, ◌∙◌}
use Rattle.std.specs.Prelude.{Some, None, if◌then◌else◌}
use Rattle.std.specs.Option.{option_or}
use Rattle.std.proofs.lemmas.Bool.{eqb-true}
use Rattle.pl_plan.specs.declared.activity.Activity.{Activity}
use Rattle.pl_plan.specs.Activities.{AreRising, IsLive, activity_of, placed}
use Rattle.pl_plan.proofs.Lookups.{found-placed}
use Rattle.pl_semantics.specs.PlanStates.{among}
use Rattle.pl_update.specs.Changes.Replaced.{taken, put, replaced}
use Rattle.pl_update.specs.Changes.Putting.{CanPut}
use Rattle.pl_update.proofs.AboutChanges.Putting.{found-taken}

-- what can be put has none of the ids that are live
pub none_live : (xs more : List Activity) (q : ℕ) → CanPut xs more → IsLive q xs → activity_of q more ≡ None
none_live xs [] q can live = refl
none_live xs (a ∷ more) q can live = cases (eqb a.id q) refl (none_live (placed a xs) more q can.1)
  where
    cases : (b : Bool) → eqb a.id q ≡ b → (IsLive q (placed a xs) → activity_of q more ≡ None) → activity_of q (a ∷ more) ≡ None
    cases true e others = absurd (let is : activity_of q xs ≡ None = rw (eqb-true a.id q e) at can.0 in let bad : IsLive q xs = live in cc)
    cases false e others = rw e (others (rw (found-placed a xs q can.0, e) live))

pub found-put : (xs more : List Activity) (q : ℕ) → CanPut xs more → activity_of q (put xs more) ≡ option_or (activity_of q more) (activity_of q xs)
found-put xs [] q can = refl
found-put xs (a ∷ more) q can = found-put (placed a xs) more q can.1 ∙ cases (eqb a.id q) refl
  where
    cases : (b : Bool) → eqb a.id q ≡ b → option_or (activity_of q more) (activity_of q (placed a xs)) ≡ option_or (activity_of q (a ∷ more)) (activity_of q xs)
    cases true e =
        let here : activity_of q (placed a xs) ≡ Some a = rw (found-placed a xs q can.0, e) refl in
        let none : activity_of q more ≡ None = none_live (placed a xs) more q can.1 (rw here refl) in
        rw (none, here, e) refl
    cases false e = rw (found-placed a xs q can.0, e) refl

-- one of those that come, else what was there and does not go
pub found-replaced : (xs : List Activity) (gone : List ℕ) (more : List Activity) (q : ℕ) → AreRising xs → CanPut (taken xs gone) more
    → activity_of q (replaced xs gone more) ≡ option_or (activity_of q more) (if among q gone then None else activity_of q xs)
unfolding replaced
found-replaced xs gone more q rising can = found-put (taken xs gone) more q can ∙ ap (option_or (activity_of q more)) (found-taken xs gone q rising)
