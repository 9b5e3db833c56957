-- Activities that come, each under an id of its own, are found afterwards.
use Rattle.std.proofs.Common.{◌≡◌, ◌≢◌, ℕ, zero, suc, ◌<◌, List, [], ◌∷◌, length, get_or, Some, refl, ◌∙◌, arith}
use Rattle.std.specs.Prelude.{All, AllPairs}
use Rattle.std.proofs.lemmas.Bool.{eq-eqb, ne_eqb}
use Rattle.pl_plan.specs.declared.activity.Activity.{Activity}
use Rattle.pl_plan.specs.Activities.{activity_of}
use Rattle.pl_semantics.specs.declared.plan_state.PlanState.{PlanState}
use Rattle.pl_semantics.specs.Whole.{IsWhole}
use Rattle.pl_update.specs.Changes.Replaced.{replaced, CanReplace}
use Rattle.pl_update.proofs.AboutChanges.Putting.{puttable}
use Rattle.pl_update.proofs.AboutChanges.Finding.{found-replaced}

-- under each id at most one
abbrev pub AreOnce : List Activity → Type 0
AreOnce more = AllPairs (λ one other. one.id ≢ other.id) more

pub once_head : (a : Activity) (more : List Activity) → AreOnce (a ∷ more) → All (λ b. a.id ≢ b.id) more
once_head a more once k d lt = once 0 (suc k) d (omega arith) (omega (arith, lt))

pub once_tail : (a : Activity) (more : List Activity) → AreOnce (a ∷ more) → AreOnce more
once_tail a more once i j d lt within = once (suc i) (suc j) d (omega (arith, lt)) (omega (arith, within))

found_once : (more : List Activity) → AreOnce more → (k : ℕ) (d : Activity) → k < length more → activity_of (get_or more k d).id more ≡ Some (get_or more k d)
found_once [] once k d lt = absurd (omega (arith, lt))
found_once (x ∷ more) once zero d lt = rw (eq-eqb x.id x.id refl) refl
found_once (x ∷ more) once (suc k) d lt =
    rw (ne_eqb x.id (get_or more k d).id (once_head x more once k d (omega (arith, lt)))) (found_once more (once_tail x more once) k d (omega (arith, lt)))

pub live_after : (s : PlanState) (gone : List ℕ) (more : List Activity) → IsWhole s → CanReplace s gone more → All (λ (a : Activity). activity_of a.id (replaced s.plan.activities gone more) ≡ Some a) more
live_after s gone more whole can k d lt =
    found-replaced s.plan.activities gone more (get_or more k d).id whole.rising (puttable s.plan.activities gone more whole.rising can.once can.free)
    ∙ rw (found_once more can.once k d lt) refl
