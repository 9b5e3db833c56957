-- Why a move is refused.
use Rattle.std.proofs.Common.{◌≡◌, ℕ, Bool, true, false, List, refl, ap, subst}
use Rattle.std.specs.Prelude.{find, Option, Some, None}
use Rattle.std.specs.Option.{option_map}
use Rattle.std.proofs.lemmas.Option.{same_Some}
use Rattle.pl_plan.specs.declared.activity.Activity.{Activity}
use Rattle.pl_plan.specs.declared.repair.RepairMove.{RepairMove}
use Rattle.pl_plan.specs.Activities.{AreRising}
use Rattle.pl_semantics.specs.declared.plan_state.PlanState.{PlanState}
use Rattle.pl_semantics.specs.declared.refusal.Refusal.{Refusal}
use Rattle.pl_semantics.specs.declared.refusal.Refusal.TheVariants.{Locked, Behind, Beyond, Full}
use Rattle.pl_semantics.specs.Moves.{started_by, is_locked, is_behind, is_beyond, is_full, or_else, full_if, refusal_of}
use Rattle.pl_semantics.specs.Legal.{IsLeast, IsRefused}
use Rattle.pl_semantics.proofs.Refusing.{none_found, found_none}
use Rattle.pl_semantics.proofs.Least.{least_found, found_least}
use Rattle.pl_semantics.proofs.Starting.{started_rise}

-- what the three searches found and whether it is full decide
abbrev decided : Option Activity → Option Activity → Option Activity → Bool → Option Refusal
decided locked behind beyond full = or_else (option_map (λ a. Locked a.id) locked) (or_else (option_map (λ a. Behind a.id) behind) (or_else (option_map (λ a. Beyond a.id) beyond) (full_if full)))

abbrev IsFound : Option Activity → ℕ → Type 0
IsFound o id = (a : Activity) × (o ≡ Some a) × (a.id ≡ id)

abbrev Decides : Option Activity → Option Activity → Option Activity → Bool → Refusal → Type 0
Decides o p q b (Locked id) = IsFound o id
Decides o p q b (Behind id) = (o ≡ None) × IsFound p id
Decides o p q b (Beyond id) = (o ≡ None) × (p ≡ None) × IsFound q id
Decides o p q b Full = (o ≡ None) × (p ≡ None) × (q ≡ None) × (b ≡ true)

why : (o p q : Option Activity) (b : Bool) (r : Refusal) → decided o p q b ≡ Some r → Decides o p q b r
why (Some a) p q b r e = subst (Decides (Some a) p q b) (same_Some (Locked a.id) r e) (a, refl, refl)
why None (Some a) q b r e = subst (Decides None (Some a) q b) (same_Some (Behind a.id) r e) (refl, (a, refl, refl))
why None None (Some a) b r e = subst (Decides None None (Some a) b) (same_Some (Beyond a.id) r e) (refl, refl, (a, refl, refl))
why None None None true r e = subst (Decides None None None true) (same_Some Full r e) (refl, refl, refl, refl)
why None None None false r e = absurd (cc)

so : (o p q : Option Activity) (b : Bool) (r : Refusal) → Decides o p q b r → decided o p q b ≡ Some r
so o p q b (Locked id) is = rw is.1 (ap (λ n. Some (Locked n)) is.2)
so o p q b (Behind id) is = rw (is.0, is.1.1) (ap (λ n. Some (Behind n)) is.1.2)
so o p q b (Beyond id) is = rw (is.0, is.1, is.2.1) (ap (λ n. Some (Beyond n)) is.2.2)
so o p q b Full is = rw (is.0, is.1, is.2, is.3) refl

least : (test : Activity → Bool) (xs : List Activity) → AreRising xs → (id : ℕ) → IsFound (find test xs) id → IsLeast test xs id
least test xs rising id is = subst (λ n. IsLeast test xs n) is.2 (least_found test 0 xs rising is.0 is.1)

pub refused : (s : PlanState) (m : RepairMove) → AreRising s.plan.activities → (r : Refusal) → refusal_of s m ≡ Some r → IsRefused s m r
unfolding refusal_of
refused s m rising r e = by r (why (find (is_locked s m) s.plan.activities) (find (is_behind s) (started_by s m)) (find (is_beyond s) (started_by s m)) (is_full s m) r e)
  where
    starts : AreRising (started_by s m)
    starts = started_rise s m rising

    by : (t : Refusal) → Decides (find (is_locked s m) s.plan.activities) (find (is_behind s) (started_by s m)) (find (is_beyond s) (started_by s m)) (is_full s m) t → IsRefused s m t
    by (Locked id) is = least (is_locked s m) s.plan.activities rising id is
    by (Behind id) is = (none_found (is_locked s m) s.plan.activities is.0, least (is_behind s) (started_by s m) starts id is.1)
    by (Beyond id) is = (none_found (is_locked s m) s.plan.activities is.0, none_found (is_behind s) (started_by s m) is.1, least (is_beyond s) (started_by s m) starts id is.2)
    by Full is = (none_found (is_locked s m) s.plan.activities is.0, none_found (is_behind s) (started_by s m) is.1, none_found (is_beyond s) (started_by s m) is.2, is.3)

pub is_refused : (s : PlanState) (m : RepairMove) → AreRising s.plan.activities → (r : Refusal) → IsRefused s m r → refusal_of s m ≡ Some r
unfolding refusal_of
is_refused s m rising r is = so (find (is_locked s m) s.plan.activities) (find (is_behind s) (started_by s m)) (find (is_beyond s) (started_by s m)) (is_full s m) r (by r is)
  where
    starts : AreRising (started_by s m)
    starts = started_rise s m rising

    by : (t : Refusal) → IsRefused s m t → Decides (find (is_locked s m) s.plan.activities) (find (is_behind s) (started_by s m)) (find (is_beyond s) (started_by s m)) (is_full s m) t
    by (Locked id) is = found_least (is_locked s m) 0 s.plan.activities rising id is
    by (Behind id) is = (found_none (is_locked s m) s.plan.activities is.0, found_least (is_behind s) 0 (started_by s m) starts id is.1)
    by (Beyond id) is = (found_none (is_locked s m) s.plan.activities is.0, found_none (is_behind s) (started_by s m) is.1, found_least (is_beyond s) 0 (started_by s m) starts id is.2)
    by Full is = (found_none (is_locked s m) s.plan.activities is.0, found_none (is_behind s) (started_by s m) is.1, found_none (is_beyond s) (started_by s m) is.2, is.3)
