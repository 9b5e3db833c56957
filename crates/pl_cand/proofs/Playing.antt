-- Tests one by one, and activities by their ids.
use Rattle.std.proofs.Common.{◌≡◌, ℕ, zero, suc, ◌≤◌, eqb, Bool, true, false, List, [], ◌∷◌, ◌++◌, length, map, Option, Some, None, IfSome, refl, ap, ◌∙◌, arith}
use Rattle.std.specs.Prelude.{All, slice_index_or, ◌&&◌, ◌||◌, nat_lt, int_lt, pos}
use Rattle.pl_semantics.specs.Activities.{value_in}
use Rattle.std.specs.List.{flat_map, list_any}
use Rattle.std.proofs.lemmas.List.Elements.{All-nil, All-head, All-tail, All-filter, All-take}
use Rattle.std.proofs.Math.Bool.{and-false}
use Rattle.pl_lists.proofs.Elements.{any_agree}
use Rattle.pl_model.specs.declared.expressions.Expr.{Expr}
use Rattle.pl_model.specs.declared.reservations.Point.{Point}
use Rattle.pl_model.specs.declared.reservations.Reservation.{Reservation}
use Rattle.pl_model.specs.declared.reservations.Reservation.TheVariants.{Take, Raise, Lower, Put, Must}
use Rattle.pl_plan.specs.declared.activity.Activity.{Activity}
use Rattle.pl_plan.specs.declared.repair.RepairMove.{RepairMove}
use Rattle.pl_plan.specs.Activities.{activity_of}
use Rattle.pl_plan.specs.Trees.{id_of}
use Rattle.pl_plan.specs.Fitting.{kind_of}
use Rattle.pl_plan.proofs.Kept.{each_found}
use Rattle.pl_semantics.specs.declared.plan_state.PlanState.{PlanState}
use Rattle.pl_semantics.specs.PlanStates.{found, numbered, of_found, reservations_in, row_of, end_at}
use Rattle.pl_semantics.specs.Whole.{IsWhole}
use Rattle.pl_semantics.specs.LineRepairs.{around, takes_in, first_eight}
use Rattle.pl_plan.specs.Values.{Row}
use Rattle.pl_semantics.specs.Demands.{amount_in, asked_for, demands_at}
use Rattle.pl_model.specs.declared.kinds.Kind.{Kind}
use Rattle.pl_model.specs.Values.{NamesBelow}
use Rattle.pl_model.specs.Checked.{params_of}
use Rattle.pl_plan.specs.Firm.{amount_of}
use Rattle.pl_plan.proofs.FirmSteps.{checked_kind, amounts_named}
use Rattle.pl_plan.proofs.ValueLaws.{values_solve}
use Rattle.pl_semantics.specs.Starts.{moves_of}
use Rattle.pl_cand.specs.ById.{around_id, moves_of_id}
use Rattle.pl_cand.specs.Tests.{changes_at, changes_below, may_take, uses_in, is_used_of}
use Rattle.pl_cand.specs.declared.role.Way.{Way}
use Rattle.pl_cand.specs.declared.role.Way.TheVariants as way

-- ---- by the ids

pub by_ids : (s : PlanState) (f : Activity → List RepairMove) (xs : List Activity) → All (λ x. activity_of x.id s.plan.activities ≡ Some x) xs → flat_map (λ id. of_found f (found s id)) (map id_of xs) ≡ flat_map f xs
by_ids s f [] all = refl
by_ids s f (x ∷ xs) all =
    let here : found s x.id ≡ Some x = All-head (λ x. activity_of x.id s.plan.activities ≡ Some x) x xs all in
    let more = by_ids s f xs (All-tail (λ x. activity_of x.id s.plan.activities ≡ Some x) x xs all) in
    rw here (ap (λ l. f x ++ l) more)

pub first_by_ids : (s : PlanState) → IsWhole s → (f : Activity → List RepairMove) (test : Activity → Bool) → flat_map (λ id. of_found f (found s id)) (map id_of (first_eight s test)) ≡ flat_map f (first_eight s test)
first_by_ids s whole f test =
    by_ids s f (first_eight s test)
    (All-take (λ x. activity_of x.id s.plan.activities ≡ Some x) 8 _ (All-filter _ (λ x. activity_of x.id s.plan.activities ≡ Some x) s.plan.activities (each_found s.plan.activities whole.rising)))

pub moves_by_ids : (s : PlanState) → IsWhole s → (test : Activity → Bool) → flat_map (moves_of_id s) (map id_of (first_eight s test)) ≡ flat_map (moves_of s) (first_eight s test)
moves_by_ids s whole test = first_by_ids s whole (moves_of s) test

pub around_by_ids : (s : PlanState) → IsWhole s → (a b : ℕ) (test : Activity → Bool) → flat_map (around_id s a b) (map id_of (first_eight s test)) ≡ flat_map (around s a b) (first_eight s test)
around_by_ids s whole a b test = first_by_ids s whole (around s a b) test

-- ---- one by one

any_by : (f g : Reservation → Bool) → ((l : ℕ) (e : Expr) → f (Take l e) ≡ g (Take l e)) → ((l : ℕ) (e : Expr) (p : Point) → f (Raise l e p) ≡ g (Raise l e p)) → ((l : ℕ) (e : Expr) (p : Point) → f (Lower l e p) ≡ g (Lower l e p)) → ((l state : ℕ) (p : Point) → f (Put l state p) ≡ g (Put l state p)) → ((l state : ℕ) → f (Must l state) ≡ g (Must l state)) → (rs : List Reservation) → list_any f rs ≡ list_any g rs
any_by f g of_take of_raise of_lower of_put of_must rs = any_agree f g each rs
  where
    each : (r : Reservation) → f r ≡ g r
    each (Take l e) = of_take l e
    each (Raise l e p) = of_raise l e p
    each (Lower l e p) = of_lower l e p
    each (Put l state p) = of_put l state p
    each (Must l state) = of_must l state

pub changes_any : (w : Way) (s : PlanState) (line b : ℕ) (a : Activity) → changes_below w s line b a ≡ list_any (changes_at w s line b a) (reservations_in (kind_of s.model a))
changes_any way.Down s line b a = any_by _ (changes_at way.Down s line b a) (λ l e. refl) (λ l e p. refl) (λ l e p. refl) (λ l state p. refl) (λ l state. refl) (reservations_in (kind_of s.model a))
changes_any way.Up s line b a = any_by _ (changes_at way.Up s line b a) (λ l e. refl) (λ l e p. refl) (λ l e p. refl) (λ l state p. refl) (λ l state. refl) (reservations_in (kind_of s.model a))

-- what one reservation asks for is used in a span where the reservation uses it
module _ (line a b id start end : ℕ) (values : Row) where
  pub use_one : (n : ℕ) (r : Reservation) → is_used_of line a b (asked_for id start end values (n, r)) ≡ uses_in line a b start end values r
  use_one n (Take l e) = refl
  use_one n (Raise l e p) = and-false (eqb l line)
  use_one n (Lower l e p) = and-false (eqb l line)
  use_one n (Put l state p) = and-false (eqb l line)
  use_one n (Must l state) = and-false (eqb l line)

  pub use_any : (n : ℕ) (rs : List Reservation) → list_any (is_used_of line a b) (map (asked_for id start end values) (numbered n rs)) ≡ list_any (uses_in line a b start end values) rs
  use_any n [] = refl
  use_any n (r ∷ rs) = ap (λ t. t || list_any (is_used_of line a b) (map (asked_for id start end values) (numbered (suc n) rs))) (use_one n r) ∙ ap (λ t. uses_in line a b start end values r || t) (use_any (suc n) rs)

-- ---- what an activity takes

pub takes_some : (s : PlanState) (line a b : ℕ) (x : Activity) (end : ℕ) → end_at s x ≡ Some end → takes_in s line a b x ≡ list_any (uses_in line a b x.start end (row_of s x)) (reservations_in (kind_of s.model x))
unfolding demands_at
takes_some s line a b x end e = rw e (use_any line a b x.id x.start end (row_of s x) 0 (reservations_in (kind_of s.model x)))

pub takes_none : (s : PlanState) (line a b : ℕ) (x : Activity) → end_at s x ≡ None → takes_in s line a b x ≡ false
unfolding demands_at
takes_none s line a b x e = rw e refl

-- one that may not take of it takes nothing
takes_not : (line a b start end : ℕ) (values : Row) (rs : List Reservation) → list_any (may_take line b start) rs ≡ false → list_any (uses_in line a b start end values) rs ≡ false
takes_not line a b start end values [] none = refl
takes_not line a b start end values (r ∷ rs) none = cases (may_take line b start r) refl none (takes_not line a b start end values rs)
  where
    no_use : (r : Reservation) → may_take line b start r ≡ false → uses_in line a b start end values r ≡ false
    no_use (Take l e) not_so = both (eqb l line) (int_lt (pos 0) (amount_in values e)) (nat_lt start b) (nat_lt a end) not_so
      where
        both : (one amount before after : Bool) → (one && before) ≡ false → (one && (amount && (before && after))) ≡ false
        both false amount before after not_so = refl
        both true false before after not_so = refl
        both true true false after not_so = refl
        both true true true after not_so = absurd (cc)
    no_use (Raise l e point) not_so = refl
    no_use (Lower l e point) not_so = refl
    no_use (Put l state point) not_so = refl
    no_use (Must l state) not_so = refl

    cases : (m : Bool) → may_take line b start r ≡ m → (m || list_any (may_take line b start) rs) ≡ false → (list_any (may_take line b start) rs ≡ false → list_any (uses_in line a b start end values) rs ≡ false) → list_any (uses_in line a b start end values) (r ∷ rs) ≡ false
    cases true e not_so more = absurd (cc)
    cases false e not_so more = rw (no_use r e) (more not_so)

pub takes_never : (s : PlanState) (line a b : ℕ) (x : Activity) → list_any (may_take line b x.start) (reservations_in (kind_of s.model x)) ≡ false → takes_in s line a b x ≡ false
takes_never s line a b x none = by (end_at s x) refl
  where
    by : (o : Option ℕ) → end_at s x ≡ o → takes_in s line a b x ≡ false
    by None e = takes_none s line a b x e
    by (Some end) e = takes_some s line a b x end e ∙ takes_not line a b x.start end (row_of s x) (reservations_in (kind_of s.model x)) none

pub amounts_here : (s : PlanState) → IsWhole s → (a : Activity) → activity_of a.id s.plan.activities ≡ Some a → All (λ r. IfSome (amount_of r) (NamesBelow (length (row_of s a)))) (reservations_in (kind_of s.model a))
amounts_here s whole a live = cases (kind_of s.model a) refl
  where
    len : length (row_of s a) ≡ length (params_of (kind_of s.model a))
    len = (values_solve s.model s.plan.activities whole.checked whole.fits.rooted).places a.id a live

    cases : (o : Option Kind) → kind_of s.model a ≡ o → All (λ r. IfSome (amount_of r) (NamesBelow (length (row_of s a)))) (reservations_in (kind_of s.model a))
    cases None e = rw e (All-nil (λ r. IfSome (amount_of r) (NamesBelow (length (row_of s a)))))
    cases (Some k) e = let same : length (row_of s a) ≡ length k.params = len ∙ ap (λ o. length (params_of o)) e in rw e (amounts_named s.model k (checked_kind s.model whole.checked a.kind k e) (length (row_of s a)) same)

-- past the parameters no value stands
pub no_value : (s : PlanState) → IsWhole s → (a : Activity) → activity_of a.id s.plan.activities ≡ Some a → (n : ℕ) → length (params_of (kind_of s.model a)) ≤ n → value_in s a n ≡ None
no_value s whole a live n past = beyond (row_of s a) n (omega (arith, len, past))
  where
    len : length (row_of s a) ≡ length (params_of (kind_of s.model a))
    len = (values_solve s.model s.plan.activities whole.checked whole.fits.rooted).places a.id a live

    beyond : (row : Row) (i : ℕ) → length row ≤ i → slice_index_or row i None ≡ None
    beyond [] i le = refl
    beyond (v ∷ row) zero le = absurd (omega (arith, le))
    beyond (v ∷ row) (suc i) le = beyond row i (omega (arith, le))
