-- A base of the moment -1 is as one of 0, since nothing lies before 1.
use Rattle.std.proofs.Common.{◌≡◌, ℕ, ◌+◌, ◌<◌, ◌≤◌, eqb, Bool, true, false, cond, List, [], ◌∷◌, refl, ap, subst, arith}
use Rattle.std.specs.Prelude.{All, nat_lt, nat_le, ◌&&◌, ℤ, pos, negsuc, ◌+ℤ◌, int_lt, Option, Some, None, IfSome, unwrap_or, option_and_then}
use Rattle.std.specs.Option.{option_map}
use Rattle.std.specs.List.{flat_map}
use Rattle.std.proofs.lemmas.Bool.{lt-ltb}
use Rattle.std.proofs.lemmas.Int.{ints}
use Rattle.std.proofs.lemmas.List.Elements.{All-nil, All-cons, All-head, All-tail, All-append, All-map}
use Rattle.std.proofs.lemmas.Option.{same_Some}
use Rattle.pl_facts.specs.Bases.{base_of}
use Rattle.pl_model.specs.declared.kinds.Kind.{Kind}
use Rattle.pl_model.specs.declared.whole.Model.{Model}
use Rattle.pl_model.specs.declared.reservations.Point.{Point}
use Rattle.pl_model.specs.declared.reservations.Point.TheVariants.{Start, End}
use Rattle.pl_model.specs.declared.reservations.Reservation.{Reservation}
use Rattle.pl_model.specs.declared.reservations.Reservation.TheVariants as reservation
use Rattle.pl_links.specs.Broken.{point_of}
use Rattle.pl_points.specs.Sums.{total}
use Rattle.pl_level.specs.declared.reservation.Effect.{Effect}
use Rattle.pl_level.specs.Effects.{counted}
use Rattle.pl_state.specs.declared.reservation.Setting.{Setting}
use Rattle.pl_state.specs.Sets.{set_before, with_set, state_from}
use Rattle.pl_plan.specs.declared.activity.Activity.{Activity}
use Rattle.pl_plan.specs.Activities.{activity_of}
use Rattle.pl_plan.specs.Fitting.{kind_of}
use Rattle.pl_plan.specs.Values.{Row, values_of}
use Rattle.pl_plan.specs.Firm.{is_firm_with, duration_in, end_with, end_in, end_of}
use Rattle.pl_semantics.specs.declared.plan_state.PlanState.{PlanState}
use Rattle.pl_semantics.specs.declared.demand.Demand.{Demand}
use Rattle.pl_semantics.specs.declared.demand.Asked.{Asked}
use Rattle.pl_semantics.specs.declared.demand.Asked.TheVariants as asked
use Rattle.pl_semantics.specs.PlanStates.{row_of, end_at, reservations_of, natural, of_found}
use Rattle.pl_semantics.specs.Demands.{asked_for, demands_until, demands_at, demands_of, asked_of, effect_in, set_in, effects_of, sets_of, moment_of_base, told, level_at, state_at}
use Rattle.pl_semantics.specs.Telemetry.{IsBehindZero, first_moment, moment_told, told_at, counted_after, state_after}
use Rattle.pl_semantics.proofs.Naming.{all_in, all_fold, all_asked}

-- ---- ends

found_started : (id : ℕ) (xs : List Activity) (a : Activity) → All IsBehindZero xs → activity_of id xs ≡ Some a → IsBehindZero a
found_started id [] a all is = absurd (cc)
found_started id (x ∷ xs) a all is = by (eqb x.id id) refl (found_started id xs a (All-tail IsBehindZero x xs all))
  where
    some : (y : Activity) → Some y ≡ Some a → y ≡ a
    some y e = cc

    by : (b : Bool) → eqb x.id id ≡ b → (activity_of id xs ≡ Some a → IsBehindZero a) → IsBehindZero a
    by true e more = let same : x ≡ a = some x (rw e at is) in subst IsBehindZero same (All-head IsBehindZero x xs all)
    by false e more = more (rw e at is)

ends_with : (horizon : ℕ) (k : Kind) (start : ℕ) (measured : Option ℕ) (values : Row) (end : ℕ) → 1 ≤ start → IfSome measured (λ m. start < m) → end_with horizon k start measured values ≡ Some end → 1 ≤ end
ends_with horizon k start measured values end le behind is = by (is_firm_with horizon k values) (duration_in horizon k values) measured behind is
  where
    by : (b : Bool) (o m : Option ℕ) → IfSome m (λ n. start < n) → cond b (option_map (λ d. unwrap_or m (start + d)) o) None ≡ Some end → 1 ≤ end
    by true (Some d) None h e = let same : start + d ≡ end = same_Some (start + d) end e in omega (arith, le, same)
    by true (Some d) (Some n) h e = let same : n ≡ end = same_Some n end e in omega (arith, h, same)
    by true None m h e = absurd (cc)
    by false o m h e = absurd (cc)

ends_in : (model : Model) (o : Option Activity) (values : Row) (end : ℕ) → ((a : Activity) → o ≡ Some a → IsBehindZero a) → end_in model o values ≡ Some end → 1 ≤ end
ends_in model None values end started is = absurd (cc)
ends_in model (Some a) values end started is = by (kind_of model a) is
  where
    by : (o : Option Kind) → option_and_then (λ k. end_with model.horizon k a.start a.measured values) o ≡ Some end → 1 ≤ end
    by None e = absurd (cc)
    by (Some k) e = let behind = started a refl in ends_with model.horizon k a.start a.measured values end behind.0 behind.1 e

ended : (model : Model) (xs : List Activity) (id end : ℕ) → All IsBehindZero xs → end_of model xs id ≡ Some end → 1 ≤ end
unfolding end_of
ended model xs id end all is = ends_in model (activity_of id xs) (values_of model xs id) end (λ a e. found_started id xs a all e) is

-- ---- demands

abbrev IsLater : Demand → Type 0
IsLater d = 1 ≤ first_moment d.asked

point_later : (point : Point) (start end : ℕ) → 1 ≤ start → 1 ≤ end → 1 ≤ point_of point start end
point_later Start start end s e = s
point_later End start end s e = e

asked_later : (s : PlanState) (a : Activity) (end : ℕ) (p : ℕ × Reservation) → 1 ≤ a.start → 1 ≤ end → IsLater (asked_for a.id a.start end (row_of s a) p)
asked_later s a end (n, reservation.Take line e) from to = from
asked_later s a end (n, reservation.Raise line e point) from to = point_later point a.start end from to
asked_later s a end (n, reservation.Lower line e point) from to = point_later point a.start end from to
asked_later s a end (n, reservation.Put line state point) from to = point_later point a.start end from to
asked_later s a end (n, reservation.Must line state) from to = from

later_of : (s : PlanState) (a : Activity) → All IsBehindZero s.plan.activities → 1 ≤ a.start → All IsLater (demands_at s a)
unfolding demands_at
later_of s a all from = by (end_at s a) refl
  where
    by : (o : Option ℕ) → end_at s a ≡ o → All IsLater (of_found (demands_until s a) o)
    by None e = All-nil IsLater
    by (Some end) e = All-map IsLater (asked_for a.id a.start end (row_of s a)) (reservations_of s a) (λ k d lt. asked_later s a end _ from (ended s.model s.plan.activities a.id end all e))

later_all : (s : PlanState) → All IsBehindZero s.plan.activities → (xs : List Activity) → All IsBehindZero xs → All IsLater (flat_map (demands_at s) xs)
later_all s all [] each = All-nil IsLater
later_all s all (a ∷ xs) each = All-append IsLater (demands_at s a) (flat_map (demands_at s) xs) (later_of s a all (All-head IsBehindZero a xs each).0) (later_all s all xs (All-tail IsBehindZero a xs each))

pub later : (s : PlanState) → All IsBehindZero s.plan.activities → All (λ d. 1 ≤ first_moment d.asked) (demands_of s)
later s all = later_all s all s.plan.activities all

-- ---- bases

after : (base : Option (ℤ × ℤ)) (at : ℕ) → 1 ≤ at → nat_lt (moment_of_base base) at ≡ int_lt (moment_told base) (pos at)
after None at le = rw (lt-ltb 0 at le) refl
after (Some (pos n, v)) at le = grind (arith, ints)
after (Some (negsuc n, v)) at le = rw (lt-ltb 0 at le) refl

-- ---- levels

abbrev IsEffectLater : Effect → Type 0
IsEffectLater e = 1 ≤ e.at

effect_later : (named : ℕ) (w : Asked) → 1 ≤ first_moment w → All IsEffectLater (effect_in w)
effect_later named (asked.Use u) le = All-nil IsEffectLater
effect_later named (asked.Effect e) le = All-cons IsEffectLater e [] le (All-nil IsEffectLater)
effect_later named (asked.Set x) le = All-nil IsEffectLater
effect_later named (asked.Must m) le = All-nil IsEffectLater

effects_later : (s : PlanState) (line : ℕ) → All IsBehindZero s.plan.activities → All IsEffectLater (effects_of line (demands_of s))
effects_later s line all = all_asked IsEffectLater (λ n w. 1 ≤ first_moment w) line effect_in (λ n w le same. effect_later n w le) (demands_of s) (later s all)

total_same : (base : Option (ℤ × ℤ)) (t : ℕ) (es : List Effect) → All IsEffectLater es → total (counted (moment_of_base base) t) es ≡ total (counted_after (moment_told base) t) es
total_same base t [] all = refl
total_same base t (e ∷ es) all = rw (after base e.at (All-head IsEffectLater e es all), total_same base t es (All-tail IsEffectLater e es all)) refl

pub level_told : (s : PlanState) → All IsBehindZero s.plan.activities → (line t : ℕ) → level_at s line t ≡ told s line +ℤ total (counted_after (told_at s line) t) (effects_of line (demands_of s))
unfolding level_at
level_told s all line t = ap (λ z. told s line +ℤ z) (total_same (base_of line s.bases) t (effects_of line (demands_of s)) (effects_later s line all))

-- ---- states

abbrev IsSetLater : Setting → Type 0
IsSetLater x = 1 ≤ x.at

set_later : (named : ℕ) (w : Asked) → 1 ≤ first_moment w → All IsSetLater (set_in w)
set_later named (asked.Use u) le = All-nil IsSetLater
set_later named (asked.Effect e) le = All-nil IsSetLater
set_later named (asked.Set x) le = All-cons IsSetLater x [] le (All-nil IsSetLater)
set_later named (asked.Must m) le = All-nil IsSetLater

sets_later : (s : PlanState) (line : ℕ) → All IsBehindZero s.plan.activities → All IsSetLater (sets_of line (demands_of s))
sets_later s line all = all_fold IsSetLater (λ sorted x. with_set x sorted) (λ ys x here rest. all_in IsSetLater (set_before x) x ys here rest) (flat_map (asked_of set_in line) (demands_of s)) []
    (all_asked IsSetLater (λ n w. 1 ≤ first_moment w) line set_in (λ n w le same. set_later n w le) (demands_of s) (later s all)) (All-nil IsSetLater)

state_same : (base : Option (ℤ × ℤ)) (t state : ℕ) (xs : List Setting) → All IsSetLater xs → state_from (moment_of_base base) t state xs ≡ state_after (moment_told base) t state xs
state_same base t state [] all = refl
state_same base t state (x ∷ xs) all = rw (after base x.at (All-head IsSetLater x xs all)) (state_same base t (cond (int_lt (moment_told base) (pos x.at) && nat_le x.at t) x.state state) xs (All-tail IsSetLater x xs all))

pub state_told : (s : PlanState) → All IsBehindZero s.plan.activities → (line t : ℕ) → state_at s line t ≡ state_after (told_at s line) t (natural (told s line)) (sets_of line (demands_of s))
unfolding state_at
state_told s all line t = state_same (base_of line s.bases) t (natural (told s line)) (sets_of line (demands_of s)) (sets_later s line all)
