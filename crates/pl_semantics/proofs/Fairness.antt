-- Each start that a candidate gives lies from 1 to one before the horizon.
use Rattle.std.proofs.Common.{◌≡◌, ℕ, ◌≤◌, ◌<◌, Bool, true, false, cond, List, [], ◌∷◌, ◌++◌, refl}
use Rattle.std.specs.Prelude.{All, map, filter, nat_lt, nat_le, ◌==◌, ◌&&◌, ℤ, pos, negsuc, ◌+ℤ◌, ◌-ℤ◌, Option, Some, None, slice_get}
use Rattle.std.specs.Int.{int_min, int_max}
use Rattle.std.specs.List.{flat_map}
use Rattle.std.proofs.lemmas.Bool.{leb-true, ltb-true, and_parts}
use Rattle.std.proofs.lemmas.List.Elements.{All-nil, All-cons, All-append, All-map, All-filter, All-take}
use Rattle.pl_conflict.specs.declared.conflict.Conflict.{Conflict}
use Rattle.pl_conflict.specs.declared.conflict.Code.{Code}
use Rattle.pl_conflict.specs.declared.conflict.Code.TheVariants as code
use Rattle.pl_facts.specs.declared.goal.Goal.{Goal}
use Rattle.pl_model.specs.declared.alternatives.Order.{Order}
use Rattle.pl_model.specs.declared.kinds.Kind.{Kind}
use Rattle.pl_model.specs.declared.links.Link.{Link}
use Rattle.pl_model.specs.declared.parameters.Param.{Param}
use Rattle.pl_model.specs.declared.reservations.Reservation.{Reservation}
use Rattle.pl_model.specs.declared.reservations.Reservation.TheVariants as reservation
use Rattle.pl_links.specs.Broken.{moment_of, links_of}
use Rattle.pl_plan.specs.declared.activity.Activity.{Activity}
use Rattle.pl_plan.specs.declared.repair.RepairMove.{RepairMove}
use Rattle.pl_plan.specs.declared.repair.RepairMove.TheVariants.{Add, Detail, Abstract, Assign, Drop}
use Rattle.pl_semantics.specs.declared.plan_state.PlanState.{PlanState}
use Rattle.pl_semantics.specs.PlanStates.{found, goal_at, end_at, numbered, of_found}
use Rattle.pl_semantics.specs.Activities.{params_at, bindings_of}
use Rattle.pl_semantics.specs.Links.{placed_of, order_at, place_in}
use Rattle.pl_semantics.specs.Moves.{is_free, alternatives_at}
use Rattle.pl_semantics.specs.Starts.{spread, starting, last_of, floor_at, places_of, shift_to, shifts_of, above_it, delete_root, moves_of, helpers, adds_of, help_until}
use Rattle.pl_semantics.specs.Repairs.{for_goal, assigns, assigns_one, for_unset, all_assigns, parent_at, for_bad_value, for_undetailed, end_by, for_overrun, partner_start, least_of, kind_at, partners_from, partners_at, partners_for, for_temporal, shift_one, order_shifts, shifts_apart, shifts_between, for_order, for_linked}
use Rattle.pl_semantics.specs.LineRepairs.{raises, lowers, sets_state, sets_any, first_eight, users_of, around, for_over, lowers_below, raises_below, for_low, for_high, help_must, help_step, reservation_at, for_must, for_bad_step}
use Rattle.pl_semantics.specs.Candidates.{tried_for, is_worth, once_from, candidates_of, StartsWithin}
use Rattle.pl_semantics.proofs.Sifting.{once_keeps}

module _ (s : PlanState) where
  abbrev Are : List RepairMove → Type 0
  Are ms = All (StartsWithin s) ms

  none : Are []
  none = All-nil (StartsWithin s)

  one : (m : RepairMove) → StartsWithin s m → Are (m ∷ [])
  one m fair = All-cons (StartsWithin s) m [] fair none

  both : (xs ys : List RepairMove) → Are xs → Are ys → Are (xs ++ ys)
  both xs ys left right = All-append (StartsWithin s) xs ys left right

  each : {X : Type 0} (f : X → List RepairMove) (xs : List X) → ((x : X) → Are (f x)) → Are (flat_map f xs)
  each f [] fair = none
  each f (x ∷ xs) fair = both (f x) (flat_map f xs) (fair x) (each f xs fair)

  found_fair : {X : Type 0} (f : X → List RepairMove) (o : Option X) → ((x : X) → Are (f x)) → Are (of_found f o)
  found_fair f None fair = none
  found_fair f (Some x) fair = fair x

  started : (make : ℕ → RepairMove) → ((n : ℕ) → 1 ≤ n → n < s.model.horizon → StartsWithin s (make n)) → (v : ℤ) → Are (starting s make v)
  started make fair (negsuc n) = none
  started make fair (pos n) = by (nat_le 1 n && nat_lt n s.model.horizon) refl
    where
      by : (b : Bool) → (nat_le 1 n && nat_lt n s.model.horizon) ≡ b → Are (cond b (make n ∷ []) [])
      by true e = let within : (nat_le 1 n ≡ true) × (nat_lt n s.model.horizon ≡ true) = and_parts (nat_le 1 n) (nat_lt n s.model.horizon) e in one (make n) (fair n (leb-true 1 n within.0) (ltb-true n s.model.horizon within.1))
      by false e = none

  shift_fair : (id : ℕ) (v : ℤ) → Are (starting s (shift_to id) v)
  shift_fair id v = started (shift_to id) (λ n from to. (from, to)) v

  adds_fair : (starts : List ℤ) (kind : ℕ) → Are (adds_of s starts kind)
  adds_fair starts kind = each (starting s (λ start. Add kind start None)) starts (started (λ start. Add kind start None) (λ n from to. (from, to)))

  shifts_fair : (a : Activity) → Are (shifts_of s a)
  shifts_fair a = each (starting s (shift_to a.id)) (places_of s a) (shift_fair a.id)

  moves_fair : (a : Activity) → Are (moves_of s a)
  unfolding moves_of
  moves_fair a = both (shifts_of s a ++ of_found (shifts_of s) (above_it s a)) (delete_root s a) (both (shifts_of s a) (of_found (shifts_of s) (above_it s a)) (shifts_fair a) (found_fair (shifts_of s) (above_it s a) shifts_fair)) (one _ tt)

  help_fair : (kinds : List (ℕ × Kind)) (m : ℕ) → Are (help_until s kinds m)
  help_fair kinds m = each (λ k. adds_of s (spread (floor_at s) (int_max (floor_at s) (int_min (pos m) (last_of s)))) k.0) kinds (λ k. adds_fair (spread (floor_at s) (int_max (floor_at s) (int_min (pos m) (last_of s)))) k.0)

  assigns_fair : (id : ℕ) (p : ℕ × Param) → Are (assigns id p)
  assigns_fair id p = All-map (StartsWithin s) (λ v. Assign id p.0 v) (spread p.1.low p.1.high) (λ k d lt. tt)

  one_fair : (a : Activity) (n : ℕ) (p : ℕ × Param) → Are (assigns_one a n p)
  one_fair a n p = by (p.0 == n)
    where
      by : (b : Bool) → Are (cond b (assigns a.id p) [])
      by true = assigns_fair a.id p
      by false = none

  all_fair : (a : Activity) → Are (all_assigns s a)
  all_fair a = each (assigns a.id) (filter (is_free (bindings_of s a)) (params_at s a)) (assigns_fair a.id)

  end_fair : (a : Activity) (moment : ℤ) → Are (end_by s a moment)
  end_fair a moment = found_fair (λ end. starting s (shift_to a.id) (moment -ℤ (pos end -ℤ pos a.start))) (end_at s a) (λ end. shift_fair a.id (moment -ℤ (pos end -ℤ pos a.start)))

  goal_fair : (g : Goal) → Are (for_goal s g)
  goal_fair g = both (flat_map (starting s (λ start. Add g.kind start (Some g.number))) (spread (int_max (pos g.earliest) (floor_at s)) (int_min (pos g.latest) (last_of s)))) (Drop g.number ∷ [])
      (each (starting s (λ start. Add g.kind start (Some g.number))) (spread (int_max (pos g.earliest) (floor_at s)) (int_min (pos g.latest) (last_of s))) (started (λ start. Add g.kind start (Some g.number)) (λ n from to. (from, to)))) (one _ tt)

  unset_fair : (a : Activity) (n : ℕ) → Are (for_unset s a n)
  unset_fair a n = both (flat_map (assigns_one a n) (params_at s a)) (delete_root s a) (each (assigns_one a n) (params_at s a) (one_fair a n)) (one _ tt)

  value_fair : (a : Activity) → Are (for_bad_value s a)
  value_fair a = both (all_assigns s a ++ of_found (all_assigns s) (parent_at s a)) (delete_root s a) (both (all_assigns s a) (of_found (all_assigns s) (parent_at s a)) (all_fair a) (found_fair (all_assigns s) (parent_at s a) all_fair)) (one _ tt)

  detail_fair : (a : Activity) → Are (for_undetailed s a)
  detail_fair a = both (map (λ k. Detail a.id k.0) (numbered 0 (alternatives_at s a))) (delete_root s a) (All-map (StartsWithin s) (λ k. Detail a.id k.0) (numbered 0 (alternatives_at s a)) (λ k d lt. tt)) (one _ tt)

  overrun_fair : (a : Activity) → Are (for_overrun s a)
  overrun_fair a = both (end_by s a (pos s.model.horizon)) (moves_of s a) (end_fair a (pos s.model.horizon)) (moves_fair a)

  partner_fair : (l : Link) (p : ℤ) → Are (partners_from s l p)
  partner_fair l p = adds_fair (spread (int_max (floor_at s) (p +ℤ l.low)) (int_min (last_of s) (p +ℤ l.high))) l.kind

  temporal_fair : (a : Activity) (index : ℕ) → Are (for_temporal s a index)
  temporal_fair a index = both (of_found (partners_for s a) (slice_get (links_of s.model (placed_of s a)) index)) (moves_of s a)
      (found_fair (partners_for s a) (slice_get (links_of s.model (placed_of s a)) index) (λ l. found_fair (partners_at s l) (moment_of l.mine (placed_of s a)) (λ own. partner_fair l (partner_start (pos own) l.theirs (least_of (kind_at s l.kind)))))) (moves_fair a)

  one_shift_fair : (slot : Option ℕ) (a : Activity) (to : ℤ) → Are (shift_one s slot a to)
  one_shift_fair None a to = none
  one_shift_fair (Some slot) a to = shift_fair a.id to

  order_fair : (o : Order) (first second : Activity) (apart : ℤ) → Are (order_shifts s o first second apart)
  order_fair o first second apart =
      both (shift_one s o.second second ((pos second.start +ℤ o.low) -ℤ apart) ++ shift_one s o.second second ((pos second.start +ℤ o.high) -ℤ apart) ++ shift_one s o.first first ((pos first.start +ℤ apart) -ℤ o.low)) (shift_one s o.first first ((pos first.start +ℤ apart) -ℤ o.high))
      (both (shift_one s o.second second ((pos second.start +ℤ o.low) -ℤ apart) ++ shift_one s o.second second ((pos second.start +ℤ o.high) -ℤ apart)) (shift_one s o.first first ((pos first.start +ℤ apart) -ℤ o.low))
      (both (shift_one s o.second second ((pos second.start +ℤ o.low) -ℤ apart)) (shift_one s o.second second ((pos second.start +ℤ o.high) -ℤ apart)) (one_shift_fair o.second second ((pos second.start +ℤ o.low) -ℤ apart)) (one_shift_fair o.second second ((pos second.start +ℤ o.high) -ℤ apart)))
      (one_shift_fair o.first first ((pos first.start +ℤ apart) -ℤ o.low))) (one_shift_fair o.first first ((pos first.start +ℤ apart) -ℤ o.high))

  apart_fair : (o : Order) (first second : Activity) (p q : Option ℕ) → Are (shifts_apart s o first second p q)
  apart_fair o first second (Some x) (Some y) = order_fair o first second (pos y -ℤ pos x)
  apart_fair o first second (Some x) None = none
  apart_fair o first second None y = none

  between_fair : (o : Order) (p q : Option Activity) → Are (shifts_between s o p q)
  between_fair o (Some first) (Some second) = apart_fair o first second (moment_of o.first_end (placed_of s first)) (moment_of o.second_end (placed_of s second))
  between_fair o (Some first) None = none
  between_fair o None second = none

  linked_fair : (a : Activity) (index : ℕ) → Are (for_linked s a index)
  linked_fair a index = both (of_found (for_order s a) (order_at s a index)) (Abstract a.id ∷ moves_of s a)
      (found_fair (for_order s a) (order_at s a index) (λ o. between_fair o (place_in s a o.first) (place_in s a o.second)))
      (All-cons (StartsWithin s) (Abstract a.id) (moves_of s a) tt (moves_fair a))

  over_fair : (line a b : ℕ) → Are (for_over s line a b)
  over_fair line a b = both (flat_map (around s a b) (users_of s line a b)) (flat_map (moves_of s) (users_of s line a b))
      (each (around s a b) (users_of s line a b) (λ user. both (starting s (shift_to user.id) (pos b)) (end_by s user (pos a)) (shift_fair user.id (pos b)) (end_fair user (pos a))))
      (each (moves_of s) (users_of s line a b) moves_fair)

  low_fair : (line a b : ℕ) → Are (for_low s line a b)
  low_fair line a b = both (help_until s (helpers s (raises line)) a) (flat_map (moves_of s) (first_eight s (lowers_below s line b))) (help_fair (helpers s (raises line)) a) (each (moves_of s) (first_eight s (lowers_below s line b)) moves_fair)

  high_fair : (line a b : ℕ) → Are (for_high s line a b)
  high_fair line a b = both (help_until s (helpers s (lowers line)) a) (flat_map (moves_of s) (first_eight s (raises_below s line b))) (help_fair (helpers s (lowers line)) a) (each (moves_of s) (first_eight s (raises_below s line b)) moves_fair)

  help_must_fair : (m : ℕ) (r : Reservation) → Are (help_must s m r)
  help_must_fair m (reservation.Take line e) = none
  help_must_fair m (reservation.Raise line e point) = none
  help_must_fair m (reservation.Lower line e point) = none
  help_must_fair m (reservation.Put line state point) = none
  help_must_fair m (reservation.Must line state) = help_fair (helpers s (sets_state line state)) m

  help_step_fair : (m : ℕ) (r : Reservation) → Are (help_step s m r)
  help_step_fair m (reservation.Take line e) = none
  help_step_fair m (reservation.Raise line e point) = none
  help_step_fair m (reservation.Lower line e point) = none
  help_step_fair m (reservation.Put line state point) = help_fair (helpers s (sets_any line)) m
  help_step_fair m (reservation.Must line state) = none

  must_fair : (a : Activity) (index m : ℕ) → Are (for_must s a index m)
  must_fair a index m = both (of_found (help_must s m) (reservation_at s a index)) (moves_of s a) (found_fair (help_must s m) (reservation_at s a index) (help_must_fair m)) (moves_fair a)

  step_fair : (a : Activity) (index m : ℕ) → Are (for_bad_step s a index m)
  step_fair a index m = both (of_found (help_step s m) (reservation_at s a index)) (moves_of s a) (found_fair (help_step s m) (reservation_at s a index) (help_step_fair m)) (moves_fair a)

  tried_fair : (k : Conflict) (c : Code) → Are (tried_for s k c)
  tried_fair k code.OpenGoal = found_fair (for_goal s) (goal_at s k.subject) goal_fair
  tried_fair k code.OffGoal = found_fair (moves_of s) (found s k.subject) moves_fair
  tried_fair k code.Late = found_fair (moves_of s) (found s k.subject) moves_fair
  tried_fair k code.Unset = found_fair (λ a. for_unset s a k.detail) (found s k.subject) (λ a. unset_fair a k.detail)
  tried_fair k code.BadValue = found_fair (for_bad_value s) (found s k.subject) value_fair
  tried_fair k code.Undetailed = found_fair (for_undetailed s) (found s k.subject) detail_fair
  tried_fair k code.Overrun = found_fair (for_overrun s) (found s k.subject) overrun_fair
  tried_fair k code.Temporal = found_fair (λ a. for_temporal s a k.detail) (found s k.subject) (λ a. temporal_fair a k.detail)
  tried_fair k code.Linked = found_fair (λ a. for_linked s a k.detail) (found s k.subject) (λ a. linked_fair a k.detail)
  tried_fair k code.Over = over_fair k.subject k.a k.b
  tried_fair k code.Low = low_fair k.subject k.a k.b
  tried_fair k code.High = high_fair k.subject k.a k.b
  tried_fair k code.Must = found_fair (λ a. for_must s a k.detail k.a) (found s k.subject) (λ a. must_fair a k.detail k.a)
  tried_fair k code.BadStep = found_fair (λ a. for_bad_step s a k.detail k.a) (found s k.subject) (λ a. step_fair a k.detail k.a)

  pub fair : (k : Conflict) → All (StartsWithin s) (candidates_of s k)
  unfolding candidates_of
  fair k = All-take (StartsWithin s) 256 (once_from [] (filter (is_worth s) (tried_for s k k.code))) (once_keeps (StartsWithin s) [] (filter (is_worth s) (tried_for s k k.code)) (All-filter (is_worth s) (StartsWithin s) (tried_for s k k.code) (tried_fair k k.code)))
