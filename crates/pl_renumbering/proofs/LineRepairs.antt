-- The moves that are tried for what is wrong with timelines, under new ids.
use Rattle.std.proofs.Common.{◌≡◌, ℕ, eqb, Bool, false, refl, ap, ◌∙◌}
use Rattle.std.specs.Prelude.{◌&&◌, not, pos, map, filter, take}
use Rattle.std.specs.List.{list_any, flat_map}
use Rattle.pl_lists.proofs.Elements.{any_agree}
use Rattle.pl_model.specs.declared.reservations.Point.{Point}
use Rattle.pl_model.specs.declared.reservations.Reservation.{Reservation}
use Rattle.pl_model.specs.declared.reservations.Reservation.TheVariants.{Take, Raise, Lower, Put, Must}
use Rattle.pl_plan.specs.declared.activity.Activity.{Activity}
use Rattle.pl_plan.specs.declared.repair.RepairMove.{RepairMove}
use Rattle.pl_plan.specs.Trees.{IsRooted}
use Rattle.pl_plan.specs.Fitting.{kind_of}
use Rattle.pl_semantics.specs.declared.plan_state.PlanState.{PlanState}
use Rattle.pl_semantics.specs.declared.demand.Demand.{Demand}
use Rattle.pl_semantics.specs.declared.demand.Asked.{Asked}
use Rattle.pl_semantics.specs.declared.demand.Asked.TheVariants as asked
use Rattle.pl_semantics.specs.PlanStates.{is_committed, reservations_in}
use Rattle.pl_semantics.specs.Demands.{demands_at}
use Rattle.pl_semantics.specs.Moves.{holds}
use Rattle.pl_semantics.specs.Starts.{moves_of, helpers}
use Rattle.pl_semantics.specs.LineRepairs.{raises, lowers, sets_state, sets_any, first_eight, is_used_in, takes_in, users_of, around, for_over, counts_below, point_counts, lowers_below, raises_below, for_low, for_high, help_must, help_step, reservation_at, for_must, for_bad_step}
use Rattle.pl_renumbering.specs.Renumbered.{KeepsOrder, renumbered, renumbered_all, renumbered_state, renumbered_move}
use Rattle.pl_renumbering.specs.Carried.{renumbered_asked, renumbered_demand}
use Rattle.pl_renumbering.proofs.Lists.{any_mapped, filter_mapped, flat_mapped, take_mapped, both_mapped}
use Rattle.pl_renumbering.proofs.Pieces.{of_found_along}
use Rattle.pl_renumbering.proofs.Demands.{at_along}
use Rattle.pl_renumbering.proofs.Starts.{shifting_along, moves_along, help_along}
use Rattle.pl_renumbering.proofs.Repairs.{moment_same, end_by_along}

-- a reservation lowers a level, or raises it, at a point that counts
abbrev lowers_by : ℕ → (Point → Bool) → Reservation → Bool
lowers_by line counts (Lower l e point) = eqb l line && counts point
lowers_by line counts _ = false

abbrev raises_by : ℕ → (Point → Bool) → Reservation → Bool
raises_by line counts (Raise l e point) = eqb l line && counts point
raises_by line counts _ = false

lowers_alike : (line : ℕ) (c d : Point → Bool) → ((p : Point) → c p ≡ d p) → (r : Reservation) → lowers_by line c r ≡ lowers_by line d r
lowers_alike line c d same (Lower l e point) = ap (λ b. eqb l line && b) (same point)
lowers_alike line c d same (Take l e) = refl
lowers_alike line c d same (Raise l e point) = refl
lowers_alike line c d same (Put l state point) = refl
lowers_alike line c d same (Must l state) = refl

raises_alike : (line : ℕ) (c d : Point → Bool) → ((p : Point) → c p ≡ d p) → (r : Reservation) → raises_by line c r ≡ raises_by line d r
raises_alike line c d same (Raise l e point) = ap (λ b. eqb l line && b) (same point)
raises_alike line c d same (Take l e) = refl
raises_alike line c d same (Lower l e point) = refl
raises_alike line c d same (Put l state point) = refl
raises_alike line c d same (Must l state) = refl

module _ (f : ℕ → ℕ) (next : ℕ) (s : PlanState) (keeps : KeepsOrder f) (rooted : IsRooted s.plan.activities) where
  abbrev t : PlanState
  t = renumbered_state f next s

  abbrev new : RepairMove → RepairMove
  new = renumbered_move f

  -- ---- the first eight

  eight_along : (p q : Activity → Bool) → ((a : Activity) → p (renumbered f a) ≡ q a) → first_eight t p ≡ renumbered_all f (first_eight s q)
  eight_along p q same =
      ap (take 8) (filter_mapped (renumbered f) (λ a. not (is_committed s a) && p a) (λ a. not (is_committed s a) && q a) (λ a. ap (λ b. not (is_committed s a) && b) (same a)) s.plan.activities)
      ∙ take_mapped (renumbered f) 8 (filter (λ a. not (is_committed s a) && q a) s.plan.activities)

  moves_of_eight : (p q : Activity → Bool) → ((a : Activity) → p (renumbered f a) ≡ q a) → flat_map (moves_of t) (first_eight t p) ≡ map new (flat_map (moves_of s) (first_eight s q))
  moves_of_eight p q same = ap (flat_map (moves_of t)) (eight_along p q same) ∙ flat_mapped (renumbered f) new (moves_of t) (moves_of s) (moves_along f next s keeps rooted) (first_eight s q)

  -- ---- capacities

  used_same : (a b : ℕ) (x : Asked) → is_used_in a b (renumbered_asked f x) ≡ is_used_in a b x
  used_same a b (asked.Use u) = refl
  used_same a b (asked.Effect e) = refl
  used_same a b (asked.Set x) = refl
  used_same a b (asked.Must m) = refl

  takes_same : (line a b : ℕ) (x : Activity) → takes_in t line a b (renumbered f x) ≡ takes_in s line a b x
  takes_same line a b x =
      ap (list_any (λ (d : Demand). eqb d.line line && is_used_in a b d.asked)) (at_along f next s keeps rooted x)
      ∙ any_mapped (renumbered_demand f) (λ d. eqb d.line line && is_used_in a b d.asked) (λ d. eqb d.line line && is_used_in a b d.asked) (λ d. ap (λ c. eqb d.line line && c) (used_same a b d.asked)) (demands_at s x)

  around_along : (a b : ℕ) (user : Activity) → around t a b (renumbered f user) ≡ map new (around s a b user)
  around_along a b user = both_mapped new _ _ _ _ (shifting_along f next s user.id (pos b)) (end_by_along f next s keeps rooted user (pos a))

  pub over_along : (line a b : ℕ) → for_over t line a b ≡ map new (for_over s line a b)
  over_along line a b = both_mapped new _ _ _ _
      (ap (flat_map (around t a b)) (eight_along (takes_in t line a b) (takes_in s line a b) (takes_same line a b)) ∙ flat_mapped (renumbered f) new (around t a b) (around s a b) (around_along a b) (users_of s line a b))
      (moves_of_eight (takes_in t line a b) (takes_in s line a b) (takes_same line a b))

  -- ---- levels

  counts_same : (line b : ℕ) (a : Activity) (point : Point) → point_counts t line b (renumbered f a) point ≡ point_counts s line b a point
  counts_same line b a point = ap (holds (counts_below s line b)) (moment_same f next s keeps rooted point a)

  lowers_same : (line b : ℕ) (a : Activity) → lowers_below t line b (renumbered f a) ≡ lowers_below s line b a
  lowers_same line b a = any_agree (lowers_by line (point_counts t line b (renumbered f a))) (lowers_by line (point_counts s line b a)) (lowers_alike line _ _ (counts_same line b a)) (reservations_in (kind_of s.model a))

  raises_same : (line b : ℕ) (a : Activity) → raises_below t line b (renumbered f a) ≡ raises_below s line b a
  raises_same line b a = any_agree (raises_by line (point_counts t line b (renumbered f a))) (raises_by line (point_counts s line b a)) (raises_alike line _ _ (counts_same line b a)) (reservations_in (kind_of s.model a))

  pub low_along : (line a b : ℕ) → for_low t line a b ≡ map new (for_low s line a b)
  low_along line a b = both_mapped new _ _ _ _ (help_along f next s (helpers s (raises line)) a) (moves_of_eight (lowers_below t line b) (lowers_below s line b) (lowers_same line b))

  pub high_along : (line a b : ℕ) → for_high t line a b ≡ map new (for_high s line a b)
  high_along line a b = both_mapped new _ _ _ _ (help_along f next s (helpers s (lowers line)) a) (moves_of_eight (raises_below t line b) (raises_below s line b) (raises_same line b))

  -- ---- states

  help_must_along : (m : ℕ) (r : Reservation) → help_must t m r ≡ map new (help_must s m r)
  help_must_along m (Must line state) = help_along f next s (helpers s (sets_state line state)) m
  help_must_along m (Take line e) = refl
  help_must_along m (Raise line e point) = refl
  help_must_along m (Lower line e point) = refl
  help_must_along m (Put line state point) = refl

  help_step_along : (m : ℕ) (r : Reservation) → help_step t m r ≡ map new (help_step s m r)
  help_step_along m (Put line state point) = help_along f next s (helpers s (sets_any line)) m
  help_step_along m (Take line e) = refl
  help_step_along m (Raise line e point) = refl
  help_step_along m (Lower line e point) = refl
  help_step_along m (Must line state) = refl

  pub must_along : (a : Activity) (index m : ℕ) → for_must t (renumbered f a) index m ≡ map new (for_must s a index m)
  must_along a index m = both_mapped new _ _ _ _ (of_found_along new (help_must t m) (help_must s m) (help_must_along m) (reservation_at s a index)) (moves_along f next s keeps rooted a)

  pub bad_step_along : (a : Activity) (index m : ℕ) → for_bad_step t (renumbered f a) index m ≡ map new (for_bad_step s a index m)
  bad_step_along a index m = both_mapped new _ _ _ _ (of_found_along new (help_step t m) (help_step s m) (help_step_along m) (reservation_at s a index)) (moves_along f next s keeps rooted a)
