-- The network of a plan is well formed.
use Rattle.std.proofs.Common.{◌≡◌, ℕ, ◌+◌, ◌-◌, ◌*◌, ◌<◌, ◌≤◌, ℤ, pos, negsuc, ◌≤ℤ◌, [], ◌∷◌, length, get_or, max, Option, Some, None, refl, subst, arith}
use Rattle.std.specs.Prelude.{All, IfSome, neg_ℤ, ◌==◌}
use Rattle.std.specs.List.{flat_map}
use Rattle.std.proofs.lemmas.Bool.{cond_both}
use Rattle.std.proofs.lemmas.Int.{ints}
use Rattle.std.proofs.lemmas.List.Elements.{All-nil, All-cons, All-append, All-weaker, Contains-append_left}
use Rattle.pl_lists.proofs.Elements.{all_flat}
use Rattle.pl_stn.specs.declared.net.Edge.{Edge}
use Rattle.pl_stn.specs.Nets.{IsWellFormed, edges_to_origin}
use Rattle.pl_stn.proofs.Additions.{well_formed_first}
use Rattle.pl_model.specs.declared.reservations.Point.{Point}
use Rattle.pl_model.specs.declared.reservations.Point.TheVariants.{Start, End}
use Rattle.pl_model.specs.declared.alternatives.Order.{Order}
use Rattle.pl_model.specs.declared.links.Link.{Link}
use Rattle.pl_model.specs.Checked.{IsDistance}
use Rattle.pl_facts.specs.declared.goal.Goal.{Goal}
use Rattle.pl_links.specs.declared.placed.Placed.{Placed}
use Rattle.pl_links.specs.Items.{fills}
use Rattle.pl_links.specs.Broken.{is_partner, links_of, orders_of}
use Rattle.pl_semantics.specs.declared.plan_state.PlanState.{PlanState}
use Rattle.pl_semantics.specs.PlanStates.{floor_of}
use Rattle.pl_semantics.specs.Links.{placed_in}
use Rattle.pl_semantics.specs.Whole.{IsWhole}
use Rattle.pl_flex.specs.FlexNets.{between, between_places, duration_of, edge, edges_of_duration, edges_of_link, edges_of_links, edges_of_order, edges_of_parent, edges_of_place, edges_of_plan, edges_of_planned, edges_of_settled, edges_within, firm_in, firm_places, flex_net, goal_served, is_settled, is_to_start, partner_place, place_in_slot, point_at}
use Rattle.pl_flex.specs.Answers.{HasFewEdges}
use Rattle.pl_flex.proofs.Members.{all_numbered, position_within}
use Rattle.pl_flex.proofs.Extents.{HasEnds, all_end, few_firm, goal_fits, links_near, orders_near}

-- an edge of a net of so many points
abbrev IsGood : ℕ → Edge → Type 0
IsGood points e = ((e.from < points) × (e.to < points)) × ((negsuc 99999999 ≤ℤ e.most) × (e.most ≤ℤ pos 100000000))

-- a distance of twice the greatest horizon at most
abbrev IsFar : ℤ → Type 0
IsFar z = (negsuc 19999999 ≤ℤ z) × (z ≤ℤ pos 20000000)

good_one : (points from to : ℕ) (most : ℤ) → from < points → to < points → IsFar most → IsGood points (edge from to most)
good_one points from to most f t far = ((f, t), (omega (arith, ints, far.0), omega (arith, ints, far.1)))

good_between : (points first second : ℕ) (low high : ℤ) → first < points → second < points → IsFar low → IsFar high → All (IsGood points) (between first second low high)
good_between points first second low high f t low_far high_far =
    All-cons (IsGood points) (edge first second high) (edge second first (neg_ℤ low) ∷ []) (good_one points first second high f t high_far)
    (All-cons (IsGood points) (edge second first (neg_ℤ low)) [] (good_one points second first (neg_ℤ low) t f (omega (arith, ints, low_far.1), omega (arith, ints, low_far.0))) (All-nil (IsGood points)))

point_within : (n place : ℕ) (point : Point) → place < n → point_at place point < 2 * n + 1
point_within n place Start h = omega arith
point_within n place End h = omega arith

good_places : (n : ℕ) (a b : Option ℕ) (first second : Point) (low high : ℤ) → IfSome a (λ k. k < n) → IfSome b (λ k. k < n) → IsFar low → IsFar high → All (IsGood (2 * n + 1)) (between_places a first b second low high)
good_places n None b first second low high ha hb low_far high_far = All-nil (IsGood (2 * n + 1))
good_places n (Some k) None first second low high ha hb low_far high_far = All-nil (IsGood (2 * n + 1))
good_places n (Some k) (Some j) first second low high ha hb low_far high_far =
    good_between (2 * n + 1) (point_at k first) (point_at j second) low high (point_within n k first ha) (point_within n j second hb) low_far high_far

module _ (s : PlanState) (whole : IsWhole s) where
  abbrev n : ℕ
  n = length (firm_in s)

  horizon_far : s.model.horizon ≤ 10000000
  horizon_far = whole.checked.horizon.1

  distance_far : (low high : ℤ) → IsDistance s.model.horizon low high → IsFar low × IsFar high
  distance_far low high d = ((omega (arith, ints, d.0, horizon_far), omega (arith, ints, d.1, d.2, horizon_far)), (omega (arith, ints, d.0, d.1, horizon_far), omega (arith, ints, d.2, horizon_far)))

  each_place : All (λ x. (x.0 < n) × HasEnds s.model.horizon x.1) (firm_places s)
  each_place = all_numbered (HasEnds s.model.horizon) 0 n (firm_in s) (omega arith) (all_end s whole)

  good_duration : (x : ℕ × Placed) → (x.0 < n) × HasEnds s.model.horizon x.1 → All (IsGood (2 * n + 1)) (edges_of_duration x)
  good_duration x (h, ends) =
      let far : IsFar (duration_of x.1) = (omega (arith, ints, ends.after), omega (arith, ints, ends.within, horizon_far)) in
      good_between (2 * n + 1) (point_at x.0 Start) (point_at x.0 End) (duration_of x.1) (duration_of x.1) (point_within n x.0 Start h) (point_within n x.0 End h) far far

  good_within : (place first : ℕ) → place < n → first ≤ 10000001 → All (IsGood (2 * n + 1)) (edges_within s place first)
  good_within place first h near =
      All-cons (IsGood (2 * n + 1)) (edge (point_at place Start) 0 (neg_ℤ (pos first))) (edge 0 (point_at place End) (pos s.model.horizon) ∷ [])
      (good_one (2 * n + 1) (point_at place Start) 0 (neg_ℤ (pos first)) (point_within n place Start h) (omega arith) (omega (arith, ints, near), omega (arith, ints)))
      (All-cons (IsGood (2 * n + 1)) (edge 0 (point_at place End) (pos s.model.horizon)) []
      (good_one (2 * n + 1) 0 (point_at place End) (pos s.model.horizon) (omega arith) (point_within n place End h) (omega (arith, ints), omega (arith, ints, horizon_far)))
      (All-nil (IsGood (2 * n + 1))))

  floor_near : floor_of s ≤ 10000001
  floor_near = omega (arith, horizon_far, whole.present, whole.horizon)

  good_planned : (place : ℕ) (o : Option Goal) → place < n → ((g : Goal) → o ≡ Some g → (g.earliest ≤ 10000000) × (g.latest ≤ 10000000)) → All (IsGood (2 * n + 1)) (edges_of_planned s place o)
  good_planned place None h near = good_within place (floor_of s) h floor_near
  good_planned place (Some g) h near =
      let window = near g refl in
      All-append (IsGood (2 * n + 1)) (edges_within s place (max (floor_of s) g.earliest)) (edge 0 (point_at place Start) (pos g.latest) ∷ [])
      (good_within place (max (floor_of s) g.earliest) h (omega (arith, floor_near, window.0)))
      (All-cons (IsGood (2 * n + 1)) (edge 0 (point_at place Start) (pos g.latest)) []
      (good_one (2 * n + 1) 0 (point_at place Start) (pos g.latest) (omega arith) (point_within n place Start h) (omega (arith, ints), omega (arith, ints, window.1)))
      (All-nil (IsGood (2 * n + 1))))

  good_settled : (x : ℕ × Placed) → (x.0 < n) × HasEnds s.model.horizon x.1 → All (IsGood (2 * n + 1)) (edges_of_settled x)
  good_settled x (h, ends) =
      let far : IsFar (pos x.1.start) = (omega (arith, ints), omega (arith, ints, ends.before, horizon_far)) in
      good_between (2 * n + 1) 0 (point_at x.0 Start) (pos x.1.start) (pos x.1.start) (omega arith) (point_within n x.0 Start h) far far

  good_place : (x : ℕ × Placed) → (x.0 < n) × HasEnds s.model.horizon x.1 → All (IsGood (2 * n + 1)) (edges_of_place s x)
  good_place x is =
      cond_both (is_settled s x.1) (edges_of_settled x) (edges_of_planned s x.0 (goal_served s x.1.id)) (λ es. All (IsGood (2 * n + 1)) es)
      (λ settled. good_settled x is)
      (λ planned.
      good_planned x.0 (goal_served s x.1.id) is.0
      (λ g e. let fits = goal_fits s whole x.1.id g e in (omega (arith, fits.ordered, fits.before, horizon_far), omega (arith, fits.before, horizon_far))))

  slot_within : (parent : ℕ) (slot : Option ℕ) → IfSome (place_in_slot (firm_in s) parent slot) (λ k. k < n)
  slot_within parent None = position_within (λ p. p.id == parent) (firm_in s)
  slot_within parent (Some slot) = position_within (fills parent slot) (firm_in s)

  good_parent : (p : Placed) → All (IsGood (2 * n + 1)) (edges_of_parent s.model (firm_in s) p)
  good_parent p =
      all_flat (IsGood (2 * n + 1)) (edges_of_order (firm_in s) p.id) (orders_of s.model p)
      (All-weaker (λ (o : Order). IsDistance s.model.horizon o.low o.high) (λ o. All (IsGood (2 * n + 1)) (edges_of_order (firm_in s) p.id o))
      (λ o d.
      let far = distance_far o.low o.high d in
      good_places n (place_in_slot (firm_in s) p.id o.first) (place_in_slot (firm_in s) p.id o.second) o.first_end o.second_end o.low o.high (slot_within p.id o.first) (slot_within p.id o.second) far.0 far.1)
      (orders_of s.model p) (orders_near s whole p))

  good_links : (x : ℕ × Placed) → x.0 < n → All (IsGood (2 * n + 1)) (edges_of_links s (firm_in s) x)
  good_links x h =
      cond_both (is_to_start s x.1) (flat_map (edges_of_link (firm_in s) x) (links_of s.model x.1)) [] (λ es. All (IsGood (2 * n + 1)) es)
      (λ ahead.
      all_flat (IsGood (2 * n + 1)) (edges_of_link (firm_in s) x) (links_of s.model x.1)
      (All-weaker (λ (l : Link). IsDistance s.model.horizon l.low l.high) (λ l. All (IsGood (2 * n + 1)) (edges_of_link (firm_in s) x l))
      (λ l d.
      let far = distance_far l.low l.high d in
      good_places n (Some x.0) (partner_place (firm_in s) l x.1) l.mine l.theirs l.low l.high h (position_within (is_partner l x.1) (firm_in s)) far.0 far.1)
      (links_of s.model x.1) (links_near s whole x.1)))
      (λ past. All-nil (IsGood (2 * n + 1)))

  first_points : 2 * n + 1 - 1 ≡ 2 * n
  first_points = omega arith

  origins : IsWellFormed (record { points = 2 * n + 1; edges = edges_to_origin (2 * n) })
  origins =
      let few = few_firm s whole in
      subst (λ k. IsWellFormed (record { points = 2 * n + 1; edges = edges_to_origin k })) first_points (well_formed_first (2 * n + 1) (omega arith) (omega (arith, few)))

  good_origins : All (IsGood (2 * n + 1)) (edges_to_origin (2 * n))
  good_origins = λ i d h. (origins.joins i d h, origins.small i d h)

  good_plan : All (IsGood (2 * n + 1)) (edges_of_plan s)
  good_plan =
      All-append (IsGood (2 * n + 1)) (edges_to_origin (2 * n)) _ good_origins
      (All-append (IsGood (2 * n + 1)) (flat_map edges_of_duration (firm_places s)) _
      (all_flat (IsGood (2 * n + 1)) edges_of_duration (firm_places s) (All-weaker (λ x. (x.0 < n) × HasEnds s.model.horizon x.1) (λ x. All (IsGood (2 * n + 1)) (edges_of_duration x)) good_duration (firm_places s) each_place))
      (All-append (IsGood (2 * n + 1)) (flat_map (edges_of_place s) (firm_places s)) _
      (all_flat (IsGood (2 * n + 1)) (edges_of_place s) (firm_places s) (All-weaker (λ x. (x.0 < n) × HasEnds s.model.horizon x.1) (λ x. All (IsGood (2 * n + 1)) (edges_of_place s x)) good_place (firm_places s) each_place))
      (All-append (IsGood (2 * n + 1)) (flat_map (edges_of_parent s.model (firm_in s)) (placed_in s)) _
      (all_flat (IsGood (2 * n + 1)) (edges_of_parent s.model (firm_in s)) (placed_in s) (λ i d h. good_parent (get_or (placed_in s) i d)))
      (all_flat (IsGood (2 * n + 1)) (edges_of_links s (firm_in s)) (firm_places s) (All-weaker (λ x. (x.0 < n) × HasEnds s.model.horizon x.1) (λ x. All (IsGood (2 * n + 1)) (edges_of_links s (firm_in s) x)) (λ x is. good_links x is.0) (firm_places s) each_place)))))

  pub well_formed : HasFewEdges (flex_net s) → IsWellFormed (flex_net s)
  unfolding flex_net
  well_formed few = record {
    origin = omega arith;
    few_points = omega (arith, few_firm s whole);
    few_edges = few;
    joins = All-weaker (IsGood (2 * n + 1)) (λ e. (e.from < 2 * n + 1) × (e.to < 2 * n + 1)) (λ e good. good.0) (edges_of_plan s) good_plan;
    small = All-weaker (IsGood (2 * n + 1)) (λ e. (negsuc 99999999 ≤ℤ e.most) × (e.most ≤ℤ pos 100000000)) (λ e good. good.1) (edges_of_plan s) good_plan;
    after_origin = λ p away within. Contains-append_left (edges_to_origin (2 * n)) _ (record { from = p; to = 0; most = pos 0 }) (origins.after_origin p away within);
  }

pub points_of_net : (s : PlanState) → (flex_net s).points ≡ 2 * length (firm_in s) + 1
unfolding flex_net
points_of_net s = refl
