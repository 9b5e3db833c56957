-- How many moves there are of each sort.
use Rattle.std.proofs.Common.{◌≡◌, ℕ, zero, suc, ◌+◌, ◌*◌, ◌≤◌, Bool, true, false, List, [], ◌∷◌, ◌++◌, length, take, map, Option, Some, None, ℤ, pos, length-append, refl, ap, ◌∙◌, arith}
use Rattle.std.specs.Prelude.{◌&&◌, nat_lt, nat_le, int_le, negsuc, ◌+ℤ◌, ◌-ℤ◌, if◌then◌else◌}
use Rattle.std.specs.Int.{int_min, int_max}
use Rattle.std.specs.List.{flat_map}
use Rattle.std.proofs.lemmas.List.{length-map}
use Rattle.std.proofs.Math.Nat.{mul-suc}
use Rattle.pl_facts.specs.declared.goal.Goal.{Goal}
use Rattle.pl_model.specs.declared.alternatives.Alternative.{Alternative}
use Rattle.pl_model.specs.declared.kinds.Kind.{Kind}
use Rattle.pl_plan.specs.declared.activity.Activity.{Activity}
use Rattle.pl_plan.specs.declared.repair.RepairMove.{RepairMove}
use Rattle.pl_plan.specs.declared.repair.RepairMove.TheVariants as repair
use Rattle.pl_semantics.specs.declared.plan_state.PlanState.{PlanState}
use Rattle.pl_semantics.specs.PlanStates.{end_at, numbered, of_found, served_by}
use Rattle.pl_semantics.specs.Moves.{alternatives_at}
use Rattle.pl_semantics.specs.Starts.{steps_from, stride_of, spread, starting, shift_to, floor_at, last_of, window_of, places_of, shifts_of, above_it, delete_root, moves_of, adds_of, help_until, helpers}
use Rattle.pl_semantics.specs.Repairs.{for_goal, for_undetailed, end_by}
use Rattle.pl_semantics.specs.LineRepairs.{around}
use Rattle.pl_cand.specs.declared.role.Role.{Role}
use Rattle.pl_cand.specs.declared.role.Role.TheVariants as role
use Rattle.pl_cand.specs.Telling.{away}
use Rattle.pl_model.specs.declared.reservations.Reservation.{Reservation}

pub few_taken : {X : Type 0} (n : ℕ) (xs : List X) → length (take n xs) ≤ n
few_taken zero xs = omega arith
few_taken (suc n) [] = omega arith
few_taken (suc n) (x ∷ xs) = omega (arith, few_taken n xs)

pub pieces_few : {X : Type 0} (f : X → List RepairMove) (k : ℕ) → ((n : X) → length (f n) ≤ k) → (ns : List X) → length (flat_map f ns) ≤ k * length ns
pieces_few f k few [] = omega arith
pieces_few f k few (n ∷ ns) =
    let more : k * suc (length ns) ≡ k * length ns + k = mul-suc k (length ns) in
    rw (length-append (f n) (flat_map f ns), more) (omega (arith, few n, pieces_few f k few ns))

-- ---- how many

pub steps_few : (n : ℕ) (low high : ℤ) (step : ℕ) → length (steps_from n low high step) ≤ n
steps_few zero low high step = omega arith
steps_few (suc n) low high step = cases (int_le low high) (steps_few n (low +ℤ pos step) high step)
  where
    cases : (t : Bool) → length (steps_from n (low +ℤ pos step) high step) ≤ n → length (if t then low ∷ steps_from n (low +ℤ pos step) high step else []) ≤ suc n
    cases true rest = omega (arith, rest)
    cases false rest = omega arith

pub spread_few : (low high : ℤ) → length (spread low high) ≤ 16
unfolding spread
spread_few low high = steps_few 16 low high (stride_of low high)

module _ (s : PlanState) where
  pub one_few : (make : ℕ → RepairMove) (z : ℤ) → length (starting s make z) ≤ 1
  one_few make (negsuc n) = omega arith
  one_few make (pos n) = cases (nat_le 1 n && nat_lt n s.model.horizon)
    where
      cases : (t : Bool) → length (if t then make n ∷ [] else []) ≤ 1
      cases true = omega arith
      cases false = omega arith

  pub starts_few : (make : ℕ → RepairMove) (zs : List ℤ) → length (flat_map (starting s make) zs) ≤ length zs
  starts_few make [] = omega arith
  starts_few make (z ∷ zs) = rw (length-append (starting s make z) (flat_map (starting s make) zs)) (omega (arith, one_few make z, starts_few make zs))

  places_few : (a : Activity) → length (places_of s a) ≤ 17
  places_few a = cases (served_by s a)
    where
      cases : (o : Option Goal) → length (floor_at s ∷ window_of s o) ≤ 17
      cases None = omega (arith, spread_few (floor_at s) (last_of s))
      cases (Some g) = omega (arith, spread_few (int_max (pos g.earliest) (floor_at s)) (pos g.latest))

  shifts_few : (a : Activity) → length (shifts_of s a) ≤ 17
  shifts_few a = omega (arith, starts_few (shift_to a.id) (places_of s a), places_few a)

  found_few : (o : Option Activity) → length (of_found (shifts_of s) o) ≤ 17
  found_few None = omega arith
  found_few (Some a) = shifts_few a

  moves_count : (a : Activity) → length (moves_of s a) ≡ length (shifts_of s a) + length (of_found (shifts_of s) (above_it s a)) + 1
  unfolding moves_of
  moves_count a =
      length-append (shifts_of s a ++ of_found (shifts_of s) (above_it s a)) (delete_root s a)
      ∙ ap (λ n. n + 1) (length-append (shifts_of s a) (of_found (shifts_of s) (above_it s a)))

  pub moves_few : (a : Activity) → length (moves_of s a) ≤ 35
  moves_few a = omega (arith, moves_count a, shifts_few a, found_few (above_it s a))

  above_none : (a : Activity) → a.parent ≡ None → above_it s a ≡ None
  above_none a root = rw root refl

  -- of a root
  pub moves_fewer : (a : Activity) → a.parent ≡ None → length (moves_of s a) ≤ 18
  moves_fewer a root =
      let none : length (of_found (shifts_of s) (above_it s a)) ≡ 0 = ap (λ o. length (of_found (shifts_of s) o)) (above_none a root) in
      omega (arith, moves_count a, shifts_few a, none)

  pub goal_few : (g : Goal) → length (for_goal s g) ≤ 17
  goal_few g =
      rw (length-append (flat_map (starting s (λ start. repair.Add g.kind start (Some g.number))) (spread (int_max (pos g.earliest) (floor_at s)) (int_min (pos g.latest) (last_of s)))) (repair.Drop g.number ∷ []))
      (omega (arith, starts_few (λ start. repair.Add g.kind start (Some g.number)) (spread (int_max (pos g.earliest) (floor_at s)) (int_min (pos g.latest) (last_of s))), spread_few (int_max (pos g.earliest) (floor_at s)) (int_min (pos g.latest) (last_of s))))

  end_few : (a : Activity) (moment : ℤ) → length (end_by s a moment) ≤ 1
  end_few a moment = cases (end_at s a)
    where
      cases : (o : Option ℕ) → length (of_found (λ end. starting s (shift_to a.id) (moment -ℤ (pos end -ℤ pos a.start))) o) ≤ 1
      cases None = omega arith
      cases (Some end) = one_few (shift_to a.id) (moment -ℤ (pos end -ℤ pos a.start))

  around_few : (a b : ℕ) (user : Activity) → length (around s a b user) ≤ 2
  around_few a b user = rw (length-append (starting s (shift_to user.id) (pos b)) (end_by s user (pos a))) (omega (arith, one_few (shift_to user.id) (pos b), end_few user (pos a)))

  numbered_count : (n : ℕ) (xs : List Alternative) → length (numbered n xs) ≡ length xs
  numbered_count n [] = refl
  numbered_count n (x ∷ xs) = ap suc (numbered_count (suc n) xs)

  pub undetailed_few : (a : Activity) → length (alternatives_at s a) ≤ 8 → length (for_undetailed s a) ≤ 9
  undetailed_few a few =
      let count : length (map (λ (k : ℕ × Alternative). repair.Detail a.id k.0) (numbered 0 (alternatives_at s a))) ≡ length (alternatives_at s a) = length-map (numbered 0 (alternatives_at s a)) (λ (k : ℕ × Alternative). repair.Detail a.id k.0) ∙ numbered_count 0 (alternatives_at s a) in
      rw (length-append (map (λ (k : ℕ × Alternative). repair.Detail a.id k.0) (numbered 0 (alternatives_at s a))) (delete_root s a)) (omega (arith, few, count))

  -- ---- help, and users of a timeline

  adds_few : (low high : ℤ) (kind : ℕ) → length (adds_of s (spread low high) kind) ≤ 16
  adds_few low high kind = omega (arith, starts_few (λ start. repair.Add kind start None) (spread low high), spread_few low high)

  pub help_few : (test : Reservation → Bool) (until : ℕ) → length (help_until s (helpers s test) until) ≤ 64
  help_few test until =
      let low : ℤ = floor_at s in
      let high : ℤ = int_max (floor_at s) (int_min (pos until) (last_of s)) in
      let each : length (help_until s (helpers s test) until) ≤ 16 * length (helpers s test) = pieces_few (λ (k : ℕ × Kind). adds_of s (spread low high) k.0) 16 (λ k. adds_few low high k.0) (helpers s test) in
      let four : length (helpers s test) ≤ 4 = few_taken 4 _ in
      omega (arith, each, four)

  away_few : (part : Role) (x : Activity) → length (away s part x) ≤ 2
  away_few (role.Uses a b) x = around_few a b x
  away_few (role.ChangesBelow b way) x = omega arith

  pub away_all_few : (part : Role) (xs : List Activity) → length (flat_map (away s part) (take 8 xs)) ≤ 16
  away_all_few part xs =
      let each : length (flat_map (away s part) (take 8 xs)) ≤ 2 * length (take 8 xs) = pieces_few (away s part) 2 (away_few part) (take 8 xs) in
      let eight : length (take 8 xs) ≤ 8 = few_taken 8 xs in
      omega (arith, each, eight)
