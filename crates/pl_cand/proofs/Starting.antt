-- Which moves stand among those that are tried.
use Rattle.std.proofs.Common.{◌≡◌, ℕ, suc, ◌+◌, eqb, Bool, true, false, List, [], ◌∷◌, ◌++◌, length, map, Option, Some, None, ℤ, pos, refl, sym, ap, ◌∙◌, arith}
use Rattle.std.specs.Prelude.{◌&&◌, ◌||◌, nat_lt, nat_le, negsuc, ◌-ℤ◌, if◌then◌else◌}
use Rattle.std.specs.Int.{int_min, int_max}
use Rattle.std.specs.List.{flat_map, list_any}
use Rattle.std.specs.Ordering.{int_eq}
use Rattle.std.proofs.lemmas.Bool.{eqb-true, leb-true, ltb-true, or_from}
use Rattle.std.proofs.lemmas.Int.{ints}
use Rattle.std.proofs.lemmas.List.Folds.{list_any-append}
use Rattle.std.proofs.Math.Bool.{and-false, or-false}
use Rattle.std.proofs.lemmas.Bool.Decides.{nat_tests}
use Rattle.pl_facts.specs.declared.goal.Goal.{Goal}
use Rattle.pl_model.specs.declared.alternatives.Alternative.{Alternative}
use Rattle.pl_model.specs.declared.kinds.Kind.{Kind}
use Rattle.pl_plan.specs.declared.activity.Activity.{Activity}
use Rattle.pl_plan.specs.declared.repair.RepairMove.{RepairMove}
use Rattle.pl_plan.specs.declared.repair.RepairMove.TheVariants as repair
use Rattle.pl_plan.specs.Trees.{root_of}
use Rattle.pl_semantics.specs.declared.plan_state.PlanState.{PlanState}
use Rattle.pl_semantics.specs.PlanStates.{end_at, numbered, of_found}
use Rattle.pl_semantics.specs.Starts.{spread, starting, shift_to, floor_at, last_of, places_of, shifts_of, above_it, delete_root, moves_of, adds_of, help_until}
use Rattle.pl_semantics.specs.Moves.{alternatives_at}
use Rattle.pl_semantics.specs.Repairs.{for_goal, for_undetailed, end_by}
use Rattle.pl_semantics.specs.LineRepairs.{around}
use Rattle.pl_semantics.specs.Candidates.{same_move, same_number}
use Rattle.pl_cand.specs.Telling.{may_start, is_shift_to, is_shift_of_id, is_shift_of, is_move_of, is_for_goal, is_for_undetailed, is_addition}

-- ---- piece by piece

any_piece : {X : Type 0} (P : RepairMove → Bool) (f : X → List RepairMove) (n : X) (ns : List X) → list_any P (flat_map f (n ∷ ns)) ≡ (list_any P (f n) || list_any P (flat_map f ns))
any_piece P f n ns = list_any-append P (f n) (flat_map f ns)

-- ---- one start

same_start : (m n : ℕ) → int_eq (pos m) (pos n) ≡ eqb m n
same_start m n = grind (arith, ints)

single : (P : RepairMove → Bool) (w : Bool) (m : RepairMove) → list_any P (if w then m ∷ [] else []) ≡ (w && P m)
single P true m = or-false (P m)
single P false m = refl

parts : (b w m e : Bool) → (e ≡ true → m ≡ w) → (w && (b && e)) ≡ ((b && m) && e)
parts true w m true same = rw (same refl) (and_true w)
  where
    and_true : (x : Bool) → (x && true) ≡ (x && true)
    and_true x = refl
parts true w m false same = and-false w ∙ sym (and-false m)
parts false w m e same = and-false w

over_or : (c e r : Bool) → ((c && e) || (c && r)) ≡ (c && (e || r))
over_or true e r = refl
over_or false e r = refl

module _ (s : PlanState) (P : RepairMove → Bool) (make : ℕ → RepairMove) (b : Bool) (start : ℕ) (is : (n : ℕ) → P (make n) ≡ (b && eqb start n)) where
  -- the test holds of the move with one start alone
  pub one_start : (z : ℤ) → list_any P (starting s make z) ≡ ((b && may_start s start) && int_eq (pos start) z)
  one_start (negsuc n) = sym (and-false (b && may_start s start))
  one_start (pos n) =
      single P (nat_le 1 n && nat_lt n s.model.horizon) (make n)
      ∙ ap (λ t. (nat_le 1 n && nat_lt n s.model.horizon) && t) (is n)
      ∙ parts b (nat_le 1 n && nat_lt n s.model.horizon) (may_start s start) (eqb start n) (λ e. ap (may_start s) (eqb-true start n e))
      ∙ ap (λ t. (b && may_start s start) && t) (sym (same_start start n))

  pub any_start : (zs : List ℤ) → list_any P (flat_map (starting s make) zs) ≡ ((b && may_start s start) && list_any (int_eq (pos start)) zs)
  any_start [] = sym (and-false (b && may_start s start))
  any_start (z ∷ zs) =
      list_any-append P (starting s make z) (flat_map (starting s make) zs)
      ∙ rw (one_start z, any_start zs) (over_or (b && may_start s start) (int_eq (pos start) z) (list_any (int_eq (pos start)) zs))

no_start : (s : PlanState) (P : RepairMove → Bool) (make : ℕ → RepairMove) → ((n : ℕ) → P (make n) ≡ false) → (zs : List ℤ) → list_any P (flat_map (starting s make) zs) ≡ false
no_start s P make is zs = any_start s P make false 0 is zs

-- ---- the moves of an activity

module _ (s : PlanState) where
  shift_any : (a : Activity) (id start : ℕ) → list_any (same_move (repair.Shift id start)) (shifts_of s a) ≡ is_shift_of s a id start
  shift_any a id start = any_start s (same_move (repair.Shift id start)) (shift_to a.id) (eqb id a.id) start (λ n. refl) (places_of s a)

  pub shift_stands : (a : Activity) (id start : ℕ) → is_shift_of s a id start ≡ list_any (same_move (repair.Shift id start)) (shifts_of s a)
  shift_stands a id start = sym (shift_any a id start)

  -- of one start alone
  pub shift_to_any : (m : RepairMove) (a : ℕ) (to : ℤ) → list_any (same_move m) (starting s (shift_to a) to) ≡ is_shift_to s a to m
  shift_to_any (repair.Shift id start) a to = one_start s (same_move (repair.Shift id start)) (shift_to a) (eqb id a) start (λ n. refl) to
  shift_to_any (repair.Delete id) a to = one_start s (same_move (repair.Delete id)) (shift_to a) false 0 (λ n. refl) to
  shift_to_any (repair.Add kind start goal) a to = one_start s (same_move (repair.Add kind start goal)) (shift_to a) false 0 (λ n. refl) to
  shift_to_any (repair.Detail id alternative) a to = one_start s (same_move (repair.Detail id alternative)) (shift_to a) false 0 (λ n. refl) to
  shift_to_any (repair.Abstract id) a to = one_start s (same_move (repair.Abstract id)) (shift_to a) false 0 (λ n. refl) to
  shift_to_any (repair.Assign id param value) a to = one_start s (same_move (repair.Assign id param value)) (shift_to a) false 0 (λ n. refl) to
  shift_to_any (repair.Drop number) a to = one_start s (same_move (repair.Drop number)) (shift_to a) false 0 (λ n. refl) to

  pub shift_to_stands : (m : RepairMove) (a : ℕ) (to : ℤ) → is_shift_to s a to m ≡ list_any (same_move m) (starting s (shift_to a) to)
  shift_to_stands m a to = sym (shift_to_any m a to)

  pub around_stands : (m : RepairMove) (a b : ℕ) (user : Activity) → (is_shift_to s user.id (pos b) m || list_any (same_move m) (end_by s user (pos a))) ≡ list_any (same_move m) (around s a b user)
  around_stands m a b user =
      ap (λ t. t || list_any (same_move m) (end_by s user (pos a))) (shift_to_stands m user.id (pos b))
      ∙ sym (list_any-append (same_move m) (starting s (shift_to user.id) (pos b)) (end_by s user (pos a)))

  other_shift : (m : RepairMove) (a : ℕ) (to : ℤ) → is_shift_of_id a m ≡ false → list_any (same_move m) (starting s (shift_to a) to) ≡ false
  other_shift m a to other = shift_to_any m a to ∙ by m other
    where
      by : (m : RepairMove) → is_shift_of_id a m ≡ false → is_shift_to s a to m ≡ false
      by (repair.Shift id start) other = rw other refl
      by (repair.Delete id) other = refl
      by (repair.Add kind start goal) other = refl
      by (repair.Detail id alternative) other = refl
      by (repair.Abstract id) other = refl
      by (repair.Assign id param value) other = refl
      by (repair.Drop number) other = refl

  pub around_other : (m : RepairMove) (a b : ℕ) (user : Activity) → is_shift_of_id user.id m ≡ false → false ≡ list_any (same_move m) (around s a b user)
  around_other m a b user other =
      sym (list_any-append (same_move m) (starting s (shift_to user.id) (pos b)) (end_by s user (pos a))
      ∙ or_from (list_any (same_move m) (starting s (shift_to user.id) (pos b))) (list_any (same_move m) (end_by s user (pos a))) (other_shift m user.id (pos b) other) (ends (end_at s user)))
    where
      ends : (o : Option ℕ) → list_any (same_move m) (of_found (λ end. starting s (shift_to user.id) (pos a -ℤ (pos end -ℤ pos user.start))) o) ≡ false
      ends None = refl
      ends (Some end) = other_shift m user.id (pos a -ℤ (pos end -ℤ pos user.start)) other

  module _ (m : RepairMove) (other : (id n : ℕ) → same_move m (repair.Shift id n) ≡ false) where
    no_shift : (a : Activity) → list_any (same_move m) (shifts_of s a) ≡ false
    no_shift a = no_start s (same_move m) (shift_to a.id) (other a.id) (places_of s a)

    no_shift_above : (o : Option Activity) → list_any (same_move m) (of_found (shifts_of s) o) ≡ false
    no_shift_above None = refl
    no_shift_above (Some a) = no_shift a

  -- among the three parts of its moves
  three : (P : RepairMove → Bool) (a : Activity) → list_any P (moves_of s a) ≡ ((list_any P (shifts_of s a) || list_any P (of_found (shifts_of s) (above_it s a))) || list_any P (delete_root s a))
  unfolding moves_of
  three P a =
      list_any-append P (shifts_of s a ++ of_found (shifts_of s) (above_it s a)) (delete_root s a)
      ∙ ap (λ t. t || list_any P (delete_root s a)) (list_any-append P (shifts_of s a) (of_found (shifts_of s) (above_it s a)))

  deletes_alone : (m : RepairMove) (a : Activity) → ((id n : ℕ) → same_move m (repair.Shift id n) ≡ false) → list_any (same_move m) (moves_of s a) ≡ same_move m (repair.Delete (root_of a.id s.plan.activities))
  deletes_alone m a other =
      three (same_move m) a
      ∙ rw (no_shift m other a, no_shift_above m other (above_it s a)) (or-false (same_move m (repair.Delete (root_of a.id s.plan.activities))))

  pub moves_any : (m : RepairMove) (a : Activity) → list_any (same_move m) (moves_of s a) ≡ is_move_of s a m
  moves_any (repair.Shift id start) a =
      three (same_move (repair.Shift id start)) a
      ∙ or-false (list_any (same_move (repair.Shift id start)) (shifts_of s a) || list_any (same_move (repair.Shift id start)) (of_found (shifts_of s) (above_it s a)))
      ∙ ap (λ t. t || list_any (same_move (repair.Shift id start)) (of_found (shifts_of s) (above_it s a))) (shift_any a id start)
  moves_any (repair.Delete id) a = deletes_alone (repair.Delete id) a (λ i n. refl)
  moves_any (repair.Add kind start goal) a = deletes_alone (repair.Add kind start goal) a (λ i n. refl)
  moves_any (repair.Detail id alternative) a = deletes_alone (repair.Detail id alternative) a (λ i n. refl)
  moves_any (repair.Abstract id) a = deletes_alone (repair.Abstract id) a (λ i n. refl)
  moves_any (repair.Assign id param value) a = deletes_alone (repair.Assign id param value) a (λ i n. refl)
  moves_any (repair.Drop number) a = deletes_alone (repair.Drop number) a (λ i n. refl)

  pub move_stands : (m : RepairMove) (a : Activity) → is_move_of s a m ≡ list_any (same_move m) (moves_of s a)
  move_stands m a = sym (moves_any m a)

  -- ---- the moves for a goal

  serving_last : (g : Goal) (m : RepairMove) → list_any (same_move m) (for_goal s g) ≡ (list_any (same_move m) (flat_map (starting s (λ start. repair.Add g.kind start (Some g.number))) (spread (int_max (pos g.earliest) (floor_at s)) (int_min (pos g.latest) (last_of s)))) || same_move m (repair.Drop g.number))
  serving_last g m =
      list_any-append (same_move m) (flat_map (starting s (λ start. repair.Add g.kind start (Some g.number))) (spread (int_max (pos g.earliest) (floor_at s)) (int_min (pos g.latest) (last_of s)))) (repair.Drop g.number ∷ [])
      ∙ ap (λ t. list_any (same_move m) (flat_map (starting s (λ start. repair.Add g.kind start (Some g.number))) (spread (int_max (pos g.earliest) (floor_at s)) (int_min (pos g.latest) (last_of s)))) || t) (or-false (same_move m (repair.Drop g.number)))

  drops_alone : (g : Goal) (m : RepairMove) → ((n : ℕ) → same_move m (repair.Add g.kind n (Some g.number)) ≡ false) → list_any (same_move m) (for_goal s g) ≡ same_move m (repair.Drop g.number)
  drops_alone g m other =
      serving_last g m
      ∙ rw (no_start s (same_move m) (λ start. repair.Add g.kind start (Some g.number)) other (spread (int_max (pos g.earliest) (floor_at s)) (int_min (pos g.latest) (last_of s)))) refl

  turned : (k e g : Bool) → (k && (e && g)) ≡ ((k && g) && e)
  turned true true g = and_true g
    where
      and_true : (x : Bool) → x ≡ (x && true)
      and_true true = refl
      and_true false = refl
  turned true false g = sym (and-false g)
  turned false e g = refl

  pub goal_any : (m : RepairMove) (g : Goal) → list_any (same_move m) (for_goal s g) ≡ is_for_goal s g m
  goal_any (repair.Add kind start goal) g =
      serving_last g (repair.Add kind start goal)
      ∙ rw (any_start s (same_move (repair.Add kind start goal)) (λ t. repair.Add g.kind t (Some g.number)) (eqb kind g.kind && same_number goal (Some g.number)) start (λ n. turned (eqb kind g.kind) (eqb start n) (same_number goal (Some g.number))) (spread (int_max (pos g.earliest) (floor_at s)) (int_min (pos g.latest) (last_of s)))) (or-false _)
  goal_any (repair.Drop number) g = drops_alone g (repair.Drop number) (λ n. refl)
  goal_any (repair.Delete id) g = drops_alone g (repair.Delete id) (λ n. refl)
  goal_any (repair.Shift id start) g = drops_alone g (repair.Shift id start) (λ n. refl)
  goal_any (repair.Detail id alternative) g = drops_alone g (repair.Detail id alternative) (λ n. refl)
  goal_any (repair.Abstract id) g = drops_alone g (repair.Abstract id) (λ n. refl)
  goal_any (repair.Assign id param value) g = drops_alone g (repair.Assign id param value) (λ n. refl)

  -- ---- the moves for an activity with no alternative

  detail_any : (m : RepairMove) (a : Activity) (n : ℕ) (xs : List Alternative) → ((k : ℕ) → same_move m (repair.Detail a.id k) ≡ false) → list_any (same_move m) (map (λ (k : ℕ × Alternative). repair.Detail a.id k.0) (numbered n xs)) ≡ false
  detail_any m a n [] other = refl
  detail_any m a n (x ∷ xs) other = rw (other n) (detail_any m a (suc n) xs other)

  detail_at : (a : Activity) (id alternative n : ℕ) (xs : List Alternative) → list_any (same_move (repair.Detail id alternative)) (map (λ (k : ℕ × Alternative). repair.Detail a.id k.0) (numbered n xs)) ≡ (eqb id a.id && (nat_le n alternative && nat_lt alternative (n + length xs)))
  detail_at a id alternative n [] = none (eqb id a.id) (nat_le n alternative) (nat_lt alternative (n + 0)) (λ e f. absurd (omega (arith, leb-true n alternative e, ltb-true alternative (n + 0) f)))
    where
      none : (x y z : Bool) → (y ≡ true → z ≡ true → ⊥) → false ≡ (x && (y && z))
      none false y z apart = refl
      none true false z apart = refl
      none true true false apart = refl
      none true true true apart = absurd (apart refl refl)
  detail_at a id alternative n (x ∷ xs) =
      rw (detail_at a id alternative (suc n) xs)
      (split (eqb id a.id) (eqb alternative n) (nat_le (suc n) alternative) (nat_lt alternative (suc n + length xs)) (nat_le n alternative) (nat_lt alternative (n + suc (length xs))) (grind (arith, nat_tests)))
    where
      split : (i e y z v w : Bool) → (e || (y && z)) ≡ (v && w) → ((i && e) || (i && (y && z))) ≡ (i && (v && w))
      split true e y z v w same = same
      split false e y z v w same = refl

  from_none : (i : Bool) (k n : ℕ) → (i && (nat_le 0 k && nat_lt k (0 + n))) ≡ (i && nat_lt k n)
  from_none i k n = let same : (nat_le 0 k && nat_lt k (0 + n)) ≡ nat_lt k n = grind (arith, nat_tests) in ap (λ t. i && t) same

  after_details : (m : RepairMove) (a : Activity) → list_any (same_move m) (for_undetailed s a) ≡ (list_any (same_move m) (map (λ (k : ℕ × Alternative). repair.Detail a.id k.0) (numbered 0 (alternatives_at s a))) || same_move m (repair.Delete (root_of a.id s.plan.activities)))
  after_details m a =
      list_any-append (same_move m) (map (λ (k : ℕ × Alternative). repair.Detail a.id k.0) (numbered 0 (alternatives_at s a))) (delete_root s a)
      ∙ ap (λ t. list_any (same_move m) (map (λ (k : ℕ × Alternative). repair.Detail a.id k.0) (numbered 0 (alternatives_at s a))) || t) (or-false (same_move m (repair.Delete (root_of a.id s.plan.activities))))

  root_alone : (m : RepairMove) (a : Activity) → ((k : ℕ) → same_move m (repair.Detail a.id k) ≡ false) → list_any (same_move m) (for_undetailed s a) ≡ same_move m (repair.Delete (root_of a.id s.plan.activities))
  root_alone m a other = after_details m a ∙ rw (detail_any m a 0 (alternatives_at s a) other) refl

  pub undetailed_any : (m : RepairMove) (a : Activity) → list_any (same_move m) (for_undetailed s a) ≡ is_for_undetailed s a m
  undetailed_any (repair.Detail id alternative) a =
      after_details (repair.Detail id alternative) a
      ∙ or-false (list_any (same_move (repair.Detail id alternative)) (map (λ (k : ℕ × Alternative). repair.Detail a.id k.0) (numbered 0 (alternatives_at s a))))
      ∙ detail_at a id alternative 0 (alternatives_at s a)
      ∙ from_none (eqb id a.id) alternative (length (alternatives_at s a))
  undetailed_any (repair.Delete id) a = root_alone (repair.Delete id) a (λ n. refl)
  undetailed_any (repair.Add kind start goal) a = root_alone (repair.Add kind start goal) a (λ n. refl)
  undetailed_any (repair.Shift id start) a = root_alone (repair.Shift id start) a (λ n. refl)
  undetailed_any (repair.Abstract id) a = root_alone (repair.Abstract id) a (λ n. refl)
  undetailed_any (repair.Assign id param value) a = root_alone (repair.Assign id param value) a (λ n. refl)
  undetailed_any (repair.Drop number) a = root_alone (repair.Drop number) a (λ n. refl)

  -- ---- help

  no_adds : (m : RepairMove) → is_addition m ≡ false → (kind : ℕ) (goal : Option ℕ) (start : ℕ) → same_move m (repair.Add kind start goal) ≡ false
  no_adds (repair.Add kind2 start2 goal2) none kind goal start = absurd (cc)
  no_adds (repair.Delete id) none kind goal start = refl
  no_adds (repair.Shift id start2) none kind goal start = refl
  no_adds (repair.Detail id alternative) none kind goal start = refl
  no_adds (repair.Abstract id) none kind goal start = refl
  no_adds (repair.Assign id param value) none kind goal start = refl
  no_adds (repair.Drop number) none kind goal start = refl

  no_help : (m : RepairMove) → is_addition m ≡ false → (starts : List ℤ) (kinds : List (ℕ × Kind)) → list_any (same_move m) (flat_map (λ (k : ℕ × Kind). adds_of s starts k.0) kinds) ≡ false
  no_help m none starts [] = refl
  no_help m none starts (k ∷ kinds) =
      any_piece (same_move m) (λ (k : ℕ × Kind). adds_of s starts k.0) k kinds
      ∙ rw (no_start s (same_move m) (λ t. repair.Add k.0 t None) (λ n. no_adds m none k.0 None n) starts) (no_help m none starts kinds)

  pub no_help_until : (m : RepairMove) → is_addition m ≡ false → (kinds : List (ℕ × Kind)) (until : ℕ) → list_any (same_move m) (help_until s kinds until) ≡ false
  no_help_until m none kinds until = no_help m none (spread (floor_at s) (int_max (floor_at s) (int_min (pos until) (last_of s)))) kinds
