-- The first move that is tried for a conflict that stands alone is chosen where it leaves no conflict.
use Rattle.std.proofs.Common.{◌≡◌, ◌≤◌, ◌<◌, ◌+◌, ◌-◌, ℕ, zero, suc, max, min, Bool, true, false, cond, eqb, List, [], ◌∷◌, ◌++◌, length, get_or, take, map, Some, ℤ, pos, refl, sym, ap, subst, ◌∙◌, arith}
use Rattle.std.specs.Prelude.{◌≤ℤ◌, ◌-ℤ◌, ◌+ℤ◌, negsuc, ◌&&◌, ◌==◌, not, nat_lt, nat_le, find, filter, All, slice_get, option_and_then}
use Rattle.std.specs.Int.{int_min, int_max}
use Rattle.std.specs.List.{flat_map}
use Rattle.std.specs.Option.{option_map}
use Rattle.std.proofs.lemmas.Int.{ints, clamps}
use Rattle.std.proofs.lemmas.Bool.{le-leb, leb-true, ne_eqb, and_parts}
use Rattle.std.proofs.lemmas.Bool.Decides.{nat_tests}
use Rattle.std.proofs.lemmas.List.Elements.{All-nil, All-cons, All-head, All-tail, All-append, All-take, All-filter}
use Rattle.pl_conflict.specs.declared.conflict.Conflict.{Conflict}
use Rattle.pl_conflict.specs.declared.conflict.Code.TheVariants.{Undetailed}
use Rattle.pl_conflict.specs.Order.{has}
use Rattle.pl_facts.specs.declared.goal.Goal.{Goal}
use Rattle.pl_model.specs.declared.alternatives.Alternative.{Alternative}
use Rattle.pl_plan.specs.declared.activity.Activity.{Activity}
use Rattle.pl_plan.specs.declared.repair.RepairMove.{RepairMove}
use Rattle.pl_plan.specs.declared.repair.RepairMove.TheVariants.{Add, Detail, Drop}
use Rattle.pl_semantics.specs.declared.plan_state.PlanState.{PlanState}
use Rattle.pl_plan.specs.Fitting.{alternatives_of}
use Rattle.pl_semantics.specs.Activities.{at_start}
use Rattle.pl_semantics.specs.PlanStates.{floor_of, goal_at, is_open, numbered}
use Rattle.pl_semantics.specs.Starts.{spread, steps_from, stride_of, starting, floor_at, last_of, delete_root}
use Rattle.pl_semantics.specs.Repairs.{for_goal, for_undetailed}
use Rattle.pl_semantics.specs.Moves.{is_proper, alternatives_at, root_for, applied}
use Rattle.pl_semantics.specs.Candidates.{candidates_of, changes_nothing, is_worth, once_from, tried_for}
use Rattle.pl_semantics.specs.Conflicts.{conflicts_of}
use Rattle.pl_semantics.specs.Legal.{is_legal, has_repair, legal_for, left_after}
use Rattle.pl_semantics.proofs.Sifting.{once_keeps}
use Rattle.pl_moves.specs.Least.{least_known}
use Rattle.pl_cand.proofs.Steps.{step_more}
use Rattle.pl_bounds.proofs.Unchosen.{unchosen}
use Rattle.pl_cand.specs.declared.proposal.Proposal.{Proposal}
use Rattle.pl_choose.specs.Alone.{AreEnough}
use Rattle.pl_choose.specs.Found.{IsAllowed}
use Rattle.pl_choose.specs.Picked.{enough_for}
use Rattle.pl_choose.specs.Picks.{proposal, leaves_fewest, fewest, fewest_for, least_pick}
use Rattle.pl_choose.specs.Promising.{BeginsWith, LeaveAsMany, IsForemost, IsPromising}
use Rattle.pl_choose.specs.declared.purpose.Purpose.{Purpose}
use Rattle.pl_choose.proofs.Aims.{few_enough}
use Rattle.pl_choose.proofs.Proposing.{all_allowed, one_legal}

-- ---- the first of a list

pub begun : {X : Type 0} (x : X) (more : List X) → BeginsWith x (x ∷ more)
begun x more = record { more = more; is = refl }

pub filter_begins : {X : Type 0} (p : X → Bool) (x : X) (xs : List X) → p x ≡ true → BeginsWith x xs → BeginsWith x (filter p xs)
filter_begins p x xs passes first = record { more = filter p first.more; is = rw (first.is, passes) refl }

-- a list of one
pub only_one : {X : Type 0} (xs : List X) (x : X) → min (length xs) 4294967295 ≡ 1 → Some x ≡ slice_get xs 0 → xs ≡ x ∷ []
only_one [] x one is = absurd (omega (arith, one))
only_one {X = X} (y ∷ []) x one is = let h : Some x ≡ Some y = is in cc
only_one (y ∷ z ∷ zs) x one is = absurd (omega (arith, one))

-- ---- what is tried first

-- the first number of those that are tried
spread_begins : (low high : ℤ) → low ≤ℤ high → BeginsWith low (spread low high)
unfolding spread
spread_begins low high le = record { more = steps_from (16 - 1) (low +ℤ pos (stride_of low high)) high (stride_of low high); is = step_more 16 low high (stride_of low high) (omega arith) le }

low_is : (e f start : ℕ) → start ≡ max e f → int_max (pos e) (pos f) ≡ pos start
low_is e f start is = first_of (omega (arith, ints, clamps, is), grind (arith, ints, clamps, is))

high_is : (l h start : ℕ) → start ≤ l → start < h → pos start ≤ℤ int_min (pos l) (pos h -ℤ pos 1)
high_is l h start le lt = omega (arith, ints, clamps, le, lt)

-- no start is tried before the present
above_is : (e m c h start : ℕ) → start ≡ max e (max (m + 1) c) → start < h → (nat_le 1 start && nat_lt start h) ≡ true
above_is e m c h start is lt =
    let some : 1 ≤ start = omega (arith, is) in
    grind (arith, nat_tests, some, lt)

-- the first addition that is tried
pub goal_begins : (s : PlanState) (g : Goal) (start : ℕ) → start ≡ max g.earliest (floor_of s) → start ≤ g.latest → start < s.model.horizon → BeginsWith (Add g.kind start (Some g.number)) (for_goal s g)
goal_begins s g start is le lt =
    let make : ℕ → RepairMove = λ t. Add g.kind t (Some g.number) in
    let high : ℤ = int_min (pos g.latest) (last_of s) in
    let same : int_max (pos g.earliest) (floor_at s) ≡ pos start = low_is g.earliest (floor_of s) start is in
    let tried = spread_begins (pos start) high (high_is g.latest s.model.horizon start le lt) in
    let all : spread (int_max (pos g.earliest) (floor_at s)) high ≡ pos start ∷ tried.more = ap (λ (z : ℤ). spread z high) same ∙ tried.is in
    let above : (nat_le 1 start && nat_lt start s.model.horizon) ≡ true = above_is g.earliest s.moment s.committed s.model.horizon start is lt in
    record {
      more = flat_map (starting s make) tried.more ++ Drop g.number ∷ [];
      is =
          ap (λ (zs : List ℤ). flat_map (starting s make) zs ++ Drop g.number ∷ []) all
          ∙ ap (λ (b : Bool). (cond b (make start ∷ []) [] ++ flat_map (starting s make) tried.more) ++ Drop g.number ∷ []) above;
    }

pub detail_begins : (s : PlanState) (a : Activity) → 0 < length (alternatives_at s a) → BeginsWith (Detail a.id 0) (for_undetailed s a)
detail_begins s a some = by (alternatives_at s a) some
  where
    by : (alts : List Alternative) → 0 < length alts → BeginsWith (Detail a.id 0) (map (λ (k : ℕ × Alternative). Detail a.id k.0) (numbered 0 alts) ++ delete_root s a)
    by [] none = absurd (omega (arith, none))
    by (x ∷ xs) some = begun (Detail a.id 0) (map (λ (k : ℕ × Alternative). Detail a.id k.0) (numbered 1 xs) ++ delete_root s a)

-- ---- none leaves fewer

-- of the others, whatever is tried for the activity
pub leave_none : (s : PlanState) (m : RepairMove) (ms : List RepairMove) → least_known s m ≡ 0 → LeaveAsMany s m ms
leave_none s m ms none = λ i d lt proper. rw none (omega arith)

module _ (s : PlanState) (g : Goal) (start : ℕ) where
  abbrev made : ℕ → RepairMove
  made t = Add g.kind t (Some g.number)

  abbrev Rest : List RepairMove → Type 0
  Rest ms = LeaveAsMany s (made start) ms

  abbrev Is : RepairMove → Type 0
  Is m = is_proper s m ≡ true → least_known s (made start) ≤ least_known s m

  started : (z : ℤ) → Rest (starting s made z)
  started (negsuc n) = All-nil Is
  started (pos n) = by (nat_le 1 n && nat_lt n s.model.horizon)
    where
      by : (b : Bool) → Rest (cond b (made n ∷ []) [])
      by true = All-cons Is (made n) [] (λ proper. omega arith) (All-nil Is)
      by false = All-nil Is

  starts : (zs : List ℤ) → Rest (flat_map (starting s made) zs)
  starts [] = All-nil Is
  starts (z ∷ zs) = All-append Is (starting s made z) (flat_map (starting s made) zs) (started z) (starts zs)

  undropped : goal_at s g.number ≡ Some g → g.must ≡ true → Is (Drop g.number)
  unfolding is_proper
  undropped here must proper =
      let dropped : (is_open s g && not g.must) ≡ true = rw here at proper in
      let kept : (not g.must) ≡ true = (and_parts (is_open s g) (not g.must) dropped).1 in
      absurd (let h : false ≡ true = rw must at kept in cc)

  -- a goal that may not be dropped is served or stays open
  pub goal_leaves : goal_at s g.number ≡ Some g → g.must ≡ true → Rest (for_goal s g)
  goal_leaves here must =
      let zs : List ℤ = spread (int_max (pos g.earliest) (floor_at s)) (int_min (pos g.latest) (last_of s)) in
      All-append Is (flat_map (starting s made) zs) (Drop g.number ∷ []) (starts zs) (All-cons Is (Drop g.number) [] (undropped here must) (All-nil Is))

-- ---- what is tried foremost

pub addition_foremost : (s : PlanState) (g : Goal) (start : ℕ) → BeginsWith (Add g.kind start (Some g.number)) (for_goal s g) → goal_at s g.number ≡ Some g → g.must ≡ true → IsForemost s (Add g.kind start (Some g.number)) (for_goal s g)
addition_foremost s g start first here must = record { first = first; least = goal_leaves s g start here must }

pub alternative_foremost : (s : PlanState) (a : Activity) → 0 < length (alternatives_at s a) → IsForemost s (Detail a.id 0) (for_undetailed s a)
alternative_foremost s a some = record { first = detail_begins s a some; least = leave_none s (Detail a.id 0) (for_undetailed s a) refl }

-- ---- candidates

first_stays : (n : ℕ) (m : RepairMove) (xs : List RepairMove) → 0 < n → take n (once_from [] (m ∷ xs)) ≡ m ∷ take (n - 1) (once_from (m ∷ []) xs)
first_stays zero m xs some = absurd (omega (arith, some))
first_stays (suc n) m xs some = let less : suc n - 1 ≡ n = omega arith in rw less refl

pub candidate_foremost : (s : PlanState) (k : Conflict) (m : RepairMove) → IsForemost s m (tried_for s k k.code) → changes_nothing s m ≡ false → is_proper s m ≡ true → IsForemost s m (candidates_of s k)
unfolding candidates_of
candidate_foremost s k m tried changes proper =
    let worth : is_worth s m ≡ true = rw (proper, changes) refl in
    let all : List RepairMove = tried_for s k k.code in
    let left = filter_begins (is_worth s) m all worth tried.first in
    let P : RepairMove → Type 0 = λ other. is_proper s other ≡ true → least_known s m ≤ least_known s other in
    record {
      first = record { more = take (256 - 1) (once_from (m ∷ []) left.more); is = ap (λ (l : List RepairMove). take 256 (once_from [] l)) left.is ∙ first_stays 256 m left.more (omega arith) };
      least = All-take P 256 (once_from [] (filter (is_worth s) all)) (once_keeps P [] (filter (is_worth s) all) (All-filter (is_worth s) P all tried.least));
    }

pub legal_foremost : (s : PlanState) (k : Conflict) (m : RepairMove) → IsForemost s m (candidates_of s k) → is_legal s m ≡ true → IsForemost s m (legal_for s k)
unfolding legal_for
legal_foremost s k m candidate legal =
    let P : RepairMove → Type 0 = λ other. is_proper s other ≡ true → least_known s m ≤ least_known s other in
    record {
      first = filter_begins (is_legal s) m (candidates_of s k) legal candidate.first;
      least = All-filter (is_legal s) P (candidates_of s k) candidate.least;
    }

-- the only conflict, and the foremost of its legal candidates
pub lone_promise : (s : PlanState) (k : Conflict) (m : RepairMove) (xs : List Conflict) → xs ≡ conflicts_of s → min (length xs) 4294967295 ≡ 1 → Some k ≡ slice_get xs 0 → IsForemost s m (legal_for s k) → IsPromising s (proposal k m)
lone_promise s k m xs same one here foremost = record { alone = sym same ∙ only_one xs k one here; foremost = foremost }

-- ---- what is chosen

pub first_allowed : (s : PlanState) (k : Conflict) (m : RepairMove) → BeginsWith m (legal_for s k) → IsAllowed s m
first_allowed s k m first =
    let P : List RepairMove → Type 0 = λ ms. All (IsAllowed s) ms in
    All-head (IsAllowed s) m first.more (subst P first.is (all_allowed s k))

some_with : (k : Conflict) (ks : List Conflict) → has k ks ≡ true → 1 ≤ length ks
some_with k [] e = absurd (cc)
some_with k (x ∷ ks) e = omega arith

-- what is known to be left is left
known_least : (s : PlanState) (m : RepairMove) → IsAllowed s m → least_known s m ≤ left_after s m
unfolding left_after
known_least s (Add kind start goal) can = by (eqb (length (alternatives_of (slice_get s.model.kinds kind))) 0) refl
  where
    by : (b : Bool) → eqb (length (alternatives_of (slice_get s.model.kinds kind))) 0 ≡ b → cond b 0 1 ≤ length (conflicts_of (applied s (Add kind start goal)))
    by true none = omega arith
    by false some = some_with (at_start (root_for s kind start goal) Undetailed 0 0) (conflicts_of (applied s (Add kind start goal))) (unchosen s kind start goal can.allowed some)
known_least s _ can = omega arith

-- each leaves as many as are known to be left by the foremost
leave_as_many : (s : PlanState) (k : Conflict) (m : RepairMove) → LeaveAsMany s m (legal_for s k) → All (λ other. least_known s m ≤ left_after s other) (legal_for s k)
leave_as_many s k m least = λ i d lt.
    let other : RepairMove = get_or (legal_for s k) i d in
    let can : IsAllowed s other = all_allowed s k i d lt in
    let known : least_known s m ≤ least_known s other = least i d lt can.proper in
    let left : least_known s other ≤ left_after s other = known_least s other can in
    omega (arith, known, left)

none_fewer : (s : PlanState) (m : RepairMove) (ms : List RepairMove) (n : ℕ) → left_after s m ≤ n → All (λ other. n ≤ left_after s other) ms → leaves_fewest s ms m ≡ true
none_fewer s m [] n few all = refl
none_fewer s m (other ∷ more) n few all =
    let here : n ≤ left_after s other = All-head (λ o. n ≤ left_after s o) other more all in
    let least : nat_le (left_after s m) (left_after s other) ≡ true = le-leb (left_after s m) (left_after s other) (omega (arith, few, here)) in
    rw least (none_fewer s m more n few (All-tail (λ o. n ≤ left_after s o) other more all))

first_is_fewest : (s : PlanState) (m : RepairMove) (ms : List RepairMove) → leaves_fewest s ms m ≡ true → BeginsWith m ms → fewest s ms ≡ Some m
first_is_fewest s m ms least first =
    let P : List RepairMove → Type 0 = λ all. leaves_fewest s all m ≡ true in
    let here : leaves_fewest s (m ∷ first.more) m ≡ true = subst P first.is least in
    rw (first.is, here) refl

-- the foremost legal candidate of the only conflict is picked where it leaves no more than is known of it
pub promise_kept : (s : PlanState) (p : Proposal) → IsPromising s p → left_after s p.mv ≤ least_known s p.mv → Some p ≡ least_pick s
unfolding least_pick
promise_kept s p is few =
    let k : Conflict = p.conflict in
    let all : List RepairMove = legal_for s k in
    let more : length all ≡ suc (length is.foremost.first.more) = ap (λ (l : List RepairMove). length l) is.foremost.first.is in
    let some : (length all == 0) ≡ false = ne_eqb (length all) 0 (λ e. omega (arith, e, more)) in
    let has : has_repair s k ≡ true = one_legal s k all refl some in
    let found : find (has_repair s) (conflicts_of s) ≡ Some k = rw (is.alone, has) refl in
    let least : leaves_fewest s all p.mv ≡ true = none_fewer s p.mv all (least_known s p.mv) few (leave_as_many s k p.mv is.foremost.least) in
    sym (ap (option_and_then (fewest_for s)) found ∙ ap (option_map (proposal k)) (first_is_fewest s p.mv all least is.foremost.first))

-- the same where it stays made
pub made_kept : (s : PlanState) (p : Proposal) (why : Purpose) (n : ℕ) → IsPromising s p → n ≡ least_known s p.mv → AreEnough (enough_for why (Some n)) (left_after s p.mv) → Some p ≡ least_pick s
made_kept s p why n is known enough =
    let few : left_after s p.mv ≤ n = few_enough why (Some n) (left_after s p.mv) enough in
    promise_kept s p is (omega (arith, few, known))

-- and where it was undone
pub tried_kept : (s : PlanState) (p : Proposal) (left n : ℕ) → IsPromising s p → n ≡ least_known s p.mv → left ≡ left_after s p.mv → nat_le left n ≡ true → Some p ≡ least_pick s
tried_kept s p left n is known counted few =
    let le : left ≤ n = leb-true left n few in
    promise_kept s p is (omega (arith, le, known, counted))
