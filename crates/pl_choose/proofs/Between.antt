-- A move that starts between two legal ones, and places the same, is legal.
use Rattle.std.proofs.Common.{◌≡◌, ℕ, ◌+◌, ◌-◌, ◌≤◌, ◌<◌, true, false, List, [], ◌∷◌, map, filter, refl, ap, arith, inr}
use Rattle.std.specs.Prelude.{All, Option, Some, None, ◌&&◌, is_none, nat_le}
use Rattle.std.specs.List.{list_all}
use Rattle.std.proofs.lemmas.Bool.{and_from, and_parts, leb-true}
use Rattle.std.proofs.lemmas.List.Elements.{All-nil, All-cons, All-head, All-tail}
use Rattle.pl_plan.specs.declared.activity.Activity.{Activity}
use Rattle.pl_plan.specs.declared.repair.RepairMove.{RepairMove}
use Rattle.pl_plan.specs.declared.repair.RepairMove.TheVariants.{Add, Delete, Shift, Detail, Abstract, Assign, Drop}
use Rattle.pl_semantics.specs.declared.plan_state.PlanState.{PlanState}
use Rattle.pl_semantics.specs.declared.refusal.Refusal.{Refusal}
use Rattle.pl_semantics.specs.PlanStates.{floor_of, found}
use Rattle.pl_semantics.specs.Legal.{MayBeMade, is_legal}
use Rattle.pl_semantics.specs.Moves.{is_proper, is_under, moved, moved_with, refusal_of, root_for}
use Rattle.pl_semantics.proofs.Refusing.{may, not_refused}
use Rattle.pl_moves.specs.Runs.{start_of, goes_on}
use Rattle.pl_bounds.proofs.Alike.{alike_shift, alike_add}
use Rattle.pl_choose.specs.declared.stretch.Stretch.{Stretch}
use Rattle.pl_choose.specs.Stretches.{is_kin, is_within, IsStretch}

is_made : (s : PlanState) (m : RepairMove) → is_legal s m ≡ true → MayBeMade s m
is_made s m legal = by (refusal_of s m) refl
  where
    by : (o : Option Refusal) → refusal_of s m ≡ o → MayBeMade s m
    by None is = may s m is
    by (Some r) is = let bad : false ≡ true = rw is at legal in absurd (cc)

legal_if : (s : PlanState) (m : RepairMove) → MayBeMade s m → is_legal s m ≡ true
legal_if s m made = ap (λ (o : Option Refusal). is_none o) (not_refused s m made)

-- of activities that one change leaves so another one does, if it does of each
all_moved : (P : Activity → Type 0) (f g : Activity → Activity) → ((y : Activity) → P (f y) → P (g y)) → (ys : List Activity) → All P (map f ys) → All P (map g ys)
all_moved P f g up [] all = All-nil P
all_moved P f g up (y ∷ ys) all = All-cons P (g y) (map g ys) (up y (All-head P (f y) (map f ys) all)) (all_moved P f g up ys (All-tail P (f y) (map f ys) all))

module _ (s : PlanState) (a t b : ℕ) (low : a ≤ t) (high : t ≤ b) where
  abbrev IsAbove : Activity → Type 0
  IsAbove x = floor_of s ≤ x.start

  abbrev IsWithin : Activity → Type 0
  IsWithin x = x.start < s.model.horizon

  above : (o : Option Activity) → All IsAbove (moved_with s a o) → All IsAbove (moved_with s t o)
  above None all = all
  above (Some x) all = all_moved IsAbove (moved x.start a) (moved x.start t) later (filter (is_under s x.id) s.plan.activities) all
    where
      later : (y : Activity) → IsAbove (moved x.start a y) → IsAbove (moved x.start t y)
      later y up = let so : floor_of s ≤ (y.start + a) - x.start = up in omega (arith, low, so)

  within : (o : Option Activity) → All IsWithin (moved_with s b o) → All IsWithin (moved_with s t o)
  within None all = all
  within (Some x) all = all_moved IsWithin (moved x.start b) (moved x.start t) earlier (filter (is_under s x.id) s.plan.activities) all
    where
      earlier : (y : Activity) → IsWithin (moved x.start b y) → IsWithin (moved x.start t y)
      earlier y lt = let so : (y.start + b) - x.start < s.model.horizon = lt in omega (arith, high, so)

  shift_between : (id : ℕ) → MayBeMade s (Shift id a) → MayBeMade s (Shift id b) → MayBeMade s (Shift id t)
  shift_between id one other = record {
    unlocked = one.unlocked;
    above = above (found s id) one.above;
    within = within (found s id) other.within;
    room = one.room;
  }

  add_between : (kind : ℕ) (goal : Option ℕ) → MayBeMade s (Add kind a goal) → MayBeMade s (Add kind b goal) → MayBeMade s (Add kind t goal)
  add_between kind goal one other =
      let up : floor_of s ≤ a = All-head IsAbove (root_for s kind a goal) [] one.above in
      let lt : b < s.model.horizon = All-head IsWithin (root_for s kind b goal) [] other.within in
      record {
        unlocked = one.unlocked;
        above = All-cons IsAbove (root_for s kind t goal) [] (omega (arith, low, up)) (All-nil IsAbove);
        within = All-cons IsWithin (root_for s kind t goal) [] (omega (arith, high, lt)) (All-nil IsWithin);
        room = one.room;
      }

shifts : (s : PlanState) (id a t b : ℕ) (one m other : RepairMove) → one ≡ Shift id a → m ≡ Shift id t → other ≡ Shift id b → start_of one ≤ start_of m → start_of m ≤ start_of other → is_legal s one ≡ true → is_legal s other ≡ true → is_legal s m ≡ true
shifts s id a t b one m other first is last low high legal_one legal_other =
    let le : a ≤ t = rw (first, is) at low in
    let ge : t ≤ b = rw (is, last) at high in
    let at_first : is_legal s (Shift id a) ≡ true = rw first at legal_one in
    let at_last : is_legal s (Shift id b) ≡ true = rw last at legal_other in
    rw is (legal_if s (Shift id t) (shift_between s a t b le ge id (is_made s (Shift id a) at_first) (is_made s (Shift id b) at_last)))

adds : (s : PlanState) (kind : ℕ) (goal : Option ℕ) (a t b : ℕ) (one m other : RepairMove) → one ≡ Add kind a goal → m ≡ Add kind t goal → other ≡ Add kind b goal → start_of one ≤ start_of m → start_of m ≤ start_of other → is_legal s one ≡ true → is_legal s other ≡ true → is_legal s m ≡ true
adds s kind goal a t b one m other first is last low high legal_one legal_other =
    let le : a ≤ t = rw (first, is) at low in
    let ge : t ≤ b = rw (is, last) at high in
    let at_first : is_legal s (Add kind a goal) ≡ true = rw first at legal_one in
    let at_last : is_legal s (Add kind b goal) ≡ true = rw last at legal_other in
    rw is (legal_if s (Add kind t goal) (add_between s a t b le ge kind goal (is_made s (Add kind a goal) at_first) (is_made s (Add kind b goal) at_last)))

pub legal_between : (s : PlanState) (of one m other : RepairMove) → goes_on of one ≡ true → goes_on of other ≡ true → is_legal s one ≡ true → is_legal s other ≡ true → goes_on of m ≡ true → start_of one ≤ start_of m → start_of m ≤ start_of other → is_legal s m ≡ true
legal_between s (Shift id start) one m other first last legal_one legal_other on low high =
    let a = alike_shift id start one (inr first) in
    let t = alike_shift id start m (inr on) in
    let b = alike_shift id start other (inr last) in
    shifts s id a.0 t.0 b.0 one m other a.1 t.1 b.1 low high legal_one legal_other
legal_between s (Add kind start goal) one m other first last legal_one legal_other on low high =
    let a = alike_add kind start goal one (inr first) in
    let t = alike_add kind start goal m (inr on) in
    let b = alike_add kind start goal other (inr last) in
    adds s kind goal a.0 t.0 b.0 one m other a.1 t.1 b.1 low high legal_one legal_other
legal_between s (Delete id) one m other first last legal_one legal_other on low high = absurd (cc)
legal_between s (Detail id alternative) one m other first last legal_one legal_other on low high = absurd (cc)
legal_between s (Abstract id) one m other first last legal_one legal_other on low high = absurd (cc)
legal_between s (Assign id param value) one m other first last legal_one legal_other on low high = absurd (cc)
legal_between s (Drop goal) one m other first last legal_one legal_other on low high = absurd (cc)

-- ---- some that make sense and place the same

pub all_kin : (s : PlanState) (first : RepairMove) (ms : List RepairMove) → All (λ m. is_proper s m ≡ true) ms → All (λ m. goes_on first m ≡ true) ms → All (λ m. is_kin s first m ≡ true) ms
all_kin s first [] proper same = All-nil (λ m. is_kin s first m ≡ true)
all_kin s first (m ∷ ms) proper same =
    All-cons (λ x. is_kin s first x ≡ true) m ms
    (and_from (is_proper s m) (goes_on first m) (All-head (λ x. is_proper s x ≡ true) m ms proper) (All-head (λ x. goes_on first x ≡ true) m ms same))
    (all_kin s first ms (All-tail (λ x. is_proper s x ≡ true) m ms proper) (All-tail (λ x. goes_on first x ≡ true) m ms same))

-- a stretch from one of them to another, where both are legal
pub reaches : (s : PlanState) (of one other : RepairMove) (from to : ℕ) → is_kin s of one ≡ true → is_kin s of other ≡ true → is_legal s one ≡ true → is_legal s other ≡ true → from ≡ start_of one → to ≡ start_of other → IsStretch s (record { of = of; from = from; to = to })
reaches s of one other from to kin kin_too legal legal_too first last = λ m same low high.
    let a : start_of one ≤ start_of m = omega (arith, low, first) in
    let b : start_of m ≤ start_of other = omega (arith, high, last) in
    legal_between s of one m other (and_parts (is_proper s one) (goes_on of one) kin).1 (and_parts (is_proper s other) (goes_on of other) kin_too).1 legal legal_too same a b

-- ---- what a stretch has

pub has_legal : (s : PlanState) (r : Stretch) → IsStretch s r → (m : RepairMove) → is_within r m ≡ true → is_legal s m ≡ true
has_legal s r stretch m has =
    let parts = and_parts (goes_on r.of m) (nat_le r.from (start_of m) && nat_le (start_of m) r.to) has in
    let ends = and_parts (nat_le r.from (start_of m)) (nat_le (start_of m) r.to) parts.1 in
    stretch m parts.0 (leb-true r.from (start_of m) ends.0) (leb-true (start_of m) r.to ends.1)

-- of these none is refused
pub has_all_legal : (s : PlanState) (r : Stretch) → IsStretch s r → (ms : List RepairMove) → list_all (is_within r) ms ≡ true → filter (is_legal s) ms ≡ ms
has_all_legal s r stretch [] all = refl
has_all_legal s r stretch (m ∷ ms) all =
    let parts = and_parts (is_within r m) (list_all (is_within r) ms) all in
    rw (has_legal s r stretch m parts.0) (ap (λ (ys : List RepairMove). m ∷ ys) (has_all_legal s r stretch ms parts.1))
