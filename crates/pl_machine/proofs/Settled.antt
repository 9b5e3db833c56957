-- The activities that have started and are committed: what changes leave of what is known of them.
use Rattle.std.proofs.Common.{◌≡◌, ℕ, suc, ◌+◌, ◌≤◌, eqb, leb, ltb, Bool, true, false, ◌&&◌, List, [], ◌∷◌, map, get_or, Some, None, Option, inl, inr, refl, sym, ◌∙◌, subst, arith}
use Rattle.std.specs.Prelude.{All, filter, not, ◌||◌, slice_get, if◌then◌else◌, min}
use Rattle.std.proofs.lemmas.Bool.{and_parts, and_from, leb-true, le-leb, ltb-true, lt-ltb}
use Rattle.std.proofs.lemmas.List.Elements.{All-nil, All-cons, All-weaker, All-append, All-filter, All-map}
use Rattle.pl_model.specs.declared.alternatives.Slot.{Slot}
use Rattle.pl_model.specs.declared.alternatives.Alternative.{Alternative}
use Rattle.pl_plan.specs.declared.activity.Activity.{Activity}
use Rattle.pl_plan.specs.declared.repair.RepairMove.{RepairMove}
use Rattle.pl_plan.specs.declared.repair.RepairMove.TheVariants.{Add, Delete, Shift, Detail, Abstract, Assign, Drop}
use Rattle.pl_plan.specs.Activities.{ended}
use Rattle.pl_plan.specs.Fitting.{FitsAlone}
use Rattle.pl_plan.specs.Trees.{descends}
use Rattle.pl_plan.proofs.Climbs.{all_at}
use Rattle.pl_semantics.specs.declared.plan_state.PlanState.{PlanState}
use Rattle.pl_semantics.specs.PlanStates.{found, is_committed}
use Rattle.pl_semantics.specs.Whole.{IsWhole}
use Rattle.pl_semantics.specs.Legal.{MayBeMade}
use Rattle.pl_semantics.specs.Moves.{applied, is_under, moved, shifted, root_for, alternatives_at, child_for, children_from, children_in, children_for, detailed, with_value, has_id}
use Rattle.pl_semantics.proofs.Refusing.{may}
use Rattle.pl_board.specs.Boards.{Standing, after}
use Rattle.pl_machine.specs.declared.ahead.Ahead.{Ahead}
use Rattle.pl_machine.specs.declared.id_range.IdRange.{IdRange}
use Rattle.pl_machine.specs.declared.change.Change.{Change}
use Rattle.pl_machine.specs.declared.change.Change.TheVariants.{Accept, Tell, Tick, Commit, Repair, Measure, Withdraw}
use Rattle.pl_machine.specs.Changes.{changed, is_tick, CanChange}
use Rattle.pl_machine.specs.Calm.{is_settled, IsKnown, IsAheadAt, IsAhead, ahead_after}
use Rattle.pl_machine.proofs.Calm.{calm_still, calm_later}
use Rattle.pl_machine.proofs.Granting.{commit_bounds}

-- ---- a repair

-- what is settled is not changed
unlocked_not : (under started early : Bool) → (under && early) ≡ false → (started && early) ≡ true → under ≡ false
unlocked_not true started early free settled = absurd (let is : early ≡ true = (and_parts started early settled).1 in let bad : true ≡ false = sym is ∙ free in cc)
unlocked_not false started early free settled = refl

module _ (s : PlanState) (seen : ℕ) (ranges : List IdRange) (below : seen ≤ s.next_id) (known : All (IsKnown s.moment s.committed seen ranges) s.plan.activities) where
  abbrev xs : List Activity
  xs = s.plan.activities

  abbrev Known : Activity → Type 0
  Known a = IsKnown s.moment s.committed seen ranges a

  -- an activity with the same id and the same start
  known_if : (b : Bool) (x y : Activity) → x.id ≡ y.id → x.start ≡ y.start → Known y → Known (if b then x else y)
  known_if true x y id start is = rw (id, start) is
  known_if false x y id start is = is

  -- one with the same id, where what is settled stays as it is
  known_unless : (b : Bool) (x y : Activity) → x.id ≡ y.id → (is_settled s.moment s.committed y ≡ true → b ≡ false) → Known y → Known (if b then x else y)
  known_unless b x y id stays (inl settled) = rw (stays settled) (inl settled)
  known_unless true x y id stays (inr rest) = inr (rw id rest)
  known_unless false x y id stays (inr rest) = inr rest

  known_map : (test : Activity → Bool) (f : Activity → Activity) → ((a : Activity) → (f a).id ≡ a.id) → ((a : Activity) → (f a).start ≡ a.start) → (ys : List Activity) → All Known ys → All Known (map (λ a. if test a then f a else a) ys)
  known_map test f id start ys is =
      All-map Known (λ (a : Activity). if test a then f a else a) ys
      (All-weaker Known (λ (a : Activity). Known (if test a then f a else a)) (λ a k. known_if (test a) (f a) a (id a) (start a) k) ys is)

  known_ended : (id end : ℕ) → All Known (map (λ a. if eqb a.id id then ended end a else a) xs)
  known_ended id end = known_map (λ (a : Activity). eqb a.id id) (ended end) (λ a. refl) (λ a. refl) xs known

  -- what is settled does not descend from an activity that is not locked
  apart : (id : ℕ) → All (λ a. (is_under s id a && is_committed s a) ≡ false) xs → All (λ a. is_settled s.moment s.committed a ≡ true → is_under s id a ≡ false) xs
  apart id free = All-weaker (λ (a : Activity). (is_under s id a && is_committed s a) ≡ false) (λ (a : Activity). is_settled s.moment s.committed a ≡ true → is_under s id a ≡ false) (λ a is passes. unlocked_not (is_under s id a) (leb a.start s.moment) (is_committed s a) is passes) xs free

  known_shifted : (whole : IsWhole s) (id to : ℕ) → All (λ a. (is_under s id a && is_committed s a) ≡ false) xs → (o : Option Activity) → found s id ≡ o → All Known (shifted s to o)
  known_shifted whole id to free None is = known
  known_shifted whole id to free (Some top) is =
      let same : top.id ≡ id = (all_at (FitsAlone s.model) xs id top whole.fits.each is).1 in
      All-map Known (λ (a : Activity). if is_under s top.id a then moved top.start to a else a) xs
      (λ k d lt. by same (get_or xs k d) (apart id free k d lt) (known k d lt))
    where
      by : top.id ≡ id → (a : Activity) → (is_settled s.moment s.committed a ≡ true → is_under s id a ≡ false) → Known a → Known (if is_under s top.id a then moved top.start to a else a)
      by same a stays is = known_unless (is_under s top.id a) (moved top.start to a) a refl (λ passes. subst (λ n. is_under s n a ≡ false) (sym same) (stays passes)) is

  -- new activities are not seen yet
  late_children : (parent : Activity) (n : ℕ) (slots : List Slot) (offsets : List ℕ) → All Known (children_from s parent n slots offsets)
  late_children parent n [] offsets = All-nil Known
  late_children parent n (at ∷ more) [] = All-nil Known
  late_children parent n (at ∷ more) (offset ∷ offsets) =
      All-cons Known (child_for s parent.id n (s.next_id + n) at (parent.start + offset)) (children_from s parent (suc n) more offsets) (inr (inl (omega (arith, below)))) (late_children parent (suc n) more offsets)

  late_in : (parent : Activity) (o : Option Alternative) → All Known (children_in s parent o)
  late_in parent None = All-nil Known
  late_in parent (Some alternative) = late_children parent 0 alternative.slots alternative.offsets

  late_for : (alternative : ℕ) (o : Option Activity) → All Known (children_for s alternative o)
  late_for alternative None = All-nil Known
  late_for alternative (Some a) = late_in a (slice_get (alternatives_at s a) alternative)

  known_repair : (m : RepairMove) → IsWhole s → MayBeMade s m → All Known (applied s m).plan.activities
  unfolding applied
  known_repair (Add kind start goal) whole may = All-append Known xs (root_for s kind start goal ∷ []) known (All-cons Known (root_for s kind start goal) [] (inr (inl below)) (All-nil Known))
  known_repair (Delete id) whole may = All-filter (λ (a : Activity). not (descends xs id a.id)) Known xs known
  known_repair (Shift id start) whole may = known_shifted whole id start may.unlocked (found s id) refl
  known_repair (Detail id alternative) whole may =
      All-append Known (map (λ a. if has_id id a then detailed alternative a else a) xs) (children_for s alternative (found s id))
      (known_map (has_id id) (detailed alternative) (λ a. refl) (λ a. refl) xs known) (late_for alternative (found s id))
  known_repair (Abstract id) whole may =
      known_map (λ (a : Activity). eqb a.id id) (λ (a : Activity). record a { detail = None }) (λ a. refl) (λ a. refl) (filter (λ a. eqb a.id id || not (descends xs id a.id)) xs)
      (All-filter (λ (a : Activity). eqb a.id id || not (descends xs id a.id)) Known xs known)
  known_repair (Assign id n value) whole may = known_map (has_id id) (with_value n value) (λ a. refl) (λ a. refl) xs known
  known_repair (Drop number) whole may = known

-- ---- later

pub later_settled : (moment later c d : ℕ) (a : Activity) → moment ≤ later → c ≤ d → is_settled moment c a ≡ true → is_settled later d a ≡ true
later_settled moment later c d a le le2 settled =
    let parts = and_parts (leb a.start moment) (ltb a.start c) settled in
    let started = leb-true a.start moment parts.0 in
    let early = ltb-true a.start c parts.1 in
    and_from (leb a.start later) (ltb a.start d) (le-leb a.start later (omega (arith, started, le))) (lt-ltb a.start d (omega (arith, early, le2)))

-- what is withdrawn has not started
still_settled : (moment c : ℕ) (a : Activity) → is_settled moment c a ≡ true → is_settled moment (min c (moment + 1)) a ≡ true
still_settled moment c a settled =
    let parts = and_parts (leb a.start moment) (ltb a.start c) settled in
    let started = leb-true a.start moment parts.0 in
    let early = ltb-true a.start c parts.1 in
    and_from (leb a.start moment) (ltb a.start (min c (moment + 1))) parts.0 (lt-ltb a.start (min c (moment + 1)) (omega (arith, started, early)))

-- another moment, and another end of what is committed, by which all that was settled is settled
known_by : (moment later c d seen : ℕ) (ranges : List IdRange) → ((a : Activity) → is_settled moment c a ≡ true → is_settled later d a ≡ true) → (xs : List Activity) → All (IsKnown moment c seen ranges) xs → All (IsKnown later d seen ranges) xs
known_by moment later c d seen ranges stays xs known = All-weaker (IsKnown moment c seen ranges) (IsKnown later d seen ranges) by xs known
  where
    by : (a : Activity) → IsKnown moment c seen ranges a → IsKnown later d seen ranges a
    by a (inl settled) = inl (stays a settled)
    by a (inr rest) = inr rest

pub ahead_later : (s : PlanState) (before : ℕ) (ahead : Ahead) (ranges : List IdRange) → before ≤ s.moment → IsAheadAt before s ahead ranges → IsAhead s ahead ranges
ahead_later s before ahead ranges le looked = record {
  calm = calm_later before s.moment ahead.next_start s.plan.activities le looked.calm;
  known = known_by before s.moment s.committed s.committed ahead.seen ranges (λ a. later_settled before s.moment s.committed s.committed a le (omega arith)) s.plan.activities looked.known;
  order = looked.order;
  seen = looked.seen;
}

-- ---- changes

-- a repair leaves the present, and how far is committed
repaired : (s : PlanState) (m : RepairMove) (seen : ℕ) (ranges : List IdRange) → All (IsKnown s.moment s.committed seen ranges) (applied s m).plan.activities → All (IsKnown (applied s m).moment (applied s m).committed seen ranges) (applied s m).plan.activities
unfolding applied
repaired s (Add kind start goal) seen ranges is = is
repaired s (Delete id) seen ranges is = is
repaired s (Shift id start) seen ranges is = is
repaired s (Detail id alternative) seen ranges is = is
repaired s (Abstract id) seen ranges is = is
repaired s (Assign id n value) seen ranges is = is
repaired s (Drop number) seen ranges is = is

-- the ids that are given only rise
gives_on : (s : PlanState) (m : RepairMove) → s.next_id ≤ (applied s m).next_id
unfolding applied
gives_on s (Add kind start goal) = omega arith
gives_on s (Delete id) = omega arith
gives_on s (Shift id start) = omega arith
gives_on s (Detail id alternative) = omega arith
gives_on s (Abstract id) = omega arith
gives_on s (Assign id n value) = omega arith
gives_on s (Drop number) = omega arith

goes_on : (s : PlanState) (change : Change) → s.next_id ≤ (changed change s).next_id
goes_on s (Accept goal) = omega arith
goes_on s (Tell line value) = omega arith
goes_on s (Tick moment) = omega arith
goes_on s (Commit h) = omega arith
goes_on s (Repair m) = gives_on s m
goes_on s (Measure id end) = omega arith
goes_on s Withdraw = omega arith

known_still : (s : PlanState) (change : Change) (seen : ℕ) (ranges : List IdRange) → is_tick change ≡ false → IsWhole s → CanChange s change → seen ≤ s.next_id → All (IsKnown s.moment s.committed seen ranges) s.plan.activities
    → All (IsKnown (changed change s).moment (changed change s).committed seen ranges) (changed change s).plan.activities
known_still s (Accept goal) seen ranges still whole can below known = known
known_still s (Tell line value) seen ranges still whole can below known = known
known_still s (Tick moment) seen ranges still whole can below known = absurd (cc)
known_still s (Commit h) seen ranges still whole can below known =
    known_by s.moment s.moment s.committed h seen ranges (λ a. later_settled s.moment s.moment s.committed h a (omega arith) (commit_bounds s h can).0) s.plan.activities known
known_still s (Repair m) seen ranges still whole can below known = repaired s m seen ranges (known_repair s seen ranges below known m whole (may s m can.1))
known_still s (Measure id end) seen ranges still whole can below known = known_ended s seen ranges below known id end
known_still s Withdraw seen ranges still whole can below known =
    known_by s.moment s.moment s.committed (min s.committed (s.moment + 1)) seen ranges (λ a. still_settled s.moment s.committed a) s.plan.activities known

same_seen : (change : Change) (ahead : Ahead) → (ahead_after change ahead).seen ≡ ahead.seen
same_seen (Accept goal) ahead = refl
same_seen (Tell line value) ahead = refl
same_seen (Tick moment) ahead = refl
same_seen (Commit h) ahead = refl
same_seen (Repair m) ahead = refl
same_seen (Measure id end) ahead = refl
same_seen Withdraw ahead = refl

pub ahead_still : (s : PlanState) (change : Change) (ahead : Ahead) (ranges : List IdRange) → is_tick change ≡ false → IsWhole s → CanChange s change → IsAhead s ahead ranges → IsAhead (changed change s) (ahead_after change ahead) ranges
ahead_still s change ahead ranges still whole can looked = record {
  calm = calm_still s change ahead still looked.calm;
  known = rw (same_seen change ahead) (known_still s change ahead.seen ranges still whole can looked.seen looked.known);
  order = rw (same_seen change ahead) looked.order;
  seen = rw (same_seen change ahead) (let le = goes_on s change in let below = looked.seen in omega (arith, le, below));
}

-- a change that leaves the present
pub ahead_on : (s : PlanState) (change : Change) (ahead ahead2 : Ahead) (ranges : List IdRange) (b : Standing) → b ≡ after (changed change s) → ahead2 ≡ ahead_after change ahead → is_tick change ≡ false
    → IsWhole s → CanChange s change → IsAhead s ahead ranges → IsAhead b.state ahead2 ranges
ahead_on s change ahead ahead2 ranges b made is still whole can looked = rw (made, is) (ahead_still s change ahead ranges still whole can looked)

-- a tick leaves how far was looked at the earlier moment
pub ahead_ticks : (s : PlanState) (change : Change) (ahead : Ahead) (ranges : List IdRange) → is_tick change ≡ true → IsAhead s ahead ranges → IsAheadAt s.moment (changed change s) (ahead_after change ahead) ranges
ahead_ticks s (Accept goal) ahead ranges ticks looked = absurd (cc)
ahead_ticks s (Tell line value) ahead ranges ticks looked = absurd (cc)
ahead_ticks s (Tick moment) ahead ranges ticks looked = record { calm = looked.calm; known = looked.known; order = looked.order; seen = looked.seen }
ahead_ticks s (Commit h) ahead ranges ticks looked = absurd (cc)
ahead_ticks s (Repair m) ahead ranges ticks looked = absurd (cc)
ahead_ticks s (Measure id end) ahead ranges ticks looked = absurd (cc)
ahead_ticks s Withdraw ahead ranges ticks looked = absurd (cc)
