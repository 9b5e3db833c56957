-- What is remembered holds in the plan after a change, and does not depend on the id that is given next.
use Rattle.std.proofs.Common.{◌≡◌, ℕ, suc, eqb, Bool, false, cond, List, [], ◌∷◌, ◌++◌, map, Option, Some, None, refl, sym, ap, ◌∙◌, subst, arith}
use Rattle.std.specs.Prelude.{◌≢◌, All, IsSome}
use Rattle.std.proofs.lemmas.Bool.{ne_eqb}
use Rattle.std.proofs.lemmas.List.Elements.{All-nil, All-cons, All-head, All-tail}
use Rattle.pl_plan.specs.declared.activity.Activity.{Activity}
use Rattle.pl_plan.specs.declared.repair.RepairMove.{RepairMove}
use Rattle.pl_plan.specs.Activities.{AreRising, IsLive, activity_of, without}
use Rattle.pl_plan.specs.Trees.{id_of}
use Rattle.pl_plan.proofs.Ids.{rising-without}
use Rattle.pl_plan.proofs.Lookups.{found-without}
use Rattle.pl_semantics.specs.declared.plan_state.PlanState.{PlanState}
use Rattle.pl_semantics.specs.PlanStates.{of_found}
use Rattle.pl_semantics.specs.Whole.{IsWhole}
use Rattle.pl_semantics.proofs.Found.{found_id}
use Rattle.pl_update.specs.Changes.Changes.{with_next}
use Rattle.pl_update.specs.Changes.Putting.{CanPut}
use Rattle.pl_update.specs.Changes.Replaced.{CanReplace, taken, with_plan}
use Rattle.pl_update.specs.Timelines.Laws.{AreOnce}
use Rattle.pl_update.proofs.AboutChanges.Putting.{puttable}
use Rattle.pl_memo.specs.declared.difference.Difference.{Difference}
use Rattle.pl_memo.specs.declared.memory.Answer.{Answer}
use Rattle.pl_memo.specs.declared.memory.Memory.{Memory}
use Rattle.pl_memo.specs.Differences.{CanLeave, IsChangedBy, no_difference}
use Rattle.pl_memo.specs.Memories.{AreProper, AreRemembered, Holds, IsFewestAt, IsMadeFrom, alone, going, nothing}
use Rattle.pl_memo.proofs.Changing.{after_replacement, none_differs}

-- ---- the next id

holds_next : (s : PlanState) (n : ℕ) (a : Answer) → Holds s a → Holds (with_next n s) a
holds_next s n a h = record {
  before = h.before;
  whole = h.whole;
  beside = record { model = h.beside.model; goals = h.beside.goals; bases = h.beside.bases; moment = h.beside.moment; committed = h.beside.committed; limit = h.beside.limit };
  differs = h.differs;
  proper = h.proper;
  fewest = h.fewest;
}

pub remembered_next : (s : PlanState) (n : ℕ) (m : Memory) → AreRemembered s m → AreRemembered (with_next n s) m
remembered_next s n m h = λ k d lt. holds_next s n _ (h k d lt)

-- ---- what leaves, as it stands

pub going_ids : (xs : List Activity) (gone : List ℕ) → All (λ id. IsLive id xs) gone → map id_of (going xs gone) ≡ gone
going_ids xs [] live = refl
going_ids xs (id ∷ gone) live = by (activity_of id xs) refl (All-head (λ n. IsLive n xs) id gone live) (going_ids xs gone (All-tail (λ n. IsLive n xs) id gone live))
  where
    by : (o : Option Activity) → activity_of id xs ≡ o → IsSome o → map id_of (going xs gone) ≡ gone → map id_of (of_found alone (activity_of id xs) ++ going xs gone) ≡ id ∷ gone
    by None e some more = absurd (cc)
    by (Some a) e some more = rw (e, found_id id xs a e, more) refl

-- it leaves the activities that are left of these
going_leave : (xs ys : List Activity) (gone : List ℕ) → AreRising ys → AreOnce gone → All (λ id. IsLive id xs) gone → All (λ id. activity_of id ys ≡ activity_of id xs) gone → CanLeave ys (going xs gone)
going_leave xs ys [] rises once live same = tt
going_leave xs ys (id ∷ gone) rises once live same =
    by (activity_of id xs) refl (All-head (λ n. IsLive n xs) id gone live)
    (λ (a : Activity) (is : a.id ≡ id).
    going_leave xs (without a.id ys) gone (rising-without a.id 0 ys rises) rest_once (All-tail (λ n. IsLive n xs) id gone live) (still a is gone apart (All-tail (λ k. activity_of k ys ≡ activity_of k xs) id gone same)))
  where
    apart : All (λ n. id ≢ n) gone
    apart k d lt = once 0 (suc k) d (omega arith) (omega (arith, lt))

    rest_once : AreOnce gone
    rest_once i j d lt within = once (suc i) (suc j) d (omega (arith, lt)) (omega (arith, within))

    still : (b : Activity) → b.id ≡ id → (ns : List ℕ) → All (λ n. id ≢ n) ns → All (λ n. activity_of n ys ≡ activity_of n xs) ns → All (λ n. activity_of n (without b.id ys) ≡ activity_of n xs) ns
    still b is [] others all = All-nil (λ n. activity_of n (without b.id ys) ≡ activity_of n xs)
    still b is (n ∷ ns) others all =
        let other : eqb b.id n ≡ false = ne_eqb b.id n (λ e. All-head (λ k. id ≢ k) n ns others (sym is ∙ e)) in
        All-cons (λ k. activity_of k (without b.id ys) ≡ activity_of k xs) n ns
        (found-without b.id 0 ys n rises ∙ (ap (λ (c : Bool). cond c None (activity_of n ys)) other ∙ All-head (λ k. activity_of k ys ≡ activity_of k xs) n ns all))
        (still b is ns (All-tail (λ k. id ≢ k) n ns others) (All-tail (λ k. activity_of k ys ≡ activity_of k xs) n ns all))

    by : (o : Option Activity) → activity_of id xs ≡ o → IsSome o → ((a : Activity) → a.id ≡ id → CanLeave (without a.id ys) (going xs gone)) → CanLeave ys (of_found alone (activity_of id xs) ++ going xs gone)
    by None e some more = absurd (cc)
    by (Some a) e some more =
        let is : a.id ≡ id = found_id id xs a e in
        let here : activity_of a.id ys ≡ Some a = ap (λ (n : ℕ). activity_of n ys) is ∙ (All-head (λ k. activity_of k ys ≡ activity_of k xs) id gone same ∙ e) in
        subst (λ (o : Option Activity). CanLeave ys (of_found alone o ++ going xs gone)) (sym e) (here, more a is)

all_same : (xs : List Activity) (ns : List ℕ) → All (λ n. activity_of n xs ≡ activity_of n xs) ns
all_same xs [] = All-nil (λ n. activity_of n xs ≡ activity_of n xs)
all_same xs (n ∷ ns) = All-cons (λ k. activity_of k xs ≡ activity_of k xs) n ns refl (all_same xs ns)

-- a replacement in which each id that goes is named once
pub made_from : (s : PlanState) (gone : List ℕ) (more : List Activity) → IsWhole s → AreOnce gone → CanReplace s gone more → IsMadeFrom s (with_plan gone more s) (going s.plan.activities gone) more
made_from s gone more whole once can =
    let ids : map id_of (going s.plan.activities gone) ≡ gone = going_ids s.plan.activities gone can.live in
    record {
      whole = whole;
      can = subst (λ (ns : List ℕ). CanReplace s ns more) (sym ids) can;
      leave = going_leave s.plan.activities s.plan.activities gone whole.rising once can.live (all_same s.plan.activities gone);
      is = ap (λ (ns : List ℕ). with_plan ns more s) (sym ids);
    }

-- ---- answers

pub holds_new : (s : PlanState) (moves : List RepairMove) (place : ℕ) → IsWhole s → AreProper s moves → IsFewestAt s moves place → Holds s (record { since = no_difference; moves = moves; place = place })
holds_new s moves place whole proper fewest = record {
  before = s;
  whole = whole;
  beside = record { model = refl; goals = refl; bases = refl; moment = refl; committed = refl; limit = refl };
  differs = none_differs s.plan.activities;
  proper = proper;
  fewest = fewest;
}

pub holds_after : (s t : PlanState) (left more : List Activity) (a : Answer) (d : Difference) → IsMadeFrom s t left more → Holds s a → IsChangedBy left more a.since d → Holds t (record a { since = d })
holds_after s t left more a d made h changed =
    let xs : List Activity = s.plan.activities in
    let put : CanPut (taken xs (map id_of left)) more = puttable xs (map id_of left) more made.whole.rising made.can.once made.can.free in
    let then_ : Holds (with_plan (map id_of left) more s) (record a { since = d }) = record {
      before = h.before;
      whole = h.whole;
      beside = record { model = h.beside.model; goals = h.beside.goals; bases = h.beside.bases; moment = h.beside.moment; committed = h.beside.committed; limit = h.beside.limit };
      differs = after_replacement h.before.plan.activities xs a.since d left more made.whole.rising h.differs made.leave put changed;
      proper = h.proper;
      fewest = h.fewest;
    } in
    subst (λ (w : PlanState). Holds w (record a { since = d })) (sym made.is) then_

-- ---- a memory

pub none_remembered : (s : PlanState) (m : Memory) → m ≡ nothing → AreRemembered s m
none_remembered s m is = subst (λ (n : Memory). AreRemembered s n) (sym is) (All-nil (Holds s))

-- what a change makes of a memory holds after a replacement in which each id that goes is named once
pub remembered_after : (s : PlanState) (gone : List ℕ) (more : List Activity) (m n : Memory) → IsWhole s → AreOnce gone → CanReplace s gone more
    → ((t u : PlanState) → IsMadeFrom t u (going s.plan.activities gone) more → AreRemembered t m → AreRemembered u n) → AreRemembered s m → AreRemembered (with_plan gone more s) n
remembered_after s gone more m n whole once can changed are = changed s (with_plan gone more s) (made_from s gone more whole once can) are
