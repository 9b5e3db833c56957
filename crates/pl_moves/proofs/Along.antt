-- A board that goes on from the first move of a run to the others, and home.
use Rattle.std.proofs.Common.{◌≡◌, ℕ, zero, suc, add-one, ◌+◌, ◌^◌, ◌<◌, ◌≤◌, List, [], ◌∷◌, ◌++◌, map, length, get_or, true, refl, sym, ap, ◌∙◌, subst, arith}
use Rattle.std.specs.Prelude.{min, take, All}
use Rattle.std.proofs.lemmas.List.Elements.{All-head, All-tail, All-cons, All-nil}
use Rattle.std.proofs.lemmas.List.{length-map, length-take-le, get_or_default}
use Rattle.pl_plan.specs.declared.activity.Activity.{Activity}
use Rattle.pl_plan.specs.declared.repair.RepairMove.{RepairMove}
use Rattle.pl_plan.specs.Trees.{id_of}
use Rattle.pl_semantics.specs.declared.plan_state.PlanState.{PlanState}
use Rattle.pl_semantics.specs.Conflicts.{conflicts_of}
use Rattle.pl_semantics.specs.Legal.{left_after}
use Rattle.pl_semantics.specs.Moves.{moved, applied}
use Rattle.pl_semantics.specs.Whole.{IsWhole}
use Rattle.pl_update.specs.Changes.Replaced.{CanReplace, with_plan}
use Rattle.pl_board.specs.Boards.{Standing, after}
use Rattle.pl_moves.specs.Changes.{IsOfActivities, gone_by, placed_by}
use Rattle.pl_moves.specs.Runs.{start_of, goes_on, counted, CanBeMade, IsTrialOf, IsCountOf}
use Rattle.pl_moves.specs.Undone.{IsUndoneBy}
use Rattle.pl_moves.proofs.Kin.{IsKin, kin_at, near_on}
use Rattle.pl_moves.proofs.Onward.{can_go, goes, comes_back}

-- ---- lists

pub get_or_next : {X : Type 0} (x : X) (xs : List X) (k : ℕ) (d e : X) → k < length xs → get_or xs k d ≡ get_or (x ∷ xs) (k + 1) e
get_or_next x xs k d e lt = rw add-one (get_or_default xs k d e lt)

noted_suc : {X : Type 0} (f : X → ℕ) (xs : List X) (k : ℕ) (d : X) → k < length xs → map f (take k xs) ++ f (get_or xs k d) ∷ [] ≡ map f (take (suc k) xs)
noted_suc f [] k d lt = absurd (omega (arith, lt))
noted_suc f (x ∷ xs) zero d lt = refl
noted_suc f (x ∷ xs) (suc k) d lt = ap (λ (l : List ℕ). f x ∷ l) (noted_suc f xs k d (omega (arith, lt)))

noted_next : {X : Type 0} (f : X → ℕ) (xs : List X) (k : ℕ) (d : X) → k < length xs → map f (take k xs) ++ f (get_or xs k d) ∷ [] ≡ map f (take (k + 1) xs)
noted_next f xs k d lt = rw add-one (noted_suc f xs k d lt)

noted_all : {X : Type 0} (f : X → ℕ) (xs : List X) (k : ℕ) (ns : List ℕ) → k ≤ length xs → ns ≡ map f (take k xs) → length ns ≡ k
noted_all f xs k ns few is = ap (λ (l : List ℕ). length l) is ∙ (length-map (take k xs) f ∙ length-take-le k xs few)

all_suc : {X : Type 0} (P : X → Type 0) (xs : List X) (k : ℕ) (d : X) → k < length xs → All P (take k xs) → P (get_or xs k d) → All P (take (suc k) xs)
all_suc P [] k d lt all one = absurd (omega (arith, lt))
all_suc P (x ∷ xs) zero d lt all one = All-cons P x [] one (All-nil P)
all_suc P (x ∷ xs) (suc k) d lt all one = All-cons P x (take (suc k) xs) (All-head P x (take k xs) all) (all_suc P xs k d (omega (arith, lt)) (All-tail P x (take k xs) all) one)

pub all_next : {X : Type 0} (P : X → Type 0) (xs : List X) (k : ℕ) (d : X) → k < length xs → All P (take k xs) → P (get_or xs k d) → All P (take (k + 1) xs)
all_next P xs k d lt all one = rw add-one (all_suc P xs k d lt all one)

-- ---- counts

pub counted_at : (s : PlanState) (m : RepairMove) (b : Standing) → b ≡ after (applied s m) → (n : ℕ) → n ≡ min (length (conflicts_of b.state)) 4294967295 → n ≡ counted s m
unfolding left_after
counted_at s m b is n e = e ∙ ap (λ (c : Standing). min (length (conflicts_of c.state)) 4294967295) is

pub all_counted : (s : PlanState) (first : RepairMove) (rest : List RepairMove) (one k : ℕ) (ns : List ℕ) → one ≡ counted s first → k ≤ length rest → ns ≡ map (counted s) (take k rest) → IsCountOf s first rest one ns
all_counted s first rest one k ns alone few noted =
    let long : length ns ≡ k = noted_all (counted s) rest k ns few noted in
    record {
      alone = alone;
      each = rw long noted;
      few = omega (arith, long, few);
    }

pub noted_then : (s : PlanState) (first : RepairMove) (rest : List RepairMove) (at : ℕ) → at < length rest → (ns : List ℕ) → ns ≡ map (counted s) (take at rest) → (b : Standing) → b ≡ after (applied s (get_or (first ∷ rest) (at + 1) first)) → (n : ℕ) → n ≡ min (length (conflicts_of b.state)) 4294967295 → ns ++ n ∷ [] ≡ map (counted s) (take (at + 1) rest)
noted_then s first rest at lt ns noted b is n e =
    let last : n ≡ counted s (get_or rest at first) = counted_at s (get_or (first ∷ rest) (at + 1) first) b is n e ∙ ap (λ (m : RepairMove). counted s m) (sym (get_or_next first rest at first first lt)) in
    ap (λ (l : List ℕ). l ++ n ∷ []) noted
    ∙ (ap (λ (k : ℕ). map (counted s) (take at rest) ++ k ∷ []) last
    ∙ noted_next (counted s) rest at first lt)

take_again : {X : Type 0} (k n : ℕ) (xs : List X) → k ≤ length (take n xs) → take k (take n xs) ≡ take k xs
take_again zero n xs few = refl
take_again (suc k) zero xs few = absurd (omega (arith, few))
take_again (suc k) (suc n) [] few = refl
take_again (suc k) (suc n) (x ∷ xs) few = ap (λ l. x ∷ l) (take_again k n xs (omega (arith, few)))

take_few : {X : Type 0} (n : ℕ) (xs : List X) → length (take n xs) ≤ length xs
take_few zero xs = omega arith
take_few (suc n) [] = omega arith
take_few (suc n) (x ∷ xs) = let le = take_few n xs in omega (arith, le)

-- of the front of some others, and of them
pub counts_more : (s : PlanState) (m : RepairMove) (n : ℕ) (more : List RepairMove) (one : ℕ) (others : List ℕ) → IsCountOf s m (take n more) one others → IsCountOf s m more one others
counts_more s m n more one others is = record {
  alone = is.alone;
  each = is.each ∙ ap (λ (l : List RepairMove). map (counted s) l) (take_again (length others) n more is.few);
  few = let le = take_few n more in omega (arith, is.few, le);
}

-- ---- moves

module _ (s : PlanState) (whole : IsWhole s) (next : s.next_id ≤ 3999999000) (first : RepairMove) (rest : List RepairMove) (of : IsOfActivities first) (can : All (CanBeMade s) (first ∷ rest)) (alike : All (λ m. goes_on first m ≡ true) rest) (gone leaving : List ℕ) (placed returning : List Activity) (trial : IsTrialOf s first gone placed leaving returning) (at : ℕ) (few : at ≤ length rest) where
  abbrev pub now_at : RepairMove
  now_at = get_or (first ∷ rest) at first

  can_first : CanBeMade s first
  can_first = can 0 first (omega arith)

  can_now : CanBeMade s now_at
  can_now = can at first (omega (arith, few))

  kin : IsKin s whole first now_at
  kin = kin_at s whole first rest of can alike at (omega (arith, few))

  module _ (d : RepairMove) (lt : at < length rest) where
    abbrev then_at : RepairMove
    then_at = get_or rest at d

    can_then : CanBeMade s then_at
    can_then = subst (λ m. CanBeMade s m) (sym (get_or_next first rest at d first lt)) (can (at + 1) first (omega (arith, lt)))

    abbrev placed_then : List Activity
    placed_then = map (moved (start_of first) (start_of then_at)) placed

    pub near_then : All (λ a. a.start + start_of then_at < 2 ^ 32) placed
    near_then = subst (λ (l : List Activity). All (λ a. a.start + start_of then_at < 2 ^ 32) l) (sym trial.placed_is) (near_on s whole first then_at (alike at d lt) can_first can_then)

    pub may_go : (b : Standing) → b ≡ after (applied s now_at) → CanReplace b.state leaving placed_then
    may_go b is =
        let here = can_go s whole next first can_first now_at kin can_now then_at (alike at d lt) can_then in
        subst (λ (c : Standing). CanReplace c.state leaving placed_then) (sym is)
        (subst (λ (l : List ℕ). CanReplace (applied s now_at) l placed_then) (sym trial.leaving_is)
        (subst (λ (l : List Activity). CanReplace (applied s now_at) (map id_of (placed_by s first)) (map (moved (start_of first) (start_of then_at)) l)) (sym trial.placed_is) here))

    pub went : (b c : Standing) → b ≡ after (applied s now_at) → c ≡ after (with_plan leaving placed_then b.state) → c ≡ after (applied s (get_or (first ∷ rest) (at + 1) first))
    went b c is on =
        on
        ∙ (ap (λ (x : Standing). after (with_plan leaving placed_then x.state)) is
        ∙ (ap (λ (l : List ℕ). after (with_plan l placed_then (applied s now_at))) trial.leaving_is
        ∙ (ap (λ (l : List Activity). after (with_plan (map id_of (placed_by s first)) (map (moved (start_of first) (start_of then_at)) l) (applied s now_at))) trial.placed_is
        ∙ (ap after (goes s whole next first can_first now_at kin can_now then_at (alike at d lt) can_then)
        ∙ ap (λ (m : RepairMove). after (applied s m)) (get_or_next first rest at d first lt)))))

  -- and home
  pub back : IsUndoneBy s now_at (gone_by s now_at) (placed_by s now_at) leaving returning
  back =
      subst (λ (l : List ℕ). IsUndoneBy s now_at (gone_by s now_at) (placed_by s now_at) l returning) (sym trial.leaving_is)
      (subst (λ (l : List Activity). IsUndoneBy s now_at (gone_by s now_at) (placed_by s now_at) (map id_of (placed_by s first)) l) (sym trial.returning_is)
      (comes_back s whole next first can_first now_at kin can_now))

  pub made_at : (b : Standing) → b ≡ after (applied s now_at) → b ≡ after (with_plan (gone_by s now_at) (placed_by s now_at) s)
  made_at b is = is ∙ ap after (sym back.made)
