-- Moves that place the same activities at other starts.
use Rattle.std.proofs.Common.{◌≡◌, ℕ, zero, suc, ◌+◌, ◌-◌, ◌^◌, ◌<◌, ◌≤◌, eqb, true, false, List, [], ◌∷◌, map, filter, length, get_or, refl, sym, ap, ◌∙◌, subst, arith}
use Rattle.std.specs.Prelude.{◌&&◌, All, Option, Some, None, is_some}
use Rattle.std.proofs.lemmas.Bool.{eqb-true}
use Rattle.std.proofs.lemmas.List.Elements.{All-head, All-tail, All-cons, All-nil}
use Rattle.pl_lists.proofs.Tests.{and_first, and_second}
use Rattle.pl_plan.specs.declared.activity.Activity.{Activity}
use Rattle.pl_plan.specs.declared.repair.RepairMove.{RepairMove}
use Rattle.pl_plan.specs.declared.repair.RepairMove.TheVariants.{Add, Delete, Shift, Detail, Abstract, Assign, Drop}
use Rattle.pl_plan.specs.Activities.{IsLive, activity_of}
use Rattle.pl_plan.specs.Trees.{id_of, descends, subtree_of}
use Rattle.pl_plan.specs.Fitting.{FitsAlone}
use Rattle.pl_plan.proofs.Climbs.{all_at}
use Rattle.pl_plan.proofs.Kept.{found-kept}
use Rattle.pl_semantics.specs.declared.plan_state.PlanState.{PlanState}
use Rattle.pl_semantics.specs.PlanStates.{among, found, floor_of}
use Rattle.pl_semantics.specs.Whole.{IsWhole}
use Rattle.pl_semantics.specs.Candidates.{same_number}
use Rattle.pl_semantics.specs.Moves.{is_under, moved, root_for}
use Rattle.pl_semantics.proofs.Refusing.{may}
use Rattle.pl_moves.specs.Changes.{IsOfActivities, gone_by, placed_by}
use Rattle.pl_moves.specs.Runs.{start_of, goes_on, CanBeMade}
use Rattle.pl_moves.proofs.Made.{named_live, near_if}
use Rattle.pl_moves.proofs.Subtrees.{among_ids, among_subtree}

-- ---- the same but for the start

same_number_is : (m n : Option ℕ) → same_number m n ≡ true → m ≡ n
same_number_is None None e = refl
same_number_is None (Some n) e = absurd (cc)
same_number_is (Some m) None e = absurd (cc)
same_number_is (Some m) (Some n) e = ap (λ (k : ℕ). Some k) (eqb-true m n e)

pub of_activities : (first m : RepairMove) → goes_on first m ≡ true → IsOfActivities m
of_activities first (Drop goal) e = by first e
  where
    by : (f : RepairMove) → goes_on f (Drop goal) ≡ true → ⊥
    by (Add kind start g) h = absurd (cc)
    by (Delete id) h = absurd (cc)
    by (Shift id start) h = absurd (cc)
    by (Detail id alternative) h = absurd (cc)
    by (Abstract id) h = absurd (cc)
    by (Assign id param value) h = absurd (cc)
    by (Drop g) h = absurd (cc)
of_activities first (Add kind start goal) e = tt
of_activities first (Delete id) e = tt
of_activities first (Shift id start) e = tt
of_activities first (Detail id alternative) e = tt
of_activities first (Abstract id) e = tt
of_activities first (Assign id param value) e = tt

-- ---- moved once, and once more

pub moved_ids : (from to : ℕ) (xs : List Activity) → map id_of (map (moved from to) xs) ≡ map id_of xs
moved_ids from to [] = refl
moved_ids from to (x ∷ xs) = ap (λ (l : List ℕ). x.id ∷ l) (moved_ids from to xs)

moved_on : (from one two low : ℕ) → 1 ≤ low → (xs : List Activity) → All (λ a. low ≤ a.start) (map (moved from one) xs) → All (λ a. low ≤ a.start) (map (moved from two) xs) → map (moved from two) xs ≡ map (moved one two) (map (moved from one) xs)
moved_on from one two low least [] above then_ = refl
moved_on from one two low least (x ∷ xs) above then_ =
    let first : low ≤ (x.start + one) - from = All-head (λ (a : Activity). low ≤ a.start) (moved from one x) (map (moved from one) xs) above in
    let second : low ≤ (x.start + two) - from = All-head (λ (a : Activity). low ≤ a.start) (moved from two x) (map (moved from two) xs) then_ in
    let same : (x.start + two) - from ≡ (((x.start + one) - from) + two) - one = omega (arith, first, second, least) in
    let rest = moved_on from one two low least xs (All-tail (λ (a : Activity). low ≤ a.start) (moved from one x) (map (moved from one) xs) above) (All-tail (λ (a : Activity). low ≤ a.start) (moved from two x) (map (moved from two) xs) then_) in
    ap (λ (k : ℕ). record x { start = k } ∷ map (moved from two) xs) same
    ∙ ap (λ (l : List Activity). moved one two (moved from one x) ∷ l) rest

module _ (s : PlanState) (whole : IsWhole s) where
  abbrev xs : List Activity
  xs = s.plan.activities

  low : 1 ≤ floor_of s
  low = omega arith

  shifted_twice : (id one two : ℕ) → CanBeMade s (Shift id one) → CanBeMade s (Shift id two) → placed_by s (Shift id two) ≡ map (moved one two) (placed_by s (Shift id one))
  shifted_twice id one two first second = by (found s id) refl
    where
      by : (o : Option Activity) → found s id ≡ o → placed_by s (Shift id two) ≡ map (moved one two) (placed_by s (Shift id one))
      by None e = rw e refl
      by (Some a) e =
          let above : All (λ b. floor_of s ≤ b.start) (map (moved a.start one) (filter (is_under s a.id) xs)) = rw e at (may s (Shift id one) first.allowed).above in
          let then_ : All (λ b. floor_of s ≤ b.start) (map (moved a.start two) (filter (is_under s a.id) xs)) = rw e at (may s (Shift id two) second.allowed).above in
          rw e (moved_on a.start one two (floor_of s) low (filter (is_under s a.id) xs) above then_)

  added_twice : (kind one two : ℕ) (goal : Option ℕ) → placed_by s (Add kind two goal) ≡ map (moved one two) (placed_by s (Add kind one goal))
  added_twice kind one two goal =
      let same : two ≡ (one + two) - one = omega arith in
      ap (λ (k : ℕ). record (root_for s kind one goal) { start = k } ∷ []) same

  -- what goes is placed again
  pub all_come_again : (first m : RepairMove) → goes_on first m ≡ true → CanBeMade s first → (q : ℕ) → among q (gone_by s first) ≡ true → among q (map id_of (placed_by s first)) ≡ true
  all_come_again (Add kind start goal) m e can q goes = absurd (cc)
  all_come_again (Delete id) m e can q goes = absurd (cc)
  all_come_again (Detail id alternative) m e can q goes = absurd (cc)
  all_come_again (Abstract id) m e can q goes = absurd (cc)
  all_come_again (Assign id param value) m e can q goes = absurd (cc)
  all_come_again (Drop goal) m e can q goes = absurd (cc)
  all_come_again (Shift id start) m e can q goes = by (found s id) refl
    where
      live : IsLive id xs
      live = named_live s (Shift id start) can.proper

      under : (descends xs id q && is_some (activity_of q xs)) ≡ true
      under = sym (among_subtree xs id q) ∙ goes

      by : (o : Option Activity) → found s id ≡ o → among q (map id_of (placed_by s (Shift id start))) ≡ true
      by None f = absurd (let bad : false ≡ true = rw f at live in cc)
      by (Some a) f =
          let is_id : a.id ≡ id = (all_at (FitsAlone s.model) xs id a whole.fits.each f).1 in
          let test : descends xs a.id q ≡ true = ap (λ n. descends xs n q) is_id ∙ and_first (descends xs id q) (is_some (activity_of q xs)) under in
          let there : is_some (activity_of q xs) ≡ true = and_second (descends xs id q) (is_some (activity_of q xs)) under in
          let kept : activity_of q (filter (is_under s a.id) xs) ≡ activity_of q xs = found-kept (descends xs a.id) xs q ∙ rw test refl in
          rw f (ap (λ (l : List ℕ). among q l) (moved_ids a.start start (filter (is_under s a.id) xs)) ∙ (among_ids (filter (is_under s a.id) xs) q ∙ (ap (λ (o : Option Activity). is_some o) kept ∙ there)))

  -- What the first one places, moved on to the other's start, is what the other places.
  pub placed_on : (first m : RepairMove) → goes_on first m ≡ true → CanBeMade s first → CanBeMade s m → placed_by s m ≡ map (moved (start_of first) (start_of m)) (placed_by s first)
  placed_on (Add kind start goal) (Add k t g) e first second =
      let kinds : kind ≡ k = eqb-true kind k (and_first (eqb kind k) (same_number goal g) e) in
      let goals : goal ≡ g = same_number_is goal g (and_second (eqb kind k) (same_number goal g) e) in
      rw (sym kinds, sym goals) (added_twice kind start t goal)
  placed_on (Add kind start goal) (Delete i) e first second = absurd (cc)
  placed_on (Add kind start goal) (Shift i t) e first second = absurd (cc)
  placed_on (Add kind start goal) (Detail i a) e first second = absurd (cc)
  placed_on (Add kind start goal) (Abstract i) e first second = absurd (cc)
  placed_on (Add kind start goal) (Assign i p v) e first second = absurd (cc)
  placed_on (Add kind start goal) (Drop g) e first second = absurd (cc)
  placed_on (Delete id) m e first second = absurd (cc)
  placed_on (Shift id start) (Shift i t) e first second =
      let is : id ≡ i = eqb-true id i e in
      let here : CanBeMade s (Shift id t) = subst (λ n. CanBeMade s (Shift n t)) (sym is) second in
      subst (λ n. placed_by s (Shift n t) ≡ map (moved start t) (placed_by s (Shift id start))) is (shifted_twice id start t first here)
  placed_on (Shift id start) (Add k t g) e first second = absurd (cc)
  placed_on (Shift id start) (Delete i) e first second = absurd (cc)
  placed_on (Shift id start) (Detail i a) e first second = absurd (cc)
  placed_on (Shift id start) (Abstract i) e first second = absurd (cc)
  placed_on (Shift id start) (Assign i p v) e first second = absurd (cc)
  placed_on (Shift id start) (Drop g) e first second = absurd (cc)
  placed_on (Detail id alternative) m e first second = absurd (cc)
  placed_on (Abstract id) m e first second = absurd (cc)
  placed_on (Assign id param value) m e first second = absurd (cc)
  placed_on (Drop goal) m e first second = absurd (cc)

  pub gone_on : (first m : RepairMove) → goes_on first m ≡ true → gone_by s m ≡ gone_by s first
  gone_on (Add kind start goal) (Add k t g) e = refl
  gone_on (Add kind start goal) (Delete i) e = absurd (cc)
  gone_on (Add kind start goal) (Shift i t) e = absurd (cc)
  gone_on (Add kind start goal) (Detail i a) e = absurd (cc)
  gone_on (Add kind start goal) (Abstract i) e = absurd (cc)
  gone_on (Add kind start goal) (Assign i p v) e = absurd (cc)
  gone_on (Add kind start goal) (Drop g) e = absurd (cc)
  gone_on (Delete id) m e = absurd (cc)
  gone_on (Shift id start) (Shift i t) e = ap (λ n. subtree_of n xs) (sym (eqb-true id i e))
  gone_on (Shift id start) (Add k t g) e = absurd (cc)
  gone_on (Shift id start) (Delete i) e = absurd (cc)
  gone_on (Shift id start) (Detail i a) e = absurd (cc)
  gone_on (Shift id start) (Abstract i) e = absurd (cc)
  gone_on (Shift id start) (Assign i p v) e = absurd (cc)
  gone_on (Shift id start) (Drop g) e = absurd (cc)
  gone_on (Detail id alternative) m e = absurd (cc)
  gone_on (Abstract id) m e = absurd (cc)
  gone_on (Assign id param value) m e = absurd (cc)
  gone_on (Drop goal) m e = absurd (cc)

  -- starts stay far below the end of their type
  pub near_on : (first m : RepairMove) → goes_on first m ≡ true → CanBeMade s first → CanBeMade s m → All (λ a. a.start + start_of m < 2 ^ 32) (placed_by s first)
  near_on (Add kind start goal) (Add k t g) e first second =
      let one : start < s.model.horizon = All-head (λ (a : Activity). a.start < s.model.horizon) (root_for s kind start goal) [] (may s (Add kind start goal) first.allowed).within in
      let two : t < s.model.horizon = All-head (λ (a : Activity). a.start < s.model.horizon) (root_for s k t g) [] (may s (Add k t g) second.allowed).within in
      All-cons (λ (a : Activity). a.start + t < 2 ^ 32) (root_for s kind start goal) [] (omega (arith, one, two, whole.checked.horizon.1)) (All-nil (λ (a : Activity). a.start + t < 2 ^ 32))
  near_on (Add kind start goal) (Delete i) e first second = absurd (cc)
  near_on (Add kind start goal) (Shift i t) e first second = absurd (cc)
  near_on (Add kind start goal) (Detail i a) e first second = absurd (cc)
  near_on (Add kind start goal) (Abstract i) e first second = absurd (cc)
  near_on (Add kind start goal) (Assign i p v) e first second = absurd (cc)
  near_on (Add kind start goal) (Drop g) e first second = absurd (cc)
  near_on (Delete id) m e first second = absurd (cc)
  near_on (Shift id start) (Shift i t) e first second =
      let within = (may s (Shift id start) first.allowed).within in
      let two : t ≤ 10000000 = near_if s whole (Shift i t) second.proper second.allowed in
      λ j d lt. let one : (get_or (placed_by s (Shift id start)) j d).start < s.model.horizon = within j d lt in omega (arith, one, two, whole.checked.horizon.1)
  near_on (Shift id start) (Add k t g) e first second = absurd (cc)
  near_on (Shift id start) (Delete i) e first second = absurd (cc)
  near_on (Shift id start) (Detail i a) e first second = absurd (cc)
  near_on (Shift id start) (Abstract i) e first second = absurd (cc)
  near_on (Shift id start) (Assign i p v) e first second = absurd (cc)
  near_on (Shift id start) (Drop g) e first second = absurd (cc)
  near_on (Detail id alternative) m e first second = absurd (cc)
  near_on (Abstract id) m e first second = absurd (cc)
  near_on (Assign id param value) m e first second = absurd (cc)
  near_on (Drop goal) m e first second = absurd (cc)

  -- ---- kin

  -- it takes out and places activities of the same ids
  pub record IsKin (first m : RepairMove) : Type 0 where
    pub of : IsOfActivities m
    pub gone : gone_by s m ≡ gone_by s first
    pub ids : map id_of (placed_by s m) ≡ map id_of (placed_by s first)

  pub kin_on : (first m : RepairMove) → goes_on first m ≡ true → CanBeMade s first → CanBeMade s m → IsKin first m
  kin_on first m e one two = record {
    of = of_activities first m e;
    gone = gone_on first m e;
    ids = ap (λ (l : List Activity). map id_of l) (placed_on first m e one two) ∙ moved_ids (start_of first) (start_of m) (placed_by s first);
  }

  pub kin_self : (m : RepairMove) → IsOfActivities m → IsKin m m
  kin_self m of = record { of = of; gone = refl; ids = refl }

  -- each one of a run is kin to the first
  pub kin_at : (first : RepairMove) (rest : List RepairMove) → IsOfActivities first → All (CanBeMade s) (first ∷ rest) → All (λ m. goes_on first m ≡ true) rest → (at : ℕ) → at < length (first ∷ rest) → IsKin first (get_or (first ∷ rest) at first)
  kin_at first rest of can alike zero lt = kin_self first of
  kin_at first rest of can alike (suc k) lt = kin_on first (get_or rest k first) (alike k first (omega (arith, lt))) (can 0 first (omega arith)) (can (suc k) first lt)
