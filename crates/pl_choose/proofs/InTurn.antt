-- Moves that are tried in turn, from the first on.
use Rattle.std.proofs.Common.{◌≡◌, ℕ, ◌+◌, ◌<◌, ◌≤◌, List, [], ◌∷◌, map, length, get_or, drop, true, refl, sym, ap, ◌∙◌, subst, arith, inl, inr}
use Rattle.std.specs.Prelude.{◌⊎◌, All, Option, Some, None}
use Rattle.std.proofs.lemmas.List.{drop_more, get_or-map, get_or_default, length-map}
use Rattle.std.proofs.lemmas.Option.{slice_get-get_or}
use Rattle.pl_plan.specs.declared.repair.RepairMove.{RepairMove}
use Rattle.pl_plan.specs.declared.repair.RepairMove.TheVariants.{Add}
use Rattle.pl_semantics.specs.declared.plan_state.PlanState.{PlanState}
use Rattle.pl_semantics.specs.Conflicts.{conflicts_of}
use Rattle.pl_semantics.specs.Legal.{left_after}
use Rattle.pl_semantics.specs.Moves.{applied}
use Rattle.pl_semantics.specs.Whole.{IsWhole}
use Rattle.pl_update.specs.Changes.Changes.{with_next}
use Rattle.pl_update.specs.Changes.Replaced.{CanReplace, with_plan}
use Rattle.pl_board.specs.Boards.{Standing, after}
use Rattle.pl_moves.specs.Undone.{IsUndoneBy}
use Rattle.pl_choose.specs.declared.best.Best.{Best}
use Rattle.pl_choose.specs.declared.stages.Stage.{Stage}
use Rattle.pl_choose.specs.declared.in_turn.Progress.{Progress}
use Rattle.pl_choose.specs.declared.in_turn.Turn.TheVariants.{Made}
use Rattle.pl_choose.specs.declared.purpose.Purpose.{Purpose}
use Rattle.pl_choose.specs.declared.purpose.Purpose.TheVariants.{Mend}
use Rattle.pl_choose.specs.Choice.{IsFewestBelow, is_below}
use Rattle.pl_choose.specs.Picks.{fewest}
use Rattle.pl_choose.specs.Stages.{CanStandInstead, IsStage, TakesOut, instead, move_of, next_behind}
use Rattle.pl_choose.specs.Tried.{better_of, best_of}
use Rattle.pl_choose.specs.InTurn.{AreTried, IsTurnIf, gone_in}
use Rattle.pl_choose.proofs.Instead.{can_stand, stood}
use Rattle.pl_choose.proofs.Trying.{best, all_tried, counted, found, next_tried, none_better}

-- some move, for a place where there is none
abbrev pub any : RepairMove
any = Add 0 0 None

abbrev pub best_all : (RepairMove → ℕ) → List RepairMove → Best
best_all f moves = best_of f (best (get_or moves 0 any) (f (get_or moves 0 any))) (drop 1 moves)

fewest_all : (s : PlanState) (moves : List RepairMove) (b : Best) → 0 < length moves → b ≡ best_all (left_after s) moves → fewest s moves ≡ Some b.mv
fewest_all s moves b some is =
    let whole : get_or moves 0 any ∷ drop 1 moves ≡ moves = sym (drop_more moves 0 any some) in
    subst (λ (ms : List RepairMove). fewest s ms ≡ Some b.mv) whole (found s (get_or moves 0 any) (drop 1 moves) (left_after s (get_or moves 0 any)) b refl is)

-- how many conflicts stand where a move is made
left_is : (s : PlanState) (m : RepairMove) (b : Standing) (n : ℕ) → b ≡ after (applied s m) → n ≡ length (conflicts_of b.state) → n ≡ left_after s m
unfolding left_after
left_is s m b n made is = is ∙ ap (λ (c : Standing). length (conflicts_of c.state)) made

-- ---- so far

-- the move that is made, and the best so far, which leads to the best of all
pub record AreTriedSoFar (s : PlanState) (moves : List RepairMove) (t : Progress) (now : Standing) : Type 0 where
  pub within : t.at < length moves
  pub made : now ≡ after (applied s (get_or moves t.at any))
  pub reached : t.place < length moves
  pub there : get_or moves t.place any ≡ t.best.mv
  pub leads : best_of (left_after s) t.best (drop (t.at + 1) moves) ≡ best_all (left_after s) moves

pub begun : (s : PlanState) (moves : List RepairMove) (m : RepairMove) (left : ℕ) (now : Standing) → 0 < length moves → m ≡ get_or moves 0 any → now ≡ after (applied s m) → left ≡ length (conflicts_of now.state) → AreTriedSoFar s moves (record { at = 0; best = record { mv = m; left = left }; place = 0 }) now
begun s moves m left now some is made counted =
    let first : now ≡ after (applied s (get_or moves 0 any)) = made ∙ ap (λ (x : RepairMove). after (applied s x)) is in
    let all : left ≡ left_after s (get_or moves 0 any) = left_is s (get_or moves 0 any) now left first counted in
    record {
      within = some;
      made = first;
      reached = some;
      there = sym is;
      leads = ap (λ (b : Best). best_of (left_after s) b (drop 1 moves)) (ap (λ (x : RepairMove). best x left) is ∙ ap (λ (n : ℕ). best (get_or moves 0 any) n) all);
    }

pub went_on : (s : PlanState) (moves : List RepairMove) (t u : Progress) (now then_ : Standing) (m : RepairMove) (left : ℕ) → AreTriedSoFar s moves t now → t.at + 1 < length moves → m ≡ get_or moves (t.at + 1) any → then_ ≡ after (applied s m) → left ≡ length (conflicts_of then_.state)
    → u.at ≡ t.at + 1 → u.best ≡ better_of t.best m left → ((u.place ≡ t.at + 1) × (u.best.mv ≡ m)) ⊎ ((u.place ≡ t.place) × (u.best ≡ t.best)) → AreTriedSoFar s moves u then_
went_on s moves t u now then_ m left so_far lt is made counted at best_is place = record {
  within = subst (λ (k : ℕ). k < length moves) (sym at) lt;
  made = made ∙ (ap (λ (x : RepairMove). after (applied s x)) is ∙ ap (λ (k : ℕ). after (applied s (get_or moves k any))) (sym at));
  reached = by_reached place;
  there = by_there place;
  leads = ap (λ (k : ℕ). best_of (left_after s) u.best (drop (k + 1) moves)) at ∙ next_tried (left_after s) moves (t.at + 1) left any t.best u.best (best_all (left_after s) moves) lt all (best_is ∙ ap (λ (x : RepairMove). better_of t.best x left) is) so_far.leads;
}
  where
    all : left ≡ left_after s (get_or moves (t.at + 1) any)
    all = left_is s m then_ left made counted ∙ ap (left_after s) is

    by_reached : ((u.place ≡ t.at + 1) × (u.best.mv ≡ m)) ⊎ ((u.place ≡ t.place) × (u.best ≡ t.best)) → u.place < length moves
    by_reached (inl here) = subst (λ (k : ℕ). k < length moves) (sym here.0) lt
    by_reached (inr before) = subst (λ (k : ℕ). k < length moves) (sym before.0) so_far.reached

    by_there : ((u.place ≡ t.at + 1) × (u.best.mv ≡ m)) ⊎ ((u.place ≡ t.place) × (u.best ≡ t.best)) → get_or moves u.place any ≡ u.best.mv
    by_there (inl here) = ap (λ (k : ℕ). get_or moves k any) here.0 ∙ (sym is ∙ sym here.1)
    by_there (inr before) = ap (λ (k : ℕ). get_or moves k any) before.0 ∙ (so_far.there ∙ ap (λ (b : Best). b.mv) (sym before.1))

tried : (s : PlanState) (moves : List RepairMove) (t : Progress) (now : Standing) → AreTriedSoFar s moves t now → t.best ≡ best_all (left_after s) moves → AreTried s moves t now
tried s moves t now so_far is = record {
  within = so_far.within;
  made = λ d. so_far.made ∙ ap (λ (m : RepairMove). after (applied s m)) (get_or_default moves t.at any d so_far.within);
  reached = so_far.reached;
  there = λ d. get_or_default moves t.place d any so_far.reached ∙ so_far.there;
  best = fewest_all s moves t.best (let lt : t.at < length moves = so_far.within in omega (arith, lt)) is;
  left = subst (λ (b : Best). b.left ≡ left_after s b.mv) (sym is) (counted (left_after s) (best (get_or moves 0 any) (left_after s (get_or moves 0 any))) (drop 1 moves) refl);
}

-- none is left
pub when_all_are_tried : (s : PlanState) (moves : List RepairMove) (t : Progress) (now : Standing) → AreTriedSoFar s moves t now → length moves ≤ t.at + 1 → AreTried s moves t now
when_all_are_tried s moves t now so_far over = tried s moves t now so_far (all_tried (left_after s) moves (t.at + 1) t.best (best_all (left_after s) moves) over so_far.leads)

-- none can be better
pub when_none_can_be_better : (s : PlanState) (moves : List RepairMove) (t : Progress) (now : Standing) → AreTriedSoFar s moves t now → t.best.left ≡ 0 → AreTried s moves t now
when_none_can_be_better s moves t now so_far none = tried s moves t now so_far (sym (none_better (left_after s) t.best (drop (t.at + 1) moves) (λ i d lt. omega (arith, none))) ∙ so_far.leads)

-- ---- from one to another

module _ (s : PlanState) (whole : IsWhole s) (stages : List Stage) (gone : List ℕ) (are : All (IsStage s) stages) (same : All (TakesOut gone) stages) where
  abbrev pub moves : List RepairMove
  moves = map move_of stages

  pub move_at : (i : ℕ) (t : Stage) → i < length stages → t ≡ get_or stages i t → t.mv ≡ get_or (map move_of stages) i any
  move_at i t lt is = ap (λ (x : Stage). x.mv) is ∙ sym (get_or-map move_of stages i t any lt)

  is_stage : (i : ℕ) (t : Stage) → i < length stages → t ≡ get_or stages i t → IsStage s t
  is_stage i t lt is = subst (λ (x : Stage). IsStage s x) (sym is) (are i t lt)

  takes_out : (i : ℕ) (t : Stage) → i < length stages → t ≡ get_or stages i t → TakesOut gone t
  takes_out i t lt is = subst (λ (x : Stage). TakesOut gone x) (sym is) (same i t lt)

  pub first_can : (t : Stage) → 0 < length stages → t ≡ get_or stages 0 t → CanReplace s t.trial.change.gone.items t.trial.change.placed.items
  first_can t lt is = (is_stage 0 t lt is).undone.can

  pub first_made : (t : Stage) → 0 < length stages → t ≡ get_or stages 0 t → (b : Standing) → b ≡ after (with_plan t.trial.change.gone.items t.trial.change.placed.items s) → b ≡ after (applied s t.mv)
  first_made t lt is b made = made ∙ ap after (is_stage 0 t lt is).undone.made

  module _ (i j : ℕ) (one other : Stage) (lt : i < length stages) (lt_other : j < length stages) (is : one ≡ get_or stages i one) (is_other : other ≡ get_or stages j other) (b : Standing) (made : b ≡ after (applied s (get_or (map move_of stages) i any))) where
    made_one : b ≡ after (applied s one.mv)
    made_one = made ∙ ap (λ (m : RepairMove). after (applied s m)) (sym (move_at i one lt is))

    pub can_follow : CanStandInstead b.state s.next_id one other
    can_follow = can_stand s whole gone one other (is_stage i one lt is) (is_stage j other lt_other is_other) (takes_out i one lt is) (takes_out j other lt_other is_other) b made_one

    pub follows : (c : Standing) → c ≡ after (with_next (next_behind s.next_id other) (instead b.state one other)) → c ≡ after (applied s other.mv)
    follows c then_ = stood s whole gone one other (is_stage i one lt is) (is_stage j other lt_other is_other) (takes_out i one lt is) (takes_out j other lt_other is_other) b c made_one then_

-- what the first takes out
pub gone_first : (stages : List Stage) (t : Stage) → 0 < length stages → t ≡ get_or stages 0 t → t.trial.change.gone.items ≡ gone_in stages
gone_first [] t lt is = absurd (omega (arith, lt))
gone_first (x ∷ stages) t lt is = ap (λ (y : Stage). y.trial.change.gone.items) is

pub some_stage : (stages : List Stage) (m : RepairMove) (ms : List RepairMove) → map move_of stages ≡ m ∷ ms → 0 < length stages
some_stage [] m ms is = absurd (cc)
some_stage (t ∷ stages) m ms is = omega arith

-- ---- the end

module _ (s : PlanState) (whole : IsWhole s) (stages : List Stage) (gone : List ℕ) (are : All (IsStage s) stages) (same : All (TakesOut gone) stages) (t : Progress) (now : Standing) (tried : AreTried s (map move_of stages) t now) where
  pub at_within : t.at < length stages
  at_within = let e : length (map move_of stages) ≡ length stages = length-map stages move_of in let lt : t.at < length (map move_of stages) = tried.within in omega (arith, e, lt)

  pub place_within : t.place < length stages
  place_within = let e : length (map move_of stages) ≡ length stages = length-map stages move_of in let lt : t.place < length (map move_of stages) = tried.reached in omega (arith, e, lt)

  -- the best is the one that is made
  pub stands_best : t.place ≡ t.at → now ≡ after (applied s t.best.mv)
  stands_best is = tried.made any ∙ ap (λ (m : RepairMove). after (applied s m)) (ap (λ (k : ℕ). get_or (map move_of stages) k any) (sym is) ∙ tried.there any)

  -- the move at the place of the best is the best
  best_at : (other : Stage) → other ≡ get_or stages t.place other → other.mv ≡ t.best.mv
  best_at other is_other = move_at s whole stages gone are same t.place other place_within is_other ∙ tried.there any

  stage_at : (other : Stage) → other ≡ get_or stages t.place other → IsStage s other
  stage_at other is_other = is_stage s whole stages gone are same t.place other place_within is_other

  module _ (one : Stage) (is : one ≡ get_or stages t.at one) where
    pub undone_by : IsUndoneBy s one.mv one.trial.change.gone.items one.trial.change.placed.items one.trial.undo.gone.items one.trial.undo.placed.items
    undone_by = (is_stage s whole stages gone are same t.at one at_within is).undone

    pub made_by : now ≡ after (with_plan one.trial.change.gone.items one.trial.change.placed.items s)
    made_by = tried.made any ∙ (ap (λ (m : RepairMove). after (applied s m)) (sym (move_at s whole stages gone are same t.at one at_within is)) ∙ ap after (sym undone_by.made))

    module _ (other : Stage) (is_other : other ≡ get_or stages t.place other) where
      pub can_best : CanStandInstead now.state s.next_id one other
      can_best = can_follow s whole stages gone are same t.at t.place one other at_within place_within is is_other now (tried.made any)

      pub makes_best : (then_ : Standing) → then_ ≡ after (with_next (next_behind s.next_id other) (instead now.state one other)) → then_ ≡ after (applied s t.best.mv)
      makes_best then_ made =
          follows s whole stages gone are same t.at t.place one other at_within place_within is is_other now (tried.made any) then_ made
          ∙ ap (λ (m : RepairMove). after (applied s m)) (move_at s whole stages gone are same t.place other place_within is_other ∙ tried.there any)

-- what comes of it where the best stays made
pub turn_made : (why : Purpose) (fewer : Option ℕ) (before : Standing) (whole : IsWhole before.state) (stages : List Stage) (gone : List ℕ) (are : All (IsStage before.state) stages) (same : All (TakesOut gone) stages) (t : Progress) (now : Standing) (tried : AreTried before.state (map move_of stages) t now) (last : Standing)
    → why ≡ Mend → is_below fewer (left_after before.state t.best.mv) ≡ true → last ≡ after (applied before.state t.best.mv) → IsTurnIf why (IsFewestBelow before.state (map move_of stages) fewer) before stages (Some (Made t.place)) last
turn_made why fewer before whole stages gone are same t now tried last mends below made =
    let s : PlanState = before.state in
    let within : t.place < length stages = place_within s whole stages gone are same t now tried in
    let P : RepairMove → Type 0 = IsFewestBelow s (map move_of stages) fewer in
    let best : P t.best.mv = (tried.best, below) in (
      within,
      λ x there.
          let at : x ≡ get_or stages t.place x = cc (there, slice_get-get_or stages t.place x within) in
          let is : x.mv ≡ t.best.mv = best_at s whole stages gone are same t now tried x at in
          (mends, subst P (sym is) best, made ∙ ap (λ (m : RepairMove). after (applied s m)) (sym is), stage_at s whole stages gone are same t now tried x at),
    )
