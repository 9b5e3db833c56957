-- Steps that better a plan, one after the other.
use Rattle.std.proofs.Common.{◌≡◌, ◌≢◌, ℕ, suc, ◌+◌, ◌<◌, ◌≤◌, ℤ, Bool, true, false, List, [], ◌∷◌, ◌++◌, length, Option, Some, None, refl, sym, ◌∙◌, ap, subst, append_assoc, length-append, add-zero, arith}
use Rattle.std.proofs.lemmas.List.{append-nil}
use Rattle.pl_model.specs.declared.whole.Model.{Model}
use Rattle.pl_plan.specs.declared.repair.RepairMove.{RepairMove}
use Rattle.pl_plan.specs.declared.repair.RepairMove.TheVariants as repair
use Rattle.pl_semantics.specs.declared.plan_state.PlanState.{PlanState}
use Rattle.pl_semantics.specs.Conflicts.{conflicts_of}
use Rattle.pl_semantics.specs.Moves.{applied}
use Rattle.pl_board.specs.Boards.{Standing, after}
use Rattle.pl_prefs.specs.declared.prefer.Prefer.{Prefer}
use Rattle.pl_prefs.specs.Scores.{score}
use Rattle.pl_prefs.specs.Betters.{changes_in, score_after, is_better, better, IsBest, IsFirstBest}
use Rattle.pl_prefs.specs.Scoreds.{Scoring, IsScored, IsStepped, StandsFor}
use Rattle.pl_prefs.specs.declared.score_fault.ScoreFault.TheVariants.{Conflicts}
use Rattle.pl_prefs.proofs.Sorts.{IsChange, all_changes, best_change}
use Rattle.pl_report.specs.Improvements.{IsStep, AreSteps, state_behind, IsSomeBest, first_line, step_line, step_lines, last_line, conflicts_line, steps_text, IsBettered, IsImprovement, IsOneMore, IsTry, AreMade, AreAllMade}

-- the score that is told of a plan is the one of its definition
pub told_score : (s : Scoring) (points : ℤ) → s.board.spoiled ≡ false → points ≡ s.score → (s.board.spoiled ≡ false → IsScored s.board.state s.prefers points) → s.score ≡ score s.board.state s.prefers
told_score s points unspoiled is scored = sym is ∙ (scored unspoiled).score_is

-- ---- a step

best_is_change : (s : PlanState) (prefers : List Prefer) (m : RepairMove) → IsBest s prefers (Some m) → IsChange m
unfolding better
best_is_change s prefers m best = best_change (score_after s prefers) (is_better s prefers) (changes_in s) m (all_changes s) best

-- it is a shift or an assignment
other_change : (m : RepairMove) → IsChange m → ((id start : ℕ) → m ≡ repair.Shift id start → ⊥) → ((id param : ℕ) (value : ℤ) → m ≡ repair.Assign id param value → ⊥) → ⊥
other_change (repair.Add kind start goal) is no_shift no_assign = is
other_change (repair.Delete id) is no_shift no_assign = is
other_change (repair.Shift id start) is no_shift no_assign = no_shift id start refl
other_change (repair.Detail id alternative) is no_shift no_assign = is
other_change (repair.Abstract id) is no_shift no_assign = is
other_change (repair.Assign id param value) is no_shift no_assign = no_assign id param value refl
other_change (repair.Drop goal) is no_shift no_assign = is

pub no_other : (m : RepairMove) → IsSomeBest m → ((id start : ℕ) → m ≡ repair.Shift id start → ⊥) → ((id param : ℕ) (value : ℤ) → m ≡ repair.Assign id param value → ⊥) → ⊥
no_other m is no_shift no_assign = other_change m (best_is_change is.state is.prefers m is.best) no_shift no_assign

step_of : (m : RepairMove) (old new : Scoring) → old.score ≡ score old.board.state old.prefers → new.prefers ≡ old.prefers → IsStepped (Some m) old new → IsStep old.board.state old.prefers m × (new.score ≡ score_after old.board.state old.prefers m)
step_of m old new points prefers stepped =
    let state : new.board.state ≡ applied old.board.state m = ap (λ (b : Standing). b.state) stepped.made in
    let now : new.score ≡ score_after old.board.state old.prefers m =
    stepped.score_is ∙ ap (λ (ps : List Prefer). score new.board.state ps) prefers ∙ ap (λ (s : PlanState). score s old.prefers) state in (
      record {
        best = stepped.best;
        clear = sym (ap conflicts_of state) ∙ stepped.clear;
        risen = rw (points, now) at stepped.risen;
        committed = rw state at stepped.committed;
      },
      now,
    )

pub one_more : (number : ℕ) (m : RepairMove) (old new : Scoring) (out text : List ℕ) → old.score ≡ score old.board.state old.prefers → new.prefers ≡ old.prefers → IsStepped (Some m) old new
    → ((model : Model) → text ≡ out ++ step_line model number m new.score) → IsOneMore number old out new text
one_more number m old new out text points prefers stepped says =
    let steps = step_of m old new points prefers stepped in
    record {
      move = m;
      step = steps.0;
      made = stepped.made;
      prefers = prefers;
      points = steps.1;
      says = says old.board.state.model ∙ ap (λ (z : ℤ). out ++ step_line old.board.state.model number m z) steps.1;
    }

-- ---- steps one after the other

behind_push : (s : PlanState) (ms : List RepairMove) (m : RepairMove) → state_behind s (ms ++ m ∷ []) ≡ applied (state_behind s ms) m
behind_push s [] m = refl
behind_push s (x ∷ ms) m = behind_push (applied s x) ms m

steps_push : (s : PlanState) (prefers : List Prefer) (ms : List RepairMove) (m : RepairMove) → AreSteps s prefers ms → IsStep (state_behind s ms) prefers m → AreSteps s prefers (ms ++ m ∷ [])
steps_push s prefers [] m steps step = (step, tt)
steps_push s prefers (x ∷ ms) m steps step = (steps.0, steps_push (applied s x) prefers ms m steps.1 step)

lines_push : (s : PlanState) (prefers : List Prefer) (n : ℕ) (ms : List RepairMove) (m : RepairMove)
    → step_lines s prefers n (ms ++ m ∷ []) ≡ step_lines s prefers n ms ++ step_line (state_behind s ms).model (suc (n + length ms)) m (score_after (state_behind s ms) prefers m)
lines_push s prefers n [] m = append-nil (step_line s.model (suc n) m (score_after s prefers m)) ∙ ap (λ (k : ℕ). step_line s.model (suc k) m (score_after s prefers m)) (sym (add-zero n))
lines_push s prefers n (x ∷ ms) m =
    let first : List ℕ = step_line s.model (suc n) x (score_after s prefers x) in
    let next : PlanState = state_behind (applied s x) ms in
    let count : suc n + length ms ≡ n + length (x ∷ ms) = omega arith in
    ap (λ (t : List ℕ). first ++ t) (lines_push (applied s x) prefers (suc n) ms m)
    ∙ sym (append_assoc first (step_lines (applied s x) prefers (suc n) ms) (step_line next.model (suc (suc n + length ms)) m (score_after next prefers m)))
    ∙ ap (λ (k : ℕ). first ++ step_lines (applied s x) prefers (suc n) ms ++ step_line next.model (suc k) m (score_after next prefers m)) count

pub none_made : (old : Scoring) (out : List ℕ) → old.board.spoiled ≡ false → old.score ≡ score old.board.state old.prefers → AreMade old out 0 old out
none_made old out unspoiled points = record {
  moves = [];
  steps = tt;
  number = refl;
  made = ap (λ (b : Bool). record { spoiled = b; state = old.board.state }) unspoiled;
  prefers = refl;
  points = points;
  says = sym (append-nil out);
}

pub more_made : (old mid new : Scoring) (out middle text : List ℕ) (count : ℕ) → AreMade old out count mid middle → IsOneMore (count + 1) mid middle new text → AreMade old out (count + 1) new text
more_made old mid new out middle text count made more =
    let s : PlanState = state_behind old.board.state made.moves in
    let there : mid.board.state ≡ s = ap (λ (b : Standing). b.state) made.made in
    let step : IsStep s old.prefers more.move = rw (there, made.prefers) at more.step in
    let number : suc (0 + length made.moves) ≡ count + 1 = omega (arith, made.number) in
    let line : step_line mid.board.state.model (count + 1) more.move (score_after mid.board.state mid.prefers more.move) ≡ step_line s.model (suc (0 + length made.moves)) more.move (score_after s old.prefers more.move) =
    ap (λ (x : PlanState). step_line x.model (count + 1) more.move (score_after x mid.prefers more.move)) there
    ∙ ap (λ (ps : List Prefer). step_line s.model (count + 1) more.move (score_after s ps more.move)) made.prefers
    ∙ ap (λ (k : ℕ). step_line s.model k more.move (score_after s old.prefers more.move)) (sym number) in
    record {
      moves = made.moves ++ more.move ∷ [];
      steps = steps_push old.board.state old.prefers made.moves more.move made.steps step;
      number = length-append made.moves (more.move ∷ []) ∙ ap (λ (k : ℕ). k + 1) made.number;
      made = more.made ∙ ap (λ (x : PlanState). after (applied x more.move)) there ∙ ap after (sym (behind_push old.board.state made.moves more.move));
      prefers = more.prefers ∙ made.prefers;
      points = more.points
          ∙ ap (λ (x : PlanState). score_after x mid.prefers more.move) there
          ∙ ap (λ (ps : List Prefer). score_after s ps more.move) made.prefers
          ∙ ap (λ (x : PlanState). score x old.prefers) (sym (behind_push old.board.state made.moves more.move));
      says = more.says
          ∙ ap (λ (t : List ℕ). t ++ step_line mid.board.state.model (count + 1) more.move (score_after mid.board.state mid.prefers more.move)) made.says
          ∙ append_assoc out (step_lines old.board.state old.prefers 0 made.moves) (step_line mid.board.state.model (count + 1) more.move (score_after mid.board.state mid.prefers more.move))
          ∙ ap (λ (t : List ℕ). out ++ (step_lines old.board.state old.prefers 0 made.moves ++ t)) line
          ∙ ap (λ (t : List ℕ). out ++ t) (sym (lines_push old.board.state old.prefers 0 made.moves more.move));
    }

-- ---- the whole text

pub bettered : (most : ℕ) (old new : Scoring) (out lines text : List ℕ) (count : ℕ) → old.score ≡ score old.board.state old.prefers → out ≡ first_line old.score → AreAllMade most old out count new lines → text ≡ lines ++ last_line count new.score
    → IsBettered old.board.state old.prefers most text
bettered most old new out lines text count points first all is =
    let made = all.so_far in
    let there : new.board.state ≡ state_behind old.board.state made.moves = ap (λ (b : Standing). b.state) made.made in
    record {
      moves = made.moves;
      steps = made.steps;
      within = subst (λ (k : ℕ). k ≤ most) (sym made.number) all.within;
      fewer = λ lt. rw (there, made.prefers) at all.fewer (subst (λ (k : ℕ). k < most) made.number lt);
      says = is
          ∙ ap (λ (z : ℤ). lines ++ last_line count z) made.points
          ∙ ap (λ (k : ℕ). lines ++ last_line k (score (state_behind old.board.state made.moves) old.prefers)) (sym made.number)
          ∙ ap (λ (t : List ℕ). t ++ last_line (length made.moves) (score (state_behind old.board.state made.moves) old.prefers)) (made.says ∙ ap (λ (t : List ℕ). t ++ step_lines old.board.state old.prefers 0 made.moves) (first ∙ ap first_line points))
          ∙ append_assoc (first_line (score old.board.state old.prefers)) (step_lines old.board.state old.prefers 0 made.moves) (last_line (length made.moves) (score (state_behind old.board.state made.moves) old.prefers));
    }

pub improved : (s : PlanState) (prefers : List Prefer) (most : ℕ) (text : List ℕ) → conflicts_of s ≡ [] → IsBettered s prefers most text → IsImprovement s prefers most text
improved s prefers most text clear is = record { conflicts = λ some. absurd (some clear); bettered = λ none. is }

pub refused : (s : PlanState) (prefers : List Prefer) (most count : ℕ) (text : List ℕ) → StandsFor s (Conflicts count) → text ≡ conflicts_line count → IsImprovement s prefers most text
refused s prefers most count text stands is = record { conflicts = λ some. is ∙ ap conflicts_line stands.0; bettered = λ none. absurd (stands.1 none) }
