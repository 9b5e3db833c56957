-- What a step leaves.
use Rattle.std.proofs.Common.{◌≡◌, ℕ, ◌≤◌, eqb, Bool, true, false, ◌&&◌, List, [], length, refl, sym, ap, ◌∙◌, subst, arith, ℤ, ◌+ℤ◌, leb, ltb}
use Rattle.std.specs.Prelude.{All, Some, None}
use Rattle.std.proofs.lemmas.Int.{ints}
use Rattle.std.proofs.lemmas.List.{nil_from_length}
use Rattle.std.proofs.lemmas.Bool.{and_parts, eqb-true, eq-eqb, leb-true}
use Rattle.pl_lists.proofs.Elements.{none_from_test}
use Rattle.pl_plan.specs.declared.repair.RepairMove.{RepairMove}
use Rattle.pl_semantics.specs.declared.plan_state.PlanState.{PlanState}
use Rattle.pl_semantics.specs.Conflicts.{conflicts_of}
use Rattle.pl_semantics.specs.Legal.{is_legal, left_after}
use Rattle.pl_semantics.specs.Moves.{refusal_of, applied}
use Rattle.pl_semantics.specs.Whole.{IsWhole}
use Rattle.pl_board.specs.Boards.{Standing}
use Rattle.pl_moves.specs.Attempts.{is_enough}
use Rattle.pl_moves.specs.Keeping.{KeepsCommitted}
use Rattle.pl_moves.proofs.Keeping.{keeps}
use Rattle.pl_prefs.specs.declared.prefer.Prefer.{Prefer}
use Rattle.pl_prefs.specs.declared.choice.Choice.{Choice}
use Rattle.pl_prefs.specs.Prefers.{IsPreferOf}
use Rattle.pl_prefs.specs.Scores.{score}
use Rattle.pl_prefs.specs.Betters.{IsProperChange, is_clear, better, changes_in}
use Rattle.pl_prefs.specs.Chances.{IsChosen, IsBestMade}
use Rattle.pl_prefs.specs.Scoreds.{Scoring, IsScored, IsScoring, IsStepped}
use Rattle.pl_prefs.proofs.Proper.{all_proper_changes}
use Rattle.pl_prefs.proofs.Sorts.{all_changes, best_is, best_change, keeps_next}

-- ---- a clear move

pub legal_may : (s : PlanState) (m : RepairMove) → is_legal s m ≡ true → refusal_of s m ≡ None
legal_may s m legal = none_from_test (refusal_of s m) legal

-- no conflict is enough exactly where none is left
pub none_enough : (n : ℕ) (b : Bool) → is_enough (Some 0) n ≡ b → eqb n 0 ≡ b
none_enough n true e = let both = and_parts (leb n 0) (ltb n 4294967295) e in eq-eqb n 0 (omega (arith, leb-true n 0 both.0))
none_enough n false e = by (eqb n 0) refl
  where
    by : (b : Bool) → eqb n 0 ≡ b → eqb n 0 ≡ false
    by false f = f
    by true f =
        let none : n ≡ 0 = eqb-true n 0 f in
        let enough : is_enough (Some 0) n ≡ true = ap (is_enough (Some 0)) none in
        absurd (let bad : true ≡ false = sym enough ∙ e in cc)

pub clear_as : (s : PlanState) (m : RepairMove) (b : Bool) → is_legal s m ≡ true → is_enough (Some 0) (left_after s m) ≡ b → is_clear s m ≡ b
clear_as s m b legal enough = ap (λ t. t && (eqb (left_after s m) 0)) legal ∙ none_enough (left_after s m) b enough

pub not_legal : (s : PlanState) (m : RepairMove) → is_legal s m ≡ false → is_clear s m ≡ false
not_legal s m e = ap (λ t. t && (eqb (left_after s m) 0)) e

pub record IsClear (s : PlanState) (m : RepairMove) : Type 0 where
  pub allowed : refusal_of s m ≡ None
  pub none_left : conflicts_of (applied s m) ≡ []

pub clear_is : (s : PlanState) (m : RepairMove) → is_clear s m ≡ true → IsClear s m
unfolding left_after
clear_is s m clear =
    let both = and_parts (is_legal s m) (eqb (left_after s m) 0) clear in
    record {
      allowed = legal_may s m both.0;
      none_left = nil_from_length (conflicts_of (applied s m)) (eqb-true (length (conflicts_of (applied s m))) 0 both.1);
    }

-- ---- what is left

-- the best of what is tried is proper and is not refused, so what is committed stays
pub kept_by : (s : PlanState) (prefers : List Prefer) (choice : Choice) (now : Standing) → IsWhole s → IsBestMade s prefers (changes_in s) choice now → KeepsCommitted s (applied s choice.mv)
kept_by s prefers choice now whole made =
    let change = best_is (IsProperChange s) _ _ (changes_in s) choice.mv (all_proper_changes s whole) made.best in
    keeps s choice.mv whole change.0 (clear_is s choice.mv made.clear).allowed

pub scored_then : (s : PlanState) (prefers : List Prefer) (before points : ℤ) (choice : Choice) (now : Standing) → IsWhole s → IsScored s prefers before → IsBestMade s prefers (changes_in s) choice now → points ≡ score (applied s choice.mv) prefers → IsScored (applied s choice.mv) prefers points
scored_then s prefers before points choice now whole scored made is =
    let kept = kept_by s prefers choice now whole made in
    let change = best_change _ _ (changes_in s) choice.mv (all_changes s) made.best in
    record {
      score_is = is;
      clear = (clear_is s choice.mv made.clear).none_left;
      fits = subst (λ m. All (IsPreferOf m) prefers) (sym kept.model) scored.fits;
      few = scored.few;
      next = subst (λ (n : ℕ). n ≤ 3999999000) (sym (keeps_next s choice.mv change)) scored.next;
    }

pub keeps_itself : (s : PlanState) → KeepsCommitted s s
keeps_itself s = record {
  model = refl;
  moment = refl;
  committed = refl;
  bases = refl;
  live_limit = refl;
  stands = λ id a here committed. here;
  values = λ id a here committed. refl;
  ends = λ id a here committed. refl;
  no_other = λ id a here committed. here;
}

-- ---- a move was made

module _ (before : Scoring) (choice : Choice) (now : Standing) (whole : IsWhole before.board.state) (scored : IsScored before.board.state before.prefers before.score) (made : IsBestMade before.board.state before.prefers (changes_in before.board.state) choice now) where
  score_now : score now.state before.prefers ≡ score (applied before.board.state choice.mv) before.prefers
  score_now = ap (λ (b : Standing). score b.state before.prefers) made.made

  pub sum_then : before.score +ℤ choice.gain ≡ score now.state before.prefers
  sum_then = omega (arith, ints, score_now, scored.score_is, made.gain)

  pub scoring_then : (points : ℤ) → points ≡ score now.state before.prefers → IsScoring now before.prefers points
  scoring_then points is = λ unspoiled. subst (λ (b : Standing). IsScored b.state before.prefers points) (sym made.made) (scored_then before.board.state before.prefers before.score points choice now whole scored made (is ∙ score_now))

  pub stepped_some : (points : ℤ) → points ≡ score now.state before.prefers → IsStepped (Some choice.mv) before (record { board = now; prefers = before.prefers; score = points })
  unfolding better
  stepped_some points is = record {
    best = made.best;
    made = made.made;
    score_is = is;
    clear = subst (λ (b : Standing). conflicts_of b.state ≡ []) (sym made.made) (clear_is before.board.state choice.mv made.clear).none_left;
    risen = omega (arith, ints, is, sum_then, made.gains);
    same = λ e. absurd (cc (e));
    committed = subst (λ (b : Standing). KeepsCommitted before.board.state b.state) (sym made.made) (kept_by before.board.state before.prefers choice now whole made);
  }

-- ---- none was made

pub stepped_none : (before : Scoring) (now : Standing) → before.board.spoiled ≡ false → IsScored before.board.state before.prefers before.score → IsChosen before.prefers (changes_in before.board.state) None before.board now → IsStepped None before (record { board = now; prefers = before.prefers; score = before.score })
unfolding better
stepped_none before now unspoiled scored chosen = record {
  best = chosen.0;
  made = chosen.1 ∙ ap (λ (b : Bool). record { spoiled = b; state = before.board.state }) unspoiled;
  score_is = scored.score_is ∙ ap (λ (b : Standing). score b.state before.prefers) (sym chosen.1);
  clear = subst (λ (b : Standing). conflicts_of b.state ≡ []) (sym chosen.1) scored.clear;
  risen = tt;
  same = λ e. ap (λ (b : Standing). record { board = b; prefers = before.prefers; score = before.score }) chosen.1;
  committed = subst (λ (b : Standing). KeepsCommitted before.board.state b.state) (sym chosen.1) (keeps_itself before.board.state);
}

pub scoring_none : (before : Scoring) (now : Standing) → now ≡ before.board → IsScored before.board.state before.prefers before.score → IsScoring now before.prefers before.score
scoring_none before now is scored = λ unspoiled. subst (λ (b : Standing). IsScored b.state before.prefers before.score) (sym is) scored

-- ---- the same, by the parts of what is seen

module _ (board : Standing) (prefers : List Prefer) (points : ℤ) (unspoiled : board.spoiled ≡ false) (holds : IsScoring board prefers points) where
  abbrev seen : Scoring
  seen = record { board = board; prefers = prefers; score = points }

  module _ (choice : Choice) (now : Standing) (whole : IsWhole board.state) (chosen : IsChosen prefers (changes_in board.state) (Some choice) board now) where
    pub unspoiled_then : now.spoiled ≡ false
    unspoiled_then = ap (λ (b : Standing). b.spoiled) chosen.made

    pub fits_then : All (IsPreferOf now.state.model) prefers
    fits_then = (scoring_then seen choice now whole (holds unspoiled) chosen (score now.state prefers) refl unspoiled_then).fits

    pub sum_made : points +ℤ choice.gain ≡ score now.state prefers
    sum_made = sum_then seen choice now whole (holds unspoiled) chosen

    pub holds_made : (z : ℤ) → z ≡ score now.state prefers → IsScoring now prefers z
    holds_made z is = scoring_then seen choice now whole (holds unspoiled) chosen z is

    pub step_made : (old : Scoring) → seen ≡ old → (z : ℤ) → z ≡ score now.state prefers → IsStepped (Some choice.mv) old (record { board = now; prefers = prefers; score = z })
    step_made old view z is = subst (λ (t : Scoring). IsStepped (Some choice.mv) t (record { board = now; prefers = prefers; score = z })) view (stepped_some seen choice now whole (holds unspoiled) chosen z is)

  module _ (now : Standing) (chosen : IsChosen prefers (changes_in board.state) None board now) where
    pub holds_none : IsScoring now prefers points
    holds_none = scoring_none seen now chosen.1 (holds unspoiled)

    pub step_none : (old : Scoring) → seen ≡ old → IsStepped None old (record { board = now; prefers = prefers; score = points })
    step_none old view = subst (λ (t : Scoring). IsStepped None t (record { board = now; prefers = prefers; score = points })) view (stepped_none seen now unspoiled (holds unspoiled) chosen)
