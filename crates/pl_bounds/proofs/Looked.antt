-- One more look, and the looks behind one.
use Rattle.std.proofs.Common.{◌≡◌, ℕ, ◌+◌, ◌<◌, ◌≤◌, List, [], ◌∷◌, ◌++◌, length, get_or, drop, map, refl, sym, ap, ◌∙◌, subst, add-one, arith}
use Rattle.std.proofs.Math.Seq.{drop-cons}
use Rattle.pl_semantics.specs.declared.plan_state.PlanState.{PlanState}
use Rattle.pl_bounds.specs.Risings.{AreMoments}
use Rattle.pl_bounds.specs.Sides.{AreRight, moment_of, value_at}
use Rattle.pl_bounds.specs.Looks.{AreLooksAt}
use Rattle.pl_bounds.specs.declared.outside.Side.{Side}
use Rattle.pl_bounds.specs.declared.outside.Look.{Look}
use Rattle.pl_bounds.proofs.Tallied.{moments_upto, one_moment_more}

map_end : (looks : List Look) (l : Look) → map moment_of (looks ++ l ∷ []) ≡ map moment_of looks ++ l.at ∷ []
map_end [] l = refl
map_end (x ∷ looks) l = ap (λ (ts : List ℕ). x.at ∷ ts) (map_end looks l)

module _ (s : PlanState) (side : Side) (line : ℕ) where
  right_end : (looks : List Look) (l : Look) → AreRight s side line looks → l.value ≡ value_at s side line l.at → AreRight s side line (looks ++ l ∷ [])
  right_end [] l right is = (is, tt)
  right_end (x ∷ looks) l right is = (right.0, right_end looks l right.1 is)

  -- one more behind them
  pub one_look_more : (next : ℕ) (looks : List Look) (l : Look) → AreLooksAt s side line next looks → next ≤ l.at → l.at < s.model.horizon → l.value ≡ value_at s side line l.at → AreLooksAt s side line (l.at + 1) (looks ++ l ∷ [])
  one_look_more next looks l are low high is = record {
    rising = subst (λ (ts : List ℕ). AreMoments s.moment (l.at + 1) ts) (sym (map_end looks l)) (one_moment_more s.moment next (l.at + 1) l.at (map moment_of looks) are.rising are.begun low (omega arith));
    right = right_end looks l are.right is;
    begun = omega (arith, are.begun, low);
    within = omega (arith, high);
  }

  -- all of them lie before the horizon
  pub looks_ahead : (next : ℕ) (looks : List Look) → AreLooksAt s side line next looks → AreLooksAt s side line s.model.horizon looks
  looks_ahead next looks are = record {
    rising = moments_upto s.moment next s.model.horizon (map moment_of looks) are.rising are.within;
    right = are.right;
    begun = omega (arith, are.begun, are.within);
    within = omega arith;
  }

  -- the first of the rest, and those behind it
  pub right_next : (looks : List Look) (i : ℕ) (d : Look) → i < length looks → AreRight s side line (drop i looks) → AreRight s side line (get_or looks i d ∷ drop (i + 1) looks)
  right_next looks i d lt right = subst (λ (ls : List Look). AreRight s side line ls) (drop-cons looks i d lt ∙ ap (λ (n : ℕ). get_or looks i d ∷ drop n looks) (sym (add-one i))) right
