-- Goals after one was added or dropped.
use Rattle.std.proofs.Common.{◌≡◌, ◌≢◌, ℕ, ◌<◌, Bool, true, false, List, [], ◌∷◌, ◌++◌, length, get_or, refl, sym, ap, ◌∙◌, arith}
use Rattle.std.specs.Prelude.{◌==◌, All, Option, Some, None, IsSome, IfSome, if◌then◌else◌}
use Rattle.std.proofs.lemmas.List.{length-map, get_or-map}
use Rattle.std.proofs.lemmas.List.Quantifiers.{all_pairs_push}
use Rattle.std.proofs.lemmas.List.Elements.{All-map, All-weaker}
use Rattle.pl_facts.specs.declared.goal.Goal.{Goal}
use Rattle.pl_facts.specs.Goals.{is_numbered, goal_of, with_dropped, AreDistinct}
use Rattle.pl_facts.proofs.Finding.{position-None}
use Rattle.pl_facts.proofs.Numbered.{absent}
use Rattle.pl_model.specs.declared.whole.Model.{Model}
use Rattle.pl_semantics.specs.Whole.{IsGoalOf}

-- ---- one more

pub distinct_with : (goals : List Goal) (g : Goal) → AreDistinct goals → goal_of g.number goals ≡ None → AreDistinct (goals ++ g ∷ [])
distinct_with goals g distinct none = all_pairs_push (λ (one other : Goal). one.number ≢ other.number) goals g distinct (absent g.number goals (position-None (is_numbered g.number) goals none))

found_with : (n : ℕ) (goals : List Goal) (g : Goal) → IsSome (goal_of n goals) → IsSome (goal_of n (goals ++ g ∷ []))
found_with n [] g some = absurd (cc)
found_with n (x ∷ goals) g some = cases (is_numbered n x) refl (found_with n goals g)
  where
    cases : (b : Bool) → is_numbered n x ≡ b → (IsSome (goal_of n goals) → IsSome (goal_of n (goals ++ g ∷ []))) → IsSome (goal_of n (x ∷ (goals ++ g ∷ [])))
    cases true e more = rw e refl
    cases false e more = let some2 : IsSome (goal_of n goals) = rw e at some in rw e (more some2)

pub carried_with : (goals : List Goal) (g : Goal) (o : Option ℕ) → IfSome o (λ n. IsSome (goal_of n goals)) → IfSome o (λ n. IsSome (goal_of n (goals ++ g ∷ [])))
carried_with goals g None some = some
carried_with goals g (Some n) some = found_with n goals g some

-- ---- one dropped

abbrev dropped_one : ℕ → Goal → Goal
dropped_one n goal = if is_numbered n goal then record goal { dropped = true } else goal

number_kept : (n : ℕ) (g : Goal) → (dropped_one n g).number ≡ g.number
number_kept n g = by (is_numbered n g)
  where
    by : (b : Bool) → (if b then record g { dropped = true } else g).number ≡ g.number
    by true = refl
    by false = refl

goal_kept : (model : Model) (n : ℕ) (g : Goal) → IsGoalOf model g → IsGoalOf model (dropped_one n g)
goal_kept model n g is = by (is_numbered n g)
  where
    by : (b : Bool) → IsGoalOf model (if b then record g { dropped = true } else g)
    by true = record { kind = is.kind; ordered = is.ordered; before = is.before; presets = is.presets }
    by false = is

pub goals_dropped : (model : Model) (n : ℕ) (goals : List Goal) → All (IsGoalOf model) goals → All (IsGoalOf model) (with_dropped n goals)
goals_dropped model n goals all = All-map (IsGoalOf model) (dropped_one n) goals (All-weaker (IsGoalOf model) (λ g. IsGoalOf model (dropped_one n g)) (goal_kept model n) goals all)

pub distinct_dropped : (n : ℕ) (goals : List Goal) → AreDistinct goals → AreDistinct (with_dropped n goals)
distinct_dropped n goals distinct i j d lt within =
    let in_j : j < length goals = rw (length-map goals (dropped_one n)) at within in
    let in_i : i < length goals = omega (arith, lt, in_j) in
    rw (get_or-map (dropped_one n) goals i d d in_i, get_or-map (dropped_one n) goals j d d in_j) (λ e. distinct i j d lt in_j (sym (number_kept n (get_or goals i d)) ∙ e ∙ number_kept n (get_or goals j d)))

found_dropped : (n q : ℕ) (goals : List Goal) → IsSome (goal_of q goals) → IsSome (goal_of q (with_dropped n goals))
found_dropped n q [] some = absurd (cc)
found_dropped n q (x ∷ goals) some = cases (is_numbered q x) refl (found_dropped n q goals)
  where
    cases : (b : Bool) → is_numbered q x ≡ b → (IsSome (goal_of q goals) → IsSome (goal_of q (with_dropped n goals))) → IsSome (goal_of q (dropped_one n x ∷ with_dropped n goals))
    cases true e more = let e2 : is_numbered q (dropped_one n x) ≡ true = ap (λ k. k == q) (number_kept n x) ∙ e in rw e2 refl
    cases false e more = let e2 : is_numbered q (dropped_one n x) ≡ false = ap (λ k. k == q) (number_kept n x) ∙ e in let some2 : IsSome (goal_of q goals) = rw e at some in rw e2 (more some2)

pub carried_dropped : (n : ℕ) (goals : List Goal) (o : Option ℕ) → IfSome o (λ q. IsSome (goal_of q goals)) → IfSome o (λ q. IsSome (goal_of q (with_dropped n goals)))
carried_dropped n goals None some = some
carried_dropped n goals (Some q) some = found_dropped n q goals some
