-- Goals with a number of their own.
use Rattle.std.proofs.Common.{◌≡◌, ◌≢◌, ℕ, ◌<◌, ◌≤◌, true, false, cond, List, [], ◌∷◌, ◌++◌, length, get_or, set, take, refl, sym, ap, subst, ◌∙◌, arith, ⊎_elim, if◌then◌else◌}
use Rattle.std.specs.Prelude.{Some, None, position, IsSome, nat_lt, ◌==◌}
use Rattle.std.proofs.lemmas.Bool.{cond_both, false≢true, eq-eqb, ne_eqb, eqb-true, eqb-false, cases_eq, cases_order}
use Rattle.std.proofs.lemmas.List.{same_lists, length-map, length-set, get_or-map, get_or-set_same, get_or-set_other, get_or-take, get_or_default, length-take-le}
use Rattle.std.proofs.lemmas.List.Quantifiers.{position-Some, all_pairs_push}
use Rattle.std.specs.declared.cmp.Ordering.TheVariants.{Less, Equal, Greater}
use Rattle.std.specs.Ordering.{nat_cmp, is_eq}
use Rattle.std.specs.declared.cmp.Reverse.{Reverse}
use Rattle.std.specs.BTreeMap.{BTreeMap, get, Updates}
use Rattle.pl_facts.specs.declared.goal.Goal.{Goal}
use Rattle.pl_facts.specs.Goals.{is_numbered, goal_of, with_dropped, AreDistinct}
use Rattle.pl_facts.specs.Places.{AreIndexed, down}
use Rattle.pl_facts.proofs.Finding.{none_passes, none_or_some, find_fails, find-None, find-Some, position-None, position-push_here, position-push_past, position-set}

pub absent : (n : ℕ) (goals : List Goal) → position (is_numbered n) goals ≡ None → (k : ℕ) (d : Goal) → k < length goals → (get_or goals k d).number ≢ n
absent n goals e k d h = eqb-false _ _ (none_passes (is_numbered n) goals e k d h)

-- what the place of a number gives
pub found : (n : ℕ) (goals : List Goal) (i : ℕ) (g : Goal) → position (is_numbered n) goals ≡ Some i → g ≡ get_or goals i g → (goal_of n goals ≡ Some g) × (i < length goals) × (g.number ≡ n) × ((get_or goals i g).number ≡ n)
found n goals i g at here =
    let there = position-Some (is_numbered n) goals i g at in
    let same : is_numbered n g ≡ true = let P : Goal → Type 0 = λ x. is_numbered n x ≡ true in subst P (sym here) there.1 in
    (find-Some (is_numbered n) goals i g at ∙ ap Some (sym here), there.0, eqb-true _ _ same, eqb-true _ _ there.1)

pub is_placed : (n : ℕ) (goals : List Goal) → IsSome (goal_of n goals) → IsSome (position (is_numbered n) goals)
is_placed n goals some = ⊎_elim
    (λ (e : position (is_numbered n) goals ≡ None). absurd (let none : goal_of n goals ≡ None = find-None (is_numbered n) goals e in false≢true (rw none at some)))
    (λ (e : IsSome (position (is_numbered n) goals)). e)
    (none_or_some (position (is_numbered n) goals))

-- one goal of the list with a number dropped
abbrev dropped_if : ℕ → Goal → Goal
dropped_if n goal = if is_numbered n goal then record goal { dropped = true } else goal

apart : (goals : List Goal) (i k : ℕ) (d : Goal) → AreDistinct goals → i < length goals → k < length goals → k ≢ i → (get_or goals k d).number ≢ (get_or goals i d).number
apart goals i k d distinct in_i in_k ne = ⊎_elim (λ same. absurd (ne same)) (⊎_elim (λ lt. distinct k i d lt in_i) (λ gt same. distinct i k d gt in_k (sym same))) (cases_order k i)

-- every goal but the one at the place has another number
pub differs : (goals : List Goal) (i k : ℕ) (g d : Goal) → AreDistinct goals → i < length goals → get_or goals i g ≡ g → k < length goals → k ≢ i → (get_or goals k d).number ≢ g.number
differs goals i k g d distinct within here in_k ne =
    let there : get_or goals i d ≡ g = get_or_default goals i d g within ∙ here in
    λ e. apart goals i k d distinct within in_k ne (e ∙ sym (ap (λ (x : Goal). x.number) there))

-- the goal at the place is the one that is dropped
pub with_dropped-set : (n : ℕ) (goals : List Goal) (i : ℕ) (g : Goal) → AreDistinct goals → i < length goals → get_or goals i g ≡ g → g.number ≡ n → with_dropped n goals ≡ set goals i (record g { dropped = true })
with_dropped-set n goals i g distinct within here same =
    same_lists (with_dropped n goals) (set goals i (record g { dropped = true })) (length-map goals (dropped_if n) ∙ sym (length-set goals i _)) (λ k d h.
    let in_k : k < length goals = rw (length-map goals (dropped_if n)) at h in
    rw (get_or-map (dropped_if n) goals k d d in_k) (⊎_elim
    (λ (at : k ≡ i). rw (at, get_or-set_same goals i (record g { dropped = true }) d within, get_or_default goals i d g within, here, eq-eqb _ _ same) refl)
    (λ (ne : k ≢ i). let other : (get_or goals k d).number ≢ n = λ e. differs goals i k g d distinct within here in_k ne (e ∙ sym same) in rw (get_or-set_other goals i k _ d ne, ne_eqb _ _ other) refl)
    (cases_eq k i)))

-- none of the goals before a place has the number of the goal there
pub goal_of-before : (goals : List Goal) (i : ℕ) (g : Goal) → AreDistinct goals → i < length goals → get_or goals i g ≡ g → goal_of g.number (take i goals) ≡ None
goal_of-before goals i g distinct within here = find_fails (is_numbered g.number) (take i goals) (λ k d h.
    let le : i ≤ length goals = omega arith in
    let lt : k < i = rw (length-take-le i goals le) at h in
    rw (get_or-take i goals k d lt) (ne_eqb _ _ (differs goals i k g d distinct within here (omega arith) (λ e. omega arith))))

-- ---- the places after a change

past : (n q : ℕ) → n ≢ q → is_eq (nat_cmp q n) ≡ false
past n q ne = cond_both (nat_lt q n) Less (cond (q == n) Equal Greater) (λ o. is_eq o ≡ false) (λ _. refl) (λ _. rw (ne_eqb q n (λ same. ne (sym same))) refl)

pub indexed_push : (old new : BTreeMap (Reverse ℕ) ℕ) (goals : List Goal) (goal : Goal) → AreIndexed old goals → goal_of goal.number goals ≡ None → Updates down old new (record { 0 = goal.number }) (Some (length goals)) → AreIndexed new (goals ++ goal ∷ [])
indexed_push old new goals goal before none updates =
    let gone : position (is_numbered goal.number) goals ≡ None = position-None (is_numbered goal.number) goals none in
    record {
      distinct = all_pairs_push (λ (one other : Goal). one.number ≢ other.number) goals goal before.distinct (absent goal.number goals gone);
      placed = λ q. ⊎_elim
          (λ (same : goal.number ≡ q). subst (λ (x : ℕ). get down new (record { 0 = x }) ≡ position (is_numbered x) (goals ++ goal ∷ [])) same (updates.1 ∙ sym (position-push_here (is_numbered goal.number) goals goal gone (eq-eqb _ _ refl))))
          (λ (ne : goal.number ≢ q). updates.2 (record { 0 = q }) (past goal.number q ne) ∙ before.placed q ∙ sym (position-push_past (is_numbered q) goals goal (ne_eqb _ _ ne)))
          (cases_eq goal.number q);
    }

pub indexed_set : (places : BTreeMap (Reverse ℕ) ℕ) (goals : List Goal) (i : ℕ) (g h : Goal) → AreIndexed places goals → i < length goals → g ≡ get_or goals i g → h.number ≡ g.number → AreIndexed places (set goals i h)
indexed_set places goals i g h before within here same =
    record {
      distinct = λ j k d lt below e. before.distinct j k d lt (rw length-set at below) (sym (kept j d) ∙ e ∙ kept k d);
      placed = λ q. before.placed q ∙ sym (position-set (is_numbered q) goals i h g (rw (← here, same) refl));
    }
  where
    kept : (k : ℕ) (d : Goal) → (get_or (set goals i h) k d).number ≡ (get_or goals k d).number
    kept k d = ⊎_elim
        (λ (at : k ≡ i). rw (at, get_or-set_same goals i h d within) (same ∙ ap (λ (x : Goal). x.number) (here ∙ get_or_default goals i g d within)))
        (λ (ne : k ≢ i). rw (get_or-set_other goals i k h d ne) refl)
        (cases_eq k i)
