-- Walks and marks.
use Rattle.std.proofs.Common.{◌≡◌, ◌≢◌, ℕ, suc, zero, ◌+◌, ◌<◌, ◌≤◌, ◌⊎◌, inl, inr, Bool, true, false, List, [], ◌∷◌, Option, Some, None, length, find, Contains, refl, sym, ap, subst, get_or, set, get_or-set_other, not, cond, true≢false, ◌∙◌, arith}
use Rattle.std.proofs.lemmas.Bool.{cases_Bool}
use Rattle.std.proofs.lemmas.Bool.Decides.{nat_tests}
use Rattle.std.proofs.lemmas.List.Sums.{sum_by-set}
use Rattle.std.specs.Prelude.{nat_eq}
use Rattle.pl_check.specs.Cycles.{Graph, successors, Walk, Reaches, IsAcyclicBelow, is_marked, is_unmarked, unmarked, first_of, unmarked_in, unmarked_after, unmarked_from, next_of, AreReached, IsComplete}

-- ---- what a search finds

module _ (p : ℕ → Bool) where
  find_some : (xs : List ℕ) (b : ℕ) → find p xs ≡ Some b → (p b ≡ true) × Contains xs b
  find_some [] b h = absurd (cc)
  find_some (x ∷ xs) b h = by (cases_Bool (p x)) (find_some xs b)
    where
      by : (p x ≡ true) ⊎ (p x ≡ false) → (find p xs ≡ Some b → (p b ≡ true) × Contains xs b) → (p b ≡ true) × Contains (x ∷ xs) b
      by (inl t) again =
          let found : Some x ≡ Some b = rw t at h in
          let same : x ≡ b = cc in
          (subst (λ y. p y ≡ true) same t, (0, omega arith, same))
      by (inr f) again =
          let found : find p xs ≡ Some b = rw f at h in
          let rest = again found in
          (rest.0, (suc (rest.1.0), omega (arith, rest.1.1), rest.1.2))

  find_none : (xs : List ℕ) (b : ℕ) → find p xs ≡ None → Contains xs b → p b ≡ false
  find_none [] b h at = absurd (omega (arith, at.1))
  find_none (x ∷ xs) b h at = by (cases_Bool (p x)) at (find_none xs b)
    where
      by : (p x ≡ true) ⊎ (p x ≡ false) → Contains (x ∷ xs) b → (find p xs ≡ None → Contains xs b → p b ≡ false) → p b ≡ false
      by (inl t) k again = let none : Some x ≡ None = rw t at h in absurd (cc)
      by (inr f) (zero, lt, e) again = subst (λ y. p y ≡ false) e f
      by (inr f) (suc k, lt, e) again = let rest : find p xs ≡ None = rw f at h in again rest (k, omega (arith, lt), e)

first_some : (a later : Option ℕ) (b : ℕ) → first_of a later ≡ Some b → (a ≡ Some b) ⊎ (later ≡ Some b)
first_some (Some x) later b h = inl h
first_some None later b h = inr h

first_none : (a later : Option ℕ) → first_of a later ≡ None → (a ≡ None) × (later ≡ None)
first_none (Some x) later h = absurd (cc)
first_none None later h = (refl, h)

-- ---- walks

pub first_edge : (graph : Graph) (start b : ℕ) → Contains (successors graph start) b → Reaches graph start b
first_edge graph start b edge = record { edges = 0; walk = (start, refl, edge) }

pub one_more : (graph : Graph) (start a b : ℕ) → Reaches graph start a → Contains (successors graph a) b → Reaches graph start b
one_more graph start a b r edge = record { edges = suc r.edges; walk = (a, r.walk, edge) }

-- no vertex follows one that is no vertex
has_successor : (graph : Graph) (a b : ℕ) → Contains (successors graph a) b → a < length graph
has_successor [] a b h = absurd (omega (arith, h.1))
has_successor (row ∷ graph) zero b h = omega arith
has_successor (row ∷ graph) (suc a) b h = let lt : a < length graph = has_successor graph a b h in omega (arith, lt)

-- ---- marks

unmarked_is : (marks : List Bool) (b : ℕ) → is_unmarked marks b ≡ true → (b < length marks) × (is_marked marks b ≡ false)
unmarked_is marks b h = by (cases_Bool (is_marked marks b))
  where
    by : (is_marked marks b ≡ true) ⊎ (is_marked marks b ≡ false) → (b < length marks) × (is_marked marks b ≡ false)
    by (inl t) = absurd (grind (arith, nat_tests))
    by (inr f) = (grind (arith, nat_tests), f)

marked_is : (marks : List Bool) (b : ℕ) → is_unmarked marks b ≡ false → b < length marks → is_marked marks b ≡ true
marked_is marks b h lt = by (cases_Bool (is_marked marks b))
  where
    by : (is_marked marks b ≡ true) ⊎ (is_marked marks b ≡ false) → is_marked marks b ≡ true
    by (inl t) = t
    by (inr f) = absurd (grind (arith, nat_tests))

after_some : (marks : List Bool) (a : ℕ) (row : List ℕ) (b : ℕ) → unmarked_after marks a row ≡ Some b → (is_marked marks a ≡ true) × (unmarked_in marks row ≡ Some b)
after_some marks a row b h = by (cases_Bool (is_marked marks a))
  where
    by : (is_marked marks a ≡ true) ⊎ (is_marked marks a ≡ false) → (is_marked marks a ≡ true) × (unmarked_in marks row ≡ Some b)
    by (inl t) = (t, rw t at h)
    by (inr f) = let none : None ≡ Some b = rw f at h in absurd (cc)

after_none : (marks : List Bool) (a : ℕ) (row : List ℕ) → unmarked_after marks a row ≡ None → is_marked marks a ≡ true → unmarked_in marks row ≡ None
after_none marks a row h t = rw t at h

from_some : (marks : List Bool) (graph : Graph) (i b : ℕ) → unmarked_from marks i graph ≡ Some b → (a : ℕ) × (is_marked marks (i + a) ≡ true) × (unmarked_in marks (successors graph a) ≡ Some b)
from_some marks [] i b h = absurd (cc)
from_some marks (row ∷ rows) i b h = by (first_some (unmarked_after marks i row) (unmarked_from marks (i + 1) rows) b h) (from_some marks rows (i + 1) b)
  where
    by : (unmarked_after marks i row ≡ Some b) ⊎ (unmarked_from marks (i + 1) rows ≡ Some b) → (unmarked_from marks (i + 1) rows ≡ Some b → (a : ℕ) × (is_marked marks (i + 1 + a) ≡ true) × (unmarked_in marks (successors rows a) ≡ Some b)) → (a : ℕ) × (is_marked marks (i + a) ≡ true) × (unmarked_in marks (successors (row ∷ rows) a) ≡ Some b)
    by (inl e) again =
        let found = after_some marks i row b e in
        let same : i ≡ i + 0 = omega arith in
        (0, subst (λ x. is_marked marks x ≡ true) same found.0, found.1)
    by (inr e) again =
        let found = again e in
        let same : i + 1 + found.0 ≡ i + suc (found.0) = omega arith in
        (suc (found.0), subst (λ x. is_marked marks x ≡ true) same found.1, found.2)

from_none : (marks : List Bool) (graph : Graph) (i : ℕ) → unmarked_from marks i graph ≡ None → (a : ℕ) → a < length graph → is_marked marks (i + a) ≡ true → unmarked_in marks (successors graph a) ≡ None
from_none marks [] i h a lt m = absurd (omega (arith, lt))
from_none marks (row ∷ rows) i h zero lt m =
    let both = first_none (unmarked_after marks i row) (unmarked_from marks (i + 1) rows) h in
    let same : i + 0 ≡ i = omega arith in
    after_none marks i row both.0 (subst (λ x. is_marked marks x ≡ true) same m)
from_none marks (row ∷ rows) i h (suc a) lt m =
    let both = first_none (unmarked_after marks i row) (unmarked_from marks (i + 1) rows) h in
    let same : i + suc a ≡ i + 1 + a = omega arith in
    from_none marks rows (i + 1) both.1 a (omega (arith, lt)) (subst (λ x. is_marked marks x ≡ true) same m)

-- the next vertex has no mark, and is reached
pub next_vertex_is : (graph : Graph) (start : ℕ) (marks : List Bool) (b : ℕ) → next_of graph start marks ≡ Some b → (b < length marks) × (is_marked marks b ≡ false)
unfolding next_of
next_vertex_is graph start marks b h = by (first_some (unmarked_in marks (successors graph start)) (unmarked_from marks 0 graph) b h)
  where
    by : (unmarked_in marks (successors graph start) ≡ Some b) ⊎ (unmarked_from marks 0 graph ≡ Some b) → (b < length marks) × (is_marked marks b ≡ false)
    by (inl e) = unmarked_is marks b (find_some (is_unmarked marks) (successors graph start) b e).0
    by (inr e) = let found = from_some marks graph 0 b e in unmarked_is marks b (find_some (is_unmarked marks) (successors graph (found.0)) b found.2).0

next_reached : (graph : Graph) (start : ℕ) (marks : List Bool) (b : ℕ) → next_of graph start marks ≡ Some b → AreReached graph start marks → Reaches graph start b
unfolding next_of
next_reached graph start marks b h r = by (first_some (unmarked_in marks (successors graph start)) (unmarked_from marks 0 graph) b h)
  where
    by : (unmarked_in marks (successors graph start) ≡ Some b) ⊎ (unmarked_from marks 0 graph ≡ Some b) → Reaches graph start b
    by (inl e) = first_edge graph start b (find_some (is_unmarked marks) (successors graph start) b e).1
    by (inr e) =
        let found = from_some marks graph 0 b e in
        let same : 0 + found.0 ≡ found.0 = omega arith in
        one_more graph start (found.0) b (r.each (found.0) (subst (λ x. is_marked marks x ≡ true) same found.1)) (find_some (is_unmarked marks) (successors graph (found.0)) b found.2).1

-- it is marked
pub mark_next : (graph : Graph) (start : ℕ) (marks : List Bool) (b : ℕ) → next_of graph start marks ≡ Some b → AreReached graph start marks → AreReached graph start (set marks b true)
mark_next graph start marks b next r = record { each = λ c h. at c h (cases_Bool (nat_eq b c)) }
  where
    at : (c : ℕ) → is_marked (set marks b true) c ≡ true → (nat_eq b c ≡ true) ⊎ (nat_eq b c ≡ false) → Reaches graph start c
    at c h (inl e) = let same : b ≡ c = grind (arith, nat_tests) in subst (λ x. Reaches graph start x) same (next_reached graph start marks b next r)
    at c h (inr e) = let other : c ≢ b = grind (arith, nat_tests) in r.each c (rw get_or-set_other at h)

pub fewer_unmarked : (graph : Graph) (start : ℕ) (marks : List Bool) (b : ℕ) → next_of graph start marks ≡ Some b → unmarked (set marks b true) < unmarked marks
fewer_unmarked graph start marks b next =
    let is = next_vertex_is graph start marks b next in
    let sums = sum_by-set (λ x. cond (not x) 1 0) marks b true false is.0 in
    let same : ◌≡◌ {A = ℕ} (cond (not (get_or marks b false)) 1 0) 1 = ap (λ x. cond (not x) 1 0) is.1 in
    omega (arith, sums, same)

pub next_below : (graph : Graph) (start : ℕ) (marks : List Bool) (b : ℕ) → next_of graph start marks ≡ Some b → b < length marks
next_below graph start marks b next = (next_vertex_is graph start marks b next).0

-- where there is no next vertex, every vertex that is reached is marked
walks_marked : (graph : Graph) (start : ℕ) (marks : List Bool) → length marks ≡ length graph → unmarked_in marks (successors graph start) ≡ None → unmarked_from marks 0 graph ≡ None → (n b : ℕ) → b < length marks → Walk graph start (suc n) b → is_marked marks b ≡ true
walks_marked graph start marks len begun closed zero b lt (c, same, edge) =
    marked_is marks b (find_none (is_unmarked marks) (successors graph start) b begun (subst (λ x. Contains (successors graph x) b) (sym same) edge)) lt
walks_marked graph start marks len begun closed (suc n) b lt (c, walk, edge) =
    let vertex = has_successor graph c b edge in
    let inside : c < length marks = omega (arith, vertex, len) in
    let marked = walks_marked graph start marks len begun closed n c inside walk in
    let same : c ≡ 0 + c = omega arith in
    marked_is marks b (find_none (is_unmarked marks) (successors graph c) b (from_none marks graph 0 closed c vertex (subst (λ x. is_marked marks x ≡ true) same marked)) edge) lt

pub complete_at_none : (graph : Graph) (start : ℕ) (marks : List Bool) → length marks ≡ length graph → next_of graph start marks ≡ None → IsComplete graph start marks
unfolding next_of
complete_at_none graph start marks len h =
    let both = first_none (unmarked_in marks (successors graph start)) (unmarked_from marks 0 graph) h in
    record { each = λ b lt r. walks_marked graph start marks len both.0 both.1 r.edges b lt r.walk }

-- ---- what a mark says

pub marked_reached : (graph : Graph) (start b : ℕ) (marks : List Bool) → AreReached graph start marks → is_marked marks b ≡ true → Reaches graph start b
marked_reached graph start b marks r h = r.each b h

pub unmarked_unreached : (graph : Graph) (start b : ℕ) (marks : List Bool) → IsComplete graph start marks → b < length marks → is_marked marks b ≡ false → Reaches graph start b → ⊥
unmarked_unreached graph start b marks c lt h r = true≢false (sym (c.each b lt r) ∙ h)

-- ---- the vertices in order

pub none_below : (graph : Graph) → IsAcyclicBelow graph 0
none_below graph = record { each = λ a lt r. absurd (omega (arith, lt)) }

pub one_further : (graph : Graph) (n : ℕ) → IsAcyclicBelow graph n → (Reaches graph n n → ⊥) → IsAcyclicBelow graph (n + 1)
one_further graph n below here = record { each = λ a lt r. at a lt r (cases_Bool (nat_eq a n)) }
  where
    at : (a : ℕ) → a < n + 1 → Reaches graph a a → (nat_eq a n ≡ true) ⊎ (nat_eq a n ≡ false) → ⊥
    at a lt r (inl e) = let same : a ≡ n = grind (arith, nat_tests) in here (subst (λ x. Reaches graph x x) same r)
    at a lt r (inr e) = let less : a < n = grind (arith, nat_tests) in below.each a less r

pub all_below : (graph : Graph) (n : ℕ) → IsAcyclicBelow graph n → length graph ≤ n → IsAcyclicBelow graph (length graph)
all_below graph n below le = record { each = λ a lt r. below.each a (omega (arith, lt, le)) r }
