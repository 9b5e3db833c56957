-- An acyclic graph has ranks: the number of vertices that a vertex reaches falls along each edge.
use Rattle.std.proofs.Common.{◌≡◌, ℕ, suc, zero, ◌+◌, ◌<◌, ◌≤◌, ◌⊎◌, inl, inr, Bool, true, false, List, [], ◌∷◌, Option, Some, None, length, set, Contains, refl, sym, subst, true≢false, ◌∙◌, arith}
use Rattle.std.proofs.lemmas.Bool.{cases_Bool}
use Rattle.std.proofs.Math.ListN.{length-set}
use Rattle.pl_check.specs.Cycles.{Graph, successors, Walk, Reaches, IsAcyclic, is_marked, unmarked, next_of, AreReached, IsComplete}
use Rattle.pl_check.proofs.CycleLemmas.{first_edge, one_more, mark_next, fewer_unmarked, complete_at_none}

-- ---- all that a vertex reaches

joined : (graph : Graph) (a b : ℕ) → Reaches graph a b → (n c : ℕ) → Walk graph b (suc n) c → Reaches graph a c
joined graph a b r zero c (d, same, edge) = one_more graph a d c (subst (λ x. Reaches graph a x) same r) edge
joined graph a b r (suc n) c (d, walk, edge) = one_more graph a d c (joined graph a b r n d walk) edge

pub record IsReachedSet (graph : Graph) (start : ℕ) (marks : List Bool) : Type 0 where
  pub each_vertex : length marks ≡ length graph
  pub reached : AreReached graph start marks
  pub complete : IsComplete graph start marks

-- marks one vertex after the other, of so many at most
mark_all : (graph : Graph) (start fuel : ℕ) (marks : List Bool) → unmarked marks ≤ fuel → length marks ≡ length graph → AreReached graph start marks → (all : List Bool) × IsReachedSet graph start all
mark_all graph start zero marks few len r = by (next_of graph start marks) refl
  where
    by : (o : Option ℕ) → next_of graph start marks ≡ o → (all : List Bool) × IsReachedSet graph start all
    by None e = (marks, record { each_vertex = len; reached = r; complete = complete_at_none graph start marks len e })
    by (Some b) e = absurd (omega (arith, fewer_unmarked graph start marks b e, few))
mark_all graph start (suc fuel) marks few len r = by (next_of graph start marks) refl (λ ms. mark_all graph start fuel ms)
  where
    by : (o : Option ℕ) → next_of graph start marks ≡ o → ((ms : List Bool) → unmarked ms ≤ fuel → length ms ≡ length graph → AreReached graph start ms → (all : List Bool) × IsReachedSet graph start all) → (all : List Bool) × IsReachedSet graph start all
    by None e again = (marks, record { each_vertex = len; reached = r; complete = complete_at_none graph start marks len e })
    by (Some b) e again =
        let fewer = fewer_unmarked graph start marks b e in
        let same : length (set marks b true) ≡ length marks = length-set marks b true in
        again (set marks b true) (omega (arith, fewer, few)) (same ∙ len) (mark_next graph start marks b e r)

abbrev no_marks : Graph → List Bool
no_marks [] = []
no_marks (row ∷ rows) = false ∷ no_marks rows

no_marks_each : (graph : Graph) → length (no_marks graph) ≡ length graph
no_marks_each [] = refl
no_marks_each (row ∷ rows) = omega (arith, no_marks_each rows)

no_marks_false : (graph : Graph) (b : ℕ) → is_marked (no_marks graph) b ≡ false
no_marks_false [] b = refl
no_marks_false (row ∷ rows) zero = refl
no_marks_false (row ∷ rows) (suc b) = no_marks_false rows b

pub reached_set : (graph : Graph) (start : ℕ) → (all : List Bool) × IsReachedSet graph start all
reached_set graph start =
    let none : AreReached graph start (no_marks graph) = record { each = λ b h. absurd (true≢false (sym h ∙ no_marks_false graph b)) } in
    mark_all graph start (unmarked (no_marks graph)) (no_marks graph) (omega arith) (no_marks_each graph) none

-- ---- how many are marked

abbrev pub marked : List Bool → ℕ
marked [] = 0
marked (true ∷ ms) = 1 + marked ms
marked (false ∷ ms) = marked ms

marked_within : (ms : List Bool) (i : ℕ) → is_marked ms i ≡ true → i < length ms
marked_within [] i h = absurd (true≢false (sym h))
marked_within (m ∷ ms) zero h = omega arith
marked_within (m ∷ ms) (suc i) h = let lt : i < length ms = marked_within ms i h in omega (arith, lt)

at_most_all : (ms : List Bool) → marked ms ≤ length ms
at_most_all [] = omega arith
at_most_all (true ∷ ms) = omega (arith, at_most_all ms)
at_most_all (false ∷ ms) = omega (arith, at_most_all ms)

not_all : (ms : List Bool) (i : ℕ) → i < length ms → is_marked ms i ≡ false → marked ms < length ms
not_all [] i lt h = absurd (omega (arith, lt))
not_all (true ∷ ms) zero lt h = absurd (true≢false h)
not_all (false ∷ ms) zero lt h = omega (arith, at_most_all ms)
not_all (true ∷ ms) (suc i) lt h = omega (arith, not_all ms i (omega (arith, lt)) h)
not_all (false ∷ ms) (suc i) lt h = omega (arith, not_all ms i (omega (arith, lt)) h)

fewer : (ms ns : List Bool) → length ms ≡ length ns → ((i : ℕ) → is_marked ms i ≡ true → is_marked ns i ≡ true) → marked ms ≤ marked ns
fewer [] ns e f = omega arith
fewer (m ∷ ms) [] e f = absurd (omega (arith, e))
fewer (true ∷ ms) (true ∷ ns) e f = omega (arith, fewer ms ns (omega (arith, e)) (λ i h. f (suc i) h))
fewer (true ∷ ms) (false ∷ ns) e f = absurd (true≢false (sym (f 0 refl)))
fewer (false ∷ ms) (true ∷ ns) e f = omega (arith, fewer ms ns (omega (arith, e)) (λ i h. f (suc i) h))
fewer (false ∷ ms) (false ∷ ns) e f = omega (arith, fewer ms ns (omega (arith, e)) (λ i h. f (suc i) h))

strictly_fewer : (ms ns : List Bool) → length ms ≡ length ns → ((i : ℕ) → is_marked ms i ≡ true → is_marked ns i ≡ true) → (k : ℕ) → is_marked ms k ≡ false → is_marked ns k ≡ true → marked ms < marked ns
strictly_fewer [] [] e f k no_mark mark = absurd (true≢false (sym mark))
strictly_fewer [] (n ∷ ns) e f k no_mark mark = absurd (omega (arith, e))
strictly_fewer (m ∷ ms) [] e f k no_mark mark = absurd (omega (arith, e))
strictly_fewer (true ∷ ms) (n ∷ ns) e f zero no_mark mark = absurd (true≢false no_mark)
strictly_fewer (false ∷ ms) (false ∷ ns) e f zero no_mark mark = absurd (true≢false (sym mark))
strictly_fewer (false ∷ ms) (true ∷ ns) e f zero no_mark mark = omega (arith, fewer ms ns (omega (arith, e)) (λ i h. f (suc i) h))
strictly_fewer (true ∷ ms) (true ∷ ns) e f (suc k) no_mark mark = omega (arith, strictly_fewer ms ns (omega (arith, e)) (λ i h. f (suc i) h) k no_mark mark)
strictly_fewer (true ∷ ms) (false ∷ ns) e f (suc k) no_mark mark = absurd (true≢false (sym (f 0 refl)))
strictly_fewer (false ∷ ms) (true ∷ ns) e f (suc k) no_mark mark = omega (arith, strictly_fewer ms ns (omega (arith, e)) (λ i h. f (suc i) h) k no_mark mark)
strictly_fewer (false ∷ ms) (false ∷ ns) e f (suc k) no_mark mark = omega (arith, strictly_fewer ms ns (omega (arith, e)) (λ i h. f (suc i) h) k no_mark mark)

-- ---- the rank

-- how many vertices a vertex reaches
abbrev pub rank_of : Graph → ℕ → ℕ
rank_of graph a = marked (reached_set graph a).0

unmarked_self : (graph : Graph) → IsAcyclic graph → (a : ℕ) → a < length graph → is_marked (reached_set graph a).0 a ≡ false
unmarked_self graph acyclic a lt = by (cases_Bool (is_marked (reached_set graph a).0 a))
  where
    by : (is_marked (reached_set graph a).0 a ≡ true) ⊎ (is_marked (reached_set graph a).0 a ≡ false) → is_marked (reached_set graph a).0 a ≡ false
    by (inl t) = absurd (acyclic.each a lt ((reached_set graph a).1.reached.each a t))
    by (inr f) = f

pub rank_below : (graph : Graph) → IsAcyclic graph → (a : ℕ) → a < length graph → rank_of graph a < length graph
rank_below graph acyclic a lt =
    let set_of_a = reached_set graph a in
    let same : length set_of_a.0 ≡ length graph = set_of_a.1.each_vertex in
    omega (arith, same, not_all set_of_a.0 a (omega (arith, lt, same)) (unmarked_self graph acyclic a lt))

pub rank_falls : (graph : Graph) → IsAcyclic graph → (a b : ℕ) → b < length graph → Contains (successors graph a) b → rank_of graph b < rank_of graph a
rank_falls graph acyclic a b lt edge =
    let set_of_a = reached_set graph a in
    let set_of_b = reached_set graph b in
    let len_a : length set_of_a.0 ≡ length graph = set_of_a.1.each_vertex in
    let len_b : length set_of_b.0 ≡ length graph = set_of_b.1.each_vertex in
    let direct = first_edge graph a b edge in
    strictly_fewer set_of_b.0 set_of_a.0 (len_b ∙ sym len_a)
    (λ i h. let from_b = set_of_b.1.reached.each i h in set_of_a.1.complete.each i (omega (arith, marked_within set_of_b.0 i h, len_a, len_b)) (joined graph a b direct from_b.edges i from_b.walk))
    b (unmarked_self graph acyclic b lt) (set_of_a.1.complete.each b (omega (arith, lt, len_a)) direct)
