-- The first causes, found in one pass over the edges.
use Rattle.std.proofs.Common.{◌≡◌, ◌≢◌, ⊎_elim, ℕ, ◌+◌, ◌<◌, pos, List, length, set, Option, Some, None, refl, sym, ◌∙◌, ap, subst, arith}
use Rattle.std.proofs.lemmas.List.{get_or-set_same, get_or-set_other, length-set, get_or_default}
use Rattle.std.proofs.lemmas.Bool.{cases_eq}
use Rattle.pl_stn.specs.declared.net.Net.{Net}
use Rattle.pl_stn.specs.Nets.{IsWellFormed, edge_of}
use Rattle.pl_stn.specs.Causes.{IsFirstCause, IsAfterOrigin, AreFirstCauses, cause_of}

-- the causes that the edges below n give
pub record HaveStarted (net : Net) (causes : List (Option ℕ)) (n : ℕ) : Type 0 where
  pub each_point : length causes ≡ net.points
  pub first : (p k : ℕ) → cause_of causes p ≡ Some k → IsFirstCause net p k
  pub found : (k : ℕ) → k < n → IsAfterOrigin (edge_of net k) → cause_of causes (edge_of net k).from ≢ None

-- the edge gives a cause
pub started_found : (net : Net) (causes : List (Option ℕ)) (n : ℕ) → HaveStarted net causes n → n < length net.edges → (edge_of net n).from < net.points → IsAfterOrigin (edge_of net n) → HaveStarted net (set causes (edge_of net n).from (Some n)) (n + 1)
started_found net causes n s edge in_range after =
    let within : (edge_of net n).from < length causes = subst (λ x. (edge_of net n).from < x) (sym s.each_point) in_range in
    let cause : IsFirstCause net (edge_of net n).from n = record { starts = record { edge = edge; start = refl }; after = after } in
    let now = get_or-set_same causes (edge_of net n).from (Some n) None within in
    record {
      each_point = rw length-set s.each_point;
      first = λ p k e.
          ⊎_elim
          (λ (same : p ≡ (edge_of net n).from).
          let eq : n ≡ k = cc in
          subst (λ x. IsFirstCause net p x) eq (subst (λ x. IsFirstCause net x n) (sym same) cause))
          (λ (other : p ≢ (edge_of net n).from). s.first p k (rw (get_or-set_other causes (edge_of net n).from p (Some n) None other) at e))
          (cases_eq p (edge_of net n).from);
      found = λ k h c e.
          ⊎_elim
          (λ (same : (edge_of net k).from ≡ (edge_of net n).from). cc)
          (λ (other : (edge_of net k).from ≢ (edge_of net n).from).
          ⊎_elim
          (λ (one : k ≡ n). other (ap (λ x. (edge_of net x).from) one))
          (λ (more : k ≢ n). s.found k (omega arith) c (rw (get_or-set_other causes (edge_of net n).from (edge_of net k).from (Some n) None other) at e))
          (cases_eq k n))
          (cases_eq (edge_of net k).from (edge_of net n).from);
    }

-- the edge gives none
pub started_passed : (net : Net) (causes : List (Option ℕ)) (n : ℕ) → HaveStarted net causes n → (IsAfterOrigin (edge_of net n) → ⊥) → HaveStarted net causes (n + 1)
started_passed net causes n s none = record {
  each_point = s.each_point;
  first = s.first;
  found = λ k h c.
      ⊎_elim
      (λ (one : k ≡ n). absurd (none (subst (λ x. IsAfterOrigin (edge_of net x)) one c)))
      (λ (more : k ≢ n). s.found k (omega arith) c)
      (cases_eq k n);
}

pub started_all : (net : Net) (causes : List (Option ℕ)) → IsWellFormed net → HaveStarted net causes (length net.edges) → AreFirstCauses net causes
started_all net causes is_net s = record {
  each_point = s.each_point;
  first = s.first;
  rooted = λ p h e.
      ⊎_elim
      (λ (same : p ≡ 0). same)
      (λ (other : p ≢ 0).
      let away : 0 < p = omega arith in
      let held = is_net.after_origin p away h in
      let is : edge_of net held.0 ≡ record { from = p; to = 0; most = pos 0 } = get_or_default net.edges held.0 _ _ held.1 ∙ held.2 in
      let at : (edge_of net held.0).from ≡ p = ap (λ x. x.from) is in
      let after : IsAfterOrigin (edge_of net held.0) = (rw at away, ap (λ x. x.to) is, ap (λ x. x.most) is) in
      absurd (s.found held.0 held.1 after (rw at e)))
      (cases_eq p 0);
}
