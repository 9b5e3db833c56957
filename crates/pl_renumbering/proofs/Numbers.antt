-- New ids compare as the old ones do.
use Rattle.std.proofs.Common.{◌≡◌, ⊎_elim, ℕ, zero, suc, ◌<◌, ◌≤◌, eqb, ltb, sym, ap, ◌∙◌, arith}
use Rattle.std.specs.Prelude.{◌⊎◌}
use Rattle.std.specs.Ordering.{nat_cmp}
use Rattle.std.proofs.lemmas.Bool.{eq-eqb, ne_eqb, lt-ltb, le-ltb, cases_order}
use Rattle.pl_links.proofs.Keyed.{cmp_less, cmp_equal, cmp_greater}
use Rattle.pl_renumbering.specs.Renumbered.{KeepsOrder}

module _ (f : ℕ → ℕ) (keeps : KeepsOrder f) where
  pub same_ids : (m n : ℕ) → eqb (f m) (f n) ≡ eqb m n
  same_ids m n = ⊎_elim
      (λ (same : m ≡ n). eq-eqb (f m) (f n) (ap f same) ∙ sym (eq-eqb m n same))
      (λ (apart : (m < n) ⊎ (n < m)). ⊎_elim
      (λ (lt : m < n). let less = keeps m n lt in ne_eqb (f m) (f n) (λ e. omega (arith, less, e)) ∙ sym (ne_eqb m n (λ e. omega (arith, lt, e))))
      (λ (gt : n < m). let less = keeps n m gt in ne_eqb (f m) (f n) (λ e. omega (arith, less, e)) ∙ sym (ne_eqb m n (λ e. omega (arith, gt, e))))
      apart)
      (cases_order m n)

  pub less_ids : (m n : ℕ) → ltb (f m) (f n) ≡ ltb m n
  less_ids m n = ⊎_elim
      (λ (same : m ≡ n). le-ltb (f m) (f n) (let e : f m ≡ f n = ap f same in omega (arith, e)) ∙ sym (le-ltb m n (omega (arith, same))))
      (λ (apart : (m < n) ⊎ (n < m)). ⊎_elim
      (λ (lt : m < n). lt-ltb (f m) (f n) (keeps m n lt) ∙ sym (lt-ltb m n lt))
      (λ (gt : n < m). let less = keeps n m gt in le-ltb (f m) (f n) (omega (arith, less)) ∙ sym (le-ltb m n (omega (arith, gt))))
      apart)
      (cases_order m n)

  pub compare_ids : (m n : ℕ) → nat_cmp (f m) (f n) ≡ nat_cmp m n
  compare_ids m n = ⊎_elim
      (λ (same : m ≡ n). ap (λ k. nat_cmp (f m) (f k)) (sym same) ∙ (cmp_equal (f m) ∙ sym (ap (nat_cmp m) (sym same) ∙ cmp_equal m)))
      (λ (apart : (m < n) ⊎ (n < m)). ⊎_elim
      (λ (lt : m < n). cmp_less (f m) (f n) (keeps m n lt) ∙ sym (cmp_less m n lt))
      (λ (gt : n < m). cmp_greater (f m) (f n) (keeps n m gt) ∙ sym (cmp_greater m n gt))
      apart)
      (cases_order m n)

  -- a new id is no smaller than the old one
  pub no_smaller : (n : ℕ) → n ≤ f n
  no_smaller zero = omega arith
  no_smaller (suc n) = let more = keeps n (suc n) (omega arith) in let before = no_smaller n in omega (arith, more, before)
