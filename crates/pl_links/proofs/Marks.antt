-- The order of what is broken is total and tells all apart.
use Rattle.std.proofs.Common.{◌≡◌, Bool, true, List, ap, arith, sym, subst, ◌∙◌}
use Rattle.std.specs.Prelude.{Contains}
use Rattle.std.specs.List.{dedup}
use Rattle.std.specs.declared.cmp.Ordering.TheVariants.{Equal}
use Rattle.std.specs.Cmp.{IsTotalOrder, IsEquivalence, then_total, on_total, nat_cmp_total, bool_cmp_total}
use Rattle.std.specs.Ordering.{is_eq, eq_by_cmp}
use Rattle.std.specs.BTreeMap.{is_at}
use Rattle.std.specs.List.Sorted.{IsSorted, IsStrictlySortedBy}
use Rattle.std.proofs.lemmas.Grind.{common_steps}
use Rattle.std.proofs.lemmas.Cmp.{tied_itself, eq_by_cmp_equiv}
use Rattle.std.proofs.lemmas.Map.Lookups.{btree_set_from_contains}
use Rattle.std.proofs.lemmas.List.Kept.{Contains-dedup, Contains-from_dedup, IsStrictlySortedBy-dedup}
use Rattle.pl_lists.proofs.Orderings.{equal_from_test}
use Rattle.pl_lists.proofs.Tests.{same_test}
use Rattle.pl_links.specs.declared.broken.Broken.{Broken}
use Rattle.pl_links.specs.Sets.{broken_cmp, has}
use Rattle.pl_links.proofs.Anys.{any_from, any_found}

pub broken_total : IsTotalOrder broken_cmp
broken_total = then_total (on_total (λ (b : Broken). b.id) nat_cmp_total) (then_total (on_total (λ (b : Broken). b.index) nat_cmp_total) (on_total (λ (b : Broken). b.slots) bool_cmp_total))

pub broken_exact : (x y : Broken) → broken_cmp x y ≡ Equal → x ≡ y
broken_exact x y e = grind (arith, common_steps)

pub itself : (b : Broken) → is_at (broken_cmp b) b ≡ true
itself b = ap is_eq (tied_itself broken_total b)

pub same_broken : (b x : Broken) → is_at (broken_cmp b) x ≡ true → b ≡ x
same_broken b x e = broken_exact b x (equal_from_test (broken_cmp b x) e)

pub has_held : (b : Broken) (bs : List Broken) → Contains bs b → has b bs ≡ true
has_held b bs within = any_from (is_at (broken_cmp b)) bs b within (itself b)

pub held : (b : Broken) (bs : List Broken) → has b bs ≡ true → Contains bs b
held b bs e =
    let found = any_found (is_at (broken_cmp b)) bs e in
    let is : found.0 ≡ b = sym (same_broken b found.0 found.2) in
    subst (λ x. Contains bs x) is found.1

pub only_list : (xs ys : List Broken) → IsStrictlySortedBy broken_cmp xs → IsStrictlySortedBy broken_cmp ys → ((b : Broken) → has b xs ≡ has b ys) → xs ≡ ys
only_list xs ys one two same = btree_set_from_contains broken_total (record { keys = xs }) (record { keys = ys }) one two same broken_exact

-- ---- each once

module _ (E : Broken → Broken → Bool) (ties : (x y : Broken) → E x y ≡ eq_by_cmp broken_cmp x y) where
  same : IsEquivalence E
  same =
      let o = eq_by_cmp_equiv broken_total in
      record {
        refl = λ x. ties x x ∙ o.refl x;
        symm = λ x y. ties x y ∙ (o.symm x y ∙ sym (ties y x));
        congr = λ x y z e. ties x z ∙ (o.congr x y z (sym (ties x y) ∙ e) ∙ sym (ties y z));
      }

  exact : (x y : Broken) → E x y ≡ true → x ≡ y
  exact x y e = same_broken x y (sym (ties x y) ∙ e)

  pub has_once : (b : Broken) (xs : List Broken) → has b (dedup E xs) ≡ has b xs
  has_once b xs =
      same_test (has b (dedup E xs)) (has b xs)
      (λ h. has_held b xs (Contains-from_dedup E xs b (held b (dedup E xs) h)))
      (λ h. has_held b (dedup E xs) (Contains-dedup same exact xs b (held b xs h)))

  pub once_sorted : (xs : List Broken) → IsSorted broken_cmp xs → IsStrictlySortedBy broken_cmp (dedup E xs)
  once_sorted xs rising = IsStrictlySortedBy-dedup broken_total ties xs rising
