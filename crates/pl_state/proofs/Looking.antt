-- What a binary search finds among broken spans that are sorted, and that sorting them leaves out the same.
use Rattle.std.proofs.Common.{◌≡◌, ⊎_elim, ℕ, Bool, true, false, cond, List, [], ◌∷◌, length, get_or, Result, Ok, Err, refl, ap, sym, ◌∙◌, subst, arith}
use Rattle.std.specs.Prelude.{is_ok}
use Rattle.std.specs.declared.cmp.Ordering.TheVariants.{Equal}
use Rattle.std.specs.Ordering.{is_eq}
use Rattle.std.specs.Cmp.{IsTotalOrder, then_total, on_total, nat_cmp_total}
use Rattle.std.specs.List.Sorted.{IsSorted, IsPermutation, IsBinarySearchResult, IsSearchInRange}
use Rattle.std.proofs.lemmas.Bool.{cases_lt, true≢false}
use Rattle.std.proofs.lemmas.Cmp.{tied_itself}
use Rattle.std.proofs.lemmas.Grind.{common_steps}
use Rattle.std.proofs.lemmas.List.Sorted.{searchable_from_sorted, list_any-IsPermutation}
use Rattle.std.proofs.lemmas.List.Folds.{list_any_at, list_any_none}
use Rattle.std.proofs.lemmas.List.Elements.{All-from_all_within}
use Rattle.pl_lists.specs.Lists.{is_among, left_out}
use Rattle.pl_state.specs.declared.answer.BrokenMust.{BrokenMust}
use Rattle.pl_state.specs.Timelines.{same_broken}
use Rattle.pl_state.specs.Sorted.{broken_cmp}
use Rattle.pl_state.proofs.Grouping.{broken_itself}
use Rattle.pl_state.proofs.Apart.{broken_exact}

broken_total : IsTotalOrder broken_cmp
broken_total = then_total (on_total (λ (b : BrokenMust). b.id) nat_cmp_total) (then_total (on_total (λ (b : BrokenMust). b.index) nat_cmp_total) (then_total (on_total (λ (b : BrokenMust). b.from) nat_cmp_total) (on_total (λ (b : BrokenMust). b.to) nat_cmp_total)))

-- spans are the same where neither comes first
tied_exact : (x y : BrokenMust) → broken_cmp x y ≡ Equal → x ≡ y
tied_exact x y e = grind (arith, common_steps)

tied_same : (x y : BrokenMust) → broken_cmp x y ≡ Equal → same_broken x y ≡ true
tied_same x y e = subst (λ z. same_broken x z ≡ true) (tied_exact x y e) (broken_itself x)

same_tied : (x y : BrokenMust) → same_broken x y ≡ true → broken_cmp x y ≡ Equal
same_tied x y e = subst (λ z. broken_cmp x z ≡ Equal) (broken_exact x y e) (tied_itself broken_total x)

others : (x y : BrokenMust) → is_eq (broken_cmp x y) ≡ false → same_broken x y ≡ false
others x y apart = cases (same_broken x y) refl
  where
    cases : (b : Bool) → same_broken x y ≡ b → same_broken x y ≡ false
    cases true e = absurd (true≢false (sym (ap is_eq (same_tied x y e)) ∙ apart))
    cases false e = e

pub found : (xs : List BrokenMust) (x : BrokenMust) (r : Result ℕ ℕ) → IsSorted broken_cmp xs → IsSearchInRange r (length xs) → IsBinarySearchResult (λ y. broken_cmp y x) xs r → is_ok r ≡ is_among same_broken xs x
found xs x (Ok i) sorted within at = sym (list_any_at (λ y. same_broken y x) xs i x within (tied_same (get_or xs i x) x (at x)))
found xs x (Err i) sorted within place =
    let parts = place (searchable_from_sorted broken_total (λ y. y) xs x sorted) in
    sym (list_any_none (λ y. same_broken y x) xs (All-from_all_within (λ y. same_broken y x ≡ false) xs
    (λ k d low lt. ⊎_elim
    (λ below. others (get_or xs k d) x (ap is_eq (parts.0 k d (omega arith) below)))
    (λ above. others (get_or xs k d) x (ap is_eq (parts.1 k d above lt)))
    (cases_lt k i))))

left_by : (xs ys list : List BrokenMust) → ((b : BrokenMust) → is_among same_broken xs b ≡ is_among same_broken ys b) → left_out same_broken xs list ≡ left_out same_broken ys list
left_by xs ys [] alike = refl
left_by xs ys (x ∷ list) alike =
    ap (λ b. cond b (left_out same_broken xs list) (x ∷ left_out same_broken xs list)) (alike x)
    ∙ ap (λ l. cond (is_among same_broken ys x) l (x ∷ l)) (left_by xs ys list alike)

pub left_sorted : (xs ys list : List BrokenMust) → IsPermutation xs ys → left_out same_broken ys list ≡ left_out same_broken xs list
left_sorted xs ys list moved = left_by ys xs list (λ b. sym (list_any-IsPermutation (λ y. same_broken y b) xs ys moved))
