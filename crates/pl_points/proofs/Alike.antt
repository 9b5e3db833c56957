-- Sums over items in another order, and lists after a change.
use Rattle.std.proofs.Common.{◌≡◌, ℕ, suc, ◌+◌, Bool, true, false, ◌&&◌, ◌||◌, not, cond, List, [], ◌∷◌, length, refl, ap, sym, ◌∙◌, arith, eqb, ltb, ℤ, pos, negsuc, ◌+ℤ◌}
use Rattle.std.specs.List.{sum_by}
use Rattle.std.specs.List.Sorted.{IsPermutation}
use Rattle.std.proofs.lemmas.Bool.{and_parts, eqb-true, lt-ltb}
use Rattle.std.proofs.lemmas.Int.{ints}
use Rattle.std.proofs.lemmas.List.Sorted.{sum_by-IsPermutation}
use Rattle.std.proofs.lemmas.List.Recursion.{is_sum_by}
use Rattle.pl_points.specs.Sums.{total}
use Rattle.pl_points.specs.Standing.{stands}
use Rattle.pl_points.specs.declared.span.Span.{Span}
use Rattle.pl_points.specs.declared.span.Change.{Change}
use Rattle.pl_points.specs.Spans.{span}
use Rattle.pl_points.specs.Changes.{same_span, IsChange}
use Rattle.pl_lists.specs.Lists.{is_among, left_out}
use Rattle.pl_points.specs.Laws.{Exchanged}

above : ℤ → ℕ
above (pos n) = n
above (negsuc n) = 0

beneath : ℤ → ℕ
beneath (pos n) = 0
beneath (negsuc n) = suc n

in_parts : (z : ℤ) → z +ℤ pos (beneath z) ≡ pos (above z)
unfolding above beneath
in_parts (pos n) = omega (arith, ints)
in_parts (negsuc n) = omega (arith, ints)

-- sums of naturals, as they recur
sum_of : {T : Type 0} → (T → ℕ) → List T → ℕ
sum_of f [] = 0
sum_of f (x ∷ xs) = f x + sum_of f xs

sum_is : {T : Type 0} (f : T → ℕ) (xs : List T) → sum_of f xs ≡ sum_by f xs
unfolding sum_of
sum_is f xs = is_sum_by (sum_of f) f refl (λ x ys. refl) xs

sum_alike : {T : Type 0} (f : T → ℕ) (xs ys : List T) → IsPermutation xs ys → sum_of f xs ≡ sum_of f ys
sum_alike f xs ys alike = sum_is f xs ∙ sym (sum_by-IsPermutation f xs ys alike) ∙ sym (sum_is f ys)

total_in_parts : {T : Type 0} (f : T → ℤ) (xs : List T) → total f xs +ℤ pos (sum_of (λ x. beneath (f x)) xs) ≡ pos (sum_of (λ x. above (f x)) xs)
unfolding sum_of
total_in_parts f [] = omega (arith, ints)
total_in_parts f (x ∷ xs) = omega (arith, ints, in_parts (f x), total_in_parts f xs)

pub total_alike : {T : Type 0} (f : T → ℤ) (xs ys : List T) → IsPermutation xs ys → total f xs ≡ total f ys
total_alike f xs ys alike =
    omega (arith, ints, total_in_parts f xs, total_in_parts f ys, sum_alike (λ x. above (f x)) xs ys alike, sum_alike (λ x. beneath (f x)) xs ys alike)

length_counted : {T : Type 0} (xs : List T) → length xs ≡ sum_of (λ x. 1) xs
unfolding sum_of
length_counted [] = refl
length_counted (x ∷ xs) = omega (arith, length_counted xs)

stands_counted : {T : Type 0} (same : T → T → Bool) (u : T) (xs : List T) → stands same u xs ≡ ltb 0 (sum_of (λ x. cond (same x u) 1 0) xs)
unfolding sum_of
stands_counted same u [] = refl
stands_counted same u (x ∷ xs) = cases (same x u) (stands_counted same u xs)
  where
    cases : (v : Bool) → stands same u xs ≡ ltb 0 (sum_of (λ x. cond (same x u) 1 0) xs) → (v || stands same u xs) ≡ ltb 0 (cond v 1 0 + sum_of (λ x. cond (same x u) 1 0) xs)
    cases true more = sym (lt-ltb 0 (1 + sum_of (λ x. cond (same x u) 1 0) xs) (omega arith))
    cases false more = let same_count : sum_of (λ x. cond (same x u) 1 0) xs ≡ 0 + sum_of (λ x. cond (same x u) 1 0) xs = omega arith in more ∙ ap (ltb 0) same_count

pub stands_alike : {T : Type 0} (same : T → T → Bool) (u : T) (xs ys : List T) → IsPermutation xs ys → (stands same u xs ≡ stands same u ys) × (length xs ≡ length ys)
stands_alike same u xs ys alike = (
  stands_counted same u xs ∙ ap (ltb 0) (sum_alike (λ x. cond (same x u) 1 0) xs ys alike) ∙ sym (stands_counted same u ys),
  length_counted xs ∙ sum_alike (λ x. 1) xs ys alike ∙ sym (length_counted ys),
)

pub same_exact : (s t : Span) → same_span s t ≡ true → s ≡ t
same_exact s t e =
    let h = and_parts (eqb s.from t.from) (eqb s.to t.to) e in
    ap (λ n. span n s.to) (eqb-true s.from t.from h.0) ∙ ap (span t.from) (eqb-true s.to t.to h.1)

among_left : {T : Type 0} (same : T → T → Bool) → ((x y : T) → same x y ≡ true → x ≡ y) → (others xs : List T) (s : T) → is_among same (left_out same others xs) s ≡ (is_among same xs s && not (is_among same others s))
among_left same exact others [] s = refl
among_left same exact others (x ∷ xs) s = cases (same x s) refl (is_among same others x) refl (among_left same exact others xs s)
  where
    no_more : (a b : Bool) → b ≡ true → (a && not b) ≡ false
    no_more true b e = rw e refl
    no_more false b e = refl

    cases : (v : Bool) → same x s ≡ v → (w : Bool) → is_among same others x ≡ w → is_among same (left_out same others xs) s ≡ (is_among same xs s && not (is_among same others s))
        → is_among same (cond w (left_out same others xs) (x ∷ left_out same others xs)) s ≡ ((same x s || is_among same xs s) && not (is_among same others s))
    cases true e true f more =
        let g : is_among same others s ≡ true = ap (is_among same others) (sym (exact x s e)) ∙ f in
        more ∙ no_more (is_among same xs s) (is_among same others s) g ∙ sym (no_more (same x s || is_among same xs s) (is_among same others s) g)
    cases true e false f more =
        let g : is_among same others s ≡ false = ap (is_among same others) (sym (exact x s e)) ∙ f in
        rw e (rw g refl)
    cases false e true f more = rw e more
    cases false e false f more = rw e more

table : (o n : Bool) → n ≡ ((o && not (o && not n)) || (n && not o))
table true true = refl
table true false = refl
table false true = refl
table false false = refl

pub exchange : {T : Type 0} (same : T → T → Bool) → ((x y : T) → same x y ≡ true → x ≡ y) → (old new went came : List T) → went ≡ left_out same new old → came ≡ left_out same old new → Exchanged same old new went came
exchange same exact old new went came gone more s =
    let left : is_among same went s ≡ (is_among same old s && not (is_among same new s)) = ap (λ l. is_among same l s) gone ∙ among_left same exact new old s in
    let come : is_among same came s ≡ (is_among same new s && not (is_among same old s)) = ap (λ l. is_among same l s) more ∙ among_left same exact old new s in
    table (is_among same old s) (is_among same new s) ∙ ap (λ b. (is_among same old s && not b) || (is_among same new s && not (is_among same old s))) (sym left) ∙ ap (λ b. (is_among same old s && not (is_among same went s)) || b) (sym come)

pub exchanged : (old new : List Span) (change : Change) → IsChange old new change → Exchanged same_span old new change.went change.came
exchanged old new change is = exchange same_span same_exact old new change.went change.came is.went is.came
