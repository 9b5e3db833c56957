-- Beginnings of one history, and own entries that stand in it.
use Rattle.std.proofs.Common.{◌≡◌, ℕ, zero, suc, ◌≤◌, List, [], ◌∷◌, ◌++◌, length, Some, slice_get, refl, sym, ap, ◌∙◌, subst, arith, append_assoc, length-append}
use Rattle.std.proofs.lemmas.Option.{slice_get_within}
use mathlib.Core.List.{IsPrefix}
use Rattle.pl_turn.specs.History.{StandsFrom}

module _ {A : Type 0} where
  pub prefix_self : (xs : List A) → IsPrefix xs xs
  prefix_self [] = ([], refl)
  prefix_self (x ∷ xs) = (let r = prefix_self xs in r.0, ap (λ ys. x ∷ ys) (prefix_self xs).1)

  pub prefix_none : (xs : List A) → IsPrefix [] xs
  prefix_none xs = (xs, refl)

  pub prefix_of_same : (xs ys : List A) → xs ≡ ys → IsPrefix xs ys
  prefix_of_same xs ys e = let P : List A → Type 0 = λ zs. IsPrefix xs zs in subst P e (prefix_self xs)

  pub prefix_trans : (xs ys zs : List A) → IsPrefix xs ys → IsPrefix ys zs → IsPrefix xs zs
  prefix_trans xs ys zs p q = (p.0 ++ q.0, sym (append_assoc xs p.0 q.0) ∙ (ap (λ w. w ++ q.0) p.1 ∙ q.1))

  -- of two beginnings of one list the shorter begins the longer
  pub prefix_shorter : (xs ys zs : List A) → IsPrefix xs zs → IsPrefix ys zs → length xs ≤ length ys → IsPrefix xs ys
  prefix_shorter [] ys zs p q le = (ys, refl)
  prefix_shorter (x ∷ xs) [] zs p q le = absurd (omega arith)
  prefix_shorter (x ∷ xs) (y ∷ ys) [] p q le = absurd (cc (p.1))
  prefix_shorter (x ∷ xs) (y ∷ ys) (z ∷ zs) p q le =
      let heads : x ≡ y = cc (p.1, q.1) in
      let rest = prefix_shorter xs ys zs (p.0, cc (p.1)) (q.0, cc (q.1)) (omega arith) in
      (rest.0, cc (heads, rest.1))

  pub prefix_length : (xs ys : List A) → IsPrefix xs ys → length xs ≤ length ys
  prefix_length xs ys p = omega (arith, sym (ap length p.1) ∙ length-append xs p.0)

  -- what stands in a beginning stands in the whole, at the same place
  pub prefix_get : (xs ys : List A) (k : ℕ) (x : A) → IsPrefix xs ys → slice_get xs k ≡ Some x → slice_get ys k ≡ Some x
  prefix_get [] ys k x p h = absurd cc
  prefix_get (y ∷ xs) [] k x p h = absurd (cc (p.1))
  prefix_get (y ∷ xs) (z ∷ ys) zero x p h = cc (p.1, h)
  prefix_get (y ∷ xs) (z ∷ ys) (suc k) x p h = prefix_get xs ys k x (p.0, cc (p.1)) h

  pub last_get : (xs : List A) (x : A) → slice_get (xs ++ x ∷ []) (length xs) ≡ Some x
  last_get [] x = refl
  last_get (y ∷ xs) x = last_get xs x

  pub last_same : (xs : List A) (x y : A) → xs ++ x ∷ [] ≡ xs ++ y ∷ [] → x ≡ y
  last_same [] x y e = cc
  last_same (z ∷ xs) x y e = last_same xs x y (cc)

  -- own entries go on standing as the history grows
  pub stands_on : (h i : List A) (low : ℕ) (own : List (ℕ × A)) → IsPrefix h i → StandsFrom h low own → StandsFrom i low own
  stands_on h i low [] p s = tt
  stands_on h i low (x ∷ xs) p s = (s.0, prefix_get h i x.0 x.1 p s.1, stands_on h i (suc x.0) xs p s.2)

  -- the entry added to the history stands behind the other own entries
  pub stands_push : (h : List A) (e : A) (low : ℕ) (own : List (ℕ × A)) → low ≤ length h → StandsFrom h low own → StandsFrom (h ++ e ∷ []) low (own ++ (length h, e) ∷ [])
  stands_push h e low [] le s = (le, last_get h e, tt)
  stands_push h e low (x ∷ xs) le s =
      let within = slice_get_within h x.0 x.1 s.1 in
      (s.0, prefix_get h (h ++ e ∷ []) x.0 x.1 (e ∷ [], refl) s.1, stands_push h e (suc x.0) xs (omega arith) s.2)
