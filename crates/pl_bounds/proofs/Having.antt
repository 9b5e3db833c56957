-- What a list has: of lists put together, made of others, and in order; and what is counted there.
use Rattle.std.proofs.Common.{◌≡◌, ℕ, zero, suc, ◌<◌, Bool, true, false, List, [], ◌∷◌, ◌++◌, map, length, get_or, refl, sym, ap, ◌∙◌, subst, arith, inl, inr, ℤ, pos, negsuc, ◌+ℤ◌, ◌≤ℤ◌, Some}
use Rattle.std.specs.Prelude.{◌⊎◌, slice_get}
use Rattle.std.specs.List.{flat_map}
use Rattle.std.proofs.lemmas.Int.{ints}
use Rattle.pl_points.specs.Sums.{total}
use Rattle.pl_state.specs.Keys.{Has}
use Rattle.pl_update.proofs.AboutTimelines.Listing.{total_least}
use Rattle.pl_update.proofs.AboutTimelines.StandingApart.{count, count_least}

module _ {T : Type 0} where
  pub has_left : (x : T) (xs ys : List T) → Has x xs → Has x (xs ++ ys)
  has_left x [] ys has = absurd has
  has_left x (y ∷ xs) ys has = elim has [ inl e ↦ inl e | inr more ↦ inr (has_left x xs ys more) ]

  pub has_right : (x : T) (xs ys : List T) → Has x ys → Has x (xs ++ ys)
  has_right x [] ys has = has
  has_right x (y ∷ xs) ys has = inr (has_right x xs ys has)

  pub has_either : (x : T) (xs ys : List T) → Has x (xs ++ ys) → Has x xs ⊎ Has x ys
  has_either x [] ys has = inr has
  has_either x (y ∷ xs) ys has = elim has [ inl e ↦ inl (inl e) | inr more ↦ elim (has_either x xs ys more) [ inl a ↦ inl (inr a) | inr b ↦ inr b ] ]

  pub has_at : (xs : List T) (i : ℕ) (x : T) → slice_get xs i ≡ Some x → Has x xs
  has_at [] i x e = absurd (cc)
  has_at (y ∷ xs) zero x e = inl (let is : y ≡ x = cc in is)
  has_at (y ∷ xs) (suc i) x e = inr (has_at xs i x e)

  pub has_place : (xs : List T) (i : ℕ) (d : T) → i < length xs → Has (get_or xs i d) xs
  has_place [] i d lt = absurd (omega (arith, lt))
  has_place (y ∷ xs) zero d lt = inl refl
  has_place (y ∷ xs) (suc i) d lt = inr (has_place xs i d (omega (arith, lt)))

pub has_same : {T : Type 0} (xs ys : List T) → xs ≡ ys → (i : ℕ) (d : T) → i < length xs → Has (get_or xs i d) ys
has_same {T} xs ys is i d lt = subst (λ (l : List T). Has (get_or xs i d) l) is (has_place xs i d lt)

module _ {S T : Type 0} where
  pub has_map : (f : S → T) (x : S) (xs : List S) → Has x xs → Has (f x) (map f xs)
  has_map f x [] has = absurd has
  has_map f x (y ∷ xs) has = elim has [ inl e ↦ inl (ap f e) | inr more ↦ inr (has_map f x xs more) ]

  pub has_flat : (rule : S → List T) (x : S) (z : T) (xs : List S) → Has x xs → Has z (rule x) → Has z (flat_map rule xs)
  has_flat rule x z [] has here = absurd has
  has_flat rule x z (y ∷ xs) has here = elim has [
    | inl e ↦ has_left z (rule y) (flat_map rule xs) (subst (λ (w : S). Has z (rule w)) (sym e) here)
    | inr more ↦ has_right z (rule y) (flat_map rule xs) (has_flat rule x z xs more here)
  ]

-- what holds of each that is made of these holds with one more, where it holds of those made of it
pub each_push : {R S T : Type 0} (P : T → Type 0) (rule : S → List T) (f : R → S) (xs : List R) (x : R) → ((z : T) → Has z (flat_map rule (map f xs)) → P z) → ((z : T) → Has z (flat_map rule (map f (x ∷ []))) → P z)
    → (z : T) → Has z (flat_map rule (map f (xs ++ x ∷ []))) → P z
each_push P rule f [] x each one z has = one z has
each_push P rule f (y ∷ xs) x each one z has = elim (has_either z (rule (f y)) (flat_map rule (map f (xs ++ x ∷ []))) has) [
  | inl here ↦ each z (has_left z (rule (f y)) (flat_map rule (map f xs)) here)
  | inr more ↦ each_push P rule f xs x (λ w there. each w (has_right w (rule (f y)) (flat_map rule (map f xs)) there)) one z more
]

-- ---- counted

module _ {T : Type 0} (same : T → T → Bool) (exact : (x y : T) → same x y ≡ true → x ≡ y) (itself : (x : T) → same x x ≡ true) where
  -- counts those like it
  abbrev pub like : T → T → ℤ
  like x y = count (same y x)

  pub counted : (x : T) (xs : List T) → Has x xs → pos 1 ≤ℤ total (like x) xs
  counted x [] has = absurd has
  counted x (y ∷ ys) has = elim has [
    | inl e ↦ (let one : like x y ≡ pos 1 = ap count (ap (λ z. same z x) e ∙ itself x) in omega (arith, ints, one, total_least (like x) (λ z. count_least (same z x)) ys))
    | inr more ↦ omega (arith, ints, counted x ys more, count_least (same y x))
  ]

  pub there : (x : T) (xs : List T) → pos 1 ≤ℤ total (like x) xs → Has x xs
  there x [] le = absurd (omega (arith, ints, le))
  there x (y ∷ ys) le = by (same y x) refl le (there x ys)
    where
      by : (b : Bool) → same y x ≡ b → pos 1 ≤ℤ (count b +ℤ total (like x) ys) → (pos 1 ≤ℤ total (like x) ys → Has x ys) → Has x (y ∷ ys)
      by true e le more = inl (exact y x e)
      by false e le more = inr (more (omega (arith, ints, le)))

  pub many_least : (x : T) (xs : List T) → pos 0 ≤ℤ total (like x) xs
  many_least x xs = total_least (like x) (λ z. count_least (same z x)) xs

  -- of lists whose sums are those of others
  pub one_of_both : (x : T) (xs ys zs : List T) → total (like x) xs ≡ (total (like x) ys +ℤ total (like x) zs) → Has x xs → Has x ys ⊎ Has x zs
  one_of_both x xs ys zs e has = by (total (like x) ys) refl
    where
      by : (n : ℤ) → total (like x) ys ≡ n → Has x ys ⊎ Has x zs
      by (pos zero) f = inr (there x zs (omega (arith, ints, counted x xs has, e, f)))
      by (pos (suc n)) f = inl (there x ys (omega (arith, ints, f)))
      by (negsuc n) f = absurd (omega (arith, ints, f, many_least x ys))

  pub of_left : (x : T) (xs ys zs : List T) → total (like x) xs ≡ (total (like x) ys +ℤ total (like x) zs) → Has x ys → Has x xs
  of_left x xs ys zs e has = there x xs (omega (arith, ints, counted x ys has, e, many_least x zs))

  pub of_right : (x : T) (xs ys zs : List T) → total (like x) xs ≡ (total (like x) ys +ℤ total (like x) zs) → Has x zs → Has x xs
  of_right x xs ys zs e has = there x xs (omega (arith, ints, counted x zs has, e, many_least x ys))
