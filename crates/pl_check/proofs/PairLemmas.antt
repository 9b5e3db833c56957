-- Lists that correspond place by place, and what is made of each item where every step passes.
use Rattle.std.proofs.Common.{◌≡◌, ℕ, zero, suc, ◌+◌, Bool, true, false, ◌⊎◌, inl, inr, List, [], ◌∷◌, Option, Some, None, Ok, Err, All, length, map, slice_get, refl, ap, subst, arith}
use Rattle.std.specs.Prelude.{option_and_then}
use Rattle.std.specs.List.{position_from}
use Rattle.std.proofs.lemmas.Bool.{cases_Bool}
use Rattle.std.proofs.lemmas.List.Elements.{All-nil, All-cons, All-head, All-tail}
use Rattle.pl_lists.proofs.Judging.{bind_ok}
use Rattle.pl_check.specs.Judgements.{Judged, ◌>>=◌, each_made}
use Rattle.pl_check.specs.Names.{Name}
use Rattle.pl_check.specs.Finding.{known}
use Rattle.pl_lists.specs.Lists.{Pairwise}

-- ---- steps that pass

pub ok_same : {X : Type 0} (x y : X) → ◌≡◌ {A = Judged X} (Ok x) (Ok y) → x ≡ y
ok_same x y h = cc

pub known_ok : {X : Type 0} (name : Name) (o : Option X) (x : X) → known name o ≡ Ok x → o ≡ Some x
known_ok name None x h = absurd (cc)
known_ok name (Some y) x h = let same : y ≡ x = cc in ap Some same

pub and_then_some : {X Y : Type 0} (f : X → Option Y) (o : Option X) (y : Y) → option_and_then f o ≡ Some y → (x : X) × (o ≡ Some x) × (f x ≡ Some y)
and_then_some f None y h = absurd (cc)
and_then_some f (Some x) y h = (x, refl, h)

module _ {X : Type 0} (test : X → Bool) where
  -- the item at which the test passes
  pub position_at : (i : ℕ) (xs : List X) (p : ℕ) → position_from test i xs ≡ Some p → (j : ℕ) × (p ≡ i + j) × (x : X) × (slice_get xs j ≡ Some x) × (test x ≡ true)
  position_at i [] p h = absurd (cc)
  position_at i (x ∷ xs) p h = by (cases_Bool (test x)) (position_at (i + 1) xs p)
    where
      by : (test x ≡ true) ⊎ (test x ≡ false) → (position_from test (i + 1) xs ≡ Some p → (j : ℕ) × (p ≡ i + 1 + j) × (y : X) × (slice_get xs j ≡ Some y) × (test y ≡ true)) → (j : ℕ) × (p ≡ i + j) × (y : X) × (slice_get (x ∷ xs) j ≡ Some y) × (test y ≡ true)
      by (inl t) again =
          let found : Some i ≡ Some p = rw t at h in
          let same : i ≡ p = cc in
          (0, omega (arith, same), x, refl, t)
      by (inr f) again =
          let found : position_from test (i + 1) xs ≡ Some p = rw f at h in
          let rest = again found in
          (suc (rest.0), omega (arith, rest.1), rest.2, rest.3, rest.4)

  pub placed_at : (xs : List X) (p : ℕ) → position_from test 0 xs ≡ Some p → (x : X) × (slice_get xs p ≡ Some x) × (test x ≡ true)
  placed_at xs p h =
      let found = position_at 0 xs p h in
      let same : found.0 ≡ p = omega (arith, found.1) in
      (found.2, subst (λ j. slice_get xs j ≡ Some found.2) same found.3, found.4)

-- ---- place by place

module _ {X Y : Type 0} (R : X → Y → Type 0) where
  -- what follows for each that corresponds to an item with some property
  pub pair_all : (P : X → Type 0) (Q : Y → Type 0) → ((x : X) (y : Y) → P x → R x y → Q y) → (xs : List X) (ys : List Y) → All P xs → Pairwise R xs ys → All Q ys
  pair_all P Q f [] [] p h = All-nil Q
  pair_all P Q f [] (y ∷ ys) p h = absurd h
  pair_all P Q f (x ∷ xs) [] p h = absurd h
  pair_all P Q f (x ∷ xs) (y ∷ ys) p h = All-cons Q y ys (f x y (All-head P x xs p) h.0) (pair_all P Q f xs ys (All-tail P x xs p) h.1)

  -- the same for each that has some property itself
  pub pair_with : (P : Y → Type 0) (Q : Y → Type 0) → ((x : X) (y : Y) → R x y → P y → Q y) → (xs : List X) (ys : List Y) → Pairwise R xs ys → All P ys → All Q ys
  pair_with P Q f [] [] h p = All-nil Q
  pair_with P Q f [] (y ∷ ys) h p = absurd h
  pair_with P Q f (x ∷ xs) [] h p = absurd h
  pair_with P Q f (x ∷ xs) (y ∷ ys) h p = All-cons Q y ys (f x y h.0 (All-head P y ys p)) (pair_with P Q f xs ys h.1 (All-tail P y ys p))

  pub pair_at : (xs : List X) (ys : List Y) (i : ℕ) (x : X) → Pairwise R xs ys → slice_get xs i ≡ Some x → (y : Y) × (slice_get ys i ≡ Some y) × R x y
  pair_at [] ys i x h e = absurd (cc)
  pair_at (a ∷ xs) [] i x h e = absurd h
  pair_at (a ∷ xs) (b ∷ ys) zero x h e = let same : a ≡ x = cc in (b, refl, subst (λ z. R z b) same h.0)
  pair_at (a ∷ xs) (b ∷ ys) (suc i) x h e = pair_at xs ys i x h.1 e

  pub pair_back : (xs : List X) (ys : List Y) (i : ℕ) (y : Y) → Pairwise R xs ys → slice_get ys i ≡ Some y → (x : X) × (slice_get xs i ≡ Some x) × R x y
  pair_back xs [] i y h e = absurd (cc)
  pair_back [] (b ∷ ys) i y h e = absurd h
  pair_back (a ∷ xs) (b ∷ ys) zero y h e = let same : b ≡ y = cc in (a, refl, subst (λ z. R a z) same h.0)
  pair_back (a ∷ xs) (b ∷ ys) (suc i) y h e = pair_back xs ys i y h.1 e

  -- what is made of each corresponds, too
  pub pair_map : {U V : Type 0} (S : U → V → Type 0) (f : X → U) (g : Y → V) → ((x : X) (y : Y) → R x y → S (f x) (g y)) → (xs : List X) (ys : List Y) → Pairwise R xs ys → Pairwise S (map f xs) (map g ys)
  pair_map S f g k [] [] h = tt
  pair_map S f g k [] (y ∷ ys) h = absurd h
  pair_map S f g k (x ∷ xs) [] h = absurd h
  pair_map S f g k (x ∷ xs) (y ∷ ys) h = (k x y h.0, pair_map S f g k xs ys h.1)

-- what holds of each by two accounts
pub all_both : {X : Type 0} (P Q : X → Type 0) (xs : List X) → All P xs → All Q xs → All (λ x. P x × Q x) xs
all_both P Q xs p q = λ k d lt. (p k d lt, q k d lt)

-- every item has a property that asks nothing
pub all_such : {X : Type 0} (xs : List X) → All (λ x. Unit {0}) xs
all_such xs = λ k d lt. tt

-- ---- what is made of each

module _ {X Y : Type 0} (make : X → Judged Y) where
  abbrev pub Makes : X → Y → Type 0
  Makes x y = make x ≡ Ok y

  pub each_pairs : (xs : List X) (ys : List Y) → each_made make xs ≡ Ok ys → Pairwise Makes xs ys
  each_pairs [] ys h = subst (λ zs. Pairwise Makes [] zs) (ok_same [] ys h) tt
  each_pairs (x ∷ xs) ys h =
      let one = bind_ok (make x) (λ y. each_made make xs >>= λ more. Ok (y ∷ more)) ys h in
      let rest = bind_ok (each_made make xs) (λ more. Ok (one.0 ∷ more)) ys one.2 in
      subst (λ zs. Pairwise Makes (x ∷ xs) zs) (ok_same (one.0 ∷ rest.0) ys rest.2) (one.1, each_pairs xs rest.0 rest.1)
