-- Tests that some item of a list passes.
use Rattle.std.proofs.Common.{◌≡◌, ℕ, Bool, true, false, cond, List, [], ◌∷◌, refl, ap, ◌∙◌, subst, arith, rules}
use Rattle.std.specs.Prelude.{◌&&◌, ◌||◌, filter, All, Contains}
use Rattle.std.specs.List.{list_any}
use Rattle.std.proofs.lemmas.Bool.{or_left, or_right}
use Rattle.std.proofs.lemmas.List.Elements.{All-head, All-tail, All-contains, All-cons, All-nil, All-weaker, Contains-append_right}

module _ {X : Type 0} where
  pub passing : (f : X → Bool) (xs : List X) → All (λ x. f x ≡ true → list_any f xs ≡ true) xs
  passing f [] = All-nil (λ x. f x ≡ true → list_any f [] ≡ true)
  passing f (x ∷ xs) =
      All-cons (λ y. f y ≡ true → list_any f (x ∷ xs) ≡ true) x xs
      (λ e. or_left (f x) (list_any f xs) e)
      (All-weaker (λ y. f y ≡ true → list_any f xs ≡ true) (λ y. f y ≡ true → list_any f (x ∷ xs) ≡ true) (λ y some e. or_right (f x) (list_any f xs) (some e)) xs (passing f xs))

  -- an item that passes
  pub any_from : (f : X → Bool) (xs : List X) (x : X) → Contains xs x → f x ≡ true → list_any f xs ≡ true
  any_from f xs x within e = All-contains (λ y. f y ≡ true → list_any f xs ≡ true) xs x (passing f xs) within e

  pub any_found : (f : X → Bool) (xs : List X) → list_any f xs ≡ true → (x : X) × Contains xs x × (f x ≡ true)
  any_found f [] e = absurd (let h : false ≡ true = e in (cc))
  any_found f (x ∷ xs) e = cases (f x) refl (any_found f xs)
    where
      cases : (b : Bool) → f x ≡ b → (list_any f xs ≡ true → (y : X) × Contains xs y × (f y ≡ true)) → (y : X) × Contains (x ∷ xs) y × (f y ≡ true)
      cases true t more = (x, (0, omega arith, refl), t)
      cases false t more =
          let rest : list_any f xs ≡ true = rw t at e in
          let found = more rest in
          (found.0, Contains-append_right (x ∷ []) xs found.0 found.1, found.2)

  pub any_filter : (f g : X → Bool) (xs : List X) → list_any g (filter f xs) ≡ list_any (λ x. f x && g x) xs
  any_filter f g [] = refl
  any_filter f g (x ∷ xs) = cases (f x) refl (any_filter f g xs)
    where
      cases : (b : Bool) → f x ≡ b → list_any g (filter f xs) ≡ list_any (λ x. f x && g x) xs → list_any g (filter f (x ∷ xs)) ≡ list_any (λ x. f x && g x) (x ∷ xs)
      cases true t more = rw t (ap (λ b. g x || b) more)
      cases false t more = rw t more

  pub filter_alike : (f g : X → Bool) (xs : List X) → All (λ x. f x ≡ g x) xs → filter f xs ≡ filter g xs
  filter_alike f g [] each = refl
  filter_alike f g (x ∷ xs) each =
      let same : f x ≡ g x = All-head (λ x. f x ≡ g x) x xs each in
      let more = filter_alike f g xs (All-tail (λ x. f x ≡ g x) x xs each) in
      rw same (ap (λ (ys : List X). cond (g x) (x ∷ ys) ys) more)

  pub filter_same : (f g : X → Bool) (xs : List X) → ((x : X) → f x ≡ g x) → filter f xs ≡ filter g xs
  filter_same f g [] same = refl
  filter_same f g (x ∷ xs) same = rw (same x) (ap (λ (ys : List X). cond (g x) (x ∷ ys) ys) (filter_same f g xs same))

  pub any_alike : (f g : X → Bool) (xs : List X) → ((x : X) → f x ≡ g x) → list_any f xs ≡ list_any g xs
  any_alike f g [] each = refl
  any_alike f g (x ∷ xs) each = rw (each x, any_alike f g xs each) refl

  -- what passes the filter stands in the list
  pub filtered_head : (f : X → Bool) (xs : List X) (x : X) (more : List X) → filter f xs ≡ x ∷ more → Contains xs x × (f x ≡ true)
  filtered_head f [] x more e = absurd (cc)
  filtered_head f (y ∷ xs) x more e = cases (f y) refl (filtered_head f xs x more)
    where
      cases : (b : Bool) → f y ≡ b → (filter f xs ≡ x ∷ more → Contains xs x × (f x ≡ true)) → Contains (y ∷ xs) x × (f x ≡ true)
      cases true t later =
          let same : (y ∷ filter f xs) ≡ x ∷ more = rw t at e in
          let is : y ≡ x = cc in
          (subst (λ z. Contains (y ∷ xs) z) is (0, omega arith, refl), subst (λ z. f z ≡ true) is t)
      cases false t later =
          let rest : filter f xs ≡ x ∷ more = rw t at e in
          let found = later rest in
          (Contains-append_right (y ∷ []) xs x found.0, found.1)

  pub none_filtered : (f : X → Bool) (xs : List X) (x : X) → filter f xs ≡ [] → Contains xs x → f x ≡ true → ⊥
  none_filtered f xs x e within passes =
      let any : list_any (λ (y : X). true) (filter f xs) ≡ true = any_filter f (λ y. true) xs ∙ any_from (λ y. f y && true) xs x within (rw passes refl) in
      let bad : false ≡ true = rw e at any in
      cc

  pub any_alike_in : (f g : X → Bool) (xs : List X) → All (λ x. f x ≡ g x) xs → list_any f xs ≡ list_any g xs
  any_alike_in f g [] each = refl
  any_alike_in f g (x ∷ xs) each =
      let same : f x ≡ g x = All-head (λ x. f x ≡ g x) x xs each in
      rw (same, any_alike_in f g xs (All-tail (λ x. f x ≡ g x) x xs each)) refl
