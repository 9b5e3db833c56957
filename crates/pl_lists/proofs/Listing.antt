-- What parts of a list keep of it, and lists that go together.
use Rattle.std.proofs.Common.{◌≡◌, ℕ, suc, ◌≤◌, Bool, true, false, cond, List, [], ◌∷◌, ◌++◌, length, refl, sym, ap, ◌∙◌, subst, arith}
use Rattle.std.specs.Prelude.{◌||◌}
use Rattle.std.specs.List.{AllByRecursion}
use Rattle.std.proofs.lemmas.List.Folds.{list_any-append}
use Rattle.pl_lists.specs.Lists.{front, back, without, is_among, left_out, RiseFrom, Pairwise}

module _ {T : Type 0} where
  pub front-back : (passes : T → Bool) (xs : List T) → front passes xs ++ back passes xs ≡ xs
  front-back passes [] = refl
  front-back passes (x ∷ xs) = by (passes x) (front-back passes xs)
    where
      by : (b : Bool) → front passes xs ++ back passes xs ≡ xs → cond b (x ∷ front passes xs) [] ++ cond b (back passes xs) (x ∷ xs) ≡ x ∷ xs
      by true e = ap (λ l. x ∷ l) e
      by false e = refl

  -- the first behind the front fails
  pub back_fails : (passes : T → Bool) (xs : List T) (q : T) (more : List T) → back passes xs ≡ q ∷ more → passes q ≡ false
  back_fails passes [] q more e = absurd (cc)
  back_fails passes (x ∷ xs) q more e = by (passes x) refl (back_fails passes xs q more)
    where
      first : x ∷ xs ≡ q ∷ more → x ≡ q
      first h = cc

      by : (b : Bool) → passes x ≡ b → (back passes xs ≡ q ∷ more → passes q ≡ false) → passes q ≡ false
      by true is later = later (sym (rw is refl) ∙ e)
      by false is later = subst (λ y. passes y ≡ false) (first (sym (rw is refl) ∙ e)) is

  -- ---- without the first that passes

  pub length-without : (passes : T → Bool) (xs : List T) → length (without passes xs) ≤ length xs
  length-without passes [] = omega arith
  length-without passes (x ∷ xs) = by (passes x) (length-without passes xs)
    where
      by : (b : Bool) → length (without passes xs) ≤ length xs → length (cond b xs (x ∷ without passes xs)) ≤ length (x ∷ xs)
      by true less = omega arith
      by false less = omega (arith, less)

  pub all-without : (P : T → Type 0) (passes : T → Bool) (xs : List T) → AllByRecursion P xs → AllByRecursion P (without passes xs)
  all-without P passes [] all = tt
  all-without P passes (x ∷ xs) all = by (passes x) (all-without P passes xs all.1)
    where
      by : (b : Bool) → AllByRecursion P (without passes xs) → AllByRecursion P (cond b xs (x ∷ without passes xs))
      by true more = all.1
      by false more = (all.0, more)

  -- ---- among

  pub among-append : (same : T → T → Bool) (xs ys : List T) (x : T) → is_among same (xs ++ ys) x ≡ (is_among same xs x || is_among same ys x)
  among-append same xs ys x = list_any-append (λ y. same y x) xs ys

  pub left_out-append : (same : T → T → Bool) (others xs ys : List T) → left_out same others (xs ++ ys) ≡ left_out same others xs ++ left_out same others ys
  left_out-append same others [] ys = refl
  left_out-append same others (x ∷ xs) ys = by (is_among same others x) (left_out-append same others xs ys)
    where
      by : (b : Bool) → left_out same others (xs ++ ys) ≡ left_out same others xs ++ left_out same others ys → cond b (left_out same others (xs ++ ys)) (x ∷ left_out same others (xs ++ ys)) ≡ cond b (left_out same others xs) (x ∷ left_out same others xs) ++ left_out same others ys
      by true e = e
      by false e = ap (λ l. x ∷ l) e

  -- ---- rising numbers

  pub rising_from : (number : T → ℕ) (low from : ℕ) (xs : List T) → low ≤ from → RiseFrom number from xs → RiseFrom number low xs
  rising_from number low from [] le rise = tt
  rising_from number low from (x ∷ xs) le rise = (omega (arith, le, rise.0), rise.1)

  pub rising-without : (number : T → ℕ) (passes : T → Bool) (from : ℕ) (xs : List T) → RiseFrom number from xs → RiseFrom number from (without passes xs)
  rising-without number passes from [] rise = tt
  rising-without number passes from (x ∷ xs) rise = by (passes x) (rising-without number passes (suc (number x)) xs rise.1)
    where
      by : (b : Bool) → RiseFrom number (suc (number x)) (without passes xs) → RiseFrom number from (cond b xs (x ∷ without passes xs))
      by true more = rising_from number from (suc (number x)) xs (omega (arith, rise.0)) rise.1
      by false more = (rise.0, more)

-- ---- place by place

module _ {X Y : Type 0} (R : X → Y → Type 0) where
  pub pairwise_length : (xs : List X) (ys : List Y) → Pairwise R xs ys → length ys ≡ length xs
  pairwise_length [] [] h = refl
  pairwise_length (x ∷ xs) (y ∷ ys) h = omega (arith, pairwise_length xs ys h.1)
  pairwise_length _ _ h = absurd h

  pub pairwise_push : (xs : List X) (ys : List Y) (x : X) (y : Y) → Pairwise R xs ys → R x y → Pairwise R (xs ++ x ∷ []) (ys ++ y ∷ [])
  pairwise_push [] [] x y all last = (last, tt)
  pairwise_push (a ∷ xs) (b ∷ ys) x y all last = (all.0, pairwise_push xs ys x y all.1 last)
  pairwise_push _ _ x y all last = absurd all
