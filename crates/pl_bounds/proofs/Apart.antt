-- Sides of timelines that differ: the rest of a list, one more behind it, and one in the place of another of the same side.
use Rattle.std.proofs.Common.{◌≡◌, ℕ, ◌+◌, ◌<◌, ◌≤◌, Bool, true, false, List, [], ◌∷◌, ◌++◌, length, get_or, set, drop, refl, sym, ap, ◌∙◌, subst, add-one, arith, ltb, eqb}
use Rattle.std.specs.Prelude.{◌≢◌, ◌⊎◌, All, AllPairs}
use Rattle.std.proofs.Math.Seq.{drop-cons, get_or-append_seam}
use Rattle.std.proofs.lemmas.Bool.{ltb-true, ltb-false, eqb-true, eqb-false}
use Rattle.std.proofs.lemmas.List.{get_or_append_left, length-append, get_or-set_same, get_or-set_other, length-set}
use Rattle.std.proofs.lemmas.List.Elements.{All-cons, All-weaker}
use Rattle.pl_bounds.specs.Looks.{IsElse}
use Rattle.pl_bounds.specs.Sides.{code_of, IsOther, AreDifferent}
use Rattle.pl_bounds.specs.declared.outside.Side.{Side}
use Rattle.pl_bounds.specs.declared.outside.Outside.{Outside}

-- ---- the rest

pub else_next : (side : Side) (line : ℕ) (os : List Outside) (i : ℕ) (d : Outside) → i < length os → d ≡ get_or os i d → IsElse side line d → All (IsElse side line) (drop (i + 1) os) → All (IsElse side line) (drop i os)
else_next side line os i d lt is here behind =
    let P : Outside → Type 0 = λ (o : Outside). IsElse side line o in
    let first : IsElse side line (get_or os i d) = subst P is here in
    let rest : drop i os ≡ get_or os i d ∷ drop (i + 1) os = drop-cons os i d lt ∙ ap (λ (n : ℕ). get_or os i d ∷ drop n os) (sym (add-one i)) in
    subst (λ (xs : List Outside). All (IsElse side line) xs) (sym rest) (All-cons (IsElse side line) (get_or os i d) (drop (i + 1) os) first behind)

-- ---- one more

module _ (R : Outside → Outside → Type 0) (xs : List Outside) (x : Outside) where
  last : (d : Outside) (j : ℕ) → length xs ≤ j → j < length (xs ++ x ∷ []) → get_or (xs ++ x ∷ []) j d ≡ x
  last d j low high =
      let long : length (xs ++ x ∷ []) ≡ length xs + 1 = length-append xs (x ∷ []) in
      let at : j ≡ length xs = omega (arith, low, high, long) in
      ap (λ (n : ℕ). get_or (xs ++ x ∷ []) n d) at ∙ get_or-append_seam xs x [] d

  pub pairs_end : AllPairs R xs → All (λ y. R y x) xs → AllPairs R (xs ++ x ∷ [])
  pairs_end pairs all i j d lt high = by (ltb j (length xs)) (ltb-true j (length xs)) (ltb-false j (length xs))
    where
      front : i < length xs → R (get_or xs i d) (get_or (xs ++ x ∷ []) j d) → R (get_or (xs ++ x ∷ []) i d) (get_or (xs ++ x ∷ []) j d)
      front less r = let P : Outside → Type 0 = λ (y : Outside). R y (get_or (xs ++ x ∷ []) j d) in subst P (sym (get_or_append_left xs (x ∷ []) d i less)) r

      by : (b : Bool) → (b ≡ true → j < length xs) → (b ≡ false → length xs ≤ j) → R (get_or (xs ++ x ∷ []) i d) (get_or (xs ++ x ∷ []) j d)
      by true less more = let Q : Outside → Type 0 = λ (y : Outside). R (get_or xs i d) y in let below : j < length xs = less refl in front (omega (arith, lt, below)) (subst Q (sym (get_or_append_left xs (x ∷ []) d j below)) (pairs i j d lt below))
      by false less more = let Q : Outside → Type 0 = λ (y : Outside). R (get_or xs i d) y in let above : length xs ≤ j = more refl in let within : i < length xs = (let long : length (xs ++ x ∷ []) ≡ length xs + 1 = length-append xs (x ∷ []) in omega (arith, lt, high, long)) in front within (subst Q (sym (last d j above high)) (all i d within))

-- it differs from those that are else
pub different_end : (os : List Outside) (side : Side) (line : ℕ) (o : Outside) → o.line ≡ line → o.side ≡ side → AreDifferent os → All (IsElse side line) os → AreDifferent (os ++ o ∷ [])
different_end os side line o at on different elsewhere = pairs_end IsOther os o different (All-weaker (IsElse side line) (λ (y : Outside). IsOther y o) other os elsewhere)
  where
    other : (y : Outside) → IsElse side line y → IsOther y o
    other y is =
        let P : ℕ → Type 0 = λ (n : ℕ). (y.line ≢ n) ⊎ (code_of y.side ≢ code_of side) in
        let Q : Side → Type 0 = λ (z : Side). (y.line ≢ o.line) ⊎ (code_of y.side ≢ code_of z) in
        subst Q (sym on) (subst P (sym at) is)

-- ---- one in the place of another of the same side

module _ (os : List Outside) (i : ℕ) (o : Outside) (lt : i < length os) (same : (d : Outside) → (o.line ≡ (get_or os i d).line) × (o.side ≡ (get_or os i d).side)) where
  abbrev IsAsBefore : Outside → ℕ → Type 0
  IsAsBefore d j = ((get_or (set os i o) j d).line ≡ (get_or os j d).line) × ((get_or (set os i o) j d).side ≡ (get_or os j d).side)

  at_place : (d : Outside) (j : ℕ) → IsAsBefore d j
  at_place d j = by (eqb j i) refl
    where
      by : (b : Bool) → eqb j i ≡ b → IsAsBefore d j
      by true e =
          let now : get_or (set os i o) i d ≡ o = get_or-set_same os i o d lt in
          let line : (get_or (set os i o) i d).line ≡ (get_or os i d).line = ap (λ (x : Outside). x.line) now ∙ (same d).0 in
          let side : (get_or (set os i o) i d).side ≡ (get_or os i d).side = ap (λ (x : Outside). x.side) now ∙ (same d).1 in
          subst (IsAsBefore d) (sym (eqb-true j i e)) (line, side)
      by false e =
          let now : get_or (set os i o) j d ≡ get_or os j d = get_or-set_other os i j o d (eqb-false j i e) in
          (ap (λ (x : Outside). x.line) now, ap (λ (x : Outside). x.side) now)

  other_still : (x y x' y' : Outside) → (x'.line ≡ x.line) × (x'.side ≡ x.side) → (y'.line ≡ y.line) × (y'.side ≡ y.side) → IsOther x y → IsOther x' y'
  other_still x y x' y' ex ey is =
      let P : ℕ → Type 0 = λ (n : ℕ). (n ≢ y.line) ⊎ (code_of x.side ≢ code_of y.side) in
      let Q : ℕ → Type 0 = λ (n : ℕ). (x'.line ≢ n) ⊎ (code_of x.side ≢ code_of y.side) in
      let R : Side → Type 0 = λ (z : Side). (x'.line ≢ y'.line) ⊎ (code_of z ≢ code_of y.side) in
      let S : Side → Type 0 = λ (z : Side). (x'.line ≢ y'.line) ⊎ (code_of x'.side ≢ code_of z) in
      subst S (sym ey.1) (subst R (sym ex.1) (subst Q (sym ey.0) (subst P (sym ex.0) is)))

  pub different_set : AreDifferent os → AreDifferent (set os i o)
  different_set pairs a b d less high =
      let long : length (set os i o) ≡ length os = length-set os i o in
      let within : b < length os = omega (arith, high, long) in
      other_still (get_or os a d) (get_or os b d) (get_or (set os i o) a d) (get_or (set os i o) b d) (at_place d a) (at_place d b) (pairs a b d less within)
