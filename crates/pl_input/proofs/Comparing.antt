-- What two readings of one input have in common.
use Rattle.std.proofs.Common.{◌≡◌, ℕ, List, [], ◌∷◌, ◌++◌, inl, inr, refl, sym, ◌∙◌, ap, subst, arith}
use Rattle.std.proofs.lemmas.List.{append-nil}
use Rattle.pl_io.specs.Lines.{after_line, next_of, given, ended, line_too_long, input_too_long}
use Rattle.pl_input.specs.Reads.{GivesLine, GivesLines}
use Rattle.pl_input.specs.Stops.{IsStuck}

abbrev Lines : Type 0
Lines = List (List ℕ)

-- one reading goes on where the other one ends
pub data Compared (limit : ℕ) (xs ys : Lines) (left1 : ℕ) (rest1 : List ℕ) (left2 : ℕ) (rest2 : List ℕ) : Type 0 where
  further : (more : Lines) → ys ≡ xs ++ more → GivesLines limit left1 rest1 more left2 rest2 → Compared limit xs ys left1 rest1 left2 rest2
  shorter : (more : Lines) → xs ≡ ys ++ more → GivesLines limit left2 rest2 more left1 rest1 → Compared limit xs ys left1 rest1 left2 rest2

pub one_line : (limit : ℕ) (room : ℕ) (bytes x y : List ℕ) (left1 left2 : ℕ) → GivesLine limit room bytes x left1 → GivesLine limit room bytes y left2 → (x ≡ y) × (left1 ≡ left2)
one_line limit room bytes x y left1 left2 g h =
    let e : given x (after_line bytes) ≡ given y (after_line bytes) = sym g.next ∙ h.next in
    let same : x ≡ y = (cc) in
    (same, omega (arith, g.leaves, h.leaves))

compared_more : (limit : ℕ) (x y : List ℕ) (xs ys : Lines) (left1 : ℕ) (rest1 : List ℕ) (left2 : ℕ) (rest2 : List ℕ) → x ≡ y → Compared limit xs ys left1 rest1 left2 rest2 → Compared limit (x ∷ xs) (y ∷ ys) left1 rest1 left2 rest2
compared_more limit x y xs ys left1 rest1 left2 rest2 same (further more e g) = further more (ap (λ (b : List ℕ). b ∷ ys) (sym same) ∙ ap (λ (ls : Lines). x ∷ ls) e) g
compared_more limit x y xs ys left1 rest1 left2 rest2 same (shorter more e g) = shorter more (ap (λ (b : List ℕ). b ∷ xs) same ∙ ap (λ (ls : Lines). y ∷ ls) e) g

pub compared : (limit : ℕ) (room : ℕ) (bytes : List ℕ) (xs ys : Lines) (left1 : ℕ) (rest1 : List ℕ) (left2 : ℕ) (rest2 : List ℕ) → GivesLines limit room bytes xs left1 rest1 → GivesLines limit room bytes ys left2 rest2 → Compared limit xs ys left1 rest1 left2 rest2
compared limit room bytes [] ys left1 rest1 left2 rest2 g h = further ys refl (subst (λ (r : List ℕ). GivesLines limit left1 r ys left2 rest2) (sym g.1) (subst (λ (n : ℕ). GivesLines limit n bytes ys left2 rest2) (sym g.0) h))
compared limit room bytes (x ∷ xs) [] left1 rest1 left2 rest2 g h = shorter (x ∷ xs) refl (subst (λ (r : List ℕ). GivesLines limit left2 r (x ∷ xs) left1 rest1) (sym h.1) (subst (λ (n : ℕ). GivesLines limit n bytes (x ∷ xs) left1 rest1) (sym h.0) g))
compared limit room bytes (x ∷ xs) (y ∷ ys) left1 rest1 left2 rest2 g h =
    let same = one_line limit room bytes x y g.0 h.0 g.1 h.1 in
    compared_more limit x y xs ys left1 rest1 left2 rest2 same.0 (compared limit g.0 (after_line bytes) xs ys left1 rest1 left2 rest2 g.2 (subst (λ (n : ℕ). GivesLines limit n (after_line bytes) ys left2 rest2) (sym same.1) h.2))

gives_none : (limit : ℕ) (left : ℕ) (rest line : List ℕ) (left2 : ℕ) → IsStuck limit left rest → GivesLine limit left rest line left2 → ⊥
gives_none limit left rest line left2 stuck gave =
    elim stuck [
      | inl e ↦ (let h : line_too_long ≡ given line (after_line rest) = sym e ∙ gave.next in (cc))
      | inr e ↦ (let h : input_too_long ≡ given line (after_line rest) = sym e ∙ gave.next in (cc))
    ]

pub at_end : (limit : ℕ) (left : ℕ) → next_of limit left [] ≡ ended
unfolding next_of
at_end limit left = refl

pub end_is_no_limit : (limit : ℕ) (left : ℕ) → IsStuck limit left [] → ⊥
end_is_no_limit limit left stuck =
    elim stuck [
      | inl e ↦ (let h : ended ≡ line_too_long = sym (at_end limit left) ∙ e in (cc))
      | inr e ↦ (let h : ended ≡ input_too_long = sym (at_end limit left) ∙ e in (cc))
    ]

-- A reading that a limit stops begins with each other reading of the input.
pub record GoesOn (limit : ℕ) (xs ys : Lines) (left1 : ℕ) (rest1 : List ℕ) (left2 : ℕ) (rest2 : List ℕ) : Type 0 where
  pub more : Lines
  pub is : xs ≡ ys ++ more
  pub gave : GivesLines limit left2 rest2 more left1 rest1

no_further : (limit : ℕ) (xs ys more : Lines) (left1 : ℕ) (rest1 : List ℕ) (left2 : ℕ) (rest2 : List ℕ) → IsStuck limit left1 rest1 → ys ≡ xs ++ more → GivesLines limit left1 rest1 more left2 rest2 → GoesOn limit xs ys left1 rest1 left2 rest2
no_further limit xs ys [] left1 rest1 left2 rest2 stuck is gave = record { more = []; is = sym (append-nil ys ∙ is ∙ append-nil xs); gave = (sym gave.0, sym gave.1) }
no_further limit xs ys (z ∷ zs) left1 rest1 left2 rest2 stuck is gave = absurd (gives_none limit left1 rest1 z gave.0 stuck gave.1)

by_compared : (limit : ℕ) (xs ys : Lines) (left1 : ℕ) (rest1 : List ℕ) (left2 : ℕ) (rest2 : List ℕ) → IsStuck limit left1 rest1 → Compared limit xs ys left1 rest1 left2 rest2 → GoesOn limit xs ys left1 rest1 left2 rest2
by_compared limit xs ys left1 rest1 left2 rest2 stuck (further more is gave) = no_further limit xs ys more left1 rest1 left2 rest2 stuck is gave
by_compared limit xs ys left1 rest1 left2 rest2 stuck (shorter more is gave) = record { more = more; is = is; gave = gave }

pub goes_on : (limit : ℕ) (room : ℕ) (bytes : List ℕ) (xs ys : Lines) (left1 : ℕ) (rest1 : List ℕ) (left2 : ℕ) (rest2 : List ℕ) → IsStuck limit left1 rest1 → GivesLines limit room bytes xs left1 rest1 → GivesLines limit room bytes ys left2 rest2 → GoesOn limit xs ys left1 rest1 left2 rest2
goes_on limit room bytes xs ys left1 rest1 left2 rest2 stuck g h = by_compared limit xs ys left1 rest1 left2 rest2 stuck (compared limit room bytes xs ys left1 rest1 left2 rest2 g h)

nothing_left : (limit : ℕ) (more : Lines) (left1 : ℕ) (rest1 : List ℕ) (left2 : ℕ) → GivesLines limit left2 [] more left1 rest1 → IsStuck limit left1 rest1 → ⊥
nothing_left limit [] left1 rest1 left2 gave stuck = end_is_no_limit limit left1 (subst (λ (r : List ℕ). IsStuck limit left1 r) gave.1 stuck)
nothing_left limit (z ∷ zs) left1 rest1 left2 gave stuck = (let h : ended ≡ given z (after_line []) = sym (at_end limit left2) ∙ gave.1.next in (cc))

-- a reading of all bytes is not one that a limit stops
pub all_or_stuck : (limit : ℕ) (xs ys : Lines) (left1 : ℕ) (rest1 : List ℕ) (left2 : ℕ) (rest2 : List ℕ) → GoesOn limit xs ys left1 rest1 left2 rest2 → rest2 ≡ [] → IsStuck limit left1 rest1 → ⊥
all_or_stuck limit xs ys left1 rest1 left2 rest2 on none stuck = nothing_left limit on.more left1 rest1 left2 (subst (λ (r : List ℕ). GivesLines limit left2 r on.more left1 rest1) none on.gave) stuck
