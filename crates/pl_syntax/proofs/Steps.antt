-- What a parser carries: where what follows is exact for R, the parser and what follows are exact for its texts and then R.
use Rattle.std.proofs.Common.{◌≡◌, ℕ, ◌≤◌, Bool, true, false, if◌then◌else◌, List, [], ◌∷◌, length, Result, Ok, Err, refl, sym, subst, arith}
use Rattle.pl_syntax.specs.declared.token.Token.{Token}
use Rattle.pl_syntax.specs.Tokens.{same, IsReal}
use Rattle.pl_syntax.specs.Faults.{Stop, Language, Begins, Judged}
use Rattle.pl_syntax.specs.Parsing.{Parser, follow, ◌>>=◌, stuck, expect}
use Rattle.pl_syntax.proofs.TokenTests.{same-is}
use Rattle.pl_syntax.proofs.Judging.{judged_behind, judged_stuck, judged_ended, alive_of}

-- exact for texts of at most n tokens
abbrev pub Exact : {D : Type 0} → ℕ → (List Token → Result D Stop) → Language D → Language D → Type 0
Exact n C R F = (ts : List Token) → length ts ≤ n → Judged R F ts (C ts)

pub Exact-less : {D : Type 0} (m n : ℕ) (C : List Token → Result D Stop) (R F : Language D) → m ≤ n → Exact n C R F → Exact m C R F
Exact-less m n C R F le h ts short = h ts (omega (arith, le, short))

pub Exact-alive : {D : Type 0} (n : ℕ) (C : List Token → Result D Stop) (R F : Language D) → Exact n C R F → Begins R []
Exact-alive n C R F h = alive_of R F (C []) (h [] (omega arith))

-- three parsers in a row
pub in_row : {A B C : Type 0} (x : Result (A × List Token) Stop) (f : A → Parser B) (k : B → List Token → Result C Stop) → follow (follow x f) k ≡ follow x (λ a ts. follow (f a ts) k)
in_row (Ok p) f k = refl
in_row (Err s) f k = refl

pub judged_in_row : {A B D : Type 0} (R F : Language D) (ts : List Token) (x : Result (A × List Token) Stop) (f : A → Parser B) (k : B → List Token → Result D Stop) → Judged R F ts (follow x (λ a us. follow (f a us) k)) → Judged R F ts (follow (follow x f) k)
judged_in_row {A} {B} {D} R F ts x f k j = let P : Result D Stop → Type 0 = λ r. Judged R F ts r in subst P (sym (in_row x f k)) j

-- a function of what was read, and then a parser
pub in_turn : {A B C : Type 0} (x : Result (A × List Token) Stop) (g : A → B) (f : B → Parser C) → follow (follow x (λ a us. Ok (g a, us))) f ≡ follow x (λ a us. f (g a) us)
in_turn (Ok p) g f = refl
in_turn (Err s) g f = refl

pub judged_in_turn : {A B C D : Type 0} (R F : Language D) (ts : List Token) (x : Result (A × List Token) Stop) (g : A → B) (f : B → Parser C) (k : C → List Token → Result D Stop) → Judged R F ts (follow x (λ a us. follow (f (g a) us) k)) → Judged R F ts (follow (follow (follow x (λ a us. Ok (g a, us))) f) k)
judged_in_turn {A} {B} {C} {D} R F ts x g f k j =
    let P : Result (C × List Token) Stop → Type 0 = λ r. Judged R F ts (follow r k) in
    subst P (sym (in_turn x g f)) (judged_in_row R F ts x (λ a us. f (g a) us) k j)

-- ---- a token

-- a token, and then R
abbrev pub After : {D : Type 0} → Token → Language D → Language D
After t R [] d = ⊥
After t R (u ∷ ts) d = (u ≡ t) × R ts d

module _ {A D : Type 0} (n : ℕ) (wanted : Token) (self : same wanted wanted ≡ true) (real : IsReal wanted) (f : Unit {0} → Parser A) (k : A → List Token → Result D Stop) (R F : Language D) (rest : Exact n (λ ts. follow (f tt ts) k) R F) where
  expect_alive : Begins (After wanted R) []
  expect_alive = let b = Exact-alive n (λ ts. follow (f tt ts) k) R F rest in (wanted ∷ b.0, b.1, (refl, b.2), (real, b.3))

  expect_at : (t : Token) (ts : List Token) (b : Bool) → same t wanted ≡ b → length (t ∷ ts) ≤ n → Judged (After wanted R) (After wanted F) (t ∷ ts) (follow (follow (if b then Ok (tt, ts) else stuck (t ∷ ts)) f) k)
  expect_at t ts true e short =
      judged_behind (After wanted R) (After wanted F) R F t (λ us d h. h.1) (λ us d h. (same-is t wanted e, h)) (λ us d h. h.1) (λ us d h. (same-is t wanted e, h)) ts (follow (f tt ts) k) (rest ts (omega (arith, short)))
  expect_at t ts false e short =
      judged_stuck (After wanted R) (After wanted F) R F t expect_alive (λ us d h. differs h.0) (λ us d h. differs h.0) ts
    where
      differs : t ≡ wanted → ⊥
      differs is = let P : Token → Type 0 = λ x. same x wanted ≡ false in let no = subst P is e in absurd cc

  pub expect_carries : Exact n (λ ts. follow ((expect wanted >>= f) ts) k) (After wanted R) (After wanted F)
  expect_carries [] short = judged_ended (After wanted R) (After wanted F) expect_alive (λ d h. h)
  expect_carries (t ∷ ts) short = expect_at t ts (same t wanted) refl short

pub after_lives : {D : Type 0} (wanted : Token) → IsReal wanted → (F : Language D) → Begins F [] → Begins (After wanted F) []
after_lives wanted real F b = (wanted ∷ b.0, b.1, (refl, b.2), (real, b.3))
