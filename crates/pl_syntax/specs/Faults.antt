-- What a reader of a grammar answers: the tree, or the first bad token.
use Rattle.std.specs.Prelude.{◌≡◌, ◌≤◌, ◌<◌, ◌+◌, take, ℕ, length, List, [], ◌∷◌, ◌++◌, Result, Ok, Err}
use Rattle.pl_syntax.specs.declared.token.Token.{Token}
use Rattle.pl_syntax.specs.Tokens.{AreReal}

pub data Trouble : Type 0 where
  too_deep unexpected : Trouble

-- what is wrong, and how many tokens there are from the first bad one on
abbrev pub Stop : Type 0
Stop = Trouble × ℕ

-- the texts of a grammar, with their trees
abbrev pub Language : Type 0 → Type 1
Language D = List Token → D → Type 0

-- the tokens begin a text of the grammar: with some more tokens of a text they are one
abbrev pub Begins : {D : Type 0} → Language D → List Token → Type 0
Begins {D} R front = (more : List Token) × (d : D) × R (front ++ more) d × AreReal more

-- With the bad token they begin a text of the grammar F, which has no limits: or none of it.
abbrev pub Why : {D : Type 0} → Language D → Trouble → List Token → Type 0
Why F too_deep front = Begins F front
Why F unexpected front = Begins F front → ⊥

-- With the first of the rest the tokens in front of it begin no text. Where there is none the text ended too early.
abbrev pub Blames : {D : Type 0} → Language D → Language D → List Token → Trouble → List Token → Type 0
Blames R F front trouble [] = trouble ≡ unexpected
Blames R F front trouble (bad ∷ rest) = (Begins R (front ++ bad ∷ []) → ⊥) × Why F trouble (front ++ bad ∷ [])

pub record FirstBad {D : Type 0} (R F : Language D) (all : List Token) (trouble : Trouble) (left : ℕ) : Type 0 where
  pub front : List Token
  pub rest : List Token
  pub counts : left ≡ length rest
  pub parts : all ≡ front ++ rest
  pub before : Begins R front
  pub blames : Blames R F front trouble rest

-- The answer is the one tree, or the first bad token where there is none.
abbrev pub Judged : {D : Type 0} → Language D → Language D → List Token → Result D Stop → Type 0
Judged {D} R F all (Ok d) = R all d × ((e : D) → R all e → d ≡ e)
Judged {D} R F all (Err s) = ((e : D) → R all e → ⊥) × FirstBad R F all s.0 s.1

-- ---- by the place of the bad token

pub record IsFirstBad {D : Type 0} (R F : Language D) (tokens : List Token) (trouble : Trouble) (at : ℕ) : Type 0 where
  pub none : (d : D) → R tokens d → ⊥
  pub within : at ≤ length tokens
  pub before : Begins R (take at tokens)
  pub there : at < length tokens → (Begins R (take (at + 1) tokens) → ⊥) × Why F trouble (take (at + 1) tokens)
  pub end : at ≡ length tokens → trouble ≡ unexpected
