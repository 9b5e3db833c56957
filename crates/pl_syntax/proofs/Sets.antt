-- Sets of tokens whose relations are computed.
use Rattle.std.proofs.Common.{◌≡◌, ℕ, Bool, true, false, not, ◌&&◌, ◌||◌, ◌==◌, List, [], ◌∷◌, ◌++◌, refl, ap, ◌∙◌, sym}
use Rattle.std.proofs.lemmas.Bool.{eqb-true, not-true, or_left, or_right}
use Rattle.std.proofs.Math.Bool.{or-false}
use Rattle.pl_lists.proofs.Tests.{and_first, and_second, or_weaker}
use Rattle.pl_syntax.specs.declared.token.Token.{Token}
use Rattle.pl_syntax.specs.declared.token.Token.TheVariants as token
use Rattle.pl_text.specs.declared.word.Word.{Word}
use Rattle.pl_syntax.specs.declared.symbol.Symbol.{Symbol}
use Rattle.pl_syntax.specs.Tokens.{word_number, symbol_number, is_word, is_symbol}

pub record Set : Type 0 where
  pub words : List ℕ
  pub symbols : List ℕ
  pub names : Bool
  pub numbers : Bool

abbrev pub among : ℕ → List ℕ → Bool
among n [] = false
among n (m ∷ ms) = (n == m) || among n ms

abbrev pub nothing : Set
nothing = record { words = []; symbols = []; names = false; numbers = false }

abbrev pub only_word : Word → Set
only_word w = record { words = word_number w ∷ []; symbols = []; names = false; numbers = false }

abbrev pub only_symbol : Symbol → Set
only_symbol s = record { words = []; symbols = symbol_number s ∷ []; names = false; numbers = false }

abbrev pub joined : Set → Set → Set
joined s t = record { words = s.words ++ t.words; symbols = s.symbols ++ t.symbols; names = s.names || t.names; numbers = s.numbers || t.numbers }

abbrev pub has : Set → Token → Bool
has s (token.Word w) = among (word_number w) s.words
has s (token.Symbol c) = among (symbol_number c) s.symbols
has s (token.Name n) = s.names
has s (token.Number n) = s.numbers

abbrev pub none_among : List ℕ → List ℕ → Bool
none_among [] ys = true
none_among (x ∷ xs) ys = not (among x ys) && none_among xs ys

abbrev pub all_among : List ℕ → List ℕ → Bool
all_among [] ys = true
all_among (x ∷ xs) ys = among x ys && all_among xs ys

abbrev pub disjoint : Set → Set → Bool
disjoint s t = none_among s.words t.words && (none_among s.symbols t.symbols && (not (s.names && t.names) && not (s.numbers && t.numbers)))

abbrev pub within : Set → Set → Bool
within s t = all_among s.words t.words && (all_among s.symbols t.symbols && ((not s.names || t.names) && (not s.numbers || t.numbers)))

not_both : (a b : Bool) → not (a && b) ≡ true → a ≡ true → b ≡ false
not_both true b e h = not-true b e
not_both false b e h = absurd cc

implied : (a b : Bool) → (not a || b) ≡ true → a ≡ true → b ≡ true
implied true b e h = e
implied false b e h = absurd cc

-- by cases on whether the number is the first
none_at : (n x : ℕ) (xs ys : List ℕ) (b : Bool) → (n == x) ≡ b → among x ys ≡ false → (among n xs ≡ true → among n ys ≡ false) → (b || among n xs) ≡ true → among n ys ≡ false
none_at n x xs ys true is first rest h = ap (λ (m : ℕ). among m ys) (eqb-true n x is) ∙ first
none_at n x xs ys false is first rest h = rest h

none-is : (n : ℕ) (xs ys : List ℕ) → none_among xs ys ≡ true → among n xs ≡ true → among n ys ≡ false
none-is n [] ys e h = absurd cc
none-is n (x ∷ xs) ys e h = none_at n x xs ys (n == x) refl (not-true (among x ys) (and_first (not (among x ys)) (none_among xs ys) e)) (none-is n xs ys (and_second (not (among x ys)) (none_among xs ys) e)) h

all_at : (n x : ℕ) (xs ys : List ℕ) (b : Bool) → (n == x) ≡ b → among x ys ≡ true → (among n xs ≡ true → among n ys ≡ true) → (b || among n xs) ≡ true → among n ys ≡ true
all_at n x xs ys true is first rest h = ap (λ (m : ℕ). among m ys) (eqb-true n x is) ∙ first
all_at n x xs ys false is first rest h = rest h

all-is : (n : ℕ) (xs ys : List ℕ) → all_among xs ys ≡ true → among n xs ≡ true → among n ys ≡ true
all-is n [] ys e h = absurd cc
all-is n (x ∷ xs) ys e h = all_at n x xs ys (n == x) refl (and_first (among x ys) (all_among xs ys) e) (all-is n xs ys (and_second (among x ys) (all_among xs ys) e)) h

module _ (s t : Set) where
  abbrev w : Bool
  w = none_among s.words t.words

  abbrev c : Bool
  c = none_among s.symbols t.symbols

  abbrev m : Bool
  m = not (s.names && t.names)

  abbrev d : Bool
  d = not (s.numbers && t.numbers)

  pub disjoint-is : disjoint s t ≡ true → (u : Token) → has s u ≡ true → has t u ≡ false
  disjoint-is e (token.Word v) h = none-is (word_number v) s.words t.words (and_first w (c && (m && d)) e) h
  disjoint-is e (token.Symbol v) h = none-is (symbol_number v) s.symbols t.symbols (and_first c (m && d) (and_second w (c && (m && d)) e)) h
  disjoint-is e (token.Name n) h = not_both s.names t.names (and_first m d (and_second c (m && d) (and_second w (c && (m && d)) e))) h
  disjoint-is e (token.Number n) h = not_both s.numbers t.numbers (and_second m d (and_second c (m && d) (and_second w (c && (m && d)) e))) h

  abbrev wi : Bool
  wi = all_among s.words t.words

  abbrev ci : Bool
  ci = all_among s.symbols t.symbols

  abbrev mi : Bool
  mi = not s.names || t.names

  abbrev di : Bool
  di = not s.numbers || t.numbers

  pub within-is : within s t ≡ true → (u : Token) → has s u ≡ true → has t u ≡ true
  within-is e (token.Word v) h = all-is (word_number v) s.words t.words (and_first wi (ci && (mi && di)) e) h
  within-is e (token.Symbol v) h = all-is (symbol_number v) s.symbols t.symbols (and_first ci (mi && di) (and_second wi (ci && (mi && di)) e)) h
  within-is e (token.Name n) h = implied s.names t.names (and_first mi di (and_second ci (mi && di) (and_second wi (ci && (mi && di)) e))) h
  within-is e (token.Number n) h = implied s.numbers t.numbers (and_second mi di (and_second ci (mi && di) (and_second wi (ci && (mi && di)) e))) h

pub nothing-has : (u : Token) → has nothing u ≡ true → ⊥
nothing-has (token.Word v) h = absurd cc
nothing-has (token.Symbol v) h = absurd cc
nothing-has (token.Name n) h = absurd cc
nothing-has (token.Number n) h = absurd cc

pub told_word : (w : Word) (t : Token) → is_word w t ≡ has (only_word w) t
told_word w (token.Word v) = sym (or-false (word_number v == word_number w))
told_word w (token.Symbol v) = refl
told_word w (token.Name n) = refl
told_word w (token.Number n) = refl

pub told_symbol : (s : Symbol) (t : Token) → is_symbol s t ≡ has (only_symbol s) t
told_symbol s (token.Word v) = refl
told_symbol s (token.Symbol v) = sym (or-false (symbol_number v == symbol_number s))
told_symbol s (token.Name n) = refl
told_symbol s (token.Number n) = refl

pub among-append-left : (n : ℕ) (xs ys : List ℕ) → among n xs ≡ true → among n (xs ++ ys) ≡ true
among-append-left n [] ys h = absurd cc
among-append-left n (x ∷ xs) ys h = or_weaker (n == x) (among n xs) (among n (xs ++ ys)) h (among-append-left n xs ys)

pub among-append-right : (n : ℕ) (xs ys : List ℕ) → among n ys ≡ true → among n (xs ++ ys) ≡ true
among-append-right n [] ys h = h
among-append-right n (x ∷ xs) ys h = or_right (n == x) (among n (xs ++ ys)) (among-append-right n xs ys h)

pub joined-left : (s t : Set) (u : Token) → has s u ≡ true → has (joined s t) u ≡ true
joined-left s t (token.Word v) h = among-append-left (word_number v) s.words t.words h
joined-left s t (token.Symbol v) h = among-append-left (symbol_number v) s.symbols t.symbols h
joined-left s t (token.Name n) h = or_left s.names t.names h
joined-left s t (token.Number n) h = or_left s.numbers t.numbers h

pub joined-right : (s t : Set) (u : Token) → has t u ≡ true → has (joined s t) u ≡ true
joined-right s t (token.Word v) h = among-append-right (word_number v) s.words t.words h
joined-right s t (token.Symbol v) h = among-append-right (symbol_number v) s.symbols t.symbols h
joined-right s t (token.Name n) h = or_right s.names t.names h
joined-right s t (token.Number n) h = or_right s.numbers t.numbers h
