-- The tokens of a text are marks of the grammar, and tokens that a text can have.
use Rattle.std.proofs.Common.{◌≡◌, ℕ, zero, suc, pos, ◌+◌, ◌-◌, ◌*◌, ◌^◌, ◌<◌, ◌≤◌, Bool, true, false, ◌||◌, if◌then◌else◌, ltb, List, [], ◌∷◌, ◌++◌, length, map, get_or, Option, Some, None, Result, Ok, refl, sym, ap, subst, ◌∙◌, append_assoc, arith}
use Rattle.std.specs.List.{list_all, All}
use Rattle.std.specs.Option.{IsSome}
use Rattle.std.proofs.lemmas.Bool.{lt-ltb, and_parts}
use Rattle.std.proofs.lemmas.List.{length-append}
use Rattle.std.proofs.Math.Seq.{take-append_seam, drop-append_seam}
use Rattle.std.proofs.Math.Nat.{mul-le-mul_right}
use Rattle.pl_text.specs.declared.class.Class.TheVariants as class
use Rattle.pl_text.specs.declared.token.Token.{Token as Lexed}
use Rattle.pl_text.specs.declared.fault.TextFault.{TextFault}
use Rattle.pl_text.specs.Bytes.{is_digit_class, class_by, class_of, is_name_byte, is_number_byte}
use Rattle.pl_text.specs.declared.word.Word.{Word}
use Rattle.pl_text.specs.Words.{word_of}
use Rattle.pl_text.specs.Tokens.{read_on, number_value, tokens_of}
use Rattle.pl_text.specs.Pieces.{Piece, blank, comment, word, number, symbol, spell_piece, spell, IsPiece, ArePieces, size, token_of, tokens_in, Lexes, AreInOrder}
use Rattle.pl_text.proofs.Digits.{digit_range, power_step, power_below}
use Rattle.pl_text.proofs.PieceLemmas.{lexes, ordered}
use Rattle.pl_syntax.specs.declared.token.Token.{Token}
use Rattle.pl_syntax.specs.declared.token.Token.TheVariants as token
use Rattle.pl_syntax.specs.declared.symbol.Symbol.{Symbol}
use Rattle.pl_syntax.specs.declared.symbol.Symbol.TheVariants as symbols
use Rattle.pl_syntax.specs.Symbols.{symbol_of}
use Rattle.pl_syntax.specs.Spelling.{AllFit}
use Rattle.pl_syntax.specs.Tokens.{IsReal, AreReal}
use Rattle.pl_syntax.specs.Marks.{bytes_of, word_or_name, symbol_or_none, mark_of, marks_of, HasMark, IsMarked}

-- ---- numbers are small

grow : (n d p q : ℕ) → d ≤ 9 → q ≡ 10 * p → (n * 10 + d + 1) * p ≤ (n + 1) * q
grow n d p q le e = rw e (omega (arith, mul-le-mul_right p (small n d le)))
  where
    small : (n d : ℕ) → d ≤ 9 → n * 10 + d + 1 ≤ (n + 1) * 10
    small n d le = omega (arith, le)

read_on_bound : (n : ℕ) (ds : List ℕ) → list_all is_number_byte ds ≡ true → read_on n ds < (n + 1) * 10 ^ length ds
read_on_bound n [] all = omega arith
read_on_bound n (d ∷ ds) all =
    let parts = and_parts (is_number_byte d) (list_all is_number_byte ds) all in
    let range = digit_range d parts.0 in
    let ih = read_on_bound (n * 10 + (d - 48)) ds parts.1 in
    let e : length ds + 1 ≡ suc (length ds) = omega arith in
    let step : 10 ^ suc (length ds) ≡ 10 * 10 ^ length ds = rw (← e) (power_step (length ds)) in
    let small : d - 48 ≤ 9 = omega (arith, range) in
    omega (arith, ih, grow n (d - 48) (10 ^ length ds) (10 ^ suc (length ds)) small step)

short_number : (d : ℕ) (ds : List ℕ) → is_number_byte d ≡ true → list_all is_number_byte ds ≡ true → length ds < 18 → number_value d ds < 10 ^ 18
short_number d ds first all short =
    let range = digit_range d first in
    let bound = read_on_bound (d - 48) ds all in
    let step = power_step (length ds) in
    let least = power_below (length ds + 1) (omega (arith, short)) in
    let more = mul-le-mul_right (10 ^ length ds) (ten (d - 48) (omega (arith, range))) in
    omega (arith, bound, step, least, more)
  where
    ten : (n : ℕ) → n ≤ 9 → n + 1 ≤ 10
    ten n le = omega (arith, le)

-- ---- symbols are known

symbol_by : (a b c d e : Bool) → class_by a b c d e ≡ class.Symbol → e ≡ true
symbol_by true b c d e h = absurd cc
symbol_by false true c d e h = absurd cc
symbol_by false false true d e h = absurd cc
symbol_by false false false true e h = absurd cc
symbol_by false false false false true h = refl
symbol_by false false false false false h = absurd cc

symbol_known : (a b c d e f g h i : Bool) → (a || (b || (c || (d || (e || (f || (g || (h || i)))))))) ≡ true → IsSome (if a then Some symbols.OpenBrace else if b then Some symbols.CloseBrace else if c then Some symbols.Open else if d then Some symbols.Close else if e then Some symbols.Comma else if f then Some symbols.Equals else if g then Some symbols.Plus else if h then Some symbols.Minus else if i then Some symbols.Times else None)
symbol_known true b c d e f g h i is = refl
symbol_known false true c d e f g h i is = refl
symbol_known false false true d e f g h i is = refl
symbol_known false false false true e f g h i is = refl
symbol_known false false false false true f g h i is = refl
symbol_known false false false false false true g h i is = refl
symbol_known false false false false false false true h i is = refl
symbol_known false false false false false false false true i is = refl
symbol_known false false false false false false false false true is = refl
symbol_known false false false false false false false false false is = absurd cc

symbol_some : (b : ℕ) → class_of b ≡ class.Symbol → IsSome (symbol_of b)
unfolding class_of symbol_of
symbol_some b e = symbol_known _ _ _ _ _ _ _ _ _ (symbol_by _ _ _ _ _ e)

-- ---- the marks of pieces

abbrev pub piece_bytes : Piece → List ℕ
piece_bytes (blank b) = b ∷ []
piece_bytes (comment bs) = 35 ∷ bs
piece_bytes (word b bs) = b ∷ bs
piece_bytes (number d ds) = d ∷ ds
piece_bytes (symbol b) = b ∷ []

abbrev pub piece_mark : Piece → List Token
piece_mark (blank b) = []
piece_mark (comment bs) = []
piece_mark (word b bs) = word_or_name (word_of (b ∷ bs)) (b ∷ bs) ∷ []
piece_mark (number d ds) = token.Number (pos (number_value d ds)) ∷ []
piece_mark (symbol b) = symbol_or_none (symbol_of b) ∷ []

abbrev pub piece_marks : List Piece → List Token
piece_marks [] = []
piece_marks (p ∷ ps) = piece_mark p ++ piece_marks ps

spell_bytes : (p : Piece) (rest : List ℕ) → spell_piece p rest ≡ piece_bytes p ++ rest
spell_bytes (blank b) rest = refl
spell_bytes (comment bs) rest = refl
spell_bytes (word b bs) rest = refl
spell_bytes (number d ds) rest = refl
spell_bytes (symbol b) rest = refl

size_bytes : (p : Piece) → size p ≡ length (piece_bytes p)
size_bytes (blank b) = refl
size_bytes (comment bs) = omega arith
size_bytes (word b bs) = omega arith
size_bytes (number d ds) = omega arith
size_bytes (symbol b) = refl

-- the bytes of a word are its span
span_is : (front : List ℕ) (b : ℕ) (bs rest : List ℕ) → bytes_of (front ++ b ∷ (bs ++ rest)) (length front) (length front + (length bs + 1)) ≡ b ∷ bs
span_is front b bs rest =
    let n : length front + (length bs + 1) - length front ≡ suc (length bs) = omega arith in
    rw (n, drop-append_seam front (b ∷ (bs ++ rest))) (take-append_seam (b ∷ bs) rest)

mark_piece : (front : List ℕ) (p : Piece) (rest : List ℕ) → map (mark_of (front ++ spell_piece p rest)) (token_of (length front) p) ≡ piece_mark p
unfolding mark_of
mark_piece front (blank b) rest = refl
mark_piece front (comment bs) rest = refl
mark_piece front (word b bs) rest = ap (λ (x : List ℕ). word_or_name (word_of x) x ∷ []) (span_is front b bs rest)
mark_piece front (number d ds) rest = refl
mark_piece front (symbol b) rest = refl

marks_append : (text : List ℕ) (ts us : List Lexed) → marks_of text (ts ++ us) ≡ marks_of text ts ++ marks_of text us
marks_append text [] us = refl
marks_append text (t ∷ ts) us = ap (λ (x : List Token). mark_of text t ∷ x) (marks_append text ts us)

pub marks_in : (front : List ℕ) (ps : List Piece) (rest : List ℕ) → marks_of (front ++ spell ps rest) (tokens_in (length front) ps) ≡ piece_marks ps
marks_in front [] rest = refl
marks_in front (p ∷ ps) rest =
    let text : front ++ spell_piece p (spell ps rest) ≡ (front ++ piece_bytes p) ++ spell ps rest = ap (λ (x : List ℕ). front ++ x) (spell_bytes p (spell ps rest)) ∙ sym (append_assoc front (piece_bytes p) (spell ps rest)) in
    let place : length front + size p ≡ length (front ++ piece_bytes p) = omega (arith, size_bytes p, length-append front (piece_bytes p)) in
    marks_append (front ++ spell_piece p (spell ps rest)) (token_of (length front) p) (tokens_in (length front + size p) ps)
    ∙ ap (λ (x : List Token). x ++ marks_of (front ++ spell_piece p (spell ps rest)) (tokens_in (length front + size p) ps)) (mark_piece front p (spell ps rest))
    ∙ ap (λ (x : List ℕ). piece_mark p ++ marks_of x (tokens_in (length front + size p) ps)) text
    ∙ ap (λ (n : ℕ). piece_mark p ++ marks_of ((front ++ piece_bytes p) ++ spell ps rest) (tokens_in n ps)) place
    ∙ ap (λ (x : List Token). piece_mark p ++ x) (marks_in (front ++ piece_bytes p) ps rest)

-- ---- they are tokens that a text can have

digit_byte : (d : ℕ) → class_of d ≡ class.Digit → is_number_byte d ≡ true
digit_byte d e = ap is_digit_class e

word_real : (b : ℕ) (bs : List ℕ) (o : Option Word) → word_of (b ∷ bs) ≡ o → class_of b ≡ class.Letter → length bs < 32 → list_all is_name_byte bs ≡ true → IsReal (word_or_name o (b ∷ bs))
word_real b bs (Some w) e letter short all = tt
word_real b bs None e letter short all = let small : ltb (length bs) 32 ≡ true = lt-ltb (length bs) 32 short in rw (letter, small, all, e) refl

symbol_real : (o : Option Symbol) → IsSome o → AreReal (symbol_or_none o ∷ [])
symbol_real (Some s) h = (tt, tt)
symbol_real None h = absurd cc

piece_real : (p : Piece) (rest : List ℕ) → IsPiece p rest → AreReal (piece_mark p)
piece_real (blank b) rest is = tt
piece_real (comment bs) rest is = tt
piece_real (word b bs) rest is = (word_real b bs (word_of (b ∷ bs)) refl is.0 is.1 is.2.0, tt)
piece_real (number d ds) rest is = (short_number d ds (digit_byte d is.0) is.2.0 is.1, tt)
piece_real (symbol b) rest is = symbol_real (symbol_of b) (symbol_some b is)

pub real_append : (ts us : List Token) → AreReal ts → AreReal us → AreReal (ts ++ us)
real_append [] us h g = g
real_append (t ∷ ts) us h g = (h.0, real_append ts us h.1 g)

pub pieces_real : (ps : List Piece) (rest : List ℕ) → ArePieces ps rest → AreReal (piece_marks ps)
pieces_real [] rest are = tt
pieces_real (p ∷ ps) rest are = real_append (piece_mark p) (piece_marks ps) (piece_real p (spell ps rest) are.0) (pieces_real ps rest are.1)

-- ---- each token of a text has a mark

abbrev Known : Lexed → Type 0
Known t = HasMark t.kind

number_known : (n : ℕ) → n < 10 ^ 18 → n < 2 ^ 63
number_known n h = omega (arith, h)

all_known : (at : ℕ) (ps : List Piece) (rest : List ℕ) → ArePieces ps rest → AllFit Known (tokens_in at ps)
all_known at [] rest are = tt
all_known at (blank b ∷ ps) rest are = all_known (at + 1) ps rest are.1
all_known at (comment bs ∷ ps) rest are = all_known (at + (length bs + 1)) ps rest are.1
all_known at (word b bs ∷ ps) rest are = (tt, all_known (at + (length bs + 1)) ps rest are.1)
all_known at (number d ds ∷ ps) rest are = (number_known (number_value d ds) (short_number d ds (digit_byte d are.0.0) are.0.2.0 are.0.1), all_known (at + (length ds + 1)) ps rest are.1)
all_known at (symbol b ∷ ps) rest are = (symbol_some b are.0, all_known (at + 1) ps rest are.1)

order_le : (at end : ℕ) (ts : List Lexed) → AreInOrder at end ts → at ≤ end
order_le at end [] h = h
order_le at end (t ∷ ts) h = omega (arith, h.0, h.1, order_le t.to end ts h.2)

marked_at : (text : List ℕ) (at : ℕ) (ts : List Lexed) → AreInOrder at (length text) ts → AllFit Known ts → (k : ℕ) (d : Lexed) → k < length ts → IsMarked text (get_or ts k d)
marked_at text at [] h known k d below = absurd (omega (arith, below))
marked_at text at (t ∷ ts) h known zero d below = record { order = omega (arith, h.1); within = order_le t.to (length text) ts h.2; known = known.0 }
marked_at text at (t ∷ ts) h known (suc k) d below = marked_at text t.to ts h.2 known.1 k d (omega (arith, below))

abbrev Lexing : List ℕ → Result (List Lexed) TextFault → Type 0
Lexing text r = Lexes 0 text r

pub all_marked : (text : List ℕ) (ts : List Lexed) → tokens_of text ≡ Ok ts → All (IsMarked text) ts
all_marked text ts e =
    let made = subst (Lexing text) e (lexes (length text) 0 text (omega arith)) in
    let P : List Lexed → Type 0 = λ x. AllFit Known x in
    let known = subst P (sym made.places) (all_known 0 made.pieces [] made.proper) in
    λ k d below. marked_at text 0 ts (ordered text ts e) known k d below

pub marks_real : (text : List ℕ) (ts : List Lexed) → tokens_of text ≡ Ok ts → AreReal (marks_of text ts)
marks_real text ts e =
    let made = subst (Lexing text) e (lexes (length text) 0 text (omega arith)) in
    let whole : marks_of text ts ≡ piece_marks made.pieces =
    ap (λ (x : List Lexed). marks_of text x) made.places ∙ ap (λ (x : List ℕ). marks_of x (tokens_in 0 made.pieces)) made.spelled ∙ marks_in [] made.pieces [] in
    let P : List Token → Type 0 = λ x. AreReal x in
    subst P (sym whole) (pieces_real made.pieces [] made.proper)
