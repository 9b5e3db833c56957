-- The text that is laid out has the tokens that were written.
use Rattle.std.proofs.Common.{◌≡◌, ℕ, zero, suc, pos, negsuc, ◌+◌, ◌-◌, ◌*◌, ◌^◌, ◌<◌, ◌≤◌, Bool, true, false, ◌&&◌, if◌then◌else◌, ltb, List, [], ◌∷◌, ◌++◌, length, Option, Some, None, is_none, Ok, refl, sym, ap, subst, ◌∙◌, append_assoc, arith}
use Rattle.std.specs.List.{list_all}
use Rattle.std.specs.Fmt.{decimal}
use Rattle.std.specs.Int.{IsInRange}
use Rattle.std.proofs.lemmas.Bool.{ltb-true, and_parts, and_from}
use Rattle.std.proofs.lemmas.Fmt.{decimal_nonempty, digits_decimal, digits_value-decimal, length-decimal-le}
use Rattle.std.proofs.lemmas.Str.Parse.{IsDigitsTest, FoldsDigits, IsNumeralModel, numerals_by_fold}
use Rattle.pl_text.specs.declared.class.Class.TheVariants as class
use Rattle.pl_text.specs.declared.word.Word.{Word}
use Rattle.pl_text.specs.declared.word.Word.TheVariants as words
use Rattle.pl_text.specs.declared.token.Token.{Token as Lexed}
use Rattle.pl_text.specs.Bytes.{class_of, is_digit_class, is_name_byte, is_number_byte}
use Rattle.pl_text.specs.Words.{word_text, word_of, is_letter_class, is_word, is_name}
use Rattle.pl_text.specs.Tokens.{read_on, tokens_of}
use Rattle.pl_text.specs.Pieces.{Piece, blank, word, number, symbol, spell_piece, spell, Stops, IsPiece, ArePieces, tokens_in}
use Rattle.pl_text.proofs.Digits.{digit_range}
use Rattle.pl_text.proofs.PieceLemmas.{made_of}
use Rattle.pl_syntax.specs.declared.token.Token.{Token}
use Rattle.pl_syntax.specs.declared.token.Token.TheVariants as token
use Rattle.pl_syntax.specs.declared.symbol.Symbol.{Symbol}
use Rattle.pl_syntax.specs.declared.symbol.Symbol.TheVariants as symbols
use Rattle.pl_syntax.specs.Symbols.{symbol_byte, symbol_of}
use Rattle.pl_syntax.specs.Tokens.{AreReal}
use Rattle.pl_syntax.specs.Marks.{word_or_name, symbol_or_none, marks_of}
use Rattle.pl_syntax.specs.Canonical.{token_text, breaks, in_states_behind, laid, text_of}
use Rattle.pl_syntax.proofs.Again.{spread, spread_append}
use Rattle.pl_syntax.proofs.TextMarks.{piece_mark, piece_marks, marks_in}

-- ---- the pieces of a token, and of a text

abbrev word_pieces : List ℕ → List Piece
word_pieces [] = []
word_pieces (b ∷ bs) = word b bs ∷ []

abbrev number_pieces : List ℕ → List Piece
number_pieces [] = []
number_pieces (d ∷ ds) = number d ds ∷ []

abbrev token_pieces : Token → List Piece
token_pieces (token.Word w) = word_pieces (word_text w)
token_pieces (token.Name n) = word_pieces n
token_pieces (token.Number (pos n)) = number_pieces (decimal n)
token_pieces (token.Number (negsuc n)) = symbol 45 ∷ blank 32 ∷ number_pieces (decimal (suc n))
token_pieces (token.Symbol s) = symbol (symbol_byte s) ∷ []

abbrev gap_byte : Bool → ℕ
gap_byte line = if line then 10 else 32

abbrev laid_pieces : Bool → List Token → List Piece
laid_pieces s [] = blank 10 ∷ []
laid_pieces s (t ∷ ts) = blank (gap_byte (breaks s t)) ∷ (token_pieces t ++ laid_pieces (in_states_behind s t) ts)

abbrev text_pieces : List Token → List Piece
text_pieces [] = blank 10 ∷ []
text_pieces (t ∷ ts) = token_pieces t ++ laid_pieces (in_states_behind false t) ts

-- ---- their bytes

spell_append : (ps qs : List Piece) (rest : List ℕ) → spell (ps ++ qs) rest ≡ spell ps (spell qs rest)
spell_append [] qs rest = refl
spell_append (p ∷ ps) qs rest = ap (λ (x : List ℕ). spell_piece p x) (spell_append ps qs rest)

word_spelled : (bs rest : List ℕ) → spell (word_pieces bs) rest ≡ bs ++ rest
word_spelled [] rest = refl
word_spelled (b ∷ bs) rest = refl

number_spelled : (ds rest : List ℕ) → spell (number_pieces ds) rest ≡ ds ++ rest
number_spelled [] rest = refl
number_spelled (d ∷ ds) rest = refl

token_spelled : (t : Token) (rest : List ℕ) → spell (token_pieces t) rest ≡ token_text t ++ rest
token_spelled (token.Word w) rest = word_spelled (word_text w) rest
token_spelled (token.Name n) rest = word_spelled n rest
token_spelled (token.Number (pos n)) rest = number_spelled (decimal n) rest
token_spelled (token.Number (negsuc n)) rest = ap (λ (x : List ℕ). 45 ∷ 32 ∷ x) (number_spelled (decimal (suc n)) rest)
token_spelled (token.Symbol s) rest = refl

behind_spelled : (t : Token) (ps : List Piece) (text : List ℕ) → spell ps [] ≡ text → spell (token_pieces t ++ ps) [] ≡ token_text t ++ text
behind_spelled t ps text e = spell_append (token_pieces t) ps [] ∙ ap (λ (x : List ℕ). spell (token_pieces t) x) e ∙ token_spelled t text

laid_spelled : (s : Bool) (ts : List Token) → spell (laid_pieces s ts) [] ≡ laid s ts
laid_spelled s [] = refl
laid_spelled s (t ∷ ts) = ap (λ (x : List ℕ). gap_byte (breaks s t) ∷ x) (behind_spelled t (laid_pieces (in_states_behind s t) ts) (laid (in_states_behind s t) ts) (laid_spelled (in_states_behind s t) ts))

text_spelled : (ts : List Token) → spell (text_pieces ts) [] ≡ text_of ts
text_spelled [] = refl
text_spelled (t ∷ ts) = behind_spelled t (laid_pieces (in_states_behind false t) ts) (laid (in_states_behind false t) ts) (laid_spelled (in_states_behind false t) ts)

-- ---- decimal digits

digit_class : (k : ℕ) → k < 10 → is_number_byte (48 + k) ≡ true
unfolding class_of
digit_class zero h = refl
digit_class (suc zero) h = refl
digit_class (suc (suc zero)) h = refl
digit_class (suc (suc (suc zero))) h = refl
digit_class (suc (suc (suc (suc zero)))) h = refl
digit_class (suc (suc (suc (suc (suc zero))))) h = refl
digit_class (suc (suc (suc (suc (suc (suc zero)))))) h = refl
digit_class (suc (suc (suc (suc (suc (suc (suc zero))))))) h = refl
digit_class (suc (suc (suc (suc (suc (suc (suc (suc zero)))))))) h = refl
digit_class (suc (suc (suc (suc (suc (suc (suc (suc (suc zero))))))))) h = refl
digit_class (suc (suc (suc (suc (suc (suc (suc (suc (suc (suc k)))))))))) h = absurd (omega (arith, h))

digit_is : (c : ℕ) → IsInRange 48 57 c → is_number_byte c ≡ true
digit_is c h =
    let e : c ≡ 48 + (c - 48) = omega (arith, h) in
    let P : ℕ → Type 0 = λ x. is_number_byte x ≡ true in
    subst P (sym e) (digit_class (c - 48) (omega (arith, h)))

abbrev AreDigits : List ℕ → Type 0
AreDigits ds = list_all is_number_byte ds ≡ true

digits_test : IsDigitsTest AreDigits
digits_test = record {
  empty = refl;
  parts = λ c cs h. let p = and_parts (is_number_byte c) (list_all is_number_byte cs) h in (digit_range c p.0, p.1);
  more = λ c cs h g. and_from (is_number_byte c) (list_all is_number_byte cs) (digit_is c h) g;
}

folds : FoldsDigits read_on
folds = record { empty = λ n. refl; more = λ n c cs h. refl }

own : IsNumeralModel AreDigits (read_on 0)
own = numerals_by_fold AreDigits digits_test read_on folds

pub record IsDecimal (n : ℕ) (ds : List ℕ) : Type 0 where
  pub digits : AreDigits ds
  pub value : read_on 0 ds ≡ n
  pub short : length ds ≤ 18
  pub some : 0 < length ds

decimal_is : (n : ℕ) → n < 10 ^ 18 → IsDecimal n (decimal n)
decimal_is n small =
    let below : n < 2 ^ 64 = omega (arith, small) in
    record { digits = digits_decimal own n below; value = digits_value-decimal own n below; short = length-decimal-le 18 n (omega arith) small below; some = decimal_nonempty n below }

-- ---- the pieces are proper before a blank

-- a text that begins with a blank
abbrev Apart : List ℕ → Type 0
Apart text = Stops is_name_byte text × Stops is_number_byte text

gap_apart : (line : Bool) (text : List ℕ) → Apart (gap_byte line ∷ text)
unfolding class_of
gap_apart true text = (refl, refl)
gap_apart false text = (refl, refl)

gap_blank : (line : Bool) → class_of (gap_byte line) ≡ class.Blank
unfolding class_of
gap_blank true = refl
gap_blank false = refl

laid_apart : (s : Bool) (ts : List Token) → Apart (spell (laid_pieces s ts) [])
laid_apart s [] = gap_apart true []
laid_apart s (t ∷ ts) = gap_apart (breaks s t) (spell (token_pieces t ++ laid_pieces (in_states_behind s t) ts) [])

letter_class : (b : ℕ) → is_letter_class (class_of b) ≡ true → class_of b ≡ class.Letter
letter_class b e = by (class_of b) e
  where
    by : (c : _) → is_letter_class c ≡ true → c ≡ class.Letter
    by class.Letter e = refl
    by _ e = absurd cc

digit_class_of : (b : ℕ) → is_number_byte b ≡ true → class_of b ≡ class.Digit
digit_class_of b e = by (class_of b) e
  where
    by : (c : _) → is_digit_class c ≡ true → c ≡ class.Digit
    by class.Digit e = refl
    by _ e = absurd cc

word_proper : (bs rest : List ℕ) → is_word bs ≡ true → Apart rest → ArePieces (word_pieces bs) rest
word_proper [] rest e apart = tt
word_proper (b ∷ bs) rest e apart =
    let first = and_parts (is_letter_class (class_of b)) (ltb (length bs) 32 && list_all is_name_byte bs) e in
    let second = and_parts (ltb (length bs) 32) (list_all is_name_byte bs) first.1 in
    ((letter_class b first.0, ltb-true (length bs) 32 second.0, (second.1, apart.0)), tt)

number_proper : (n : ℕ) (ds rest : List ℕ) → IsDecimal n ds → Apart rest → ArePieces (number_pieces ds) rest
number_proper n [] rest d apart = tt
number_proper n (c ∷ ds) rest d apart =
    let all = and_parts (is_number_byte c) (list_all is_number_byte ds) d.digits in
    ((digit_class_of c all.0, omega (arith, d.short), (all.1, apart.1)), tt)

word_text_is : (w : Word) → is_word (word_text w) ≡ true
unfolding class_of
word_text_is words.Horizon = refl
word_text_is _ = refl

symbol_class : (s : Symbol) → class_of (symbol_byte s) ≡ class.Symbol
unfolding class_of
symbol_class symbols.OpenBrace = refl
symbol_class _ = refl

minus_class : class_of 45 ≡ class.Symbol
unfolding class_of
minus_class = refl

-- a token that can be written
abbrev CanWrite : Token → Type 0
CanWrite (token.Word w) = Unit {0}
CanWrite (token.Name n) = is_name n ≡ true
CanWrite (token.Number (pos n)) = n < 10 ^ 18
CanWrite (token.Number (negsuc n)) = suc n < 10 ^ 18
CanWrite (token.Symbol s) = Unit {0}

abbrev CanWriteAll : List Token → Type 0
CanWriteAll [] = Unit {0}
CanWriteAll (t ∷ ts) = CanWrite t × CanWriteAll ts

can_write : (ts : List Token) → AreReal (spread ts []) → CanWriteAll ts
can_write [] h = tt
can_write (token.Number (negsuc n) ∷ ts) h = (h.1.0, can_write ts h.1.1)
can_write (token.Number (pos n) ∷ ts) h = (h.0, can_write ts h.1)
can_write (token.Name n ∷ ts) h = (h.0, can_write ts h.1)
can_write (token.Word w ∷ ts) h = (tt, can_write ts h.1)
can_write (token.Symbol s ∷ ts) h = (tt, can_write ts h.1)

token_proper : (t : Token) (rest : List ℕ) → CanWrite t → Apart rest → ArePieces (token_pieces t) rest
token_proper (token.Word w) rest can apart = word_proper (word_text w) rest (word_text_is w) apart
token_proper (token.Name n) rest can apart = word_proper n rest (and_parts (is_word n) (is_none (word_of n)) can).0 apart
token_proper (token.Number (pos n)) rest can apart = number_proper n (decimal n) rest (decimal_is n can) apart
token_proper (token.Number (negsuc n)) rest can apart = (minus_class, (gap_blank false, number_proper (suc n) (decimal (suc n)) rest (decimal_is (suc n) can) apart))
token_proper (token.Symbol s) rest can apart = (symbol_class s, tt)

proper_append : (ps qs : List Piece) (rest : List ℕ) → ArePieces ps (spell qs rest) → ArePieces qs rest → ArePieces (ps ++ qs) rest
proper_append [] qs rest h g = g
proper_append (p ∷ ps) qs rest h g = let P : List ℕ → Type 0 = λ x. IsPiece p x in (subst P (sym (spell_append ps qs rest)) h.0, proper_append ps qs rest h.1 g)

laid_proper : (s : Bool) (ts : List Token) → CanWriteAll ts → ArePieces (laid_pieces s ts) []
laid_proper s [] can = (gap_blank true, tt)
laid_proper s (t ∷ ts) can =
    (gap_blank (breaks s t), proper_append (token_pieces t) (laid_pieces (in_states_behind s t) ts) [] (token_proper t (spell (laid_pieces (in_states_behind s t) ts) []) can.0 (laid_apart (in_states_behind s t) ts)) (laid_proper (in_states_behind s t) ts can.1))

text_proper : (ts : List Token) → CanWriteAll ts → ArePieces (text_pieces ts) []
text_proper [] can = (gap_blank true, tt)
text_proper (t ∷ ts) can =
    proper_append (token_pieces t) (laid_pieces (in_states_behind false t) ts) [] (token_proper t (spell (laid_pieces (in_states_behind false t) ts) []) can.0 (laid_apart (in_states_behind false t) ts)) (laid_proper (in_states_behind false t) ts can.1)

-- ---- they are the marks that were written

marks_append : (ps qs : List Piece) → piece_marks (ps ++ qs) ≡ piece_marks ps ++ piece_marks qs
marks_append [] qs = refl
marks_append (p ∷ ps) qs = ap (λ (x : List Token). piece_mark p ++ x) (marks_append ps qs) ∙ sym (append_assoc (piece_mark p) (piece_marks ps) (piece_marks qs))

word_mark : (w : Word) → piece_marks (word_pieces (word_text w)) ≡ token.Word w ∷ []
unfolding word_of
word_mark words.Horizon = refl
word_mark _ = refl

no_word : (o : Option Word) (bs : List ℕ) → is_none o ≡ true → word_or_name o bs ≡ token.Name bs
no_word None bs e = refl
no_word (Some w) bs e = absurd cc

name_mark : (n : List ℕ) → is_name n ≡ true → piece_marks (word_pieces n) ≡ token.Name n ∷ []
name_mark [] e = absurd cc
name_mark (b ∷ bs) e = ap (λ (t : Token). t ∷ []) (no_word (word_of (b ∷ bs)) (b ∷ bs) (and_parts (is_word (b ∷ bs)) (is_none (word_of (b ∷ bs))) e).1)

number_mark : (n : ℕ) (ds : List ℕ) → IsDecimal n ds → piece_marks (number_pieces ds) ≡ token.Number (pos n) ∷ []
number_mark n [] d = let none = d.some in absurd (omega (arith, none))
number_mark n (c ∷ ds) d =
    let first : c - 48 ≡ 0 * 10 + (c - 48) = omega arith in
    ap (λ (v : ℕ). token.Number (pos v) ∷ []) (ap (λ (v : ℕ). read_on v ds) first ∙ d.value)

symbol_mark : (s : Symbol) → symbol_or_none (symbol_of (symbol_byte s)) ≡ token.Symbol s
unfolding symbol_of
symbol_mark symbols.OpenBrace = refl
symbol_mark _ = refl

minus_mark : symbol_or_none (symbol_of 45) ≡ token.Symbol symbols.Minus
unfolding symbol_of
minus_mark = refl

token_mark : (t : Token) (rest : List Token) → CanWrite t → piece_marks (token_pieces t) ++ rest ≡ spread (t ∷ []) rest
token_mark (token.Word w) rest can = ap (λ (x : List Token). x ++ rest) (word_mark w)
token_mark (token.Name n) rest can = ap (λ (x : List Token). x ++ rest) (name_mark n can)
token_mark (token.Number (pos n)) rest can = ap (λ (x : List Token). x ++ rest) (number_mark n (decimal n) (decimal_is n can))
token_mark (token.Number (negsuc n)) rest can = ap (λ (t : Token). t ∷ (piece_marks (number_pieces (decimal (suc n))) ++ rest)) minus_mark ∙ ap (λ (x : List Token). token.Symbol symbols.Minus ∷ (x ++ rest)) (number_mark (suc n) (decimal (suc n)) (decimal_is (suc n) can))
token_mark (token.Symbol s) rest can = ap (λ (t : Token). t ∷ rest) (symbol_mark s)

behind_marks : (t : Token) (ts : List Token) (ps : List Piece) → CanWrite t → piece_marks ps ≡ spread ts [] → piece_marks (token_pieces t ++ ps) ≡ spread (t ∷ ts) []
behind_marks t ts ps can e = marks_append (token_pieces t) ps ∙ ap (λ (x : List Token). piece_marks (token_pieces t) ++ x) e ∙ token_mark t (spread ts []) can ∙ sym (spread_append (t ∷ []) ts [])

laid_marks : (s : Bool) (ts : List Token) → CanWriteAll ts → piece_marks (laid_pieces s ts) ≡ spread ts []
laid_marks s [] can = refl
laid_marks s (t ∷ ts) can = behind_marks t ts (laid_pieces (in_states_behind s t) ts) can.0 (laid_marks (in_states_behind s t) ts can.1)

text_marks : (ts : List Token) → CanWriteAll ts → piece_marks (text_pieces ts) ≡ spread ts []
text_marks [] can = refl
text_marks (t ∷ ts) can = behind_marks t ts (laid_pieces (in_states_behind false t) ts) can.0 (laid_marks (in_states_behind false t) ts can.1)

-- the tokens of the text, and what the grammar sees of them
pub record IsLaidOut (ts : List Token) : Type 0 where
  pub tokens : List Lexed
  pub lexed : tokens_of (text_of ts) ≡ Ok tokens
  pub marks : marks_of (text_of ts) tokens ≡ spread ts []

pub laid_out : (ts : List Token) → AreReal (spread ts []) → IsLaidOut ts
laid_out ts real =
    let can = can_write ts real in
    let spelled = text_spelled ts in
    record {
      tokens = tokens_in 0 (text_pieces ts);
      lexed = ap tokens_of (sym spelled) ∙ made_of (text_pieces ts) (text_proper ts can);
      marks = ap (λ (x : List ℕ). marks_of x (tokens_in 0 (text_pieces ts))) (sym spelled) ∙ marks_in [] (text_pieces ts) [] ∙ text_marks ts can;
    }
