-- A text is made of the pieces that the scanner sees, and it sees those that a text is made of.
use Rattle.std.proofs.Common.{◌≡◌, ℕ, zero, suc, ◌+◌, ◌-◌, ◌<◌, ◌≤◌, Bool, true, false, ◌&&◌, cond, ltb, List, [], ◌∷◌, ◌++◌, length, take, drop, Result, Ok, Err, refl, sym, ap, subst, ◌∙◌, arith}
use Rattle.std.specs.List.{prefix_len, list_all}
use Rattle.std.proofs.lemmas.Bool.{ltb-true, ltb-false, le-ltb, lt-ltb, eqb-true}
use Rattle.std.proofs.lemmas.List.{append-nil, take-append-drop, length-append}
use Rattle.std.proofs.lemmas.List.Folds.{length-prefix_len}
use Rattle.std.proofs.Math.Seq.{take-append_seam, drop-append_seam}
use Rattle.pl_lists.specs.Judgements.{behind}
use Rattle.pl_text.specs.declared.class.Class.{Class}
use Rattle.pl_text.specs.declared.class.Class.TheVariants as class
use Rattle.pl_text.specs.declared.token.Token.{Token}
use Rattle.pl_text.specs.declared.fault.TextFault.{TextFault}
use Rattle.pl_text.specs.declared.fault.TextFault.TheVariants as fault
use Rattle.pl_text.specs.Bytes.{class_by, class_of, is_digit_class, is_name_byte, is_number_byte, in_line}
use Rattle.pl_text.specs.Tokens.{lexeme_of, tokens_at, tokens_of}
use Rattle.pl_text.specs.Pieces.{Piece, blank, comment, word, number, symbol, spell_piece, spell, Stops, IsPiece, ArePieces, size, token_of, tokens_in, end_of, IsBad, Lexes, AreInOrder}
use Rattle.pl_text.proofs.Scanning.{behind-behind, tokens_skip}

-- ---- runs

module _ (of : ℕ → Bool) where
  run_cons : (b : ℕ) (bs : List ℕ) (c : Bool) → of b ≡ c → (list_all of (take (prefix_len of bs) bs) ≡ true) × Stops of (drop (prefix_len of bs) bs) → (list_all of (take (cond c (1 + prefix_len of bs) 0) (b ∷ bs)) ≡ true) × Stops of (drop (cond c (1 + prefix_len of bs) 0) (b ∷ bs))
  run_cons b bs true is h =
      let e : 1 + prefix_len of bs ≡ suc (prefix_len of bs) = omega arith in
      rw (e, is) h
  run_cons b bs false is h = (refl, is)

  -- what is taken is a run
  pub run_is : (bs : List ℕ) → (list_all of (take (prefix_len of bs) bs) ≡ true) × Stops of (drop (prefix_len of bs) bs)
  run_is [] = (refl, tt)
  run_is (b ∷ bs) = run_cons b bs (of b) refl (run_is bs)

  -- a run is what is taken
  stop_len : (rest : List ℕ) → Stops of rest → prefix_len of rest ≡ 0
  stop_len [] s = refl
  stop_len (b ∷ bs) s = rw s refl

  split : (b : ℕ) (bs : List ℕ) → (of b && list_all of bs) ≡ true → (of b ≡ true) × (list_all of bs ≡ true)
  split b bs e = grind (arith)

  pub run_len : (bs rest : List ℕ) → list_all of bs ≡ true → Stops of rest → prefix_len of (bs ++ rest) ≡ length bs
  run_len [] rest all s = stop_len rest s
  run_len (b ∷ bs) rest all s = let p = split b bs all in rw (p.0, run_len bs rest p.1 s) (omega arith)

-- ---- a piece that stands before a text is the lexeme that is seen

hash : class_of 35 ≡ class.Comment
unfolding class_of
hash = refl

skip_run : (at : ℕ) (bs rest : List ℕ) → tokens_at (length bs + 1 - 1) (at + 1) (bs ++ rest) ≡ tokens_at 0 (at + (length bs + 1)) rest
skip_run at bs rest =
    let one : length bs + 1 - 1 ≡ length bs = omega arith in
    let place : at + 1 + length bs ≡ at + (length bs + 1) = omega arith in
    rw (one, tokens_skip (length bs) (at + 1) (bs ++ rest), drop-append_seam bs rest, place) refl

pub piece_read : (at : ℕ) (p : Piece) (rest : List ℕ) → IsPiece p rest → tokens_at 0 at (spell_piece p rest) ≡ behind (token_of at p) (tokens_at 0 (at + size p) rest)
unfolding tokens_at lexeme_of
piece_read at (comment bs) rest is =
    rw (hash, run_len in_line bs rest is.0 is.1, skip_run at bs rest) refl
piece_read at (word b bs) rest is =
    let short : ltb 32 (length bs + 1) ≡ false = le-ltb 32 (length bs + 1) (omega (arith, is.1)) in
    rw (is.0, run_len is_name_byte bs rest is.2.0 is.2.1, short, skip_run at bs rest) refl
piece_read at (number d ds) rest is =
    let short : ltb 18 (length ds + 1) ≡ false = le-ltb 18 (length ds + 1) (omega (arith, is.1)) in
    let one : length ds + 1 - 1 ≡ length ds = omega arith in
    rw (is.0, run_len is_number_byte ds rest is.2.0 is.2.1, short, skip_run at ds rest, one, take-append_seam ds rest) refl
piece_read at _ rest is = rw is refl

pub pieces_read : (at : ℕ) (ps : List Piece) (rest : List ℕ) (r : Result (List Token) TextFault) → ArePieces ps rest → tokens_at 0 (end_of at ps) rest ≡ r → tokens_at 0 at (spell ps rest) ≡ behind (tokens_in at ps) r
pieces_read at [] rest r are e = e ∙ behind-none r
  where
    behind-none : (r : Result (List Token) TextFault) → r ≡ behind [] r
    behind-none (Ok ts) = refl
    behind-none (Err e) = refl
pieces_read at (p ∷ ps) rest r are e =
    piece_read at p (spell ps rest) are.0
    ∙ ap (λ (x : Result (List Token) TextFault). behind (token_of at p) x) (pieces_read (at + size p) ps rest r are.1 e)
    ∙ behind-behind (token_of at p) (tokens_in (at + size p) ps) r

-- a text that is made of pieces has their tokens
pub made_of : (ps : List Piece) → ArePieces ps [] → tokens_of (spell ps []) ≡ Ok (tokens_in 0 ps)
unfolding tokens_at
made_of ps are = pieces_read 0 ps [] (Ok []) are refl ∙ ap Ok (append-nil (tokens_in 0 ps))

-- ---- each text is made of pieces, up to its end or to the first fault

pub data Next (at b : ℕ) (bs : List ℕ) : Type 0 where
  seen : (p : Piece) (rest : List ℕ) → b ∷ bs ≡ spell_piece p rest → IsPiece p rest → Next at b bs
  bad : (e : TextFault) → lexeme_of at b bs ≡ Err e → IsBad e at (b ∷ bs) → Next at b bs

hash_by : (a b c d e : Bool) → class_by a b c d e ≡ class.Comment → b ≡ true
hash_by true b c d e h = absurd cc
hash_by false true c d e h = refl
hash_by false false true d e h = absurd cc
hash_by false false false true e h = absurd cc
hash_by false false false false true h = absurd cc
hash_by false false false false false h = absurd cc

is_hash : (b : ℕ) → class_of b ≡ class.Comment → b ≡ 35
unfolding class_of
is_hash b e = eqb-true b 35 (hash_by _ _ _ _ _ e)

parts : (of : ℕ → Bool) (b : ℕ) (bs : List ℕ) → b ∷ bs ≡ b ∷ (take (prefix_len of bs) bs ++ drop (prefix_len of bs) bs)
parts of b bs = ap (λ (x : List ℕ). b ∷ x) (sym (take-append-drop (prefix_len of bs) bs))

long_name : (at b : ℕ) (bs : List ℕ) → class_of b ≡ class.Letter → ltb 32 (prefix_len is_name_byte bs + 1) ≡ true → lexeme_of at b bs ≡ Err (fault.BadName at)
unfolding lexeme_of
long_name at b bs e long = rw (e, long) refl

long_number : (at b : ℕ) (bs : List ℕ) → class_of b ≡ class.Digit → ltb 18 (prefix_len is_number_byte bs + 1) ≡ true → lexeme_of at b bs ≡ Err (fault.BadNumber at)
unfolding lexeme_of
long_number at b bs e long = rw (e, long) refl

bad_byte : (at b : ℕ) (bs : List ℕ) → class_of b ≡ class.Bad → lexeme_of at b bs ≡ Err (fault.BadByte at)
unfolding lexeme_of
bad_byte at b bs e = rw e refl

next_word : (at b : ℕ) (bs : List ℕ) → class_of b ≡ class.Letter → (long : Bool) → ltb 32 (prefix_len is_name_byte bs + 1) ≡ long → Next at b bs
next_word at b bs e true is = bad (fault.BadName at) (long_name at b bs e is) (refl, e, omega (arith, ltb-true 32 (prefix_len is_name_byte bs + 1) is))
next_word at b bs e false is =
    let run = run_is is_name_byte bs in
    seen (word b (take (prefix_len is_name_byte bs) bs)) (drop (prefix_len is_name_byte bs) bs) (parts is_name_byte b bs)
    (e, omega (arith, length-prefix_len is_name_byte bs, ltb-false 32 (prefix_len is_name_byte bs + 1) is), (run.0, run.1))

next_number : (at b : ℕ) (bs : List ℕ) → class_of b ≡ class.Digit → (long : Bool) → ltb 18 (prefix_len is_number_byte bs + 1) ≡ long → Next at b bs
next_number at b bs e true is = bad (fault.BadNumber at) (long_number at b bs e is) (refl, e, omega (arith, ltb-true 18 (prefix_len is_number_byte bs + 1) is))
next_number at b bs e false is =
    let run = run_is is_number_byte bs in
    seen (number b (take (prefix_len is_number_byte bs) bs)) (drop (prefix_len is_number_byte bs) bs) (parts is_number_byte b bs)
    (e, omega (arith, length-prefix_len is_number_byte bs, ltb-false 18 (prefix_len is_number_byte bs + 1) is), (run.0, run.1))

next_at : (at b : ℕ) (bs : List ℕ) (c : Class) → class_of b ≡ c → Next at b bs
next_at at b bs class.Blank e = seen (blank b) bs refl e
next_at at b bs class.Comment e =
    seen (comment (take (prefix_len in_line bs) bs)) (drop (prefix_len in_line bs) bs) (parts in_line b bs ∙ ap (λ (x : ℕ). x ∷ (take (prefix_len in_line bs) bs ++ drop (prefix_len in_line bs) bs)) (is_hash b e)) (run_is in_line bs)
next_at at b bs class.Letter e = next_word at b bs e (ltb 32 (prefix_len is_name_byte bs + 1)) refl
next_at at b bs class.Digit e = next_number at b bs e (ltb 18 (prefix_len is_number_byte bs + 1)) refl
next_at at b bs class.Symbol e = seen (symbol b) bs refl e
next_at at b bs class.Bad e = bad (fault.BadByte at) (bad_byte at b bs e) (refl, e)

lexes_behind : (at : ℕ) (p : Piece) (rest : List ℕ) (r : Result (List Token) TextFault) → IsPiece p rest → Lexes (at + size p) rest r → Lexes at (spell_piece p rest) (behind (token_of at p) r)
lexes_behind at p rest (Ok ts) is h =
    let P : List ℕ → Type 0 = λ x. IsPiece p x in
    record { pieces = p ∷ h.pieces; spelled = ap (λ (x : List ℕ). spell_piece p x) h.spelled; proper = (subst P h.spelled is, h.proper); places = ap (λ (x : List Token). token_of at p ++ x) h.places }
lexes_behind at p rest (Err e) is h =
    let P : List ℕ → Type 0 = λ x. IsPiece p x in
    record { pieces = p ∷ h.pieces; rest = h.rest; spelled = ap (λ (x : List ℕ). spell_piece p x) h.spelled; proper = (subst P h.spelled is, h.proper); faulty = h.faulty }

stopped : (at b : ℕ) (bs : List ℕ) (e : TextFault) → lexeme_of at b bs ≡ Err e → tokens_at 0 at (b ∷ bs) ≡ Err e
unfolding tokens_at
stopped at b bs e is = rw is refl

shorter : (p : Piece) (rest : List ℕ) → length rest < length (spell_piece p rest)
shorter (comment bs) rest = omega (arith, length-append bs rest)
shorter (word b bs) rest = omega (arith, length-append bs rest)
shorter (number d ds) rest = omega (arith, length-append ds rest)
shorter _ rest = omega arith

lexes_next : (n at b : ℕ) (bs : List ℕ) → length (b ∷ bs) ≤ suc n → ((at : ℕ) (text : List ℕ) → length text ≤ n → Lexes at text (tokens_at 0 at text)) → Next at b bs → Lexes at (b ∷ bs) (tokens_at 0 at (b ∷ bs))
lexes_next n at b bs short ih (bad e is faulty) =
    let P : Result (List Token) TextFault → Type 0 = λ r. Lexes at (b ∷ bs) r in
    subst P (sym (stopped at b bs e is)) (record { pieces = []; rest = b ∷ bs; spelled = refl; proper = tt; faulty = faulty })
lexes_next n at b bs short ih (seen p rest e is) =
    let P : List ℕ → Type 0 = λ x. Lexes at x (tokens_at 0 at x) in
    let Q : Result (List Token) TextFault → Type 0 = λ r. Lexes at (spell_piece p rest) r in
    let few : length rest ≤ n = omega (arith, short, ap (λ (x : List ℕ). length x) e, shorter p rest) in
    subst P (sym e) (subst Q (sym (piece_read at p rest is)) (lexes_behind at p rest (tokens_at 0 (at + size p) rest) is (ih (at + size p) rest few)))

lexes_end : (at : ℕ) → Lexes at [] (tokens_at 0 at [])
unfolding tokens_at
lexes_end at = record { pieces = []; spelled = refl; proper = tt; places = refl }

pub lexes : (n at : ℕ) (text : List ℕ) → length text ≤ n → Lexes at text (tokens_at 0 at text)
lexes n at [] short = lexes_end at
lexes zero at (b ∷ bs) short = absurd (omega (arith, short))
lexes (suc n) at (b ∷ bs) short = lexes_next n at b bs short (λ at' text few. lexes n at' text few) (next_at at b bs (class_of b) refl)

-- ---- a text that is made of pieces up to a place where none begins has the fault of that place

digit_by_class : (c : Class) → is_digit_class c ≡ true → c ≡ class.Digit
digit_by_class class.Digit e = refl
digit_by_class _ e = absurd (cc)

digit_class : (b : ℕ) → is_number_byte b ≡ true → class_of b ≡ class.Digit
digit_class b e = digit_by_class (class_of b) e

-- a longer run is seen to be long
pub run_long : (of : ℕ → Bool) (bs more : List ℕ) → list_all of bs ≡ true → length bs ≤ prefix_len of (bs ++ more)
run_long of [] more all = omega arith
run_long of (b ∷ bs) more all =
    let p = split of b bs all in
    rw p.0 (omega (arith, run_long of bs more p.1))

bad_lexeme : (e : TextFault) (at b : ℕ) (bs : List ℕ) → IsBad e at (b ∷ bs) → lexeme_of at b bs ≡ Err e
bad_lexeme (fault.BadByte place) at b bs is = rw is.0 (bad_byte at b bs is.1)
bad_lexeme (fault.BadNumber place) at b bs is = rw is.0 (long_number at b bs is.1 (lt-ltb 18 (prefix_len is_number_byte bs + 1) (omega (arith, is.2))))
bad_lexeme (fault.BadName place) at b bs is = rw is.0 (long_name at b bs is.1 (lt-ltb 32 (prefix_len is_name_byte bs + 1) (omega (arith, is.2))))
bad_lexeme fault.Memory at b bs is = absurd is

bad_rest : (e : TextFault) (at : ℕ) (rest : List ℕ) → IsBad e at rest → tokens_at 0 at rest ≡ Err e
bad_rest (fault.BadByte place) at [] is = absurd is
bad_rest e at (b ∷ bs) is = stopped at b bs e (bad_lexeme e at b bs is)
bad_rest _ at [] is = absurd is

pub stops_at : (ps : List Piece) (rest : List ℕ) (e : TextFault) → ArePieces ps rest → IsBad e (end_of 0 ps) rest → tokens_of (spell ps rest) ≡ Err e
stops_at ps rest e are is = pieces_read 0 ps rest (Err e) are (bad_rest e (end_of 0 ps) rest is)

pub stops_at_number : (ps : List Piece) (ds more : List ℕ) → ArePieces ps (ds ++ more) → list_all is_number_byte ds ≡ true → 18 < length ds → tokens_of (spell ps (ds ++ more)) ≡ Err (fault.BadNumber (end_of 0 ps))
stops_at_number ps [] more are all long = absurd (omega (arith, long))
stops_at_number ps (d ∷ ds) more are all long =
    let p = split is_number_byte d ds all in
    stops_at ps (d ∷ (ds ++ more)) (fault.BadNumber (end_of 0 ps)) are (refl, digit_class d p.0, omega (arith, long, run_long is_number_byte ds more p.1))

pub stops_at_name : (ps : List Piece) (b : ℕ) (bs more : List ℕ) → ArePieces ps (b ∷ (bs ++ more)) → class_of b ≡ class.Letter → list_all is_name_byte bs ≡ true → 32 < length (b ∷ bs) → tokens_of (spell ps (b ∷ (bs ++ more))) ≡ Err (fault.BadName (end_of 0 ps))
stops_at_name ps b bs more are e all long =
    stops_at ps (b ∷ (bs ++ more)) (fault.BadName (end_of 0 ps)) are (refl, e, omega (arith, long, run_long is_name_byte bs more all))

-- ---- the tokens of pieces stand in order

later : (at more end : ℕ) (ts : List Token) → at ≤ more → AreInOrder more end ts → AreInOrder at end ts
later at more end [] le h = omega (arith, le, h)
later at more end (t ∷ ts) le h = (omega (arith, le, h.0), h.1, h.2)

pub in_order : (at : ℕ) (ps : List Piece) (end : ℕ) → at + length (spell ps []) ≤ end → AreInOrder at end (tokens_in at ps)
in_order at [] end le = omega (arith, le)
in_order at (blank b ∷ ps) end le = later at (at + 1) end (tokens_in (at + 1) ps) (omega arith) (in_order (at + 1) ps end (omega (arith, le)))
in_order at (comment bs ∷ ps) end le = later at (at + (length bs + 1)) end (tokens_in (at + (length bs + 1)) ps) (omega arith) (in_order (at + (length bs + 1)) ps end (omega (arith, le, length-append bs (spell ps []))))
in_order at (word b bs ∷ ps) end le = (omega arith, omega arith, in_order (at + (length bs + 1)) ps end (omega (arith, le, length-append bs (spell ps []))))
in_order at (number d ds ∷ ps) end le = (omega arith, omega arith, in_order (at + (length ds + 1)) ps end (omega (arith, le, length-append ds (spell ps []))))
in_order at (symbol b ∷ ps) end le = (omega arith, omega arith, in_order (at + 1) ps end (omega (arith, le)))

pub ordered : (text : List ℕ) (tokens : List Token) → tokens_of text ≡ Ok tokens → AreInOrder 0 (length text) tokens
ordered text tokens e =
    let P : Result (List Token) TextFault → Type 0 = λ r. Lexes 0 text r in
    let made = subst P e (lexes (length text) 0 text (omega arith)) in
    let Q : List Token → Type 0 = λ x. AreInOrder 0 (length text) x in
    subst Q (sym made.places) (in_order 0 made.pieces (length text) (omega (arith, ap (λ (x : List ℕ). length x) made.spelled)))
