-- What a text begins with: words, each behind one blank. A reader gives what it read and the text behind it. Readers are lenient where it does not matter:
-- a line is compared with that of its entry before it is taken.
use Rattle.std.specs.Prelude.{ℕ, ◌+◌, ◌-◌, ◌*◌, pos, ℤ, nat_le, nat_lt, ◌==◌, not, List, [], ◌∷◌, take, drop, if◌then◌else◌, bytes_eq, Ok, Err}
use Rattle.std.specs.List.{prefix_len}
use Rattle.pl_lists.specs.Judgements.{◌>>=◌}
use Rattle.pl_text.specs.Bytes.{is_digit}
use Rattle.pl_journal.specs.declared.parsing.fault.EntryFault.TheVariants as fault
use Rattle.pl_journal.specs.Parsing.Reads.{Read}

-- ---- up to a byte

-- how many bytes stand before the first such byte
abbrev pub len_before : ℕ → List ℕ → ℕ
len_before stop text = prefix_len (λ byte. not (byte == stop)) text

abbrev pub before : ℕ → List ℕ → List ℕ
before stop text = take (len_before stop text) text

-- from that byte on
abbrev pub rest_from : ℕ → List ℕ → List ℕ
rest_from stop text = drop (len_before stop text) text

-- ---- words

abbrev pub cut_word : ℕ → List ℕ → Read (List ℕ × List ℕ)
cut_word byte text = if byte == 32 then Ok (before 32 text, rest_from 32 text) else Err fault.NotALine

-- the word behind the blank that the text begins with
abbrev pub word_in : List ℕ → Read (List ℕ × List ℕ)
word_in [] = Err fault.NotALine
word_in (byte ∷ text) = cut_word byte text

-- behind this word
abbrev pub said_in : List ℕ → List ℕ → Read (List ℕ)
said_in word text = word_in text >>= λ w. if bytes_eq w.0 word then Ok w.1 else Err fault.NotALine

-- ---- numbers

-- where it is below 2 ^ 32
abbrev pub word_or_none : ℕ → Read ℕ
word_or_none n = if nat_lt n 4294967296 then Ok n else Err fault.NotALine

-- the number with one more digit
abbrev pub with_digit : ℕ → ℕ → Read ℕ
with_digit n byte = if is_digit byte then word_or_none (n * 10 + (byte - 48)) else Err fault.NotALine

abbrev pub count_from : ℕ → List ℕ → Read ℕ
count_from n [] = Ok n
count_from n (byte ∷ digits) = with_digit n byte >>= λ more. count_from more digits

-- the number that the digits are of
unfoldable pub count_of : List ℕ → Read ℕ
count_of digits = count_from 0 digits

abbrev pub count_in : List ℕ → Read (ℕ × List ℕ)
count_in text = word_in text >>= λ w. count_of w.0 >>= λ n. Ok (n, w.1)

-- a number behind this word
abbrev pub labelled_in : List ℕ → List ℕ → Read (ℕ × List ℕ)
labelled_in label text = said_in label text >>= λ rest. count_in rest

-- a value from 0 to 1,000,000,000
abbrev pub amount_of : List ℕ → Read ℤ
amount_of digits = count_of digits >>= λ n. if nat_le n 1000000000 then Ok (pos n) else Err fault.NotALine

abbrev pub amount_in : List ℕ → Read (ℤ × List ℕ)
amount_in text = word_in text >>= λ w. amount_of w.0 >>= λ value. Ok (value, w.1)
