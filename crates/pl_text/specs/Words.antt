-- The reserved words, and names.
use Rattle.std.specs.Prelude.{ℕ, Bool, true, false, ◌&&◌, nat_eq, nat_lt, List, [], ◌∷◌, length, Option, is_none, find, codes}
use Rattle.std.specs.List.{list_all}
use Rattle.std.specs.Cmp.Lexicographic.{pointwise}
use Rattle.pl_text.specs.declared.class.Class.{Class}
use Rattle.pl_text.specs.declared.class.Class.TheVariants as class
use Rattle.pl_text.specs.declared.word.Word.{Word}
use Rattle.pl_text.specs.declared.word.Word.TheVariants as word
use Rattle.pl_text.specs.Bytes.{class_of, is_name_byte}

abbrev pub word_text : Word → List ℕ
word_text word.Horizon = codes "horizon"
word_text word.Lead = codes "lead"
word_text word.Capacity = codes "capacity"
word_text word.Level = codes "level"
word_text word.State = codes "state"
word_text word.Start = codes "start"
word_text word.End = codes "end"
word_text word.Step = codes "step"
word_text word.Any = codes "any"
word_text word.Kind = codes "kind"
word_text word.Param = codes "param"
word_text word.Default = codes "default"
word_text word.Duration = codes "duration"
word_text word.Use = codes "use"
word_text word.Raise = codes "raise"
word_text word.Lower = codes "lower"
word_text word.Set = codes "set"
word_text word.Must = codes "must"
word_text word.At = codes "at"
word_text word.Link = codes "link"
word_text word.Alternative = codes "alternative"
word_text word.Slot = codes "slot"
word_text word.Order = codes "order"
word_text word.Parent = codes "parent"
word_text word.Min = codes "min"
word_text word.Max = codes "max"
word_text word.Begin = codes "begin"

abbrev pub all_words : List Word
all_words = word.Horizon ∷ word.Lead ∷ word.Capacity ∷ word.Level ∷ word.State ∷ word.Start ∷ word.End ∷ word.Step ∷ word.Any ∷ word.Kind ∷ word.Param ∷ word.Default ∷ word.Duration ∷ word.Use ∷ word.Raise ∷ word.Lower ∷ word.Set ∷ word.Must ∷ word.At ∷ word.Link ∷ word.Alternative ∷ word.Slot ∷ word.Order ∷ word.Parent ∷ word.Min ∷ word.Max ∷ word.Begin ∷ []

abbrev pub is_written : List ℕ → Word → Bool
is_written text w = pointwise nat_eq (word_text w) text

-- the reserved word with this text
unfoldable pub word_of : List ℕ → Option Word
word_of text = find (is_written text) all_words

abbrev pub is_letter_class : Class → Bool
is_letter_class class.Letter = true
is_letter_class _ = false

-- a letter and then letters, digits and `_`, at most 32 bytes
abbrev pub is_word : List ℕ → Bool
is_word [] = false
is_word (b ∷ bs) = is_letter_class (class_of b) && (nat_lt (length bs) 32 && list_all is_name_byte bs)

-- and no reserved word
abbrev pub is_name : List ℕ → Bool
is_name text = is_word text && is_none (word_of text)
