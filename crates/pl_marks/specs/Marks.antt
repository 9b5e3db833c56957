-- Marks, as a function of who made the entries.
use Rattle.std.specs.Prelude.{◌≡◌, ℕ, ◌+◌, ◌<◌, ◌^◌, List, [], ◌∷◌, ◌++◌, length, map, take, get_or, filter}
use Rattle.std.specs.List.{All}
use Rattle.pl_marks.specs.declared.author.Author.{Author}
use Rattle.pl_marks.specs.declared.mark.Mark.{Mark}
use Rattle.pl_marks.specs.Authors.{IsAuthor, slot_of, is_same, times}

-- How many entries were handed in, and who made each entry behind them.
pub record Signed : Type 0 where
  pub opening : ℕ
  pub authors : List Author

-- the marks of the entries from a place on; `earlier` made those before
abbrev pub marks_from : ℕ → List Author → List Author → List Mark
marks_from place earlier [] = []
marks_from place earlier (a ∷ authors) = record { entry = place; author = a; count = times a earlier + 1 } ∷ marks_from (place + 1) (earlier ++ a ∷ []) authors

-- a mark for each further entry
abbrev pub marks_of : Signed → List Mark
marks_of s = marks_from s.opening [] s.authors

-- the mark of the k-th further entry, which this author made
abbrev pub mark_of : Signed → ℕ → Author → Mark
mark_of s k a = record { entry = s.opening + k; author = a; count = times a (take k s.authors) + 1 }

-- the counts of one author's marks
abbrev pub counts_of : Author → List Mark → List ℕ
counts_of a marks = map (λ m. m.count) (filter (λ m. is_same a m.author) marks)

-- ---- how marks are kept

abbrev pub signed_by : ℕ → List Mark → Signed
signed_by opening marks = record { opening = opening; authors = map (λ m. m.author) marks }

-- one more entry has a number, and a count
abbrev pub AreFew : Signed → Type 0
AreFew s = s.opening + length s.authors + 1 < 2 ^ 32

-- the marks are those of their authors, with the number of each one's entries beside them
pub record AreCounted (opening : ℕ) (marks : List Mark) (counts : List ℕ) : Type 0 where
  pub are : marks ≡ marks_of (signed_by opening marks)
  pub known : All (λ m. IsAuthor m.author) marks
  pub long : length counts ≡ 10
  pub counted : (a : Author) → IsAuthor a → get_or counts (slot_of a) 0 ≡ times a (map (λ m. m.author) marks)
