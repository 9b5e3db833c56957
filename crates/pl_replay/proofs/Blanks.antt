-- Lines that are to be entries, among blank ones.
use Rattle.std.proofs.Common.{◌≡◌, ℕ, List, [], ◌∷◌, ◌++◌, true, false, not, refl, ◌∙◌, ap}
use Rattle.std.proofs.lemmas.List.Elements.{filter-append}
use Rattle.pl_input.specs.Words.{is_blank_line}
use Rattle.pl_input.specs.Reads.{AreBlank}
use Rattle.pl_replay.specs.Journals.{entry_lines}

pub entries_append : (xs ys : List (List ℕ)) → entry_lines (xs ++ ys) ≡ entry_lines xs ++ entry_lines ys
entries_append xs ys = filter-append (λ line. not (is_blank_line line)) xs ys

blank_first : (line : List ℕ) (lines : List (List ℕ)) → is_blank_line line ≡ true → entry_lines (line ∷ lines) ≡ entry_lines lines
blank_first line lines blank = rw blank refl

pub no_entries : (lines : List (List ℕ)) → AreBlank lines → entry_lines lines ≡ []
no_entries [] all = refl
no_entries (line ∷ lines) all = blank_first line lines all.0 ∙ no_entries lines all.1

other_one : (line : List ℕ) → is_blank_line line ≡ false → entry_lines (line ∷ []) ≡ line ∷ []
other_one line other = rw other refl

pub one_entry : (blanks : List (List ℕ)) (line : List ℕ) → AreBlank blanks → is_blank_line line ≡ false → entry_lines (blanks ++ line ∷ []) ≡ line ∷ []
one_entry blanks line all other = entries_append blanks (line ∷ []) ∙ (ap (λ (ls : List (List ℕ)). ls ++ entry_lines (line ∷ [])) (no_entries blanks all) ∙ other_one line other)
