-- The lines of an input that are not blank, one by one.
use Rattle.std.specs.Prelude.{◌≡◌, ℕ, ◌<◌, ◌≤◌, List, [], ◌∷◌, ◌++◌, length, false, Option, Some, None, Result, Ok, Err}
use Rattle.pl_io.specs.declared.errors.LineFault.{LineFault}
use Rattle.pl_io.specs.Lines.{has_newline}
use Rattle.pl_io.specs.Reader.{Reader, NumberedLine}
use Rattle.pl_input.specs.Words.{is_blank_line}
use Rattle.pl_input.specs.Reads.{ReadsLines, Halts, IsUsedUp, AreBlank}

-- Blank lines so far.
pub record Skips (old : Reader) (before : Option (List ℕ)) (new : Reader) (after : Option (List ℕ)) : Type 0 where
  pub lines : List (List ℕ)
  pub took : ReadsLines old before lines new after
  pub blank : AreBlank lines
  pub room : new.room ≤ old.room

-- Blank lines, and then one that is not.
pub record GetsMessage (old : Reader) (before : Option (List ℕ)) (line : List ℕ) (new : Reader) (after : Option (List ℕ)) : Type 0 where
  pub lines : List (List ℕ)
  pub took : ReadsLines old before (lines ++ line ∷ []) new after
  pub blank : AreBlank lines
  pub message : is_blank_line line ≡ false
  pub less : new.room < old.room
  pub fits : length line ≤ old.limit
  pub no_newline : has_newline line ≡ false

-- Blank lines up to the end.
pub record GetsEnd (old : Reader) (before : Option (List ℕ)) (new : Reader) (after : Option (List ℕ)) : Type 0 where
  pub lines : List (List ℕ)
  pub took : ReadsLines old before lines new after
  pub blank : AreBlank lines
  pub used_up : IsUsedUp before after

-- Blank lines, and then a line that is not given.
pub record GetsFault (old : Reader) (before : Option (List ℕ)) (f : LineFault) (new : Reader) (after : Option (List ℕ)) : Type 0 where
  pub lines : List (List ℕ)
  pub halts : Halts old before lines f new after
  pub blank : AreBlank lines

abbrev pub MessageGives : Reader → Option (List ℕ) → Result (Option NumberedLine) LineFault → Reader → Option (List ℕ) → Type 0
MessageGives old before (Ok (Some line)) new after = GetsMessage old before line.bytes new after
MessageGives old before (Ok None) new after = GetsEnd old before new after
MessageGives old before (Err f) new after = GetsFault old before f new after

-- a message, or none at the end of the input
abbrev pub line_in : Option NumberedLine → Option (List ℕ)
line_in None = None
line_in (Some line) = Some line.bytes
