-- What a line reader gave of some bytes.
use Rattle.std.specs.Prelude.{◌≡◌, ℕ, ◌+◌, ◌<◌, ◌≤◌, List, [], ◌∷◌, length, true, false, Option, Some, None, IfSome, Result, Ok, Err, ⊤}
use Rattle.pl_io.specs.declared.errors.LineFault.{LineFault}
use Rattle.pl_io.specs.declared.errors.LineFault.TheVariants as fault
use Rattle.pl_io.specs.Lines.{has_newline, after_line, next_of, given, line_too_long, input_too_long}
use Rattle.pl_io.specs.Reader.{Reader, NumberedLine, FaultShown}
use Rattle.pl_io.specs.Sparing.{read_size}
use Rattle.pl_input.specs.Words.{is_blank_line}

-- One line, within this many bytes, and the room that it leaves.
pub record GivesLine (limit room : ℕ) (bytes line : List ℕ) (left : ℕ) : Type 0 where
  pub next : next_of limit room bytes ≡ given line (after_line bytes)
  pub leaves : left + length bytes ≡ room + length (after_line bytes)

-- these lines one after another, with this room and these bytes behind them
abbrev pub GivesLines : (limit room : ℕ) → List ℕ → List (List ℕ) → ℕ → List ℕ → Type 0
GivesLines limit room bytes [] left rest = (left ≡ room) × (rest ≡ bytes)
GivesLines limit room bytes (line ∷ lines) left rest = (mid : ℕ) × GivesLine limit room bytes line mid × GivesLines limit mid (after_line bytes) lines left rest

-- where the bytes are known, the reader gave these lines of them
abbrev pub GivesLinesKnown : (limit room : ℕ) → Option (List ℕ) → List (List ℕ) → ℕ → Option (List ℕ) → Type 0
GivesLinesKnown limit room None lines left after = ⊤
GivesLinesKnown limit room (Some bytes) lines left None = ⊥
GivesLinesKnown limit room (Some bytes) lines left (Some rest) = GivesLines limit room bytes lines left rest

-- The reader gave these lines, at its own limits, counted them, and works on. It holds fewer bytes than one read asks for, if it did before.
pub record ReadsLines (old : Reader) (before : Option (List ℕ)) (lines : List (List ℕ)) (new : Reader) (after : Option (List ℕ)) : Type 0 where
  pub limit : new.limit ≡ old.limit
  pub working : new.failed ≡ None
  pub number : new.number ≡ old.number + length lines
  pub few : length old.held < read_size → length new.held < read_size
  pub gave : GivesLinesKnown old.limit old.room before lines new.room after

-- why a line is not given
abbrev pub Why : (limit room : ℕ) → List ℕ → LineFault → Type 0
Why limit room rest fault.Read = ⊤
Why limit room rest (fault.Long n) = next_of limit room rest ≡ line_too_long
Why limit room rest fault.Total = next_of limit room rest ≡ input_too_long
Why limit room rest fault.Memory = ⊤

abbrev pub WhyKnown : (limit room : ℕ) → Option (List ℕ) → LineFault → Type 0
WhyKnown limit room None f = ⊤
WhyKnown limit room (Some rest) f = Why limit room rest f

-- What a fault leaves, behind these lines and before these bytes. The reader answers it from now on. A line that is too
-- long is told by its number. Also where the source tells nothing, the bytes that were read and not given pass the limit, or
-- show no further line where a read failed. They are at most a line within the limit and one read, if the reader held fewer bytes
-- than one read asks for. No byte is lost: they stand before those that the source has left.
pub record StopsAt (old : Reader) (lines : List (List ℕ)) (left : ℕ) (rest : Option (List ℕ)) (f : LineFault) (new : Reader) (after : Option (List ℕ)) : Type 0 where
  pub failed : new.failed ≡ Some f
  pub limit : new.limit ≡ old.limit
  pub room : new.room ≡ left
  pub number : new.number ≡ old.number + length lines
  pub shown : FaultShown new new f
  pub few : length old.held < read_size → length new.held ≤ old.limit + read_size
  pub kept : IfSome rest (λ bytes. after ≡ Some bytes)

-- The reader gave these lines and stopped at the next by this fault. Memory may also have been wanting for a line that was
-- given, and then nothing is said of the reader.
pub record Halts (old : Reader) (before : Option (List ℕ)) (lines : List (List ℕ)) (f : LineFault) (new : Reader) (after : Option (List ℕ)) : Type 0 where
  pub left : ℕ
  pub rest : Option (List ℕ)
  pub gave : GivesLinesKnown old.limit old.room before lines left rest
  pub why : WhyKnown old.limit left rest f
  pub stops : (f ≡ fault.Memory → ⊥) → StopsAt old lines left rest f new after

abbrev pub AreBlank : List (List ℕ) → Type 0
AreBlank [] = ⊤
AreBlank (line ∷ lines) = (is_blank_line line ≡ true) × AreBlank lines

-- where the bytes were known, they are used up
abbrev pub IsUsedUp : Option (List ℕ) → Option (List ℕ) → Type 0
IsUsedUp None after = ⊤
IsUsedUp (Some bytes) after = after ≡ Some []

-- A line was given, and is told by its number.
pub record GotLine (old : Reader) (before : Option (List ℕ)) (line : NumberedLine) (new : Reader) (after : Option (List ℕ)) : Type 0 where
  pub took : ReadsLines old before (line.bytes ∷ []) new after
  pub numbered : line.number ≡ new.number
  pub less : new.room < old.room
  pub fits : length line.bytes ≤ old.limit
  pub no_newline : has_newline line.bytes ≡ false

-- what one call of a working reader does
abbrev pub OneLine : Reader → Option (List ℕ) → Result (Option NumberedLine) LineFault → Reader → Option (List ℕ) → Type 0
OneLine old before (Ok (Some line)) new after = GotLine old before line new after
OneLine old before (Ok None) new after = ReadsLines old before [] new after × IsUsedUp before after
OneLine old before (Err f) new after = Halts old before [] f new after
