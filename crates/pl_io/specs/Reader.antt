-- What a line reader is seen as, and what its call does.
use Rattle.std.specs.Prelude.{◌≡◌, ℕ, ◌+◌, ◌<◌, ◌≤◌, false, List, [], ◌∷◌, length, ⊤, Option, None, Some, Result, Ok, Err}
use Rattle.pl_io.specs.declared.errors.LineFault.{LineFault}
use Rattle.pl_io.specs.declared.errors.LineFault.TheVariants.{Read, Long, Total, Memory}
use Rattle.pl_io.specs.Lines.{has_newline, after_line, lines_of, next_of, given, ended, line_too_long, input_too_long}
use Rattle.pl_io.specs.Sparing.{shows_next}

-- The bytes that were read and not given, the most bytes of a line, how many more bytes the total limit lets in,
-- the lines given so far, and the fault that stopped the reader.
pub record Reader : Type 0 where
  pub held : List ℕ
  pub limit : ℕ
  pub room : ℕ
  pub number : ℕ
  pub failed : Option LineFault

-- a line without its newline, and its number
pub record NumberedLine : Type 0 where
  pub number : ℕ
  pub bytes : List ℕ

-- The reader gave this line. Its bytes, and its newline where it had one, are taken from the room.
pub record GaveLine (old new : Reader) (line : NumberedLine) : Type 0 where
  pub working : old.failed ≡ None
  pub still_working : new.failed ≡ None
  pub limit : new.limit ≡ old.limit
  pub line_number : line.number ≡ old.number + 1
  pub number : new.number ≡ old.number + 1
  pub fits : length line.bytes ≤ old.limit
  pub no_newline : has_newline line.bytes ≡ false
  pub less : new.room < old.room
  pub room : new.room + length line.bytes ≤ old.room

-- Also where the source tells nothing: a limit was passed by the bytes that were read and not given, or a read failed and
-- these bytes show nothing.
abbrev pub FaultShown : (old new : Reader) → LineFault → Type 0
FaultShown old new (Long n) = (next_of old.limit old.room new.held ≡ line_too_long) × (n ≡ old.number + 1)
FaultShown old new Total = next_of old.limit old.room new.held ≡ input_too_long
FaultShown old new Read = shows_next old.limit old.room new.held ≡ false
FaultShown old new Memory = ⊤

-- The reader stopped with this fault, now or before.
pub record Stopped (old new : Reader) (fault : LineFault) : Type 0 where
  pub failed : new.failed ≡ Some fault
  pub limit : new.limit ≡ old.limit
  pub room : new.room ≡ old.room
  pub number : new.number ≡ old.number
  pub shown : old.failed ≡ None → FaultShown old new fault

-- what a call does to the reader, whatever the source tells
abbrev pub Moves : (old new : Reader) → Result (Option NumberedLine) LineFault → Type 0
Moves old new (Ok (Some line)) = GaveLine old new line
Moves old new (Ok None) = (new ≡ old) × (old.failed ≡ None) × (old.held ≡ [])
Moves old new (Err fault) = Stopped old new fault

-- The line is the first of these bytes, and what stands behind it is ahead now.
pub record IsNextLine (old new : Reader) (bytes : List ℕ) (after : Option (List ℕ))
    (line : NumberedLine) : Type 0 where
  pub next : next_of old.limit old.room bytes ≡ given line.bytes (after_line bytes)
  pub lines : lines_of bytes ≡ line.bytes ∷ lines_of (after_line bytes)
  pub rest : after ≡ Some (after_line bytes)
  pub room : new.room + length bytes ≡ old.room + length (after_line bytes)

-- What the answer says of the bytes that were ahead, `after` being those that are ahead now. No fault but want of memory loses
-- one of them.
abbrev pub Answers : (old new : Reader) (bytes : List ℕ) (after : Option (List ℕ))
    → Result (Option NumberedLine) LineFault → Type 0
Answers old new bytes after (Ok (Some line)) = IsNextLine old new bytes after line
Answers old new bytes after (Ok None) = (next_of old.limit old.room bytes ≡ ended) × (after ≡ Some [])
Answers old new bytes after (Err (Long n)) =
    (next_of old.limit old.room bytes ≡ line_too_long) × (n ≡ old.number + 1) × (after ≡ Some bytes)
Answers old new bytes after (Err Total) = (next_of old.limit old.room bytes ≡ input_too_long) × (after ≡ Some bytes)
Answers old new bytes after (Err Read) = after ≡ Some bytes
Answers old new bytes after (Err Memory) = ⊤

-- the reader has failed before, and the answer is the same fault
pub record Repeats {S : Type 0} (old new : Reader) (source_before source_now : S)
    (result : Result (Option NumberedLine) LineFault) (fault : LineFault) : Type 0 where
  pub answer : result ≡ Err fault
  pub reader : new ≡ old
  pub source : source_now ≡ source_before
