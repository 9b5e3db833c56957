-- What the steps of a line reader do.
use Rattle.std.specs.Prelude.{◌≡◌, ℕ, ◌+◌, ◌<◌, ◌≤◌, false, List, [], ◌∷◌, ◌++◌, length, take, drop, min, ⊤, Option, None, Some, Result, Ok, Err}
use Rattle.pl_io.specs.declared.errors.LineFault.{LineFault}
use Rattle.pl_io.specs.declared.errors.LineFault.TheVariants.{Read, Long, Total, Memory}
use Rattle.pl_io.specs.declared.judging.Look.{Look}
use Rattle.pl_io.specs.declared.judging.Look.TheVariants.{Whole, TooLong, PastTotal, Open}
use Rattle.pl_io.specs.Faults.{Rose}
use Rattle.pl_io.specs.Lines.{has_newline, first_line, after_line, lines_of, next_of, given, ended, line_too_long, input_too_long}
use Rattle.pl_io.specs.Reader.{Reader, NumberedLine, GaveLine, FaultShown}
use Rattle.pl_io.specs.Sparing.{shows_next, read_size}

-- a whole line of this many bytes stands at the front, whatever follows
pub record ShowsLine (limit room : ℕ) (held : List ℕ) (len : ℕ) : Type 0 where
  pub newline : len < length held
  pub within : len < room
  pub fits : len ≤ limit
  pub first : len ≡ length (first_line held)
  pub no_newline : has_newline (take len held) ≡ false
  pub next : (more : List ℕ)
      → next_of limit room (held ++ more) ≡ given (take len held) (after_line (held ++ more))
  pub lines : (more : List ℕ)
      → lines_of (held ++ more) ≡ take len held ∷ lines_of (after_line (held ++ more))
  pub after : (more : List ℕ) → after_line (held ++ more) ≡ drop (len + 1) held ++ more

-- no line ends in these bytes and no limit is passed
pub record IsOpen (limit room : ℕ) (held : List ℕ) : Type 0 where
  pub no_newline : has_newline held ≡ false
  pub fits : length held ≤ limit
  pub within : length held ≤ room
  pub shows : shows_next limit room held ≡ false

-- what the held bytes show, whatever follows them
abbrev pub Shows : (limit room : ℕ) (held : List ℕ) → Look → Type 0
Shows limit room held (Whole len) = ShowsLine limit room held len
Shows limit room held TooLong =
    (0 < room) × (next_of limit room held ≡ line_too_long)
    × ((more : List ℕ) → next_of limit room (held ++ more) ≡ line_too_long)
Shows limit room held PastTotal =
    (next_of limit room held ≡ input_too_long)
    × ((more : List ℕ) → next_of limit room (held ++ more) ≡ input_too_long)
Shows limit room held Open = IsOpen limit room held

-- a read or memory failed, and a read only where the count rose
abbrev pub FailsOutside : (before now : ℕ) → LineFault → Type 0
FailsOutside before now Read = Rose before now
FailsOutside before now (Long n) = ⊥
FailsOutside before now Total = ⊥
FailsOutside before now Memory = ⊤

-- the bytes that were ahead are so still, but where memory was wanting
abbrev pub KeepsAhead : (bytes : List ℕ) (after : Option (List ℕ)) → LineFault → Type 0
KeepsAhead bytes after Read = after ≡ Some bytes
KeepsAhead bytes after (Long n) = after ≡ Some bytes
KeepsAhead bytes after Total = after ≡ Some bytes
KeepsAhead bytes after Memory = ⊤

-- a line of this many bytes stands at the front of the held bytes
pub record HoldsLine (reader : Reader) (len : ℕ) : Type 0 where
  pub fits : len ≤ reader.limit
  pub whole : len ≤ length reader.held
  pub some : 0 < min (len + 1) (length reader.held)
  pub within : min (len + 1) (length reader.held) ≤ reader.room
  pub no_newline : has_newline (take len reader.held) ≡ false

-- what is known once a reader has read far enough, whatever the source tells
abbrev pub Settles : (old new : Reader) → Result (Option ℕ) LineFault → Type 0
Settles old new (Ok (Some len)) = HoldsLine new len
Settles old new (Ok None) = (new.held ≡ []) × (old.held ≡ [])
Settles old new (Err fault) = FaultShown old new fault

-- the same of the bytes that were ahead
abbrev pub Reaches : (old new : Reader) (bytes : List ℕ) (after : Option (List ℕ))
    → Result (Option ℕ) LineFault → Type 0
Reaches old new bytes after (Ok (Some len)) =
    (next_of old.limit old.room bytes ≡ given (take len new.held) (after_line bytes))
    × (lines_of bytes ≡ take len new.held ∷ lines_of (after_line bytes))
    × (after ≡ Some bytes)
    × ((more : List ℕ) → bytes ≡ new.held ++ more
    → after_line bytes ≡ drop (len + 1) new.held ++ more)
Reaches old new bytes after (Ok None) = (next_of old.limit old.room bytes ≡ ended) × (after ≡ Some [])
Reaches old new bytes after (Err (Long n)) =
    (next_of old.limit old.room bytes ≡ line_too_long) × (n ≡ old.number + 1) × (after ≡ Some bytes)
Reaches old new bytes after (Err Total) = (next_of old.limit old.room bytes ≡ input_too_long) × (after ≡ Some bytes)
Reaches old new bytes after (Err Read) = after ≡ Some bytes
Reaches old new bytes after (Err Memory) = ⊤

-- the length of a last line, where there is one
abbrev pub last_of : List ℕ → Option ℕ
last_of [] = None
last_of (byte ∷ bytes) = Some (length (byte ∷ bytes))

-- what a step does to a reader that has not failed; a fault is not kept yet
abbrev pub Advances : (old new : Reader) → Result (Option NumberedLine) LineFault → Type 0
Advances old new (Ok (Some line)) = GaveLine old new line
Advances old new (Ok None) = (new ≡ old) × (old.held ≡ [])
Advances old new (Err fault) = (new ≡ record old { held = new.held }) × FaultShown old new fault

-- Once a reader has read far enough, the bytes that it holds behind the line are fewer than one read asks for.
abbrev pub ReachesSparing : (limit : ℕ) (held : List ℕ) → Result (Option ℕ) LineFault → Type 0
ReachesSparing limit held (Ok (Some len)) = length held ≤ len + read_size
ReachesSparing limit held (Ok None) = held ≡ []
ReachesSparing limit held (Err fault) = length held ≤ limit + read_size
