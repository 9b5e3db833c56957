-- The lines of bytes, and what a reader with limits finds next.
use Rattle.std.specs.Prelude.{ℕ, ◌==◌, Bool, ◌&&◌, not, nat_lt, List, [], ◌∷◌, ◌++◌, length, take, Option, if◌then◌else◌}
use Rattle.std.specs.List.{list_any, onto_first}
use Rattle.std.specs.Io.KnownBytes.{prepend_known}

-- whether a newline stands in the bytes
abbrev pub has_newline : List ℕ → Bool
has_newline bytes = list_any (λ byte. byte == 10) bytes

-- the bytes before the first newline, all where there is none
abbrev pub first_line : List ℕ → List ℕ
first_line [] = []
first_line (byte ∷ bytes) = if byte == 10 then [] else byte ∷ first_line bytes

-- what stands behind that line and its newline
abbrev pub after_line : List ℕ → List ℕ
after_line [] = []
after_line (byte ∷ bytes) = if byte == 10 then bytes else after_line bytes

-- The lines. The last one may have no newline. What stands behind the last newline is a line only if it isn't empty.
abbrev pub lines_of : List ℕ → List (List ℕ)
lines_of [] = []
lines_of (byte ∷ bytes) = if byte == 10 then [] ∷ lines_of bytes else onto_first byte (lines_of bytes)

-- what a reader finds: a line and the rest behind it, the end, or a limit that was passed
pub data Next : Type 0 where
  given : (line rest : List ℕ) → Next
  ended : Next
  line_too_long : Next
  input_too_long : Next

-- The same, judged by all the bytes and by the first of them, which the total limit lets in.
abbrev pub judged : (limit room : ℕ) (bytes seen : List ℕ) → Next
judged limit room bytes seen =
    if nat_lt limit (length (first_line seen)) then line_too_long
    else if nat_lt room (length bytes) && not (has_newline seen) then input_too_long
    else given (first_line bytes) (after_line bytes)

-- What is next where these bytes are ahead, a line has at most `limit` bytes and the total limit lets in `room` more.
-- A line is too long where more than `limit` bytes of it stand among the first `room`. Else the input is too long
-- where it has more than `room` bytes and the line doesn't end, with its newline, within them.
unfoldable pub next_of : (limit room : ℕ) → List ℕ → Next
next_of limit room [] = ended
next_of limit room (byte ∷ bytes) = judged limit room (byte ∷ bytes) (take room (byte ∷ bytes))

-- the bytes that a reader holds in front of those that its source has left, where the source tells them
abbrev pub ahead : List ℕ → Option (List ℕ) → Option (List ℕ)
ahead held left = prepend_known held left

-- a line with its newline
abbrev pub with_newline : List ℕ → List ℕ
with_newline line = line ++ 10 ∷ []

-- the newline that is missing at the end of the bytes, where they are some and don't end with one
abbrev pub missing_newline : List ℕ → List ℕ
missing_newline [] = []
missing_newline (byte ∷ []) = if byte == 10 then [] else 10 ∷ []
missing_newline (byte ∷ next ∷ bytes) = missing_newline (next ∷ bytes)
