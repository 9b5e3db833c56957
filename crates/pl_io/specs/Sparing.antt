-- When a reader reads, and how many bytes it holds then.
use Rattle.std.specs.Prelude.{ℕ, ◌+◌, ◌<◌, ◌≤◌, nat_lt, Bool, ◌||◌, List, length, take, Result, Ok, Err}
use Rattle.pl_io.specs.declared.errors.LineFault.{LineFault}
use Rattle.pl_io.specs.Lines.{has_newline, first_line}

-- Whether bytes at the front of an input show what is next, whatever follows them: among the first `room` of them the
-- line ends or passes the limit, or they are more than `room`.
abbrev pub shows_next : (limit room : ℕ) → List ℕ → Bool
shows_next limit room held =
    has_newline (take room held)
    || nat_lt limit (length (first_line (take room held)))
    || nat_lt room (length held)

-- how many bytes one read asks for
abbrev pub read_size : ℕ
read_size = 4096

-- The bytes that a reader holds behind its answer are fewer than one read asks for. Behind a fault they are at most a
-- line within the limit and one read.
abbrev pub IsSparing : {T : Type 0} → (limit : ℕ) (held : List ℕ) → Result T LineFault → Type 0
IsSparing limit held (Ok answer) = length held < read_size
IsSparing limit held (Err fault) = length held ≤ limit + read_size
