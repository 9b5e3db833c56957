-- How a run stops by a fault of its reader.
use Rattle.std.specs.Prelude.{◌≡◌, ℕ, ◌+◌, ◌≤◌, List, length, false, Option, Some, None, IfSome, ◌⊎◌, ⊤}
use Rattle.pl_io.specs.declared.errors.LineFault.{LineFault}
use Rattle.pl_io.specs.declared.errors.LineFault.TheVariants as fault
use Rattle.pl_io.specs.Lines.{next_of, line_too_long, input_too_long}
use Rattle.pl_io.specs.Sparing.{shows_next, read_size}
use Rattle.pl_input.specs.declared.halt.Halt.{Halt}
use Rattle.pl_input.specs.declared.halt.Halt.TheVariants as halt

-- a fault of the source, a line or an input that is too long, want of memory
abbrev pub HaltFor : LineFault → Halt → Type 0
HaltFor fault.Read h = h ≡ halt.Read
HaltFor (fault.Long n) h = h ≡ halt.Limit
HaltFor fault.Total h = h ≡ halt.Limit
HaltFor fault.Memory h = h ≡ halt.Memory

-- the next line, or the input, is too long
abbrev pub IsStuck : (limit room : ℕ) → List ℕ → Type 0
IsStuck limit room rest = (next_of limit room rest ≡ line_too_long) ⊎ (next_of limit room rest ≡ input_too_long)

-- where the bytes are known
abbrev pub IsStuckKnown : (limit room : ℕ) → Option (List ℕ) → Type 0
IsStuckKnown limit room None = ⊤
IsStuckKnown limit room (Some rest) = IsStuck limit room rest

-- What a failed read leaves, before these bytes: those that were read and not given show no further line, and none is lost.
pub record ReadLeaves (limit room : ℕ) (rest : Option (List ℕ)) (held : List ℕ) (after : Option (List ℕ)) : Type 0 where
  pub shows : shows_next limit room held ≡ false
  pub kept : IfSome rest (λ bytes. after ≡ Some bytes)

-- What a fault of length leaves, before these bytes: those that were read and not given pass a limit, and are at most a line
-- within the limit and one read. None is lost.
pub record LimitLeaves (limit room : ℕ) (rest : Option (List ℕ)) (held : List ℕ) (after : Option (List ℕ)) : Type 0 where
  pub shows : IsStuck limit room held
  pub few : length held ≤ limit + read_size
  pub kept : IfSome rest (λ bytes. after ≡ Some bytes)

-- why no line is given behind those that were
abbrev pub StopsBy : Halt → (limit room : ℕ) → Option (List ℕ) → Type 0
StopsBy halt.Limit limit room rest = IsStuckKnown limit room rest
StopsBy halt.Read limit room rest = ⊤
StopsBy halt.Write limit room rest = ⊤
StopsBy halt.Full limit room rest = ⊤
StopsBy halt.Memory limit room rest = ⊤
