-- What the sources and sinks over memory are seen as, and what their calls do.
use Rattle.std.specs.Prelude.{ℕ, ◌+◌, ◌-◌, ◌^◌, Bool, ◌==◌, ◌||◌, List, ◌++◌, length, take, drop, min, Result, Ok, Err, if◌then◌else◌}
use Rattle.std.specs.List.{list_any}
use Rattle.pl_io.specs.declared.errors.Failed.{Failed}

-- one more, up to the type's end
abbrev pub one_more : ℕ → ℕ
one_more count = min (count + 1) (2 ^ 64 - 1)

-- A source over memory: the bytes that are left, the calls so far, the numbers of those that fail, and the faults so far.
pub record MemoryInput : Type 0 where
  pub left : List ℕ
  pub failing : List ℕ
  pub calls : ℕ
  pub faults : ℕ

-- A sink over memory: the bytes that it holds, how many more it takes, and the rest as above.
pub record MemoryOutput : Type 0 where
  pub held : List ℕ
  pub room : ℕ
  pub failing : List ℕ
  pub calls : ℕ
  pub faults : ℕ

-- whether the call after these is one of those that fail
abbrev pub fails_next : List ℕ → ℕ → Bool
fails_next failing calls = list_any (λ number. number == one_more calls) failing

-- what a read into a buffer of this size answers
abbrev pub read_answer : MemoryInput → ℕ → Result ℕ Failed
read_answer input size =
    if fails_next input.failing input.calls then Err (record {}) else Ok (min size (length input.left))

-- what the buffer holds then
abbrev pub buffer_after_read : MemoryInput → List ℕ → List ℕ
buffer_after_read input buffer =
    if fails_next input.failing input.calls then buffer
    else take (length buffer) input.left ++ drop (length input.left) buffer

-- what the source is then
abbrev pub after_read : MemoryInput → ℕ → MemoryInput
after_read input size =
    if fails_next input.failing input.calls
    then record input { calls = one_more input.calls; faults = one_more input.faults }
    else record input { calls = one_more input.calls; left = drop size input.left }

-- whether a write fails: by its number, or since there is no room
abbrev pub write_fails : MemoryOutput → Bool
write_fails output = (output.room == 0) || fails_next output.failing output.calls

-- what a write of a piece answers
abbrev pub write_answer : MemoryOutput → List ℕ → Result ℕ Failed
write_answer output piece =
    if write_fails output then Err (record {}) else Ok (min (length piece) output.room)

-- what the sink is then
abbrev pub after_write : MemoryOutput → List ℕ → MemoryOutput
after_write output piece =
    if write_fails output
    then record output { calls = one_more output.calls; faults = one_more output.faults }
    else record output {
      calls = one_more output.calls;
      held = output.held ++ take output.room piece;
      room = output.room - length piece;
    }
