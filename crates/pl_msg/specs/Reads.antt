-- What is read of a line, or the fault that it has.
use Rattle.std.specs.Prelude.{Bool, true, false, Result}
use Rattle.pl_lists.specs.Judgements as judged
use Rattle.pl_msg.specs.declared.fault.ParseFault.{ParseFault}
use Rattle.pl_msg.specs.declared.fault.ParseFault.TheVariants as fault

abbrev pub Read : Type 0 → Type 0
Read X = Result X ParseFault

-- the one fault that is not the line's
abbrev pub is_memory : ParseFault → Bool
is_memory fault.Memory = true
is_memory e = false

-- An error is the fault that is meant, or want of memory.
abbrev pub Fails : {X : Type 0} → ParseFault → Read X → Type 0
Fails e meant = judged.Fails is_memory e meant

-- A call gave what is meant, or ran out of memory.
abbrev pub Gives : {X : Type 0} → Read X → Read X → Type 0
Gives result meant = judged.Gives is_memory result meant

-- the same, of what a value shows
abbrev pub Shows : {X Y : Type 0} → (X → Y) → Read X → Read Y → Type 0
Shows view result meant = judged.Shows is_memory view result meant
