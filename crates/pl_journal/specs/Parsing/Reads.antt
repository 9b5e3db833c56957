-- What is read of a line, or that it is none.
use Rattle.std.specs.Prelude.{◌≡◌, Bool, true, false, Result, Ok, Err}
use Rattle.pl_lists.specs.Judgements as judged
use Rattle.pl_journal.specs.declared.parsing.fault.EntryFault.{EntryFault}
use Rattle.pl_journal.specs.declared.parsing.fault.EntryFault.TheVariants as fault

abbrev pub Read : Type 0 → Type 0
Read X = Result X EntryFault

-- the one fault that is not the line's
abbrev pub is_memory : EntryFault → Bool
is_memory fault.Memory = true
is_memory fault.NotALine = false

-- A call gave what is meant, or ran out of memory.
abbrev pub Fails : {X : Type 0} → EntryFault → Read X → Type 0
Fails e meant = judged.Fails is_memory e meant

abbrev pub Gives : {X : Type 0} → Read X → Read X → Type 0
Gives result meant = judged.Gives is_memory result meant

-- a reader that takes no memory gave what is meant, of what a value shows
abbrev pub Sees : {X Y : Type 0} → (X → Y) → Read X → Read Y → Type 0
Sees view (Ok x) meant = meant ≡ Ok (view x)
Sees view (Err e) meant = meant ≡ Err e
