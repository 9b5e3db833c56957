-- the ids that are there, and those to come
use Rattle.std.proofs.Common.{◌≡◌, ◌++◌, map}
use Rattle.pl_entry.proofs.sending.ids_in.Given as goal

abbrev pub invariant-loop-id : goal.invariant-loop-id
invariant-loop-id l = l.ids.items ++ map (λ s. s.1) l.id-iterator ≡ map (λ s. s.1) l.starts.keys
