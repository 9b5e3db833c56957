-- the ids so far, and room for the others
use Rattle.std.proofs.Common.{◌≡◌, ◌≤◌, ◌+◌, ◌-◌, ◌++◌, length, take, map}
use Rattle.std.specs.Prelude.{vec_len, vec_capacity}
use Rattle.pl_machine.proofs.sorting.push_ids.Given as goal

abbrev pub invariant-loop-id : goal.invariant-loop-id
invariant-loop-id l = record {
  so_far : l.ids.items ≡ l.initial.ids.items ++ map (λ s. s.1) (take l.id-index l.starts);
  room : vec_len l.ids + (length l.starts - l.id-index) ≤ vec_capacity l.ids;
}
