use Rattle.std.proofs.Common.{◌≡◌, ◌≤◌, ◌+◌, ◌*◌, ◌++◌, length, drop}
use Rattle.pl_stn.specs.Nets.{IsWellFormed}
use Rattle.pl_check.specs.Networks.{slots_edges}
use Rattle.pl_check.proofs.networks.add_slots.Given as goal

-- the rest gives the whole
abbrev pub invariant-loop-slot : goal.invariant-loop-slot
invariant-loop-slot l = record {
  well_formed : IsWellFormed l.net;
  points : l.net.points ≡ l.initial.net.points;
  start : l.start ≡ 2 * l.slot-index + 2;
  room : length l.net.edges ≤ length l.initial.net.edges + 2 * l.slot-index;
  rest : l.net.edges ++ slots_edges l.spans l.start (drop l.slot-index l.slots) ≡ l.initial.net.edges ++ slots_edges l.spans 2 l.slots;
}
