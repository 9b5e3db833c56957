-- the keys that are left give the whole
use Rattle.std.proofs.Common.{drop}
use Rattle.pl_state.specs.Near.{IsBegun}
use Rattle.pl_state.specs.Present.{group_at}
use Rattle.pl_state.proofs.groups.renewed.Given as goal

abbrev pub invariant-loop-key : goal.invariant-loop-key
invariant-loop-key l = IsBegun (group_at l.present l.sets) l.musts l.broken (drop l.key-index l.keys) l.renewal.begin l.renewal.passed l.renewal.taken l.renewal.fresh.items l.renewal.went l.renewal.came
