use Rattle.std.proofs.Common.{◌≡◌, [], map, take, drop}
use Rattle.pl_check.specs.Names.{distinct}
use Rattle.pl_check.proofs.repeats.distinct.Given as goal

-- the rest gives the whole
abbrev pub invariant-loop-item : goal.invariant-loop-item
invariant-loop-item g l = record {
  named : l.names ≡ map g.T.Named.name (take l.item-index l.items);
  rest : distinct g.T.Named.name g.T.Named.inside l.names (drop l.item-index l.items) ≡ distinct g.T.Named.name g.T.Named.inside [] l.items;
}
