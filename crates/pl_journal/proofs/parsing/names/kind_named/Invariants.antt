use Rattle.std.proofs.Common.{◌≡◌, drop}
use Rattle.pl_journal.specs.Parsing.Moves.{kind_from}
use Rattle.pl_journal.proofs.parsing.names.kind_named.Given as goal

-- the rest gives the whole
abbrev pub invariant-loop-place : goal.invariant-loop-place
invariant-loop-place l = kind_from l.name l.place (drop l.place l.kinds) ≡ kind_from l.name 0 l.kinds
