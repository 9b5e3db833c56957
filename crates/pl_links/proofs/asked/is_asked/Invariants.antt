use Rattle.std.proofs.Common.{◌≡◌, drop}
use Rattle.pl_links.specs.Asked.{asked_from}
use Rattle.pl_links.proofs.asked.is_asked.Given as goal

abbrev pub invariant-loop-own : goal.invariant-loop-own
invariant-loop-own l = asked_from l.point l.kind l.own (drop l.own l.kinds) ≡ asked_from l.point l.kind 0 l.kinds
