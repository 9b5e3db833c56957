use Rattle.std.proofs.Common.{All, take}
use Rattle.pl_check.specs.Dependencies.{IsWellFounded}
use Rattle.pl_check.proofs.dependencies.judge_params.Given as goal

abbrev pub invariant-loop-kind : goal.invariant-loop-kind
invariant-loop-kind l = All IsWellFounded (take l.kind-index l.kinds)
