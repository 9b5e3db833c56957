use Rattle.std.proofs.Common.{◌<◌, ◌≤◌, length, get_or, subst, arith}
use Rattle.std.proofs.lemmas.List.Elements.{All-more}
use Rattle.pl_check.specs.Dependencies.{IsWellFounded}
use Rattle.pl_check.proofs.DependencyLemmas.{all_taken}
use Rattle.pl_check.proofs.dependencies.judge_params.Goals as goal

pub loop-kind-preserved : goal.loop-kind-preserved
loop-kind-preserved c =
    let lt : c.loop-kind.kind-index < length c.args.kinds.now = omega arith in
    let here : IsWellFounded (get_or c.args.kinds.now c.loop-kind.kind-index c.kind-item.result) = subst IsWellFounded c.kind-item.is c.in_ok-judge_kind_params.ensures.ok in
    All-more IsWellFounded c.args.kinds.now c.loop-kind.kind-index c.kind-item.result lt c.loop-kind.invariant here

pub returns-clause-ok : goal.returns-clause-ok
returns-clause-ok c =
    let le : length c.args.kinds.now ≤ c.loop-kind.kind-index = omega arith in
    all_taken IsWellFounded c.args.kinds.now c.loop-kind.kind-index le c.loop-kind.invariant
