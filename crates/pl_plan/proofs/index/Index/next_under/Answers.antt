use Rattle.std.proofs.Common.{refl}
use Rattle.pl_plan.proofs.Pairs.{under_behind, under_rises}
use Rattle.pl_plan.proofs.RisingIds.{increases}
use Rattle.pl_plan.specs.Index.{ids_under}
use Rattle.pl_plan.proofs.index.Index.next_under.Goals as goal

pub returns-clause-next : goal.returns-clause-next
returns-clause-next c = rw (← c.self.view_is, under_behind c.args.number c.args.behind c.self.inside.pairs.keys c.range.result c.self.invariant (c.range.ensures.between tt), c.in_ok-pair.ensures.steps) refl

pub returns-in_err-pair-clause-next : goal.returns-in_err-pair-clause-next
returns-in_err-pair-clause-next c = rw (← c.self.view_is, under_behind c.args.number c.args.behind c.self.inside.pairs.keys c.range.result c.self.invariant (c.range.ensures.between tt), c.in_err-pair.ensures.steps.0) c.from_residual.ensures

pub returns-clause-rising : goal.returns-clause-rising
returns-clause-rising c = rw (← c.self.view_is) (increases 0 (ids_under c.args.number c.self.inside.pairs.keys) (under_rises c.args.number c.self.inside.pairs.keys c.range.ensures.ordered))

pub returns-in_err-pair-clause-rising : goal.returns-in_err-pair-clause-rising
returns-in_err-pair-clause-rising c = rw (← c.self.view_is) (increases 0 (ids_under c.args.number c.self.inside.pairs.keys) (under_rises c.args.number c.self.inside.pairs.keys c.range.ensures.ordered))
