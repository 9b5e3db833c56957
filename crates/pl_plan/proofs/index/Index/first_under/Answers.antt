use Rattle.std.proofs.Common.{refl}
use Rattle.pl_plan.proofs.Pairs.{under_range, under_rises}
use Rattle.pl_plan.proofs.RisingIds.{increases}
use Rattle.pl_plan.specs.Index.{ids_under}
use Rattle.pl_plan.proofs.index.Index.first_under.Goals as goal

pub returns-clause-first : goal.returns-clause-first
returns-clause-first c =
    let between = rw (c.new.ensures.start, c.new.ensures.end) at (c.range.ensures.between c.new.ensures.exhausted) in
    rw (← c.self.view_is, under_range c.args.number c.self.inside.pairs.keys c.range.result c.self.invariant between, c.in_ok-pair.ensures.steps) refl

pub returns-in_err-pair-clause-first : goal.returns-in_err-pair-clause-first
returns-in_err-pair-clause-first c =
    let between = rw (c.new.ensures.start, c.new.ensures.end) at (c.range.ensures.between c.new.ensures.exhausted) in
    rw (← c.self.view_is, under_range c.args.number c.self.inside.pairs.keys c.range.result c.self.invariant between, c.in_err-pair.ensures.steps.0) c.from_residual.ensures

pub returns-clause-rising : goal.returns-clause-rising
returns-clause-rising c = rw (← c.self.view_is) (increases 0 (ids_under c.args.number c.self.inside.pairs.keys) (under_rises c.args.number c.self.inside.pairs.keys c.range.ensures.ordered))

pub returns-in_err-pair-clause-rising : goal.returns-in_err-pair-clause-rising
returns-in_err-pair-clause-rising c = rw (← c.self.view_is) (increases 0 (ids_under c.args.number c.self.inside.pairs.keys) (under_rises c.args.number c.self.inside.pairs.keys c.range.ensures.ordered))
