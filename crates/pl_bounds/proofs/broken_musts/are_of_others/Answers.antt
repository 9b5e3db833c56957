use Rattle.std.proofs.Common.{List, sym, subst}
use Rattle.std.proofs.lemmas.List.{take_all}
use Rattle.pl_state.specs.Keys.{Has}
use Rattle.pl_semantics.specs.declared.demand.Demand.{Demand}
use Rattle.pl_bounds.specs.Settings.{musts_asked}
use Rattle.pl_bounds.proofs.Breached.{none_more}
use Rattle.pl_bounds.proofs.broken_musts.are_of_others.Goals as goal

pub loop-demand-preserved : goal.loop-demand-preserved
loop-demand-preserved c = none_more c.args.must.now c.args.demands.now c.loop-demand.demand-index _ c.loop-demand-test.true c.loop-demand.invariant (c.is_of_other.ensures c.if-not-is_of_other.false)

pub returns : goal.returns
returns c = λ _ line has. c.loop-demand.invariant line (subst (λ (ds : List Demand). Has c.args.must.now (musts_asked line ds)) (sym (take_all c.loop-demand.demand-index c.args.demands.now c.loop-demand-test.false)) has)
