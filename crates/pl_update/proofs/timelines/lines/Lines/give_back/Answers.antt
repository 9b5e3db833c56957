use Rattle.std.proofs.Common.{[], get_or, refl, pos}
use Rattle.pl_semantics.specs.declared.demand.Demand.{Demand}
use Rattle.pl_semantics.specs.declared.demand.Asked.TheVariants as asked
use Rattle.pl_update.specs.Timelines.Mending.{less}
use Rattle.pl_update.proofs.AboutTimelines.Moving.{moved_none, moved_more_less, hold_part, can_ask_still}
use Rattle.pl_update.proofs.AboutTimelines.Mending.{mended_none, mended_then}
use Rattle.pl_update.proofs.timelines.lines.Lines.give_back.Goals as goal

abbrev first : Demand
first = record { line = 0; asked = asked.Use (record { from = 0; to = 0; amount = pos 0 }) }

pub give_one-requires-clause-asked : goal.give_one-requires-clause-asked
give_one-requires-clause-asked g c =
    can_ask_still c.args.s.now c.args.self.now c.loop-demand.self (get_or c.args.demands.now c.loop-demand.demand-index first) c.loop-demand.invariant.moved.frames
    (c.requires.asked c.loop-demand.demand-index first c.loop-demand-test.true)

pub give_one-requires-clause-held : goal.give_one-requires-clause-held
give_one-requires-clause-held g c = hold_part c.args.demands.now c.loop-demand.demand-index first c.args.self.now c.loop-demand.self c.loop-demand-test.true c.requires.held c.loop-demand.invariant.moved

pub loop-demand-init : goal.loop-demand-init
loop-demand-init g c = record {
  mended = mended_none c.args.s.now c.args.self.now c.args.set.now;
  moved = moved_none c.args.self.now (less []) (λ line f. refl);
  named = c.requires.named;
}

pub loop-demand-preserved : goal.loop-demand-preserved
loop-demand-preserved g c = record {
  mended = mended_then c.args.s.now c.args.self.now c.loop-demand.self c.give_one.new.self c.args.set.now c.loop-demand.set c.give_one.new.set c.loop-demand.invariant.mended c.in_ok-give_one.ensures.mended;
  moved = moved_more_less c.args.demands.now c.loop-demand.demand-index first c.args.self.now c.loop-demand.self c.give_one.new.self c.loop-demand-test.true c.loop-demand.invariant.moved c.in_ok-give_one.ensures.moved;
  named = c.in_ok-give_one.ensures.named;
}
