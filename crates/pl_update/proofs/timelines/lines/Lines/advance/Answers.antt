use Rattle.std.proofs.Common.{◌≡◌, ◌<◌, length, sym, subst, ap, ◌∙◌, arith, List, pos}
use Rattle.std.specs.Prelude.{All, false, []}
use Rattle.pl_update.specs.declared.timelines.line.Line.{Line}
use Rattle.pl_update.specs.declared.timelines.line.Line.TheVariants.{Capacity}
use Rattle.pl_update.specs.Timelines.Moments.{MayReach}
use Rattle.pl_update.proofs.AboutTimelines.MovingTime.{reach_some, advanced, advanced_length}
use Rattle.pl_update.proofs.AboutTimelines.Mending.{mended_then}
use Rattle.pl_update.proofs.timelines.lines.Lines.advance.Goals as goal

abbrev none : Line
none = Capacity (record { spoiled = false; horizon = 0; most = pos 0; moment = 0; uses = [] })

pub advance_one-requires-clause-reach : goal.advance_one-requires-clause-reach
advance_one-requires-clause-reach g c = subst (λ (xs : List Line). All (MayReach c.args.now) xs) (sym c.loop-line.invariant.moved) (reach_some c.args.now c.loop-line.line c.args.self.now c.requires.reach)

pub advance_one-requires-clause-number : goal.advance_one-requires-clause-number
advance_one-requires-clause-number g c =
    let same : length c.self.inside.all.items ≡ length c.args.self.now = ap length c.self.view_is in
    let lt : c.loop-line.line < length c.args.self.now = omega (arith, c.loop-line-test.true, c.len-line-end.ensures, c.self.inside.all.ok, same) in
    let long : length c.loop-line.self ≡ length c.args.self.now = ap length c.loop-line.invariant.moved ∙ advanced_length c.args.now c.loop-line.line c.args.self.now in
    omega (arith, lt, long)

pub loop-line-preserved : goal.loop-line-preserved
loop-line-preserved g c =
    let same : length c.self.inside.all.items ≡ length c.args.self.now = ap length c.self.view_is in
    let lt : c.loop-line.line < length c.args.self.now = omega (arith, c.loop-line-test.true, c.len-line-end.ensures, c.self.inside.all.ok, same) in
    record {
      mended = mended_then c.args.s.now c.args.self.now c.loop-line.self c.advance_one.new.self c.args.set.now c.loop-line.set c.advance_one.new.set c.loop-line.invariant.mended c.in_ok-advance_one.ensures.mended;
      moved = advanced c.args.now c.loop-line.line c.args.self.now c.loop-line.self c.advance_one.new.self none lt c.loop-line.invariant.moved (c.in_ok-advance_one.ensures.moved none);
      named = c.in_ok-advance_one.ensures.named;
    }
