use Rattle.std.proofs.Common.{◌≡◌, ◌∙◌, arith}
use Rattle.std.proofs.lemmas.Grind.{common_steps}
use Rattle.pl_io.proofs.Grown.{front_grows}
use Rattle.pl_io.proofs.writing.put.Goals as goal

pub loop-written-preserved : goal.loop-written-preserved
loop-written-preserved g c =
    let kept = c.loop-written.invariant in
    let still : g.O.Sink.faults c.write.new.self ≡ g.O.Sink.faults c.args.out.now = c.in_ok-written.ensures.cause.still ∙ kept.3 in (
      grind (arith, common_steps),
      front_grows _ _ _ c.args.bytes.now c.loop-written.written _ kept.1 c.in_ok-written.ensures.bytes,
      λ none. c.in_ok-written.ensures.untold (kept.2 none),
      still,
    )
