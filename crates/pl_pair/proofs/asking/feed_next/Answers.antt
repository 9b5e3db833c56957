use Rattle.std.proofs.Common.{Err, sym, subst}
use Rattle.pl_pair.specs.declared.cut.Cut.{Cut}
use Rattle.pl_input.specs.Places.{place_of}
use Rattle.pl_pair.specs.Asking.{Passes}
use Rattle.pl_pair.proofs.Messages.{passes_none}
use Rattle.pl_pair.proofs.asking.feed_next.Goals as goal

pub returns-in-Err-clause-passes : goal.returns-in-Err-clause-passes
returns-in-Err-clause-passes g c =
    let start = place_of c.args.lines.now (g.S.Source.left c.args.src.now) in
    let place = place_of c.take_message.new.lines (g.S.Source.left c.take_message.new.src) in
    subst (λ (k : Cut). Passes start c.args.pass.now (Err k) place c.args.pass.now) (sym c.cut_by.ensures) (passes_none start place c.args.pass.now c.in-Err.fault c.in-Err.ensures.asks)
