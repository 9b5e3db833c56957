use Rattle.std.proofs.Common.{◌≡◌, arith, subst}
use Rattle.std.proofs.lemmas.Grind.{common_steps}
use Rattle.pl_io.specs.Lines.{ahead}
use Rattle.pl_model.specs.declared.whole.Model.{Model}
use Rattle.pl_replay.specs.Verifying.{Verified}
use Rattle.pl_main.specs.Readings.{WritesJudged}
use Rattle.pl_main.proofs.Replaying.{judged_ends}
use Rattle.pl_main.proofs.journals.read_journal.Goals as goal

pub returns-clause-reads : goal.returns-clause-reads
returns-clause-reads g c =
    let same : c.as_ref.result.now ≡ c.args.model = grind (arith, common_steps) in
    let verified : Verified c.args.model c.args.lines.now (ahead c.args.lines.now.held (g.S.Source.left c.args.src.now)) c.in-Ok.verdict c.in-Ok.machine c.verify.new.lines (ahead c.verify.new.lines.held (g.S.Source.left c.verify.new.src)) = grind (arith, common_steps) in
    let writes : WritesJudged c.args.what.now c.args.model c.in-Ok.verdict c.in-Ok.machine (g.O.Sink.held c.args.out.now) c.write_judged.result (g.O.Sink.held c.write_judged.new.out) = subst (λ (m : Model). WritesJudged c.args.what.now m c.in-Ok.verdict c.in-Ok.machine (g.O.Sink.held c.args.out.now) c.write_judged.result (g.O.Sink.held c.write_judged.new.out)) same c.write_judged.ensures.text in
    judged_ends c.args.what.now c.args.model _ _ _ _ c.in-Ok.verdict c.in-Ok.machine c.write_judged.result verified writes
