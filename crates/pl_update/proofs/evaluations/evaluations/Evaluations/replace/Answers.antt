use Rattle.pl_update.proofs.AboutEvaluations.Keeping.{keeps_up}
use Rattle.pl_update.proofs.evaluations.evaluations.Evaluations.replace.Goals as goal

pub returns : goal.returns
returns c = keeps_up c.args.s.now c.args.gone.now c.args.placed.now c.args.self.now c.forget_gone.new.self c.evaluate_all.new.self c.forget_gone.ensures c.in_ok-evaluate_all.ensures
