use Rattle.pl_acts.proofs.Signing.{written_repair}
use Rattle.pl_acts.proofs.replicated.Replicated.repair_once.Goals as goal

pub invariant_of-self-2 : goal.invariant_of-self-2
invariant_of-self-2 g c =
    written_repair g.C.Chooser.picks g.C.Chooser.drawn c.args.by (record { machine = c.self.inside.machine; signs = c.self.inside.marks }) c.repair_once-answer.new.self c.args.chooser.now c.repair_once-answer.new.chooser c.self.inside.replicas.items c.sign.new.marks c.unless_refused.new.marks
    c.repair_once-answer.result c.self.invariant c.repair_once-answer.ensures.repairs c.in_ok-sign.ensures.ok c.unless_refused.ensures.ok c.unless_refused.ensures.err
