use Rattle.pl_acts.proofs.Signing.{written_answers}
use Rattle.pl_acts.proofs.replicated.Replicated.input.Goals as goal

pub invariant_of-self-2 : goal.invariant_of-self-2
invariant_of-self-2 c =
    written_answers c.args.by c.self.inside.replicas.items (record { machine = c.self.inside.machine; signs = c.self.inside.marks }) c.input-answer.new.self c.sign.new.marks c.unless_refused.new.marks _ c.input-answer.result c.self.invariant
    c.input-answer.ensures c.in_ok-sign.ensures.ok c.unless_refused.ensures.ok c.unless_refused.ensures.err
