use Rattle.pl_acts.proofs.Replicas.{one_less}
use Rattle.pl_acts.proofs.replicated.Replicated.lend.Goals as goal

pub invariant_of-self : goal.invariant_of-self
invariant_of-self c = record {
  behind = (one_less c.self.inside.machine c.self.inside.replicas.items c.pop.new.self.items c.pop.result c.pop.ensures.items c.self.invariant.behind).0;
  tied = c.self.invariant.tied;
}

pub invariant_of-self-2 : goal.invariant_of-self-2
invariant_of-self-2 c = record {
  behind = (one_less c.self.inside.machine c.self.inside.replicas.items c.pop.new.self.items c.pop.result c.pop.ensures.items c.self.invariant.behind).0;
  tied = c.self.invariant.tied;
}

pub invariant_of-self-in_err-entries : goal.invariant_of-self-in_err-entries
invariant_of-self-in_err-entries c = record {
  behind = (one_less c.self.inside.machine c.self.inside.replicas.items c.pop.new.self.items c.pop.result c.pop.ensures.items c.self.invariant.behind).0;
  tied = c.self.invariant.tied;
}
