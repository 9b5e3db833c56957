use Rattle.std.proofs.Common.{◌∙◌, ap}
use Rattle.pl_acts.specs.Signing.{Written}
use Rattle.pl_acts.proofs.AtOnce.{proposed_keeps, written_kept}
use Rattle.pl_acts.proofs.replicated.Replicated.draw.Goals as goal

pub invariant_of-self : goal.invariant_of-self
invariant_of-self g c =
    let old : Written = record { machine = c.self.inside.machine; signs = c.self.inside.marks } in
    let new : Written = record { machine = c.propose.new.self; signs = c.self.inside.marks } in
    written_kept c.self.inside.replicas.items old new c.self.invariant
    (proposed_keeps old c.propose.new.self c.propose.result (ap (λ (w : Written). w.machine.spoiled) c.self.view_is ∙ c.requires) c.propose.ensures.answers)
