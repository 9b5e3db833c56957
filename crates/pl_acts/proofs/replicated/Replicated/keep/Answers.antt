use Rattle.std.proofs.Common.{◌≡◌, sym, ap, subst, is_ok}
use Rattle.pl_machine.specs.Sound.{State}
use Rattle.pl_acts.specs.Replicas.{IsReplica}
use Rattle.pl_acts.specs.Signing.{Written}
use Rattle.pl_acts.proofs.Replicas.{one_more}
use Rattle.pl_acts.proofs.replicated.Replicated.keep.Goals as goal

pub invariant_of-self : goal.invariant_of-self
invariant_of-self c =
    let m = c.self.inside.machine in
    let same : m ≡ c.args.self.now.machine = ap (λ (w : Written). w.machine) c.self.view_is in
    let kept : IsReplica m c.in-Some.replica = subst (λ (x : State). IsReplica x c.in-Some.replica) (sym same) (rw c.in-Some.is at c.requires) in
    record {
      behind = rw c.push.ensures.items (one_more m c.in-Some.replica c.self.inside.replicas.items (is_ok c.push.result) c.self.invariant.behind kept);
      tied = c.self.invariant.tied;
    }
