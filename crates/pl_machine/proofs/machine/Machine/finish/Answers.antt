use Rattle.std.proofs.Common.{◌≡◌, false, ◌∙◌, ap}
use Rattle.pl_board.specs.Boards.{Standing}
use Rattle.pl_machine.specs.Sound.{State}
use Rattle.pl_machine.proofs.Runs.{sound_spoiled}
use Rattle.pl_machine.proofs.Ends.{sound_ended, took_ended}
use Rattle.pl_machine.proofs.machine.Machine.finish.Goals as goal

pub invariant_of-self : goal.invariant_of-self
invariant_of-self c = rw c.in_err-reply.ensures.err (sound_spoiled _ _ c.self.invariant (ap (λ (b : Standing). b.spoiled) c.in_err-reply.ensures.spoils))

pub invariant_of-self-2 : goal.invariant_of-self-2
invariant_of-self-2 c =
    rw (c.in_ok-reply.ensures.ok, c.in_ok-reply.ensures.stays)
    (sound_ended c.args.self.now _ c.args.event c.self.view_is c.self.invariant c.requires.open c.requires.event c.requires.reply c.requires.ended c.requires.leaves)

pub returns : goal.returns
returns c =
    let unspoiled : c.self.inside.board.spoiled ≡ false = ap (λ (t : State). t.spoiled) c.self.view_is ∙ c.requires.open.unspoiled in
    rw (c.in_ok-reply.ensures.same, c.in_ok-reply.ensures.ok, c.in_ok-reply.ensures.stays)
    (took_ended c.args.self.now _ c.args.event c.self.view_is c.requires.open c.requires.ended c.requires.leaves unspoiled)
