use Rattle.std.proofs.Common.{◌≡◌, false, ◌∙◌, ap}
use Rattle.pl_board.specs.Boards.{Standing}
use Rattle.pl_machine.specs.Sound.{State}
use Rattle.pl_machine.proofs.Runs.{sound_spoiled, sound_appended, took_appended}
use Rattle.pl_machine.proofs.machine.Machine.append.Goals as goal

pub invariant_of-self : goal.invariant_of-self
invariant_of-self c = rw c.in_err-reply.ensures.err (sound_spoiled _ _ c.self.invariant (ap (λ (b : Standing). b.spoiled) c.in_err-reply.ensures.spoils))

pub invariant_of-self-2 : goal.invariant_of-self-2
invariant_of-self-2 c =
    rw (c.in_ok-reply.ensures.ok, c.in_ok-reply.ensures.stays)
    (sound_appended c.args.self.now _ c.args.round c.args.event c.args.reply c.self.view_is c.self.invariant c.requires.open c.requires.event c.requires.reply c.requires.answers c.requires.leaves c.requires.turn)

pub returns : goal.returns
returns c =
    let unspoiled : c.self.inside.board.spoiled ≡ false = ap (λ (t : State). t.spoiled) c.self.view_is ∙ c.requires.open.unspoiled in
    rw (c.in_ok-reply.ensures.same, c.in_ok-reply.ensures.ok, c.in_ok-reply.ensures.stays)
    (took_appended c.args.self.now _ c.args.round c.args.event c.args.reply c.self.view_is c.requires.open c.requires.answers c.requires.leaves unspoiled)
