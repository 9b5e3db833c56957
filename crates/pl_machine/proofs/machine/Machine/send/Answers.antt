use Rattle.std.proofs.Common.{◌≡◌, false, refl, sym, ◌∙◌, ap, subst}
use Rattle.pl_board.specs.Boards.{Standing}
use Rattle.pl_semantics.specs.Whole.{IsWhole}
use Rattle.pl_machine.specs.Sound.{State}
use Rattle.pl_machine.specs.Sending.{StartsLast}
use Rattle.pl_machine.proofs.Runs.{sound_spoiled}
use Rattle.pl_machine.proofs.Sends.{sound_sent, took_sent}
use Rattle.pl_machine.proofs.Starts.{starts_last}
use Rattle.pl_machine.proofs.machine.Machine.send.Goals as goal

pub invariant_of-self : goal.invariant_of-self
invariant_of-self c = rw c.in_err-reply.ensures.err (sound_spoiled _ _ c.self.invariant (ap (λ (b : Standing). b.spoiled) c.in_err-reply.ensures.spoils))

pub invariant_of-self-2 : goal.invariant_of-self-2
invariant_of-self-2 c =
    let whole = subst (λ (t : State). IsWhole t.world.state) (sym c.self.view_is) c.requires.whole in
    rw (c.in_ok-reply.ensures.ok, c.in_ok-reply.ensures.stays)
    (sound_sent c.args.self.now _ c.args.command c.self.view_is c.self.invariant refl whole c.requires.open c.requires.reply c.requires.next)

pub returns-clause-answers : goal.returns-clause-answers
returns-clause-answers c =
    let whole = subst (λ (t : State). IsWhole t.world.state) (sym c.self.view_is) c.requires.whole in
    let unspoiled : c.self.inside.board.spoiled ≡ false = ap (λ (t : State). t.spoiled) c.self.view_is ∙ c.requires.open.unspoiled in
    rw (c.in_ok-reply.ensures.same, c.in_ok-reply.ensures.ok, c.in_ok-reply.ensures.stays)
    (took_sent c.args.self.now _ c.args.command c.self.view_is c.self.invariant refl whole c.requires.open c.requires.reply c.requires.next unspoiled)

pub returns-clause-starts : goal.returns-clause-starts
returns-clause-starts c = subst (StartsLast c.args.self.now.world) (sym c.in_ok-reply.ensures.same) (starts_last c.args.self.now c.args.command c.self.view_is c.self.invariant refl c.requires.whole c.requires.open c.requires.next)
