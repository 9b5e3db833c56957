use Rattle.std.proofs.Common.{rules, ◌≡◌, Option, Some, sym, subst}
use Rattle.pl_entry.specs.declared.event.Event.TheVariants as event
use Rattle.pl_entry.specs.declared.reply.Reason.TheVariants as reason
use Rattle.pl_cand.specs.declared.proposal.Proposal.{Proposal}
use Rattle.pl_moves.specs.Keeping.{KeepsCommitted}
use Rattle.pl_machine.specs.World.{reason_of}
use Rattle.pl_machine.specs.Sound.{State}
use Rattle.pl_machine.specs.Taking.{IsOpen}
use Rattle.pl_machine.specs.Mending.{HasMended}
use Rattle.pl_machine.proofs.Resting.{stuck_rests}
use Rattle.pl_machine.proofs.Mending.{rest_open, fixed, made_fails, rested_on, rest_keeps}
use Rattle.pl_machine.proofs.machine.Machine.mend.Goals as goal

pub rest_for-requires-clause-open : goal.rest_for-requires-clause-open
rest_for-requires-clause-open g c =
    let s = c.args.self.now in
    let P : Option Proposal → Type 0 = λ o. HasMended g.C.Chooser.picks s c.args.chooser.now o c.make_next.new.self c.make_next.new.chooser in
    let none = subst P c.in-None.is c.in_ok-proposal.ensures.made in
    subst (λ (t : State). IsOpen t event.Rest) (sym none.1) (rest_open s reason.Stuck c.requires.unspoiled c.requires.repairing c.requires.room (stuck_rests s.world c.requires.plain none.0))

pub rest_for-requires-clause-reason : goal.rest_for-requires-clause-reason
rest_for-requires-clause-reason g c =
    let s = c.args.self.now in
    let P : Option Proposal → Type 0 = λ o. HasMended g.C.Chooser.picks s c.args.chooser.now o c.make_next.new.self c.make_next.new.chooser in
    let none = subst P c.in-None.is c.in_ok-proposal.ensures.made in
    subst (λ (t : State). reason_of t.world ≡ Some reason.Stuck) (sym none.1) (stuck_rests s.world c.requires.plain none.0)

pub returns-in_err-rest_for-in-None-clause-repairs : goal.returns-in_err-rest_for-in-None-clause-repairs
returns-in_err-rest_for-in-None-clause-repairs g c =
    let s = c.args.self.now in
    let P : Option Proposal → Type 0 = λ o. HasMended g.C.Chooser.picks s c.args.chooser.now o c.make_next.new.self c.make_next.new.chooser in
    let none = subst P c.in-None.is c.in_ok-proposal.ensures.made in
    let may : IsOpen s event.Rest = rest_open s reason.Stuck c.requires.unspoiled c.requires.repairing c.requires.room (stuck_rests s.world c.requires.plain none.0) in
    let same = none.1 in
    search (rules, made_fails, may, same)

pub returns-in_ok-rest_for-in-None-clause-repairs : goal.returns-in_ok-rest_for-in-None-clause-repairs
returns-in_ok-rest_for-in-None-clause-repairs g c =
    let s = c.args.self.now in
    let P : Option Proposal → Type 0 = λ o. HasMended g.C.Chooser.picks s c.args.chooser.now o c.make_next.new.self c.make_next.new.chooser in
    let none = subst P c.in-None.is c.in_ok-proposal.ensures.made in
    rested_on g.C.Chooser.picks s c.make_next.new.self c.rest_for.new.self c.args.chooser.now c.make_next.new.chooser reason.Stuck c.in_ok-rest_for-in-None.field-0 (stuck_rests s.world c.requires.plain none.0) none.1 c.in_ok-rest_for-in-None.ensures none.2

pub returns-in_ok-rest_for-in-None-clause-committed : goal.returns-in_ok-rest_for-in-None-clause-committed
returns-in_ok-rest_for-in-None-clause-committed g c =
    let s = c.args.self.now in
    let P : Option Proposal → Type 0 = λ o. HasMended g.C.Chooser.picks s c.args.chooser.now o c.make_next.new.self c.make_next.new.chooser in
    let none = subst P c.in-None.is c.in_ok-proposal.ensures.made in
    subst (λ (t : State). KeepsCommitted t.world.state c.rest_for.new.self.world.state) none.1 (rest_keeps c.make_next.new.self c.rest_for.new.self c.in_ok-rest_for-in-None.field-0 c.in_ok-rest_for-in-None.ensures)

pub returns-in-Some-clause-repairs : goal.returns-in-Some-clause-repairs
returns-in-Some-clause-repairs g c =
    let s = c.args.self.now in
    let P : Option Proposal → Type 0 = λ o. HasMended g.C.Chooser.picks s c.args.chooser.now o c.make_next.new.self c.make_next.new.chooser in
    fixed g.C.Chooser.picks s c.make_next.new.self c.args.chooser.now c.make_next.new.chooser c.in-Some.proposal c.requires.plain (subst P c.in-Some.is c.in_ok-proposal.ensures.made)
