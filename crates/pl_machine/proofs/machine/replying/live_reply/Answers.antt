use Rattle.std.proofs.Common.{◌≡◌, ltb, leb, ◌&&◌, is_some, if◌then◌else◌, ◌∙◌, sym, subst}
use Rattle.pl_entry.specs.declared.reply.Reply.TheVariants as reply
use Rattle.pl_semantics.specs.declared.plan_state.PlanState.{PlanState}
use Rattle.pl_semantics.specs.PlanStates.{found}
use Rattle.pl_machine.specs.Messages.{end_reply}
use Rattle.pl_machine.proofs.Measured.{reply_to_live, reply_to_none}
use Rattle.pl_machine.proofs.machine.replying.live_reply.Goals as goal

pub returns-in-Some : goal.returns-in-Some
returns-in-Some c =
    let x = c.in-Some.activity in
    let P : PlanState → Type 0 = λ s. c.placed_reply.result ≡ (if ltb x.start s.committed && (leb x.start s.moment && is_some x.end) then end_reply x.start c.args.moment else reply.NotBegun) in
    reply_to_live c.args.board.now.state (found c.args.board.now.state c.args.id) x c.args.moment c.placed_reply.result (sym c.in-Some.is ∙ c.placed.ensures) (subst P c.state.ensures.value c.placed_reply.ensures)

pub returns-in-None : goal.returns-in-None
returns-in-None c = reply_to_none c.args.board.now.state (found c.args.board.now.state c.args.id) c.args.moment (sym c.in-None.is ∙ c.placed.ensures)
