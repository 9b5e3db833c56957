use Rattle.std.proofs.Common.{◌≡◌, true, false, Some, None, refl, sym, ◌∙◌, ap, subst}
use Rattle.pl_plan.specs.declared.activity.Activity.{Activity}
use Rattle.pl_semantics.specs.declared.plan_state.PlanState.{PlanState}
use Rattle.pl_semantics.specs.PlanStates.{found, is_committed}
use Rattle.pl_semantics.specs.Whole.{IsWhole}
use Rattle.std.proofs.lemmas.Result.{IfOk-weaker}
use Rattle.pl_entry.specs.declared.event.Event.TheVariants as event
use Rattle.pl_machine.specs.Step.{sent_of, sent_reply, reply_of}
use Rattle.pl_machine.specs.Sound.{State}
use Rattle.pl_machine.proofs.Sends.{next_of}
use Rattle.pl_machine.proofs.machine.Machine.next_command.Goals as goal

pub command_of-requires-clause-whole : goal.command_of-requires-clause-whole
command_of-requires-clause-whole c =
    let unspoiled : c.self.inside.board.spoiled ≡ false = ap (λ (t : State). t.spoiled) c.self.view_is ∙ c.requires.unspoiled in
    let state_is : c.state-state.result.now ≡ c.args.self.now.world.state = c.state-state.ensures.value ∙ ap (λ (t : State). t.world.state) c.self.view_is in
    subst IsWhole state_is (c.state-state.ensures.whole unspoiled)

pub command_of-requires-clause-found : goal.command_of-requires-clause-found
command_of-requires-clause-found c =
    let unspoiled : c.self.inside.board.spoiled ≡ false = ap (λ (t : State). t.spoiled) c.self.view_is ∙ c.requires.unspoiled in
    let state_is : c.state-state.result.now ≡ c.args.self.now.world.state = c.state-state.ensures.value ∙ ap (λ (t : State). t.world.state) c.self.view_is in
    let whole : IsWhole c.args.self.now.world.state = subst IsWhole state_is (c.state-state.ensures.whole unspoiled) in
    let next = next_of c.args.self.now c.index-id.result.now c.self.view_is c.self.invariant c.requires.unspoiled refl whole c.requires.left c.index-id.ensures in
    let both : Some c.in-Some.activity.now ≡ Some next.0 = c.in-Some.ensures.value ∙ ap (λ (x : PlanState). found x c.index-id.result.now) state_is ∙ next.1 in
    let same : next.0 ≡ c.in-Some.activity.now = cc in
    subst (λ (a : Activity). found c.args.self.now.world.state a.id ≡ Some a) same next.3

pub command_of-requires-clause-committed : goal.command_of-requires-clause-committed
command_of-requires-clause-committed c =
    let unspoiled : c.self.inside.board.spoiled ≡ false = ap (λ (t : State). t.spoiled) c.self.view_is ∙ c.requires.unspoiled in
    let state_is : c.state-state.result.now ≡ c.args.self.now.world.state = c.state-state.ensures.value ∙ ap (λ (t : State). t.world.state) c.self.view_is in
    let whole : IsWhole c.args.self.now.world.state = subst IsWhole state_is (c.state-state.ensures.whole unspoiled) in
    let next = next_of c.args.self.now c.index-id.result.now c.self.view_is c.self.invariant c.requires.unspoiled refl whole c.requires.left c.index-id.ensures in
    let both : Some c.in-Some.activity.now ≡ Some next.0 = c.in-Some.ensures.value ∙ ap (λ (x : PlanState). found x c.index-id.result.now) state_is ∙ next.1 in
    let same : next.0 ≡ c.in-Some.activity.now = cc in
    subst (λ (a : Activity). is_committed c.args.self.now.world.state a ≡ true) same next.2

pub unreachable-requires : goal.unreachable-requires
unreachable-requires c =
    let unspoiled : c.self.inside.board.spoiled ≡ false = ap (λ (t : State). t.spoiled) c.self.view_is ∙ c.requires.unspoiled in
    let state_is : c.state-state.result.now ≡ c.args.self.now.world.state = c.state-state.ensures.value ∙ ap (λ (t : State). t.world.state) c.self.view_is in
    let whole : IsWhole c.args.self.now.world.state = subst IsWhole state_is (c.state-state.ensures.whole unspoiled) in
    let next = next_of c.args.self.now c.index-id.result.now c.self.view_is c.self.invariant c.requires.unspoiled refl whole c.requires.left c.index-id.ensures in
    let both : None ≡ Some next.0 = c.in-None.ensures.value ∙ ap (λ (x : PlanState). found x c.index-id.result.now) state_is ∙ next.1 in
    cc

pub returns-clause-next : goal.returns-clause-next
returns-clause-next c =
    let unspoiled : c.self.inside.board.spoiled ≡ false = ap (λ (t : State). t.spoiled) c.self.view_is ∙ c.requires.unspoiled in
    let state_is : c.state-state.result.now ≡ c.args.self.now.world.state = c.state-state.ensures.value ∙ ap (λ (t : State). t.world.state) c.self.view_is in
    let whole : IsWhole c.args.self.now.world.state = subst IsWhole state_is (c.state-state.ensures.whole unspoiled) in
    let next = next_of c.args.self.now c.index-id.result.now c.self.view_is c.self.invariant c.requires.unspoiled refl whole c.requires.left c.index-id.ensures in
    let both : Some c.in-Some.activity.now ≡ Some next.0 = c.in-Some.ensures.value ∙ ap (λ (x : PlanState). found x c.index-id.result.now) state_is ∙ next.1 in
    let same : c.in-Some.activity.now ≡ next.0 = cc in
    let sent : sent_of c.args.self.now.world.state c.in-Some.activity.now ≡ sent_reply c.args.self.now.world.state (Some next.0) = ap (sent_of c.args.self.now.world.state) same in
    let reply_is : sent_of c.args.self.now.world.state c.in-Some.activity.now ≡ reply_of c.args.self.now.world event.Dispatch = sent ∙ sym (ap (sent_reply c.args.self.now.world.state) next.4) in
    IfOk-weaker c.command_of.result (λ r. r ≡ sent_of c.args.self.now.world.state c.in-Some.activity.now) (λ r. r ≡ reply_of c.args.self.now.world event.Dispatch) (λ r e. e ∙ reply_is) c.command_of.ensures.sent

pub returns-clause-whole : goal.returns-clause-whole
returns-clause-whole c =
    let unspoiled : c.self.inside.board.spoiled ≡ false = ap (λ (t : State). t.spoiled) c.self.view_is ∙ c.requires.unspoiled in
    let state_is : c.state-state.result.now ≡ c.args.self.now.world.state = c.state-state.ensures.value ∙ ap (λ (t : State). t.world.state) c.self.view_is in
    let whole : IsWhole c.args.self.now.world.state = subst IsWhole state_is (c.state-state.ensures.whole unspoiled) in
    IfOk-weaker c.command_of.result (λ r. r ≡ sent_of c.args.self.now.world.state c.in-Some.activity.now) (λ r. IsWhole c.args.self.now.world.state) (λ r e. whole) c.command_of.ensures.sent
