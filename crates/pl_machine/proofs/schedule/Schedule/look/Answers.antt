use Rattle.std.proofs.Common.{[], ◌++◌, List, ℕ, map, ◌∙◌, ap, subst}
use Rattle.pl_model.specs.declared.whole.Model.{Model}
use Rattle.pl_plan.specs.declared.activity.Activity.{Activity}
use Rattle.pl_entry.specs.Due.{with_starts}
use Rattle.pl_semantics.specs.declared.plan_state.PlanState.{PlanState}
use Rattle.pl_semantics.specs.Whole.{IsWhole}
use Rattle.pl_machine.specs.declared.period.Period.{Period}
use Rattle.pl_machine.specs.Looking.{starts_in}
use Rattle.pl_machine.proofs.Due.{due_on}
use Rattle.pl_machine.proofs.schedule.Schedule.look.Goals as goal

pub returns-clause-due : goal.returns-clause-due
returns-clause-due c =
    let s = c.args.board.now.state in
    let begun = c.state-state.result.now in
    let same = c.state-state.ensures.value in
    let p : Period = record { before = c.args.before; moment = begun.moment; committed = begun.committed } in
    let found = c.in_ok-sort.ensures
    ∙ ap (with_starts [])
    (c.in_ok-seen.ensures.starts ∙ ap (λ (m : Model). starts_in m p c.activities.result.now) (c.get.ensures ∙ ap (λ (x : PlanState). x.model) same)
    ∙ ap (λ (l : List Activity). starts_in s.model p l) (c.activities.ensures.value ∙ ap (λ (x : PlanState). x.plan.activities) same)) in
    due_on s p c.args.self.now.due.items c.push_ids.new.ids.items c.sort.new.starts.items (subst IsWhole same (c.state-state.ensures.whole c.requires.unspoiled)).rising c.requires.later
    (ap (λ (x : PlanState). x.moment) same) (ap (λ (x : PlanState). x.committed) same) c.requires.listed found
    (c.in_ok-push_ids.ensures.ok ∙ ap (λ (l : List (ℕ × ℕ)). c.args.self.now.due.items ++ map (λ (x : ℕ × ℕ). x.1) l) c.deref-2.ensures.value)
