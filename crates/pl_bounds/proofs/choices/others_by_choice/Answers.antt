use Rattle.std.proofs.Common.{◌≤◌, List, sym, subst, arith}
use Rattle.pl_plan.specs.declared.repair.RepairMove.{RepairMove}
use Rattle.pl_plan.specs.declared.repair.RepairMove.TheVariants.{Detail}
use Rattle.pl_semantics.specs.declared.plan_state.PlanState.{PlanState}
use Rattle.pl_semantics.specs.Whole.{IsWhole}
use Rattle.pl_update.specs.Changes.Replaced.{with_plan}
use Rattle.pl_moves.specs.Changes.{gone_by, placed_by}
use Rattle.pl_bounds.specs.Marks.{AreMarks, count_of_states}
use Rattle.pl_bounds.specs.declared.marks.Mark.{Mark}
use Rattle.pl_bounds.proofs.Exchanged.{with_times, without_times}
use Rattle.pl_bounds.proofs.choices.others_by_choice.Goals as goal

pub returns-then-most-states-clause-least : goal.returns-then-most-states-clause-least
returns-then-most-states-clause-least c =
    let s = c.args.board.now.state in
    let m : RepairMove = Detail c.args.root.now.id c.args.alternative in
    let t : PlanState = with_plan (gone_by s m) (placed_by s m) s in
    let whole : IsWhole s = subst (λ (u : PlanState). IsWhole u) c.state-state.ensures.value (c.state-state.ensures.whole c.requires.unspoiled) in
    let marks : AreMarks t c.as_slice.result.now = subst (λ (l : List Mark). AreMarks t l) (sym c.as_slice.ensures.value) (c.in_ok-marks.ensures (gone_by s m) (placed_by s m) c.requires.asked.exchange) in
    without_times s whole c.requires.next m tt c.requires.allowed c.count_of_marks-states.result (c.count_of_marks-states.ensures t marks)

pub returns-then-most-both-clause-least : goal.returns-then-most-both-clause-least
returns-then-most-both-clause-least c =
    let s = c.args.board.now.state in
    let m : RepairMove = Detail c.args.root.now.id c.args.alternative in
    let t : PlanState = with_plan (gone_by s m) (placed_by s m) s in
    let whole : IsWhole s = subst (λ (u : PlanState). IsWhole u) c.state-state.ensures.value (c.state-state.ensures.whole c.requires.unspoiled) in
    let marks : AreMarks t c.as_slice.result.now = subst (λ (l : List Mark). AreMarks t l) (sym c.as_slice.ensures.value) (c.in_ok-marks.ensures (gone_by s m) (placed_by s m) c.requires.asked.exchange) in
    let some : c.count_of_marks-states.result ≤ count_of_states t = c.count_of_marks-states.ensures t marks in
    with_times s whole c.requires.next m tt c.requires.allowed c.times_by_choice.new.past.items c.in_ok-times.ensures.of_plan c.in_ok-times.ensures.different c.count_of_marks-states.result c.in_ok-times.times c.saturating_add-both.result some c.in_ok-times.ensures.least (omega (arith, c.saturating_add-both.ensures))

pub returns-clause-least : goal.returns-clause-least
returns-clause-least c =
    let s = c.args.board.now.state in
    let m : RepairMove = Detail c.args.root.now.id c.args.alternative in
    let t : PlanState = with_plan (gone_by s m) (placed_by s m) s in
    let whole : IsWhole s = subst (λ (u : PlanState). IsWhole u) c.state-state.ensures.value (c.state-state.ensures.whole c.requires.unspoiled) in
    let marks : AreMarks t c.as_slice-2.result.now = subst (λ (l : List Mark). AreMarks t l) (sym c.as_slice-2.ensures.value) (c.in_ok-add_broken_musts.ensures c.in_ok-marks.ensures (gone_by s m) (placed_by s m) c.requires.asked.exchange) in
    let some : c.count_of_marks.result ≤ count_of_states t = c.count_of_marks.ensures t marks in
    with_times s whole c.requires.next m tt c.requires.allowed c.times_by_choice.new.past.items c.in_ok-times.ensures.of_plan c.in_ok-times.ensures.different c.count_of_marks.result c.in_ok-times.times c.saturating_add.result some c.in_ok-times.ensures.least (omega (arith, c.saturating_add.ensures))
