use Rattle.std.proofs.Common.{ℕ, List, sym, subst}
use Rattle.std.specs.Prelude.{All}
use Rattle.pl_semantics.specs.declared.plan_state.PlanState.{PlanState}
use Rattle.pl_semantics.specs.Whole.{IsWhole}
use Rattle.pl_update.specs.Changes.Replaced.{with_plan}
use Rattle.pl_moves.specs.Changes.{gone_by, placed_by}
use Rattle.pl_bounds.specs.Asked.{IsAskedBy}
use Rattle.pl_bounds.specs.Marks.{AreMarks}
use Rattle.pl_bounds.specs.UnmetMusts.{IsLeftBy}
use Rattle.pl_bounds.specs.declared.marks.Mark.{Mark}
use Rattle.pl_bounds.specs.declared.unmet_musts.UnmetMust.{UnmetMust}
use Rattle.pl_bounds.proofs.Exchanged.{exchange_at, states_then}
use Rattle.pl_bounds.proofs.bounds_with_states.states_after.Goals as goal

pub marks_left-requires-clause-left : goal.marks_left-requires-clause-left
marks_left-requires-clause-left c =
    subst (λ (us : List UnmetMust). All (IsLeftBy c.args.board.now.state c.args.exchange.now.asking.going.items) us) (sym c.as_slice.ensures.value) c.requires.exchange.left

pub returns : goal.returns
returns c =
    let s = c.args.board.now.state in
    let m = c.args.mv.now in
    let a = c.args.exchange.now.asking in
    let t : PlanState = with_plan (gone_by s m) (placed_by s m) s in
    let whole : IsWhole s = subst (λ (u : PlanState). IsWhole u) c.state-state.ensures.value (c.state-state.ensures.whole c.requires.unspoiled) in
    let asked : IsAskedBy s (gone_by s m) (placed_by s m) a c.start_of-start.result =
    subst (λ (n : ℕ). IsAskedBy s (gone_by s m) (placed_by s m) a n) (sym c.start_of-start.ensures) (c.requires.exchange.asking m c.requires.allowed c.requires.alike) in
    let exchange = exchange_at s whole c.requires.next m c.requires.activities c.requires.allowed a c.start_of-start.result asked in
    let marks : AreMarks t c.add_coming_musts.new.marks.items = c.in_ok-add_coming_musts.ensures c.in_ok-marks.ensures (gone_by s m) (placed_by s m) exchange in
    let seen : AreMarks t c.as_slice-2.result.now = subst (λ (ks : List Mark). AreMarks t ks) (sym c.as_slice-2.ensures.value) marks in
    states_then s whole c.requires.next m c.requires.activities c.requires.allowed c.count_of_marks.result (c.count_of_marks.ensures t seen)
