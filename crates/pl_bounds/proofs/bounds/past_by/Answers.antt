use Rattle.std.proofs.Common.{ℕ, ◌≤◌, List, sym, subst}
use Rattle.std.specs.Prelude.{All}
use Rattle.pl_semantics.specs.declared.plan_state.PlanState.{PlanState}
use Rattle.pl_semantics.specs.Whole.{IsWhole}
use Rattle.pl_update.specs.Changes.Replaced.{with_plan}
use Rattle.pl_moves.specs.Changes.{gone_by, placed_by}
use Rattle.pl_bounds.specs.Asked.{IsAskedBy}
use Rattle.pl_bounds.specs.Sides.{HasLimit, times_past}
use Rattle.pl_bounds.specs.Steps.{IsAdditionOf}
use Rattle.pl_bounds.specs.declared.sorting.Addition.{Addition}
use Rattle.pl_bounds.proofs.Summing.{leaves, leaves_both, can_place, once_gone}
use Rattle.pl_bounds.proofs.bounds.past_by.Goals as goal

pub past_after-requires-clause-additions : goal.past_after-requires-clause-additions
past_after-requires-clause-additions c =
    let all = rw c.in-Some.is at c.requires.run.additions in
    subst (λ (xs : List Addition). All (IsAdditionOf c.in-Some.asking) xs) (sym c.as_slice.ensures.value) all

pub returns-in-Some : goal.returns-in-Some
returns-in-Some c =
    let s = c.args.board.now.state in
    let m = c.args.mv.now in
    let whole : IsWhole s = subst (λ (t : PlanState). IsWhole t) c.state-state.ensures.value (c.state-state.ensures.whole c.requires.unspoiled) in
    let limits : All (HasLimit s) c.args.outsides.now = λ i d lt. (c.requires.of_plan i d lt).limit in
    let known = rw c.in-Some.is at c.requires.run.known.asking in
    let asked : IsAskedBy s (gone_by s m) (placed_by s m) c.in-Some.asking c.start_of.result =
    subst (λ (n : ℕ). IsAskedBy s (gone_by s m) (placed_by s m) c.in-Some.asking n) (sym c.start_of.ensures) (known m c.requires.allowed c.requires.alike) in
    let few : c.past_after.result ≤ times_past (with_plan (gone_by s m) (placed_by s m) s) c.args.outsides.now =
    c.past_after.ensures (gone_by s m) (placed_by s m) (can_place s m whole c.requires.next c.requires.allowed c.requires.activities) (once_gone s whole m) asked in
    leaves s m whole c.requires.next c.requires.allowed c.requires.activities c.args.outsides.now c.requires.different limits c.past_after.result few

pub returns-in-None : goal.returns-in-None
returns-in-None c = leaves_both c.args.board.now.state c.args.mv.now
