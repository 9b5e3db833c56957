use Rattle.std.proofs.Common.{◌≡◌, ◌<◌, ℕ, ltb, true, Some, sym, subst, arith, rules}
use Rattle.std.proofs.lemmas.Bool.{ltb-true}
use Rattle.std.specs.Option.{option_map}
use Rattle.pl_links.specs.Items.{fills}
use Rattle.pl_plan.specs.Trees.{children_of}
use Rattle.pl_semantics.specs.declared.plan_state.PlanState.{PlanState}
use Rattle.pl_semantics.specs.Links.{placed_of}
use Rattle.pl_semantics.specs.PlanStates.{found}
use Rattle.pl_semantics.specs.Whole.{IsWhole}
use Rattle.pl_bounds.proofs.Slots.{below_next, child_there, found_passing}
use Rattle.pl_bounds.proofs.orders.child_in.Goals as goal

pub returns-then-fills : goal.returns-then-fills
returns-then-fills c =
    let s = c.args.board.now.state in
    let whole : IsWhole s = subst (λ (t : PlanState). IsWhole t) c.state-state.ensures.value (c.state-state.ensures.whole c.requires) in
    let is : option_map (placed_of s) (found s c.in-Some.id) ≡ Some c.in_ok-child.child = sym c.in_ok-child.ensures in
    let fill : fills c.args.parent c.args.slot c.in_ok-child.child ≡ true = search rules in
    child_there s whole c.in-Some.id c.args.parent c.args.slot c.in_ok-child.child is fill

pub children-smaller : goal.children-smaller
children-smaller c =
    let s = c.args.board.now.state in
    let whole : IsWhole s = subst (λ (t : PlanState). IsWhole t) c.state-state.ensures.value (c.state-state.ensures.whole c.requires) in
    let is : option_map (placed_of s) (found s c.in-Some.id) ≡ Some c.in_ok-child.child = sym c.in_ok-child.ensures in
    let below : c.in-Some.id < s.next_id = below_next s whole c.in-Some.id c.in_ok-child.child is in
    let behind : c.children.last < c.in-Some.id = ltb-true c.children.last c.in-Some.id (found_passing (ltb c.children.last) (λ (n : ℕ). Unit {0}) (children_of c.args.parent c.plan.result.now.activities) (λ k d lt. tt) c.in-Some.id (sym c.in-Some.ensures)).0 in
    omega (arith, below, behind)
