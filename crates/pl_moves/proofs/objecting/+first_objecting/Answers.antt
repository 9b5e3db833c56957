use Rattle.std.proofs.Common.{◌≡◌, ◌<◌, ℕ, true, false, Option, Some, None, find, ltb, sym, subst, arith, rules}
use Rattle.pl_plan.specs.Trees.{children_of}
use Rattle.pl_plan.proofs.Subtrees.{named_live}
use Rattle.pl_semantics.specs.PlanStates.{found}
use Rattle.pl_moves.specs.Objections.{objects}
use Rattle.pl_moves.proofs.Foremost.{IsLeast, IsSoFar, first_itself, first_of_leaf, first_of_all, none_so_far, more_so_far, next_is, childless, child_id}
use Rattle.pl_moves.proofs.objecting.+first_objecting.Goals as goal

pub returns-then-objects : goal.returns-then-objects
returns-then-objects t c =
    let s = c.args.s.now in
    let whole = c.requires.whole in
    let here : found s c.args.top ≡ Some c.in_ok-a.a.now = sym c.in_ok-a.ensures.value in
    let passes : objects s c.args.objection c.in_ok-a.a.now ≡ true = search rules in
    first_itself s.plan.activities whole.fits.rooted whole.rising (objects s c.args.objection) c.args.top c.in_ok-a.a.now here passes

pub returns-then-is_none : goal.returns-then-is_none
returns-then-is_none t c =
    let s = c.args.s.now in
    let whole = c.requires.whole in
    let a = c.in_ok-a.a.now in
    let here : found s c.args.top ≡ Some a = sym c.in_ok-a.ensures.value in
    let fails : objects s c.args.objection a ≡ false = search rules in
    let bare : a.detail ≡ None = search rules in
    first_of_leaf s.plan.activities whole.fits.rooted whole.rising (objects s c.args.objection) c.args.top a here fails (childless s whole c.args.top a here bare)

pub loop-child-init : goal.loop-child-init
loop-child-init t c =
    let s = c.args.s.now in
    none_so_far s.plan.activities c.requires.whole.fits.rooted c.requires.whole.rising (objects s c.args.objection) c.args.top

pub loop-child-preserved : goal.loop-child-preserved
loop-child-preserved t c =
    let s = c.args.s.now in
    let whole = c.requires.whole in
    let test = objects s c.args.objection in
    subst (λ (o : Option ℕ). IsLeast (IsSoFar s.plan.activities test c.args.top c.in-Some.child) o) (sym c.lesser-first.ensures)
    (more_so_far s.plan.activities whole.fits.rooted whole.rising test c.args.top c.loop-child.last c.in-Some.child c.loop-child.first c.first_objecting.result (sym c.in-Some.ensures) c.loop-child.invariant c.first_objecting.ensures)

pub loop-child-smaller : goal.loop-child-smaller
loop-child-smaller t c =
    let s = c.args.s.now in
    let whole = c.requires.whole in
    let next = next_is s.plan.activities whole.fits.rooted whole.rising (objects s c.args.objection) c.args.top c.loop-child.last c.in-Some.child (sym c.in-Some.ensures) in
    let below : c.in-Some.child < s.next_id = child_id s whole c.in-Some.child c.args.top next.0 in
    let behind : c.loop-child.last < c.in-Some.child = next.1.0 in
    omega (arith, below, behind)

pub first_objecting-requires : goal.first_objecting-requires
first_objecting-requires t c =
    let s = c.args.s.now in
    let whole = c.requires.whole in
    let next = next_is s.plan.activities whole.fits.rooted whole.rising (objects s c.args.objection) c.args.top c.loop-child.last c.in-Some.child (sym c.in-Some.ensures) in
    let below : c.in-Some.child < s.next_id = child_id s whole c.in-Some.child c.args.top next.0 in
    let larger : c.args.top < c.in-Some.child = next.1.1 in
    (omega (arith, below, larger, c.decreases), (whole, named_live s.plan.activities c.in-Some.child c.args.top next.0))

pub returns : goal.returns
returns t c =
    let s = c.args.s.now in
    let whole = c.requires.whole in
    let a = c.in_ok-a.a.now in
    let here : found s c.args.top ≡ Some a = sym c.in_ok-a.ensures.value in
    let fails : objects s c.args.objection a ≡ false = search rules in
    let end : find (ltb c.loop-child.last) (children_of c.args.top s.plan.activities) ≡ None = search rules in
    first_of_all s.plan.activities whole.fits.rooted whole.rising (objects s c.args.objection) c.args.top a here fails c.loop-child.last c.loop-child.first end c.loop-child.invariant
