use Rattle.std.proofs.Common.{◌≡◌, length-append, ◌∷◌, [], arith, Some, sym, ◌∙◌}
use Rattle.pl_stn.specs.Causes.{cause_of}
use Rattle.pl_times.proofs.Paths.{traced_more, traced_all, traced_none}
use Rattle.pl_times.proofs.tracing.walk_to_origin.Goals as goal

pub steps-init : goal.steps-init
steps-init c = traced_none _ _ _ _ c.new-walk.ensures.items c.requires.point

pub steps-preserved : goal.steps-preserved
steps-preserved c =
    let t = rw c.as_slice-causes.ensures at c.steps.invariant in
    let cause : cause_of c.args.early.now.causes c.steps.at ≡ Some c.in-Some.number = rw c.as_slice-causes.ensures at (sym c.slot_at.ensures ∙ c.in-Some.is) in
    rw (c.as_slice-causes.ensures, c.in_ok-push.ensures.items, c.edge_at-at.ensures)
    (traced_more _ _ _ c.requires.joined c.requires.early.held _ _ _ c.in-Some.number t cause).0

pub steps-smaller : goal.steps-smaller
steps-smaller c =
    let t = rw c.as_slice-causes.ensures at c.steps.invariant in
    let cause : cause_of c.args.early.now.causes c.steps.at ≡ Some c.in-Some.number = rw c.as_slice-causes.ensures at (sym c.slot_at.ensures ∙ c.in-Some.is) in
    let less = (traced_more _ _ _ c.requires.joined c.requires.early.held _ _ _ c.in-Some.number t cause).1 in
    rw c.in_ok-push.ensures.items (omega (arith, less, length-append c.steps.walk.items (c.in-Some.number ∷ [])))

pub returns : goal.returns
returns c =
    let t = rw c.as_slice-causes.ensures at c.steps.invariant in
    traced_all _ _ _ c.requires.joined c.requires.early.held _ _ _ c.requires.early.solution.origin t (rw c.as_slice-causes.ensures at (sym c.slot_at.ensures ∙ c.in_default.is))

pub edge_at-at-requires : goal.edge_at-at-requires
edge_at-at-requires c =
    let cause : cause_of c.args.early.now.causes c.steps.at ≡ Some c.in-Some.number = rw c.as_slice-causes.ensures at (sym c.slot_at.ensures ∙ c.in-Some.is) in
    (c.requires.early.held.caused.starts c.steps.at c.in-Some.number cause).edge
