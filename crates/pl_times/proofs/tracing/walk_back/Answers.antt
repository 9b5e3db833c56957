use Rattle.std.proofs.Common.{◌≡◌, length-append, ◌∷◌, [], arith, Some, sym, ◌∙◌}
use Rattle.pl_stn.specs.Causes.{cause_of}
use Rattle.pl_times.specs.Mirror.{mirrored}
use Rattle.pl_times.proofs.Paths.{traced_none}
use Rattle.pl_times.proofs.Backwards.{back_edge, back_more, back_all}
use Rattle.pl_times.proofs.tracing.walk_back.Goals as goal

pub steps-init : goal.steps-init
steps-init c = traced_none (mirrored c.args.net.now) _ _ _ c.new-walk.ensures.items c.requires.point

pub steps-preserved : goal.steps-preserved
steps-preserved c =
    let t = rw c.as_slice-causes.ensures at c.steps.invariant in
    let cause : cause_of c.args.late.now.causes c.steps.at ≡ Some c.in-Some.number = rw c.as_slice-causes.ensures at (sym c.slot_at.ensures ∙ c.in-Some.is) in
    rw (c.as_slice-causes.ensures, c.in_ok-push.ensures.items, c.edge_at-at.ensures)
    (back_more _ _ c.requires.joined c.requires.late _ _ _ c.in-Some.number t cause).0

pub steps-smaller : goal.steps-smaller
steps-smaller c =
    let t = rw c.as_slice-causes.ensures at c.steps.invariant in
    let cause : cause_of c.args.late.now.causes c.steps.at ≡ Some c.in-Some.number = rw c.as_slice-causes.ensures at (sym c.slot_at.ensures ∙ c.in-Some.is) in
    let less = (back_more _ _ c.requires.joined c.requires.late _ _ _ c.in-Some.number t cause).1 in
    rw c.in_ok-push.ensures.items (omega (arith, less, length-append c.steps.walk.items (c.in-Some.number ∷ [])))

pub returns : goal.returns
returns c =
    let t = rw c.as_slice-causes.ensures at c.steps.invariant in
    back_all _ _ c.requires.joined c.requires.late _ _ _ t (rw c.as_slice-causes.ensures at (sym c.slot_at.ensures ∙ c.in_default.is))

pub edge_at-at-requires : goal.edge_at-at-requires
edge_at-at-requires c =
    let cause : cause_of c.args.late.now.causes c.steps.at ≡ Some c.in-Some.number = rw c.as_slice-causes.ensures at (sym c.slot_at.ensures ∙ c.in-Some.is) in
    back_edge _ _ c.requires.joined c.requires.late c.steps.at c.in-Some.number cause
