use Rattle.std.proofs.Common.{refl}
use Rattle.pl_flex.proofs.Timed.{moments, points, timed}
use Rattle.pl_flex.proofs.flexing.flex_between.Goals as goal

pub windows_among-requires-clause-early : goal.windows_among-requires-clause-early
windows_among-requires-clause-early c = rw c.as_slice.ensures (moments c.args.s.now c.requires.whole c.requires.few c.args.early.times c.requires.early.solution)

pub windows_among-requires-clause-late : goal.windows_among-requires-clause-late
windows_among-requires-clause-late c = rw c.as_slice-2.ensures (moments c.args.s.now c.requires.whole c.requires.few c.args.late.times c.requires.late.solution)

pub windows_among-requires-clause-early_points : goal.windows_among-requires-clause-early_points
windows_among-requires-clause-early_points c = rw (c.as_slice.ensures, c.requires.firm) (points c.args.s.now c.requires.whole c.requires.few c.args.early.times c.requires.early.solution)

pub windows_among-requires-clause-late_points : goal.windows_among-requires-clause-late_points
windows_among-requires-clause-late_points c = rw (c.as_slice-2.ensures, c.requires.firm) (points c.args.s.now c.requires.whole c.requires.few c.args.late.times c.requires.late.solution)

pub invariant_of-result : goal.invariant_of-result
invariant_of-result c =
    timed c.args.s.now c.requires.whole c.requires.few _ _ c.args.early c.args.late c.requires.net c.requires.early c.requires.late
    (rw (c.from_vec.ensures, c.in_ok-windows.ensures, c.as_slice.ensures, c.as_slice-2.ensures, c.requires.firm) refl)
