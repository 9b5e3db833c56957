use Rattle.std.proofs.Common.{◌≤◌, List, subst}
use Rattle.pl_plan.specs.declared.repair.RepairMove.{RepairMove}
use Rattle.pl_plan.specs.declared.repair.RepairMove.TheVariants.{Detail}
use Rattle.pl_moves.specs.Changes.{gone_by, placed_by}
use Rattle.pl_update.specs.Changes.Replaced.{with_plan}
use Rattle.pl_bounds.specs.Sides.{times_past}
use Rattle.pl_bounds.specs.declared.outside.Outside.{Outside}
use Rattle.pl_bounds.proofs.Exchanged.{asked_so}
use Rattle.pl_bounds.proofs.choices.times_by_choice.Goals as goal

pub returns-clause-least : goal.returns-clause-least
returns-clause-least c =
    let s = c.args.board.now.state in
    let m : RepairMove = Detail c.args.root.now.id c.args.alternative in
    let a = c.args.asking.now in
    let x = c.requires.asked.exchange in
    let few = c.past_after.ensures (gone_by s m) (placed_by s m) x.can x.once (asked_so s m a x c.requires.asked.start) in
    subst (λ (l : List Outside). c.past_after.result ≤ times_past (with_plan (gone_by s m) (placed_by s m) s) l) c.as_slice-4.ensures.value few
