use Rattle.std.proofs.Common.{◌≤◌, length, arith}
use Rattle.pl_bounds.proofs.Marking.{marks_few}
use Rattle.pl_bounds.proofs.marks.count_of_marks.Goals as goal

pub returns : goal.returns
returns c = λ s are. marks_few s c.args.marks.now c.min.result (let le : c.min.result ≤ length c.args.marks.now = omega (arith, c.min.ensures) in le) are
