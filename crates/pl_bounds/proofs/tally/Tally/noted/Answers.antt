use Rattle.std.proofs.Common.{◌+◌, ◌≤◌, arith}
use Rattle.pl_bounds.specs.Risings.{rise}
use Rattle.pl_bounds.proofs.Tallied.{one_more}
use Rattle.pl_bounds.proofs.tally.Tally.noted.Goals as goal

pub returns : goal.returns
returns c = λ P from end is tally.
    let few : c.saturating_add.result ≤ c.args.self.times + rise c.args.self.before c.args.holds = omega arith in
    one_more P from end c.args.self c.args.at c.saturating_add.result c.args.holds is tally (omega arith) (omega arith) few
