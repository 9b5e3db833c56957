use Rattle.std.proofs.Common.{◌≡◌, ◌∙◌, rules}
use Rattle.std.specs.Prelude.{◌&&◌, pos, ◌-ℤ◌, int_le}
use Rattle.pl_links.specs.Windows.{in_window}
use Rattle.pl_links.proofs.Distances.{before_is}
use Rattle.pl_links.proofs.windows.window_before.Goals as goal

pub returns-clause-within : goal.returns-clause-within
returns-clause-within c = λ m lt.
    let within : in_window c.clipped.result m ≡ (int_le (pos c.args.moment -ℤ c.args.high) (pos m) && int_le (pos m) (pos c.args.moment -ℤ c.args.low)) = search (rules, c.clipped.ensures.within m lt) in
    within ∙ before_is m c.args.moment c.args.low c.args.high
