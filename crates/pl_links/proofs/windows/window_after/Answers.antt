use Rattle.std.proofs.Common.{◌≡◌, ◌∙◌, rules}
use Rattle.std.specs.Prelude.{◌&&◌, pos, ◌+ℤ◌, int_le}
use Rattle.pl_links.specs.Windows.{in_window}
use Rattle.pl_links.proofs.Distances.{after_is}
use Rattle.pl_links.proofs.windows.window_after.Goals as goal

pub returns-clause-within : goal.returns-clause-within
returns-clause-within c = λ m lt.
    let within : in_window c.clipped.result m ≡ (int_le (pos c.args.moment +ℤ c.args.low) (pos m) && int_le (pos m) (pos c.args.moment +ℤ c.args.high)) = search (rules, c.clipped.ensures.within m lt) in
    within ∙ after_is c.args.moment m c.args.low c.args.high
