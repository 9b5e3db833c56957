use Rattle.std.proofs.Common.{Option, None, sym, subst, ap}
use Rattle.std.specs.Prelude.{option_and_then}
use Rattle.pl_choose.specs.declared.repairs.Repairs.{Repairs}
use Rattle.pl_choose.specs.Found.{AreFirst}
use Rattle.pl_choose.specs.Picks.{fewest_for, least_pick}
use Rattle.pl_choose.proofs.least.choose_among.Goals as goal

pub returns-in-Ok-None-clause-picks : goal.returns-in-Ok-None-clause-picks
unfolding least_pick
returns-in-Ok-None-clause-picks c =
    let s = c.args.board.now.state in
    let P : Option Repairs → Type 0 = λ o. AreFirst s o in
    let none : AreFirst s None = subst P c.in-Ok-None.field-0-is c.in-Ok-None.ensures in
    sym (ap (option_and_then (fewest_for s)) none)
