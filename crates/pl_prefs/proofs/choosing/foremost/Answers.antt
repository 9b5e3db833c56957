use Rattle.std.proofs.Common.{arith, rules, ◌≤ℤ◌}
use Rattle.std.specs.Prelude.{◌<ℤ◌}
use Rattle.std.proofs.lemmas.Int.{ints}
use Rattle.pl_prefs.specs.Chances.{number_at}
use Rattle.pl_prefs.proofs.Chosen.{most_takes, most_keeps}
use Rattle.pl_prefs.proofs.choosing.foremost.Goals as goal

pub bounds-gains-place : goal.bounds-gains-place
bounds-gains-place c = omega (arith, c.requires.most.reached, c.requires.within)

pub returns-then-gains-place : goal.returns-then-gains-place
returns-then-gains-place c =
    let more : number_at c.args.gains.now c.args.place <ℤ number_at c.args.gains.now c.args.number = first_of (search rules, omega (arith, ints, c.if-gains-place.true)) in
    most_takes c.args.gains.now c.args.number c.args.place c.requires.most more

pub returns-else-gains-place : goal.returns-else-gains-place
returns-else-gains-place c =
    let no_more : number_at c.args.gains.now c.args.number ≤ℤ number_at c.args.gains.now c.args.place = first_of (search rules, omega (arith, ints, c.if-gains-place.false)) in
    most_keeps c.args.gains.now c.args.number c.args.place c.requires.most no_more
