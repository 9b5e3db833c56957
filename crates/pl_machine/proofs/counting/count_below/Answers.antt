use Rattle.std.proofs.Common.{sym, ◌∙◌, ap}
use Rattle.std.specs.Option.{option_copied}
use Rattle.pl_machine.proofs.Places.{below_none}
use Rattle.pl_machine.proofs.counting.count_below.Goals as goal

pub returns-in-Some : goal.returns-in-Some
returns-in-Some c = below_none c.args.id c.args.activities.now c.in-Some.activity.now c.requires (sym c.first.ensures.value ∙ ap option_copied c.in-Some.is) c.if-id-activity.true
