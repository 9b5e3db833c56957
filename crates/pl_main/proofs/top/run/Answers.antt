use Rattle.std.proofs.Common.{◌≡◌, Some}
use Rattle.pl_main.specs.declared.command.Command.TheVariants as command
use Rattle.pl_main.specs.Words.{command_of}
use Rattle.pl_main.proofs.Wording.{pair_fits, crew_fits}
use Rattle.pl_main.proofs.top.run.Goals as goal

pub team_status-requires-clause-turns : goal.team_status-requires-clause-turns
team_status-requires-clause-turns g c κs within =
    let told = c.read_words.ensures in
    let found = c.in-Some-Pair.is in
    let pair = c.in-Some-Pair.field-0-is in
    let is : command_of c.args.words.now ≡ Some (command.Pair c.in-Some-Pair.turns c.in-Some-Pair.seed) = cc in
    pair_fits c.args.words.now c.in-Some-Pair.turns c.in-Some-Pair.seed is

pub team_status-requires-in-Some-Crew-clause-turns : goal.team_status-requires-in-Some-Crew-clause-turns
team_status-requires-in-Some-Crew-clause-turns g c κs within =
    let told = c.read_words.ensures in
    let found = c.in-Some-Crew.is in
    let crew = c.in-Some-Crew.field-0-is in
    let is : command_of c.args.words.now ≡ Some (command.Crew c.in-Some-Crew.turns c.in-Some-Crew.planners c.in-Some-Crew.seed) = cc in
    (crew_fits c.args.words.now c.in-Some-Crew.turns c.in-Some-Crew.planners c.in-Some-Crew.seed is).0

pub team_status-requires-in-Some-Crew-clause-team : goal.team_status-requires-in-Some-Crew-clause-team
team_status-requires-in-Some-Crew-clause-team g c κs within =
    let told = c.read_words.ensures in
    let found = c.in-Some-Crew.is in
    let crew = c.in-Some-Crew.field-0-is in
    let is : command_of c.args.words.now ≡ Some (command.Crew c.in-Some-Crew.turns c.in-Some-Crew.planners c.in-Some-Crew.seed) = cc in
    (crew_fits c.args.words.now c.in-Some-Crew.turns c.in-Some-Crew.planners c.in-Some-Crew.seed is).1
