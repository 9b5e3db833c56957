use Rattle.std.proofs.Common.{◌≡◌, ◌<◌, length, Some, refl, sym}
use Rattle.std.specs.List.{slice_get}
use Rattle.std.proofs.lemmas.Bool.{ltb-true}
use Rattle.std.proofs.lemmas.Option.{slice_get_read}
use Rattle.pl_plan.proofs.Ids.{guessed}
use Rattle.pl_plan.proofs.searching.guess.Goals as goal

pub returns-then-found-id : goal.returns-then-found-id
returns-then-found-id c =
    let xs = c.args.activities.now in
    let at = c.in_ok-at.at in
    let within : at < length xs = ltb-true at (length xs) (sym c.in_ok-found.ensures.lookup.0) in
    let here : slice_get xs at ≡ Some c.in_ok-found.found.now = slice_get_read xs (length xs) at c.in_ok-found.found.now refl within c.in_ok-found.ensures.lookup.1 in
    guessed xs c.requires.rising c.args.id at c.in_ok-found.found.now here c.if-found-id.true
