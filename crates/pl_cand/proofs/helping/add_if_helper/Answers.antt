use Rattle.std.proofs.Common.{◌≡◌, ◌<◌, ◌++◌, ◌∷◌, [], length, true, rules, arith}
use Rattle.std.proofs.lemmas.Grind.{common_steps}
use Rattle.pl_cand.specs.Helping.{is_helper}
use Rattle.pl_cand.proofs.Keeping.{helpers_more}
use Rattle.pl_cand.proofs.helping.add_if_helper.Goals as goal

pub returns-in_ok-push : goal.returns-in_ok-push
returns-in_ok-push c = λ rest.
    let found = c.args.found.now.items in
    let room : length found < 4 = first_of (omega arith, grind (arith, common_steps)) in
    let is : is_helper c.args.timeline c.args.help (c.args.number, c.args.kind.now) ≡ true = first_of (search rules, grind (arith, common_steps)) in
    let more : c.push.new.self.items ≡ found ++ c.args.number ∷ [] = first_of (search rules, grind (arith, common_steps)) in
    rw more (helpers_more c.args.timeline c.args.help found (c.args.number, c.args.kind.now) rest room is)
