use Rattle.std.proofs.Common.{◌≡◌, ◌<◌, ◌++◌, ◌∷◌, [], length, true, false, rules, arith, sym, ◌∙◌}
use Rattle.std.specs.List.{list_any}
use Rattle.std.proofs.lemmas.Grind.{common_steps}
use Rattle.pl_semantics.specs.Candidates.{same_move}
use Rattle.pl_cand.proofs.Keeping.{stand_new}
use Rattle.pl_cand.proofs.cuts.add_if_new.Goals as goal

pub returns-clause-stand : goal.returns-clause-stand
returns-clause-stand c = λ P rest is.
    let m = c.args.mv.now in
    let kept = c.args.kept.now.items in
    let room : length kept < 256 = first_of (omega arith, grind (arith, common_steps)) in
    let worth : c.args.worth ≡ true = first_of (search rules, grind (arith, common_steps)) in
    let fresh : list_any (same_move m) kept ≡ false = first_of (search rules, grind (arith, common_steps)) in
    let more : c.push.new.self.items ≡ kept ++ m ∷ [] = first_of (search rules, grind (arith, common_steps)) in
    rw more (stand_new P kept m rest room (sym is ∙ worth) fresh)

pub returns-clause-marked : goal.returns-clause-marked
returns-clause-marked c =
    let more : c.push.new.self.items ≡ c.args.kept.now.items ++ c.args.mv.now ∷ [] = first_of (search rules, grind (arith, common_steps)) in
    rw more (c.mark.ensures.marked c.args.kept.now.items c.requires.marked)
