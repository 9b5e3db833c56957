use Rattle.std.proofs.Common.{◌≡◌, ◌-◌, ◌∙◌, arith, ap}
use Rattle.pl_stn.specs.Nets.{edges_to_origin}
use Rattle.pl_stn.proofs.Additions.{well_formed_first}
use Rattle.pl_stn.proofs.net.Net.new.Goals as goal

pub returns-clause-well_formed : goal.returns-clause-well_formed
returns-clause-well_formed c =
    let all : c.loop-earlier.earlier ≡ c.args.points - 1 = omega arith in
    rw (c.loop-earlier.invariant ∙ ap edges_to_origin all) (well_formed_first c.args.points c.requires.some c.requires.few)
