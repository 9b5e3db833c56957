use Rattle.pl_cand.proofs.Checks.{present_most}
use Rattle.pl_cand.proofs.reading.floor.Goals as goal

pub floor-requires : goal.floor-requires
floor-requires c = present_most c.args.state.now c.requires
