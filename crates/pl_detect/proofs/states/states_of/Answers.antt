use Rattle.pl_detect.proofs.Bounded.{bounded_in}
use Rattle.pl_detect.proofs.Grounds.{wider_base}
use Rattle.pl_detect.proofs.states.states_of.Goals as goal

pub add_all-requires : goal.add_all-requires
add_all-requires c = bounded_in c.args.s.now c.requires.whole c.args.demands.now c.requires.demands

pub since-requires-clause-base : goal.since-requires-clause-base
since-requires-clause-base c = wider_base c.args.s.now c.args.line c.requires.base
