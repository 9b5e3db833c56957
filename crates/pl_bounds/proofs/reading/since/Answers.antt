use Rattle.std.specs.Prelude.{slice_get}
use Rattle.pl_detect.proofs.Grounds.{level_based}
use Rattle.pl_bounds.proofs.Limits.{over_is_capacity, low_is_level, high_is_level, capacity_since}
use Rattle.pl_bounds.proofs.reading.since.Goals as goal

pub since_told-requires-clause-base : goal.since_told-requires-clause-base
since_told-requires-clause-base c = level_based c.args.s.now c.requires.whole c.args.line (low_is_level (slice_get c.args.s.now.model.timelines c.args.line) (rw c.in-Low.is at c.requires.limited))

pub since_told-requires-in-High-clause-base : goal.since_told-requires-in-High-clause-base
since_told-requires-in-High-clause-base c = level_based c.args.s.now c.requires.whole c.args.line (high_is_level (slice_get c.args.s.now.model.timelines c.args.line) (rw c.in-High.is at c.requires.limited))

pub returns-in-Over : goal.returns-in-Over
returns-in-Over c = capacity_since c.args.s.now c.requires.whole c.args.line (over_is_capacity (slice_get c.args.s.now.model.timelines c.args.line) (rw c.in-Over.is at c.requires.limited))
