use Rattle.std.proofs.Common.{w64}
use Rattle.std.proofs.lemmas.Int.{to_z-of_z}
use Rattle.pl_times.proofs.Ends.{known_from, known_below_from}
use Rattle.pl_times.proofs.bounding.bounds_about.Goals as goal

pub earliest_times-requires : goal.earliest_times-requires
earliest_times-requires c = known_from c.args.net.now c.args.known.now c.args.ceiling c.requires.net c.requires.known c.requires.ceiling c.requires.above

pub latest_times-requires : goal.latest_times-requires
latest_times-requires c =
    rw (to_z-of_z w64 c.args.ceiling c.ranges.ceiling)
    (known_below_from c.args.net.now c.args.known.now c.args.ceiling c.requires.net c.requires.known c.requires.ceiling c.requires.above)
