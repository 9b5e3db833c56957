use Rattle.std.proofs.Common.{refl}
use Rattle.std.specs.Option.{option_copied}
use Rattle.pl_many.proofs.Acting.{fed}
use Rattle.pl_many.proofs.crew.Crew.feed.Goals as goal

pub returns-clause-own : goal.returns-clause-own
returns-clause-own g c = fed c.args.self.now c.args.feeder.now _ c.requires.own c.feed.ensures.own c.feed.ensures.takes (option_copied c.args.line) c.feed.result c.requires.feeder (refl, refl) c.feed.ensures.feeds
