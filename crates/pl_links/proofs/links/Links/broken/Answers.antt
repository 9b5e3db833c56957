use Rattle.std.proofs.Common.{subst, ap}
use Rattle.pl_links.specs.Items.{AreRising, AreApart}
use Rattle.pl_links.specs.Kept.{Kept, IsSound}
use Rattle.pl_links.proofs.links.Links.broken.Goals as goal

pub returns-clause-rising : goal.returns-clause-rising
returns-clause-rising c = let sound : IsSound c.args.self.now = subst IsSound c.self.view_is c.self.invariant in sound.rising

pub returns-clause-apart : goal.returns-clause-apart
returns-clause-apart c = let sound : IsSound c.args.self.now = subst IsSound c.self.view_is c.self.invariant in sound.apart
