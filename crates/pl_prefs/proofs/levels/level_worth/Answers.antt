use Rattle.pl_detect.proofs.Grounds.{level_based}
use Rattle.pl_prefs.proofs.levels.level_worth.Goals as goal

pub since-requires-clause-base : goal.since-requires-clause-base
since-requires-clause-base c = level_based c.args.s.now c.requires.whole c.args.line c.requires.level
