use Rattle.pl_update.proofs.AboutEvaluations.Keeping.{are_none}
use Rattle.pl_update.proofs.AboutTimelines.StandingLater.{lines_first}
use Rattle.pl_board.proofs.Linking.{kept_none}
use Rattle.pl_board.proofs.watched.WatchedState.new.Goals as goal

pub returns-clause-watched : goal.returns-clause-watched
returns-clause-watched c = record {
  whole = c.requires.whole;
  values = rw c.new-2.ensures (are_none c.args.state c.requires.none);
  timelines = rw c.in_ok-lines.ensures (lines_first c.args.state c.requires.none);
  store = kept_none c.args.state c.new-3.result c.requires.none c.new-3.ensures.items c.new-3.ensures.broken;
  found = c.in_ok-conflicts.ensures;
}
