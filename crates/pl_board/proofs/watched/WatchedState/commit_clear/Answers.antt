use Rattle.std.proofs.Common.{◌≡◌, ◌≤◌, List, false, All, IfSome, slice_get, sym, ◌∙◌, subst}
use Rattle.pl_conflict.specs.declared.conflict.Conflict.{Conflict}
use Rattle.pl_semantics.specs.Conflicts.{conflicts_of}
use Rattle.pl_semantics.specs.Grants.{touches_before}
use Rattle.pl_semantics.proofs.Granting.{untouched}
use Rattle.pl_update.proofs.AboutChanges.Keeping.{whole_committed}
use Rattle.pl_update.proofs.AboutGoalsAndActivities.Granted.{committed_same}
use Rattle.pl_update.proofs.AboutTimelines.StandingLater.{lines_committed}
use Rattle.pl_board.proofs.watched.WatchedState.commit_clear.Goals as goal

pub returns-clause-watched : goal.returns-clause-watched
returns-clause-watched c =
    let w = c.args.self.now in
    let s = w.state in
    let h = c.args.h in
    let watched = c.requires.watched in
    let first = subst (λ (ks : List Conflict). IfSome (slice_get ks 0) (λ (k : Conflict). h ≤ k.from)) watched.found c.requires.clear in
    let free : All (λ (k : Conflict). touches_before h k ≡ false) (conflicts_of s) = (untouched s h).1 first in
    record {
      whole = whole_committed s h watched.whole c.requires.least c.requires.most;
      values = watched.values;
      timelines = lines_committed s h w.lines watched.timelines;
      store = watched.store;
      found = watched.found ∙ sym (committed_same s h c.requires.least free);
    }
