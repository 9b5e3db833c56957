use Rattle.pl_update.proofs.AboutChanges.Keeping.{whole_with_next, conflicts_next}
use Rattle.pl_update.proofs.AboutTimelines.StandingLater.{lines_next}
use Rattle.pl_memo.proofs.Remembering.{remembered_next}
use Rattle.pl_board.proofs.board.Board.reset_next.Goals as goal

pub invariant_of-self : goal.invariant_of-self
invariant_of-self c =
    let w = c.self.inside.watched in
    let least = rw (← c.self.view_is) at c.requires.least in
    let most = rw (← c.self.view_is) at c.requires.most in
    record {
      watched = λ e.
          let kept = c.self.invariant.watched e in
          record {
            whole = whole_with_next w.state c.args.id kept.whole least.0 least.1 most;
            values = kept.values;
            timelines = lines_next w.state c.args.id w.lines kept.timelines;
            store = kept.store;
            found = rw (conflicts_next w.state c.args.id) kept.found;
          };
      remembered = λ e. remembered_next w.state c.args.id c.self.inside.memory (c.self.invariant.remembered e);
    }
