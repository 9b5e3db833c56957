use Rattle.std.proofs.Common.{refl}
use Rattle.pl_search.proofs.Home.{made_for_now}
use Rattle.pl_search.proofs.undo.make_trial.Goals as goal

pub returns : goal.returns
returns c = made_for_now c.args.board.now _ _ _ _ _ c.requires.undone c.make_change.new.board c.in_ok-make_change.ensures.ok _ refl refl c.next_id-next.ensures
