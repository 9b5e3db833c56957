use Rattle.pl_choose.proofs.Remembered.{was_fewest}
use Rattle.pl_choose.proofs.remembering.remember_trial.Goals as goal

pub remember_before-requires-clause-fewest : goal.remember_before-requires-clause-fewest
remember_before-requires-clause-fewest c = rw (c.deref.ensures.value, c.deref-2.ensures.value) (was_fewest c.args.board.now.state c.args.moves.now c.args.best.now c.args.trial c.place_of-place.result c.requires.chosen c.place_of-place.ensures)
