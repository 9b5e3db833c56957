use Rattle.pl_moves.proofs.change.placed_by.Goals as goal

pub returns-in-Add : goal.returns-in-Add
returns-in-Add c = rw c.in-Add.is c.add.ensures
