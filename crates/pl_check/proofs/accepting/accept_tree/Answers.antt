use Rattle.pl_check.proofs.accepting.accept_tree.Goals as goal

pub returns-in-Ok-clause-checked : goal.returns-in-Ok-clause-checked
returns-in-Ok-clause-checked c = c.in-Ok.ensures.sound c.args.text.now c.requires.1.0
