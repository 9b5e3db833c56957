use Rattle.pl_bounds.proofs.left_unmet.is_left_by.Goals as goal

pub returns : goal.returns
returns c = λ free. record { unmet = c.requires.unmet; stays = c.are_of_others.ensures c.if-not-are_of_others.false; decides = c.are_idle.ensures free }
