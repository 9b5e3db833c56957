use Rattle.pl_turn.proofs.Sifting.{sifted}
use Rattle.pl_turn.proofs.laws.own_entries_are_picked.Goals as goal

pub returns : goal.returns
returns g c = λ test history opening before own after. sifted test history opening before after own
