use Rattle.pl_turn.proofs.Owning.{opens_with}
use Rattle.pl_turn.proofs.lock.TurnLock.new.Goals as goal

pub new-requires : goal.new-requires
new-requires g c = opens_with g.V.Logged.entries c.args.value _ _ _ c.of-opening.ensures c.in_ok-slots.ensures.ok c.logged.ensures
