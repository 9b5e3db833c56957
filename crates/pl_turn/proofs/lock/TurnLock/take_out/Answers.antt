use Rattle.std.proofs.Common.{Some}
use Rattle.pl_turn.proofs.Turning.{hand_front}
use Rattle.pl_turn.proofs.lock.TurnLock.take_out.Goals as goal

pub exchange-requires : goal.exchange-requires
exchange-requires g c = (c.requires.own, (Some c.requires.full.0, hand_front c.requires.full.0 _ c.requires.full.1))
