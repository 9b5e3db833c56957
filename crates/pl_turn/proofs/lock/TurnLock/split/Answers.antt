use Rattle.std.proofs.Common.{arith}
use Rattle.pl_turn.proofs.Crewing.{splits}
use Rattle.pl_turn.proofs.lock.TurnLock.split.Goals as goal

pub split_seat-seat-requires : goal.split_seat-seat-requires
split_seat-seat-requires g c =
    let size = c.args.self.now.sized in
    (c.requires.own.of_lock, omega arith, splits g.V.Logged.entries _ _ c.requires.first c.requires.outside c.requires.own.unspent c.requires.room)
