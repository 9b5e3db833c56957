use denote.Param.{param}
use denote.Param.Send.{sendable}
use Rattle.std.proofs.Crossing.{crosses}
use Rattle.pl_pair.proofs.Crossing.{worker_send, hired_send}
use Rattle.pl_pair.proofs.pairing.hire.Goals as goal

pub spawn_with-started-requires-send-F : goal.spawn_with-started-requires-send-F
spawn_with-started-requires-send-F g c κs within =
    let ls = κs.1.1.1.1.1.1 in
    let h = hired_send ls.0 ls.1.0 ls.1.1.0 ls.1.1.1.0 (param 1 g.row.R) (param 2 g.row.G) c.type_bounds.sync-R c.type_bounds.sync-G in
    record { owned = h.owned; leaving = h.leaving }

pub spawn_with-started-requires-send-T : goal.spawn_with-started-requires-send-T
spawn_with-started-requires-send-T g c κs within = search (worker_send, sendable, crosses) depth 40 fits 6000
