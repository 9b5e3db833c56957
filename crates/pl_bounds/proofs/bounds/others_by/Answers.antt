use Rattle.pl_bounds.proofs.Summing.{leaves_both}
use Rattle.pl_bounds.proofs.bounds.others_by.Goals as goal

pub returns-in-Drop : goal.returns-in-Drop
returns-in-Drop c = leaves_both c.args.board.now.state c.args.mv.now
