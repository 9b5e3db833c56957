use Rattle.pl_main.proofs.Showing.{kept_passes}
use Rattle.pl_main.proofs.demo.show_text.Goals as goal

pub unreachable-requires : goal.unreachable-requires
unreachable-requires g c = kept_passes _ _ c.requires.keeps (rw c.in-Refused.is at (rw c.in_ok-_line.was at c.model_of.ensures.accepts))
