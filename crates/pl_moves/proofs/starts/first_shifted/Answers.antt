use Rattle.std.proofs.Common.{sym, ◌∙◌}
use Rattle.pl_moves.proofs.Foremost.{first_shifted}
use Rattle.pl_moves.proofs.starts.first_shifted.Goals as goal

pub returns : goal.returns
returns c = c.first_objecting.ensures ∙ first_shifted c.args.s.now c.args.side c.args.id c.args.to c.in_ok-top.top.now (sym c.in_ok-top.ensures.value)
