use Rattle.std.proofs.Common.{◌+◌, ap, ◌∙◌, set, arith}
use Rattle.pl_blocks.proofs.Mends.{set_two}
use Rattle.pl_blocks.proofs.mending.put_two.Goals as goal

pub returns-clause-ok : goal.returns-clause-ok
returns-clause-ok c = ap (λ l. set l (c.args.place + 1) c.args.second) c.in_ok-insert.ensures.items ∙ set_two c.args.place (c.args.place + 1) c.args.blocks.now.items c.args.first c.args.second c.requires (omega arith)
