use Rattle.std.proofs.Common.{ap, ◌∙◌, set}
use Rattle.pl_blocks.proofs.Mends.{set_over_two}
use Rattle.pl_blocks.proofs.mending.put_over_two.Goals as goal

pub returns : goal.returns
returns c = ap (λ l. set l c.args.place c.args.block) c.remove.ensures.items ∙ set_over_two c.args.place c.args.blocks.now.items c.args.block c.requires
