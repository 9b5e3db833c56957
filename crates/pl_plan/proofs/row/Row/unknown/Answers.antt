use Rattle.std.proofs.Common.{None}
use Rattle.std.proofs.lemmas.List.{take-replicate}
use Rattle.pl_plan.proofs.row.Row.unknown.Goals as goal

pub returns : goal.returns
returns c = take-replicate c.args.count 16 None c.requires
