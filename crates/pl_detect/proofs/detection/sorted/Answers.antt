use Rattle.std.proofs.Common.{◌∙◌, [], ap}
use Rattle.pl_conflict.specs.Sorting.{exchanged}
use Rattle.pl_detect.proofs.detection.sorted.Goals as goal

pub returns : goal.returns
unfolding exchanged
returns c = c.in_ok-exchange.ensures.ok ∙ ap (λ ks. exchanged ks [] c.args.conflicts.now) c.new-set.ensures
