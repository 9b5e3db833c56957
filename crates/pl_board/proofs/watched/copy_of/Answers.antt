use Rattle.std.proofs.Common.{◌∙◌, ap, []}
use Rattle.pl_conflict.specs.Sorting.{exchanged}
use Rattle.pl_board.proofs.Watching.{all_exchanged}
use Rattle.pl_board.proofs.watched.copy_of.Goals as goal

pub returns : goal.returns
returns c = c.in_ok-exchange.ensures.ok ∙ ap (λ l. exchanged l [] c.deref.result.now) c.new-copy.ensures ∙ ap (λ l. exchanged [] [] l) (c.deref.ensures.value ∙ c.in_ok-all.ensures.items) ∙ all_exchanged c.args.set.now c.in_ok-all.ensures.sorted
