use Rattle.std.proofs.Common.{◌∙◌}
use Rattle.pl_state.proofs.Looking.{found}
use Rattle.pl_state.proofs.missing.contains.Goals as goal

pub returns : goal.returns
returns c = c.is_ok.ensures.value ∙ found c.args.ordered.now c.args.span.now c.binary_search.result c.requires c.binary_search.ensures.bound c.binary_search.ensures.position
