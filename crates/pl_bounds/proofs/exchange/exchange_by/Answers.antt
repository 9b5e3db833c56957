use Rattle.std.proofs.Common.{List, subst}
use Rattle.std.specs.Prelude.{All}
use Rattle.pl_semantics.specs.declared.demand.Demand.{Demand}
use Rattle.pl_bounds.specs.UnmetMusts.{IsLeftBy}
use Rattle.pl_bounds.proofs.exchange.exchange_by.Goals as goal

pub returns : goal.returns
returns c = record {
  asking = c.requires.asking;
  left = subst (λ (ds : List Demand). All (IsLeftBy c.args.board.now.state ds) c.in_ok-left.left.items) c.as_slice.ensures.value c.in_ok-left.ensures;
}
