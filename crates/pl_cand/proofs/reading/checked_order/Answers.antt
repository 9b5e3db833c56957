use Rattle.pl_semantics.specs.Links.{order_at}
use Rattle.pl_model.specs.declared.alternatives.Order.{Order}
use Rattle.pl_cand.specs.Near.{IsNear}
use Rattle.pl_semantics.proofs.Found.{known_by}
use Rattle.pl_cand.proofs.Checks.{order_is_near}
use Rattle.pl_cand.proofs.reading.checked_order.Goals as goal

pub returns-clause-low : goal.returns-clause-low
returns-clause-low c =
    let s = c.args.state.now in
    let a = c.args.a.now in
    known_by _ (λ (o : Order). IsNear o.low) c.order_at.result (order_at s a c.args.index) c.order_at.ensures (λ o e. (order_is_near s c.requires a c.args.index o e).0)

pub returns-clause-high : goal.returns-clause-high
returns-clause-high c =
    let s = c.args.state.now in
    let a = c.args.a.now in
    known_by _ (λ (o : Order). IsNear o.high) c.order_at.result (order_at s a c.args.index) c.order_at.ensures (λ o e. (order_is_near s c.requires a c.args.index o e).1)
