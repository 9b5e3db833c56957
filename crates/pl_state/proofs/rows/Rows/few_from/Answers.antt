use Rattle.std.proofs.Common.{drop}
use Rattle.pl_state.specs.Rows.{is_covered, EndsAt}
use Rattle.pl_state.proofs.Nearby.{ends_within, if_some_weaker}
use Rattle.pl_state.proofs.rows.Rows.few_from.Goals as goal

pub returns-in-Some : goal.returns-in-Some
returns-in-Some g c =
    let p = is_covered g.T.Keyed.key c.args.bound in
    let all = drop c.args.from c.args.self.now in
    if_some_weaker (λ n. EndsAt p c.in-Some.items.now n) (λ n. EndsAt p all n) c.few_covered.result (λ n e. ends_within p all c.in-Some.items.now n c.in-Some.ensures.1 e) c.few_covered.ensures
