use Rattle.std.proofs.Common.{◌≡◌, ◌<◌, List, length, ap, arith}
use Rattle.pl_model.specs.declared.alternatives.Alternative.{Alternative}
use Rattle.pl_semantics.specs.Moves.{alternatives_at}
use Rattle.pl_choose.proofs.Promise.{alternative_foremost}
use Rattle.pl_choose.proofs.promising.first_alternative.Goals as goal

pub returns-in-len1-up-clause-foremost : goal.returns-in-len1-up-clause-foremost
returns-in-len1-up-clause-foremost c =
    let s = c.args.state.now in
    let a = c.args.a.now in
    let same : length c.alternatives_of.result.now ≡ length (alternatives_at s a) = ap (λ (l : List Alternative). length l) c.alternatives_of.ensures in
    let some : 0 < length (alternatives_at s a) = omega (arith, same, c.in-len1-up.len_at_least) in
    alternative_foremost s a some
