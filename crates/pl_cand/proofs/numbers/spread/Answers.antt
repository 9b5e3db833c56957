use Rattle.std.proofs.Common.{◌≡◌, rules, arith, pos}
use Rattle.std.specs.Prelude.{◌≤ℤ◌}
use Rattle.std.proofs.lemmas.Int.{ints}
use Rattle.std.proofs.lemmas.List.Elements.{All-same}
use Rattle.pl_semantics.specs.Starts.{spread}
use Rattle.pl_cand.specs.Near.{IsSmall}
use Rattle.pl_cand.proofs.Small.{spread_small}
use Rattle.pl_cand.proofs.numbers.spread.Goals as goal

pub from_zero-requires : goal.from_zero-requires
from_zero-requires c =
    let low : pos 0 ≤ℤ pos c.args.low = omega (arith, ints) in
    let high : pos c.args.high ≤ℤ pos 4294967295 = omega (arith, ints) in
    let same : c.as_slice.result.now ≡ spread (pos c.args.low) (pos c.args.high) = search rules in
    All-same IsSmall c.as_slice.result.now (spread (pos c.args.low) (pos c.args.high)) same (spread_small (pos c.args.low) (pos c.args.high) low high)
