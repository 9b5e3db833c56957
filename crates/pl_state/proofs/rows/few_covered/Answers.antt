use Rattle.std.proofs.Common.{◌≡◌, ◌+◌, ◌-◌, ◌<◌, true, false, refl, arith, length, take, subst}
use Rattle.pl_lists.specs.Lists.{front}
use Rattle.pl_state.specs.Rows.{is_covered}
use Rattle.pl_state.proofs.Nearby.{none_passed, passed_next, stops_there}
use Rattle.pl_state.proofs.rows.few_covered.Goals as goal

pub loop-place-init : goal.loop-place-init
loop-place-init g c = none_passed (is_covered g.T.Keyed.key c.args.bound) c.args.items.now 0

pub loop-place-preserved : goal.loop-place-preserved
loop-place-preserved g c =
    let p = is_covered g.T.Keyed.key c.args.bound in
    let x = c.index-items-place.result in
    let lt : c.loop-place.place < length c.args.items.now = omega (arith, c.loop-place-test.true, c.min-place-end.ensures) in
    let passes : p x ≡ true = cc (c.key.ensures, c.if-not-covers.ensures) in
    passed_next p c.args.items.now 0 c.loop-place.place (c.loop-place.place + 1) x c.loop-place.invariant lt refl c.index-items-place.is passes

pub returns-then-not-covers : goal.returns-then-not-covers
returns-then-not-covers g c =
    let p = is_covered g.T.Keyed.key c.args.bound in
    let xs = c.args.items.now in
    let n = c.loop-place.place in
    let x = c.index-items-place.result in
    let lt : n < length xs = omega (arith, c.loop-place-test.true, c.min-place-end.ensures) in
    let fails : p x ≡ false = cc (c.key.ensures, c.if-not-covers.ensures) in
    let stops = stops_there p xs 0 n x c.loop-place.invariant lt c.index-items-place.is fails in
    let same : n - 0 ≡ n = omega arith in
    record { there = lt; front = subst (λ m. take m xs ≡ front p xs) same stops.0; rest = stops.1 }
