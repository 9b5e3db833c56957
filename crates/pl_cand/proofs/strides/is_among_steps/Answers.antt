use Rattle.std.proofs.Common.{◌≡◌, false, rules, arith, to_z, of_z, w64}
use Rattle.std.specs.List.{list_any}
use Rattle.std.specs.Ordering.{int_eq}
use Rattle.std.specs.Prelude.{◌<ℤ◌}
use Rattle.std.proofs.lemmas.Grind.{common_steps}
use Rattle.std.proofs.lemmas.Int.{ints}
use Rattle.pl_semantics.specs.Starts.{steps_from}
use Rattle.pl_cand.proofs.Steps.{meet_kept, meet_past}
use Rattle.pl_cand.proofs.strides.is_among_steps.Goals as goal

pub returns-then-next-high : goal.returns-then-next-high
returns-then-next-high c =
    let low : to_z w64 (of_z w64 c.args.low) ≡ c.args.low = search rules in
    let high : to_z w64 (of_z w64 c.args.high) ≡ c.args.high = search rules in
    let number : to_z w64 (of_z w64 c.args.number) ≡ c.args.number = search rules in
    let past : c.args.high <ℤ c.loop-left.next = first_of (search rules, omega (arith, ints), grind (arith, common_steps)) in
    let none : list_any (int_eq c.args.number) (steps_from c.loop-left.left c.loop-left.next c.args.high c.args.step) ≡ false = meet_past c.args.number c.loop-left.next c.args.high c.loop-left.left c.args.step past in
    first_of (cc (none, low, high, number, c.loop-left.invariant), search rules, grind (arith, common_steps))

pub loop-left-preserved : goal.loop-left-preserved
loop-left-preserved c =
    meet_kept _ _ c.loop-left.left _ _ _ c.args.step c.loop-left.invariant
    (first_of (search rules, grind (arith, common_steps))) (search rules) (omega arith) (search rules)
