use Rattle.std.proofs.Common.{◌≡◌, ◌+ℤ◌, ◌≤◌, ◌<◌, arith}
use Rattle.std.proofs.lemmas.Int.{ints}
use mir.Val.{to_z, of_z, SFits}
use mir.Syntax.{w64}
use Rattle.pl_bounds.specs.Steps.{steps_on}
use Rattle.pl_bounds.proofs.StepSums.{some_is}
use Rattle.pl_bounds.proofs.added.Added.value_with.Goals as goal

pub returns-then-is_known_at : goal.returns-then-is_known_at
returns-then-is_known_at c = λ o w steps is.
    let at = c.args.look.at in
    let value = c.args.look.value in
    let by = c.args.self.by in
    let from : c.args.self.from ≤ at = c.is_known_at.ensures.from c.if-is_known_at.true in
    let until : at < c.args.self.until = c.is_known_at.ensures.until c.if-is_known_at.true in
    let added : steps_on o w at steps ≡ by = is at from until in
    let x = to_z w64 (of_z w64 value) +ℤ to_z w64 (of_z w64 by) in
    let y = value +ℤ steps_on o w at steps in
    let sum : x ≡ y = omega (arith, ints, added) in
    some_is c.checked_add.result (SFits w64 x) x y c.checked_add.ensures sum
