use Rattle.std.proofs.Common.{◌≡◌, ◌<◌, arith, rules, FitsSigned, pos, ◌+ℤ◌}
use Rattle.std.specs.Prelude.{neg_ℤ}
use Rattle.std.specs.Int.{w64}
use Rattle.std.proofs.lemmas.Int.{to_z-of_z, ints}
use Rattle.pl_rate.proofs.Gained.{run_gains}
use Rattle.pl_rate.proofs.pushes.push_run.Goals as goal

pub returns : goal.returns
returns c =
    let some : c.args.from < c.args.end = omega arith in
    let back : FitsSigned w64 (neg_ℤ c.args.change) = search rules in
    let zero : pos 0 +ℤ neg_ℤ c.args.change ≡ neg_ℤ c.args.change = omega (arith, ints) in
    rw (c.in_ok-push-2.ensures.items, c.in_ok-push.ensures.items)
    (simp (to_z-of_z, c.ranges.change, zero, back) (run_gains c.args.hinges.now.items c.args.line c.args.from c.args.end c.args.change c.requires some))
