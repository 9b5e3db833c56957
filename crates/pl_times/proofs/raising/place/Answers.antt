use Rattle.std.proofs.Common.{FitsSigned, w64, rules, arith, refl, ap, set}
use Rattle.std.proofs.lemmas.Int.{to_z-of_z, ints}
use Rattle.pl_times.proofs.raising.place.Goals as goal

pub returns : goal.returns
returns c =
    let fits_time : FitsSigned w64 c.args.time = search rules in
    let same = to_z-of_z w64 c.args.time fits_time in
    record {
      floor = refl;
      times = ap (λ x. set c.args.rising.now.times.items c.args.point x) same;
      causes = refl;
      queue = grind (arith, ints, c.in_ok-enqueue.ensures.moved);
      more = c.in_ok-enqueue.ensures.more;
    }
