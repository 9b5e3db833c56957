use Rattle.std.proofs.Common.{◌≡◌, ◌-◌, suc, length, arith, ap, ◌∙◌, set}
use Rattle.pl_points.specs.Spans.{span}
use Rattle.pl_points.proofs.Cuts.{cut_set}
use Rattle.pl_points.proofs.cutting.cut_end.Goals as goal

pub returns-then-count-gt0 : goal.returns-then-count-gt0
returns-then-count-gt0 c =
    let xs = c.args.spans.now.items in
    let n = c.len-count.result - 1 in
    let p = c.index-span.result.now in
    let len : length xs ≡ suc n = omega (arith, c.if-count-gt0.true, c.len-count.ensures) in
    ap (λ k. set xs n (span p.from k)) c.min.ensures ∙ cut_set xs n c.args.at p len c.index-span.ensures
