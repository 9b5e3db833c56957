use Rattle.std.proofs.Common.{◌≡◌, take, ap, ◌∙◌, ◌^◌}
use Rattle.pl_points.specs.Mending.{cut_last}
use Rattle.pl_points.proofs.Cuts.{cut_before}
use Rattle.pl_points.proofs.cutting.keep_before.Goals as goal

pub returns : goal.returns
returns c =
    let xs = c.args.spans.now.items in
    let front : take c.begun_count-count.result xs ≡ _ = rw c.deref.ensures.value at c.begun_count-count.ensures.before in
    c.cut_end.ensures ∙ (ap (cut_last c.args.at) (c.truncate.ensures.items ∙ front) ∙ cut_before c.args.at 0 (2 ^ 32) xs c.requires)
