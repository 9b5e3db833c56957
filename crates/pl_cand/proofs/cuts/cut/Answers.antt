use Rattle.std.proofs.Common.{◌≤◌, drop, length, take, filter, rules, arith, sym, ap, ◌∙◌}
use Rattle.pl_semantics.specs.Candidates.{is_worth}
use Rattle.pl_cand.proofs.Keeping.{stand_end, once_is, nothing_left}
use Rattle.pl_cand.proofs.cuts.cut.Goals as goal

pub returns : goal.returns
returns c =
    let s = c.args.state.now in
    let xs = c.args.tried.now in
    let past : length xs ≤ c.loop-mv.mv-index = first_of (omega arith, search rules) in
    sym (stand_end (is_worth s) c.loop-mv.kept.items (drop c.loop-mv.mv-index xs) (nothing_left xs c.loop-mv.mv-index past))
    ∙ c.loop-mv.invariant.stand
    ∙ ap (take 256) (sym (once_is (filter (is_worth s) xs)))
