use Rattle.std.proofs.Common.{◌+◌}
use Rattle.std.proofs.lemmas.List.{take_rest}
use Rattle.pl_state.proofs.Keys.{sorted_drop}
use Rattle.pl_state.proofs.Seeking.{run_is}
use Rattle.pl_state.proofs.key.run_of.Goals as goal

pub count_before-requires : goal.count_before-requires
count_before-requires g c = rw (take_rest c.args.list.now c.args.from) (sorted_drop g.T.Keyed.key c.args.from c.args.list.now c.requires.sorted)

pub count_up_to-requires : goal.count_up_to-requires
count_up_to-requires g c =
    let begin = c.args.from + c.count_before.result in
    rw (take_rest c.args.list.now begin) (sorted_drop g.T.Keyed.key begin c.args.list.now c.requires.sorted)

pub returns-clause-cut : goal.returns-clause-cut
returns-clause-cut g c =
    let n = c.count_before.result in
    let m = c.count_up_to.result in
    run_is g.T.Keyed.key c.args.key c.args.list.now _ _ c.args.from n m (take_rest c.args.list.now c.args.from) (take_rest c.args.list.now (c.args.from + n))
    c.count_before.ensures.front c.count_before.ensures.rest c.count_up_to.ensures.front c.count_up_to.ensures.rest
