use Rattle.std.proofs.Common.{ap, ◌∙◌}
use Rattle.pl_update.specs.Timelines.Laws.{gone_from}
use Rattle.pl_bounds.specs.declared.asking.Asking.{Asking}
use Rattle.pl_bounds.proofs.Shifting.{deletion_asks}
use Rattle.pl_bounds.proofs.asking.deleted.Goals as goal

pub returns : goal.returns
returns c = λ id is.
    let s = c.args.board.now.state in
    let a : Asking = record { going = c.in_ok-going.going; coming = c.new.result; start = 0 } in
    deletion_asks s id a (c.in_ok-going.ensures ∙ ap (gone_from s) is) c.new.ensures.items
