use Rattle.std.proofs.Common.{ℕ, List, length, ap, ◌∙◌}
use Rattle.pl_conflict.specs.declared.conflict.Conflict.{Conflict}
use Rattle.pl_entry.specs.declared.entry.Entry.{Entry}
use Rattle.pl_semantics.specs.Conflicts.{conflicts_of}
use Rattle.pl_board.specs.Boards.{Standing}
use Rattle.pl_main.proofs.Summing.{summed}
use Rattle.pl_main.proofs.demo.summary_line.Goals as goal

pub returns : goal.returns
returns c =
    let sound = c.conflicts.ensures (ap (λ (b : Standing). b.spoiled) c.board-board.ensures ∙ c.requires) in
    let listed = c.in_ok-conflicts.ensures.items ∙ (sound ∙ ap (λ (b : Standing). conflicts_of b.state) c.board-board.ensures) in
    summed c.args.goals _ _ _ _ c.args.machine.now.log c.args.machine.now.world _ _ _ _ _ _ _ (c.len.ensures ∙ ap (λ (l : List Entry). length l) c.log.ensures.entries)
    (rw c.board-board.ensures at (rw c.plan.ensures at c.len-2.ensures.len)) (ap (λ (l : List ℕ). length l) c.dispatched.ensures) (ap (λ (l : List Conflict). length l) (c.as_slice.ensures.value ∙ listed))
    c.new-line.ensures.items c.in_ok-push_counted.ensures c.in_ok-push_counted-2.ensures c.in_ok-push_counted-3.ensures c.in_ok-push_counted-4.ensures c.in_ok-push_counted-5.ensures c.in_ok-push.ensures.items
