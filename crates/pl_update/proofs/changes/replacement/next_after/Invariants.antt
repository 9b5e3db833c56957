use Rattle.std.proofs.Common.{◌≡◌, take}
use Rattle.pl_update.specs.Changes.Replaced.{next_after}
use Rattle.pl_update.proofs.changes.replacement.next_after.Given as goal

abbrev pub invariant-loop-a : goal.invariant-loop-a
invariant-loop-a l = l.next ≡ next_after l.initial.next (take l.a-index l.placed)
