use Rattle.std.proofs.Common.{◌≡◌, ◌++◌, drop, map}
use Rattle.std.specs.Prelude.{filter}
use Rattle.pl_semantics.specs.PlanStates.{numbered}
use Rattle.pl_flex.specs.Windows.{may_move, window_of}
use Rattle.pl_flex.proofs.windows.windows_among.Given as goal

-- the windows so far and those of the other activities
abbrev pub invariant-loop-place : goal.invariant-loop-place
invariant-loop-place l = l.windows.items ++ map (window_of l.early l.late) (filter (may_move l.s) (numbered l.place (drop l.place l.firm))) ≡ map (window_of l.early l.late) (filter (may_move l.s) (numbered 0 l.firm))
