use Rattle.std.proofs.Common.{◌≡◌, drop}
use Rattle.std.specs.List.{list_any}
use Rattle.pl_plan.specs.declared.repair.RepairMove.TheVariants.{Shift}
use Rattle.pl_semantics.specs.Candidates.{same_move}
use Rattle.pl_cand.proofs.cuts.contains_shift.Given as goal

-- none so far
abbrev pub invariant-loop-other : goal.invariant-loop-other
invariant-loop-other l = list_any (same_move (Shift l.id l.start)) (drop l.other-index l.kept) ≡ list_any (same_move (Shift l.id l.start)) l.kept
