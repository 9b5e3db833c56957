use Rattle.std.proofs.Common.{◌≡◌, ◌++◌, take}
use Rattle.std.specs.List.{flat_map}
use Rattle.pl_plan.specs.declared.repair.RepairMove.TheVariants.{Add}
use Rattle.pl_semantics.specs.Starts.{starting}
use Rattle.pl_cand.proofs.starts.add_news.Given as goal

abbrev pub invariant-loop-start : goal.invariant-loop-start
invariant-loop-start l = l.out.items ≡ l.initial.out.items ++ flat_map (starting l.state (λ start. Add l.kind start l.goal)) (take l.start-index l.starts)
