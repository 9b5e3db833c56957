use Rattle.std.proofs.Common.{ltb, rules}
use Rattle.std.proofs.lemmas.List.Sorted.{IsPartitionedBy-ltb, IsPartitionPoint-from_clause}
use Rattle.pl_plan.specs.declared.activity.Activity.{Activity}
use Rattle.pl_machine.proofs.Places.{ids_rise, below_point}
use Rattle.pl_machine.proofs.counting.count_all_below.Goals as goal

pub returns : goal.returns
returns c =
    let xs = c.args.activities.now in
    let id = c.args.id in
    below_point id _ xs c.partition_point.ensures.bound
    (IsPartitionPoint-from_clause (λ (a : Activity). ltb a.id id) _ _ c.partition_point.ensures.partitioned (IsPartitionedBy-ltb (λ (a : Activity). a.id) xs id (ids_rise xs 0 c.requires)) (λ a r q k. search rules))
