use Rattle.std.proofs.Common.{ltb, rules}
use Rattle.std.proofs.lemmas.List.Sorted.{IsPartitionedBy-ltb, IsPartitionPoint-from_clause}
use Rattle.pl_plan.specs.declared.activity.Activity.{Activity}
use Rattle.pl_plan.specs.Latest.{group_of}
use Rattle.pl_plan.proofs.Noting.{groups_rise, before_point}
use Rattle.pl_plan.proofs.latest.count_all_before.Goals as goal

pub returns-clause-before : goal.returns-clause-before
returns-clause-before c =
    let xs = c.args.activities.now in
    let group = c.args.group in
    before_point group _ xs (IsPartitionPoint-from_clause (λ (a : Activity). ltb (group_of a.id) group) _ _ c.partition_point.ensures.partitioned (IsPartitionedBy-ltb (λ (a : Activity). group_of a.id) xs group (groups_rise xs 0 c.requires)) (λ a r q k. search rules))
