use Rattle.std.proofs.Common.{rules, ◌^◌}
use Rattle.std.proofs.lemmas.List.Sorted.{IsPartitionPoint-from_clause}
use Rattle.pl_points.specs.Mending.{ends_before}
use Rattle.pl_points.proofs.Parting.{parting}
use Rattle.pl_points.proofs.Cuts.{parted_ended}
use Rattle.pl_points.proofs.cutting.ended_count.Goals as goal

pub returns-clause-before : goal.returns-clause-before
returns-clause-before c = (parting (ends_before c.args.at) c.args.spans.now c.partition_point.result c.partition_point.ensures.bound (parted_ended c.args.at 0 (2 ^ 32) c.args.spans.now c.requires) (λ parted. IsPartitionPoint-from_clause (ends_before c.args.at) _ _ c.partition_point.ensures.partitioned parted (λ a r q k. search rules))).0

pub returns-clause-rest : goal.returns-clause-rest
returns-clause-rest c = (parting (ends_before c.args.at) c.args.spans.now c.partition_point.result c.partition_point.ensures.bound (parted_ended c.args.at 0 (2 ^ 32) c.args.spans.now c.requires) (λ parted. IsPartitionPoint-from_clause (ends_before c.args.at) _ _ c.partition_point.ensures.partitioned parted (λ a r q k. search rules))).1
