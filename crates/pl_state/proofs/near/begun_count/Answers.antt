use Rattle.std.proofs.Common.{rules}
use Rattle.pl_state.specs.Near.{bad_before}
use Rattle.std.proofs.lemmas.List.Sorted.{IsPartitionPoint-from_clause}
use Rattle.pl_points.proofs.Parting.{parting}
use Rattle.pl_state.proofs.Steps.{parted_bad_before}
use Rattle.pl_state.proofs.near.begun_count.Goals as goal

pub returns-clause-before : goal.returns-clause-before
returns-clause-before c = (parting (bad_before c.args.at) c.args.bad.now c.partition_point.result c.partition_point.ensures.bound (parted_bad_before c.args.at 0 c.args.bad.now c.requires) (λ parted. IsPartitionPoint-from_clause (bad_before c.args.at) _ _ c.partition_point.ensures.partitioned parted (λ a r q k. search rules))).0

pub returns-clause-rest : goal.returns-clause-rest
returns-clause-rest c = (parting (bad_before c.args.at) c.args.bad.now c.partition_point.result c.partition_point.ensures.bound (parted_bad_before c.args.at 0 c.args.bad.now c.requires) (λ parted. IsPartitionPoint-from_clause (bad_before c.args.at) _ _ c.partition_point.ensures.partitioned parted (λ a r q k. search rules))).1
