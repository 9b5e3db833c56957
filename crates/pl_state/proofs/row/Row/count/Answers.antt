use Rattle.std.proofs.Common.{rules, ◌≡◌, subst, sym, ◌∙◌, take, drop}
use Rattle.std.proofs.lemmas.List.Sorted.{IsPartitionPoint-from_clause}
use Rattle.pl_points.proofs.Parting.{parting}
use Rattle.pl_lists.specs.Lists.{front, back}
use Rattle.pl_state.specs.Keys.{AreSorted}
use Rattle.pl_state.specs.Rows.{is_covered}
use Rattle.pl_state.proofs.InRows.{parted_covered}
use Rattle.pl_state.proofs.row.Row.count.Goals as goal

pub returns-clause-front : goal.returns-clause-front
returns-clause-front g c =
    let p = is_covered g.T.Keyed.key c.args.bound in
    let xs = c.deref.result.now in
    let same = c.deref.ensures.value ∙ c.self.view_is in
    subst (λ l. take c.partition_point.result l ≡ front p l) same (parting p xs c.partition_point.result c.partition_point.ensures.bound (parted_covered g.T.Keyed.key c.args.bound xs (subst (λ l. AreSorted g.T.Keyed.key l) (sym same) c.requires)) (λ parted. IsPartitionPoint-from_clause p _ _ c.partition_point.ensures.partitioned parted (λ a r q k. search rules))).0

pub returns-clause-rest : goal.returns-clause-rest
returns-clause-rest g c =
    let p = is_covered g.T.Keyed.key c.args.bound in
    let xs = c.deref.result.now in
    let same = c.deref.ensures.value ∙ c.self.view_is in
    subst (λ l. drop c.partition_point.result l ≡ back p l) same (parting p xs c.partition_point.result c.partition_point.ensures.bound (parted_covered g.T.Keyed.key c.args.bound xs (subst (λ l. AreSorted g.T.Keyed.key l) (sym same) c.requires)) (λ parted. IsPartitionPoint-from_clause p _ _ c.partition_point.ensures.partitioned parted (λ a r q k. search rules))).1
