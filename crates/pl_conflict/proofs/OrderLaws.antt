-- The order of conflicts is total and tells all conflicts apart.
use Rattle.std.proofs.Common.{◌≡◌, ◌≤◌, List, arith}
use Rattle.std.specs.declared.cmp.Ordering.TheVariants.{Equal, Less}
use Rattle.std.specs.Cmp.{IsTotalOrder, then_total, on_total, nat_cmp_total}
use Rattle.std.specs.List.Sorted.{IsStrictlySortedBy}
use Rattle.std.proofs.lemmas.Grind.{common_steps}
use Rattle.std.proofs.lemmas.Map.Lookups.{btree_set_from_contains}
use Rattle.pl_conflict.specs.declared.conflict.Conflict.{Conflict}
use Rattle.pl_conflict.specs.Codes.{code_number}
use Rattle.pl_conflict.specs.Order.{conflict_cmp, has}

pub conflict_total : IsTotalOrder conflict_cmp
conflict_total =
    then_total (on_total (λ (k : Conflict). k.from) nat_cmp_total) (then_total (on_total (λ (k : Conflict). code_number k.code) nat_cmp_total) (then_total (on_total (λ (k : Conflict). k.subject) nat_cmp_total)
    (then_total (on_total (λ (k : Conflict). k.detail) nat_cmp_total) (then_total (on_total (λ (k : Conflict). k.a) nat_cmp_total) (on_total (λ (k : Conflict). k.b) nat_cmp_total)))))

pub conflict_unique : ((x y : Conflict) → conflict_cmp x y ≡ Equal → x ≡ y) → (xs ys : List Conflict) → IsStrictlySortedBy conflict_cmp xs → IsStrictlySortedBy conflict_cmp ys → ((q : Conflict) → has q xs ≡ has q ys) → xs ≡ ys
conflict_unique exact xs ys s t same = btree_set_from_contains conflict_total (record { keys = xs }) (record { keys = ys }) s t same exact

-- of two conflicts in order the first begins no later
pub from_rises : (k q : Conflict) → conflict_cmp k q ≡ Less → k.from ≤ q.from
from_rises k q e = grind (arith, common_steps)

pub conflict_exact : (x y : Conflict) → conflict_cmp x y ≡ Equal → x ≡ y
conflict_exact x y e = grind (arith, common_steps)
