-- The order of conflicts, and what a list of them holds.
use Rattle.std.specs.Prelude.{List, Bool}
use Rattle.std.specs.declared.cmp.Ordering.{Ordering}
use Rattle.std.specs.Ordering.{nat_cmp, ordering_then}
use Rattle.std.specs.List.{list_any}
use Rattle.std.specs.BTreeMap.{is_at}
use Rattle.pl_conflict.specs.declared.conflict.Conflict.{Conflict}
use Rattle.pl_conflict.specs.Codes.{code_number}

-- conflicts go by their fields in turn
abbrev pub conflict_cmp : Conflict → Conflict → Ordering
conflict_cmp a b =
    ordering_then (nat_cmp a.from b.from) (ordering_then (nat_cmp (code_number a.code) (code_number b.code)) (ordering_then (nat_cmp a.subject b.subject)
    (ordering_then (nat_cmp a.detail b.detail) (ordering_then (nat_cmp a.a b.a) (nat_cmp a.b b.b)))))

-- whether a list holds the conflict
abbrev pub has : Conflict → List Conflict → Bool
has k ks = list_any (is_at (conflict_cmp k)) ks
