use Rattle.std.proofs.Common.{◌≡◌, take}
use Rattle.std.specs.Prelude.{◌||◌}
use Rattle.std.specs.List.Sorted.{IsStrictlySortedBy}
use Rattle.pl_links.specs.declared.broken.Broken.{Broken}
use Rattle.pl_links.specs.Sets.{broken_cmp, has}
use Rattle.pl_links.proofs.exchange.insert_all.Given as goal

abbrev pub invariant-loop-at : goal.invariant-loop-at
invariant-loop-at l = record {
  members : (b : Broken) → has b l.listed.keys ≡ (has b l.initial.listed.keys || has b (take l.at l.came));
  ordered : IsStrictlySortedBy broken_cmp l.listed.keys;
}
