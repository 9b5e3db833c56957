use Rattle.std.proofs.Common.{◌≡◌, take}
use Rattle.std.specs.Prelude.{◌&&◌, not}
use Rattle.std.specs.List.Sorted.{IsStrictlySortedBy}
use Rattle.pl_links.specs.declared.broken.Broken.{Broken}
use Rattle.pl_links.specs.Sets.{broken_cmp, has}
use Rattle.pl_links.proofs.exchange.remove_all.Given as goal

abbrev pub invariant-loop-broken : goal.invariant-loop-broken
invariant-loop-broken l = record {
  members : (b : Broken) → has b l.listed.keys ≡ (has b l.initial.listed.keys && not (has b (take l.broken-index l.went)));
  ordered : IsStrictlySortedBy broken_cmp l.listed.keys;
}
