use Rattle.std.proofs.Common.{◌≡◌}
use Rattle.std.specs.Prelude.{◌&&◌}
use Rattle.std.specs.List.{list_any}
use Rattle.pl_links.specs.declared.keys.Key.{Key}
use Rattle.pl_links.specs.Keys.{lies, is_other}
use Rattle.pl_links.proofs.index.Index.has_other_within.Given as goal

abbrev pub invariant-loop-key : goal.invariant-loop-key
invariant-loop-key l = list_any (λ (k : Key). is_other l.own l.gone k.id) l.key-iterator ≡ list_any (λ (k : Key). lies l.group l.from l.to k && is_other l.own l.gone k.id) l.self
