use Rattle.std.proofs.Common.{◌≡◌, take}
use Rattle.std.specs.Prelude.{filter}
use Rattle.pl_flex.specs.FlexNets.{is_firm}
use Rattle.pl_flex.proofs.placing.firm_among.Given as goal

-- the firm ones so far
abbrev pub invariant-loop-item : goal.invariant-loop-item
invariant-loop-item l = l.all.items ≡ filter is_firm (take l.item-index l.placed)
