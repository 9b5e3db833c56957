use Rattle.std.proofs.Common.{◌≡◌, drop}
use Rattle.std.specs.List.{position_from}
use Rattle.pl_check.specs.Finding.{is_bindable_named}
use Rattle.pl_check.proofs.finding.bindable_named.Given as goal

-- the rest gives the whole
abbrev pub invariant-loop-place : goal.invariant-loop-place
invariant-loop-place l = position_from (is_bindable_named l.name) l.place (drop l.place l.params) ≡ position_from (is_bindable_named l.name) 0 l.params
