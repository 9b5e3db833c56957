use Rattle.std.proofs.Common.{◌≡◌}
use Rattle.std.specs.List.{list_any}
use Rattle.std.specs.Map.{values_of}
use Rattle.pl_links.specs.Filed.{is_partner_but}
use Rattle.pl_links.proofs.walking.has_partner_among.Given as goal

abbrev pub invariant-loop-other : goal.invariant-loop-other
invariant-loop-other l = list_any (is_partner_but l.link l.own l.gone l.mine) l.other-iterator ≡ list_any (is_partner_but l.link l.own l.gone l.mine) (values_of l.items.entries)
