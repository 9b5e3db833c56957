use Rattle.std.proofs.Common.{◌≡◌, drop}
use Rattle.pl_links.specs.Kept.{IsFor}
use Rattle.pl_update.specs.Links.Telling.{TellsAll}
use Rattle.pl_update.specs.Links.Placing.{CanPlaceAll, all_with}
use Rattle.pl_update.proofs.links.placing.place_all.Given as goal

-- the rest can be placed, and with it it is the whole
abbrev pub invariant-loop-a : goal.invariant-loop-a
invariant-loop-a l = record {
  can : CanPlaceAll l.s l.links.items (drop l.a-index l.placed);
  items : all_with l.s (drop l.a-index l.placed) l.links.items ≡ all_with l.s l.placed l.initial.links.items;
  told : TellsAll l.initial.told.items l.told.items l.initial.links.broken l.links.broken;
  model : IsFor l.s.model l.links;
}
