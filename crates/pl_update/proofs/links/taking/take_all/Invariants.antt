use Rattle.std.proofs.Common.{◌≡◌, drop}
use Rattle.pl_links.specs.Kept.{IsFor}
use Rattle.pl_update.specs.Links.Telling.{TellsAll, all_without}
use Rattle.pl_update.proofs.links.taking.take_all.Given as goal

-- without the rest too it is the whole
abbrev pub invariant-loop-id : goal.invariant-loop-id
invariant-loop-id l = record {
  items : all_without (drop l.id-index l.gone) l.links.items ≡ all_without l.gone l.initial.links.items;
  told : TellsAll l.initial.told.items l.told.items l.initial.links.broken l.links.broken;
  model : IsFor l.model l.links;
}
