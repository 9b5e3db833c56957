use Rattle.std.proofs.Common.{◌≡◌, drop, take, length, All, count_by}
use Rattle.pl_check.proofs.LoopLemmas.{each_made_from}
use Rattle.pl_check.specs.Drafting.{kinds_in}
use Rattle.pl_check.specs.Finding.{is_kind}
use Rattle.pl_check.specs.Sound.{IsSoundDraft}
use Rattle.pl_check.specs.Numbering.{numbered_item, numbered_items}
use Rattle.pl_check.proofs.drafting.number_items.Given as goal

-- the rest gives the whole
abbrev pub invariant-loop-item : goal.invariant-loop-item
invariant-loop-item l = record {
  kinds : length (kinds_in l.all) ≡ count_by is_kind (take l.item-index l.items);
  sound : All (IsSoundDraft (count_by is_kind l.items)) l.all;
  rest : each_made_from (numbered_item l.items) l.all (drop l.item-index l.items) ≡ numbered_items l.items;
}
