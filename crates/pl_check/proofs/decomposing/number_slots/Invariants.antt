use Rattle.std.proofs.Common.{◌≡◌, drop, length, All, count_by}
use Rattle.pl_check.specs.Judgements.{each_made}
use Rattle.pl_check.proofs.LoopLemmas.{each_made_from}
use Rattle.pl_check.specs.Finding.{is_kind}
use Rattle.pl_check.specs.Sound.{IsSlotOf}
use Rattle.pl_check.specs.Numbering.{numbered_slot}
use Rattle.pl_check.proofs.decomposing.number_slots.Given as goal

-- the rest gives the whole
abbrev pub invariant-loop-slot : goal.invariant-loop-slot
invariant-loop-slot l = record {
  each_slot : length l.all ≡ l.slot-index;
  kinds : All (IsSlotOf (count_by is_kind l.items)) l.all;
  rest : each_made_from (numbered_slot l.items l.params) l.all (drop l.slot-index l.slots) ≡ each_made (numbered_slot l.items l.params) l.slots;
}
