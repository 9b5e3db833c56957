use Rattle.std.proofs.Common.{◌≡◌, drop}
use Rattle.pl_semantics.specs.Slots.{first_filling}
use Rattle.pl_semantics.proofs.slots.first_filling.Given as goal

-- none so far
abbrev pub invariant-loop-id : goal.invariant-loop-id
invariant-loop-id l = first_filling l.s.plan.activities l.parent l.slot (drop l.id-index l.ids) ≡ first_filling l.s.plan.activities l.parent l.slot l.ids
