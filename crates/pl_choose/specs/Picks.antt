-- What the choosers propose.
use Rattle.std.specs.Prelude.{ℕ, ◌%◌, ◌==◌, nat_le, Bool, List, find, length, slice_get, Option, option_and_then, if◌then◌else◌}
use Rattle.std.specs.List.{list_all}
use Rattle.std.specs.Option.{option_map}
use Rattle.rand_pcg.specs.Lcg.{Lcg}
use Rattle.rand_pcg.specs.Pcg.{pcg32}
use Rattle.pl_conflict.specs.declared.conflict.Conflict.{Conflict}
use Rattle.pl_plan.specs.declared.repair.RepairMove.{RepairMove}
use Rattle.pl_semantics.specs.declared.plan_state.PlanState.{PlanState}
use Rattle.pl_semantics.specs.Conflicts.{conflicts_of}
use Rattle.pl_semantics.specs.Legal.{has_repair, legal_for, left_after, repairable}
use Rattle.pl_cand.specs.declared.proposal.Proposal.{Proposal}
use Rattle.pl_choose.specs.declared.draw.Draw.{Draw}
use Rattle.pl_choose.specs.declared.draw.Draw.TheVariants.{AsLeast, AtRandom}

abbrev pub proposal : Conflict → RepairMove → Proposal
proposal k m = record { conflict = k; mv = m }

-- ---- the fewest conflicts left

-- it leaves no more conflicts than any of these does
abbrev pub leaves_fewest : PlanState → List RepairMove → RepairMove → Bool
leaves_fewest s moves m = list_all (λ other. nat_le (left_after s m) (left_after s other)) moves

-- the first of them that leaves the fewest
abbrev pub fewest : PlanState → List RepairMove → Option RepairMove
fewest s moves = find (leaves_fewest s moves) moves

abbrev pub fewest_for : PlanState → Conflict → Option Proposal
fewest_for s k = option_map (proposal k) (fewest s (legal_for s k))

-- the first conflict that has a legal candidate, with that one of its legal candidates that leaves the fewest conflicts, the
-- first among equals
unfoldable pub least_pick : PlanState → Option Proposal
least_pick s = option_and_then (fewest_for s) (find (has_repair s) (conflicts_of s))

-- ---- by chance

-- the item that a random word picks
abbrev pub picked_by : {T : Type 0} → ℕ → List T → Option T
picked_by word all = slice_get all (word % length all)

abbrev pub picked_for : PlanState → ℕ → Conflict → Option Proposal
picked_for s word k = option_map (proposal k) (picked_by word (legal_for s k))

-- of the conflicts that have a legal candidate the one that a random word picks, with that one of its legal candidates that another
-- word picks
unfoldable pub random_pick : PlanState → ℕ → ℕ → Option Proposal
random_pick s word other = option_and_then (picked_for s other) (picked_by word (repairable s))

-- ---- by the words of a generator

-- its next word
unfoldable pub word_of : Lcg → ℕ
word_of g = (pcg32 g).0

-- the generator after its next word
unfoldable pub after_word : Lcg → Lcg
after_word g = (pcg32 g).1

-- One in eight words asks for a choice by chance: those that 8 divides.
unfoldable pub is_random : ℕ → Bool
is_random word = (word % 8) == 0

-- by chance with the two words that follow, or as `Least` does
unfoldable pub draw_of : Lcg → Draw
draw_of g = if is_random (word_of g) then AtRandom (word_of (after_word g)) (word_of (after_word (after_word g))) else AsLeast

abbrev pub pick_by : PlanState → Draw → Option Proposal
pick_by s AsLeast = least_pick s
pick_by s (AtRandom conflict repair) = random_pick s conflict repair

unfoldable pub seeded_pick : PlanState → Lcg → Option Proposal
seeded_pick s g = pick_by s (draw_of g)

-- one word is drawn or three, whatever the plan
unfoldable pub seeded_after : Lcg → Lcg
seeded_after g = if is_random (word_of g) then after_word (after_word (after_word g)) else after_word g
