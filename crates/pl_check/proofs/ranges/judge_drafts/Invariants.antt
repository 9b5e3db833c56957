use Rattle.std.proofs.Common.{◌≡◌, drop}
use Rattle.pl_check.specs.Judgements.{each}
use Rattle.pl_check.specs.Ranges.{range_in_draft}
use Rattle.pl_check.proofs.ranges.judge_drafts.Given as goal

-- the rest gives the whole
abbrev pub invariant-loop-draft : goal.invariant-loop-draft
invariant-loop-draft l = each (range_in_draft l.horizon) (drop l.draft-index l.drafts) ≡ each (range_in_draft l.horizon) l.drafts
