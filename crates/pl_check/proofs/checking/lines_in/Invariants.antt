use Rattle.std.proofs.Common.{◌≡◌, ◌++◌, drop}
use Rattle.pl_check.specs.Drafting.{lines_in}
use Rattle.pl_check.proofs.checking.lines_in.Given as goal

-- the rest gives the whole
abbrev pub invariant-loop-draft : goal.invariant-loop-draft
invariant-loop-draft l = l.lines ++ lines_in (drop l.draft-index l.drafts) ≡ lines_in l.drafts
