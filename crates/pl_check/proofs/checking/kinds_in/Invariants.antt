use Rattle.std.proofs.Common.{◌≡◌, ◌++◌, drop}
use Rattle.pl_check.specs.Drafting.{kinds_in}
use Rattle.pl_check.proofs.checking.kinds_in.Given as goal

-- the rest gives the whole
abbrev pub invariant-loop-draft : goal.invariant-loop-draft
invariant-loop-draft l = l.kinds ++ kinds_in (drop l.draft-index l.drafts) ≡ kinds_in l.drafts
