-- the rest gives the whole
use Rattle.std.proofs.Common.{◌≡◌, drop}
use Rattle.pl_memo.specs.Renames.{renamed}
use Rattle.pl_memo.proofs.renaming.renamed.Given as goal

abbrev pub invariant-loop-place : goal.invariant-loop-place
invariant-loop-place l = renamed (drop l.place l.gone) (drop l.place l.placed) l.id ≡ renamed l.gone l.placed l.id
