use Rattle.std.proofs.Common.{◌≡◌, ◌++◌, drop}
use Rattle.pl_journal.specs.Parsing.Replies.{values_in}
use Rattle.pl_journal.proofs.parsing.commands.values_of.Given as goal

-- the rest gives the whole
abbrev pub invariant-loop-param : goal.invariant-loop-param
invariant-loop-param l = l.values ++ values_in (drop l.param-index l.params) l.rest ≡ values_in l.params l.text
