use Rattle.std.proofs.Common.{◌≡◌, ◌++◌, drop}
use Rattle.pl_syntax.specs.Canonical.{laid}
use Rattle.pl_syntax.proofs.writer.layout.push_rest.Given as goal

-- what is written and the layout of the rest are the whole
abbrev pub invariant-loop-token : goal.invariant-loop-token
invariant-loop-token l = l.out.items ++ laid l.in_states (drop l.token-index l.tokens) ≡ l.initial.out.items ++ laid l.fn.in_states l.tokens
