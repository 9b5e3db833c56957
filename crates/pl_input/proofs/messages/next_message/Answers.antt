use Rattle.std.proofs.Common.{arith}
use Rattle.std.proofs.lemmas.Grind.{common_steps}
use Rattle.pl_input.proofs.Skipping.{skips_message}
use Rattle.pl_input.proofs.messages.next_message.Goals as goal

pub returns-then-not-is_blank_line-clause-message : goal.returns-then-not-is_blank_line-clause-message
returns-then-not-is_blank_line-clause-message g c =
    skips_message _ _ _ _ _ _ c.in-Some.line c.blanks.invariant.so_far (rw c.in-Some.is at c.in_ok-line.ensures.line) (grind (arith, common_steps))
