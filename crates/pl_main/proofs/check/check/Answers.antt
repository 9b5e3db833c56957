use Rattle.pl_main.proofs.Checking.{begun_checks, refused_checks}
use Rattle.pl_main.proofs.check.check.Goals as goal

pub returns-in-Ok-NoBegin-clause-checks : goal.returns-in-Ok-NoBegin-clause-checks
returns-in-Ok-NoBegin-clause-checks g c = refused_checks _ _ _ _ _ _ _ c.in_ok-lines.ensures (rw c.in-Ok-NoBegin.field-0-is at c.in-Ok-NoBegin.ensures.head) c.refuse.ensures.text c.refuse.ensures.refused c.refuse.ensures.front c.refuse.ensures.fails

pub returns-clause-checks : goal.returns-clause-checks
returns-clause-checks g c = begun_checks _ _ _ _ _ _ _ _ c.in_ok-lines.ensures (rw c.in-Ok-Text.field-0-is at c.in-Ok-Text.ensures.head) c.check_text.ensures.text
