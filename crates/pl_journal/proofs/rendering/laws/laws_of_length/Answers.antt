use Rattle.pl_journal.proofs.AboutRendering.Telling.{no_newline}
use Rattle.pl_journal.proofs.AboutRendering.Naming.{told_apart, names_short}
use Rattle.pl_journal.proofs.AboutRendering.Lengths.{text_short}
use Rattle.pl_journal.proofs.rendering.laws.laws_of_length.Goals as goal

pub returns : goal.returns
returns c = record {
  one_line = λ m n e checked entry. no_newline m n e (told_apart m checked) entry.event;
  short = λ m n e checked small entry. text_short m n e (names_short m checked) small entry;
}
