use Rattle.pl_journal.proofs.AboutRendering.Telling.{lines_told, logs_told}
use Rattle.pl_journal.proofs.AboutRendering.Naming.{told_apart}
use Rattle.pl_journal.proofs.rendering.laws.laws_of_telling.Goals as goal

pub returns : goal.returns
returns c = record {
  lines_are_told_apart = λ m n k e f checked small small' he hf same. lines_told m n k e f (told_apart m checked) small small' he hf same;
  logs_are_told_apart = λ m xs ys checked hx hy same. logs_told m 0 xs ys (told_apart m checked) hx hy same;
}
