use Rattle.pl_io.proofs.LineLaws.{lines_of-front, lines_of-no_newline, lines_of-whole, lines_of_next, lines_of-end}
use Rattle.pl_io.proofs.laws.line_laws.Goals as goal

pub returns : goal.returns
returns c = record {
  front = lines_of-front;
  no_newline = lines_of-no_newline;
  whole = lines_of-whole;
  next = lines_of_next;
  end = lines_of-end;
}
