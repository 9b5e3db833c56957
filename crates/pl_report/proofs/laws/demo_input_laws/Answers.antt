use Rattle.pl_report.proofs.Lines.{demo_text_lines, demo_lines_short, demo_text_short}
use Rattle.pl_report.proofs.laws.demo_input_laws.Goals as goal

pub returns-clause-lines : goal.returns-clause-lines
returns-clause-lines c = demo_text_lines

pub returns-clause-short : goal.returns-clause-short
returns-clause-short c = demo_lines_short

pub returns-clause-total : goal.returns-clause-total
returns-clause-total c = demo_text_short
