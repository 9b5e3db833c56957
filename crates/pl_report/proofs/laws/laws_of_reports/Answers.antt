use Rattle.pl_report.proofs.Sending.{log_sends}
use Rattle.pl_report.proofs.laws.laws_of_reports.Goals as goal

pub returns : goal.returns
returns c = log_sends
