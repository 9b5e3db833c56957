use Rattle.pl_laws.proofs.Logs.{sent_at_close}
use Rattle.pl_laws.proofs.Worlds.{front_of_due}
use Rattle.pl_laws.proofs.Sent.{never_fall}
use Rattle.pl_laws.proofs.commands.laws_of_commands.Goals as goal

pub returns : goal.returns
returns c = record { in_front = front_of_due; all_at_close = sent_at_close; starts = never_fall }
