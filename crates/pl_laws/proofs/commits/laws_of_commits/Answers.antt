use Rattle.pl_laws.proofs.Logs.{never_less, halts_withdraw, granted_exactly, grants_same}
use Rattle.pl_laws.proofs.Worlds.{repairs_keep, begun_stays, committed_stays}
use Rattle.pl_laws.proofs.commits.laws_of_commits.Goals as goal

pub returns : goal.returns
returns c = record { repairs = repairs_keep; begun = begun_stays; stays = committed_stays; never_fall = never_less; halts = halts_withdraw; granted = granted_exactly; grants = grants_same }
