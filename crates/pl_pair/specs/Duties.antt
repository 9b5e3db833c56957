-- What workers are hired for.
use Rattle.std.specs.Prelude.{ℕ}
use Rattle.rand_pcg.specs.Lcg.{Lcg, started, increment_of}
use Rattle.rand_pcg.specs.Pcg.{multiplier_64}
use Rattle.pl_marks.specs.declared.author.Author.{Author}
use Rattle.pl_marks.specs.declared.author.Author.TheVariants as author
use Rattle.pl_acts.specs.declared.role.Role.{Role}
use Rattle.pl_acts.specs.declared.role.Role.TheVariants.{Planner, Executive}
use Rattle.pl_pair.specs.declared.duty.Duty.{Duty}
use Rattle.pl_pair.specs.declared.duty.Duty.TheVariants.{Repair, Execute}

-- the chooser of a seed, before its first word
unfoldable pub chooser_of : ℕ → Lcg
chooser_of seed = started 64 multiplier_64 seed (increment_of 64 0)

-- the role that a worker begins with
abbrev pub role_of : Duty → Role
role_of (Repair planner seed begun) = Planner (chooser_of seed)
role_of Execute = Executive

-- how many entries its first sight goes back to at least
abbrev pub begun_of : Duty → ℕ
begun_of (Repair planner seed begun) = begun
begun_of Execute = 0

-- the author of what the worker makes
abbrev pub author_of : Duty → Author
author_of (Repair planner seed begun) = author.Planner planner
author_of Execute = author.Executive
