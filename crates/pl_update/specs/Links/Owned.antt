-- The link or the order that a conflict is about.
use Rattle.std.specs.Prelude.{Bool, true, false}
use Rattle.pl_conflict.specs.declared.conflict.Conflict.{Conflict}
use Rattle.pl_conflict.specs.declared.conflict.Code.{Code}
use Rattle.pl_conflict.specs.declared.conflict.Code.TheVariants.{Temporal, Linked}
use Rattle.pl_links.specs.declared.broken.Broken.{Broken}

abbrev pub is_of_order : Code → Bool
is_of_order Linked = true
is_of_order _ = false

-- whether it is about a link or an order
abbrev pub is_of_links : Code → Bool
is_of_links Temporal = true
is_of_links Linked = true
is_of_links _ = false

-- by the subject and the detail, and by the code whether it is an order
abbrev pub owner_of : Conflict → Broken
owner_of q = record { id = q.subject; index = q.detail; slots = is_of_order q.code }
