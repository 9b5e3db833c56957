use Rattle.std.proofs.Common.{◌≡◌, drop, bytes_eq}
use Rattle.pl_msg.specs.Names.{first_from, timeline_name}
use Rattle.pl_msg.proofs.names.timeline_named.Given as goal

-- the rest gives the whole
abbrev pub invariant-loop-place : goal.invariant-loop-place
invariant-loop-place l = first_from (λ t. bytes_eq (timeline_name t) l.name) l.place (drop l.place l.timelines) ≡ first_from (λ t. bytes_eq (timeline_name t) l.name) 0 l.timelines
