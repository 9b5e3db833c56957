use Rattle.std.proofs.Common.{◌≡◌, drop, bytes_eq}
use Rattle.pl_msg.specs.Names.{first_from}
use Rattle.pl_msg.proofs.names.kind_named.Given as goal

-- the rest gives the whole
abbrev pub invariant-loop-place : goal.invariant-loop-place
invariant-loop-place l = first_from (λ k. bytes_eq k.name l.name) l.place (drop l.place l.kinds) ≡ first_from (λ k. bytes_eq k.name l.name) 0 l.kinds
