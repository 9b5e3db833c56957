use Rattle.std.proofs.Common.{arith, rules}
use Rattle.std.proofs.lemmas.Map.Views.{All-insert_key}
use Rattle.pl_links.specs.Keys.{key_cmp, has_key, IsShort}
use Rattle.pl_links.proofs.Keyed.{key, with_key}
use Rattle.pl_links.proofs.index.Index.insert_key.Goals as goal

pub invariant_of-self-2 : goal.invariant_of-self-2
invariant_of-self-2 c =
    rw c.in_ok-insert.ensures.keys
    (All-insert_key key_cmp (key c.args.group c.args.number c.args.id) IsShort c.self.inside.keys.keys c.self.invariant (omega (arith, c.ranges.number.fits), omega (arith, c.ranges.id.fits)))

pub returns-clause-ok : goal.returns-clause-ok
returns-clause-ok c = λ k. rw (← c.self.view_is, ← with_key c.args.group c.args.number c.args.id k (has_key k c.self.inside.keys.keys)) (c.in_ok-insert.ensures.updates.0 k)
