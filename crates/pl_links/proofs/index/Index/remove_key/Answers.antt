use Rattle.std.proofs.Common.{arith, rules}
use Rattle.std.specs.BTreeMap.{is_at}
use Rattle.std.proofs.lemmas.Map.Views.{All-remove_key}
use Rattle.pl_links.specs.Keys.{key_cmp, has_key, IsShort}
use Rattle.pl_links.proofs.Keyed.{key, without_key}
use Rattle.pl_links.proofs.index.Index.remove_key.Goals as goal

pub invariant_of-self : goal.invariant_of-self
invariant_of-self c =
    rw c.remove.ensures.keys
    (All-remove_key (is_at (key_cmp (key c.args.group c.args.number c.args.id))) IsShort c.self.inside.keys.keys c.self.invariant)

pub returns : goal.returns
returns c = λ k. rw (← c.self.view_is, ← without_key c.args.group c.args.number c.args.id k (has_key k c.self.inside.keys.keys)) (c.remove.ensures.updates.0 k)
