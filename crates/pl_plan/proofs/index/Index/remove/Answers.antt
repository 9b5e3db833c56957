use Rattle.std.proofs.Common.{◌<◌, ◌^◌}
use Rattle.std.specs.BTreeMap.{is_at}
use Rattle.std.proofs.lemmas.Map.Views.{All-remove_key}
use Rattle.pl_plan.proofs.Pairs.{pair_cmp, removed}
use Rattle.pl_plan.proofs.index.Index.remove.Goals as goal

pub invariant_of-self : goal.invariant_of-self
invariant_of-self c = rw c.remove.ensures.keys (All-remove_key (is_at (pair_cmp (c.args.number, c.args.id))) (λ p. p.1 < 2 ^ 32) c.self.inside.pairs.keys c.self.invariant)

pub returns : goal.returns
returns c = rw (← c.self.view_is) (removed c.self.inside.pairs c.remove.new.self c.args.number c.args.id c.remove.ensures.updates)
