use Rattle.std.proofs.Common.{◌<◌, ◌^◌}
use Rattle.std.proofs.lemmas.Map.Views.{All-insert_key}
use Rattle.pl_plan.proofs.Pairs.{pair_cmp, inserted}
use Rattle.pl_plan.proofs.index.Index.insert.Goals as goal

pub invariant_of-self-2 : goal.invariant_of-self-2
invariant_of-self-2 c = rw c.in_ok-insert.ensures.keys (All-insert_key pair_cmp (c.args.number, c.args.id) (λ p. p.1 < 2 ^ 32) c.self.inside.pairs.keys c.self.invariant c.ranges.id.fits)

pub returns-clause-ok : goal.returns-clause-ok
returns-clause-ok c = rw (← c.self.view_is) (inserted c.self.inside.pairs c.insert.new.self c.args.number c.args.id c.in_ok-insert.ensures.updates)
