use Rattle.std.proofs.Common.{◌≡◌, eqb, ◌∙◌, map, IfOk, rules}
use Rattle.std.specs.Prelude.{filter}
use Rattle.pl_plan.proofs.Pairs.{range_under, under_rises}
use Rattle.pl_plan.proofs.RisingIds.{increases}
use Rattle.pl_plan.specs.Index.{ids_under}
use Rattle.pl_plan.proofs.index.Index.under.Goals as goal

ranged : (c : goal.After-collect) → c.range.result ≡ filter (λ p. eqb c.args.number p.0) c.self.inside.pairs.keys
ranged c = rw (c.new.ensures.start, c.new.ensures.end) at (c.range.ensures.between c.new.ensures.exhausted) ∙ range_under c.args.number c.self.inside.pairs.keys c.self.invariant

pub returns-clause-ids : goal.returns-clause-ids
returns-clause-ids c =
    let is : IfOk c.collect.result (λ ids. ids.items ≡ map (λ p. p.1) c.range.result) = search rules in
    rw (← c.self.view_is, ← ranged c) is

pub returns-clause-rising : goal.returns-clause-rising
returns-clause-rising c = rw (← c.self.view_is) (increases 0 (ids_under c.args.number c.self.inside.pairs.keys) (under_rises c.args.number c.self.inside.pairs.keys c.range.ensures.ordered))
