use Rattle.std.proofs.Common.{ap, ◌∙◌}
use Rattle.pl_plan.specs.Fitting.{kind_of, alternatives_of}
use Rattle.pl_moves.proofs.Offsets.{paired_looked}
use Rattle.pl_moves.proofs.starts.alternative_at.Goals as goal

pub returns-clause-paired : goal.returns-clause-paired
returns-clause-paired c =
    paired_looked c.args.s.now.model c.requires.checked c.args.a.now c.args.number c.alternatives_in.result.now
    (c.alternatives_in.ensures ∙ ap (λ m. alternatives_of (kind_of m c.args.a.now)) c.get.ensures)
    c.get-2.result c.get-2.ensures.lookup.0 c.get-2.ensures.lookup.1
