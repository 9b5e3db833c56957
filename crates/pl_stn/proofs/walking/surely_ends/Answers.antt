use Rattle.std.proofs.Common.{sym, ◌∙◌, arith}
use Rattle.pl_stn.proofs.Walks.{come_on, come_to_end}
use Rattle.pl_stn.proofs.walking.surely_ends.Goals as goal

pub edge_at-point-requires-clause-number : goal.edge_at-point-requires-clause-number
edge_at-point-requires-clause-number c =
    (c.requires.causes.starts c.loop-step.point c.in-Some.number (sym c.cause_at.ensures ∙ c.in-Some.is)).edge

pub returns-in-None : goal.returns-in-None
returns-in-None c = λ _.
    come_to_end _ _ _ _ _ c.loop-step.invariant (omega arith) (sym c.cause_at.ensures ∙ c.in-None.is)

pub loop-step-preserved : goal.loop-step-preserved
loop-step-preserved c =
    let to = c.edge_at-point.ensures.joins.1 in
    rw c.edge_at-point.ensures.edge
    (come_on _ _ _ _ c.loop-step.point c.in-Some.number c.loop-step.invariant (sym c.cause_at.ensures ∙ c.in-Some.is) (rw c.edge_at-point.ensures.edge at to))
