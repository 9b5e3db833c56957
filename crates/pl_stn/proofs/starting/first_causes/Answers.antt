use Rattle.std.proofs.Common.{◌≡◌, length, arith, subst, refl}
use Rattle.pl_stn.proofs.FirstCauses.{HaveStarted, started_found, started_passed, started_all}
use Rattle.pl_stn.proofs.starting.first_causes.Goals as goal
use Rattle.pl_stn.proofs.starting.first_causes.Goals.{then-is_after_origin, else-is_after_origin}

pub loop-number-preserved : goal.loop-number-preserved
loop-number-preserved c =
    elim c.if-is_after_origin.branch [
      | then-is_after_origin w ↦
          let after = c.is_after_origin.ensures.0 (rw w.if-is_after_origin.true refl) in
          rw (w.causes-is, c.edge_at-edge.ensures.edge)
          (started_found _ _ _ c.loop-number.invariant (omega arith) (rw c.edge_at-edge.ensures.edge at c.edge_at-edge.ensures.joins.0) (rw c.edge_at-edge.ensures.edge at after))
      | else-is_after_origin w ↦
          rw w.causes-is
          (started_passed _ _ _ c.loop-number.invariant
          (λ after. let test = c.is_after_origin.ensures.1 (rw c.edge_at-edge.ensures.edge after) in
          absurd (let never = rw w.if-is_after_origin.false at test in cc)))
    ]

pub returns : goal.returns
returns c =
    let all : c.loop-number.number ≡ length c.args.net.now.edges = omega arith in
    started_all _ _ c.requires (subst (λ x. HaveStarted c.args.net.now c.loop-number.causes.items x) all c.loop-number.invariant)
