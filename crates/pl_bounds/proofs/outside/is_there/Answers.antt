use Rattle.std.proofs.Common.{◌≡◌, false, inl, inr}
use Rattle.std.specs.Prelude.{◌≢◌}
use denote.Enum.Bare.{sameb}
use Rattle.pl_bounds.specs.contracts.outside.Side.{the_type}
use Rattle.pl_bounds.specs.declared.outside.Side.{Side}
use Rattle.pl_bounds.specs.declared.outside.Side.TheVariants.{Over, Low, High}
use Rattle.pl_bounds.specs.Looks.{IsElse}
use Rattle.pl_bounds.specs.Sides.{code_of}
use Rattle.pl_bounds.proofs.Apart.{else_next}
use Rattle.pl_bounds.proofs.outside.is_there.Goals as goal
use Rattle.pl_bounds.proofs.outside.is_there.Goals.{else-outside-line-via-then-outside-line+else-eq, else-outside-line-via-else-outside-line}

other_code : (a b : Side) → sameb the_type a b ≡ false → code_of a ≢ code_of b
other_code Over Over e f = absurd (cc)
other_code Over Low e f = absurd (cc)
other_code Over High e f = absurd (cc)
other_code Low Over e f = absurd (cc)
other_code Low Low e f = absurd (cc)
other_code Low High e f = absurd (cc)
other_code High Over e f = absurd (cc)
other_code High Low e f = absurd (cc)
other_code High High e f = absurd (cc)

pub loop-outside-preserved : goal.loop-outside-preserved
loop-outside-preserved c = λ behind.
    let o = c.outside-item.result in
    let side = c.args.side in
    let here : IsElse c.args.side c.args.line o = elim c.else-outside-line.branch [ else-outside-line-via-then-outside-line+else-eq w ↦ (let differs : sameb the_type o.side side ≡ false = cc in inr (other_code o.side side differs)) | else-outside-line-via-else-outside-line w ↦ inl w.if-outside-line.false ] in
    c.loop-outside.invariant (else_next c.args.side c.args.line c.args.all.now c.loop-outside.outside-index o c.loop-outside-test.true c.outside-item.is here behind)
