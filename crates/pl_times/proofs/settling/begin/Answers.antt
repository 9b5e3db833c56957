use Rattle.std.proofs.Common.{◌≡◌, arith, refl, rules, FitsSigned, w64}
use Rattle.std.proofs.lemmas.Int.{to_z-of_z}
use Rattle.pl_times.proofs.Rises.{rise_small}
use Rattle.pl_times.proofs.Looking.{rising_first, queued_more, queued_all}
use Rattle.pl_times.proofs.settling.begin.Goals as goal

pub key_at-key-requires-clause-time_small : goal.key_at-key-requires-clause-time_small
key_at-key-requires-clause-time_small c =
    let fits : FitsSigned w64 c.args.floor = search rules in
    rw (c.as_slice.ensures.value, c.in_ok-times.ensures, to_z-of_z w64 c.args.floor fits)
    (rise_small _ _ _ c.requires.known _ _ (rising_first _ _ _ c.requires.known) c.loop-point.point c.loop-point-test.true)

pub loop-point-preserved : goal.loop-point-preserved
loop-point-preserved c =
    let fits : FitsSigned w64 c.key_at-key.result = search rules in
    queued_more _ _ _ _ _ _ c.loop-point-test.true c.loop-point.invariant
    (rw (to_z-of_z w64 c.key_at-key.result fits, c.key_at-key.ensures, c.as_slice.ensures.value) at c.in_ok-enqueue.ensures.moved)

pub returns : goal.returns
returns c =
    let fits : FitsSigned w64 c.args.floor = search rules in
    let all : c.loop-point.point ≡ c.args.net.now.points = omega arith in
    rw (to_z-of_z w64 c.args.floor fits)
    (queued_all _ _ _ c.requires.known.joined (rw (c.in_ok-times.ensures, c.in_ok-causes.ensures, to_z-of_z w64 c.args.floor fits) (rising_first _ _ _ c.requires.known)) (rw all at c.loop-point.invariant), refl)
