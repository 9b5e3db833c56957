use Rattle.std.proofs.Common.{w64, List, ℤ, ap, ◌∙◌, refl}
use Rattle.std.proofs.lemmas.Int.{to_z-of_z}
use Rattle.pl_times.specs.Mirror.{mirrored, negated}
use Rattle.pl_times.specs.Bounded.{IsEarly}
use Rattle.pl_times.proofs.Mirrors.{known-mirrored, late-from}
use Rattle.pl_times.proofs.mirror.latest_times.Goals as goal

pub earliest_times-requires : goal.earliest_times-requires
earliest_times-requires c =
    let low = to_z-of_z w64 c.negative.result (record { sfits = c.negative.type_inv }) in
    let high = to_z-of_z w64 c.args.ceiling c.ranges.ceiling in
    rw (c.in_ok-mirror.ensures, c.as_slice.ensures.value, c.in_ok-known.ensures, low, c.negative.ensures, high)
    (known-mirrored c.args.net.now c.args.known.now c.args.ceiling c.requires)

pub returns : goal.returns
returns c =
    let early : IsEarly (mirrored c.args.net.now) c.in_ok-early.early = rw c.in_ok-mirror.ensures at c.in_ok-early.ensures.early in
    late-from c.args.net.now c.in_ok-early.early _ early (c.from_vec.ensures ∙ (c.in_ok-negatives.ensures ∙ ap (λ (ts : List ℤ). negated ts) c.as_slice-2.ensures)) refl
