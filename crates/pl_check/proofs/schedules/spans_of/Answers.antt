use Rattle.std.proofs.Common.{◌≡◌, ◌<◌, ◌≤◌, ◌+◌, length, map, take, ap, ◌∙◌, arith}
use Rattle.std.proofs.lemmas.Int.{ints, to_z-of_z}
use Rattle.std.proofs.lemmas.List.{take_all}
use Rattle.pl_check.specs.Networks.{span_of}
use Rattle.pl_check.proofs.KindLemmas.{map_step}
use Rattle.pl_check.proofs.ScheduleLemmas.{spans_near}
use Rattle.pl_check.proofs.schedules.spans_of.Goals as goal

pub loop-kind-preserved : goal.loop-kind-preserved
loop-kind-preserved c =
    let lt : c.loop-kind.kind-index < length c.args.kinds.now = omega arith in
    let kept : c.loop-kind.spans ≡ map (span_of c.args.horizon) (take c.loop-kind.kind-index c.args.kinds.now) = simp (to_z-of_z, c.ranges.horizon) at c.loop-kind.invariant in
    let made : c.in_ok-span_of.field-0 ≡ span_of c.args.horizon c.kind-item.result = search (arith, ints, to_z-of_z, c.in_ok-span_of.ensures.span) in
    let next : c.push.new.self ≡ map (span_of c.args.horizon) (take (c.loop-kind.kind-index + 1) c.args.kinds.now) =
    c.in_ok-push.ensures.ok ∙ map_step (span_of c.args.horizon) c.args.kinds.now c.loop-kind.kind-index c.kind-item.result c.loop-kind.spans c.in_ok-span_of.field-0 lt c.kind-item.is made kept in
    simp (to_z-of_z, c.ranges.horizon) next

pub returns-clause-near : goal.returns-clause-near
returns-clause-near c =
    let le : length c.args.kinds.now ≤ c.loop-kind.kind-index = omega arith in
    let kept : c.loop-kind.spans ≡ map (span_of c.args.horizon) (take c.loop-kind.kind-index c.args.kinds.now) = simp (to_z-of_z, c.ranges.horizon) at c.loop-kind.invariant in
    let every : c.loop-kind.spans ≡ map (span_of c.args.horizon) c.args.kinds.now = kept ∙ ap (map (span_of c.args.horizon)) (take_all c.loop-kind.kind-index c.args.kinds.now le) in
    spans_near c.args.horizon c.args.kinds.now c.loop-kind.spans c.requires.horizon every
