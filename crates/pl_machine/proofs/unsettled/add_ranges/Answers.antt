use Rattle.std.proofs.Common.{◌≡◌, ◌+◌, ◌++◌, List, drop, slice_get, Some, sym, ◌∙◌, ap, subst}
use Rattle.std.proofs.lemmas.Option.{slice_get-get_or}
use Rattle.std.proofs.lemmas.List.{append_assoc, drop_all}
use Rattle.pl_plan.specs.declared.activity.Activity.{Activity}
use Rattle.pl_plan.specs.Activities.{RiseFrom}
use Rattle.pl_entry.proofs.Steps.{drop_here}
use Rattle.pl_machine.specs.declared.id_range.IdRange.{IdRange}
use Rattle.pl_machine.specs.IdRanges.{ended_by, last_after, ranges_from}
use Rattle.pl_machine.proofs.IdRanges.{rises_behind, adds_from}
use Rattle.pl_machine.proofs.unsettled.add_ranges.Goals as goal

pub loop-activity-preserved : goal.loop-activity-preserved
loop-activity-preserved c =
    let xs = c.args.activities.now in
    let k = c.loop-activity.activity-index in
    let a = c.activity-item.result in
    let p = c.args.period in
    let last = c.loop-activity.last in
    let rest = drop (k + 1) xs in
    let here : slice_get xs k ≡ Some a = slice_get-get_or xs k a c.loop-activity-test.true ∙ ap Some (sym c.activity-item.is) in
    let on = drop_here xs k a here in
    rw c.in_ok-last.ensures.last (record {
      rising = rises_behind p.moment p.committed last a rest (subst (RiseFrom last.to) on c.loop-activity.invariant.rising);
      whole = ap (λ (l : List IdRange). l ++ ranges_from p.moment p.committed (last_after p.moment p.committed last a) rest) c.in_ok-last.ensures.apart
          ∙ append_assoc c.loop-activity.ranges.items (ended_by p.moment p.committed last a) (ranges_from p.moment p.committed (last_after p.moment p.committed last a) rest)
          ∙ ap (λ (l : List Activity). c.loop-activity.ranges.items ++ ranges_from p.moment p.committed last l) (sym on)
          ∙ c.loop-activity.invariant.whole;
    })

pub returns : goal.returns
returns c =
    let xs = c.args.activities.now in
    let p = c.args.period in
    adds_from p c.args.from xs c.args.ranges.now.items c.add_range.new.ranges.items c.requires.rising
    (c.in_ok-add_range.ensures ∙ ap (λ (l : List Activity). c.loop-activity.ranges.items ++ ranges_from p.moment p.committed c.loop-activity.last l) (sym (drop_all c.loop-activity.activity-index xs c.loop-activity-test.false)) ∙ c.loop-activity.invariant.whole)
