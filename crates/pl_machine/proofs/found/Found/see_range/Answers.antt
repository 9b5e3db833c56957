use Rattle.std.proofs.Common.{◌≡◌, ◌+◌, ◌++◌, List, take, drop, ◌∙◌, sym, ap, subst}
use Rattle.std.specs.Prelude.{All, ◌≤◌}
use Rattle.std.proofs.lemmas.List.{drop-drop}
use Rattle.std.proofs.lemmas.List.Elements.{All-take}
use Rattle.pl_plan.specs.declared.activity.Activity.{Activity}
use Rattle.pl_plan.specs.Activities.{RiseFrom, AreRising}
use Rattle.pl_machine.specs.Calm.{next_start}
use Rattle.pl_machine.specs.Looking.{starts_in, AreBelow, AddsRanges}
use Rattle.pl_machine.proofs.Places.{rising_drop, rising_behind, rising_take, rising_from}
use Rattle.pl_machine.proofs.Looking.{looks_to_range, looks_in_range}
use Rattle.pl_machine.proofs.found.Found.see_range.Goals as goal

pub count_below-skipped-requires : goal.count_below-skipped-requires
count_below-skipped-requires c = subst AreRising (sym c.behind-others.ensures) (rising_drop c.args.place 0 c.args.activities.now c.requires.rising)

pub count_few_below-count-requires : goal.count_few_below-count-requires
count_few_below-count-requires c = rising_behind c.args.place c.count_below-skipped.result c.args.activities.now c.behind-others.result.now c.behind-rest.result.now c.requires.rising c.behind-others.ensures c.behind-rest.ensures

pub add_ranges-requires-clause-rising : goal.add_ranges-requires-clause-rising
add_ranges-requires-clause-rising c =
    let from = c.args.range.from in
    let n = c.count_few_below-count.result in
    let rest = c.behind-rest.result.now in
    let high : All (λ (a : Activity). from ≤ a.id) rest = subst (All (λ (a : Activity). from ≤ a.id)) (sym c.behind-rest.ensures) c.count_below-skipped.ensures.rest in
    subst (RiseFrom from) (sym c.first_of-within.ensures)
    (rising_from 0 from (take n rest) (rising_take n 0 rest (rising_behind c.args.place c.count_below-skipped.result c.args.activities.now c.behind-others.result.now rest c.requires.rising c.behind-others.ensures c.behind-rest.ensures)) (All-take (λ (a : Activity). from ≤ a.id) n rest high))

pub returns : goal.returns
returns c seen left looked =
    let xs = c.args.activities.now in
    let p = c.args.period in
    let r = c.args.range in
    let model = c.args.model.now in
    let k = c.count_below-skipped.result in
    let n = c.count_few_below-count.result in
    let starts = c.args.self.now.starts.items in
    let ranges = c.args.self.now.ranges.items in
    let next = c.args.self.now.next_start in
    let one = looks_to_range model p xs seen c.requires.later c.args.place r left starts ranges next k looked (subst (AreBelow r.from k) c.behind-others.ensures c.count_below-skipped.ensures) in
    let rest : c.behind-rest.result.now ≡ drop (c.args.place + k) xs = c.behind-rest.ensures ∙ ap (drop k) c.behind-others.ensures ∙ drop-drop k c.args.place xs in
    let within : c.first_of-within.result.now ≡ take n (drop (c.args.place + k) xs) = c.first_of-within.ensures ∙ ap (take n) rest in
    let adds : AddsRanges p r.from (take n (drop (c.args.place + k) xs)) ranges c.add_ranges.new.ranges.items = subst (λ l. AddsRanges p r.from l ranges c.add_ranges.new.ranges.items) within c.in_ok-add_ranges.ensures in
    let two = looks_in_range model p xs seen c.requires.later (c.args.place + k) r left starts ranges c.add_ranges.new.ranges.items next n one (subst (AreBelow r.to n) rest c.count_few_below-count.ensures) adds in
    let begun : c.add_starts.new.starts.items ≡ starts ++ starts_in model p (take n (drop (c.args.place + k) xs)) = c.in_ok-self.ensures.starts ∙ ap (λ (l : List Activity). starts ++ starts_in model p l) within in
    let nearest : c.in_ok-self.field-0 ≡ next_start p.moment next (take n (drop (c.args.place + k) xs)) = c.in_ok-self.ensures.next ∙ ap (next_start p.moment next) within in
    rw (begun, nearest) two
