use Rattle.std.proofs.Common.{ℕ, List, ap, ◌∙◌}
use Rattle.pl_plan.specs.declared.activity.Activity.{Activity}
use Rattle.pl_update.specs.Changes.Replaced.{replaced}
use Rattle.pl_update.proofs.AboutChanges.Putting.{puttable}
use Rattle.pl_prefs.proofs.gains.put_change.Goals as goal

pub replace-requires : goal.replace-requires
replace-requires c = record {
  rising = c.requires.whole.rising;
  can = rw (c.deref.ensures.value, c.deref-2.ensures.value) (puttable c.args.s.now.plan.activities c.args.change.now.gone.items c.args.change.now.placed.items c.requires.whole.rising c.requires.can.once c.requires.can.free);
}

pub next_after-s-requires : goal.next_after-s-requires
next_after-s-requires c = rw c.deref-3.ensures.value c.requires.can.ids

pub returns : goal.returns
returns c =
    let s = c.args.s.now in
    let n = c.next_after-s.result in
    let put = rw (c.deref.ensures.value, c.deref-2.ensures.value) at c.in_ok-replace.ensures in
    let next = rw c.deref-3.ensures.value at c.next_after-s.ensures in
    ap (λ (xs : List Activity). record s { plan = record { activities = xs }; next_id = n }) put
    ∙ ap (λ (k : ℕ). record s { plan = record { activities = replaced s.plan.activities c.args.change.now.gone.items c.args.change.now.placed.items }; next_id = k }) next
