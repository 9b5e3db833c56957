use Rattle.std.proofs.Common.{◌≡◌, true, [], ◌⊎◌, inl, inr, ◌≤◌, sym, append-nil, arith}
use Rattle.std.proofs.lemmas.List.Elements.{All-weaker}
use Rattle.pl_plan.specs.declared.activity.Activity.{Activity}
use Rattle.pl_machine.specs.Calm.{is_settled, IsKnown}
use Rattle.pl_machine.proofs.IdRanges.{rises_later}
use Rattle.pl_machine.proofs.Places.{all_above}
use Rattle.pl_machine.proofs.found.Found.see_rest.Goals as goal

pub first_open-requires : goal.first_open-requires
first_open-requires c = record { rising = rises_later 0 c.args.seen c.args.activities.now (omega arith) c.requires.rising }

pub returns-then-activities-le-FEW-clause-ranges : goal.returns-then-activities-le-FEW-clause-ranges
returns-then-activities-le-FEW-clause-ranges c = record {
  more = [];
  is = sym (append-nil c.args.self.now.ranges.items);
  order = c.first_open.ensures.least c.args.seen c.requires.seen (all_above c.args.seen c.args.activities.now c.requires.rising);
  last = c.first_open.ensures.most c.requires.ids;
  each = All-weaker (λ (a : Activity). (is_settled c.args.period.moment c.args.period.committed a ≡ true) ⊎ (c.first_open.result ≤ a.id)) (IsKnown c.args.period.moment c.args.period.committed c.first_open.result []) (λ a is. by a is) c.args.activities.now c.first_open.ensures.each;
}
  where
    by : (a : Activity) → (is_settled c.args.period.moment c.args.period.committed a ≡ true) ⊎ (c.first_open.result ≤ a.id) → IsKnown c.args.period.moment c.args.period.committed c.first_open.result [] a
    by a (inl settled) = inl settled
    by a (inr late) = inr (inl late)
