use Rattle.std.proofs.Common.{◌≡◌, ◌≤◌, length, sym, ap, ◌∙◌, arith}
use Rattle.std.specs.Prelude.{nat_eq}
use Rattle.std.specs.List.{position_or_len}
use Rattle.pl_plan.specs.declared.activity.Activity.{Activity}
use Rattle.pl_memo.proofs.Finding.{without_at, without_none}
use Rattle.pl_memo.proofs.rows.without.Goals as goal

pub returns-then-at-len : goal.returns-then-at-len
returns-then-at-len c = rw (c.from_vec.ensures, c.remove.ensures.items, c.place_of-at.ensures, c.as_slice.ensures.value, c.into_vec-list.ensures) (sym (without_at c.args.id c.args.activities))

pub returns : goal.returns
returns c =
    let same : c.as_slice.result.now ≡ c.args.activities = c.as_slice.ensures.value ∙ c.into_vec-list.ensures in
    let at : c.place_of-at.result ≡ position_or_len (λ (a : Activity). nat_eq a.id c.args.id) c.args.activities = c.place_of-at.ensures ∙ ap (position_or_len (λ (a : Activity). nat_eq a.id c.args.id)) same in
    let long : length c.as_slice.result.now ≡ length c.args.activities = ap length same in
    let far : length c.args.activities ≤ position_or_len (λ (a : Activity). nat_eq a.id c.args.id) c.args.activities = omega (arith, c.if-at-len.false, c.len.ensures, c.as_slice.ensures.len, at, long) in
    c.from_vec-2.ensures ∙ (c.into_vec-list.ensures ∙ sym (without_none c.args.id c.args.activities far))
