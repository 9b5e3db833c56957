use Rattle.std.proofs.Common.{◌≤◌, length, sym, arith}
use Rattle.std.specs.Prelude.{nat_lt}
use Rattle.std.specs.List.{prefix_len}
use Rattle.pl_plan.specs.declared.activity.Activity.{Activity}
use Rattle.pl_memo.proofs.Finding.{placed_at, smaller_le}
use Rattle.pl_memo.proofs.rows.with.Goals as goal

pub insert-requires : goal.insert-requires
insert-requires c =
    let le : prefix_len (λ (x : Activity). nat_lt x.id c.args.a.id) c.as_slice.result.now ≤ length c.as_slice.result.now = smaller_le c.args.a.id c.as_slice.result.now in
    omega (arith, le, c.smaller-at.ensures, c.as_slice.ensures.len)

pub returns : goal.returns
returns c = rw (c.from_vec.ensures, c.in_ok-insert.ensures.items, c.smaller-at.ensures, c.as_slice.ensures.value, c.into_vec-list.ensures) (sym (placed_at c.args.a c.args.activities))
