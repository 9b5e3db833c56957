use Rattle.std.proofs.Common.{◌≡◌, List, ◌++◌, append_assoc, rules, to_z, of_z, w64}
use Rattle.std.specs.Prelude.{pos, ◌+ℤ◌, ◌-ℤ◌}
use Rattle.pl_plan.specs.declared.repair.RepairMove.{RepairMove}
use Rattle.pl_semantics.specs.Repairs.{shift_one}
use Rattle.pl_cand.proofs.orders.add_order_shifts.Goals as goal

-- four lists, each put behind what is there
four_behind : (all a b c d one two three four : List RepairMove) → one ≡ all ++ a → two ≡ one ++ b → three ≡ two ++ c → four ≡ three ++ d → four ≡ all ++ (((a ++ b) ++ c) ++ d)
four_behind all a b c d one two three four first second third fourth = rw (fourth, third, second, first) (simp append_assoc)

pub returns : goal.returns
returns c =
    let s = c.args.state.now in
    let o = c.args.order.now in
    let x = c.args.first.now in
    let y = c.args.second.now in
    let apart : to_z w64 (of_z w64 c.args.apart) ≡ c.args.apart = search rules in
    let low : to_z w64 (of_z w64 o.low) ≡ o.low = search rules in
    let high : to_z w64 (of_z w64 o.high) ≡ o.high = search rules in
    let first = rw (low, apart) at c.in_ok-add_moved.ensures in
    let second = rw (high, apart) at c.in_ok-add_moved-2.ensures in
    let third = rw (apart, low) at c.in_ok-add_moved-3.ensures in
    let fourth = rw (apart, high) at c.in_ok-add_moved-4.ensures in
    four_behind c.args.out.now.items
    (shift_one s o.second y ((pos y.start +ℤ o.low) -ℤ c.args.apart))
    (shift_one s o.second y ((pos y.start +ℤ o.high) -ℤ c.args.apart))
    (shift_one s o.first x ((pos x.start +ℤ c.args.apart) -ℤ o.low))
    (shift_one s o.first x ((pos x.start +ℤ c.args.apart) -ℤ o.high))
    c.add_moved.new.out.items c.add_moved-2.new.out.items c.add_moved-3.new.out.items c.add_moved-4.new.out.items
    first second third fourth
