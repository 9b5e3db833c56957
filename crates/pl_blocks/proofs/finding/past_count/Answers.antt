use Rattle.std.proofs.Common.{◌≡◌, ◌<◌, ◌+◌, ◌-◌, ◌/◌, [], length, true, false, ap, sym, ◌∙◌, arith}
use Rattle.pl_blocks.specs.Blocks.{is_past}
use Rattle.pl_blocks.proofs.Rows.{parted_blocks}
use Rattle.pl_blocks.proofs.Searches.{half_room, below_past_one, above_one, place_cut}
use Rattle.pl_blocks.proofs.finding.past_count.Goals as goal

pub halves-preserved-then-is_past : goal.halves-preserved-then-is_past
halves-preserved-then-is_past g c =
    let bs = c.args.blocks.now in
    let at = c.args.at in
    let inv = c.halves.invariant in
    let low = c.halves.low in
    let high = c.halves.high in
    let middle = low + (high - low) / 2 in
    let lt : middle < length bs = omega (arith, inv.bound, c.halves-test.true) in
    let passes : is_past at c.index-blocks-middle.result ≡ true = ap (λ n. is_past n c.index-blocks-middle.result) (sym c.from.ensures) ∙ sym c.is_past.ensures ∙ c.if-is_past.true in
    let room = half_room (high - low) (high - (middle + 1)) ((26 + c.args.steps.now) - c.halves.steps) ((26 + c.args.steps.now) - c.tick.new.self) inv.room (omega (arith, c.halves-test.true)) (omega (arith, c.tick.ensures)) (omega arith) in
    record {
      order = omega (arith, c.halves-test.true);
      bound = inv.bound;
      past = below_past_one (is_past at) bs middle [] c.index-blocks-middle.result (parted_blocks at 0 bs c.requires.rising c.requires.sized) lt c.index-blocks-middle.is passes;
      rest = inv.rest;
      more = omega (arith, c.tick.ensures, inv.more);
      few = omega (arith, c.tick.ensures, inv.few, room.1);
      room = room.0;
    }

pub halves-preserved : goal.halves-preserved
halves-preserved g c =
    let bs = c.args.blocks.now in
    let at = c.args.at in
    let inv = c.halves.invariant in
    let low = c.halves.low in
    let high = c.halves.high in
    let middle = low + (high - low) / 2 in
    let lt : middle < length bs = omega (arith, inv.bound, c.halves-test.true) in
    let fails : is_past at c.index-blocks-middle.result ≡ false = ap (λ n. is_past n c.index-blocks-middle.result) (sym c.from.ensures) ∙ sym c.is_past.ensures ∙ c.if-is_past.false in
    let room = half_room (high - low) (middle - low) ((26 + c.args.steps.now) - c.halves.steps) ((26 + c.args.steps.now) - c.tick.new.self) inv.room (omega (arith, c.halves-test.true)) (omega (arith, c.tick.ensures)) (omega arith) in
    record {
      order = omega arith;
      bound = omega (arith, lt);
      past = inv.past;
      rest = above_one (is_past at) bs middle [] c.index-blocks-middle.result (parted_blocks at 0 bs c.requires.rising c.requires.sized) lt c.index-blocks-middle.is fails;
      more = omega (arith, c.tick.ensures, inv.more);
      few = omega (arith, c.tick.ensures, inv.few, room.1);
      room = room.0;
    }

pub returns-clause-before : goal.returns-clause-before
returns-clause-before g c =
    let inv = c.halves.invariant in
    (place_cut (is_past c.args.at) c.args.blocks.now c.halves.low [] (omega (arith, inv.order, inv.bound)) inv.past (λ k le lt. inv.rest k (omega (arith, le, c.halves-test.false)) lt)).0

pub returns-clause-rest : goal.returns-clause-rest
returns-clause-rest g c =
    let inv = c.halves.invariant in
    (place_cut (is_past c.args.at) c.args.blocks.now c.halves.low [] (omega (arith, inv.order, inv.bound)) inv.past (λ k le lt. inv.rest k (omega (arith, le, c.halves-test.false)) lt)).1
