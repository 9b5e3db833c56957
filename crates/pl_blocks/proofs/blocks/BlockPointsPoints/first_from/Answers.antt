use Rattle.std.proofs.Common.{◌≡◌, ◌<◌, ◌≤◌, arith, ap, sym, ◌∙◌, length, take, drop, get_or, false, pos}
use Rattle.std.proofs.lemmas.List.{get_or_default}
use Rattle.pl_lists.specs.Lists.{front, back}
use Rattle.pl_points.specs.Points.{is_before, first_from}
use Rattle.pl_blocks.specs.Blocks.{together, is_past, blocks_from}
use Rattle.pl_blocks.proofs.Rows.{not_past_there, blocks_fall}
use Rattle.pl_blocks.proofs.Searches.{none_there, first_there, count_there}
use Rattle.pl_blocks.proofs.blocks.BlockPointsPoints.first_from.Goals as goal

pub returns-then-place-len-clause-first : goal.returns-then-place-len-clause-first
returns-then-place-len-clause-first g c =
    let bs = c.self.inside.blocks.items in
    let i = c.past_near-place.result in
    let before : take i bs ≡ front (is_past c.args.at) bs = rw c.deref.ensures.value at c.past_near-place.ensures.before in
    none_there c.args.at i bs before (omega (arith, c.if-place-len.true, c.len.ensures, c.deref.ensures.len, ap length c.deref.ensures.value))
    ∙ ap (λ l. first_from (together l) c.args.at) c.self.view_is

pub bounds-points-count : goal.bounds-points-count
bounds-points-count g c =
    let bs = c.self.inside.blocks.items in
    let i = c.past_near-place.result in
    let b = c.index.result.now in
    let ps = c.points-points.result.now in
    let rest : drop i bs ≡ back (is_past c.args.at) bs = rw c.deref.ensures.value at c.past_near-place.ensures.rest in
    let lt : i < length bs = omega (arith, c.if-place-len.false, c.len.ensures, c.deref.ensures.len, ap length c.deref.ensures.value, c.past_near-place.ensures.bound) in
    let not : is_past c.args.at ps ≡ false = ap (is_past c.args.at) c.points-points.ensures.points ∙ not_past_there c.args.at i bs b rest lt c.index.ensures in
    let cut : drop c.place_of-count.result ps ≡ back (is_before c.args.at) ps = c.place_of-count.ensures.rest in
    count_there c.args.at c.place_of-count.result ps not cut

pub returns-clause-first : goal.returns-clause-first
returns-clause-first g c =
    let bs = c.self.inside.blocks.items in
    let at = c.args.at in
    let i = c.past_near-place.result in
    let b = c.index.result.now in
    let ps = c.points-points.result.now in
    let n = c.place_of-count.result in
    let q = get_or ps n (0, pos 0) in
    let before : take i bs ≡ front (is_past at) bs = rw c.deref.ensures.value at c.past_near-place.ensures.before in
    let rest : drop i bs ≡ back (is_past at) bs = rw c.deref.ensures.value at c.past_near-place.ensures.rest in
    let lt : i < length bs = omega (arith, c.if-place-len.false, c.len.ensures, c.deref.ensures.len, ap length c.deref.ensures.value, c.past_near-place.ensures.bound) in
    let is : ps ≡ get_or bs i ps = c.points-points.ensures.points ∙ c.index.ensures ∙ ap (λ x. get_or bs i x) (sym c.points-points.ensures.points) in
    let not : is_past at ps ≡ false = not_past_there at i bs ps rest lt is in
    let cut : drop n ps ≡ back (is_before at) ps = c.place_of-count.ensures.rest in
    (first_there at i n bs ps q before rest lt is cut (count_there at n ps not cut) (get_or_default ps n (0, pos 0) q (count_there at n ps not cut))).0 ∙ ap (λ l. first_from (together l) at) c.self.view_is

pub returns-clause-cost : goal.returns-clause-cost
returns-clause-cost g c =
    let bs = c.self.inside.blocks.items in
    let at = c.args.at in
    let i = c.past_near-place.result in
    let b = c.index.result.now in
    let ps = c.points-points.result.now in
    let n = c.place_of-count.result in
    let q = get_or ps n (0, pos 0) in
    let before : take i bs ≡ front (is_past at) bs = rw c.deref.ensures.value at c.past_near-place.ensures.before in
    let rest : drop i bs ≡ back (is_past at) bs = rw c.deref.ensures.value at c.past_near-place.ensures.rest in
    let lt : i < length bs = omega (arith, c.if-place-len.false, c.len.ensures, c.deref.ensures.len, ap length c.deref.ensures.value, c.past_near-place.ensures.bound) in
    let is : ps ≡ get_or bs i ps = c.points-points.ensures.points ∙ c.index.ensures ∙ ap (λ x. get_or bs i x) (sym c.points-points.ensures.points) in
    let not : is_past at ps ≡ false = not_past_there at i bs ps rest lt is in
    let cut : drop n ps ≡ back (is_before at) ps = c.place_of-count.ensures.rest in
    let there : n < length ps = count_there at n ps not cut in
    let later : at ≤ q.0 = (first_there at i n bs ps q before rest lt is cut there (get_or_default ps n (0, pos 0) q there)).1 in
    let falls : blocks_from c.args.self.now q.0 ≤ blocks_from c.args.self.now at = blocks_fall c.args.self.now at q.0 later in
    omega (arith, c.tick.ensures, c.stand_at.ensures, c.past_near-place.ensures.cost, falls)
