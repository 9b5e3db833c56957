use Rattle.std.proofs.Common.{◌≡◌, ◌-◌, ◌++◌, ap, sym, ◌∙◌, subst, length, take, drop, ◌+ℤ◌, false}
use Rattle.std.specs.Prelude.{is_some}
use mir.Val.{to_z, of_z}
use mir.Syntax.{w64}
use Rattle.std.proofs.lemmas.Int.{to_z-of_z}
use Rattle.std.proofs.lemmas.List.{take_rest}
use Rattle.pl_points.specs.Points.{leaving, RiseFrom, SmallFrom}
use Rattle.pl_points.proofs.PointLists.{rising_drop}
use Rattle.pl_points.proofs.Outside.{same_leaving}
use Rattle.pl_blocks.specs.Blocks.{change_of}
use Rattle.pl_blocks.proofs.Rows.{small_split, take_drop}
use Rattle.pl_blocks.proofs.RowSums.{none_behind}
use Rattle.pl_blocks.proofs.block.Block.leaving_from.Goals as goal

pub is_calm-requires : goal.is_calm-requires
is_calm-requires g c = subst (λ z. SmallFrom z c.args.self.now) (sym (to_z-of_z w64 c.args.start c.ranges.start)) c.requires.small

pub leaving-requires-clause-rising : goal.leaving-requires-clause-rising
leaving-requires-clause-rising g c =
    let ps = c.points.result.now in
    subst (RiseFrom 0) (sym (take_rest ps c.args.place)) (rising_drop 0 c.args.place ps c.points.ensures.rising)

pub leaving-requires-clause-small : goal.leaving-requires-clause-small
leaving-requires-clause-small g c =
    let ps = c.points.result.now in
    let n = c.args.place in
    let B = to_z w64 (of_z w64 c.args.before) in
    let raw : B ≡ c.args.before = to_z-of_z w64 c.args.before c.ranges.before in
    let whole : SmallFrom c.args.start (take n c.args.self.now ++ drop n c.args.self.now) = subst (SmallFrom c.args.start) (sym (take_drop n c.args.self.now)) c.requires.small in
    let rest : SmallFrom B (drop n c.args.self.now) = subst (λ z. SmallFrom z (drop n c.args.self.now)) (sym (raw ∙ c.requires.before)) (small_split c.args.start (take n c.args.self.now) (drop n c.args.self.now) whole).1 in
    subst (SmallFrom B) (sym (take_rest ps n ∙ ap (drop n) c.points.ensures.points)) rest

pub returns-then-not-is_calm-clause-first : goal.returns-then-not-is_calm-clause-first
returns-then-not-is_calm-clause-first g c =
    let ps = c.points.result.now in
    let n = c.args.place in
    let L = to_z w64 (of_z w64 c.args.least) in
    let M = to_z w64 (of_z w64 c.args.most) in
    let B = to_z w64 (of_z w64 c.args.before) in
    c.leaving.ensures.first ∙ same_leaving L M B c.args.least c.args.most c.args.before (take (length ps - n) (drop n ps)) (to_z-of_z w64 c.args.least c.ranges.least) (to_z-of_z w64 c.args.most c.ranges.most) (to_z-of_z w64 c.args.before c.ranges.before)
    ∙ ap (leaving c.args.least c.args.most c.args.before) (take_rest ps n ∙ ap (drop n) c.points.ensures.points)

pub returns-clause-first : goal.returns-clause-first
returns-clause-first g c =
    let ps = c.args.self.now in
    let n = c.args.place in
    let s = to_z w64 (of_z w64 c.args.start) in
    let raw : s ≡ c.args.start = to_z-of_z w64 c.args.start c.ranges.start in
    let L = to_z w64 (of_z w64 c.args.least) in
    let M = to_z w64 (of_z w64 c.args.most) in
    let none : is_some (leaving L M s (take n ps ++ drop n ps)) ≡ false = ap (λ l. is_some (leaving L M s l)) (take_drop n ps) ∙ c.is_calm.ensures c.if-not-is_calm.false in
    none_behind L M s (take n ps) (drop n ps) none
    ∙ same_leaving L M (s +ℤ change_of (take n ps)) c.args.least c.args.most c.args.before (drop n ps) (to_z-of_z w64 c.args.least c.ranges.least) (to_z-of_z w64 c.args.most c.ranges.most) (ap (λ z. z +ℤ change_of (take n ps)) raw ∙ sym c.requires.before)
