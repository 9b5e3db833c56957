use Rattle.std.proofs.Common.{rules, ◌≡◌, ◌-◌, ◌++◌, ◌∷◌, [], suc, ap, ◌∙◌, arith, length, take, drop, get_or, set}
use Rattle.std.proofs.lemmas.List.{set_split, nil_from_length}
use Rattle.pl_blocks.proofs.Mends.{one_part, mended_none, mended_one, size_before}
use Rattle.pl_blocks.proofs.mending.mend.Goals as goal

pub returns-then-count-eq0-clause-ok : goal.returns-then-count-eq0-clause-ok
returns-then-count-eq0-clause-ok g c =
    let bs = c.args.blocks.now.items in
    let none : c.args.points.items ≡ [] = nil_from_length c.args.points.items (search (rules, c.if-count-eq0.true, c.len-count.ensures)) in
    mended_none bs c.args.place c.args.points.items c.remove.new.self.items c.requires none c.remove.ensures.items

pub new-requires-clause-rising : goal.new-requires-clause-rising
new-requires-clause-rising g c = (one_part c.args.blocks.now.items c.args.place c.args.points.items c.requires).0

pub new-requires-clause-near : goal.new-requires-clause-near
new-requires-clause-near g c = (one_part c.args.blocks.now.items c.args.place c.args.points.items c.requires).1

pub returns-clause-ok : goal.returns-clause-ok
returns-clause-ok g c =
    let bs = c.args.blocks.now.items in
    let place = c.args.place in
    let ps = c.args.points.items in
    let len : c.len-count.result ≡ length ps = search (rules, c.len-count.ensures) in
    let before = size_before bs place c.before_count.result c.requires.there c.before_count.ensures.first (λ h. c.before_count.ensures.later h ∙ ap (λ l. length (get_or l (place - 1) [])) c.deref.ensures.value) in
    mended_one bs place ps (set bs place c.new.result) c.requires (omega (arith, len, c.if-count-eq0.false)) (omega (arith, len, c.if-count-gt-MOST.false)) (omega (arith, before, len, c.if-before_count-count-le-FEW.false))
    (λ lt. omega (arith, len, c.if-count-behind_count-le-FEW.false, c.behind_count.ensures.earlier (omega (arith, lt, ap length c.deref-2.ensures.value)), ap (λ l. length (get_or l (suc place) [])) c.deref-2.ensures.value))
    (set_split bs place c.new.result c.requires.there ∙ ap (λ x. take place bs ++ x ∷ drop (suc place) bs) c.new.ensures.points)
