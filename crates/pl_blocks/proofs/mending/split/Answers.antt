use Rattle.std.proofs.Common.{◌≡◌, ◌-◌, ◌++◌, ◌∷◌, suc, ap, sym, ◌∙◌, arith, subst, length, take, drop, pos}
use Rattle.std.proofs.lemmas.List.{take_rest, length-drop, length-append}
use Rattle.std.proofs.lemmas.Result.{on_ok_weaker}
use Rattle.pl_points.specs.Points.{RiseFrom, AreNear}
use Rattle.pl_blocks.proofs.Rows.{take_drop}
use Rattle.pl_blocks.proofs.Mends.{two_parts, mended_two}
use Rattle.pl_blocks.proofs.mending.split.Goals as goal

pub new-first-requires-clause-rising : goal.new-first-requires-clause-rising
new-first-requires-clause-rising g c =
    let ps = c.args.points.items in
    subst (RiseFrom 0) (sym (c.shrink_to_fit.ensures.items ∙ c.truncate.ensures.items)) (two_parts c.args.blocks.now.items c.args.place ps (take 32 ps) (drop 32 ps) c.requires.fit (sym (take_drop 32 ps))).0.0

pub new-first-requires-clause-near : goal.new-first-requires-clause-near
new-first-requires-clause-near g c =
    let ps = c.args.points.items in
    subst (AreNear (pos 0)) (sym (c.shrink_to_fit.ensures.items ∙ c.truncate.ensures.items)) (two_parts c.args.blocks.now.items c.args.place ps (take 32 ps) (drop 32 ps) c.requires.fit (sym (take_drop 32 ps))).0.1

pub new-second-requires-clause-rising : goal.new-second-requires-clause-rising
new-second-requires-clause-rising g c =
    let ps = c.args.points.items in
    let second : c.in_ok-behind.behind.items ≡ drop 32 ps = c.in_ok-behind.ensures.items ∙ take_rest c.deref.result.now 32 ∙ ap (drop 32) c.deref.ensures.value in
    subst (RiseFrom 0) (sym second) (two_parts c.args.blocks.now.items c.args.place ps (take 32 ps) (drop 32 ps) c.requires.fit (sym (take_drop 32 ps))).1.0

pub new-second-requires-clause-near : goal.new-second-requires-clause-near
new-second-requires-clause-near g c =
    let ps = c.args.points.items in
    let second : c.in_ok-behind.behind.items ≡ drop 32 ps = c.in_ok-behind.ensures.items ∙ take_rest c.deref.result.now 32 ∙ ap (drop 32) c.deref.ensures.value in
    subst (AreNear (pos 0)) (sym second) (two_parts c.args.blocks.now.items c.args.place ps (take 32 ps) (drop 32 ps) c.requires.fit (sym (take_drop 32 ps))).1.1

pub returns-clause-ok : goal.returns-clause-ok
returns-clause-ok g c =
    let bs = c.args.blocks.now.items in
    let place = c.args.place in
    let ps = c.args.points.items in
    let second : c.in_ok-behind.behind.items ≡ drop 32 ps = c.in_ok-behind.ensures.items ∙ take_rest c.deref.result.now 32 ∙ ap (drop 32) c.deref.ensures.value in
    let one = c.new-first.ensures.points ∙ c.shrink_to_fit.ensures.items ∙ c.truncate.ensures.items in
    let two = c.new-second.ensures.points ∙ second in
    let rest : length (drop 32 ps) ≡ length ps - 32 = length-drop 32 ps in
    let first : length (take 32 ps) ≡ 32 = omega (arith, ap length (take_drop 32 ps), length-append (take 32 ps) (drop 32 ps), rest, c.requires.many) in
    on_ok_weaker c.put_two.result (λ e. mended_two bs place ps (take 32 ps) (drop 32 ps) c.put_two.new.blocks.items c.requires.fit (sym (take_drop 32 ps)) first (omega (arith, rest, c.requires.many)) (omega (arith, rest, c.requires.fit.most))
    (e ∙ ap (λ x. take place bs ++ x ∷ c.new-second.result ∷ drop (suc place) bs) one ∙ ap (λ x. take place bs ++ take 32 ps ∷ x ∷ drop (suc place) bs) two)) c.put_two.ensures.ok
