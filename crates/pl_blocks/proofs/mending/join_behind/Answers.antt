use Rattle.std.proofs.Common.{◌≡◌, ◌+◌, ◌++◌, ◌∷◌, [], suc, ap, sym, ◌∙◌, arith, subst, length, take, drop, pos, get_or}
use Rattle.std.proofs.lemmas.List.{get_or_default}
use Rattle.pl_points.specs.Points.{RiseFrom, AreNear}
use Rattle.pl_blocks.proofs.Mends.{part_behind, mended_behind}
use Rattle.pl_blocks.proofs.mending.join_behind.Goals as goal

pub new-block-requires-clause-rising : goal.new-block-requires-clause-rising
new-block-requires-clause-rising g c =
    let bs = c.args.blocks.now.items in
    let a = c.index.result.now in
    let next : c.args.place + 1 ≡ suc c.args.place = omega arith in
    let read : a ≡ get_or bs (suc c.args.place) a = c.index.ensures ∙ ap (λ n. get_or bs n a) next in
    let all : c.extend_from_slice.new.self.items ≡ c.args.points.items ++ a = c.in_ok-extend_from_slice.ensures.items ∙ ap (λ l. c.args.points.items ++ l) c.points.ensures.points in
    subst (RiseFrom 0) (sym all) (part_behind bs c.args.place c.args.points.items a c.requires.fit c.requires.there read).0

pub new-block-requires-clause-near : goal.new-block-requires-clause-near
new-block-requires-clause-near g c =
    let bs = c.args.blocks.now.items in
    let a = c.index.result.now in
    let next : c.args.place + 1 ≡ suc c.args.place = omega arith in
    let read : a ≡ get_or bs (suc c.args.place) a = c.index.ensures ∙ ap (λ n. get_or bs n a) next in
    let all : c.extend_from_slice.new.self.items ≡ c.args.points.items ++ a = c.in_ok-extend_from_slice.ensures.items ∙ ap (λ l. c.args.points.items ++ l) c.points.ensures.points in
    subst (AreNear (pos 0)) (sym all) (part_behind bs c.args.place c.args.points.items a c.requires.fit c.requires.there read).1

pub returns-clause-ok : goal.returns-clause-ok
returns-clause-ok g c =
    let bs = c.args.blocks.now.items in
    let place = c.args.place in
    let a = c.index.result.now in
    let ps = c.args.points.items in
    let next : place + 1 ≡ suc place = omega arith in
    let read : a ≡ get_or bs (suc place) a = c.index.ensures ∙ ap (λ n. get_or bs n a) next in
    let all : c.extend_from_slice.new.self.items ≡ ps ++ a = c.in_ok-extend_from_slice.ensures.items ∙ ap (λ l. ps ++ l) c.points.ensures.points in
    let same : length (get_or bs (suc place) []) ≡ length a = ap length (get_or_default bs (suc place) [] a c.requires.there ∙ sym read) in
    mended_behind bs place ps a c.put_over_two.new.blocks.items c.requires.fit c.requires.there read (omega (arith, same, c.requires.few))
    (c.put_over_two.ensures ∙ ap (λ x. take place bs ++ x ∷ drop (suc (suc place)) bs) (c.new-block.ensures.points ∙ all))
