use Rattle.std.proofs.Common.{◌≡◌, ◌<◌, ◌-◌, ◌++◌, ◌∷◌, [], suc, ap, sym, ◌∙◌, arith, subst, length, take, drop, pos, get_or}
use Rattle.std.proofs.lemmas.List.{get_or_default}
use Rattle.pl_points.specs.Points.{RiseFrom, AreNear}
use Rattle.pl_blocks.proofs.Mends.{part_before, mended_before}
use Rattle.pl_blocks.proofs.mending.join_before.Goals as goal

pub new-block-requires-clause-rising : goal.new-block-requires-clause-rising
new-block-requires-clause-rising g c =
    let bs = c.args.blocks.now.items in
    let a = c.index.result.now in
    let all : c.extend_from_slice.new.self.items ≡ a ++ c.args.points.items = c.in_ok-extend_from_slice.ensures.items ∙ ap (λ l. l ++ c.deref.result.now) (c.in_ok-all.ensures.items ∙ c.points.ensures.points) ∙ ap (λ l. a ++ l) c.deref.ensures.value in
    subst (RiseFrom 0) (sym all) (part_before bs c.args.place (c.args.place - 1) c.args.points.items a c.requires.fit (omega (arith, c.requires.later)) c.index.ensures).0

pub new-block-requires-clause-near : goal.new-block-requires-clause-near
new-block-requires-clause-near g c =
    let bs = c.args.blocks.now.items in
    let a = c.index.result.now in
    let all : c.extend_from_slice.new.self.items ≡ a ++ c.args.points.items = c.in_ok-extend_from_slice.ensures.items ∙ ap (λ l. l ++ c.deref.result.now) (c.in_ok-all.ensures.items ∙ c.points.ensures.points) ∙ ap (λ l. a ++ l) c.deref.ensures.value in
    subst (AreNear (pos 0)) (sym all) (part_before bs c.args.place (c.args.place - 1) c.args.points.items a c.requires.fit (omega (arith, c.requires.later)) c.index.ensures).1

pub returns-clause-ok : goal.returns-clause-ok
returns-clause-ok g c =
    let bs = c.args.blocks.now.items in
    let place = c.args.place in
    let a = c.index.result.now in
    let ps = c.args.points.items in
    let all : c.extend_from_slice.new.self.items ≡ a ++ ps = c.in_ok-extend_from_slice.ensures.items ∙ ap (λ l. l ++ c.deref.result.now) (c.in_ok-all.ensures.items ∙ c.points.ensures.points) ∙ ap (λ l. a ++ l) c.deref.ensures.value in
    let later : place ≡ suc (place - 1) = omega (arith, c.requires.later) in
    let lt : place - 1 < length bs = omega (arith, c.requires.fit.there) in
    let same : length (get_or bs (place - 1) []) ≡ length a = ap length (get_or_default bs (place - 1) [] a lt ∙ sym c.index.ensures) in
    let behind : drop (suc (suc (place - 1))) bs ≡ drop (suc place) bs = ap (λ n. drop (suc n) bs) (sym later) in
    mended_before bs place (place - 1) ps a c.put_over_two.new.blocks.items c.requires.fit later c.index.ensures (omega (arith, same, c.requires.few))
    (c.put_over_two.ensures ∙ ap (λ x. take (place - 1) bs ++ x ∷ drop (suc (suc (place - 1))) bs) (c.new-block.ensures.points ∙ all) ∙ ap (λ l. take (place - 1) bs ++ (a ++ ps) ∷ l) behind)
