use Rattle.std.proofs.Common.{◌≡◌, ◌-◌, ◌∷◌, ◌++◌, [], suc, ap, sym, ◌∙◌, arith, subst, length, take, drop, get_or, set, pos}
use mir.Val.{to_z, of_z}
use mir.Syntax.{w64}
use Rattle.std.proofs.lemmas.Int.{to_z-of_z}
use Rattle.std.proofs.lemmas.List.{get_or_default, set_split, set-get_or}
use Rattle.std.proofs.lemmas.Result.{on_ok_weaker, on_err_weaker}
use Rattle.pl_points.specs.Points.{merged, RiseFrom, AreNear}
use Rattle.pl_points.proofs.PointLists.{length-merged}
use Rattle.pl_blocks.specs.Mending.{Fit, IsMended}
use Rattle.pl_blocks.proofs.Mends.{one_part}
use Rattle.pl_blocks.proofs.Searches.{merged_least, mended_at}
use Rattle.pl_blocks.proofs.mending.merge_at.Goals as goal

pub merge_in-requires-clause-some : goal.merge_in-requires-clause-some
merge_in-requires-clause-some g c =
    let bs = c.args.blocks.now.items in
    let place = c.args.place in
    let d = to_z w64 (of_z w64 c.args.delta) in
    let delta : d ≡ c.args.delta = to_z-of_z w64 c.args.delta c.ranges.delta in
    let b = c.index_mut.result.now in
    let is : b ≡ get_or bs place [] = c.index_mut.ensures.value ∙ sym (get_or_default bs place [] b c.requires.fit.there) in
    let size : length b ≡ length (get_or c.deref.result.now place []) = ap length is ∙ ap (λ l. length (get_or l place [])) (sym c.deref.ensures.value) in
    omega (arith, size, c.stays.ensures.some c.if-stays.true, merged_least c.args.at d b)

pub merge_in-requires-clause-few : goal.merge_in-requires-clause-few
merge_in-requires-clause-few g c =
    let bs = c.args.blocks.now.items in
    let place = c.args.place in
    let d = to_z w64 (of_z w64 c.args.delta) in
    let delta : d ≡ c.args.delta = to_z-of_z w64 c.args.delta c.ranges.delta in
    let b = c.index_mut.result.now in
    let is : b ≡ get_or bs place [] = c.index_mut.ensures.value ∙ sym (get_or_default bs place [] b c.requires.fit.there) in
    let size : length b ≡ length (get_or c.deref.result.now place []) = ap length is ∙ ap (λ l. length (get_or l place [])) (sym c.deref.ensures.value) in
    omega (arith, size, c.stays.ensures.few c.if-stays.true, length-merged c.args.at d b)

pub merge_in-requires-clause-rising : goal.merge_in-requires-clause-rising
merge_in-requires-clause-rising g c =
    let bs = c.args.blocks.now.items in
    let place = c.args.place in
    let d = to_z w64 (of_z w64 c.args.delta) in
    let delta : d ≡ c.args.delta = to_z-of_z w64 c.args.delta c.ranges.delta in
    let b = c.index_mut.result.now in
    let is : b ≡ get_or bs place [] = c.index_mut.ensures.value ∙ sym (get_or_default bs place [] b c.requires.fit.there) in
    let fit : Fit bs place (merged c.args.at d (get_or bs place [])) = subst (λ z. Fit bs place (merged c.args.at z (get_or bs place []))) (sym delta) c.requires.fit in
    subst (λ l. RiseFrom 0 (merged c.args.at d l)) (sym is) (one_part bs place (merged c.args.at d (get_or bs place [])) fit).0

pub merge_in-requires-clause-near : goal.merge_in-requires-clause-near
merge_in-requires-clause-near g c =
    let bs = c.args.blocks.now.items in
    let place = c.args.place in
    let d = to_z w64 (of_z w64 c.args.delta) in
    let delta : d ≡ c.args.delta = to_z-of_z w64 c.args.delta c.ranges.delta in
    let b = c.index_mut.result.now in
    let is : b ≡ get_or bs place [] = c.index_mut.ensures.value ∙ sym (get_or_default bs place [] b c.requires.fit.there) in
    let fit : Fit bs place (merged c.args.at d (get_or bs place [])) = subst (λ z. Fit bs place (merged c.args.at z (get_or bs place []))) (sym delta) c.requires.fit in
    subst (λ l. AreNear (pos 0) (merged c.args.at d l)) (sym is) (one_part bs place (merged c.args.at d (get_or bs place [])) fit).1

pub returns-then-stays-clause-ok : goal.returns-then-stays-clause-ok
returns-then-stays-clause-ok g c =
    let bs = c.args.blocks.now.items in
    let place = c.args.place in
    let d = to_z w64 (of_z w64 c.args.delta) in
    let delta : d ≡ c.args.delta = to_z-of_z w64 c.args.delta c.ranges.delta in
    let b = c.index_mut.result.now in
    let is : b ≡ get_or bs place [] = c.index_mut.ensures.value ∙ sym (get_or_default bs place [] b c.requires.fit.there) in
    let size : length b ≡ length (get_or c.deref.result.now place []) = ap length is ∙ ap (λ l. length (get_or l place [])) (sym c.deref.ensures.value) in
    let fit : Fit bs place (merged c.args.at d (get_or bs place [])) = subst (λ z. Fit bs place (merged c.args.at z (get_or bs place []))) (sym delta) c.requires.fit in
    let s = c.stays.ensures in
    let yes = c.if-stays.true in
    on_ok_weaker c.merge_in.result (λ e. subst (λ z. IsMended bs place (merged c.args.at z (get_or bs place [])) (set bs place c.merge_in.new.self)) delta
    (mended_at bs place c.args.at d b (set bs place c.merge_in.new.self) fit is (omega (arith, size, s.some yes)) (omega (arith, size, s.few yes))
    (λ some. omega (arith, size, s.later yes some, ap (λ l. length (get_or l (place - 1) [])) c.deref.ensures.value))
    (λ lt. omega (arith, size, s.earlier yes (omega (arith, lt, ap length c.deref.ensures.value)), ap (λ l. length (get_or l (suc place) [])) c.deref.ensures.value))
    (set_split bs place c.merge_in.new.self fit.there ∙ ap (λ x. take place bs ++ x ∷ drop (suc place) bs) e))) c.merge_in.ensures.ok

pub returns-then-stays-clause-err : goal.returns-then-stays-clause-err
returns-then-stays-clause-err g c =
    let b = c.index_mut.result.now in
    let bs = c.args.blocks.now.items in
    on_err_weaker c.merge_in.result (λ e. ap (set bs c.args.place) (e ∙ c.index_mut.ensures.value) ∙ set-get_or bs c.args.place b) c.merge_in.ensures.err

pub mend-requires : goal.mend-requires
mend-requires g c =
    let bs = c.args.blocks.now.items in
    let place = c.args.place in
    let d = to_z w64 (of_z w64 c.args.delta) in
    let delta : d ≡ c.args.delta = to_z-of_z w64 c.args.delta c.ranges.delta in
    let b = c.index.result.now in
    let is : b ≡ get_or bs place [] = c.index.ensures ∙ sym (get_or_default bs place [] b c.requires.fit.there) in
    let points : c.in_ok-points.points.items ≡ merged c.args.at c.args.delta (get_or bs place []) = c.in_ok-points.ensures ∙ ap (λ z. merged c.args.at z b) delta ∙ ap (merged c.args.at c.args.delta) is in
    subst (λ l. Fit bs place l) (sym points) c.requires.fit

pub returns-clause-ok : goal.returns-clause-ok
returns-clause-ok g c =
    let bs = c.args.blocks.now.items in
    let place = c.args.place in
    let d = to_z w64 (of_z w64 c.args.delta) in
    let delta : d ≡ c.args.delta = to_z-of_z w64 c.args.delta c.ranges.delta in
    let b = c.index.result.now in
    let is : b ≡ get_or bs place [] = c.index.ensures ∙ sym (get_or_default bs place [] b c.requires.fit.there) in
    let points : c.in_ok-points.points.items ≡ merged c.args.at c.args.delta (get_or bs place []) = c.in_ok-points.ensures ∙ ap (λ z. merged c.args.at z b) delta ∙ ap (merged c.args.at c.args.delta) is in
    on_ok_weaker c.mend.result (subst (λ l. IsMended bs place l c.mend.new.blocks.items) points) c.mend.ensures.ok
