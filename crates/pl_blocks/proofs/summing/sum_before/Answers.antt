use Rattle.std.proofs.Common.{◌≡◌, ap, sym, ◌∙◌, subst, take, drop, pos, ◌+ℤ◌}
use Rattle.std.proofs.lemmas.List.{take_rest}
use Rattle.pl_points.specs.Sums.{IsSmall}
use Rattle.pl_points.specs.Points.{AreNear}
use Rattle.pl_blocks.specs.Blocks.{together, change_of}
use Rattle.pl_blocks.proofs.RowSums.{near_before, near_behind, change_swapped, small_before, small_total}
use Rattle.pl_blocks.proofs.Searches.{started}
use Rattle.pl_blocks.proofs.summing.sum_before.Goals as goal

pub sum_of-requires : goal.sum_of-requires
sum_of-requires g c = record { near = near_before c.args.place c.args.blocks.now c.requires.points }

pub sum_of-rest-requires : goal.sum_of-rest-requires
sum_of-rest-requires g c = record { near = subst (λ l. AreNear (pos 0) (together l)) (sym (take_rest c.args.blocks.now c.args.place)) (near_behind c.args.place c.args.blocks.now c.requires.points) }

pub overflow_sub-result : goal.overflow_sub-result
overflow_sub-result g c =
    let bs = c.args.blocks.now in
    let i = c.args.place in
    let before = change_of (together (take i bs)) in
    let rest : c.sum_of-rest.result ≡ change_of (together (drop i bs)) = c.sum_of-rest.ensures.sum ∙ ap (λ l. change_of (together l)) (take_rest bs i) in
    let whole : c.args.total ≡ before +ℤ c.sum_of-rest.result = change_swapped i bs c.args.total c.sum_of-rest.result c.requires.total rest in
    (started c.args.total c.sum_of-rest.result before whole (small_before i bs c.requires.points) (subst (λ z. IsSmall z) (sym c.requires.total ∙ whole) (small_total (together bs) c.requires.points))).0

pub returns-clause-sum : goal.returns-clause-sum
returns-clause-sum g c =
    let bs = c.args.blocks.now in
    let i = c.args.place in
    let before = change_of (together (take i bs)) in
    let rest : c.sum_of-rest.result ≡ change_of (together (drop i bs)) = c.sum_of-rest.ensures.sum ∙ ap (λ l. change_of (together l)) (take_rest bs i) in
    let whole : c.args.total ≡ before +ℤ c.sum_of-rest.result = change_swapped i bs c.args.total c.sum_of-rest.result c.requires.total rest in
    (started c.args.total c.sum_of-rest.result before whole (small_before i bs c.requires.points) (subst (λ z. IsSmall z) (sym c.requires.total ∙ whole) (small_total (together bs) c.requires.points))).1
