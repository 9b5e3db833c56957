use Rattle.std.proofs.Common.{◌≡◌, ◌<◌, ◌+◌, ℕ, Bool, true, false, List, [], length, get_or, arith, ap, sym, ◌∙◌}
use Rattle.std.proofs.lemmas.List.{get_or_default}
use Rattle.std.proofs.lemmas.Bool.{not-true}
use Rattle.std.proofs.Math.Numerals.{add-one}
use Rattle.pl_points.specs.Points.{Point}
use Rattle.pl_points.proofs.Parting.{last_passing}
use Rattle.pl_blocks.specs.Blocks.{is_past}
use Rattle.pl_blocks.proofs.Rows.{parted_blocks}
use Rattle.pl_blocks.proofs.finding.is_last_past.Goals as goal

-- a block that is read at its place, and what is known of it
read : (at from m : ℕ) (bs : List (List Point)) (b : List Point) (v w : Bool) → m < length bs → b ≡ get_or bs m b → from ≡ at → v ≡ is_past from b → v ≡ w → is_past at (get_or bs m []) ≡ w
read at from m bs b v w lt is same test e = ap (is_past at) (get_or_default bs m [] b lt ∙ sym is) ∙ ap (λ n. is_past n b) (sym same) ∙ sym test ∙ e

pub returns-then-place-blocks-2-clause-before : goal.returns-then-place-blocks-2-clause-before
returns-then-place-blocks-2-clause-before c =
    let bs = c.args.blocks.now in
    let lt : c.args.place < length bs = omega (arith, c.if-place-blocks.false) in
    let past = read c.args.at c.from-moment.result c.args.place bs c.index-blocks-place.result c.is_past.result true lt c.index-blocks-place.is c.from-moment.ensures c.is_past.ensures c.if-not-is_past.false in
    λ _. (last_passing (is_past c.args.at) c.args.place [] bs (parted_blocks c.args.at 0 bs c.requires.rising c.requires.sized) lt past (λ h. absurd (omega (arith, h, c.if-place-blocks-2.true)))).0

pub returns-then-place-blocks-2-clause-rest : goal.returns-then-place-blocks-2-clause-rest
returns-then-place-blocks-2-clause-rest c =
    let bs = c.args.blocks.now in
    let lt : c.args.place < length bs = omega (arith, c.if-place-blocks.false) in
    let past = read c.args.at c.from-moment.result c.args.place bs c.index-blocks-place.result c.is_past.result true lt c.index-blocks-place.is c.from-moment.ensures c.is_past.ensures c.if-not-is_past.false in
    λ _. (last_passing (is_past c.args.at) c.args.place [] bs (parted_blocks c.args.at 0 bs c.requires.rising c.requires.sized) lt past (λ h. absurd (omega (arith, h, c.if-place-blocks-2.true)))).1

pub returns-clause-before : goal.returns-clause-before
returns-clause-before c =
    let bs = c.args.blocks.now in
    let lt : c.args.place < length bs = omega (arith, c.if-place-blocks.false) in
    let past = read c.args.at c.from-moment.result c.args.place bs c.index-blocks-place.result c.is_past.result true lt c.index-blocks-place.is c.from-moment.ensures c.is_past.ensures c.if-not-is_past.false in
    λ e. (last_passing (is_past c.args.at) c.args.place [] bs (parted_blocks c.args.at 0 bs c.requires.rising c.requires.sized) lt past
    (λ h. ap (λ n. is_past c.args.at (get_or bs n [])) (sym (add-one c.args.place)) ∙ read c.args.at c.from-moment.result (c.args.place + 1) bs c.index-blocks-place-2.result c.is_past-2.result false (omega (arith, h)) c.index-blocks-place-2.is c.from-moment.ensures c.is_past-2.ensures (not-true c.is_past-2.result e))).0

pub returns-clause-rest : goal.returns-clause-rest
returns-clause-rest c =
    let bs = c.args.blocks.now in
    let lt : c.args.place < length bs = omega (arith, c.if-place-blocks.false) in
    let past = read c.args.at c.from-moment.result c.args.place bs c.index-blocks-place.result c.is_past.result true lt c.index-blocks-place.is c.from-moment.ensures c.is_past.ensures c.if-not-is_past.false in
    λ e. (last_passing (is_past c.args.at) c.args.place [] bs (parted_blocks c.args.at 0 bs c.requires.rising c.requires.sized) lt past
    (λ h. ap (λ n. is_past c.args.at (get_or bs n [])) (sym (add-one c.args.place)) ∙ read c.args.at c.from-moment.result (c.args.place + 1) bs c.index-blocks-place-2.result c.is_past-2.result false (omega (arith, h)) c.index-blocks-place-2.is c.from-moment.ensures c.is_past-2.ensures (not-true c.is_past-2.result e))).1
