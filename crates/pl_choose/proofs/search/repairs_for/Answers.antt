use Rattle.std.proofs.Common.{◌≡◌, length, vec_len, sym, refl, ◌∙◌, rules, arith}
use Rattle.std.proofs.lemmas.Grind.{common_steps}
use Rattle.pl_choose.proofs.Proposing.{none_legal, one_legal}
use Rattle.pl_choose.proofs.search.repairs_for.Goals as goal

pub returns-then-is_empty : goal.returns-then-is_empty
returns-then-is_empty c =
    let count : vec_len c.in_ok-moves.moves ≡ length c.in_ok-moves.moves.items = first_of (search rules, grind (arith, common_steps)) in
    none_legal c.args.board.now.state c.args.conflict.now c.in_ok-moves.moves.items c.in_ok-moves.ensures (rw count at (sym c.is_empty.ensures ∙ c.if-is_empty.true))

pub returns : goal.returns
returns c =
    let count : vec_len c.in_ok-moves.moves ≡ length c.in_ok-moves.moves.items = first_of (search rules, grind (arith, common_steps)) in
    (one_legal c.args.board.now.state c.args.conflict.now c.in_ok-moves.moves.items c.in_ok-moves.ensures (rw count at (sym c.is_empty.ensures ∙ c.if-is_empty.false)), refl, c.in_ok-moves.ensures)
