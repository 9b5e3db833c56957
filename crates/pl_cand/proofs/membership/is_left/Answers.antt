use Rattle.std.proofs.Common.{◌≡◌, true, false, take, rules, sym, ap, arith, ◌∙◌}
use Rattle.std.proofs.lemmas.Grind.{common_steps}
use Rattle.std.specs.List.{list_any}
use Rattle.pl_semantics.specs.Candidates.{is_worth, same_move}
use Rattle.pl_cand.proofs.Among.{early_left, untried_left, worthless_left}
use Rattle.pl_cand.proofs.membership.is_left.Goals as goal

pub returns-then-not-is_worth : goal.returns-then-not-is_worth
returns-then-not-is_worth c =
    let worthless : is_worth c.args.state.now c.args.mv.now ≡ false = first_of (cc (c.is_worth.ensures, c.if-not-is_worth.true, c.if-not-is_worth.ensures), search rules, grind (arith, common_steps)) in
    worthless_left (is_worth c.args.state.now) c.args.mv.now c.args.moves.now worthless

pub returns-then-is_among : goal.returns-then-is_among
returns-then-is_among c =
    let worth : is_worth c.args.state.now c.args.mv.now ≡ true = first_of (cc (c.is_worth.ensures, c.if-not-is_worth.false, c.if-not-is_worth.ensures), search rules, grind (arith, common_steps)) in
    let among : list_any (same_move c.args.mv.now) (take 256 c.args.moves.now) ≡ true = ap (list_any (same_move c.args.mv.now)) (sym c.first.ensures) ∙ sym c.is_among.ensures ∙ c.if-is_among.true in
    early_left (is_worth c.args.state.now) c.args.mv.now c.args.moves.now worth among

pub returns-then-moves-le-MOST : goal.returns-then-moves-le-MOST
returns-then-moves-le-MOST c =
    let none : list_any (same_move c.args.mv.now) (take 256 c.args.moves.now) ≡ false = ap (list_any (same_move c.args.mv.now)) (sym c.first.ensures) ∙ sym c.is_among.ensures ∙ c.if-is_among.false in
    untried_left (is_worth c.args.state.now) c.args.mv.now c.args.moves.now c.if-moves-le-MOST.true none
