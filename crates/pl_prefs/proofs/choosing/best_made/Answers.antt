use Rattle.std.proofs.Common.{◌≡◌, ◌<◌, true, false, length, get_or, arith, sym, ap, subst, ◌∙◌, None, ℤ, pos, rules}
use mir.Syntax.{w128}
use mir.Val.{SFits}
use Rattle.std.proofs.lemmas.Int.{to_z-of_z}
use Rattle.pl_plan.specs.declared.repair.RepairMove.{RepairMove}
use Rattle.pl_plan.specs.declared.repair.RepairMove.TheVariants.{Add}
use Rattle.std.specs.Prelude.{◌<ℤ◌}
use Rattle.std.proofs.lemmas.Option.{slice_get-get_or}
use Rattle.pl_semantics.specs.Moves.{applied}
use Rattle.pl_board.specs.Boards.{Standing, after}
use Rattle.pl_prefs.specs.Betters.{is_clear}
use Rattle.pl_prefs.proofs.Chosen.{tried_out, fewer_above, chosen_best, none_better}
use Rattle.pl_prefs.proofs.choosing.best_made.Goals as goal

pub is_made-requires-clause-unspoiled : goal.is_made-requires-clause-unspoiled
is_made-requires-clause-unspoiled g c = rw c.turns.invariant.same c.requires.unspoiled

pub is_made-requires-clause-next : goal.is_made-requires-clause-next
is_made-requires-clause-next g c = rw c.turns.invariant.same c.requires.next

pub is_made-requires-clause-change : goal.is_made-requires-clause-change
is_made-requires-clause-change g c =
    let within : c.in-Some.place < length c.args.moves.now = omega (arith, c.in-Some.ensures.within, c.turns.invariant.of_all.all) in
    rw c.turns.invariant.same (c.requires.changes c.in-Some.place (Add 0 0 None) within)

pub bounds-moves-place : goal.bounds-moves-place
bounds-moves-place g c = omega (arith, c.in-Some.ensures.within, c.turns.invariant.of_all.all)

pub turns-smaller : goal.turns-smaller
turns-smaller g c = fewer_above c.turns.gains c.in-Some.place c.in-Some.ensures.within c.in-Some.ensures.above

pub turns-preserved : goal.turns-preserved
turns-preserved g c =
    let s = c.args.board.now.state in
    let place = c.in-Some.place in
    let m : RepairMove = get_or c.args.moves.now place (Add 0 0 None) in
    let tried = rw c.if-made.false at c.in_ok-made.ensures.tried in
    let within : place < length c.args.moves.now = omega (arith, c.in-Some.ensures.within, c.turns.invariant.of_all.all) in
    record {
      of_all = tried_out s c.args.prefers.now c.args.moves.now c.turns.gains place m c.turns.invariant.of_all c.in-Some.ensures.within (slice_get-get_or c.args.moves.now place (Add 0 0 None) within) (subst (λ (b : Standing). is_clear b.state m ≡ false) c.turns.invariant.same tried.0);
      same = tried.1 ∙ c.turns.invariant.same;
    }

pub returns-then-made-clause-chosen : goal.returns-then-made-clause-chosen
returns-then-made-clause-chosen g c =
    let s = c.args.board.now.state in
    let place = c.in-Some.place in
    let m : RepairMove = get_or c.args.moves.now place (Add 0 0 None) in
    let fits : SFits w128 (get_or c.turns.gains place (pos 0)) = search rules in
    let tried = rw c.if-made.true at c.in_ok-made.ensures.tried in
    let within : place < length c.args.moves.now = omega (arith, c.in-Some.ensures.within, c.turns.invariant.of_all.all) in
    let here = slice_get-get_or c.args.moves.now place (Add 0 0 None) within in
    let clear = subst (λ (b : Standing). is_clear b.state m ≡ true) c.turns.invariant.same tried.0 in
    record {
      best = chosen_best s c.args.prefers.now c.args.moves.now c.turns.gains c.turns.invariant.of_all place m c.in-Some.ensures here clear;
      clear = clear;
      gain = to_z-of_z w128 (get_or c.turns.gains place (pos 0)) fits ∙ c.turns.invariant.of_all.each place m here clear;
      gains = subst (λ (z : ℤ). pos 0 <ℤ z) (sym (to_z-of_z w128 (get_or c.turns.gains place (pos 0)) fits)) c.in-Some.ensures.above;
      made = tried.1 ∙ ap (λ (b : Standing). after (applied b.state m)) c.turns.invariant.same;
    }

pub returns-clause-chosen : goal.returns-clause-chosen
returns-clause-chosen g c = (none_better c.args.board.now.state c.args.prefers.now c.args.moves.now c.turns.gains c.turns.invariant.of_all c.in_default.ensures, c.turns.invariant.same)
