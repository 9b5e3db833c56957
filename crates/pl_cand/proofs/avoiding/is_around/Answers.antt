use Rattle.std.proofs.Common.{◌≡◌, false, rules, arith}
use Rattle.std.proofs.lemmas.Grind.{common_steps}
use Rattle.pl_cand.specs.Telling.{is_shift_of_id}
use Rattle.pl_cand.proofs.Starting.{around_other}
use Rattle.pl_cand.proofs.avoiding.is_around.Goals as goal

pub returns-then-not-is_shift_of_id : goal.returns-then-not-is_shift_of_id
returns-then-not-is_shift_of_id c =
    let other : is_shift_of_id c.args.user.now.id c.args.mv.now ≡ false = first_of (cc (c.is_shift_of_id.ensures, c.if-not-is_shift_of_id.true, c.if-not-is_shift_of_id.ensures), search rules, grind (arith, common_steps)) in
    around_other c.args.state.now c.args.mv.now c.args.a c.args.b c.args.user.now other
