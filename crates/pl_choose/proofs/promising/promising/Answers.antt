use Rattle.std.proofs.Common.{◌≡◌, List, Some, length, min, refl, rules, subst, arith}
use Rattle.std.specs.Prelude.{slice_get}
use Rattle.std.proofs.lemmas.Grind.{common_steps}
use Rattle.pl_conflict.specs.declared.conflict.Conflict.{Conflict}
use Rattle.pl_semantics.specs.Conflicts.{conflicts_of}
use Rattle.pl_choose.proofs.Promise.{lone_promise}
use Rattle.pl_choose.proofs.promising.promising.Goals as goal

pub returns : goal.returns
returns c =
    let s = c.args.board.now.state in
    let k = c.in_ok-conflict.conflict in
    let one : min (length c.conflicts.result.now) 4294967295 ≡ 1 = first_of (omega (arith, c.len.ensures.count), search rules, grind (arith, common_steps)) in
    let alone = subst (λ (l : List Conflict). min (length l) 4294967295 ≡ 1) (c.conflicts.ensures c.requires) one in
    let here = subst (λ (l : List Conflict). Some k ≡ slice_get l 0) (c.conflicts-2.ensures c.requires) c.in_ok-conflict.ensures.least in
    lone_promise s k c.in_ok-mv.mv (conflicts_of s) refl alone here c.in_ok-mv.ensures
