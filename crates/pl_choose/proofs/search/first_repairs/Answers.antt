use Rattle.std.proofs.Common.{◌≡◌, false, Option, Some, find, sym, subst, ap, ◌∙◌}
use Rattle.std.specs.Map.Iter.{deref}
use Rattle.std.proofs.lemmas.Map.Iter.{rest_more, rest_all}
use Rattle.pl_conflict.specs.declared.conflict.Conflict.{Conflict}
use Rattle.pl_semantics.specs.Conflicts.{conflicts_of}
use Rattle.pl_semantics.specs.Legal.{has_repair, legal_for}
use Rattle.pl_choose.specs.declared.repairs.Repairs.{Repairs}
use Rattle.pl_choose.specs.Found.{AreFor}
use Rattle.pl_choose.proofs.Finding.{find_step, find_here, find_end}
use Rattle.pl_choose.proofs.search.first_repairs.Goals as goal

pub returns-in-Some-2 : goal.returns-in-Some-2
returns-in-Some-2 c =
    let s = c.args.board.now.state in
    let k : Conflict = c.in-Some.conflict.now in
    let found : Repairs = c.in-Some-2.repairs in
    let P : Option Repairs → Type 0 = λ o. AreFor s k o in
    let these : AreFor s k (Some found) = subst P c.in-Some-2.is c.in_ok-repairs.ensures in
    let next = rest_more deref c.loop-conflict.conflict-iterator c.next.new.self c.next.result c.in-Some.conflict c.in-Some.is c.next.ensures.steps in
    let here : find (has_repair s) (conflicts_of s) ≡ Some k = find_here (has_repair s) c.loop-conflict.conflict-iterator c.next.new.self k (find (has_repair s) (conflicts_of s)) next these.0 c.loop-conflict.invariant in
    let Q : Conflict → Type 0 = λ q. found.moves.items ≡ legal_for s q in
    (here ∙ ap (λ (q : Conflict). Some q) (sym these.1), subst Q (sym these.1) these.2)

pub loop-conflict-preserved : goal.loop-conflict-preserved
loop-conflict-preserved c =
    let s = c.args.board.now.state in
    let k : Conflict = c.in-Some.conflict.now in
    let P : Option Repairs → Type 0 = λ o. AreFor s k o in
    let none : has_repair s k ≡ false = subst P c.in_default.is c.in_ok-repairs.ensures in
    let next = rest_more deref c.loop-conflict.conflict-iterator c.next.new.self c.next.result c.in-Some.conflict c.in-Some.is c.next.ensures.steps in
    find_step (has_repair s) c.loop-conflict.conflict-iterator c.next.new.self k (find (has_repair s) (conflicts_of s)) next none c.loop-conflict.invariant

pub returns : goal.returns
returns c =
    let s = c.args.board.now.state in
    let over = rest_all deref c.loop-conflict.conflict-iterator c.next.new.self c.next.result c.in-None.is c.next.ensures.steps in
    find_end (has_repair s) c.loop-conflict.conflict-iterator (find (has_repair s) (conflicts_of s)) over c.loop-conflict.invariant
