use Rattle.std.proofs.Common.{◌≡◌, true, false, sym, ◌∙◌}
use Rattle.std.specs.List.{list_any}
use Rattle.std.specs.Map.Iter.{deref}
use Rattle.std.proofs.lemmas.Map.Iter.{rest_more, rest_all}
use Rattle.pl_conflict.specs.declared.conflict.Conflict.{Conflict}
use Rattle.pl_semantics.specs.Conflicts.{conflicts_of}
use Rattle.pl_semantics.specs.Legal.{has_repair}
use Rattle.pl_cand.proofs.Search.{any_step, any_here, any_end}
use Rattle.pl_cand.proofs.stuck.any_repair.Goals as goal

pub returns-then-branch : goal.returns-then-branch
returns-then-branch c =
    let s = c.args.board.now.state in
    let k : Conflict = c.in-Some.conflict.now in
    let has : has_repair s k ≡ true = sym c.in_ok-has_repair.ensures ∙ c.if-branch.true in
    let next = rest_more deref c.loop-conflict.conflict-iterator c.next.new.self c.next.result c.in-Some.conflict c.in-Some.is c.next.ensures.steps in
    sym (any_here (has_repair s) c.loop-conflict.conflict-iterator c.next.new.self k (list_any (has_repair s) (conflicts_of s)) next has c.loop-conflict.invariant)

pub loop-conflict-preserved : goal.loop-conflict-preserved
loop-conflict-preserved c =
    let s = c.args.board.now.state in
    let k : Conflict = c.in-Some.conflict.now in
    let none : has_repair s k ≡ false = sym c.in_ok-has_repair.ensures ∙ c.if-branch.false in
    let next = rest_more deref c.loop-conflict.conflict-iterator c.next.new.self c.next.result c.in-Some.conflict c.in-Some.is c.next.ensures.steps in
    any_step (has_repair s) c.loop-conflict.conflict-iterator c.next.new.self k (list_any (has_repair s) (conflicts_of s)) next none c.loop-conflict.invariant

pub returns : goal.returns
returns c =
    let s = c.args.board.now.state in
    let over = rest_all deref c.loop-conflict.conflict-iterator c.next.new.self c.next.result c.in-None.is c.next.ensures.steps in
    sym (any_end (has_repair s) c.loop-conflict.conflict-iterator (list_any (has_repair s) (conflicts_of s)) over c.loop-conflict.invariant)
