use Rattle.std.proofs.Common.{◌∷◌, [], ◌++◌, All}
use Rattle.std.specs.Vec.Iter.{into_iter_items}
use Rattle.std.proofs.lemmas.List.Elements.{All-head, All-tail, All-push, All-same}
use Rattle.pl_memo.specs.Memories.{Holds}
use Rattle.pl_memo.proofs.memory.all_kept.Goals as goal

pub loop-answer-preserved-in-Continue-branch-2 : goal.loop-answer-preserved-in-Continue-branch-2
loop-answer-preserved-in-Continue-branch-2 c = λ s t made holds.
    let at = c.loop-answer.invariant s t made holds in
    let first = c.in-Some.answer in
    let rest = into_iter_items c.next.new.self in
    let near = c.in-Some-kept.near in
    let all = c.loop-answer.all.items in
    let left : All (Holds s) (first ∷ rest) = rw c.in-Some.ensures.steps.0 at at.0 in (
      All-tail (Holds s) first rest left,
      All-same (Holds t) c.push.new.self.items (all ++ near ∷ []) c.in_ok-push.ensures.items
          (All-push (Holds t) all near at.1 (c.in-Some-kept.ensures s t made (All-head (Holds s) first rest left))),
    )

pub loop-answer-preserved : goal.loop-answer-preserved
loop-answer-preserved c = λ s t made holds.
    let at = c.loop-answer.invariant s t made holds in
    let first = c.in-Some.answer in
    let rest = into_iter_items c.next.new.self in
    let left : All (Holds s) (first ∷ rest) = rw c.in-Some.ensures.steps.0 at at.0 in
    (All-tail (Holds s) first rest left, at.1)

pub returns : goal.returns
returns c = λ s t made holds. All-same (Holds t) c.from_vec.result c.loop-answer.all.items c.from_vec.ensures (c.loop-answer.invariant s t made holds).1
