use Rattle.std.proofs.Common.{sym, ◌∙◌}
use Rattle.pl_moves.proofs.Branched.{children_count}
use Rattle.pl_moves.proofs.legality.count_of_children.Goals as goal

pub returns-in-Some-alternative_at-clause-count : goal.returns-in-Some-alternative_at-clause-count
returns-in-Some-alternative_at-clause-count c =
    let of = c.in-Some-alternative_at.of.now in
    let same = children_count c.args.s.now c.in-Some.a.now 0 of.slots of.offsets c.in-Some-alternative_at.ensures.paired.each in
    c.len.ensures ∙ rw (← c.in-Some.ensures.value, ← c.in-Some-alternative_at.ensures.value) (sym same)
