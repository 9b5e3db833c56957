use Rattle.std.proofs.Common.{arith, length, ap}
use Rattle.std.proofs.lemmas.List.{length-map}
use Rattle.pl_marks.specs.declared.mark.Mark.{Mark}
use Rattle.pl_marks.specs.Marks.{Signed}
use Rattle.pl_marks.proofs.Counting.{count_few}
use Rattle.pl_marks.proofs.marks.Marks.push.Goals as goal

pub overflow_add-count : goal.overflow_add-count
overflow_add-count c =
    let few = count_few c.self.inside.opening _ c.self.inside.counts c.self.invariant c.args.author c.requires.author in
    let long = length-map c.self.inside.marks.items (λ (m : Mark). m.author) in
    let is = ap (λ (s : Signed). s.opening) c.self.view_is in
    let are = ap (λ (s : Signed). length s.authors) c.self.view_is in
    let slot = c.slot-slot.ensures.slot in
    let room = c.requires.few in rw slot (omega (arith, few, long, is, are, room))
