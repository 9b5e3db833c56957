use Rattle.std.specs.Prelude.{map}
use Rattle.pl_conflict.specs.declared.conflict.Code.TheVariants as code
use Rattle.pl_semantics.specs.Timelines.{outside}
use Rattle.pl_update.proofs.AboutTimelines.Members.{spans_exchanged, told, exchanged_by}
use Rattle.pl_update.proofs.timelines.exchange.of_spans.Goals as goal

pub returns : goal.returns
returns c = λ old new is.
    let make = outside code.Over c.args.line in
    exchanged_by (map make old) (map make new) (map make c.args.change.now.went) (map make c.args.change.now.came) c.add_outside.new.out.items c.add_outside-2.new.out.items
    (told make c.args.change.now.went c.as_slice.result.now c.new-went.result.items c.add_outside.new.out.items c.new-went.ensures.items c.as_slice.ensures c.in_ok-add_outside.ensures)
    (told make c.args.change.now.came c.as_slice-2.result.now c.new-came.result.items c.add_outside-2.new.out.items c.new-came.ensures.items c.as_slice-2.ensures c.in_ok-add_outside-2.ensures)
    (spans_exchanged code.Over c.args.line old new c.args.change.now is)
