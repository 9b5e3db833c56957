use Rattle.std.proofs.Common.{◌++◌}
use Rattle.std.specs.Prelude.{map}
use Rattle.pl_conflict.specs.declared.conflict.Code.TheVariants as code
use Rattle.pl_semantics.specs.Timelines.{outside}
use Rattle.pl_update.proofs.AboutTimelines.Members.{levels_exchanged, told, told_more, exchanged_by}
use Rattle.pl_update.proofs.timelines.exchange.of_levels.Goals as goal

pub returns : goal.returns
returns c = λ low low' high high' is.
    let under = outside code.Low c.args.line in
    let over = outside code.High c.args.line in
    let change = c.args.change.now in
    exchanged_by (map under low ++ map over high) (map under low' ++ map over high')
    (map under change.low.went ++ map over change.high.went) (map under change.low.came ++ map over change.high.came) c.add_outside-2.new.out.items c.add_outside-4.new.out.items
    (told_more over change.high.went c.as_slice-2.result.now (map under change.low.went) c.add_outside.new.out.items c.add_outside-2.new.out.items
    (told under change.low.went c.as_slice.result.now c.new-went.result.items c.add_outside.new.out.items c.new-went.ensures.items c.as_slice.ensures c.in_ok-add_outside.ensures) c.as_slice-2.ensures c.in_ok-add_outside-2.ensures)
    (told_more over change.high.came c.as_slice-4.result.now (map under change.low.came) c.add_outside-3.new.out.items c.add_outside-4.new.out.items
    (told under change.low.came c.as_slice-3.result.now c.new-came.result.items c.add_outside-3.new.out.items c.new-came.ensures.items c.as_slice-3.ensures c.in_ok-add_outside-3.ensures) c.as_slice-4.ensures c.in_ok-add_outside-4.ensures)
    (levels_exchanged c.args.line low low' high high' change is)
