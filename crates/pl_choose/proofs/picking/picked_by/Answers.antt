use Rattle.std.proofs.Common.{◌<◌, ◌%◌, length, refl, sym, arith}
use Rattle.std.proofs.lemmas.Grind.{common_steps}
use Rattle.std.proofs.lemmas.Option.{slice_get_read}
use Rattle.pl_choose.proofs.picking.picked_by.Goals as goal

pub returns-else-is_empty : goal.returns-else-is_empty
returns-else-is_empty g c =
    let within : c.args.word % length c.args.all.now < length c.args.all.now = first_of (omega arith, grind (arith, common_steps)) in
    sym (slice_get_read c.args.all.now (length c.args.all.now) (c.args.word % length c.args.all.now) c.index-all-word.result refl within c.index-all-word.is)
