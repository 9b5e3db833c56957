use Rattle.std.proofs.Common.{length}
use Rattle.pl_detect.proofs.parameters.is_bad_param.Goals as goal

pub lacks_by-requires-clause-binding : goal.lacks_by-requires-clause-binding
lacks_by-requires-clause-binding c = c.binding_of.ensures.named (length c.args.above.now) c.requires.bindings
