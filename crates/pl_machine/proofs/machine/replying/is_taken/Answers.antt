use Rattle.std.proofs.Common.{◌≡◌, is_some, Option, Some, None, Bor, refl, ◌∙◌, ap}
use Rattle.std.specs.Option.{option_copied}
use Rattle.pl_facts.specs.declared.goal.Goal.{Goal}
use Rattle.pl_machine.proofs.Inputs.{found_any}
use Rattle.pl_machine.proofs.machine.replying.is_taken.Goals as goal

copied_there : (o : Option (Bor Goal)) → is_some o ≡ is_some (option_copied o)
copied_there None = refl
copied_there (Some x) = refl

pub returns : goal.returns
returns c = c.is_some.ensures ∙ copied_there c.get.result ∙ ap is_some c.get.ensures.goal ∙ found_any c.args.number c.args.goals.now
