use Rattle.std.proofs.Common.{subst, sym, List}
use Rattle.pl_links.specs.declared.broken.Broken.{Broken}
use Rattle.pl_update.specs.Links.Telling.{TellsAll}
use Rattle.pl_update.proofs.AboutLinks.Telling.{tells_changes}
use Rattle.pl_update.proofs.links.taking.take_one.Goals as goal

pub returns-clause-told : goal.returns-clause-told
returns-clause-told c =
    subst (λ (xs : List Broken). TellsAll c.args.told.now.items xs c.args.links.now.broken c.take_telling.new.self.broken) (sym c.in_ok-add_changes.ensures)
    (tells_changes c.args.told.now.items c.args.links.now.broken c.take_telling.new.self.broken c.in_ok-changes.changes c.in_ok-changes.ensures.changes)
