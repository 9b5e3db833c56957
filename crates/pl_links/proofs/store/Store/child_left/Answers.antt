use Rattle.std.proofs.Common.{◌∙◌}
use Rattle.std.specs.Map.{values_of}
use Rattle.pl_links.proofs.Left.{child_some, child_none}
use Rattle.pl_links.proofs.store.Store.child_left.Goals as goal

pub returns-in-Some : goal.returns-in-Some
returns-in-Some c =
    c.item_left.ensures
    ∙ rw (← c.self.view_is) (child_some c.args.gone (values_of c.self.inside.items.entries) c.self.inside.files.children c.self.invariant.rising c.self.invariant.apart c.self.invariant.filed.children c.args.parent c.args.slot c.in-Some.id c.in-Some.ensures.some)

pub returns-in-None : goal.returns-in-None
returns-in-None c =
    rw (← c.self.view_is) (child_none c.args.gone (values_of c.self.inside.items.entries) c.self.inside.files.children c.self.invariant.rising c.self.invariant.apart c.self.invariant.filed.children c.args.parent c.args.slot c.in-None.ensures.none)
