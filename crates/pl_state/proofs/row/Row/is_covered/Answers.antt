use Rattle.std.proofs.Common.{ap, sym, ◌∙◌}
use Rattle.std.specs.Option.{option_copied}
use Rattle.pl_state.specs.Rows.{covers, is_covered, last_passes}
use Rattle.pl_state.proofs.InRows.{last_some}
use Rattle.pl_state.proofs.row.Row.is_covered.Goals as goal

pub returns-in-Some : goal.returns-in-Some
returns-in-Some g c =
    let p = is_covered g.T.Keyed.key c.args.bound in
    c.covers.ensures ∙ (ap (covers c.args.bound) c.key.ensures ∙ (last_some p c.deref.result.now c.in-Some.item.now (sym (ap option_copied c.in-Some.is) ∙ c.last.ensures.value) ∙ ap (last_passes p) (c.deref.ensures.value ∙ c.self.view_is)))
