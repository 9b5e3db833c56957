use Rattle.std.proofs.Common.{◌≡◌, ◌<◌, List, length, get_or, Option, Some, true, refl, ap, sym, ◌∙◌, subst, inl, inr}
use Rattle.std.specs.Prelude.{◌↔◌, IfOk, slice_get}
use Rattle.std.proofs.lemmas.Option.{slice_get_cases, slice_get_read}
use Rattle.pl_state.specs.declared.reservation.Must.{Must}
use Rattle.pl_state.specs.Keys.{Has}
use Rattle.pl_state.specs.Musts.{holds_at}
use Rattle.pl_update.specs.declared.timelines.line.Line.{Line}
use Rattle.pl_update.specs.declared.timelines.line.Line.TheVariants.{States}
use Rattle.pl_update.specs.Timelines.Readings.{AreStatesAt, musts_standing}
use Rattle.pl_update.proofs.timelines.lines.Lines.musts_at.Goals as goal

pub returns : goal.returns
returns c =
    let xs : List Line = c.args.self.now in
    let i = c.args.line in
    let read : c.index.result.now ≡ get_or xs i c.index.result.now = subst (λ (l : List Line). c.index.result.now ≡ get_or l i c.index.result.now) c.self.view_is c.index.ensures in
    let within : i < length xs = elim (slice_get_cases xs i).1 [ inl there ↦ there.1 | inr past ↦ absurd (subst (AreStatesAt c.args.t) past.1 c.requires) ] in
    let here : slice_get xs i ≡ Some (States c.in-States.states) = slice_get_read xs (length xs) i c.index.result.now refl within read ∙ ap Some c.in-States.is in
    subst (λ (o : Option Line). IfOk c.musts_at.result (λ v. (m : Must) → Has m v.items ↔ (Has m (musts_standing o) × (holds_at c.args.t m ≡ true)))) (sym here) c.musts_at.ensures
