use Rattle.std.proofs.Common.{◌≡◌, ◌<◌, List, length, get_or, Option, Some, refl, ap, sym, ◌∙◌, subst, inl, inr}
use Rattle.std.specs.Prelude.{slice_get}
use Rattle.std.proofs.lemmas.Option.{slice_get_cases, slice_get_read}
use Rattle.pl_state.specs.Sets.{last_by}
use Rattle.pl_update.specs.declared.timelines.line.Line.{Line}
use Rattle.pl_update.specs.declared.timelines.line.Line.TheVariants.{States}
use Rattle.pl_update.specs.Timelines.Readings.{AreStatesAt, sets_standing}
use Rattle.pl_update.proofs.timelines.lines.Lines.last_set.Goals as goal

pub returns : goal.returns
returns c =
    let xs : List Line = c.args.self.now in
    let i = c.args.line in
    let read : c.index.result.now ≡ get_or xs i c.index.result.now = subst (λ (l : List Line). c.index.result.now ≡ get_or l i c.index.result.now) c.self.view_is c.index.ensures in
    let within : i < length xs = elim (slice_get_cases xs i).1 [ inl there ↦ there.1 | inr past ↦ absurd (subst (AreStatesAt c.args.t) past.1 c.requires) ] in
    let here : slice_get xs i ≡ Some (States c.in-States.states) = slice_get_read xs (length xs) i c.index.result.now refl within read ∙ ap Some c.in-States.is in
    subst (λ (o : Option Line). c.last_set.result ≡ last_by c.args.t (sets_standing o)) (sym here) c.last_set.ensures
