-- A run over a text: of any kind, from what the run comes to over a model.
use Rattle.std.proofs.Common.{◌≡◌, ℕ, List, OnOk, OnErr, IfOk, IfErr, Option, Result, Ok, Err, refl}
use Rattle.std.specs.declared.vec.Vec.{Vec}
use Rattle.std.specs.declared.alloc.Global.{Global}
use Rattle.pl_io.specs.Writes.{AppendsFront}
use Rattle.pl_model.specs.declared.whole.Model.{Model}
use Rattle.pl_check.specs.declared.accepting.Accepted.TheVariants as accepted
use Rattle.pl_input.specs.declared.halt.Halt.{Halt}
use Rattle.pl_input.specs.declared.halt.Halt.TheVariants as halt
use Rattle.pl_main.specs.declared.outcome.Outcome.{Outcome}
use Rattle.pl_main.specs.declared.outcome.Outcome.TheVariants as outcome
use Rattle.pl_journal.specs.Written.{Adds}
use Rattle.pl_input.specs.Places.{Place}
use Rattle.pl_main.specs.Runs.{AcceptsKept, unjudged, in_fault, in_run, TextRuns, RunsOver}

pub text_unjudged : (Over : RunsOver) (kept : Option (Vec ℕ Global)) (start : Place) (held : Option (List ℕ)) → TextRuns Over kept start held (Err halt.Memory) start held
text_unjudged Over kept start held = unjudged refl refl

pub text_refused : (Over : RunsOver) (kept : Option (Vec ℕ Global)) (start : Place) (held now : Option (List ℕ)) (line : List ℕ) (r : Result Outcome Halt)
    → AcceptsKept kept (accepted.Refused line) → OnOk r (Adds held now line) → IfOk r (λ o. o ≡ outcome.Refused) → OnErr r (AppendsFront held now line) → IfErr r (λ e. e ≡ halt.Write) → TextRuns Over kept start held r start now
text_refused Over kept start held now line (Ok outcome.Refused) text adds refused front fails = (record { line = line; refused = text; written = adds }, refl)
text_refused Over kept start held now line (Ok outcome.Done) text adds refused front fails = absurd (let h : outcome.Done ≡ outcome.Refused = refused in (cc))
text_refused Over kept start held now line (Err halt.Write) text adds refused front fails = in_fault refl (record { line = line; refused = text; written = tt }) front refl
text_refused Over kept start held now line (Err halt.Limit) text adds refused front fails = absurd (let h : halt.Limit ≡ halt.Write = fails in (cc))
text_refused Over kept start held now line (Err halt.Full) text adds refused front fails = absurd (let h : halt.Full ≡ halt.Write = fails in (cc))
text_refused Over kept start held now line (Err halt.Read) text adds refused front fails = absurd (let h : halt.Read ≡ halt.Write = fails in (cc))
text_refused Over kept start held now line (Err halt.Memory) text adds refused front fails = absurd (let h : halt.Memory ≡ halt.Write = fails in (cc))

pub text_ran : (Over : RunsOver) (kept : Option (Vec ℕ Global)) (start place : Place) (held now : Option (List ℕ)) (m : Model)
    → AcceptsKept kept (accepted.Model m) → Over m start held (Ok tt) place now → TextRuns Over kept start held (Ok outcome.Done) place now
text_ran Over kept start place held now m text run = record { model = m; text = text; run = run }

pub text_stops : (Over : RunsOver) (kept : Option (Vec ℕ Global)) (start place : Place) (held now : Option (List ℕ)) (m : Model) (e : Halt)
    → AcceptsKept kept (accepted.Model m) → Over m start held (Err e) place now → TextRuns Over kept start held (Err e) place now
text_stops Over kept start place held now m halt.Limit text run = record { model = m; text = text; run = run }
text_stops Over kept start place held now m halt.Full text run = record { model = m; text = text; run = run }
text_stops Over kept start place held now m halt.Read text run = record { model = m; text = text; run = run }
text_stops Over kept start place held now m halt.Write text run = in_run (record { model = m; text = text; run = run })
text_stops Over kept start place held now m halt.Memory text run = in_run (record { model = m; text = text; run = run })
