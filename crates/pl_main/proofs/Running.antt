-- A whole run of any kind: from the reader that it begins with, and from how such runs end over a model.
use Rattle.std.proofs.Common.{◌≡◌, ℕ, List, [], OnOk, OnErr, IfOk, IfErr, Option, Some, None, inl, Result, Ok, Err, refl, subst}
use Rattle.std.specs.declared.vec.Vec.{Vec}
use Rattle.std.specs.declared.alloc.Global.{Global}
use Rattle.pl_io.specs.declared.errors.LineFault.{LineFault}
use Rattle.pl_io.specs.Lines.{ahead}
use Rattle.pl_io.specs.Reader.{Reader}
use Rattle.pl_io.specs.Writes.{AppendsFront}
use Rattle.pl_input.specs.declared.halt.Halt.{Halt}
use Rattle.pl_input.specs.declared.halt.Halt.TheVariants as halt
use Rattle.pl_main.specs.declared.outcome.Outcome.{Outcome}
use Rattle.pl_main.specs.declared.outcome.Outcome.TheVariants as outcome
use Rattle.pl_input.specs.Stops.{HaltFor}
use Rattle.pl_input.specs.Heads.{IsBegun, HasNoBegin, HeadHalts, Keeps}
use Rattle.pl_journal.specs.Written.{Adds}
use Rattle.pl_input.specs.Places.{Place, place_of}
use Rattle.pl_main.specs.Runs.{TextRuns, IsKeptModel, RunsOver, TextBreaks, in_fault, in_run, unjudged}
use Rattle.pl_main.specs.Top.{line_limit, fresh_reader, no_begin_line, faulty, IsNoModel}
use Rattle.pl_input.proofs.Stopping.{never_full, never_writes}
use Rattle.pl_main.specs.Endings.{EndedAs, EndedAsKnown, IsOutOfMemory, IsShort, RunKind, in_refusal, nothing}
use Rattle.pl_check.specs.Accepting.{IsRefusedAs}
use Rattle.pl_model.specs.declared.whole.Model.{Model}
use Rattle.pl_main.proofs.Heading.{begins_at, begins_nowhere, fresh_begun, fresh_halts, fresh_nowhere, head_stopped}

-- ---- what a run over a model leads to, behind the head of an input

abbrev pub outcome_for : Result (Unit {0}) Halt → Result Outcome Halt
outcome_for (Ok u) = Ok outcome.Done
outcome_for (Err e) = Err e

-- A run over the model of an input's text, behind its head, ends as runs of its kind do.
abbrev pub EndsOver : RunKind → RunsOver → Type 0
EndsOver kind Over = (kept : Option (Vec ℕ Global)) (start place : Place) (input : List ℕ) (source_left held now : Option (List ℕ)) (m : Model) (r : Result (Unit {0}) Halt)
    → IsBegun (fresh_reader line_limit) (Some input) kept start.reader start.ahead → IsKeptModel kept m → Over m start held r place now → ahead place.reader.held source_left ≡ place.ahead → EndedAs kind input source_left held now (outcome_for r)

-- ---- behind a text that begins

refused_line : (kept : Option (Vec ℕ Global)) (start place : Place) (input line : List ℕ) (source_left held now : Option (List ℕ)) → IsBegun (fresh_reader line_limit) (Some input) kept start.reader start.ahead
    → ((words : List ℕ) → Keeps kept words → IsRefusedAs words line) → place ≡ start → ahead place.reader.held source_left ≡ place.ahead → Adds held now line → IsNoModel line_limit input source_left held now
refused_line kept start place input line source_left held now begun refused same behind adds =
    faulty begun.words line (begins_at line_limit kept start.reader input start.ahead source_left begun (subst (λ (p : Place). ahead p.reader.held source_left ≡ p.ahead) same behind)) (refused begun.words begun.keeps) adds

-- a write failed
short_whole : (kind : RunKind) (Over : RunsOver) → EndsOver kind Over → (kept : Option (Vec ℕ Global)) (start place : Place) (input : List ℕ) (source_left held now : Option (List ℕ)) → IsBegun (fresh_reader line_limit) (Some input) kept start.reader start.ahead
    → TextBreaks Over halt.Write kept start held place now → ahead place.reader.held source_left ≡ place.ahead → IsShort kind input source_left held now
short_whole kind Over ends kept start place input source_left held now begun (unjudged is same) behind = absurd (let h : halt.Write ≡ halt.Memory = is in (cc))
short_whole kind Over ends kept start place input source_left held now begun (in_fault is fails front same) behind =
    in_refusal fails.line (refused_line kept start place input fails.line source_left (Some []) (Some fails.line) begun fails.refused same behind refl) front
short_whole kind Over ends kept start place input source_left held now begun (in_run run) behind =
    ends kept start place input source_left held now run.model (Err halt.Write) begun run.text run.run behind

-- memory ran out
memory_whole : (kind : RunKind) (Over : RunsOver) → EndsOver kind Over → (kept : Option (Vec ℕ Global)) (start place : Place) (input : List ℕ) (source_left held now : Option (List ℕ)) → IsBegun (fresh_reader line_limit) (Some input) kept start.reader start.ahead
    → TextBreaks Over halt.Memory kept start held place now → ahead place.reader.held source_left ≡ place.ahead → IsOutOfMemory kind input source_left held now
memory_whole kind Over ends kept start place input source_left held now begun (unjudged is same) behind = nothing same
memory_whole kind Over ends kept start place input source_left held now begun (in_fault is fails front same) behind = absurd (let h : halt.Memory ≡ halt.Write = is in (cc))
memory_whole kind Over ends kept start place input source_left held now begun (in_run run) behind =
    ends kept start place input source_left held now run.model (Err halt.Memory) begun run.text run.run behind

begun_known : (kind : RunKind) (Over : RunsOver) → EndsOver kind Over → (kept : Option (Vec ℕ Global)) (start place : Place) (input : List ℕ) (source_left held now : Option (List ℕ)) (r : Result Outcome Halt)
    → IsBegun (fresh_reader line_limit) (Some input) kept start.reader start.ahead → TextRuns Over kept start held r place now → ahead place.reader.held source_left ≡ place.ahead → EndedAs kind input source_left held now r
begun_known kind Over ends kept start place input source_left held now (Ok outcome.Done) begun run behind = ends kept start place input source_left held now run.model (Ok tt) begun run.text run.run behind
begun_known kind Over ends kept start place input source_left held now (Ok outcome.Refused) begun run behind = refused_line kept start place input run.0.line source_left held now begun run.0.refused run.1 behind run.0.written
begun_known kind Over ends kept start place input source_left held now (Err halt.Limit) begun run behind = ends kept start place input source_left held now run.model (Err halt.Limit) begun run.text run.run behind
begun_known kind Over ends kept start place input source_left held now (Err halt.Read) begun run behind = ends kept start place input source_left held now run.model (Err halt.Read) begun run.text run.run behind
begun_known kind Over ends kept start place input source_left held now (Err halt.Full) begun run behind = ends kept start place input source_left held now run.model (Err halt.Full) begun run.text run.run behind
begun_known kind Over ends kept start place input source_left held now (Err halt.Write) begun run behind = short_whole kind Over ends kept start place input source_left held now begun run behind
begun_known kind Over ends kept start place input source_left held now (Err halt.Memory) begun run behind = memory_whole kind Over ends kept start place input source_left held now begun run behind

begun_ran : (kind : RunKind) (Over : RunsOver) → EndsOver kind Over → (kept : Option (Vec ℕ Global)) (start place : Place) (input source_left held now : Option (List ℕ)) (r : Result Outcome Halt)
    → IsBegun (fresh_reader line_limit) input kept start.reader start.ahead → TextRuns Over kept start held r place now → ahead place.reader.held source_left ≡ place.ahead
    → EndedAsKnown kind input source_left held now r
begun_ran kind Over ends kept start place None source_left held now r begun run behind = tt
begun_ran kind Over ends kept start place (Some input) source_left held now r begun run behind = begun_known kind Over ends kept start place input source_left held now r begun run behind

-- ---- where no line is `begin`

nowhere_known : (kind : RunKind) (new : Reader) (input : List ℕ) (source_left held now : Option (List ℕ)) (r : Result Outcome Halt) → HasNoBegin (fresh_reader line_limit) (Some input) new (ahead new.held source_left)
    → OnOk r (Adds held now no_begin_line) → IfOk r (λ o. o ≡ outcome.Refused) → OnErr r (AppendsFront held now no_begin_line) → IfErr r (λ e. e ≡ halt.Write) → EndedAs kind input source_left held now r
nowhere_known kind new input source_left held now (Ok outcome.Refused) head adds refused front fails = begins_nowhere line_limit new input (ahead new.held source_left) source_left held now head refl adds
nowhere_known kind new input source_left held now (Ok outcome.Done) head adds refused front fails = absurd (let h : outcome.Done ≡ outcome.Refused = refused in (cc))
nowhere_known kind new input source_left held now (Err halt.Write) head adds refused front fails =
    in_refusal no_begin_line (begins_nowhere line_limit new input (ahead new.held source_left) source_left (Some []) (Some no_begin_line) head refl refl) front
nowhere_known kind new input source_left held now (Err halt.Limit) head adds refused front fails = absurd (let h : halt.Limit ≡ halt.Write = fails in (cc))
nowhere_known kind new input source_left held now (Err halt.Full) head adds refused front fails = absurd (let h : halt.Full ≡ halt.Write = fails in (cc))
nowhere_known kind new input source_left held now (Err halt.Read) head adds refused front fails = absurd (let h : halt.Read ≡ halt.Write = fails in (cc))
nowhere_known kind new input source_left held now (Err halt.Memory) head adds refused front fails = absurd (let h : halt.Memory ≡ halt.Write = fails in (cc))

nowhere_ran : (kind : RunKind) (new : Reader) (input source_left held now : Option (List ℕ)) (r : Result Outcome Halt) → HasNoBegin (fresh_reader line_limit) input new (ahead new.held source_left)
    → OnOk r (Adds held now no_begin_line) → IfOk r (λ o. o ≡ outcome.Refused) → OnErr r (AppendsFront held now no_begin_line) → IfErr r (λ e. e ≡ halt.Write) → EndedAsKnown kind input source_left held now r
nowhere_ran kind new None source_left held now r head adds refused front fails = tt
nowhere_ran kind new (Some input) source_left held now r head adds refused front fails = nowhere_known kind new input source_left held now r head adds refused front fails

-- ---- where the reader stops before `begin`

head_ran : (kind : RunKind) (new : Reader) (input source_left held : Option (List ℕ)) (f : LineFault) (e : Halt) → HeadHalts (fresh_reader line_limit) input f new (ahead new.held source_left) → HaltFor f e → EndedAsKnown kind input source_left held held (Err e)
head_ran kind new None source_left held f e head is = tt
head_ran kind new (Some input) source_left held f halt.Limit head is =
    let s = head_stopped line_limit new input source_left f halt.Limit head is in
    record { lines = s.lines; left = s.left; rest = s.rest; gave = s.gave; why = s.why; source = s.past refl; asked = inl (s.none, refl) }
head_ran kind new (Some input) source_left held f halt.Full head is = absurd (never_full f is)
head_ran kind new (Some input) source_left held f halt.Read head is =
    let s = head_stopped line_limit new input source_left f halt.Read head is in
    record { lines = s.lines; left = s.left; rest = s.rest; gave = s.gave; source = s.source refl; asked = inl (s.none, refl) }
head_ran kind new (Some input) source_left held f halt.Write head is = absurd (never_writes f is)
head_ran kind new (Some input) source_left held f halt.Memory head is = nothing refl

-- ---- from the reader that a task begins with

pub refused_run : (kind : RunKind) (old new : Reader) (left source_left held now : Option (List ℕ)) (r : Result Outcome Halt) → old ≡ fresh_reader line_limit → HasNoBegin old (ahead old.held left) new (ahead new.held source_left)
    → OnOk r (Adds held now no_begin_line) → IfOk r (λ o. o ≡ outcome.Refused) → OnErr r (AppendsFront held now no_begin_line) → IfErr r (λ e. e ≡ halt.Write) → EndedAsKnown kind left source_left held now r
refused_run kind old new left source_left held now r is head adds refused front fails =
    nowhere_ran kind new left source_left held now r (fresh_nowhere line_limit old new left (ahead new.held source_left) is head) adds refused front fails

pub begun_run : (kind : RunKind) (Over : RunsOver) → EndsOver kind Over → (old : Reader) (kept : Option (Vec ℕ Global)) (new last : Reader) (left after source_left held now : Option (List ℕ)) (r : Result Outcome Halt) → old ≡ fresh_reader line_limit
    → IsBegun old (ahead old.held left) kept new (ahead new.held after) → TextRuns Over kept (place_of new after) held r (place_of last source_left) now → EndedAsKnown kind left source_left held now r
begun_run kind Over ends old kept new last left after source_left held now r is begun run =
    begun_ran kind Over ends kept (place_of new after) (place_of last source_left) left source_left held now r (fresh_begun line_limit old kept new left (ahead new.held after) is begun) run refl

pub head_run : (kind : RunKind) (old new : Reader) (left source_left held : Option (List ℕ)) (f : LineFault) (e : Halt) → old ≡ fresh_reader line_limit → HeadHalts old (ahead old.held left) f new (ahead new.held source_left) → HaltFor f e → EndedAsKnown kind left source_left held held (Err e)
head_run kind old new left source_left held f e is head halts = head_ran kind new left source_left held f e (fresh_halts line_limit old new left (ahead new.held source_left) f is head) halts

-- memory ran out before anything was read
pub no_reader : (kind : RunKind) (input source_left held : Option (List ℕ)) → EndedAsKnown kind input source_left held held (Err halt.Memory)
no_reader kind None source_left held = tt
no_reader kind (Some input) source_left held = nothing refl
