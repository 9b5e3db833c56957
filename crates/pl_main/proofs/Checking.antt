-- The end of a check.
use Rattle.std.proofs.Common.{◌≡◌, ℕ, List, [], ◌++◌, OnOk, OnErr, IfOk, IfErr, IsErrOf, Option, Some, None, Result, Ok, Err, refl, append_assoc}
use Rattle.std.specs.declared.vec.Vec.{Vec}
use Rattle.std.specs.declared.alloc.Global.{Global}
use Rattle.pl_io.specs.declared.errors.LineFault.{LineFault}
use Rattle.pl_io.specs.declared.errors.LineFault.TheVariants as fault
use Rattle.pl_io.specs.Lines.{ahead}
use Rattle.pl_io.specs.Reader.{Reader}
use Rattle.pl_io.specs.Writes.{AppendsFront}
use Rattle.pl_model.specs.declared.whole.Model.{Model}
use Rattle.pl_check.specs.declared.accepting.Accepted.TheVariants as accepted
use Rattle.pl_input.specs.declared.halt.Halt.{Halt}
use Rattle.pl_input.specs.declared.halt.Halt.TheVariants as halt
use Rattle.pl_main.specs.declared.outcome.Outcome.{Outcome}
use Rattle.pl_main.specs.declared.outcome.Outcome.TheVariants as outcome
use Rattle.pl_input.specs.Heads.{IsBegun, HasNoBegin, HeadHalts}
use Rattle.pl_input.specs.Stops.{HaltFor}
use Rattle.pl_journal.specs.Written.{Adds, WriteStops}
use Rattle.pl_main.specs.Runs.{AcceptsKept, TextChecks}
use Rattle.pl_main.specs.Runs as runs
use Rattle.pl_main.specs.Top as top
use Rattle.pl_main.specs.Top.{line_limit, fresh_reader, no_begin_line, model_ok_line, faulty, IsPastHead, IsHeadFault, ChecksKnown}
use Rattle.pl_input.proofs.Stopping.{never_full, never_writes}
use Rattle.pl_main.proofs.Heading.{begins_at, begins_nowhere, head_stopped, fresh_begun, fresh_nowhere, fresh_halts}

pub texts_joined : (xs ys zs : List ℕ) → xs ++ ys ++ zs ≡ xs ++ (ys ++ zs)
texts_joined xs ys zs = append_assoc xs ys zs

-- ---- the text

pub text_none : (kept : Option (Vec ℕ Global)) (held : Option (List ℕ)) → TextChecks kept held (Err halt.Memory) held
text_none kept held = refl

pub text_fails : (kept : Option (Vec ℕ Global)) (held now : Option (List ℕ)) (line : List ℕ) (r : Result Outcome Halt)
    → AcceptsKept kept (accepted.Refused line) → OnOk r (Adds held now line) → IfOk r (λ o. o ≡ outcome.Refused) → OnErr r (AppendsFront held now line) → IfErr r (λ e. e ≡ halt.Write) → TextChecks kept held r now
text_fails kept held now line (Ok outcome.Refused) text adds refused short fails = record { line = line; refused = text; written = adds }
text_fails kept held now line (Ok outcome.Done) text adds refused short fails = absurd (let h : outcome.Done ≡ outcome.Refused = refused in (cc))
text_fails kept held now line (Err halt.Write) text adds refused short fails = runs.of_refusal line text short
text_fails kept held now line (Err halt.Limit) text adds refused short fails = absurd (let h : halt.Limit ≡ halt.Write = fails in (cc))
text_fails kept held now line (Err halt.Full) text adds refused short fails = absurd (let h : halt.Full ≡ halt.Write = fails in (cc))
text_fails kept held now line (Err halt.Read) text adds refused short fails = absurd (let h : halt.Read ≡ halt.Write = fails in (cc))
text_fails kept held now line (Err halt.Memory) text adds refused short fails = absurd (let h : halt.Memory ≡ halt.Write = fails in (cc))

pub text_passes : (kept : Option (Vec ℕ Global)) (held now : Option (List ℕ)) (m : Model) (r : Result Outcome Halt) (faults later : ℕ)
    → AcceptsKept kept (accepted.Model m) → OnOk r (Adds held now (model_ok_line m)) → IfOk r (λ o. o ≡ outcome.Done) → (IsErrOf r halt.Write → AppendsFront held now (model_ok_line m)) → (IsErrOf r halt.Memory → now ≡ held)
    → IfErr r (WriteStops faults later) → TextChecks kept held r now
text_passes kept held now m (Ok outcome.Done) faults later text adds done short silent cause = record { model = m; text = text; written = adds }
text_passes kept held now m (Ok outcome.Refused) faults later text adds done short silent cause = absurd (let h : outcome.Refused ≡ outcome.Done = done in (cc))
text_passes kept held now m (Err halt.Limit) faults later text adds done short silent cause = absurd cause
text_passes kept held now m (Err halt.Full) faults later text adds done short silent cause = absurd cause
text_passes kept held now m (Err halt.Read) faults later text adds done short silent cause = absurd cause
text_passes kept held now m (Err halt.Write) faults later text adds done short silent cause = runs.of_model m text (short refl)
text_passes kept held now m (Err halt.Memory) faults later text adds done short silent cause = silent refl

-- ---- the whole, where the text begins

begun_known : (kept : Option (Vec ℕ Global)) (new : Reader) (input : List ℕ) (source_left held now : Option (List ℕ)) (r : Result Outcome Halt)
    → IsBegun (fresh_reader line_limit) (Some input) kept new (ahead new.held source_left) → TextChecks kept held r now → ChecksKnown (Some input) source_left held now r
begun_known kept new input source_left held now (Ok outcome.Done) begun text =
    record { model = text.model; words = begun.words; begins = begins_at line_limit kept new input (ahead new.held source_left) source_left begun refl; accepted = text.text begun.words begun.keeps; written = text.written }
begun_known kept new input source_left held now (Ok outcome.Refused) begun text =
    faulty begun.words text.line (begins_at line_limit kept new input (ahead new.held source_left) source_left begun refl) (text.refused begun.words begun.keeps) text.written
begun_known kept new input source_left held now (Err halt.Limit) begun text = absurd text
begun_known kept new input source_left held now (Err halt.Full) begun text = absurd text
begun_known kept new input source_left held now (Err halt.Read) begun text = absurd text
begun_known kept new input source_left held now (Err halt.Write) begun (runs.of_model m text front) =
    top.of_model (record { model = m; words = begun.words; begins = begins_at line_limit kept new input (ahead new.held source_left) source_left begun refl; accepted = text begun.words begun.keeps; written = tt }) front
begun_known kept new input source_left held now (Err halt.Write) begun (runs.of_refusal line refused front) =
    top.of_refusal line (faulty begun.words line (begins_at line_limit kept new input (ahead new.held source_left) source_left begun refl) (refused begun.words begun.keeps) refl) front
begun_known kept new input source_left held now (Err halt.Memory) begun text = text

begun_ran : (kept : Option (Vec ℕ Global)) (new : Reader) (input source_left held now : Option (List ℕ)) (r : Result Outcome Halt)
    → IsBegun (fresh_reader line_limit) input kept new (ahead new.held source_left) → TextChecks kept held r now → ChecksKnown input source_left held now r
begun_ran kept new None source_left held now r begun text = tt
begun_ran kept new (Some input) source_left held now r begun text = begun_known kept new input source_left held now r begun text

pub begun_checks : (old : Reader) (kept : Option (Vec ℕ Global)) (new : Reader) (left source_left held now : Option (List ℕ)) (r : Result Outcome Halt) → old ≡ fresh_reader line_limit
    → IsBegun old (ahead old.held left) kept new (ahead new.held source_left) → TextChecks kept held r now → ChecksKnown left source_left held now r
begun_checks old kept new left source_left held now r is begun text =
    begun_ran kept new left source_left held now r (fresh_begun line_limit old kept new left (ahead new.held source_left) is begun) text

-- ---- where it does not

no_begin_known : (new : Reader) (input : List ℕ) (source_left held now : Option (List ℕ)) (r : Result Outcome Halt)
    → HasNoBegin (fresh_reader line_limit) (Some input) new (ahead new.held source_left) → OnOk r (Adds held now no_begin_line) → IfOk r (λ o. o ≡ outcome.Refused) → OnErr r (AppendsFront held now no_begin_line) → IfErr r (λ e. e ≡ halt.Write) → ChecksKnown (Some input) source_left held now r
no_begin_known new input source_left held now (Ok outcome.Refused) head adds refused short fails = begins_nowhere line_limit new input (ahead new.held source_left) source_left held now head refl adds
no_begin_known new input source_left held now (Ok outcome.Done) head adds refused short fails = absurd (let h : outcome.Done ≡ outcome.Refused = refused in (cc))
no_begin_known new input source_left held now (Err halt.Write) head adds refused short fails = top.of_refusal no_begin_line (begins_nowhere line_limit new input (ahead new.held source_left) source_left (Some []) (Some no_begin_line) head refl refl) short
no_begin_known new input source_left held now (Err halt.Limit) head adds refused short fails = absurd (let h : halt.Limit ≡ halt.Write = fails in (cc))
no_begin_known new input source_left held now (Err halt.Full) head adds refused short fails = absurd (let h : halt.Full ≡ halt.Write = fails in (cc))
no_begin_known new input source_left held now (Err halt.Read) head adds refused short fails = absurd (let h : halt.Read ≡ halt.Write = fails in (cc))
no_begin_known new input source_left held now (Err halt.Memory) head adds refused short fails = absurd (let h : halt.Memory ≡ halt.Write = fails in (cc))

no_begin_ran : (new : Reader) (input source_left held now : Option (List ℕ)) (r : Result Outcome Halt)
    → HasNoBegin (fresh_reader line_limit) input new (ahead new.held source_left) → OnOk r (Adds held now no_begin_line) → IfOk r (λ o. o ≡ outcome.Refused) → OnErr r (AppendsFront held now no_begin_line) → IfErr r (λ e. e ≡ halt.Write) → ChecksKnown input source_left held now r
no_begin_ran new None source_left held now r head adds refused short fails = tt
no_begin_ran new (Some input) source_left held now r head adds refused short fails = no_begin_known new input source_left held now r head adds refused short fails

pub refused_checks : (old new : Reader) (left source_left held now : Option (List ℕ)) (r : Result Outcome Halt) → old ≡ fresh_reader line_limit
    → HasNoBegin old (ahead old.held left) new (ahead new.held source_left) → OnOk r (Adds held now no_begin_line) → IfOk r (λ o. o ≡ outcome.Refused) → OnErr r (AppendsFront held now no_begin_line) → IfErr r (λ e. e ≡ halt.Write) → ChecksKnown left source_left held now r
refused_checks old new left source_left held now r is head adds refused short fails =
    no_begin_ran new left source_left held now r (fresh_nowhere line_limit old new left (ahead new.held source_left) is head) adds refused short fails

-- ---- where the reader stops

pub past_head : (limit : ℕ) (new : Reader) (input : List ℕ) (source_left held : Option (List ℕ)) (f : LineFault) → HeadHalts (fresh_reader limit) (Some input) f new (ahead new.held source_left) → HaltFor f halt.Limit → IsPastHead limit input source_left held held
past_head limit new input source_left held f head is =
    let s = head_stopped limit new input source_left f halt.Limit head is in
    record { lines = s.lines; left = s.left; rest = s.rest; gave = s.gave; why = s.why; source = s.past refl; none = s.none; silent = refl }

pub head_fault : (limit : ℕ) (new : Reader) (input : List ℕ) (source_left held : Option (List ℕ)) (f : LineFault) → HeadHalts (fresh_reader limit) (Some input) f new (ahead new.held source_left) → HaltFor f halt.Read → IsHeadFault limit input source_left held held
head_fault limit new input source_left held f head is =
    let s = head_stopped limit new input source_left f halt.Read head is in
    record { lines = s.lines; left = s.left; rest = s.rest; gave = s.gave; source = s.source refl; none = s.none; silent = refl }

head_ran : (new : Reader) (input source_left held : Option (List ℕ)) (f : LineFault) (e : Halt) → HeadHalts (fresh_reader line_limit) input f new (ahead new.held source_left) → HaltFor f e → ChecksKnown input source_left held held (Err e)
head_ran new None source_left held f e head is = tt
head_ran new (Some input) source_left held f halt.Limit head is = past_head line_limit new input source_left held f head is
head_ran new (Some input) source_left held f halt.Full head is = absurd (never_full f is)
head_ran new (Some input) source_left held f halt.Read head is = head_fault line_limit new input source_left held f head is
head_ran new (Some input) source_left held f halt.Write head is = absurd (never_writes f is)
head_ran new (Some input) source_left held f halt.Memory head is = refl

pub head_checks : (old new : Reader) (left source_left held : Option (List ℕ)) (f : LineFault) (e : Halt) → old ≡ fresh_reader line_limit → HeadHalts old (ahead old.held left) f new (ahead new.held source_left) → HaltFor f e → ChecksKnown left source_left held held (Err e)
head_checks old new left source_left held f e is head halts = head_ran new left source_left held f e (fresh_halts line_limit old new left (ahead new.held source_left) f is head) halts

-- memory was wanting before anything was read
pub no_reader : (input source_left held : Option (List ℕ)) → ChecksKnown input source_left held held (Err halt.Memory)
no_reader None source_left held = tt
no_reader (Some input) source_left held = refl
