-- A message is read and handed on.
use Rattle.std.proofs.Common.{◌≡◌, ℕ, ◌<◌, ◌≤◌, List, [], ◌∷◌, ◌++◌, length, true, false, All, Option, Some, None, IfSome, Result, Ok, Err, inl, inr, refl, sym, ◌∙◌, ap, subst, arith}
use Rattle.pl_io.specs.declared.errors.LineFault.{LineFault}
use Rattle.pl_io.specs.declared.errors.LineFault.TheVariants as fault
use Rattle.pl_io.specs.Reader.{Reader, NumberedLine, Moves, Answers, Repeats}
use Rattle.pl_io.specs.Sparing.{read_size, IsSparing}
use Rattle.pl_entry.specs.Bounds.{IsMessageLine}
use Rattle.pl_input.specs.Words.{is_blank_line}
use Rattle.pl_input.specs.declared.halt.Halt.{Halt}
use Rattle.pl_input.specs.Stops.{HaltFor}
use Rattle.pl_input.specs.Reads.{GotLine}
use Rattle.pl_input.specs.Waits.{MessageGives, line_in}
use Rattle.pl_input.proofs.Reading.{next_gives, took_more, used_later, halts_later}
use Rattle.pl_locked.specs.Plans.{PlanPass}
use Rattle.pl_pair.specs.declared.cut.Cut.{Cut}
use Rattle.pl_pair.specs.Cuts.{cut_of, cut_by}
use Rattle.pl_input.specs.Places.{Place}
use Rattle.pl_pair.specs.Asking.{Faults, now_failed, had_failed, FirstLine, Asks, HandsIn, Passes}

err_is : {A : Type 0} (f g : LineFault) → ◌≡◌ {A = Result A LineFault} (Err f) (Err g) → f ≡ g
err_is f g e = cc

-- what one call of a reader says, whether it had failed or not
abbrev Exact : Reader → Reader → Option (List ℕ) → Option (List ℕ) → Result (Option NumberedLine) LineFault → Type 0
Exact old new before after r = old.failed ≡ None → IfSome before (λ bytes. Answers old new bytes after r)

abbrev Spares : Reader → Reader → Result (Option NumberedLine) LineFault → Type 0
Spares old new r = old.failed ≡ None → length old.held < read_size → IsSparing old.limit new.held r

fault_by : {S : Type 0} (old new : Reader) (before after : Option (List ℕ)) (s t : S) (f : LineFault) (o : Option LineFault) → old.failed ≡ o → Exact old new before after (Err f) → Moves old new (Err f) → Spares old new (Err f)
    → IfSome o (Repeats old new s t (Err f)) → Faults (record { reader = old; ahead = before }) f (record { reader = new; ahead = after })
fault_by old new before after s t f None is exact moves spares repeats =
    now_failed is (record { lines = []; halts = next_gives old new before after (Err f) is moves (exact is) (spares is); blank = tt })
fault_by old new before after s t f (Some g) is exact moves spares repeats =
    had_failed (is ∙ ap (λ (h : LineFault). Some h) (sym (err_is f g repeats.answer))) repeats.reader

pub first_gives : {S : Type 0} (old new : Reader) (before after : Option (List ℕ)) (s t : S) (r : Result (Option NumberedLine) LineFault) → Exact old new before after r → Moves old new r → Spares old new r
    → IfSome old.failed (Repeats old new s t r) → FirstLine (record { reader = old; ahead = before }) r (record { reader = new; ahead = after })
first_gives old new before after s t (Err f) exact moves spares repeats = fault_by old new before after s t f old.failed refl exact moves spares repeats
first_gives old new before after s t (Ok None) exact moves spares repeats = (moves.1, next_gives old new before after (Ok None) moves.1 moves (exact moves.1) (spares moves.1))
first_gives old new before after s t (Ok (Some line)) exact moves spares repeats =
    (moves.working, next_gives old new before after (Ok (Some line)) moves.working moves (exact moves.working) (spares moves.working))

pub first_works : (old new : Place) (line : NumberedLine) → FirstLine old (Ok (Some line)) new → new.reader.failed ≡ None
first_works old new line first = first.1.took.working

pub asks_end : (old new : Place) → FirstLine old (Ok None) new → Asks old (Ok None) new
asks_end old new first = (first.0, record { lines = []; took = first.1.0; blank = tt; used_up = first.1.1 })

pub asks_first : (old new : Place) (line : NumberedLine) → FirstLine old (Ok (Some line)) new → is_blank_line line.bytes ≡ false → Asks old (Ok (Some line)) new
asks_first old new line first other =
    let got = first.1 in
    (first.0, record { lines = []; took = got.took; blank = tt; message = other; less = got.less; fits = got.fits; no_newline = got.no_newline })

behind_blank : (old mid new : Reader) (before middle after : Option (List ℕ)) (line : NumberedLine) (r : Result (Option NumberedLine) LineFault) → old.failed ≡ None → GotLine old before line mid middle → is_blank_line line.bytes ≡ true
    → MessageGives mid middle r new after → Asks (record { reader = old; ahead = before }) r (record { reader = new; ahead = after })
behind_blank old mid new before middle after line (Ok (Some message)) working got blank gets = (
  working,
  record {
    lines = line.bytes ∷ gets.lines;
    took = took_more old mid new before middle after (line.bytes ∷ []) (gets.lines ++ message.bytes ∷ []) got.took gets.took;
    blank = (blank, gets.blank);
    message = gets.message;
    less = omega (arith, got.less, gets.less);
    fits = subst (λ n. length message.bytes ≤ n) got.took.limit gets.fits;
    no_newline = gets.no_newline;
  },
)
behind_blank old mid new before middle after line (Ok None) working got blank gets = (
  working,
  record {
    lines = line.bytes ∷ gets.lines;
    took = took_more old mid new before middle after (line.bytes ∷ []) gets.lines got.took gets.took;
    blank = (blank, gets.blank);
    used_up = used_later old.limit old.room before (line.bytes ∷ []) mid.room middle after got.took.gave gets.used_up;
  },
)
behind_blank old mid new before middle after line (Err f) working got blank gets =
    now_failed working (record {
      lines = line.bytes ∷ gets.lines;
      halts = halts_later old mid new before middle after (line.bytes ∷ []) gets.lines f got.took gets.halts;
      blank = (blank, gets.blank);
    })

pub asks_behind : (old mid new : Place) (line : NumberedLine) (r : Result (Option NumberedLine) LineFault) → FirstLine old (Ok (Some line)) mid → is_blank_line line.bytes ≡ true → MessageGives mid.reader mid.ahead r new.reader new.ahead → Asks old r new
asks_behind old mid new line r first blank gets = behind_blank old.reader mid.reader new.reader old.ahead mid.ahead new.ahead line r first.0 first.1 blank gets

-- ---- the message's line

pub input_fits : (start place : Place) (message : Option NumberedLine) (line : Option (List ℕ)) → start.reader.limit ≤ 4096 → line ≡ line_in message → IfSome line (λ bytes. All (λ byte. byte < 256) bytes)
    → Asks start (Ok message) place → IfSome line IsMessageLine
input_fits start place None None limit is bytes asks = tt
input_fits start place None (Some line) limit is bytes asks = absurd (cc)
input_fits start place (Some message) None limit is bytes asks = tt
input_fits start place (Some message) (Some line) limit is bytes asks =
    let same : line ≡ message.bytes = (let h : Some line ≡ Some message.bytes = is in (cc)) in
    let fits = asks.1.fits in
    record { short = rw same (omega arith); bytes = bytes; one_line = rw same asks.1.no_newline }

-- ---- what came of it

-- a run stops by a fault as the feeder does
pub halts_by : (f : LineFault) (h : Halt) → HaltFor f h → cut_of h ≡ cut_by f
halts_by fault.Read h is = ap cut_of is
halts_by (fault.Long n) h is = ap cut_of is
halts_by fault.Total h is = ap cut_of is
halts_by fault.Memory h is = ap cut_of is

pub passes_none : (start place : Place) (pass : PlanPass) (f : LineFault) → Asks start (Err f) place → Passes start pass (Err (cut_by f)) place pass
passes_none start place pass f asks = inr (record { fault = f; asks = asks; cut = refl; same = refl })

pub passes_on : (start place : Place) (old new : PlanPass) (message : Option NumberedLine) (line : Option (List ℕ)) (r : Result (Unit {0}) Cut) → line ≡ line_in message → Asks start (Ok message) place → HandsIn line old r new → Passes start old r place new
passes_on start place old new message line (Ok u) is asks hands =
    let P : Option (List ℕ) → Type 0 = λ l. HandsIn l old (Ok u) new in
    record { message = message; asks = asks; hands = subst P is hands }
passes_on start place old new message line (Err c) is asks hands =
    let P : Option (List ℕ) → Type 0 = λ l. HandsIn l old (Err c) new in
    inl (record { message = message; asks = asks; hands = subst P is hands })
