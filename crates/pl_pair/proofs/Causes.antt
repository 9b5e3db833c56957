-- Why a run ended as it did: what the workers refused, and what a reader met.
use Rattle.std.proofs.Common.{◌≡◌, ℕ, ◌+◌, List, [], ◌++◌, Bool, true, false, Option, Some, None, refl, sym, ◌∙◌, ap, subst, inl, inr}
use Rattle.std.specs.Prelude.{◌||◌, if◌then◌else◌, Err, Ok, Result}
use Rattle.std.specs.List.{list_any}
use Rattle.std.proofs.lemmas.List.{append-nil}
use mathlib.Core.List.{IsPrefix}
use Rattle.pl_turn.specs.Passes.{seen_of, mine_of}
use Rattle.pl_io.specs.declared.errors.LineFault.{LineFault}
use Rattle.pl_io.specs.declared.errors.LineFault.TheVariants as fault
use Rattle.pl_model.specs.declared.whole.Model.{Model}
use Rattle.pl_entry.specs.declared.entry.Entry.{Entry}
use Rattle.pl_machine.specs.Legal.{world_of}
use Rattle.pl_input.specs.Words.{messages_of}
use Rattle.pl_machine.specs.Sound.{State}
use Rattle.pl_input.proofs.Reading.{took_none, halts_later}
use Rattle.pl_input.specs.Reads.{ReadsLines, WhyKnown}
use Rattle.pl_input.specs.Stops.{IsStuckKnown}
use Rattle.pl_acts.specs.Roles.{is_input}
use Rattle.pl_acts.specs.Items.{entries_in}
use Rattle.pl_locked.specs.Plans.{PlanPass}
use Rattle.pl_pair.specs.declared.cut.Cut.{Cut}
use Rattle.pl_pair.specs.declared.cut.Cut.TheVariants as cut
use Rattle.pl_input.specs.declared.halt.Halt.{Halt}
use Rattle.pl_input.specs.declared.halt.Halt.TheVariants as halt
use Rattle.pl_pair.specs.declared.worker.Worker.{Worker}
use Rattle.pl_pair.specs.Cuts.{cut_by}
use Rattle.pl_pair.specs.Served.{AreOf}
use Rattle.pl_input.specs.Places.{Place}
use Rattle.pl_pair.specs.Asking.{Faults, now_failed, had_failed}
use Rattle.pl_pair.specs.Feeds.{Reads, unasked, asked, HandsOnMessages, refused}
use Rattle.pl_pair.specs.declared.endings.Met.{Met}
use Rattle.pl_pair.specs.Endings.{is_other, met_by, ended_of}
use Rattle.pl_pair.specs.Joins.{refusals}
use Rattle.pl_pair.specs.Runs.{InMessages, HadLimit, MayFault, WhyNone, IsCauseOf, Given, RunsFull, RunsShort, RunEnds, RunsTo}
use Rattle.pl_pair.proofs.Ending.{NoEnds}
use Rattle.pl_pair.proofs.Saying.{told_front, told_lines, told_gave, messages_on, skip_blanks, none_left}
use Rattle.pl_pair.proofs.Onward.{stopped}
use Rattle.pl_pair.proofs.Inputs.{FeederList}
use Rattle.pl_pair.proofs.Joining.{Joined, mets_same, entries, history, begins, chosen, inputs_same, ends_told}
use Rattle.pl_machine.specs.declared.stop.Stop.{Stop}
use Rattle.pl_pair.proofs.Feeding.{works_on}

-- ---- the answers

pub ends_refusal : (b c : Bool) (m : Model) (log more : List Entry) (start behind : Place) (held now : Option (List ℕ)) → RunsShort m log more start held behind now → (b ≡ false → c ≡ true → RunsFull m log more start held behind now)
    → RunEnds (Err (if b then halt.Memory else if c then halt.Full else halt.Memory)) m log more start held behind now
ends_refusal true c m log more start behind held now short full = short
ends_refusal false true m log more start behind held now short full = full refl refl
ends_refusal false false m log more start behind held now short full = short

-- a run that did not come to its end
abbrev pub failed_by : Halt → Result (Unit {0}) Halt
failed_by e = Err e

pub same_halt : (d e : Halt) → failed_by d ≡ failed_by e → d ≡ e
same_halt d e is = cc

-- what stopped the plan is no fault of a read or a write
no_fault : (b c : Bool) (e : Halt) → (halt.Memory ≡ e → ⊥) → (halt.Full ≡ e → ⊥) → failed_by (if b then halt.Memory else if c then halt.Full else halt.Memory) ≡ failed_by e → ⊥
no_fault true c e never_memory never_full is = never_memory (same_halt halt.Memory e is)
no_fault false true e never_memory never_full is = never_full (same_halt halt.Full e is)
no_fault false false e never_memory never_full is = never_memory (same_halt halt.Memory e is)

pub ended_read : (fed : Result (Unit {0}) Cut) (met : Met) → ended_of fed met ≡ Err halt.Read → fed ≡ Err cut.Read
ended_read (Ok u) met is = absurd (let h : Ok u ≡ failed_by halt.Read = is in (cc))
ended_read (Err cut.Read) met is = refl
ended_read (Err cut.Write) met is = absurd (let h : halt.Write ≡ halt.Read = same_halt halt.Write halt.Read is in (cc))
ended_read (Err cut.Limit) met is = absurd (let h : halt.Limit ≡ halt.Read = same_halt halt.Limit halt.Read is in (cc))
ended_read (Err cut.Memory) met is = absurd (let h : halt.Memory ≡ halt.Read = same_halt halt.Memory halt.Read is in (cc))
ended_read (Err cut.Full) met is = absurd (no_fault met.other (true || met.full) halt.Read (λ e. cc) (λ e. cc) is)
ended_read (Err cut.Stopped) met is = absurd (no_fault met.other (false || met.full) halt.Read (λ e. cc) (λ e. cc) is)

pub ended_write : (fed : Result (Unit {0}) Cut) (met : Met) → ended_of fed met ≡ Err halt.Write → fed ≡ Err cut.Write
ended_write (Ok u) met is = absurd (let h : Ok u ≡ failed_by halt.Write = is in (cc))
ended_write (Err cut.Write) met is = refl
ended_write (Err cut.Read) met is = absurd (let h : halt.Read ≡ halt.Write = same_halt halt.Read halt.Write is in (cc))
ended_write (Err cut.Limit) met is = absurd (let h : halt.Limit ≡ halt.Write = same_halt halt.Limit halt.Write is in (cc))
ended_write (Err cut.Memory) met is = absurd (let h : halt.Memory ≡ halt.Write = same_halt halt.Memory halt.Write is in (cc))
ended_write (Err cut.Full) met is = absurd (no_fault met.other (true || met.full) halt.Write (λ e. cc) (λ e. cc) is)
ended_write (Err cut.Stopped) met is = absurd (no_fault met.other (false || met.full) halt.Write (λ e. cc) (λ e. cc) is)

-- a full log is the answer only where nobody met another refusal
pub no_other : (b c : Bool) → failed_by (if b then halt.Memory else if c then halt.Full else halt.Memory) ≡ failed_by halt.Full → b ≡ false
no_other true c e = absurd (let h : halt.Memory ≡ halt.Full = same_halt halt.Memory halt.Full e in (cc))
no_other false c e = refl

pub never_finished : (e : Halt) → failed_by e ≡ Ok tt → ⊥
never_finished e is = cc

-- a run with what is known of its history
pub team_run : (r : Result (Unit {0}) Halt) (start : State) (first : PlanPass) (ws : List Worker) (joined : Joined start.model start.log first ws) (place : Place) (held now : Option (List ℕ)) (old mid : PlanPass) (end behind : Place)
    (tells : HandsOnMessages old place mid end) (list : FeederList tells.inputs (mine_of mid) (mine_of first)) → (r ≡ Ok tt → AreOf is_input (mine_of first) × (entries_in (seen_of first) ≡ joined.whole.log)) → (r ≡ Err halt.Full → ((met_by (refusals ws)).other) ≡ false)
    → RunEnds r start.model joined.whole.log (entries start.model start.log first ws joined tells.inputs (mine_of mid) list) place held behind now → RunsTo joined.whole.log joined.whole.stop.by joined.duties start place held r behind now
unfolding history
team_run r start first ws joined place held now old mid end behind tells list goes refuses ends =
    let m = start.model in
    let same = inputs_same m start.log first ws joined tells.inputs (mine_of mid) list in
    record {
      run = record {
        log = joined.whole.log;
        entries = entries m start.log first ws joined tells.inputs (mine_of mid) list;
        begins = begins m start.log first ws joined tells.inputs (mine_of mid) list;
        history = history m start.log first ws joined tells.inputs (mine_of mid) list;
        chosen = chosen m start.log first ws joined tells.inputs (mine_of mid) list;
        feeder_goes = λ e. (goes e).0;
        feeder_saw_all = λ e. (goes e).1;
        refused = λ e. ap (λ (os : List (Option Stop)). list_any is_other os) (mets_same ws) ∙ refuses e;
        messages = subst (λ (is : List (Option (List ℕ))). InMessages place (λ messages. IsPrefix is messages)) (sym same)
            (told_front old mid place end tells (world_of m joined.whole.log).done (ends_told m start.log first ws joined tells.inputs (mine_of mid) list));
        ends = ends;
      };
      log_is = refl;
      by_is = refl;
    }

-- ---- no message was read

pub reads_took : (start place : Place) (lines : List (List ℕ)) → Reads start lines place → place.reader.failed ≡ None → ReadsLines start.reader start.ahead lines place.reader place.ahead
reads_took start place lines (unasked none same) works =
    let P : List (List ℕ) → Type 0 = λ ls. ReadsLines start.reader start.ahead ls place.reader place.ahead in
    let Q : Place → Type 0 = λ p. ReadsLines p.reader p.ahead [] place.reader place.ahead in
    subst P (sym none) (subst Q same (took_none place.reader place.ahead works))
reads_took start place lines (asked works took) works2 = took

pub stuck_by : (f : LineFault) (limit left : ℕ) (rest : Option (List ℕ)) → cut.Limit ≡ cut_by f → WhyKnown limit left rest f → IsStuckKnown limit left rest
stuck_by fault.Read limit left rest is why = absurd (cc)
stuck_by (fault.Long n) limit left None is why = tt
stuck_by (fault.Long n) limit left (Some rest) is why = inl why
stuck_by fault.Total limit left None is why = tt
stuck_by fault.Total limit left (Some rest) is why = inr why
stuck_by fault.Memory limit left rest is why = absurd (cc)

pub had_limit : (f : LineFault) (o : Option LineFault) → cut.Limit ≡ cut_by f → o ≡ Some f → HadLimit o
had_limit f o is same = subst HadLimit (sym same) (by f is)
  where
    by : (f : LineFault) → cut.Limit ≡ cut_by f → HadLimit (Some f)
    by fault.Read is = absurd (cc)
    by (fault.Long n) is = tt
    by fault.Total is = tt
    by fault.Memory is = absurd (cc)

pub had_read : (f : LineFault) (o : Option LineFault) → cut.Read ≡ cut_by f → o ≡ Some f → MayFault o
had_read f o is same = subst MayFault (sym same) (by f is)
  where
    by : (f : LineFault) → cut.Read ≡ cut_by f → MayFault (Some f)
    by fault.Read is = tt
    by (fault.Long n) is = absurd (cc)
    by fault.Total is = absurd (cc)
    by fault.Memory is = absurd (cc)

-- why no line was given to a reader that worked, and to one that did not
pub record Whys (e : Halt) (c : Cut) (place : Place) : Type 0 where
  works : (f : LineFault) (left : ℕ) (rest : Option (List ℕ)) → c ≡ cut_by f → place.reader.failed ≡ None → WhyKnown place.reader.limit left rest f → WhyNone e place left rest
  failed : (f : LineFault) (left : ℕ) (rest : Option (List ℕ)) → c ≡ cut_by f → place.reader.failed ≡ Some f → WhyNone e place left rest
  cause : (f : LineFault) → c ≡ cut_by f → IsCauseOf e f
  lacks : (f : LineFault) → c ≡ cut_by f → f ≡ fault.Memory → ⊥

pub read_cause : (f : LineFault) → cut.Read ≡ cut_by f → IsCauseOf halt.Read f
read_cause fault.Read is = tt
read_cause (fault.Long n) is = absurd (cc)
read_cause fault.Total is = absurd (cc)
read_cause fault.Memory is = absurd (cc)

pub limit_cause : (f : LineFault) → cut.Limit ≡ cut_by f → IsCauseOf halt.Limit f
limit_cause fault.Read is = absurd (cc)
limit_cause (fault.Long n) is = tt
limit_cause fault.Total is = tt
limit_cause fault.Memory is = absurd (cc)

pub read_whys : (place : Place) → Whys halt.Read cut.Read place
read_whys place = record {
  works = λ f left rest is ok why. subst MayFault (sym ok) tt;
  failed = λ f left rest is same. had_read f place.reader.failed is same;
  cause = read_cause;
  lacks = λ f is memory. (let h : cut.Read ≡ cut.Memory = is ∙ ap cut_by memory in (cc));
}

pub limit_whys : (place : Place) → Whys halt.Limit cut.Limit place
limit_whys place = record {
  works = λ f left rest is ok why. inl (stuck_by f place.reader.limit left rest is why);
  failed = λ f left rest is same. inr (had_limit f place.reader.failed is same);
  cause = limit_cause;
  lacks = λ f is memory. (let h : cut.Limit ≡ cut.Memory = is ∙ ap cut_by memory in (cc));
}

-- a reader that lacks memory
pub memory_by : (f : LineFault) → cut.Memory ≡ cut_by f → f ≡ fault.Memory
memory_by fault.Read is = absurd (cc)
memory_by (fault.Long n) is = absurd (cc)
memory_by fault.Total is = absurd (cc)
memory_by fault.Memory is = refl

pub start_failed : (start place : Place) (lines : List (List ℕ)) (f : LineFault) → Reads start lines place → place.reader.failed ≡ Some f → start.reader.failed ≡ Some f
start_failed start place lines f (unasked none same) failed = sym (ap (λ (p : Place). p.reader.failed) same) ∙ failed
start_failed start place lines f (asked works took) failed = absurd (let both : None ≡ Some f = sym took.working ∙ failed in (cc))

-- a reader that failed before gave no line
pub start_still : (start place : Place) (lines : List (List ℕ)) (f : LineFault) → Reads start lines place → start.reader.failed ≡ Some f → place ≡ start
start_still start place lines f (unasked none same) failed = same
start_still start place lines f (asked works took) failed = absurd (let both : None ≡ Some f = sym works ∙ failed in (cc))

pub not_both : (o : Option LineFault) (f : LineFault) → o ≡ None → o ≡ Some f → ⊥
not_both o f none some = (let both : None ≡ Some f = sym none ∙ some in (cc))

pub given_by : (r : Halt) (c : Cut) (old mid : PlanPass) (place end behind : Place) (tells : HandsOnMessages old place mid end) (f : LineFault) → Whys r c place → c ≡ cut_by f → NoEnds tells.inputs → Faults end f behind → Given r place tells.inputs behind
given_by r c old mid place end behind tells f whys is none (now_failed works gets) =
    let halts = halts_later place.reader end.reader behind.reader place.ahead end.ahead behind.ahead tells.heard.lines gets.lines f (reads_took place end tells.heard.lines tells.heard.reads works) gets.halts in
    let started = works_on place end tells.heard.lines tells.heard.reads works in
    record {
      lines = tells.heard.lines ++ gets.lines;
      left = halts.left;
      rest = halts.rest;
      gave = halts.gave;
      why = whys.works f halts.left halts.rest is started halts.why;
      messages = messages_on tells.heard.lines gets.lines tells.inputs none tells.heard.said
          ∙ ap (λ (ms : List (Option (List ℕ))). tells.inputs ++ ms) (ap messages_of (sym (append-nil gets.lines)) ∙ skip_blanks gets.lines [] gets.blank ∙ none_left);
      stopped = λ ok. record { reason = f; cause = whys.cause f is; stops = halts.stops (whys.lacks f is) };
      still = λ g failed. absurd (not_both place.reader.failed g started failed);
    }
given_by r c old mid place end behind tells f whys is none (had_failed failed still) =
    let started = start_failed place end tells.heard.lines f tells.heard.reads failed in
    record {
      lines = tells.heard.lines;
      left = end.reader.room;
      rest = end.ahead;
      gave = told_gave old mid place end tells;
      why = whys.failed f end.reader.room end.ahead is started;
      messages = told_lines old mid place end tells none;
      stopped = λ ok. absurd (not_both place.reader.failed f ok started);
      still = λ g failed. still ∙ ap (λ (p : Place). p.reader) (start_still place end tells.heard.lines g tells.heard.reads failed);
    }
