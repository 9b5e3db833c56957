-- What the reading of a line says of the entry that is wanted.
use Rattle.std.proofs.Common.{◌≡◌, ℕ, List, Some, None, Ok, Err, Bool, true, false, nat_eq, if◌then◌else◌, ap, ap₂, refl, subst, sym, arith}
use Rattle.std.proofs.lemmas.Bool.{eqb-true, eq-eqb}
use Rattle.pl_model.specs.declared.whole.Model.{Model}
use Rattle.pl_facts.specs.declared.options.Options.{Options}
use Rattle.pl_entry.specs.declared.event.Event.{Event}
use Rattle.pl_entry.specs.declared.event.Event.TheVariants as event
use Rattle.pl_entry.specs.declared.reply.Reply.{Reply}
use Rattle.pl_entry.specs.declared.reply.Reply.TheVariants as reply
use Rattle.pl_entry.specs.declared.entry.Entry.{Entry}
use Rattle.pl_entry.specs.Bounds.{IsNumberOf, IsReplyTo}
use Rattle.pl_journal.specs.declared.parsing.fault.EntryFault.{EntryFault}
use Rattle.pl_journal.specs.declared.parsing.fault.EntryFault.TheVariants as fault
use Rattle.pl_journal.specs.Parsing.Journal.{IsLineOf}
use Rattle.pl_journal.specs.Parsing.Reads.{Read, Gives}
use Rattle.pl_machine.specs.Legal.{opening, options_in}
use Rattle.pl_replay.specs.Journals.{IsNoLine, Opens, ReadsAt}

abbrev number_in : Read (ℕ × Entry) → ℕ
number_in (Ok read) = read.0
number_in (Err why) = 0

number_of : (number found : ℕ) (e f : Entry) → ◌≡◌ {A = Read (ℕ × Entry)} (Ok (number, f)) (Ok (found, e)) → found ≡ number
number_of number found e f same = sym (ap number_in same)

both : (b : Bool) → b ≡ true → b ≡ false → ⊥
both b yes_ no_ = cc

no_value : (x : ℕ × Entry) → ◌≡◌ {A = Read (ℕ × Entry)} (Ok x) (Err fault.NotALine) → ⊥
no_value x same = cc

pub reads_numbered : (m : Model) (line : List ℕ) (number found : ℕ) (e : Entry) → IsLineOf m line found e → ((n : ℕ) (f : Entry) → IsLineOf m line n f → Gives {X = ℕ × Entry} (Ok (found, e)) (Ok (n, f)))
    → ReadsAt m number line (if nat_eq found number then Some e else None)
reads_numbered m line number found e is reads = by_test (nat_eq found number) refl
  where
    by_test : (b : Bool) → nat_eq found number ≡ b → ReadsAt m number line (if b then Some e else None)
    by_test true same = subst (λ n. IsLineOf m line n e) (eqb-true found number same) is
    by_test false other = λ f line_of. both (nat_eq found number) (eq-eqb found number (number_of number found e f (reads number f line_of))) other

pub reads_none : (m : Model) (line : List ℕ) (number : ℕ) (why : EntryFault) → why ≡ fault.NotALine → ((n : ℕ) (f : Entry) → IsLineOf m line n f → Gives {X = ℕ × Entry} (Err why) (Ok (n, f))) → ReadsAt m number line None
reads_none m line number why is reads = λ f line_of. no_value (number, f) (subst (λ (w : EntryFault). Gives {X = ℕ × Entry} (Err w) (Ok (number, f))) is (reads number f line_of))

entry_is : (e : Entry) (o : Options) → e.event ≡ event.Opened o → e.reply ≡ reply.Done → e ≡ opening o
entry_is e o asked answered = ap₂ (λ (v : Event) (r : Reply). record { event = v; reply = r }) asked answered

pub opens : (m : Model) (line : List ℕ) (e : Entry) → IsLineOf m line 0 e → Opens m line (options_in e.event)
opens m line e is = by_event e.event refl
  where
    none : (v : Event) → e.event ≡ v → (IsNumberOf 0 v → ⊥) → IsNoLine m line 0
    none v asked other = absurd (other (subst (λ (v : Event). IsNumberOf 0 v) asked is.entry.numbered))

    by_event : (v : Event) → e.event ≡ v → Opens m line (options_in v)
    by_event (event.Opened o) asked = subst (λ (e : Entry). IsLineOf m line 0 e) (entry_is e o asked (subst (λ (v : Event). IsReplyTo m v e.reply) asked is.entry.reply)) is
    by_event (event.Input l) asked = none (event.Input l) asked (λ n. omega (arith, n))
    by_event (event.Fix k move) asked = none (event.Fix k move) asked (λ n. omega (arith, n))
    by_event event.Rest asked = none event.Rest asked (λ n. omega (arith, n))
    by_event (event.Commit h) asked = none (event.Commit h) asked (λ n. omega (arith, n))
    by_event event.Dispatch asked = none event.Dispatch asked (λ n. omega (arith, n))
    by_event event.Close asked = none event.Close asked (λ n. omega (arith, n))
