-- A log of one thread is fixed by its model, its options and its inputs.
use Rattle.std.proofs.Common.{◌≡◌, ℕ, ◌⊎◌, inl, inr, List, [], ◌∷◌, ◌++◌, Bool, true, false, Option, Some, None, refl, sym, ◌∙◌, ap}
use Rattle.std.specs.Prelude.{unwrap_or}
use Rattle.pl_model.specs.declared.whole.Model.{Model}
use Rattle.pl_facts.specs.declared.options.Options.{Options}
use Rattle.pl_entry.specs.declared.event.Event.{Event}
use Rattle.pl_entry.specs.declared.event.Event.TheVariants as event
use Rattle.pl_entry.specs.declared.reply.Reply.{Reply}
use Rattle.pl_entry.specs.declared.entry.Entry.{Entry}
use Rattle.pl_machine.specs.Legal.{Legal, IsOpenedRun, opening, options_in, options_of, no_options, entries_behind, world_of}
use Rattle.pl_machine.specs.Finished.{inputs_of}
use Rattle.pl_machine.proofs.Going.{world_goes}
use Rattle.pl_main.proofs.OneLog.{entry_by, AreOne, log_further, log_shorter, IsOpened, opened_with, logs_are_one, closed_are_one}
use Rattle.pl_laws.specs.Fixed.{IsSolo, BeginsWith, SoloFollowsInputs, SoloIsFixed, SoloIsOne}

-- ---- a legal log and its open entry

opened_by : (m : Model) (happened : Event) (answer : Reply) (o : Option Options) (es : List Entry) → options_in happened ≡ o → IsOpenedRun m o answer es
    → opening (unwrap_or o no_options) ≡ entry_by happened answer
opened_by m (event.Opened p) answer None es is run = absurd run
opened_by m (event.Opened p) answer (Some o) es is run =
    let same : o ≡ p = (let h : Some p ≡ Some o = is in (cc)) in
    ap opening same ∙ ap (entry_by (event.Opened p)) (sym run.answers)
opened_by m (event.Input line) answer None es is run = absurd run
opened_by m (event.Input line) answer (Some o) es is run = absurd (let h : None ≡ Some o = is in (cc))
opened_by m (event.Fix k mv) answer None es is run = absurd run
opened_by m (event.Fix k mv) answer (Some o) es is run = absurd (let h : None ≡ Some o = is in (cc))
opened_by m event.Rest answer None es is run = absurd run
opened_by m event.Rest answer (Some o) es is run = absurd (let h : None ≡ Some o = is in (cc))
opened_by m (event.Commit h) answer None es is run = absurd run
opened_by m (event.Commit h) answer (Some o) es is run = absurd (let g : None ≡ Some o = is in (cc))
opened_by m event.Dispatch answer None es is run = absurd run
opened_by m event.Dispatch answer (Some o) es is run = absurd (let h : None ≡ Some o = is in (cc))
opened_by m event.Close answer None es is run = absurd run
opened_by m event.Close answer (Some o) es is run = absurd (let h : None ≡ Some o = is in (cc))

whole_log : (m : Model) (log : List Entry) → Legal m log → opening (options_of log) ∷ entries_behind log ≡ log
whole_log m [] legal = absurd legal
whole_log m (first ∷ es) legal = ap (λ (e : Entry). e ∷ es) (opened_by m first.event first.reply (options_in first.event) es refl legal)

module _ (m : Model) (one other : List Entry) (first : IsSolo m one) (second : IsSolo m other) (same : options_of one ≡ options_of other) where
  opened_one : IsOpened m (options_of other) one
  opened_one = opened_with m (options_of other) one first.legal first.solo same

  opened_other : IsOpened m (options_of other) other
  opened_other = opened_with m (options_of other) other second.legal second.solo refl

  -- the one log, by what stands behind the open entry
  one_by : (es : List Entry) → entries_behind one ≡ es → one ≡ opening (options_of other) ∷ es
  one_by es is = sym (whole_log m one first.legal) ∙ ap (λ (o : Options). opening o ∷ entries_behind one) same ∙ ap (λ (xs : List Entry). opening (options_of other) ∷ xs) is

  other_by : (es : List Entry) → entries_behind other ≡ es → other ≡ opening (options_of other) ∷ es
  other_by es is = sym (whole_log m other second.legal) ∙ ap (λ (xs : List Entry). opening (options_of other) ∷ xs) is

  begins : (more : List (Option (List ℕ))) → inputs_of other ≡ inputs_of one ++ more → BeginsWith other one ⊎ BeginsWith one other
  begins more inputs = by (logs_are_one m (options_of other) one other more opened_one opened_other inputs)
    where
      by : AreOne (entries_behind one) (entries_behind other) → BeginsWith other one ⊎ BeginsWith one other
      by (log_further zs is) = inl (zs, other_by (entries_behind one ++ zs) is ∙ ap (λ (xs : List Entry). xs ++ zs) (sym (one_by (entries_behind one) refl)))
      by (log_shorter zs is) = inr (zs, one_by (entries_behind other ++ zs) is ∙ ap (λ (xs : List Entry). xs ++ zs) (sym (other_by (entries_behind other) refl)))

  fixed : inputs_of one ≡ inputs_of other → (world_of m one).closed ≡ true → (world_of m other).closed ≡ true → one ≡ other
  fixed inputs closed closed2 =
      one_by (entries_behind other) (closed_are_one m (options_of other) one other opened_one opened_other (sym inputs) closed closed2)
      ∙ sym (other_by (entries_behind other) refl)

-- a log that is done is closed
closed_by : (m : Model) (log : List Entry) → Legal m log → (world_of m log).done ≡ true → (b : Bool) → (world_of m log).closed ≡ b → (world_of m log).closed ≡ true
closed_by m log legal done true is = is
closed_by m log legal done false is = absurd (let both : true ≡ false = sym done ∙ world_goes m log legal is in (cc))

pub follows_inputs : (m : Model) → SoloFollowsInputs m
follows_inputs m one other more first second same inputs = begins m one other first second same more inputs

pub is_fixed : (m : Model) → SoloIsFixed m
is_fixed m one other first second same inputs closed closed2 = fixed m one other first second same inputs closed closed2

pub is_one : (m : Model) → SoloIsOne m
is_one m input one other first second solo solo2 same =
    fixed m one other (record { legal = first.legal; solo = solo }) (record { legal = second.legal; solo = solo2 }) same (first.inputs ∙ sym second.inputs)
    (closed_by m one first.legal first.done (world_of m one).closed refl) (closed_by m other second.legal second.done (world_of m other).closed refl)
