-- No input has the causes of two statuses.
use Rattle.std.proofs.Common.{◌≡◌, ℕ, ◌+◌, ◌<◌, ◌≤◌, suc, List, [], ◌∷◌, ◌++◌, length, take, true, false, All, Option, Some, None, inl, inr, refl, sym, ◌∙◌, ap, subst, append_assoc, arith}
use Rattle.std.proofs.lemmas.List.{take_all}
use Rattle.std.proofs.lemmas.Option.{same_Some}
use Rattle.pl_io.specs.Lines.{lines_of, first_line, after_line, given, line_too_long, input_too_long}
use Rattle.pl_io.proofs.FirstLine.{next_of-judged, judged-last}
use Rattle.pl_io.proofs.LineLaws.{lines_of-front}
use Rattle.pl_model.specs.declared.whole.Model.{Model}
use Rattle.pl_input.specs.Words.{model_text_of, lines_behind, messages_of, split_of}
use Rattle.pl_machine.specs.World.{World}
use Rattle.pl_machine.specs.Legal.{Legal, world_of}
use Rattle.pl_main.specs.Solo.{Solo}
use Rattle.pl_machine.specs.Finished.{inputs_of}
use Rattle.pl_check.specs.Accepting.{IsModelText, IsRefusedAs}
use Rattle.pl_check.proofs.Apart.{apart, one_model}
use Rattle.pl_main.specs.declared.command.Task.TheVariants as task
use Rattle.pl_input.specs.Reads.{GivesLines}
use Rattle.pl_input.specs.Stops.{IsStuck}
use Rattle.pl_main.specs.Top.{line_limit, total_limit, program_options, IsNoModel, no_begin, faulty, IsFound, IsPastHead}
use Rattle.pl_report.specs.Demonstration.{demo_text}
use Rattle.pl_main.specs.Demos.{demo_turns, IsShown, IsShownInPart}
use Rattle.pl_main.specs.Limits.{IsWithinLimits, CanCheck, IsDoneBy, CompletesRun}
use Rattle.pl_main.specs.Statuses.{SaysChecked, SaysShown, SaysEndedKnown}
use Rattle.pl_input.proofs.Reading.{gave_lines}
use Rattle.pl_main.proofs.Jobs.{IsJobStatus, is_done, is_refused, is_read, is_write, is_limit, is_full, is_wrong, is_memory}
use Rattle.pl_main.proofs.Playing.{messages_append, not_single}
use Rattle.pl_input.proofs.Comparing.{end_is_no_limit, goes_on, all_or_stuck}
use Rattle.pl_main.proofs.OneInput.{text_goes_on, behind_goes_on, split_text, split_messages, Ends, messages_end, messages_last, Front, front_of, longer}
use Rattle.pl_main.proofs.OneLog.{opened_with, full_and_closed}
use Rattle.pl_main.specs.Endings.{IsDone, IsFull, IsPastLimit, RunKind, WaitsBehind}
use Rattle.pl_main.specs.RunKinds.{solo_run}

abbrev Lines : Type 0
Lines = List (List ℕ)

abbrev Message : Type 0
Message = Option (List ℕ)

-- ---- a model's text

pub no_model_of : (limit : ℕ) (input words : List ℕ) (m : Model) (left held now : Option (List ℕ)) → (split_of input).text ≡ Some words → IsModelText words m → IsNoModel limit input left held now → ⊥
no_model_of limit input words m left held now text accepted (no_begin lines room gave none source adds) = (let h : Some words ≡ None = sym text ∙ none in (cc))
no_model_of limit input words m left held now text accepted (faulty others line head refused adds) =
    apart words line m accepted (subst (λ (w : List ℕ). IsRefusedAs w line) (same_Some others words (sym head.text ∙ text)) refused)

-- ---- the model's text and a limit

pub text_then_limit : (limit : ℕ) (input : List ℕ) (xs ys : Lines) (left1 : ℕ) (rest1 : List ℕ) (left2 : ℕ) (rest2 words : List ℕ) → IsStuck limit left1 rest1 → GivesLines limit total_limit input xs left1 rest1 → GivesLines limit total_limit input ys left2 rest2
    → model_text_of ys ≡ Some words → model_text_of xs ≡ Some words
text_then_limit limit input xs ys left1 rest1 left2 rest2 words stuck g h text =
    let on = goes_on limit total_limit input xs ys left1 rest1 left2 rest2 stuck g h in
    ap model_text_of on.is ∙ text_goes_on ys on.more words text

pub no_text : (xs : Lines) (words : List ℕ) → model_text_of xs ≡ Some words → model_text_of xs ≡ None → ⊥
no_text xs words some none = (let h : Some words ≡ None = sym some ∙ none in (cc))

-- the reading that a limit stops, while no `begin` was read
pub head_not_past : (limit : ℕ) (input : List ℕ) (xs : Lines) (room : ℕ) (rest : List ℕ) (left held now : Option (List ℕ)) → IsStuck limit room rest → GivesLines limit total_limit input xs room rest → model_text_of xs ≡ None → IsNoModel limit input left held now → ⊥
head_not_past limit input xs room rest left held now stuck gave none (no_begin lines room2 gave2 none2 source adds) =
    all_or_stuck limit xs lines room rest room2 [] (goes_on limit total_limit input xs lines room rest room2 [] stuck gave gave2) refl stuck
head_not_past limit input xs room rest left held now stuck gave none (faulty words line head refused adds) =
    no_text xs words (text_then_limit limit input xs head.lines room rest head.left head.rest words stuck gave head.gave head.head) none

pub found_not_past : (input : List ℕ) (left held now other_left other_held other_now : Option (List ℕ)) → IsFound input left held now → IsPastHead line_limit input other_left other_held other_now → ⊥
found_not_past input left held now other_left other_held other_now found past =
    no_text past.lines found.words (text_then_limit line_limit input past.lines found.begins.lines past.left past.rest found.begins.left found.begins.rest found.words past.why past.gave found.begins.gave found.begins.head) past.none

pub no_model_not_past : (limit : ℕ) (input : List ℕ) (left held now other_left other_held other_now : Option (List ℕ)) → IsNoModel limit input left held now → IsPastHead limit input other_left other_held other_now → ⊥
no_model_not_past limit input left held now other_left other_held other_now none past = head_not_past limit input past.lines past.left past.rest left held now past.why past.gave past.none none

pub found_not_refused : (input : List ℕ) (left held now other_left other_held other_now : Option (List ℕ)) → IsFound input left held now → IsNoModel line_limit input other_left other_held other_now → ⊥
found_not_refused input left held now other_left other_held other_now found none = no_model_of line_limit input found.words found.model other_left other_held other_now found.begins.text found.accepted none

-- ---- a run that is refused

pub done_not_refused : (kind : RunKind) (input : List ℕ) (left held now other_left other_held other_now : Option (List ℕ)) → IsDone kind input left held now → IsNoModel line_limit input other_left other_held other_now → ⊥
done_not_refused kind input left held now other_left other_held other_now done refused = no_model_of line_limit input done.words done.model other_left other_held other_now done.text done.accepted refused

pub refused_not_full : (kind : RunKind) (input : List ℕ) (left held now other_left other_held other_now : Option (List ℕ)) → IsNoModel line_limit input left held now → IsFull kind input other_left other_held other_now → ⊥
refused_not_full kind input left held now other_left other_held other_now refused full = no_model_of line_limit input full.words full.model left held now full.text full.accepted refused

pub refused_not_past : (kind : RunKind) (input : List ℕ) (left held now other_left other_held other_now : Option (List ℕ)) → IsNoModel line_limit input left held now → IsPastLimit kind input other_left other_held other_now → ⊥
refused_not_past kind input left held now other_left other_held other_now refused past =
    elim past.asked [
      | inl none ↦ head_not_past line_limit input past.lines past.left past.rest left held now past.why past.gave none.0 refused
      | inr waits ↦ no_model_of line_limit input waits.words waits.model left held now (split_text line_limit input past.lines past.left past.rest waits.words past.gave waits.text) waits.accepted refused
    ]

-- ---- messages and a limit

front_same : (xs ys : List Message) (x y : Message) → xs ++ x ∷ [] ≡ ys ++ y ∷ [] → xs ≡ ys
front_same [] ys x y e = sym (not_single x y ys e).0
front_same (z ∷ xs) [] x y e = (not_single y x (z ∷ xs) (sym e)).0
front_same (z ∷ xs) (w ∷ ys) x y e =
    let h : z ∷ (xs ++ x ∷ []) ≡ w ∷ (ys ++ y ∷ []) = e in
    let same : z ≡ w = (cc) in
    let rest : xs ++ x ∷ [] ≡ ys ++ y ∷ [] = (cc) in
    ap (λ (a : Message). a ∷ xs) same ∙ ap (λ (l : List Message). w ∷ l) (front_same xs ys x y rest)

-- Messages that were read, where the lines go on up to a limit: the end of the input is none of them, and a message is due behind them.
record AreBefore (messages inputs : List Message) : Type 0 where
  more : List Message
  is : inputs ≡ messages ++ more

by_front : (messages more ns : List Message) (inputs : List Message) → (((front : List Message) → messages ≡ front ++ None ∷ [] → ⊥)) → ((m : List Message) → ns ≡ messages ++ m → AreBefore messages inputs) → Front messages more ns None → AreBefore messages inputs
by_front messages more ns inputs no_end next (inl p) = absurd (no_end ns p.1)
by_front messages more ns inputs no_end next (inr p) = next p.0 p.1

are_before : (ys zs : Lines) (messages more inputs : List Message) → messages_of ys ≡ messages ++ more → messages_of (ys ++ zs) ≡ inputs ++ None ∷ [] → ((front : List Message) → messages ≡ front ++ None ∷ [] → ⊥) → AreBefore messages inputs
are_before ys zs messages more inputs behind all no_end = by_end (messages_end ys)
  where
    by_end : Ends (messages_of ys) (λ (ls : Lines). messages_of (ys ++ ls)) → AreBefore messages inputs
    by_end (inr same) =
        by_front messages more inputs inputs no_end (λ m is. record { more = m; is = is }) (front_of messages more inputs None (sym behind ∙ sym (same zs) ∙ all))
    by_end (inl p) =
        by_front messages more p.0 inputs no_end
        (λ m is.
        let last = messages_last zs in
        let joined : inputs ++ None ∷ [] ≡ (p.0 ++ last.front) ++ last.last ∷ [] = sym all ∙ messages_append ys zs p.0 p.1 ∙ ap (λ (ns : List Message). p.0 ++ ns) last.is ∙ sym (append_assoc p.0 last.front (last.last ∷ [])) in
        let before : inputs ≡ p.0 ++ last.front = front_same inputs (p.0 ++ last.front) None last.last joined in
        record { more = m ++ last.front; is = before ∙ ap (λ (ns : List Message). ns ++ last.front) is ∙ append_assoc messages m last.front })
        (front_of messages more p.0 None (sym behind ∙ p.1))

-- ---- a run that is done and a limit

pub done_before : (input : List ℕ) (ys zs : Lines) (messages more inputs : List Message) (rest : List ℕ) → messages ≡ messages_of (ys ++ lines_of rest) → messages_of ys ≡ messages ++ more → messages_of (ys ++ zs) ≡ inputs ++ None ∷ []
    → ((front : List Message) → messages ≡ front ++ None ∷ [] → ⊥) → ⊥
done_before input ys zs messages more inputs rest whole behind all no_end = by_end (messages_end ys)
  where
    by_end : Ends (messages_of ys) (λ (ls : Lines). messages_of (ys ++ ls)) → ⊥
    by_end (inr same) = no_end inputs (whole ∙ same (lines_of rest) ∙ sym (same zs) ∙ all)
    by_end (inl p) =
        elim (front_of messages more p.0 None (sym behind ∙ p.1)) [
          | inl q ↦ no_end p.0 q.1
          | inr q ↦ longer messages q.0 (lines_of rest) (whole ∙ messages_append ys (lines_of rest) p.0 p.1 ∙ ap (λ (ns : List Message). ns ++ messages_of (lines_of rest)) q.1)
        ]

pub done_not_past : (kind : RunKind) (input : List ℕ) (left held now other_left other_held other_now : Option (List ℕ)) → IsDone kind input left held now → IsPastLimit kind input other_left other_held other_now → ⊥
done_not_past kind input left held now other_left other_held other_now done past =
    elim past.asked [
      | inl none ↦ no_text past.lines done.words (text_then_limit line_limit input past.lines done.read.lines past.left past.rest done.read.left done.read.rest done.words past.why past.gave done.read.gave done.read.text) none.0
      | inr waits ↦ (
          let on = goes_on line_limit total_limit input past.lines done.read.lines past.left past.rest done.read.left done.read.rest past.why past.gave done.read.gave in
          let all : messages_of (lines_behind done.read.lines ++ on.more) ≡ inputs_of waits.log ++ None ∷ [] =
          ap messages_of (sym (ap lines_behind on.is ∙ behind_goes_on done.read.lines on.more done.words done.read.text)) ∙ waits.messages in
          done_before input (lines_behind done.read.lines) on.more (inputs_of done.log) done.read.more (inputs_of waits.log) done.read.rest
          (done.finished.inputs ∙ split_messages line_limit input done.read.lines done.read.left done.read.rest done.words done.read.gave done.read.text)
          done.read.behind all
          (λ front e. all_or_stuck line_limit past.lines done.read.lines past.left past.rest done.read.left done.read.rest on (done.read.used_up front e) past.why))
    ]

-- ---- a log that is full

model_same : (words others : List ℕ) (m n : Model) (t : Option (List ℕ)) → t ≡ Some words → t ≡ Some others → IsModelText words m → IsModelText others n → n ≡ m
model_same words others m n t is also accepted accepted2 =
    one_model words n m (subst (λ (w : List ℕ). IsModelText w n) (same_Some others words (sym also ∙ is)) accepted2) accepted

pub done_not_full : (turns : ℕ) (input : List ℕ) (left held now other_left other_held other_now : Option (List ℕ)) → IsDone (solo_run turns) input left held now → IsFull (solo_run turns) input other_left other_held other_now → ⊥
done_not_full turns input left held now other_left other_held other_now done full =
    let same : full.model ≡ done.model = model_same done.words full.words done.model full.model (split_of input).text done.text full.text done.accepted full.accepted in
    let first = opened_with done.model (program_options turns) full.log (subst (λ (m : Model). Legal m full.log) same full.says.legal) (subst (λ (m : Model). Solo m full.log) same full.says.solo) full.says.options in
    let second = opened_with done.model (program_options turns) done.log done.finished.legal done.says.solo done.says.options in
    let both = full_and_closed done.model (program_options turns) full.log done.log full.unanswered first second (done.finished.inputs ∙ full.messages) full.full done.closed in
    let going : (world_of done.model full.log).done ≡ false = ap (λ (m : Model). (world_of m full.log).done) (sym same) ∙ full.going in
    (let h : true ≡ false = sym done.finished.done ∙ ap (λ (w : World). w.done) (sym both.0) ∙ going in (cc))

no_pending : (pending more : List Message) → pending ++ more ≡ [] → pending ≡ []
no_pending [] more e = refl
no_pending (p ∷ pending) more e = (let h : p ∷ (pending ++ more) ≡ [] = e in (cc))

pub past_not_full : (turns : ℕ) (input : List ℕ) (left held now other_left other_held other_now : Option (List ℕ)) → IsPastLimit (solo_run turns) input left held now → IsFull (solo_run turns) input other_left other_held other_now → ⊥
past_not_full turns input left held now other_left other_held other_now past full =
    elim past.asked [
      | inl none ↦ no_text past.lines full.words (text_then_limit line_limit input past.lines full.read.lines past.left past.rest full.read.left full.read.rest full.words past.why past.gave full.read.gave full.read.text) none.0
      | inr waits ↦ waiting_not_full waits
    ]
  where
    waiting_not_full : WaitsBehind (solo_run turns) past.lines held now → ⊥
    waiting_not_full waits =
        let on = goes_on line_limit total_limit input past.lines full.read.lines past.left past.rest full.read.left full.read.rest past.why past.gave full.read.gave in
        let all : messages_of (lines_behind full.read.lines ++ on.more) ≡ inputs_of waits.log ++ None ∷ [] =
        ap messages_of (sym (ap lines_behind on.is ∙ behind_goes_on full.read.lines on.more full.words full.read.text)) ∙ waits.messages in
        let before = are_before (lines_behind full.read.lines) on.more (inputs_of full.log ++ full.pending) full.read.more (inputs_of waits.log) full.read.behind all
        (λ front e. all_or_stuck line_limit past.lines full.read.lines past.left past.rest full.read.left full.read.rest on (full.read.used_up front e) past.why) in
        let same : full.model ≡ waits.model = model_same waits.words full.words waits.model full.model (split_of input).text (split_text line_limit input past.lines past.left past.rest waits.words past.gave waits.text) full.text waits.accepted full.accepted in
        let first = opened_with waits.model (program_options turns) full.log (subst (λ (m : Model). Legal m full.log) same full.says.legal) (subst (λ (m : Model). Solo m full.log) same full.says.solo) full.says.options in
        let second = opened_with waits.model (program_options turns) waits.log waits.says.legal waits.says.solo waits.says.options in
        let both = full_and_closed waits.model (program_options turns) full.log waits.log (full.pending ++ before.more) first second (before.is ∙ append_assoc (inputs_of full.log) full.pending before.more) full.full waits.closed in
        let closed : (world_of full.model full.log).closed ≡ true = ap (λ (m : Model). (world_of m full.log).closed) same ∙ ap (λ (w : World). w.closed) both.0 ∙ waits.closed in
        elim full.due [
          | inl open_round ↦ (let h : true ≡ false = sym closed ∙ open_round.0 in (cc))
          | inr one ↦ (let h : one.1.0 ∷ [] ≡ [] = sym one.1.1.0 ∙ no_pending full.pending before.more both.1 in (cc))
        ]

-- ---- an input within the limits

abbrev IsShort : ℕ → List ℕ → Type 0
IsShort limit line = length line ≤ limit

in_the_middle : (limit : ℕ) (xs ys : Lines) (y : List ℕ) → All (IsShort limit) (xs ++ y ∷ ys) → IsShort limit y
in_the_middle limit [] ys y all = all 0 [] (omega arith)
in_the_middle limit (x ∷ xs) ys y all = in_the_middle limit xs ys y (λ k d less. all (suc k) d (omega (arith, less)))

room_left : (limit room : ℕ) (bytes : List ℕ) (lines : Lines) (left : ℕ) (rest : List ℕ) → GivesLines limit room bytes lines left rest → left + length bytes ≡ room + length rest
room_left limit room bytes [] left rest gave =
    let same : length rest ≡ length bytes = ap (λ (b : List ℕ). length b) gave.1 in
    omega (arith, gave.0, same)
room_left limit room bytes (line ∷ lines) left rest gave =
    omega (arith, gave.1.leaves, room_left limit gave.0 (after_line bytes) lines left rest gave.2)

next_fits : (limit left : ℕ) (rest : List ℕ) → 0 < length rest → length rest ≤ left → length (first_line rest) ≤ limit → IsStuck limit left rest → ⊥
next_fits limit left rest some room short stuck =
    let all : take left rest ≡ rest = take_all left rest room in
    let given_next = next_of-judged limit left rest some ∙ judged-last limit left rest (take left rest) (subst (λ (b : List ℕ). length (first_line b) ≤ limit) (sym all) short) room in
    elim stuck [
      | inl e ↦ (let h : line_too_long ≡ given (first_line rest) (after_line rest) = sym e ∙ given_next in (cc))
      | inr e ↦ (let h : input_too_long ≡ given (first_line rest) (after_line rest) = sym e ∙ given_next in (cc))
    ]

within_rest : (limit : ℕ) (lines : Lines) (left : ℕ) (rest : List ℕ) → All (IsShort limit) (lines ++ lines_of rest) → length rest ≤ left → IsStuck limit left rest → ⊥
within_rest limit lines left [] short room stuck = end_is_no_limit limit left stuck
within_rest limit lines left (b ∷ bs) short room stuck =
    let front = lines_of-front (b ∷ bs) (λ e. (let h : b ∷ bs ≡ [] = e in (cc))) in
    let first : IsShort limit (first_line (b ∷ bs)) = in_the_middle limit lines (lines_of (after_line (b ∷ bs))) (first_line (b ∷ bs)) (subst (λ (ls : Lines). All (IsShort limit) (lines ++ ls)) front short) in
    next_fits limit left (b ∷ bs) (omega arith) room first stuck

pub is_within : (limit : ℕ) (input : List ℕ) (lines : Lines) (left : ℕ) (rest : List ℕ) → IsWithinLimits limit input → GivesLines limit total_limit input lines left rest → IsStuck limit left rest → ⊥
is_within limit input lines left rest within gave stuck =
    within_rest limit lines left rest (subst (λ (ls : Lines). All (IsShort limit) ls) (gave_lines limit total_limit input lines left rest gave) within.lines)
    (omega (arith, room_left limit total_limit input lines left rest gave, within.total)) stuck

pub run_within : (kind : RunKind) (input : List ℕ) (left held now : Option (List ℕ)) → IsWithinLimits line_limit input → IsPastLimit kind input left held now → ⊥
run_within kind input left held now within past = is_within line_limit input past.lines past.left past.rest within past.gave past.why

pub head_within : (input : List ℕ) (left held now : Option (List ℕ)) → IsWithinLimits line_limit input → IsPastHead line_limit input left held now → ⊥
head_within input left held now within past = is_within line_limit input past.lines past.left past.rest within past.gave past.why

-- ---- a job that can be done is done

pub run_completes : (kind : RunKind) (input left held now : Option (List ℕ)) (status : ℕ) → SaysEndedKnown kind input left held now status → IsJobStatus status → (status ≡ 4 → ⊥) → (status ≡ 5 → ⊥) → CompletesRun kind input status
run_completes kind None left held now status says is no_read no_write = tt
run_completes kind (Some input) left held now status says (is_done e) no_read no_write = λ can. inl e
run_completes kind (Some input) left held now status says (is_refused e) no_read no_write = λ can. absurd (no_model_of line_limit input can.words can.model left held now can.text can.accepted (says.refused e))
run_completes kind (Some input) left held now status says (is_read e) no_read no_write = λ can. absurd (no_read e)
run_completes kind (Some input) left held now status says (is_write e) no_read no_write = λ can. absurd (no_write e)
run_completes kind (Some input) left held now status says (is_limit e) no_read no_write = λ can. absurd (can.no_limit left held now (says.limit e))
run_completes kind (Some input) left held now status says (is_full e) no_read no_write = λ can. inr (inl e)
run_completes kind (Some input) left held now status says (is_wrong e) no_read no_write = λ can. absurd (says.never_wrong e)
run_completes kind (Some input) left held now status says (is_memory e) no_read no_write = λ can. inr (inr e)

pub check_completes : (input : List ℕ) (left held now : Option (List ℕ)) (status : ℕ) → SaysChecked input left held now status → IsJobStatus status → CanCheck input
    → (status ≡ 4 → ⊥) → (status ≡ 5 → ⊥) → IsDoneBy task.Check status
check_completes input left held now status says (is_done e) can no_read no_write = inl e
check_completes input left held now status says (is_refused e) can no_read no_write = absurd (no_model_of line_limit input can.words can.model left held now can.text can.accepted (says.refused e))
check_completes input left held now status says (is_read e) can no_read no_write = absurd (no_read e)
check_completes input left held now status says (is_write e) can no_read no_write = absurd (no_write e)
check_completes input left held now status says (is_limit e) can no_read no_write = absurd (can.no_limit left held now (says.limit e))
check_completes input left held now status says (is_full e) can no_read no_write = absurd (says.never_full e)
check_completes input left held now status says (is_wrong e) can no_read no_write = absurd (says.never_wrong e)
check_completes input left held now status says (is_memory e) can no_read no_write = inr e

-- ---- a demonstration

pub shown_not_full : (goals : ℕ) (held now other_held other_now : Option (List ℕ)) → IsShown goals held now → IsShownInPart goals other_held other_now → ⊥
shown_not_full goals held now other_held other_now shown part = done_not_full demo_turns (demo_text goals) shown.left None None part.left None None shown.done part.full

pub demo_completes : (goals : ℕ) (held now : Option (List ℕ)) (status : ℕ) → SaysShown goals held now status → IsJobStatus status → (status ≡ 5 → ⊥) → IsDoneBy (task.Demo goals) status
demo_completes goals held now status says (is_done e) no_write = inl e
demo_completes goals held now status says (is_refused e) no_write = absurd (says.never_refused e)
demo_completes goals held now status says (is_read e) no_write = absurd (says.never_read e)
demo_completes goals held now status says (is_write e) no_write = absurd (no_write e)
demo_completes goals held now status says (is_limit e) no_write = absurd (says.never_limit e)
demo_completes goals held now status says (is_full e) no_write = inr (inl e)
demo_completes goals held now status says (is_wrong e) no_write = absurd (says.never_wrong e)
demo_completes goals held now status says (is_memory e) no_write = inr (inr e)
