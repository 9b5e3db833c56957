-- An entry read back from the words of its line.
use Rattle.std.proofs.Common.{◌≡◌, ℕ, ℤ, ◌<◌, ◌^◌, true, false, List, [], ◌∷◌, ◌++◌, length, Option, Some, None, Ok, codes, decimal, refl, sym, ap, ◌∙◌, arith}
use Rattle.std.specs.Prelude.{bytes_eq, slice_get}
use Rattle.std.specs.Fmt.{signed_decimal}
use Rattle.std.proofs.lemmas.Bool.{le-leb, lt-ltb}
use Rattle.std.proofs.lemmas.List.{append-nil}
use Rattle.pl_lists.specs.Judgements.{◌>>=◌}
use Rattle.pl_model.specs.declared.kinds.Kind.{Kind}
use Rattle.pl_model.specs.declared.whole.Model.{Model}
use Rattle.pl_conflict.specs.declared.conflict.Code.{Code}
use Rattle.pl_conflict.specs.declared.conflict.Code.TheVariants as code
use Rattle.pl_conflict.specs.declared.conflict.Conflict.{Conflict}
use Rattle.pl_facts.specs.declared.options.Options.{Options}
use Rattle.pl_plan.specs.declared.repair.RepairMove.{RepairMove}
use Rattle.pl_plan.specs.declared.repair.RepairMove.TheVariants as repair
use Rattle.pl_entry.specs.declared.event.Event.{Event}
use Rattle.pl_entry.specs.declared.event.Event.TheVariants as event
use Rattle.pl_entry.specs.declared.reply.Reply.{Reply}
use Rattle.pl_entry.specs.declared.reply.Reply.TheVariants as reply
use Rattle.pl_entry.specs.declared.reply.Reason.TheVariants as reason
use Rattle.pl_entry.specs.declared.entry.Entry.{Entry}
use Rattle.pl_entry.specs.Bounds.{IsConflictInRange, IsMoveInRange, AreOptions, IsEventInRange, IsInputReply, IsFixReply, IsRestReply, IsCommitReply, IsSent, IsDispatchReply, IsReplyTo}
use Rattle.pl_journal.specs.Rendering.Words.{spaced}
use Rattle.pl_journal.specs.Rendering.Lines.{code_word, conflict_words, kind_name, kind_params, move_words, values_words, command_words, reply_words, event_words, text_of}
use Rattle.pl_journal.proofs.AboutRendering.Plain.{plain, lacks_plain, plain-decimal}
use Rattle.pl_journal.proofs.AboutRendering.Telling.{code_plain}
use Rattle.pl_journal.proofs.AboutRendering.Told.{AreTold}
use Rattle.pl_journal.specs.Parsing.Reads.{Read}
use Rattle.pl_journal.specs.Parsing.Moves.{activity_code, code_of, code_in, conflict_in, goal_in, addition_in, assignment_in, deletion_in, shift_in, detailing_in, abstraction_in, drop_in, move_by, move_in}
use Rattle.pl_journal.specs.Parsing.Replies.{plan_reply, input_reply, locked_in, behind_in, beyond_in, fix_reply_by, fix_reply_in, reason_of, rest_reply_in, held_in, commit_reply_by, commit_reply_in, values_in, sent_in}
use Rattle.pl_journal.specs.Parsing.Entries.{answered, options_in, are_options, opening_in, message_in, input_by, input_in, fix_in, rested_in, commit_in, dispatch_in, entry_by, entry_in, candidate_in}
use Rattle.pl_journal.proofs.AboutParsing.Before.{before_word, rest_from_word}
use Rattle.pl_journal.proofs.AboutParsing.Digits.{count_back}
use Rattle.pl_journal.proofs.AboutParsing.Telling.{word_back, said_back, count_read, labelled_back, amount_read}
use Rattle.pl_journal.proofs.AboutParsing.KindNames.{kind_back, kind_there}
use Rattle.pl_journal.proofs.AboutParsing.Valued.{values_back}

-- ---- conflicts

code_back : (c : Code) → code_of (code_word c) ≡ Ok c
unfolding code_of activity_code
code_back code.OpenGoal = refl
code_back code.OffGoal = refl
code_back code.Late = refl
code_back code.Unset = refl
code_back code.BadValue = refl
code_back code.Undetailed = refl
code_back code.Overrun = refl
code_back code.Temporal = refl
code_back code.Linked = refl
code_back code.Over = refl
code_back code.Low = refl
code_back code.High = refl
code_back code.Must = refl
code_back code.BadStep = refl

code_read : (c : Code) (ws : List (List ℕ)) → code_in (spaced (code_word c ∷ ws)) ≡ Ok (c, spaced ws)
code_read c ws = rw (word_back (code_word c) ws (code_plain c), code_back c) refl

conflict_back : (k : Conflict) (ws : List (List ℕ)) → IsConflictInRange k → conflict_in (spaced (conflict_words k ++ ws)) ≡ Ok (k, spaced ws)
unfolding conflict_in
conflict_back k ws h =
    let after_a = decimal k.b ∷ ws in
    let after_detail = decimal k.a ∷ after_a in
    let after_subject = decimal k.detail ∷ after_detail in
    let after_code = decimal k.subject ∷ after_subject in
    rw (
      count_read k.from (code_word k.code ∷ after_code) h.from,
      code_read k.code after_code,
      count_read k.subject after_subject h.subject,
      count_read k.detail after_detail h.detail,
      count_read k.a after_a h.a,
      count_read k.b ws h.b,
    ) refl

-- ---- moves

goal_back : (goal : ℕ) (ws : List (List ℕ)) → goal < 2 ^ 32 → goal_in (spaced (codes "goal" ∷ decimal goal ∷ ws)) ≡ Ok (Some goal, spaced ws)
unfolding goal_in
goal_back goal ws h = rw (word_back (codes "goal") (decimal goal ∷ ws) refl, count_read goal ws h) refl

no_goal : (ws : List (List ℕ)) → goal_in (spaced (codes ":" ∷ ws)) ≡ Ok (None, spaced (codes ":" ∷ ws))
unfolding goal_in
no_goal ws = rw (word_back (codes ":") ws refl) refl

move_read : (m : Model) (w : List ℕ) (ws : List (List ℕ)) → plain w ≡ true → move_in m (spaced (w ∷ ws)) ≡ move_by m w (spaced ws)
unfolding move_in
move_read m w ws h = rw (word_back w ws h) refl

addition_back : (m : Model) (kind start : ℕ) (ws : List (List ℕ)) → AreTold m → kind < length m.kinds → plain (kind_name m kind) ≡ true → start < 2 ^ 32 → addition_in m (spaced (kind_name m kind ∷ decimal start ∷ ws)) ≡ (goal_in (spaced ws) >>= λ goal. Ok (repair.Add kind start goal.0, goal.1))
unfolding addition_in
addition_back m kind start ws told h named fits =
    let there = kind_there m.kinds kind h in
    let found = (kind_back m kind there.0 told there.1).found in
    rw (word_back (kind_name m kind) (decimal start ∷ ws) named, found, count_read start ws fits) refl

assignment_back : (id param : ℕ) (value : ℤ) (ws : List (List ℕ)) (m : Model) → IsMoveInRange m (repair.Assign id param value) → assignment_in (spaced (decimal id ∷ decimal param ∷ signed_decimal value ∷ ws)) ≡ Ok (repair.Assign id param value, spaced ws)
unfolding assignment_in
assignment_back id param value ws m h =
    rw (
      count_read id (decimal param ∷ signed_decimal value ∷ ws) h.0,
      count_read param (signed_decimal value ∷ ws) (omega (arith, h.1)),
      amount_read value ws h.2,
      lt-ltb param 256 h.1,
    ) refl

move_by_back : (m : Model) (move : RepairMove) (ws : List (List ℕ)) → AreTold m → IsMoveInRange m move → move_in m (spaced (move_words m move ++ codes ":" ∷ ws)) ≡ Ok (move, spaced (codes ":" ∷ ws))
unfolding move_by deletion_in shift_in detailing_in abstraction_in drop_in
move_by_back m (repair.Add kind start None) ws told h =
    move_read m (codes "add") (kind_name m kind ∷ decimal start ∷ codes ":" ∷ ws) refl
    ∙ addition_back m kind start (codes ":" ∷ ws) told h.0 (told.kind_plain kind) h.2
    ∙ rw (no_goal ws) refl
move_by_back m (repair.Add kind start (Some goal)) ws told h =
    move_read m (codes "add") (kind_name m kind ∷ decimal start ∷ codes "goal" ∷ decimal goal ∷ codes ":" ∷ ws) refl
    ∙ addition_back m kind start (codes "goal" ∷ decimal goal ∷ codes ":" ∷ ws) told h.0 (told.kind_plain kind) h.2
    ∙ rw (goal_back goal (codes ":" ∷ ws) h.3) refl
move_by_back m (repair.Delete id) ws told h =
    move_read m (codes "delete") (decimal id ∷ codes ":" ∷ ws) refl ∙ rw (count_read id (codes ":" ∷ ws) h) refl
move_by_back m (repair.Shift id start) ws told h =
    move_read m (codes "shift") (decimal id ∷ decimal start ∷ codes ":" ∷ ws) refl ∙ rw (count_read id (decimal start ∷ codes ":" ∷ ws) h.0, count_read start (codes ":" ∷ ws) h.1) refl
move_by_back m (repair.Detail id alternative) ws told h =
    move_read m (codes "detail") (decimal id ∷ decimal alternative ∷ codes ":" ∷ ws) refl ∙ rw (count_read id (decimal alternative ∷ codes ":" ∷ ws) h.0, count_read alternative (codes ":" ∷ ws) h.1) refl
move_by_back m (repair.Abstract id) ws told h =
    move_read m (codes "abstract") (decimal id ∷ codes ":" ∷ ws) refl ∙ rw (count_read id (codes ":" ∷ ws) h) refl
move_by_back m (repair.Assign id param value) ws told h =
    move_read m (codes "assign") (decimal id ∷ decimal param ∷ signed_decimal value ∷ codes ":" ∷ ws) refl ∙ assignment_back id param value (codes ":" ∷ ws) m h
move_by_back m (repair.Drop goal) ws told h =
    move_read m (codes "drop") (decimal goal ∷ codes ":" ∷ ws) refl ∙ rw (count_read goal (codes ":" ∷ ws) h) refl

-- ---- replies

fix_reply_read : (w : List ℕ) (ws : List (List ℕ)) → plain w ≡ true → fix_reply_in (spaced (w ∷ ws)) ≡ fix_reply_by w (spaced ws)
unfolding fix_reply_in
fix_reply_read w ws h = rw (word_back w ws h) refl

fix_reply_back : (m : Model) (r : Reply) → IsFixReply r → fix_reply_in (spaced (reply_words m r)) ≡ Ok r
unfolding fix_reply_by locked_in behind_in beyond_in
fix_reply_back m reply.Done h = fix_reply_read (codes "ok") [] refl
fix_reply_back m reply.Stale h = fix_reply_read (codes "stale") [] refl
fix_reply_back m reply.NotFor h = fix_reply_read (codes "not-for") [] refl
fix_reply_back m (reply.Locked id) h = fix_reply_read (codes "locked") (decimal id ∷ []) refl ∙ rw (count_read id [] h) refl
fix_reply_back m (reply.Behind id) h = fix_reply_read (codes "behind") (decimal id ∷ []) refl ∙ rw (count_read id [] h) refl
fix_reply_back m (reply.Beyond id) h = fix_reply_read (codes "beyond") (decimal id ∷ []) refl ∙ rw (count_read id [] h) refl
fix_reply_back m reply.Full h = fix_reply_read (codes "full") [] refl
fix_reply_back m _ h = absurd h

rest_reply_back : (m : Model) (r : Reply) → IsRestReply r → rest_reply_in (spaced (reply_words m r)) ≡ Ok r
unfolding rest_reply_in reason_of
rest_reply_back m (reply.Rested reason.Clear) h = rw (word_back (codes "clear") [] refl) refl
rest_reply_back m (reply.Rested reason.Spent) h = rw (word_back (codes "spent") [] refl) refl
rest_reply_back m (reply.Rested reason.Stuck) h = rw (word_back (codes "stuck") [] refl) refl
rest_reply_back m _ h = absurd h

commit_reply_read : (w : List ℕ) (ws : List (List ℕ)) → plain w ≡ true → commit_reply_in (spaced (w ∷ ws)) ≡ commit_reply_by w (spaced ws)
unfolding commit_reply_in
commit_reply_read w ws h = rw (word_back w ws h) refl

held_back : (k : Conflict) → IsConflictInRange k → held_in (spaced (conflict_words k)) ≡ Ok (reply.Held k)
unfolding held_in
held_back k h = rw (conflict_back k [] h) refl

commit_reply_back : (m : Model) (r : Reply) → IsCommitReply r → commit_reply_in (spaced (reply_words m r)) ≡ Ok r
unfolding commit_reply_by
commit_reply_back m reply.Done h = commit_reply_read (codes "ok") [] refl
commit_reply_back m reply.CommitBehind h = commit_reply_read (codes "behind") [] refl
commit_reply_back m reply.CommitBeyond h = commit_reply_read (codes "beyond") [] refl
commit_reply_back m (reply.Held k) h = commit_reply_read (codes "held") (conflict_words k) refl ∙ held_back k h
commit_reply_back m _ h = absurd h

sent_by : (m : Model) (id kind start : ℕ) (values : List (Option ℤ)) (k : Kind) → AreTold m → slice_get m.kinds kind ≡ Some k → IsSent id start values (Some k) → sent_in m (spaced (command_words m id kind start values)) ≡ Ok (reply.Sent id kind start values)
unfolding sent_in
sent_by m id kind start values k told e h =
    let is = kind_back m kind k told e in
    let ws = values_words (kind_params m kind) values in
    let many : length values ≡ length (kind_params m kind) = rw is.params h.2 in
    let back = values_back (kind_params m kind) values many (told.params kind) (told.params_plain kind) h.3 in
    let valued : values_in k.params (spaced ws) ≡ values = ap (λ ps. values_in ps (spaced ws)) (sym is.params) ∙ back in
    rw (count_read id (kind_name m kind ∷ decimal start ∷ ws) h.0, word_back (kind_name m kind) (decimal start ∷ ws) (told.kind_plain kind), is.found, count_read start ws h.1)
    (ap (λ (vs : List (Option ℤ)). let r : Read Reply = Ok (reply.Sent id kind start vs) in r) valued)

sent_back : (m : Model) (r : Reply) → AreTold m → IsDispatchReply m r → sent_in m (spaced (reply_words m r)) ≡ Ok r
sent_back m (reply.Sent id kind start values) told h = by_kind (slice_get m.kinds kind) refl h.1
  where
    by_kind : (k : Option Kind) → slice_get m.kinds kind ≡ k → IsSent id start values k → sent_in m (spaced (command_words m id kind start values)) ≡ Ok (reply.Sent id kind start values)
    by_kind None e none = absurd none
    by_kind (Some k) e some = sent_by m id kind start values k told e some
sent_back m _ told h = absurd h

-- ---- openings and messages

options_back : (o : Options) → AreOptions o → options_in (spaced (codes "turns" ∷ decimal o.turns ∷ codes "live" ∷ decimal o.live ∷ codes "goals" ∷ decimal o.goals ∷ codes "entries" ∷ decimal o.entries ∷ [])) ≡ Ok o
unfolding options_in
options_back o h =
    let after_goals = codes "entries" ∷ decimal o.entries ∷ [] in
    let after_live = codes "goals" ∷ decimal o.goals ∷ after_goals in
    let after_turns = codes "live" ∷ decimal o.live ∷ after_live in
    rw (
      labelled_back (codes "turns") o.turns after_turns refl (omega (arith, h.turns.1)),
      labelled_back (codes "live") o.live after_live refl (omega (arith, h.live.1)),
      labelled_back (codes "goals") o.goals after_goals refl (omega (arith, h.goals.1)),
      labelled_back (codes "entries") o.entries [] refl (omega (arith, h.entries.1)),
    ) refl

are_within : (o : Options) → AreOptions o → are_options o ≡ true
are_within o h =
    rw (
      le-leb 1 o.turns h.turns.0,
      le-leb o.turns 1000 h.turns.1,
      le-leb 1 o.live h.live.0,
      le-leb o.live 10000 h.live.1,
      le-leb 1 o.goals h.goals.0,
      le-leb o.goals 20000 h.goals.1,
      le-leb 1 o.entries h.entries.0,
      le-leb o.entries 250000 h.entries.1,
    ) refl

opening_back : (o : Options) → AreOptions o → opening_in (spaced (codes "turns" ∷ decimal o.turns ∷ codes "live" ∷ decimal o.live ∷ codes "goals" ∷ decimal o.goals ∷ codes "entries" ∷ decimal o.entries ∷ [])) ≡ Ok (answered (event.Opened o) reply.Done)
unfolding opening_in
opening_back o h = rw (options_back o h, are_within o h) refl

message_back : (line : List ℕ) → message_in (spaced (line ∷ [])) ≡ Ok line
unfolding spaced
message_back line = ap (λ (x : List ℕ). message_in (32 ∷ x)) (append-nil line)

input_read : (w line : List ℕ) (r : Reply) → plain w ≡ true → bytes_eq w (codes "eof") ≡ false → input_reply w ≡ Ok r → input_in (spaced (w ∷ codes ":" ∷ line ∷ [])) ≡ Ok (answered (event.Input (Some line)) r)
unfolding input_in input_by
input_read w line r p e answer =
    rw (word_back w (codes ":" ∷ line ∷ []) p, e, answer, said_back (codes ":") (line ∷ []) refl, message_back line) refl

input_back : (m : Model) (line : List ℕ) (r : Reply) → IsInputReply r → input_in (spaced (reply_words m r ++ codes ":" ∷ line ∷ [])) ≡ Ok (answered (event.Input (Some line)) r)
unfolding input_reply plan_reply
input_back m line reply.Done hr = input_read (codes "ok") line reply.Done refl refl refl
input_back m line reply.Ended hr = input_read (codes "end") line reply.Ended refl refl refl
input_back m line reply.BadLine hr = input_read (codes "bad-line") line reply.BadLine refl refl refl
input_back m line reply.UnknownName hr = input_read (codes "unknown-name") line reply.UnknownName refl refl refl
input_back m line reply.Range hr = input_read (codes "range") line reply.Range refl refl refl
input_back m line reply.DuplicateGoal hr = input_read (codes "duplicate-goal") line reply.DuplicateGoal refl refl refl
input_back m line reply.TooLate hr = input_read (codes "too-late") line reply.TooLate refl refl refl
input_back m line reply.TickBack hr = input_read (codes "tick-back") line reply.TickBack refl refl refl
input_back m line reply.TickBeyond hr = input_read (codes "tick-beyond") line reply.TickBeyond refl refl refl
input_back m line reply.TooManyGoals hr = input_read (codes "too-many-goals") line reply.TooManyGoals refl refl refl
input_back m line reply.NotBegun hr = input_read (codes "not-begun") line reply.NotBegun refl refl refl
input_back m line reply.EndBack hr = input_read (codes "end-back") line reply.EndBack refl refl refl
input_back m line _ hr = absurd hr

eof_back : input_in (spaced (codes "eof" ∷ [])) ≡ Ok (answered (event.Input None) reply.Ended)
unfolding input_in
eof_back = rw (word_back (codes "eof") [] refl) refl

-- ---- the others

fix_back : (m : Model) (k : Conflict) (move : RepairMove) (r : Reply) → AreTold m → IsConflictInRange k → IsMoveInRange m move → IsFixReply r → fix_in m (spaced (conflict_words k ++ codes "by" ∷ (move_words m move ++ codes ":" ∷ reply_words m r))) ≡ Ok (answered (event.Fix k move) r)
unfolding fix_in
fix_back m k move r told hk hm hr =
    let answer = codes ":" ∷ reply_words m r in
    rw (
      conflict_back k (codes "by" ∷ (move_words m move ++ answer)) hk,
      said_back (codes "by") (move_words m move ++ answer) refl,
      move_by_back m move (reply_words m r) told hm,
      said_back (codes ":") (reply_words m r) refl,
      fix_reply_back m r hr,
    ) refl

rested_back : (m : Model) (r : Reply) → IsRestReply r → rested_in (spaced (reply_words m r)) ≡ Ok (answered event.Rest r)
unfolding rested_in
rested_back m r h = rw (rest_reply_back m r h) refl

commit_back : (m : Model) (h : ℕ) (r : Reply) → h < 2 ^ 32 → IsCommitReply r → commit_in (spaced (decimal h ∷ codes ":" ∷ reply_words m r)) ≡ Ok (answered (event.Commit h) r)
unfolding commit_in
commit_back m h r fits hr =
    rw (count_read h (codes ":" ∷ reply_words m r) fits, said_back (codes ":") (reply_words m r) refl, commit_reply_back m r hr) refl

dispatch_back : (m : Model) (r : Reply) → AreTold m → IsDispatchReply m r → dispatch_in m (spaced (reply_words m r)) ≡ Ok (answered event.Dispatch r)
unfolding dispatch_in
dispatch_back m r told h = rw (sent_back m r told h) refl

entry_read : (m : Model) (w : List ℕ) (ws : List (List ℕ)) → plain w ≡ true → entry_in m (spaced (w ∷ ws)) ≡ entry_by m w (spaced ws)
unfolding entry_in
entry_read m w ws h = rw (word_back w ws h) refl

entry_back : (m : Model) (e : Event) (r : Reply) → AreTold m → IsEventInRange m e → IsReplyTo m e r → entry_in m (spaced (event_words m e r)) ≡ Ok (answered e r)
unfolding entry_by
entry_back m (event.Opened o) r told h hr =
    entry_read m (codes "open") (codes "turns" ∷ decimal o.turns ∷ codes "live" ∷ decimal o.live ∷ codes "goals" ∷ decimal o.goals ∷ codes "entries" ∷ decimal o.entries ∷ []) refl
    ∙ opening_back o h ∙ ap (λ (x : Reply). let entry : Read Entry = Ok (answered (event.Opened o) x) in entry) (sym hr)
entry_back m (event.Input None) r told h hr =
    entry_read m (codes "in") (codes "eof" ∷ []) refl ∙ eof_back ∙ ap (λ (x : Reply). let entry : Read Entry = Ok (answered (event.Input None) x) in entry) (sym hr)
entry_back m (event.Input (Some line)) r told h hr =
    entry_read m (codes "in") (reply_words m r ++ codes ":" ∷ line ∷ []) refl ∙ input_back m line r hr
entry_back m (event.Fix k move) r told h hr =
    entry_read m (codes "fix") (conflict_words k ++ codes "by" ∷ (move_words m move ++ codes ":" ∷ reply_words m r)) refl ∙ fix_back m k move r told h.0 h.1 hr
entry_back m event.Rest r told h hr = entry_read m (codes "rest") (reply_words m r) refl ∙ rested_back m r hr
entry_back m (event.Commit moment) r told h hr =
    entry_read m (codes "commit") (decimal moment ∷ codes ":" ∷ reply_words m r) refl ∙ commit_back m moment r h hr
entry_back m event.Dispatch r told h hr = entry_read m (codes "dispatch") (reply_words m r) refl ∙ dispatch_back m r told hr
entry_back m event.Close r told h hr =
    entry_read m (codes "close") [] refl ∙ ap (λ (x : Reply). let entry : Read Entry = Ok (answered event.Close x) in entry) (sym hr)

pub candidate_back : (m : Model) (n : ℕ) (e : Entry) → AreTold m → n < 2 ^ 32 → IsEventInRange m e.event → IsReplyTo m e.event e.reply → candidate_in m (text_of m n e) ≡ Ok (n, e)
unfolding candidate_in text_of
candidate_back m n e told fits he hr =
    let ws = event_words m e.event e.reply in
    let lacking = lacks_plain 32 (decimal n) (omega arith) (plain-decimal n) in
    rw (before_word (decimal n) ws lacking, rest_from_word (decimal n) ws lacking, count_back n fits, entry_back m e.event e.reply told he hr) refl
