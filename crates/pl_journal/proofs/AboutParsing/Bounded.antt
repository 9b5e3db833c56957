-- What is read of a line is within the bounds of an entry.
use Rattle.std.proofs.Common.{◌≡◌, ℕ, suc, ℤ, ◌<◌, ◌≤◌, ◌^◌, true, cond, ◌&&◌, leb, List, [], ◌∷◌, length, drop, Option, Some, None, Ok, Err, refl, sym, ap, subst, arith}
use Rattle.std.specs.Prelude.{bytes_eq, codes, slice_get, IfSome, IfOk}
use Rattle.std.specs.List.{AllByRecursion}
use Rattle.std.proofs.lemmas.List.Elements.{All-from_recursion}
use Rattle.std.proofs.lemmas.Bool.{leb-true, and_parts}
use Rattle.pl_lists.specs.Judgements.{◌>>=◌}
use Rattle.pl_model.specs.declared.parameters.Param.{Param}
use Rattle.pl_model.specs.declared.kinds.Kind.{Kind}
use Rattle.pl_model.specs.declared.whole.Model.{Model}
use Rattle.pl_model.specs.Checked.{IsAmount}
use Rattle.pl_conflict.specs.declared.conflict.Conflict.{Conflict}
use Rattle.pl_facts.specs.declared.options.Options.{Options}
use Rattle.pl_plan.specs.declared.repair.RepairMove.{RepairMove}
use Rattle.pl_entry.specs.declared.event.Event.{Event}
use Rattle.pl_entry.specs.declared.event.Event.TheVariants as event
use Rattle.pl_entry.specs.declared.reply.Reply.{Reply}
use Rattle.pl_entry.specs.declared.reply.Reply.TheVariants as reply
use Rattle.pl_entry.specs.declared.reply.Reason.{Reason}
use Rattle.pl_entry.specs.declared.entry.Entry.{Entry}
use Rattle.pl_entry.specs.Bounds.{IsWord, IsConflictInRange, IsMoveInRange, AreOptions, IsEventInRange, IsInputReply, IsFixReply, IsRestReply, IsCommitReply, IsSent, IsDispatchReply, IsReplyTo, IsNumberOf, IsJournalEntry}
use Rattle.pl_journal.specs.declared.parsing.fault.EntryFault.TheVariants as fault
use Rattle.pl_journal.specs.Parsing.Reads.{Read}
use Rattle.pl_journal.specs.Parsing.Words.{count_of, count_in, said_in, word_in, amount_of, before, rest_from}
use Rattle.pl_journal.specs.Parsing.Moves.{conflict_in, kind_named, move_in}
use Rattle.pl_journal.specs.Parsing.Replies.{plan_reply, input_reply, locked_in, behind_in, beyond_in, fix_reply_by, fix_reply_in, reason_of, rest_reply_in, held_in, commit_reply_by, commit_reply_in, value_of, given_or, named_value, value_at, values_in, sent_in}
use Rattle.pl_journal.specs.Parsing.Entries.{answered, options_in, is_from_1_to, are_options, opening_in, message_in, input_by, input_in, fix_in, rested_in, commit_in, dispatch_in, entry_by, entry_in, candidate_in, MayStand}
use Rattle.pl_journal.proofs.AboutParsing.BoundedMoves.{chain, whatever, choice, count_of_fits, amount_fits, counted, ConflictFits, conflict_fits, KindIs, kind_is, got_within, MovesWithin, AmountFits, move_fits}

-- ---- replies

plan_reply_fits : (word : List ℕ) → IfOk (plan_reply word) IsInputReply
unfolding plan_reply
plan_reply_fits word =
    choice (bytes_eq word (codes "duplicate-goal")) (Ok reply.DuplicateGoal) _ IsInputReply (λ e. tt)
    (choice (bytes_eq word (codes "too-late")) (Ok reply.TooLate) _ IsInputReply (λ e. tt)
    (choice (bytes_eq word (codes "tick-back")) (Ok reply.TickBack) _ IsInputReply (λ e. tt)
    (choice (bytes_eq word (codes "tick-beyond")) (Ok reply.TickBeyond) _ IsInputReply (λ e. tt)
    (choice (bytes_eq word (codes "too-many-goals")) (Ok reply.TooManyGoals) _ IsInputReply (λ e. tt)
    (choice (bytes_eq word (codes "not-begun")) (Ok reply.NotBegun) _ IsInputReply (λ e. tt)
    (choice (bytes_eq word (codes "end-back")) (Ok reply.EndBack) (Err fault.NotALine) IsInputReply (λ e. tt) tt))))))

input_reply_fits : (word : List ℕ) → IfOk (input_reply word) IsInputReply
unfolding input_reply
input_reply_fits word =
    choice (bytes_eq word (codes "ok")) (Ok reply.Done) _ IsInputReply (λ e. tt)
    (choice (bytes_eq word (codes "end")) (Ok reply.Ended) _ IsInputReply (λ e. tt)
    (choice (bytes_eq word (codes "bad-line")) (Ok reply.BadLine) _ IsInputReply (λ e. tt)
    (choice (bytes_eq word (codes "unknown-name")) (Ok reply.UnknownName) _ IsInputReply (λ e. tt)
    (choice (bytes_eq word (codes "range")) (Ok reply.Range) (plan_reply word) IsInputReply (λ e. tt) (plan_reply_fits word)))))

abbrev locked_by : ℕ × List ℕ → Read Reply
locked_by id = Ok (reply.Locked id.0)

abbrev behind_by : ℕ × List ℕ → Read Reply
behind_by id = Ok (reply.Behind id.0)

abbrev beyond_by : ℕ × List ℕ → Read Reply
beyond_by id = Ok (reply.Beyond id.0)

locked_fits : (text : List ℕ) → IfOk (locked_in text) IsFixReply
unfolding locked_in
locked_fits text = counted text locked_by IsFixReply (λ id rest fits. fits)

behind_fits : (text : List ℕ) → IfOk (behind_in text) IsFixReply
unfolding behind_in
behind_fits text = counted text behind_by IsFixReply (λ id rest fits. fits)

beyond_fits : (text : List ℕ) → IfOk (beyond_in text) IsFixReply
unfolding beyond_in
beyond_fits text = counted text beyond_by IsFixReply (λ id rest fits. fits)

fix_reply_by_fits : (word text : List ℕ) → IfOk (fix_reply_by word text) IsFixReply
unfolding fix_reply_by
fix_reply_by_fits word text =
    choice (bytes_eq word (codes "ok")) (Ok reply.Done) _ IsFixReply (λ e. tt)
    (choice (bytes_eq word (codes "stale")) (Ok reply.Stale) _ IsFixReply (λ e. tt)
    (choice (bytes_eq word (codes "not-for")) (Ok reply.NotFor) _ IsFixReply (λ e. tt)
    (choice (bytes_eq word (codes "locked")) (locked_in text) _ IsFixReply (λ e. locked_fits text)
    (choice (bytes_eq word (codes "behind")) (behind_in text) _ IsFixReply (λ e. behind_fits text)
    (choice (bytes_eq word (codes "beyond")) (beyond_in text) _ IsFixReply (λ e. beyond_fits text)
    (choice (bytes_eq word (codes "full")) (Ok reply.Full) (Err fault.NotALine) IsFixReply (λ e. tt) tt))))))

abbrev fix_word : List ℕ × List ℕ → Read Reply
fix_word w = fix_reply_by w.0 w.1

fix_reply_fits : (text : List ℕ) → IfOk (fix_reply_in text) IsFixReply
unfolding fix_reply_in
fix_reply_fits text = whatever (word_in text) fix_word IsFixReply (λ w. fix_reply_by_fits w.0 w.1)

abbrev rest_reason : Reason → Read Reply
rest_reason why = Ok (reply.Rested why)

abbrev rest_word : List ℕ × List ℕ → Read Reply
rest_word w = reason_of w.0 >>= rest_reason

rest_reply_fits : (text : List ℕ) → IfOk (rest_reply_in text) IsRestReply
unfolding rest_reply_in
rest_reply_fits text = whatever (word_in text) rest_word IsRestReply (λ w. whatever (reason_of w.0) rest_reason IsRestReply (λ why. tt))

abbrev held_by : Conflict × List ℕ → Read Reply
held_by k = Ok (reply.Held k.0)

held_fits : (text : List ℕ) → IfOk (held_in text) IsCommitReply
unfolding held_in
held_fits text = chain (conflict_in text) held_by ConflictFits IsCommitReply (conflict_fits text) (λ k fits. fits)

commit_reply_by_fits : (word text : List ℕ) → IfOk (commit_reply_by word text) IsCommitReply
unfolding commit_reply_by
commit_reply_by_fits word text =
    choice (bytes_eq word (codes "ok")) (Ok reply.Done) _ IsCommitReply (λ e. tt)
    (choice (bytes_eq word (codes "behind")) (Ok reply.CommitBehind) _ IsCommitReply (λ e. tt)
    (choice (bytes_eq word (codes "beyond")) (Ok reply.CommitBeyond) _ IsCommitReply (λ e. tt)
    (choice (bytes_eq word (codes "held")) (held_in text) (Err fault.NotALine) IsCommitReply (λ e. held_fits text) tt)))

abbrev commit_word : List ℕ × List ℕ → Read Reply
commit_word w = commit_reply_by w.0 w.1

commit_reply_fits : (text : List ℕ) → IfOk (commit_reply_in text) IsCommitReply
unfolding commit_reply_in
commit_reply_fits text = whatever (word_in text) commit_word IsCommitReply (λ w. commit_reply_by_fits w.0 w.1)

-- ---- values

abbrev IsAmountIf : Option ℤ → Type 0
IsAmountIf v = IfSome v IsAmount

given_fits : (text : List ℕ) (r : Read (ℤ × List ℕ)) → IfOk r AmountFits → IsAmountIf (given_or text r).0
given_fits text (Ok v) h = h
given_fits text (Err e) h = tt

value_of_fits : (name word : List ℕ) → IfOk (value_of name word) IsAmount
unfolding value_of
value_of_fits name word =
    choice (bytes_eq (before 61 word) name) (amount_of (drop 1 (rest_from 61 word))) (Err fault.NotALine) IsAmount (λ e. amount_fits (drop 1 (rest_from 61 word))) tt

abbrev with_text : List ℕ → ℤ → Read (ℤ × List ℕ)
with_text text value = Ok (value, text)

abbrev value_word_in : List ℕ → List ℕ × List ℕ → Read (ℤ × List ℕ)
value_word_in name w = value_of name w.0 >>= with_text w.1

value_fits : (name text : List ℕ) → IsAmountIf (value_at name text).0
unfolding value_at
value_fits name text =
    given_fits text (named_value name text)
    (whatever (word_in text) (value_word_in name) AmountFits (λ w. chain (value_of name w.0) (with_text w.1) IsAmount AmountFits (value_of_fits name w.0) (λ value fits. fits)))

values_fit : (ps : List Param) (text : List ℕ) → (length (values_in ps text) ≡ length ps) × AllByRecursion IsAmountIf (values_in ps text)
values_fit [] text = (refl, tt)
values_fit (p ∷ ps) text =
    let more = values_fit ps (value_at p.name text).1 in
    (ap (λ (n : ℕ). suc n) more.0, (value_fits p.name text, more.1))

abbrev sent_start : ℕ → ℕ × Kind → ℕ × List ℕ → Read Reply
sent_start id kind start = Ok (reply.Sent id kind.0 start.0 (values_in kind.1.params start.1))

abbrev sent_kind : ℕ → List ℕ → ℕ × Kind → Read Reply
sent_kind id rest kind = count_in rest >>= sent_start id kind

abbrev sent_name : Model → ℕ → List ℕ × List ℕ → Read Reply
sent_name m id name = kind_named m name.0 >>= sent_kind id name.1

abbrev sent_id : Model → ℕ × List ℕ → Read Reply
sent_id m id = word_in id.1 >>= sent_name m id.0

sent_within : (m : Model) (id start : ℕ) (kind : ℕ × Kind) (rest : List ℕ) → length m.kinds ≤ 2 ^ 32 → slice_get m.kinds kind.0 ≡ Some kind.1 → IsWord id → IsWord start → IsDispatchReply m (reply.Sent id kind.0 start (values_in kind.1.params rest))
sent_within m id start kind rest few there id_fits start_fits =
    let within : kind.0 < length m.kinds = got_within m.kinds kind.0 kind.1 there in
    let valued = values_fit kind.1.params rest in
    let sent : IsSent id start (values_in kind.1.params rest) (Some kind.1) = (id_fits, start_fits, valued.0, All-from_recursion IsAmountIf (values_in kind.1.params rest) valued.1) in
    (omega arith, subst (λ (k : Option Kind). IsSent id start (values_in kind.1.params rest) k) (sym there) sent)

sent_fits : (m : Model) (text : List ℕ) → length m.kinds ≤ 2 ^ 32 → IfOk (sent_in m text) (IsDispatchReply m)
unfolding sent_in
sent_fits m text few =
    counted text (sent_id m) (IsDispatchReply m) (λ id after_id id_fits.
    whatever (word_in after_id) (sent_name m id) (IsDispatchReply m) (λ name.
    chain (kind_named m name.0) (sent_kind id name.1) (KindIs m) (IsDispatchReply m) (kind_is m name.0) (λ kind there.
    counted name.1 (sent_start id kind) (IsDispatchReply m) (λ start rest start_fits. sent_within m id start kind rest few there id_fits start_fits))))

-- ---- entries

-- but for what holds of a message
abbrev pub EventRead : Model → Event → Type 0
EventRead m (event.Opened o) = AreOptions o
EventRead m (event.Input line) = Unit {0}
EventRead m (event.Fix k move) = IsConflictInRange k × IsMoveInRange m move
EventRead m event.Rest = Unit {0}
EventRead m (event.Commit h) = IsWord h
EventRead m event.Dispatch = Unit {0}
EventRead m event.Close = Unit {0}

pub record IsRead (m : Model) (e : Entry) : Type 0 where
  pub event : EventRead m e.event
  pub reply : IsReplyTo m e.event e.reply

are_within : (o : Options) → are_options o ≡ true → AreOptions o
are_within o h =
    let turns = and_parts (is_from_1_to 1000 o.turns) (is_from_1_to 10000 o.live && (is_from_1_to 20000 o.goals && is_from_1_to 250000 o.entries)) h in
    let live = and_parts (is_from_1_to 10000 o.live) (is_from_1_to 20000 o.goals && is_from_1_to 250000 o.entries) turns.1 in
    let goals = and_parts (is_from_1_to 20000 o.goals) (is_from_1_to 250000 o.entries) live.1 in
    record { turns = both 1000 o.turns turns.0; live = both 10000 o.live live.0; goals = both 20000 o.goals goals.0; entries = both 250000 o.entries goals.1 }
  where
    both : (most n : ℕ) → is_from_1_to most n ≡ true → (1 ≤ n) × (n ≤ most)
    both most n e = let p = and_parts (leb 1 n) (leb n most) e in (leb-true 1 n p.0, leb-true n most p.1)

abbrev opened_with : Options → Read Entry
opened_with o = cond (are_options o) (Ok (answered (event.Opened o) reply.Done)) (Err fault.NotALine)

opening_fits : (m : Model) (text : List ℕ) → IfOk (opening_in text) (IsRead m)
unfolding opening_in
opening_fits m text =
    whatever (options_in text) opened_with (IsRead m) (λ o.
    choice (are_options o) (Ok (answered (event.Opened o) reply.Done)) (Err fault.NotALine) (IsRead m) (λ e. record { event = are_within o e; reply = refl }) tt)

abbrev input_line : Reply → List ℕ → Read Entry
input_line r line = Ok (answered (event.Input (Some line)) r)

abbrev input_rest : Reply → List ℕ → Read Entry
input_rest r rest = message_in rest >>= input_line r

abbrev input_answer : List ℕ → Reply → Read Entry
input_answer text r = said_in (codes ":") text >>= input_rest r

input_by_fits : (m : Model) (word text : List ℕ) → IfOk (input_by word text) (IsRead m)
unfolding input_by
input_by_fits m word text =
    chain (input_reply word) (input_answer text) IsInputReply (IsRead m) (input_reply_fits word) (λ r fits.
    whatever (said_in (codes ":") text) (input_rest r) (IsRead m) (λ rest.
    whatever (message_in rest) (input_line r) (IsRead m) (λ line. record { event = tt; reply = fits })))

abbrev input_word : List ℕ × List ℕ → Read Entry
input_word w = cond (bytes_eq w.0 (codes "eof")) (Ok (answered (event.Input None) reply.Ended)) (input_by w.0 w.1)

input_fits : (m : Model) (text : List ℕ) → IfOk (input_in text) (IsRead m)
unfolding input_in
input_fits m text =
    whatever (word_in text) input_word (IsRead m) (λ w.
    choice (bytes_eq w.0 (codes "eof")) (Ok (answered (event.Input None) reply.Ended)) (input_by w.0 w.1) (IsRead m) (λ e. record { event = tt; reply = refl }) (input_by_fits m w.0 w.1))

abbrev fix_answer : Conflict → RepairMove → Reply → Read Entry
fix_answer k move r = Ok (answered (event.Fix k move) r)

abbrev fix_rest : Conflict → RepairMove → List ℕ → Read Entry
fix_rest k move rest = fix_reply_in rest >>= fix_answer k move

abbrev fix_move : Conflict → RepairMove × List ℕ → Read Entry
fix_move k move = said_in (codes ":") move.1 >>= fix_rest k move.0

abbrev fix_behind : Model → Conflict → List ℕ → Read Entry
fix_behind m k rest = move_in m rest >>= fix_move k

abbrev fix_conflict : Model → Conflict × List ℕ → Read Entry
fix_conflict m k = said_in (codes "by") k.1 >>= fix_behind m k.0

fix_fits : (m : Model) (text : List ℕ) → length m.kinds ≤ 2 ^ 32 → IfOk (fix_in m text) (IsRead m)
unfolding fix_in
fix_fits m text few =
    chain (conflict_in text) (fix_conflict m) ConflictFits (IsRead m) (conflict_fits text) (λ k k_fits.
    whatever (said_in (codes "by") k.1) (fix_behind m k.0) (IsRead m) (λ rest.
    chain (move_in m rest) (fix_move k.0) (MovesWithin m) (IsRead m) (move_fits m rest few) (λ move within.
    whatever (said_in (codes ":") move.1) (fix_rest k.0 move.0) (IsRead m) (λ more.
    chain (fix_reply_in more) (fix_answer k.0 move.0) IsFixReply (IsRead m) (fix_reply_fits more) (λ r fits. record { event = (k_fits, within); reply = fits })))))

abbrev rest_answer : Reply → Read Entry
rest_answer r = Ok (answered event.Rest r)

rested_fits : (m : Model) (text : List ℕ) → IfOk (rested_in text) (IsRead m)
unfolding rested_in
rested_fits m text = chain (rest_reply_in text) rest_answer IsRestReply (IsRead m) (rest_reply_fits text) (λ r fits. record { event = tt; reply = fits })

abbrev commit_answer : ℕ → Reply → Read Entry
commit_answer h r = Ok (answered (event.Commit h) r)

abbrev commit_rest : ℕ → List ℕ → Read Entry
commit_rest h rest = commit_reply_in rest >>= commit_answer h

abbrev commit_moment : ℕ × List ℕ → Read Entry
commit_moment h = said_in (codes ":") h.1 >>= commit_rest h.0

commit_fits : (m : Model) (text : List ℕ) → IfOk (commit_in text) (IsRead m)
unfolding commit_in
commit_fits m text =
    counted text commit_moment (IsRead m) (λ h after_h h_fits.
    whatever (said_in (codes ":") after_h) (commit_rest h) (IsRead m) (λ rest.
    chain (commit_reply_in rest) (commit_answer h) IsCommitReply (IsRead m) (commit_reply_fits rest) (λ r fits. record { event = h_fits; reply = fits })))

abbrev dispatch_answer : Reply → Read Entry
dispatch_answer r = Ok (answered event.Dispatch r)

dispatch_fits : (m : Model) (text : List ℕ) → length m.kinds ≤ 2 ^ 32 → IfOk (dispatch_in m text) (IsRead m)
unfolding dispatch_in
dispatch_fits m text few = chain (sent_in m text) dispatch_answer (IsDispatchReply m) (IsRead m) (sent_fits m text few) (λ r fits. record { event = tt; reply = fits })

entry_by_fits : (m : Model) (word text : List ℕ) → length m.kinds ≤ 2 ^ 32 → IfOk (entry_by m word text) (IsRead m)
unfolding entry_by
entry_by_fits m word text few =
    choice (bytes_eq word (codes "open")) (opening_in text) _ (IsRead m) (λ e. opening_fits m text)
    (choice (bytes_eq word (codes "in")) (input_in text) _ (IsRead m) (λ e. input_fits m text)
    (choice (bytes_eq word (codes "fix")) (fix_in m text) _ (IsRead m) (λ e. fix_fits m text few)
    (choice (bytes_eq word (codes "rest")) (rested_in text) _ (IsRead m) (λ e. rested_fits m text)
    (choice (bytes_eq word (codes "commit")) (commit_in text) _ (IsRead m) (λ e. commit_fits m text)
    (choice (bytes_eq word (codes "dispatch")) (dispatch_in m text) _ (IsRead m) (λ e. dispatch_fits m text few)
    (choice (bytes_eq word (codes "close")) (Ok (answered event.Close reply.Done)) (Err fault.NotALine) (IsRead m) (λ e. record { event = tt; reply = refl }) tt))))))

abbrev entry_word : Model → List ℕ × List ℕ → Read Entry
entry_word m w = entry_by m w.0 w.1

entry_fits : (m : Model) (text : List ℕ) → length m.kinds ≤ 2 ^ 32 → IfOk (entry_in m text) (IsRead m)
unfolding entry_in
entry_fits m text few = whatever (word_in text) (entry_word m) (IsRead m) (λ w. entry_by_fits m w.0 w.1 few)

abbrev CandidateFits : Model → ℕ × Entry → Type 0
CandidateFits m p = IsWord p.0 × IsRead m p.1

abbrev with_number : ℕ → Entry → Read (ℕ × Entry)
with_number n e = Ok (n, e)

abbrev candidate_behind : Model → List ℕ → ℕ → Read (ℕ × Entry)
candidate_behind m rest n = entry_in m rest >>= with_number n

pub candidate_fits : (m : Model) (line : List ℕ) → length m.kinds ≤ 2 ^ 32 → IfOk (candidate_in m line) (λ p. IsWord p.0 × IsRead m p.1)
unfolding candidate_in
candidate_fits m line few =
    chain (count_of (before 32 line)) (candidate_behind m (rest_from 32 line)) IsWord (CandidateFits m) (count_of_fits (before 32 line)) (λ n n_fits.
    chain (entry_in m (rest_from 32 line)) (with_number n) (IsRead m) (CandidateFits m) (entry_fits m (rest_from 32 line) few) (λ e fits. (n_fits, fits)))

pub may_be_entry : (m : Model) (n : ℕ) (e : Entry) → IsRead m e → MayStand n e.event → IsJournalEntry m n e
may_be_entry m n e read stands = record { numbered = (by_event e.event read.event stands).0; event = (by_event e.event read.event stands).1; reply = read.reply }
  where
    by_event : (v : Event) → EventRead m v → MayStand n v → IsNumberOf n v × IsEventInRange m v
    by_event (event.Opened o) h s = (s, h)
    by_event (event.Input line) h s = (s.0, s.1)
    by_event (event.Fix k move) h s = (s, h)
    by_event event.Rest h s = (s, h)
    by_event (event.Commit t) h s = (s, h)
    by_event event.Dispatch h s = (s, h)
    by_event event.Close h s = (s, h)

pub entry_may : (m : Model) (n : ℕ) (e : Entry) → IsJournalEntry m n e → MayStand n e.event
entry_may m n e h = by_event e.event h.numbered h.event
  where
    by_event : (v : Event) → IsNumberOf n v → IsEventInRange m v → MayStand n v
    by_event (event.Opened o) number range = number
    by_event (event.Input line) number range = (number, range)
    by_event (event.Fix k move) number range = number
    by_event event.Rest number range = number
    by_event (event.Commit t) number range = number
    by_event event.Dispatch number range = number
    by_event event.Close number range = number
