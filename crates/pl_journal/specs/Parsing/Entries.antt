-- The entry that a line may be of: what comes of reading it from its first byte on.
use Rattle.std.specs.Prelude.{◌≡◌, ◌≤◌, ℕ, nat_le, ◌==◌, ◌&&◌, Bool, List, [], ◌∷◌, Some, None, IfSome, if◌then◌else◌, bytes_eq, codes, Ok, Err}
use Rattle.pl_lists.specs.Judgements.{◌>>=◌}
use Rattle.pl_model.specs.declared.whole.Model.{Model}
use Rattle.pl_facts.specs.declared.options.Options.{Options}
use Rattle.pl_entry.specs.declared.event.Event.{Event}
use Rattle.pl_entry.specs.declared.event.Event.TheVariants as event
use Rattle.pl_entry.specs.declared.reply.Reply.{Reply}
use Rattle.pl_entry.specs.declared.reply.Reply.TheVariants as reply
use Rattle.pl_entry.specs.declared.entry.Entry.{Entry}
use Rattle.pl_entry.specs.Bounds.{IsMessageLine}
use Rattle.pl_journal.specs.Rendering.Lines.{text_of}
use Rattle.pl_journal.specs.declared.parsing.fault.EntryFault.TheVariants as fault
use Rattle.pl_journal.specs.Parsing.Reads.{Read}
use Rattle.pl_journal.specs.Parsing.Words.{before, rest_from, word_in, said_in, count_of, count_in, labelled_in}
use Rattle.pl_journal.specs.Parsing.Moves.{conflict_in, move_in}
use Rattle.pl_journal.specs.Parsing.Replies.{input_reply, fix_reply_in, rest_reply_in, commit_reply_in, sent_in}

abbrev pub answered : Event → Reply → Entry
answered e r = record { event = e; reply = r }

-- ---- openings

unfoldable pub options_in : List ℕ → Read Options
options_in text =
    labelled_in (codes "turns") text >>= λ turns. labelled_in (codes "live") turns.1 >>= λ live. labelled_in (codes "goals") live.1 >>= λ goals. labelled_in (codes "entries") goals.1 >>= λ entries.
    Ok (record { turns = turns.0; live = live.0; goals = goals.0; entries = entries.0 })

abbrev pub is_from_1_to : ℕ → ℕ → Bool
is_from_1_to most n = nat_le 1 n && nat_le n most

abbrev pub are_options : Options → Bool
are_options o = is_from_1_to 1000 o.turns && (is_from_1_to 10000 o.live && (is_from_1_to 20000 o.goals && is_from_1_to 250000 o.entries))

unfoldable pub opening_in : List ℕ → Read Entry
opening_in text = options_in text >>= λ o. if are_options o then Ok (answered (event.Opened o) reply.Done) else Err fault.NotALine

-- ---- messages

abbrev pub cut_message : ℕ → List ℕ → Read (List ℕ)
cut_message byte text = if byte == 32 then Ok text else Err fault.NotALine

-- all that is behind the blank that the text begins with
abbrev pub message_in : List ℕ → Read (List ℕ)
message_in [] = Err fault.NotALine
message_in (byte ∷ text) = cut_message byte text

unfoldable pub input_by : List ℕ → List ℕ → Read Entry
input_by word text = input_reply word >>= λ r. said_in (codes ":") text >>= λ rest. message_in rest >>= λ line. Ok (answered (event.Input (Some line)) r)

unfoldable pub input_in : List ℕ → Read Entry
input_in text = word_in text >>= λ w. if bytes_eq w.0 (codes "eof") then Ok (answered (event.Input None) reply.Ended) else input_by w.0 w.1

-- ---- the others

unfoldable pub fix_in : Model → List ℕ → Read Entry
fix_in m text =
    conflict_in text >>= λ k. said_in (codes "by") k.1 >>= λ by. move_in m by >>= λ move. said_in (codes ":") move.1 >>= λ rest. fix_reply_in rest >>= λ r. Ok (answered (event.Fix k.0 move.0) r)

unfoldable pub commit_in : List ℕ → Read Entry
commit_in text = count_in text >>= λ h. said_in (codes ":") h.1 >>= λ rest. commit_reply_in rest >>= λ r. Ok (answered (event.Commit h.0) r)

unfoldable pub rested_in : List ℕ → Read Entry
rested_in text = rest_reply_in text >>= λ r. Ok (answered event.Rest r)

unfoldable pub dispatch_in : Model → List ℕ → Read Entry
dispatch_in m text = sent_in m text >>= λ r. Ok (answered event.Dispatch r)

-- by its first word
unfoldable pub entry_by : Model → List ℕ → List ℕ → Read Entry
entry_by m word text =
    if bytes_eq word (codes "open") then opening_in text
    else if bytes_eq word (codes "in") then input_in text
    else if bytes_eq word (codes "fix") then fix_in m text
    else if bytes_eq word (codes "rest") then rested_in text
    else if bytes_eq word (codes "commit") then commit_in text
    else if bytes_eq word (codes "dispatch") then dispatch_in m text
    else if bytes_eq word (codes "close") then Ok (answered event.Close reply.Done)
    else Err fault.NotALine

unfoldable pub entry_in : Model → List ℕ → Read Entry
entry_in m text = word_in text >>= λ w. entry_by m w.0 w.1

-- the number and the entry behind it
unfoldable pub candidate_in : Model → List ℕ → Read (ℕ × Entry)
candidate_in m line = count_of (before 32 line) >>= λ n. entry_in m (rest_from 32 line) >>= λ e. Ok (n, e)

-- ---- whether it may stand under its number

-- a message fits its limits, and the opening has the number 0, which no other entry has
abbrev pub MayStand : ℕ → Event → Type 0
MayStand n (event.Opened o) = n ≡ 0
MayStand n (event.Input line) = (1 ≤ n) × IfSome line IsMessageLine
MayStand n _ = 1 ≤ n

-- whether the entry may stand under the number, and the line is its own
abbrev pub Confirms : Model → List ℕ → ℕ → Entry → Read (ℕ × Entry) → Type 0
Confirms m line n e (Ok read) = (read ≡ (n, e)) × MayStand n e.event × (line ≡ text_of m n e)
Confirms m line n e (Err fault.NotALine) = MayStand n e.event → line ≡ text_of m n e → ⊥
Confirms m line n e (Err fault.Memory) = Unit {0}
