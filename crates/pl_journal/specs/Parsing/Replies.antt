-- Replies, by the event that they answer.
use Rattle.std.specs.Prelude.{ℕ, ℤ, List, [], ◌∷◌, Option, Some, None, drop, if◌then◌else◌, bytes_eq, codes, Ok, Err}
use Rattle.pl_lists.specs.Judgements.{◌>>=◌}
use Rattle.pl_model.specs.declared.parameters.Param.{Param}
use Rattle.pl_model.specs.declared.whole.Model.{Model}
use Rattle.pl_entry.specs.declared.reply.Reply.{Reply}
use Rattle.pl_entry.specs.declared.reply.Reply.TheVariants as reply
use Rattle.pl_entry.specs.declared.reply.Reason.{Reason}
use Rattle.pl_entry.specs.declared.reply.Reason.TheVariants as reason
use Rattle.pl_journal.specs.declared.parsing.fault.EntryFault.TheVariants as fault
use Rattle.pl_journal.specs.Parsing.Reads.{Read}
use Rattle.pl_journal.specs.Parsing.Words.{before, rest_from, word_in, count_in, amount_of}
use Rattle.pl_journal.specs.Parsing.Moves.{conflict_in, kind_named}

-- ---- to messages

-- those that the state of the plan gives a message in its form
unfoldable pub plan_reply : List ℕ → Read Reply
plan_reply word =
    if bytes_eq word (codes "duplicate-goal") then Ok reply.DuplicateGoal
    else if bytes_eq word (codes "too-late") then Ok reply.TooLate
    else if bytes_eq word (codes "tick-back") then Ok reply.TickBack
    else if bytes_eq word (codes "tick-beyond") then Ok reply.TickBeyond
    else if bytes_eq word (codes "too-many-goals") then Ok reply.TooManyGoals
    else if bytes_eq word (codes "not-begun") then Ok reply.NotBegun
    else if bytes_eq word (codes "end-back") then Ok reply.EndBack
    else Err fault.NotALine

unfoldable pub input_reply : List ℕ → Read Reply
input_reply word =
    if bytes_eq word (codes "ok") then Ok reply.Done
    else if bytes_eq word (codes "end") then Ok reply.Ended
    else if bytes_eq word (codes "bad-line") then Ok reply.BadLine
    else if bytes_eq word (codes "unknown-name") then Ok reply.UnknownName
    else if bytes_eq word (codes "range") then Ok reply.Range
    else plan_reply word

-- ---- to repairs, rests and commits

-- of the activity that a refusal names
unfoldable pub locked_in : List ℕ → Read Reply
locked_in text = count_in text >>= λ id. Ok (reply.Locked id.0)

unfoldable pub behind_in : List ℕ → Read Reply
behind_in text = count_in text >>= λ id. Ok (reply.Behind id.0)

unfoldable pub beyond_in : List ℕ → Read Reply
beyond_in text = count_in text >>= λ id. Ok (reply.Beyond id.0)

unfoldable pub fix_reply_by : List ℕ → List ℕ → Read Reply
fix_reply_by word text =
    if bytes_eq word (codes "ok") then Ok reply.Done
    else if bytes_eq word (codes "stale") then Ok reply.Stale
    else if bytes_eq word (codes "not-for") then Ok reply.NotFor
    else if bytes_eq word (codes "locked") then locked_in text
    else if bytes_eq word (codes "behind") then behind_in text
    else if bytes_eq word (codes "beyond") then beyond_in text
    else if bytes_eq word (codes "full") then Ok reply.Full
    else Err fault.NotALine

unfoldable pub fix_reply_in : List ℕ → Read Reply
fix_reply_in text = word_in text >>= λ w. fix_reply_by w.0 w.1

unfoldable pub reason_of : List ℕ → Read Reason
reason_of word =
    if bytes_eq word (codes "clear") then Ok reason.Clear
    else if bytes_eq word (codes "spent") then Ok reason.Spent
    else if bytes_eq word (codes "stuck") then Ok reason.Stuck
    else Err fault.NotALine

unfoldable pub rest_reply_in : List ℕ → Read Reply
rest_reply_in text = word_in text >>= λ w. reason_of w.0 >>= λ why. Ok (reply.Rested why)

-- with the conflict that stands before the moment
unfoldable pub held_in : List ℕ → Read Reply
held_in text = conflict_in text >>= λ k. Ok (reply.Held k.0)

unfoldable pub commit_reply_by : List ℕ → List ℕ → Read Reply
commit_reply_by word text =
    if bytes_eq word (codes "ok") then Ok reply.Done
    else if bytes_eq word (codes "behind") then Ok reply.CommitBehind
    else if bytes_eq word (codes "beyond") then Ok reply.CommitBeyond
    else if bytes_eq word (codes "held") then held_in text
    else Err fault.NotALine

unfoldable pub commit_reply_in : List ℕ → Read Reply
commit_reply_in text = word_in text >>= λ w. commit_reply_by w.0 w.1

-- ---- to dispatches

-- the value of NAME=VALUE, where the word is of this name
unfoldable pub value_of : List ℕ → List ℕ → Read ℤ
value_of name word = if bytes_eq (before 61 word) name then amount_of (drop 1 (rest_from 61 word)) else Err fault.NotALine

abbrev pub given_or : List ℕ → Read (ℤ × List ℕ) → Option ℤ × List ℕ
given_or text (Ok v) = (Some v.0, v.1)
given_or text (Err e) = (None, text)

abbrev pub named_value : List ℕ → List ℕ → Read (ℤ × List ℕ)
named_value name text = word_in text >>= λ w. value_of name w.0 >>= λ value. Ok (value, w.1)

-- the value that the text begins with, where it is of this name; else none, and the text stays
unfoldable pub value_at : List ℕ → List ℕ → Option ℤ × List ℕ
value_at name text = given_or text (named_value name text)

-- a place for each parameter
abbrev pub values_in : List Param → List ℕ → List (Option ℤ)
values_in [] text = []
values_in (p ∷ ps) text = (value_at p.name text).0 ∷ values_in ps (value_at p.name text).1

-- ID KIND START and the values
unfoldable pub sent_in : Model → List ℕ → Read Reply
sent_in m text =
    count_in text >>= λ id. word_in id.1 >>= λ name. kind_named m name.0 >>= λ kind. count_in name.1 >>= λ start.
    Ok (reply.Sent id.0 kind.0 start.0 (values_in kind.1.params start.1))
