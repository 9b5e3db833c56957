-- How long a line is.
use Rattle.std.proofs.Common.{◌≡◌, ℕ, ℤ, pos, negsuc, suc, ◌+◌, ◌*◌, ◌<◌, ◌≤◌, ◌≤ℤ◌, ◌^◌, List, [], ◌∷◌, ◌++◌, length, Option, Some, None, codes, decimal, refl, ap, ◌∙◌, arith}
use Rattle.std.specs.Prelude.{IfSome, slice_get}
use Rattle.std.specs.List.{All, AllByRecursion}
use Rattle.std.specs.Fmt.{signed_decimal}
use Rattle.std.proofs.lemmas.Int.{ints}
use Rattle.std.proofs.lemmas.Fmt.{length-decimal-le}
use Rattle.std.proofs.lemmas.List.{length-append}
use Rattle.std.proofs.lemmas.List.Elements.{All-head, All-tail}
use Rattle.pl_model.specs.declared.parameters.Param.{Param}
use Rattle.pl_model.specs.declared.kinds.Kind.{Kind}
use Rattle.pl_model.specs.declared.whole.Model.{Model}
use Rattle.pl_conflict.specs.declared.conflict.Code.{Code}
use Rattle.pl_conflict.specs.declared.conflict.Code.TheVariants as code
use Rattle.pl_conflict.specs.declared.conflict.Conflict.{Conflict}
use Rattle.pl_plan.specs.declared.repair.RepairMove.{RepairMove}
use Rattle.pl_plan.specs.declared.repair.RepairMove.TheVariants as repair
use Rattle.pl_entry.specs.declared.event.Event.{Event}
use Rattle.pl_entry.specs.declared.event.Event.TheVariants as event
use Rattle.pl_entry.specs.declared.reply.Reply.{Reply}
use Rattle.pl_entry.specs.declared.reply.Reply.TheVariants as reply
use Rattle.pl_entry.specs.declared.reply.Reason.TheVariants as reason
use Rattle.pl_entry.specs.declared.entry.Entry.{Entry}
use Rattle.pl_entry.specs.Bounds.{IsWord, IsConflictInRange, IsMoveInRange, IsEventInRange, IsInputReply, IsFixReply, IsRestReply, IsCommitReply, IsSent, IsDispatchReply, IsReplyTo, IsJournalEntry}
use Rattle.pl_journal.specs.Rendering.Words.{spaced}
use Rattle.pl_journal.specs.Rendering.Lines.{code_word, conflict_words, kind_name, kind_params, move_words, values_words, reply_words, event_words, text_of}

-- names of at most 32 bytes, and at most 16 parameters
pub record AreShort (m : Model) : Type 0 where
  pub kinds : (kind : ℕ) → length (kind_name m kind) ≤ 32
  pub few : (kind : ℕ) → length (kind_params m kind) ≤ 16
  pub params : (kind : ℕ) → AllByRecursion (λ p. length p.name ≤ 32) (kind_params m kind)

-- the bytes of words, each behind a blank
abbrev pub width : List (List ℕ) → ℕ
width [] = 0
width (w ∷ ws) = suc (length w + width ws)

length-spaced : (ws : List (List ℕ)) → length (spaced ws) ≡ width ws
unfolding spaced
length-spaced [] = refl
length-spaced (w ∷ ws) = ap (λ (n : ℕ). suc n) (length-append w (spaced ws) ∙ ap (λ (n : ℕ). length w + n) (length-spaced ws))

width-append : (xs ys : List (List ℕ)) → width (xs ++ ys) ≡ width xs + width ys
width-append [] ys = omega arith
width-append (x ∷ xs) ys = omega (arith, width-append xs ys)

word_width : (n : ℕ) → n < 2 ^ 32 → length (decimal n) ≤ 10
word_width n h = length-decimal-le 10 n (omega arith) (omega arith) (omega arith)

value_width : (z : ℤ) → (pos 0 ≤ℤ z) × (z ≤ℤ pos 1000000000) → length (signed_decimal z) ≤ 10
value_width (pos n) h = length-decimal-le 10 n (omega arith) (omega (arith, ints)) (omega (arith, ints))
value_width (negsuc n) h = absurd (omega (arith, ints))

code_width : (c : Code) → length (code_word c) ≤ 10
code_width code.OpenGoal = omega arith
code_width code.OffGoal = omega arith
code_width code.Late = omega arith
code_width code.Unset = omega arith
code_width code.BadValue = omega arith
code_width code.Undetailed = omega arith
code_width code.Overrun = omega arith
code_width code.Temporal = omega arith
code_width code.Linked = omega arith
code_width code.Over = omega arith
code_width code.Low = omega arith
code_width code.High = omega arith
code_width code.Must = omega arith
code_width code.BadStep = omega arith

conflict_width : (k : Conflict) → IsConflictInRange k → width (conflict_words k) ≤ 66
conflict_width k h =
    omega (arith, word_width k.from h.from, code_width k.code, word_width k.subject h.subject, word_width k.detail h.detail, word_width k.a h.a, word_width k.b h.b)

move_width : (m : Model) (move : RepairMove) → AreShort m → IsMoveInRange m move → width (move_words m move) ≤ 100
move_width m (repair.Add kind start None) short h = omega (arith, short.kinds kind, word_width start h.2)
move_width m (repair.Add kind start (Some goal)) short h = omega (arith, short.kinds kind, word_width start h.2, word_width goal h.3)
move_width m (repair.Delete id) short h = omega (arith, word_width id h)
move_width m (repair.Shift id start) short h = omega (arith, word_width id h.0, word_width start h.1)
move_width m (repair.Detail id alternative) short h = omega (arith, word_width id h.0, word_width alternative h.1)
move_width m (repair.Abstract id) short h = omega (arith, word_width id h)
move_width m (repair.Assign id param value) short h =
    omega (arith, word_width id h.0, length-decimal-le 10 param (omega arith) (omega arith) (omega arith), value_width value h.2)
move_width m (repair.Drop goal) short h = omega (arith, word_width goal h)

values_width : (ps : List Param) (vs : List (Option ℤ)) → AllByRecursion (λ p. length p.name ≤ 32) ps → All (λ v. IfSome v (λ z. (pos 0 ≤ℤ z) × (z ≤ℤ pos 1000000000))) vs → width (values_words ps vs) ≤ 44 * length ps
values_width [] vs short h = omega arith
values_width (p ∷ ps) [] short h = omega arith
values_width (p ∷ ps) (None ∷ vs) short h =
    omega (arith, values_width ps vs short.1 (All-tail (λ v. IfSome v (λ z. (pos 0 ≤ℤ z) × (z ≤ℤ pos 1000000000))) None vs h))
values_width (p ∷ ps) (Some v ∷ vs) short h =
    omega (
      arith,
      length-append p.name (61 ∷ signed_decimal v),
      short.0,
      value_width v (All-head (λ v. IfSome v (λ z. (pos 0 ≤ℤ z) × (z ≤ℤ pos 1000000000))) (Some v) vs h),
      values_width ps vs short.1 (All-tail (λ v. IfSome v (λ z. (pos 0 ≤ℤ z) × (z ≤ℤ pos 1000000000))) (Some v) vs h),
    )

input_reply_width : (m : Model) (r : Reply) → IsInputReply r → width (reply_words m r) ≤ 20
input_reply_width m reply.Done h = omega arith
input_reply_width m reply.Ended h = omega arith
input_reply_width m reply.BadLine h = omega arith
input_reply_width m reply.UnknownName h = omega arith
input_reply_width m reply.Range h = omega arith
input_reply_width m reply.DuplicateGoal h = omega arith
input_reply_width m reply.TooLate h = omega arith
input_reply_width m reply.TickBack h = omega arith
input_reply_width m reply.TickBeyond h = omega arith
input_reply_width m reply.TooManyGoals h = omega arith
input_reply_width m reply.NotBegun h = omega arith
input_reply_width m reply.EndBack h = omega arith
input_reply_width m _ h = absurd h

fix_reply_width : (m : Model) (r : Reply) → IsFixReply r → width (reply_words m r) ≤ 20
fix_reply_width m reply.Done h = omega arith
fix_reply_width m reply.Stale h = omega arith
fix_reply_width m reply.NotFor h = omega arith
fix_reply_width m (reply.Locked id) h = omega (arith, word_width id h)
fix_reply_width m (reply.Behind id) h = omega (arith, word_width id h)
fix_reply_width m (reply.Beyond id) h = omega (arith, word_width id h)
fix_reply_width m reply.Full h = omega arith
fix_reply_width m _ h = absurd h

rest_reply_width : (m : Model) (r : Reply) → IsRestReply r → width (reply_words m r) ≤ 20
rest_reply_width m (reply.Rested reason.Clear) h = omega arith
rest_reply_width m (reply.Rested reason.Spent) h = omega arith
rest_reply_width m (reply.Rested reason.Stuck) h = omega arith
rest_reply_width m _ h = absurd h

commit_reply_width : (m : Model) (r : Reply) → IsCommitReply r → width (reply_words m r) ≤ 80
commit_reply_width m reply.Done h = omega arith
commit_reply_width m reply.CommitBehind h = omega arith
commit_reply_width m reply.CommitBeyond h = omega arith
commit_reply_width m (reply.Held k) h = omega (arith, conflict_width k h)
commit_reply_width m _ h = absurd h

sent_values : (id start : ℕ) (values : List (Option ℤ)) (k : Option Kind) → IsSent id start values k → IsWord id × IsWord start × All (λ v. IfSome v (λ z. (pos 0 ≤ℤ z) × (z ≤ℤ pos 1000000000))) values
sent_values id start values None h = absurd h
sent_values id start values (Some k) h = (h.0, h.1, h.3)

sent_width : (m : Model) (r : Reply) → AreShort m → IsDispatchReply m r → width (reply_words m r) ≤ 800
sent_width m (reply.Sent id kind start values) short h =
    let s = sent_values id start values (slice_get m.kinds kind) h.1 in
    omega (arith, word_width id s.0, short.kinds kind, word_width start s.1, short.few kind, values_width (kind_params m kind) values (short.params kind) s.2)
sent_width m _ short h = absurd h

event_width : (m : Model) (e : Event) (r : Reply) → AreShort m → IsEventInRange m e → IsReplyTo m e r → width (event_words m e r) ≤ 4130
event_width m (event.Opened o) r short h hr =
    omega (arith, word_width o.turns (omega (arith, h.turns.1)), word_width o.live (omega (arith, h.live.1)), word_width o.goals (omega (arith, h.goals.1)), word_width o.entries (omega (arith, h.entries.1)))
event_width m (event.Input None) r short h hr = omega arith
event_width m (event.Input (Some line)) r short h hr =
    omega (arith, h.short, width-append (reply_words m r) (codes ":" ∷ line ∷ []), input_reply_width m r hr)
event_width m (event.Fix k move) r short h hr =
    omega (arith, conflict_width k h.0, width-append (move_words m move) (codes ":" ∷ reply_words m r), move_width m move short h.1, fix_reply_width m r hr)
event_width m event.Rest r short h hr = omega (arith, rest_reply_width m r hr)
event_width m (event.Commit moment) r short h hr = omega (arith, word_width moment h, commit_reply_width m r hr)
event_width m event.Dispatch r short h hr = omega (arith, sent_width m r short hr)
event_width m event.Close r short h hr = omega arith

pub text_short : (m : Model) (n : ℕ) (e : Entry) → AreShort m → n < 2 ^ 32 → IsJournalEntry m n e → length (text_of m n e) ≤ 4160
unfolding text_of
text_short m n e short small h =
    omega (arith, word_width n small, length-append (decimal n) (spaced (event_words m e.event e.reply)), length-spaced (event_words m e.event e.reply), event_width m e.event e.reply short h.event h.reply)
