-- A line is cut into the words of its entry, and the entry is read back from them.
use Rattle.std.proofs.Common.{◌≡◌, ℕ, ℤ, suc, ◌+◌, ◌<◌, ◌^◌, true, false, cond, ◌==◌, not, List, [], ◌∷◌, ◌++◌, length, drop, Option, Some, None, codes, decimal, refl, ap, sym, ◌∙◌, append_assoc, arith}
use Rattle.std.specs.List.{AllByRecursion, list_any}
use Rattle.std.specs.Fmt.{signed_decimal}
use Rattle.std.proofs.lemmas.Bool.{and_parts, or_parts, not-true}
use Rattle.std.proofs.lemmas.List.{length-append, append_cancel_right}
use Rattle.std.proofs.lemmas.Fmt.{decimal_injective}
use Rattle.pl_model.specs.declared.parameters.Param.{Param}
use Rattle.pl_model.specs.declared.whole.Model.{Model}
use Rattle.pl_conflict.specs.declared.conflict.Code.{Code}
use Rattle.pl_conflict.specs.declared.conflict.Code.TheVariants as code
use Rattle.pl_conflict.specs.declared.conflict.Conflict.{Conflict}
use Rattle.pl_facts.specs.declared.options.Options.{Options}
use Rattle.pl_plan.specs.declared.repair.RepairMove.{RepairMove}
use Rattle.pl_plan.specs.declared.repair.RepairMove.TheVariants as repair
use Rattle.pl_entry.specs.declared.event.Event.{Event}
use Rattle.pl_entry.specs.declared.event.Event.TheVariants as event
use Rattle.pl_entry.specs.declared.reply.Reply.{Reply}
use Rattle.pl_entry.specs.declared.reply.Reply.TheVariants as reply
use Rattle.pl_entry.specs.declared.reply.Reason.{Reason}
use Rattle.pl_entry.specs.declared.reply.Reason.TheVariants as reason
use Rattle.pl_entry.specs.declared.entry.Entry.{Entry}
use Rattle.pl_entry.specs.Bounds.{AreOptions, IsMessageLine, IsEventInRange, IsReplyTo, IsInputReply, IsJournalEntry}
use Rattle.pl_journal.specs.Rendering.Words.{spaced}
use Rattle.pl_journal.specs.Rendering.Lines.{code_word, conflict_words, kind_params, move_words, values_words, reply_words, options_words, fix_words, event_words, text_of, line_of, text_from, AreEntries}
use Rattle.pl_journal.proofs.AboutRendering.Cutting.{lacks, all_lack, lacks-append, all_lack-append, cut, cut_spaced, cut_words, put_together, put_back, front_is}
use Rattle.pl_journal.proofs.AboutRendering.Plain.{plain, all_plain, plain-append, all_plain-append, lacks_plain, all_lack_plain, one_line, plain-decimal, plain-signed}
use Rattle.pl_journal.proofs.AboutRendering.Finding.{same}
use Rattle.pl_journal.proofs.AboutRendering.Told.{AreTold, IsPlainName}
use Rattle.pl_journal.proofs.AboutRendering.Reading.{word_at, number_in, count_back, word_back, conflict_in, conflict_back, move_in, move_back, input_reply_in, fix_reply_in, fix_reply_back, rest_reply_in, rest_reply_back, commit_reply_in, commit_reply_back, sent_in, sent_back}

abbrev pub answered : Event → Reply → Entry
answered e r = record { event = e; reply = r }

-- ---- back from words

abbrev pub options_in : List (List ℕ) → Options
options_in ws = record { turns = number_in (word_at ws 2); live = number_in (word_at ws 4); goals = number_in (word_at ws 6); entries = number_in (word_at ws 8) }

options_back : (o : Options) → AreOptions o → options_in (options_words o) ≡ o
options_back o h =
    rw (count_back o.turns (omega (arith, h.turns.1)), count_back o.live (omega (arith, h.live.1)), count_back o.goals (omega (arith, h.goals.1)), count_back o.entries (omega (arith, h.entries.1))) refl

abbrev pub input_in : List (List ℕ) → Entry
input_in ws =
    cond (same (word_at ws 1) (codes "eof")) (answered (event.Input None) reply.Ended) (answered (event.Input (Some (put_together (drop 3 ws)))) (input_reply_in (word_at ws 1)))

abbrev pub fix_entry : Model → Conflict → RepairMove → List (List ℕ) → Entry
fix_entry m k move ws = answered (event.Fix k move) (fix_reply_in (drop (suc (length (move_words m move))) ws))

abbrev pub fix_in : Model → List (List ℕ) → Entry
fix_in m ws = fix_entry m (conflict_in (drop 1 ws)) (move_in m (drop 8 ws)) (drop 8 ws)

abbrev pub entry_in : Model → List (List ℕ) → Entry
entry_in m ws =
    cond (same (word_at ws 0) (codes "open")) (answered (event.Opened (options_in ws)) reply.Done)
    (cond (same (word_at ws 0) (codes "in")) (input_in ws)
    (cond (same (word_at ws 0) (codes "fix")) (fix_in m ws)
    (cond (same (word_at ws 0) (codes "rest")) (answered event.Rest (rest_reply_in (word_at ws 1)))
    (cond (same (word_at ws 0) (codes "commit")) (answered (event.Commit (number_in (word_at ws 1))) (commit_reply_in (drop 3 ws)))
    (cond (same (word_at ws 0) (codes "dispatch")) (answered event.Dispatch (sent_in m (drop 1 ws)))
    (answered event.Close reply.Done))))))

-- the words of an entry, those of a message apart
abbrev pub cells : Model → Event → Reply → List (List ℕ)
cells m (event.Input (Some line)) r = codes "in" ∷ (reply_words m r ++ codes ":" ∷ cut 32 line)
cells m (event.Input None) r = codes "in" ∷ codes "eof" ∷ []
cells m (event.Opened o) r = options_words o
cells m (event.Fix k move) r = fix_words m k move r
cells m event.Rest r = codes "rest" ∷ reply_words m r
cells m (event.Commit h) r = codes "commit" ∷ decimal h ∷ codes ":" ∷ reply_words m r
cells m event.Dispatch r = codes "dispatch" ∷ reply_words m r
cells m event.Close r = codes "close" ∷ []

input_back : (m : Model) (line : List ℕ) (r : Reply) → IsInputReply r → entry_in m (cells m (event.Input (Some line)) r) ≡ answered (event.Input (Some line)) r
input_back m line reply.Done h = ap (λ (x : List ℕ). answered (event.Input (Some x)) reply.Done) (put_back line)
input_back m line reply.Ended h = ap (λ (x : List ℕ). answered (event.Input (Some x)) reply.Ended) (put_back line)
input_back m line reply.BadLine h = ap (λ (x : List ℕ). answered (event.Input (Some x)) reply.BadLine) (put_back line)
input_back m line reply.UnknownName h = ap (λ (x : List ℕ). answered (event.Input (Some x)) reply.UnknownName) (put_back line)
input_back m line reply.Range h = ap (λ (x : List ℕ). answered (event.Input (Some x)) reply.Range) (put_back line)
input_back m line reply.DuplicateGoal h = ap (λ (x : List ℕ). answered (event.Input (Some x)) reply.DuplicateGoal) (put_back line)
input_back m line reply.TooLate h = ap (λ (x : List ℕ). answered (event.Input (Some x)) reply.TooLate) (put_back line)
input_back m line reply.TickBack h = ap (λ (x : List ℕ). answered (event.Input (Some x)) reply.TickBack) (put_back line)
input_back m line reply.TickBeyond h = ap (λ (x : List ℕ). answered (event.Input (Some x)) reply.TickBeyond) (put_back line)
input_back m line reply.TooManyGoals h = ap (λ (x : List ℕ). answered (event.Input (Some x)) reply.TooManyGoals) (put_back line)
input_back m line reply.NotBegun h = ap (λ (x : List ℕ). answered (event.Input (Some x)) reply.NotBegun) (put_back line)
input_back m line reply.EndBack h = ap (λ (x : List ℕ). answered (event.Input (Some x)) reply.EndBack) (put_back line)
input_back m line _ h = absurd h

drop_behind : (ms : List (List ℕ)) (w : List ℕ) (rs : List (List ℕ)) → drop (suc (length ms)) (ms ++ w ∷ rs) ≡ rs
drop_behind [] w rs = refl
drop_behind (m ∷ ms) w rs = drop_behind ms w rs

pub entry_back : (m : Model) (e : Event) (r : Reply) → AreTold m → IsEventInRange m e → IsReplyTo m e r → entry_in m (cells m e r) ≡ answered e r
entry_back m (event.Opened o) r told h hr =
    ap (λ (x : Options). answered (event.Opened x) reply.Done) (options_back o h) ∙ ap (λ (x : Reply). answered (event.Opened o) x) (sym hr)
entry_back m (event.Input None) r told h hr = ap (λ (x : Reply). answered (event.Input None) x) (sym hr)
entry_back m (event.Input (Some line)) r told h hr = input_back m line r hr
entry_back m (event.Fix k move) r told h hr =
    ap (λ (x : Conflict). fix_entry m x (move_in m (move_words m move ++ codes ":" ∷ reply_words m r)) (move_words m move ++ codes ":" ∷ reply_words m r)) (conflict_back k (codes "by" ∷ (move_words m move ++ codes ":" ∷ reply_words m r)) h.0)
    ∙ ap (λ (x : RepairMove). fix_entry m k x (move_words m move ++ codes ":" ∷ reply_words m r)) (move_back m move (reply_words m r) told h.1)
    ∙ ap (λ (x : List (List ℕ)). answered (event.Fix k move) (fix_reply_in x)) (drop_behind (move_words m move) (codes ":") (reply_words m r))
    ∙ ap (λ (x : Reply). answered (event.Fix k move) x) (fix_reply_back m r hr)
entry_back m event.Rest r told h hr = ap (λ (x : Reply). answered event.Rest x) (rest_reply_back m r hr).1
entry_back m (event.Commit moment) r told h hr =
    ap (λ (x : ℕ). answered (event.Commit x) (commit_reply_in (reply_words m r))) (word_back moment h) ∙ ap (λ (x : Reply). answered (event.Commit moment) x) (commit_reply_back m r hr)
entry_back m event.Dispatch r told h hr = ap (λ (x : Reply). answered event.Dispatch x) (sent_back m r told hr)
entry_back m event.Close r told h hr = ap (λ (x : Reply). answered event.Close x) (sym hr)

-- ---- the words have no blank and no newline

pub code_plain : (c : Code) → plain (code_word c) ≡ true
code_plain code.OpenGoal = refl
code_plain code.OffGoal = refl
code_plain code.Late = refl
code_plain code.Unset = refl
code_plain code.BadValue = refl
code_plain code.Undetailed = refl
code_plain code.Overrun = refl
code_plain code.Temporal = refl
code_plain code.Linked = refl
code_plain code.Over = refl
code_plain code.Low = refl
code_plain code.High = refl
code_plain code.Must = refl
code_plain code.BadStep = refl

conflict_plain : (k : Conflict) → all_plain (conflict_words k) ≡ true
conflict_plain k = simp (plain-decimal, code_plain)

move_plain : (m : Model) (move : RepairMove) → AreTold m → all_plain (move_words m move) ≡ true
move_plain m (repair.Add kind start None) told = rw (told.kind_plain kind, plain-decimal start) refl
move_plain m (repair.Add kind start (Some goal)) told = rw (told.kind_plain kind, plain-decimal start, plain-decimal goal) refl
move_plain m (repair.Delete id) told = rw (plain-decimal id) refl
move_plain m (repair.Shift id start) told = rw (plain-decimal id, plain-decimal start) refl
move_plain m (repair.Detail id alternative) told = rw (plain-decimal id, plain-decimal alternative) refl
move_plain m (repair.Abstract id) told = rw (plain-decimal id) refl
move_plain m (repair.Assign id param value) told = rw (plain-decimal id, plain-decimal param, plain-signed value) refl
move_plain m (repair.Drop goal) told = rw (plain-decimal goal) refl

values_plain : (ps : List Param) (vs : List (Option ℤ)) → AllByRecursion IsPlainName ps → all_plain (values_words ps vs) ≡ true
values_plain [] vs h = refl
values_plain (p ∷ ps) [] h = refl
values_plain (p ∷ ps) (None ∷ vs) h = values_plain ps vs h.1
values_plain (p ∷ ps) (Some v ∷ vs) h =
    rw (plain-append p.name (61 ∷ signed_decimal v) h.0.0 (plain-signed v), values_plain ps vs h.1) refl

reason_plain : (m : Model) (why : Reason) → all_plain (reply_words m (reply.Rested why)) ≡ true
reason_plain m reason.Clear = refl
reason_plain m reason.Spent = refl
reason_plain m reason.Stuck = refl

reply_plain : (m : Model) (r : Reply) → AreTold m → all_plain (reply_words m r) ≡ true
reply_plain m (reply.Locked id) told = rw (plain-decimal id) refl
reply_plain m (reply.Behind id) told = rw (plain-decimal id) refl
reply_plain m (reply.Beyond id) told = rw (plain-decimal id) refl
reply_plain m (reply.Rested why) told = reason_plain m why
reply_plain m (reply.Held k) told = conflict_plain k
reply_plain m (reply.Sent id kind start values) told =
    rw (plain-decimal id, told.kind_plain kind, plain-decimal start) (values_plain (kind_params m kind) values (told.params_plain kind))
reply_plain m _ told = refl

-- all words but a message
front_plain : (m : Model) (r : Reply) → AreTold m → all_plain (codes "in" ∷ (reply_words m r ++ codes ":" ∷ [])) ≡ true
front_plain m r told = all_plain-append (reply_words m r) (codes ":" ∷ []) (reply_plain m r told) refl

message_last : (m : Model) (line : List ℕ) (r : Reply) → event_words m (event.Input (Some line)) r ≡ (codes "in" ∷ (reply_words m r ++ codes ":" ∷ [])) ++ line ∷ []
message_last m line r = ap (λ (x : List (List ℕ)). codes "in" ∷ x) (sym (append_assoc (reply_words m r) (codes ":" ∷ []) (line ∷ [])))

fix_plain : (m : Model) (k : Conflict) (move : RepairMove) (r : Reply) → AreTold m → all_plain (fix_words m k move r) ≡ true
fix_plain m k move r told =
    all_plain-append (codes "fix" ∷ conflict_words k) (codes "by" ∷ (move_words m move ++ codes ":" ∷ reply_words m r)) (conflict_plain k)
    (all_plain-append (move_words m move) (codes ":" ∷ reply_words m r) (move_plain m move told) (reply_plain m r told))

options_plain : (o : Options) → all_plain (options_words o) ≡ true
options_plain o = simp plain-decimal

commit_plain : (m : Model) (h : ℕ) (r : Reply) → AreTold m → all_plain (codes "commit" ∷ decimal h ∷ codes ":" ∷ reply_words m r) ≡ true
commit_plain m h r told = rw (plain-decimal h) (reply_plain m r told)

plain_cut : (n : ℕ) (ws : List (List ℕ)) → all_plain ws ≡ true → cut 32 (decimal n ++ spaced ws) ≡ decimal n ∷ ws
plain_cut n ws h = cut_words (decimal n) ws (lacks_plain 32 (decimal n) (omega arith) (plain-decimal n)) (all_lack_plain 32 ws (omega arith) h)

message_cut : (m : Model) (n : ℕ) (line : List ℕ) (r : Reply) → AreTold m → cut 32 (decimal n ++ spaced (event_words m (event.Input (Some line)) r)) ≡ decimal n ∷ cells m (event.Input (Some line)) r
message_cut m n line r told =
    ap (λ (ws : List (List ℕ)). cut 32 (decimal n ++ spaced ws)) (message_last m line r)
    ∙ cut_spaced (decimal n) (codes "in" ∷ (reply_words m r ++ codes ":" ∷ [])) line (lacks_plain 32 (decimal n) (omega arith) (plain-decimal n)) (all_lack_plain 32 (codes "in" ∷ (reply_words m r ++ codes ":" ∷ [])) (omega arith) (front_plain m r told))
    ∙ ap (λ (x : List (List ℕ)). decimal n ∷ codes "in" ∷ x) (append_assoc (reply_words m r) (codes ":" ∷ []) (cut 32 line))

words_cut : (m : Model) (n : ℕ) (e : Event) (r : Reply) → AreTold m → cut 32 (decimal n ++ spaced (event_words m e r)) ≡ decimal n ∷ cells m e r
words_cut m n (event.Opened o) r told = plain_cut n (options_words o) (options_plain o)
words_cut m n (event.Input None) r told = plain_cut n (codes "in" ∷ codes "eof" ∷ []) refl
words_cut m n (event.Input (Some line)) r told = message_cut m n line r told
words_cut m n (event.Fix k move) r told = plain_cut n (fix_words m k move r) (fix_plain m k move r told)
words_cut m n event.Rest r told = plain_cut n (codes "rest" ∷ reply_words m r) (reply_plain m r told)
words_cut m n (event.Commit h) r told = plain_cut n (codes "commit" ∷ decimal h ∷ codes ":" ∷ reply_words m r) (commit_plain m h r told)
words_cut m n event.Dispatch r told = plain_cut n (codes "dispatch" ∷ reply_words m r) (reply_plain m r told)
words_cut m n event.Close r told = plain_cut n (codes "close" ∷ []) refl

pub line_cut : (m : Model) (n : ℕ) (e : Entry) → AreTold m → cut 32 (text_of m n e) ≡ decimal n ∷ cells m e.event e.reply
unfolding text_of
line_cut m n e told = words_cut m n e.event e.reply told

-- ---- lines are told apart

pub entries_told : (m : Model) (n n' k k' : ℕ) (e f : Entry) → AreTold m → IsJournalEntry m k e → IsJournalEntry m k' f → text_of m n e ≡ text_of m n' f → (decimal n ≡ decimal n') × (e ≡ f)
entries_told m n n' k k' e f told he hf same_text =
    let cut_same : decimal n ∷ cells m e.event e.reply ≡ decimal n' ∷ cells m f.event f.reply = sym (line_cut m n e told) ∙ ap (λ (x : List ℕ). cut 32 x) same_text ∙ line_cut m n' f told in
    (ap (λ (ws : List (List ℕ)). word_at ws 0) cut_same, sym (entry_back m e.event e.reply told he.event he.reply) ∙ ap (λ (ws : List (List ℕ)). entry_in m (drop 1 ws)) cut_same ∙ entry_back m f.event f.reply told hf.event hf.reply)

pub lines_told : (m : Model) (n n' : ℕ) (e f : Entry) → AreTold m → n < 2 ^ 32 → n' < 2 ^ 32 → IsJournalEntry m n e → IsJournalEntry m n' f → line_of m n e ≡ line_of m n' f → (n ≡ n') × (e ≡ f)
unfolding line_of
lines_told m n n' e f told small small' he hf same_line =
    let same_text = append_cancel_right (text_of m n e) (text_of m n' f) (10 ∷ []) same_line in
    let both = entries_told m n n' n n' e f told he hf same_text in
    (decimal_injective n n' (omega arith) (omega arith) both.0, both.1)

-- ---- a line has no newline in it

message_lacks : (line : List ℕ) → list_any (λ byte. byte == 10) line ≡ false → lacks 10 line ≡ true
message_lacks [] h = refl
message_lacks (b ∷ bs) h =
    let p = or_parts (b == 10) (list_any (λ byte. byte == 10) bs) h in
    rw (p.0, message_lacks bs p.1) refl

plain_line : (n : ℕ) (ws : List (List ℕ)) → all_lack 10 ws ≡ true → lacks 10 (decimal n ++ spaced ws) ≡ true
plain_line n ws h = lacks-append 10 (decimal n) (spaced ws) (lacks_plain 10 (decimal n) (omega arith) (plain-decimal n)) (one_line ws h)

message_line : (m : Model) (line : List ℕ) (r : Reply) → AreTold m → IsMessageLine line → all_lack 10 (event_words m (event.Input (Some line)) r) ≡ true
message_line m line r told h =
    ap (λ (ws : List (List ℕ)). all_lack 10 ws) (message_last m line r)
    ∙ all_lack-append 10 (codes "in" ∷ (reply_words m r ++ codes ":" ∷ [])) (line ∷ []) (all_lack_plain 10 (codes "in" ∷ (reply_words m r ++ codes ":" ∷ [])) (omega arith) (front_plain m r told)) (rw (message_lacks line h.one_line) refl)

words_line : (m : Model) (e : Event) (r : Reply) → AreTold m → IsEventInRange m e → all_lack 10 (event_words m e r) ≡ true
words_line m (event.Opened o) r told h = all_lack_plain 10 (options_words o) (omega arith) (options_plain o)
words_line m (event.Input None) r told h = refl
words_line m (event.Input (Some line)) r told h = message_line m line r told h
words_line m (event.Fix k move) r told h = all_lack_plain 10 (fix_words m k move r) (omega arith) (fix_plain m k move r told)
words_line m event.Rest r told h = all_lack_plain 10 (codes "rest" ∷ reply_words m r) (omega arith) (reply_plain m r told)
words_line m (event.Commit h) r told range = all_lack_plain 10 (codes "commit" ∷ decimal h ∷ codes ":" ∷ reply_words m r) (omega arith) (commit_plain m h r told)
words_line m event.Dispatch r told h = all_lack_plain 10 (codes "dispatch" ∷ reply_words m r) (omega arith) (reply_plain m r told)
words_line m event.Close r told h = refl

pub line_is_one : (m : Model) (n : ℕ) (e : Entry) → AreTold m → IsEventInRange m e.event → lacks 10 (text_of m n e) ≡ true
unfolding text_of
line_is_one m n e told h = plain_line n (event_words m e.event e.reply) (words_line m e.event e.reply told h)

lacking : (bs : List ℕ) → lacks 10 bs ≡ true → list_any (λ byte. byte == 10) bs ≡ false
lacking [] h = refl
lacking (b ∷ bs) h =
    let p = and_parts (not (b == 10)) (lacks 10 bs) h in
    rw (not-true (b == 10) p.0, lacking bs p.1) refl

pub no_newline : (m : Model) (n : ℕ) (e : Entry) → AreTold m → IsEventInRange m e.event → list_any (λ byte. byte == 10) (text_of m n e) ≡ false
no_newline m n e told h = lacking (text_of m n e) (line_is_one m n e told h)

-- ---- logs are told apart

line_and : (m : Model) (n : ℕ) (e : Entry) (rest : List ℕ) → line_of m n e ++ rest ≡ text_of m n e ++ 10 ∷ rest
unfolding line_of
line_and m n e rest = append_assoc (text_of m n e) (10 ∷ []) rest

some_text : (m : Model) (n : ℕ) (e : Entry) (rest : List ℕ) → [] ≡ line_of m n e ++ rest → ⊥
some_text m n e rest h =
    let longer : length (text_of m n e ++ 10 ∷ rest) ≡ 0 = ap (λ (x : List ℕ). length x) (sym (h ∙ line_and m n e rest)) in
    omega (arith, longer, length-append (text_of m n e) (10 ∷ rest))

pub logs_told : (m : Model) (n : ℕ) (xs ys : List Entry) → AreTold m → AreEntries m n xs → AreEntries m n ys → text_from m n xs ≡ text_from m n ys → xs ≡ ys
logs_told m n [] [] told hx hy same_text = refl
logs_told m n [] (y ∷ ys) told hx hy same_text = absurd (some_text m n y (text_from m (n + 1) ys) same_text)
logs_told m n (x ∷ xs) [] told hx hy same_text = absurd (some_text m n x (text_from m (n + 1) xs) (sym same_text))
logs_told m n (x ∷ xs) (y ∷ ys) told hx hy same_text =
    let split = front_is 10 (text_of m n x) (text_of m n y) (text_from m (n + 1) xs) (text_from m (n + 1) ys) (line_is_one m n x told hx.0.event) (line_is_one m n y told hy.0.event)
    (sym (line_and m n x (text_from m (n + 1) xs)) ∙ same_text ∙ line_and m n y (text_from m (n + 1) ys)) in
    let first : x ≡ y = (entries_told m n n n n x y told hx.0 hy.0 split.0).1 in
    let rest : xs ≡ ys = logs_told m (n + 1) xs ys told hx.1 hy.1 split.1 in
    cc
