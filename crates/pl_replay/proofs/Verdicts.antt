-- One verdict fits the lines of a journal.
use Rattle.std.proofs.Common.{◌≡◌, ℕ, suc, ◌+◌, ◌<◌, ◌≤◌, ◌^◌, ◌⊎◌, inl, inr, Bool, true, false, nat_le, List, [], ◌∷◌, ◌++◌, length, refl, sym, subst, ap, ◌∙◌, append_assoc, arith, length-append}
use Rattle.std.proofs.lemmas.Bool.{both_ways, le-leb, lt-leb}
use Rattle.std.proofs.lemmas.List.{append-nil, same_from_push}
use Rattle.pl_model.specs.declared.whole.Model.{Model}
use Rattle.pl_model.specs.Checked.{IsChecked}
use Rattle.pl_entry.specs.declared.reply.Reply.{Reply}
use Rattle.pl_entry.specs.declared.entry.Entry.{Entry}
use Rattle.pl_entry.specs.Bounds.{IsJournalEntry}
use Rattle.pl_journal.specs.Rendering.Lines.{text_of, AreEntries}
use Rattle.pl_journal.proofs.AboutRendering.Told.{AreTold}
use Rattle.pl_journal.proofs.AboutRendering.Telling.{entries_told}
use Rattle.pl_journal.proofs.AboutRendering.Naming.{told_apart}
use Rattle.pl_journal.specs.Parsing.Journal.{IsLineOf}
use Rattle.pl_machine.specs.Step.{is_enabled, reply_of}
use Rattle.pl_machine.specs.Legal.{Legal, options_of, world_of}
use Rattle.pl_replay.specs.declared.verdict.Verdict.{Verdict}
use Rattle.pl_replay.specs.declared.verdict.Verdict.TheVariants as verdict
use Rattle.pl_replay.specs.Journals.{lines_from, IsJournalOf, IsNoLine, IsWrongBehind, IsWrongNext, IsWrongAtLast}
use Rattle.pl_replay.proofs.Logs.{legal_small}
use Rattle.pl_machine.proofs.NextSteps.{IsNextStep, next_step}
use Rattle.pl_replay.proofs.Lawful.{written}

-- ---- lines of entries

-- these entries are the others, then the entry of this line, and more
record GoOnWith (m : Model) (n : ℕ) (xs ys : List Entry) (line : List ℕ) : Type 0 where
  entry : Entry
  rest : List Entry
  log : xs ≡ ys ++ entry ∷ rest
  stands : IsJournalEntry m (n + length ys) entry
  text : line ≡ text_of m (n + length ys) entry

first_line : (x y : List ℕ) (xs ys : List (List ℕ)) → x ∷ xs ≡ y ∷ ys → x ≡ y
first_line x y xs ys same = cc

rest_lines : (x y : List ℕ) (xs ys : List (List ℕ)) → x ∷ xs ≡ y ∷ ys → xs ≡ ys
rest_lines x y xs ys same = cc

no_lines : (y : List ℕ) (ys : List (List ℕ)) → ◌≡◌ {A = List (List ℕ)} [] (y ∷ ys) → ⊥
no_lines y ys same = cc

put_first : (x y : Entry) (xs ys : List Entry) → x ≡ y → xs ≡ ys → x ∷ xs ≡ y ∷ ys
put_first x y xs ys first rest = cc

go_on_with : (m : Model) (n : ℕ) (xs ys : List Entry) (line : List ℕ) (more : List (List ℕ)) → AreTold m → AreEntries m n xs → AreEntries m n ys
    → lines_from m n xs ≡ (lines_from m n ys ++ line ∷ []) ++ more → GoOnWith m n xs ys line
go_on_with m n [] [] line more told hx hy same = absurd (no_lines line more same)
go_on_with m n [] (y ∷ ys) line more told hx hy same = absurd (no_lines (text_of m n y) ((lines_from m (n + 1) ys ++ line ∷ []) ++ more) same)
go_on_with m n (x ∷ xs) [] line more told hx hy same =
    let zero : n ≡ n + 0 = omega arith in
    record {
      entry = x;
      rest = xs;
      log = refl;
      stands = subst (λ k. IsJournalEntry m k x) zero hx.0;
      text = sym (first_line (text_of m n x) line (lines_from m (n + 1) xs) more same) ∙ ap (λ k. text_of m k x) zero;
    }
go_on_with m n (x ∷ xs) (y ∷ ys) line more told hx hy same =
    let ahead : List (List ℕ) = (lines_from m (n + 1) ys ++ line ∷ []) ++ more in
    let first : x ≡ y = (entries_told m n n n n x y told hx.0 hy.0 (first_line (text_of m n x) (text_of m n y) (lines_from m (n + 1) xs) ahead same)).1 in
    let on = go_on_with m (n + 1) xs ys line more told hx.1 hy.1 (rest_lines (text_of m n x) (text_of m n y) (lines_from m (n + 1) xs) ahead same) in
    let number : n + 1 + length ys ≡ n + suc (length ys) = omega arith in
    record {
      entry = on.entry;
      rest = on.rest;
      log = put_first x y xs (ys ++ on.entry ∷ on.rest) first on.log;
      stands = subst (λ k. IsJournalEntry m k on.entry) number on.stands;
      text = on.text ∙ ap (λ k. text_of m k on.entry) number;
    }

lines_same : (m : Model) (n : ℕ) (xs ys : List Entry) → AreTold m → AreEntries m n xs → AreEntries m n ys → lines_from m n xs ≡ lines_from m n ys → xs ≡ ys
lines_same m n [] [] told hx hy same = refl
lines_same m n [] (y ∷ ys) told hx hy same = absurd (no_lines (text_of m n y) (lines_from m (n + 1) ys) same)
lines_same m n (x ∷ xs) [] told hx hy same = absurd (no_lines (text_of m n x) (lines_from m (n + 1) xs) (sym same))
lines_same m n (x ∷ xs) (y ∷ ys) told hx hy same =
    put_first x y xs ys
    (entries_told m n n n n x y told hx.0 hy.0 (first_line (text_of m n x) (text_of m n y) (lines_from m (n + 1) xs) (lines_from m (n + 1) ys) same)).1
    (lines_same m (n + 1) xs ys told hx.1 hy.1 (rest_lines (text_of m n x) (text_of m n y) (lines_from m (n + 1) xs) (lines_from m (n + 1) ys) same))

-- the lines of a journal are those of one log
pub one_log : (m : Model) (lines : List (List ℕ)) (xs ys : List Entry) → IsChecked m → IsJournalOf m lines xs → IsJournalOf m lines ys → xs ≡ ys
one_log m lines xs ys checked one other = lines_same m 0 xs ys (told_apart m checked) (written m xs one.legal) (written m ys other.legal) (sym one.shows ∙ other.shows)

one_entry : (m : Model) (n : ℕ) (line : List ℕ) (e f : Entry) → IsChecked m → IsLineOf m line n e → IsLineOf m line n f → e ≡ f
one_entry m n line e f checked one other = (entries_told m n n n n e f (told_apart m checked) one.entry other.entry (sym one.text ∙ other.text)).1

-- ---- no legal journal begins with the lines of a wrong one

-- a log that is legal, or empty
abbrev pub IsRight : Model → List Entry → Type 0
IsRight m log = (log ≡ []) ⊎ Legal m log

right_written : (m : Model) (log : List Entry) → IsRight m log → AreEntries m 0 log
right_written m log (inl empty) = subst (λ (l : List Entry). AreEntries m 0 l) (sym empty) tt
right_written m log (inr legal) = written m log legal

pub wrong_right : (m : Model) (log : List Entry) (line : List ℕ) (v : Verdict) → IsWrongNext m log line v → IsRight m log
wrong_right m log line v (inl first) = inl first.0
wrong_right m log line v (inr behind) = inr behind.0

not_behind : (m : Model) (log more : List Entry) (line : List ℕ) (e : Entry) (v : Verdict) → IsChecked m → IsNextStep m log e → IsLineOf m line (length log) e → IsWrongBehind m log line v → ⊥
not_behind m log more line e (verdict.Legal entries done) checked step is wrong = wrong
not_behind m log more line e (verdict.NotALine n) checked step is wrong = wrong.1 e is
not_behind m log more line e (verdict.NotNow n) checked step is wrong =
    let same : wrong.1.entry ≡ e = one_entry m (length log) line wrong.1.entry e checked wrong.1.reads is in
    both_ways (is_enabled (world_of m log) e.event) (subst (λ (x : Entry). is_enabled (world_of m log) x.event ≡ false) same wrong.1.disabled) step.enabled
not_behind m log more line e (verdict.Full n) checked step is wrong =
    let full : (options_of log).entries ≤ length log = wrong.1.full in
    let room : length log < (options_of log).entries = step.room in
    omega (arith, full, room)
not_behind m log more line e (verdict.OtherReply n answer) checked step is wrong =
    let same : wrong.1.entry ≡ e = one_entry m (length log) line wrong.1.entry e checked wrong.1.reads is in
    wrong.1.differs (ap (λ (x : Entry). x.reply) same ∙ (step.answers ∙ (ap (λ (x : Entry). reply_of (world_of m log) x.event) (sym same) ∙ sym wrong.1.answers)))

not_next : (m : Model) (log front more : List Entry) (line : List ℕ) (e : Entry) (v : Verdict) → IsChecked m → Legal m log → log ≡ front ++ e ∷ more → IsLineOf m line (length front) e → IsWrongNext m front line v → ⊥
not_next m log front more line e v checked legal on is (inl first) =
    first.2 e (subst (λ k. IsLineOf m line k e) (ap (λ (l : List Entry). length l) first.0) is)
not_next m log front more line e v checked legal on is (inr behind) =
    not_behind m front more line e v checked (next_step m front more e behind.0 (subst (λ (l : List Entry). Legal m l) on legal)) is behind.1

front_small : (log front more : List Entry) (e : Entry) → log ≡ front ++ e ∷ more → length log < 2 ^ 32 → length front < 2 ^ 32
front_small log front more e on small =
    let long : length log ≡ length (front ++ e ∷ more) = ap (λ (l : List Entry). length l) on in
    let parts : length (front ++ e ∷ more) ≡ length front + suc (length more) = length-append front (e ∷ more) in
    omega (arith, long, parts, small)

pub never_begins : (m : Model) (log : List Entry) (front more : List (List ℕ)) (v : Verdict) → IsChecked m → Legal m log → IsWrongAtLast m front v → lines_from m 0 log ≡ front ++ more → ⊥
never_begins m log front more v checked legal wrong same =
    let on = go_on_with m 0 log wrong.log wrong.line more (told_apart m checked) (written m log legal) (right_written m wrong.log (wrong_right m wrong.log wrong.line v wrong.wrong)) (same ∙ ap (λ (ls : List (List ℕ)). ls ++ more) wrong.shows) in
    let number : 0 + length wrong.log ≡ length wrong.log = omega arith in
    not_next m log wrong.log on.rest wrong.line on.entry v checked legal on.log
    (record {
      small = front_small log wrong.log on.rest on.entry on.log (legal_small m log legal);
      entry = subst (λ k. IsJournalEntry m k on.entry) number on.stands;
      text = on.text ∙ ap (λ k. text_of m k on.entry) number;
    })
    wrong.wrong

pub right_never_begins : (m : Model) (log : List Entry) (front more : List (List ℕ)) (v : Verdict) → IsChecked m → IsRight m log → IsWrongAtLast m front v → lines_from m 0 log ≡ front ++ more → ⊥
right_never_begins m log front more v checked (inl empty) wrong same =
    let none : length (front ++ more) ≡ 0 = ap (λ (ls : List (List ℕ)). length ls) (sym same) ∙ ap (λ (l : List Entry). length (lines_from m 0 l)) empty in
    let some : length front ≡ length (lines_from m 0 wrong.log) + 1 = ap (λ (ls : List (List ℕ)). length ls) wrong.shows ∙ length-append (lines_from m 0 wrong.log) (wrong.line ∷ []) in
    omega (arith, none, some, length-append front more)
right_never_begins m log front more v checked (inr legal) wrong same = never_begins m log front more v checked legal wrong same

-- ---- one verdict

-- the verdict of a line that is an entry's, by whether its event may be made and whether the log is full
abbrev verdict_by : Bool → Bool → ℕ → Reply → Verdict
verdict_by false full n answer = verdict.NotNow n
verdict_by true true n answer = verdict.Full n
verdict_by true false n answer = verdict.OtherReply n answer

not_now_by : (enabled full : Bool) (n k : ℕ) (answer : Reply) → enabled ≡ false → n ≡ k → verdict.NotNow n ≡ verdict_by enabled full k answer
not_now_by true full n k answer is same = absurd (cc)
not_now_by false full n k answer is same = ap verdict.NotNow same

full_by : (enabled full : Bool) (n k : ℕ) (answer : Reply) → enabled ≡ true → full ≡ true → n ≡ k → verdict.Full n ≡ verdict_by enabled full k answer
full_by false full n k answer on is same = absurd (cc)
full_by true false n k answer on is same = absurd (cc)
full_by true true n k answer on is same = ap verdict.Full same

other_by : (enabled full : Bool) (n k : ℕ) (r answer : Reply) → enabled ≡ true → full ≡ false → n ≡ k → r ≡ answer → verdict.OtherReply n r ≡ verdict_by enabled full k answer
other_by false full n k r answer on is same answers = absurd (cc)
other_by true true n k r answer on is same answers = absurd (cc)
other_by true false n k r answer on is same answers = ap (λ j. verdict.OtherReply j r) same ∙ ap (λ (x : Reply). verdict.OtherReply k x) answers

abbrev verdict_at : Model → List Entry → Entry → Verdict
verdict_at m log e = verdict_by (is_enabled (world_of m log) e.event) (nat_le (options_of log).entries (length log)) (length log) (reply_of (world_of m log) e.event)

is_verdict_at : (m : Model) (log : List Entry) (line : List ℕ) (e : Entry) (v : Verdict) → IsChecked m → IsLineOf m line (length log) e → IsWrongBehind m log line v → v ≡ verdict_at m log e
is_verdict_at m log line e (verdict.Legal entries done) checked is wrong = absurd wrong
is_verdict_at m log line e (verdict.NotALine n) checked is wrong = absurd (wrong.1 e is)
is_verdict_at m log line e (verdict.NotNow n) checked is wrong =
    let same : wrong.1.entry ≡ e = one_entry m (length log) line wrong.1.entry e checked wrong.1.reads is in
    not_now_by (is_enabled (world_of m log) e.event) (nat_le (options_of log).entries (length log)) n (length log) (reply_of (world_of m log) e.event)
    (subst (λ (x : Entry). is_enabled (world_of m log) x.event ≡ false) same wrong.1.disabled) wrong.0
is_verdict_at m log line e (verdict.Full n) checked is wrong =
    let same : wrong.1.entry ≡ e = one_entry m (length log) line wrong.1.entry e checked wrong.1.reads is in
    full_by (is_enabled (world_of m log) e.event) (nat_le (options_of log).entries (length log)) n (length log) (reply_of (world_of m log) e.event)
    (subst (λ (x : Entry). is_enabled (world_of m log) x.event ≡ true) same wrong.1.enabled) (le-leb (options_of log).entries (length log) wrong.1.full) wrong.0
is_verdict_at m log line e (verdict.OtherReply n answer) checked is wrong =
    let same : wrong.1.entry ≡ e = one_entry m (length log) line wrong.1.entry e checked wrong.1.reads is in
    other_by (is_enabled (world_of m log) e.event) (nat_le (options_of log).entries (length log)) n (length log) answer (reply_of (world_of m log) e.event)
    (subst (λ (x : Entry). is_enabled (world_of m log) x.event ≡ true) same wrong.1.enabled) (lt-leb (options_of log).entries (length log) wrong.1.room) wrong.0
    (wrong.1.answers ∙ ap (λ (x : Entry). reply_of (world_of m log) x.event) same)

-- an entry that has the line
record IsSomeLine (m : Model) (line : List ℕ) (n : ℕ) : Type 0 where
  entry : Entry
  is : IsLineOf m line n entry

is_line_or_not : (m : Model) (log : List Entry) (line : List ℕ) (v : Verdict) → IsWrongBehind m log line v → IsNoLine m line (length log) ⊎ IsSomeLine m line (length log)
is_line_or_not m log line (verdict.Legal entries done) wrong = absurd wrong
is_line_or_not m log line (verdict.NotALine n) wrong = inl wrong.1
is_line_or_not m log line (verdict.NotNow n) wrong = inr (record { entry = wrong.1.entry; is = wrong.1.reads })
is_line_or_not m log line (verdict.Full n) wrong = inr (record { entry = wrong.1.entry; is = wrong.1.reads })
is_line_or_not m log line (verdict.OtherReply n answer) wrong = inr (record { entry = wrong.1.entry; is = wrong.1.reads })

is_no_line : (m : Model) (log : List Entry) (line : List ℕ) (v : Verdict) → IsNoLine m line (length log) → IsWrongBehind m log line v → v ≡ verdict.NotALine (length log)
is_no_line m log line (verdict.Legal entries done) none wrong = absurd wrong
is_no_line m log line (verdict.NotALine n) none wrong = ap verdict.NotALine wrong.0
is_no_line m log line (verdict.NotNow n) none wrong = absurd (none wrong.1.entry wrong.1.reads)
is_no_line m log line (verdict.Full n) none wrong = absurd (none wrong.1.entry wrong.1.reads)
is_no_line m log line (verdict.OtherReply n answer) none wrong = absurd (none wrong.1.entry wrong.1.reads)

one_behind : (m : Model) (log : List Entry) (line : List ℕ) (v w : Verdict) → IsChecked m → IsWrongBehind m log line v → IsWrongBehind m log line w → v ≡ w
one_behind m log line v w checked one other = by_line (is_line_or_not m log line v one)
  where
    by_line : IsNoLine m line (length log) ⊎ IsSomeLine m line (length log) → v ≡ w
    by_line (inl none) = is_no_line m log line v none one ∙ sym (is_no_line m log line w none other)
    by_line (inr some) = is_verdict_at m log line some.entry v checked some.is one ∙ sym (is_verdict_at m log line some.entry w checked some.is other)

one_next : (m : Model) (log : List Entry) (line : List ℕ) (v w : Verdict) → IsChecked m → IsWrongNext m log line v → IsWrongNext m log line w → v ≡ w
one_next m log line v w checked (inl one) (inl other) = one.1 ∙ sym other.1
one_next m log line v w checked (inl one) (inr other) = absurd (subst (λ (l : List Entry). Legal m l) one.0 other.0)
one_next m log line v w checked (inr one) (inl other) = absurd (subst (λ (l : List Entry). Legal m l) other.0 one.0)
one_next m log line v w checked (inr one) (inr other) = one_behind m log line v w checked one.1 other.1

-- the last of some lines
record HasLast (lines : List (List ℕ)) : Type 0 where
  front : List (List ℕ)
  last : List ℕ
  is : lines ≡ front ++ last ∷ []

last_of : (lines : List (List ℕ)) → (lines ≡ []) ⊎ HasLast lines
last_of [] = inl refl
last_of (line ∷ lines) = by_rest (last_of lines)
  where
    by_rest : (lines ≡ []) ⊎ HasLast lines → (line ∷ lines ≡ []) ⊎ HasLast (line ∷ lines)
    by_rest (inl none) = inr (record { front = []; last = line; is = ap (λ (ls : List (List ℕ)). line ∷ ls) none })
    by_rest (inr some) = inr (record { front = line ∷ some.front; last = some.last; is = ap (λ (ls : List (List ℕ)). line ∷ ls) some.is })

pub one_verdict : (m : Model) (lines front more : List (List ℕ)) (v w : Verdict) → IsChecked m → IsWrongAtLast m lines v → IsWrongAtLast m front w → lines ≡ front ++ more → (v ≡ w) × (more ≡ [])
one_verdict m lines front more v w checked one other same = by_last (last_of more)
  where
    right : IsRight m one.log
    right = wrong_right m one.log one.line v one.wrong

    by_last : (more ≡ []) ⊎ HasLast more → (v ≡ w) × (more ≡ [])
    by_last (inl none) =
        let lines_are : lines_from m 0 one.log ++ one.line ∷ [] ≡ lines_from m 0 other.log ++ other.line ∷ [] = sym one.shows ∙ (same ∙ (ap (λ (ls : List (List ℕ)). front ++ ls) none ∙ (append-nil front ∙ other.shows))) in
        let parts = same_from_push (lines_from m 0 one.log) (lines_from m 0 other.log) one.line other.line lines_are in
        let log : one.log ≡ other.log = lines_same m 0 one.log other.log (told_apart m checked) (right_written m one.log right) (right_written m other.log (wrong_right m other.log other.line w other.wrong)) parts.0 in
        let wrong : IsWrongNext m other.log other.line v = subst (λ (l : List Entry). IsWrongNext m l other.line v) log (subst (λ (b : List ℕ). IsWrongNext m one.log b v) parts.1 one.wrong) in
        (one_next m other.log other.line v w checked wrong other.wrong, none)
    by_last (inr some) =
        let lines_are : lines_from m 0 one.log ++ one.line ∷ [] ≡ (front ++ some.front) ++ some.last ∷ [] = sym one.shows ∙ (same ∙ (ap (λ (ls : List (List ℕ)). front ++ ls) some.is ∙ sym (append_assoc front some.front (some.last ∷ [])))) in
        absurd (right_never_begins m one.log front some.front w checked right other (same_from_push (lines_from m 0 one.log) (front ++ some.front) one.line some.last lines_are).0)
