-- An entry read back from the words of its line.
use Rattle.std.proofs.Common.{◌≡◌, ◌≢◌, ℕ, ℤ, pos, negsuc, zero, suc, ◌+◌, ◌<◌, ◌≤ℤ◌, ◌^◌, true, cond, List, [], ◌∷◌, ◌++◌, length, get_or, drop, Option, Some, None, codes, refl, ap, sym, ◌∙◌, append_assoc, arith}
use Rattle.std.specs.Prelude.{IfSome, slice_get}
use Rattle.std.specs.List.{AllByRecursion, All}
use Rattle.std.specs.Str.Parse.{digits_value}
use Rattle.std.specs.Fmt.{decimal, signed_decimal}
use Rattle.std.proofs.lemmas.Fmt.{decimal_is_IsNumeral}
use Rattle.std.proofs.lemmas.Int.{ints}
use Rattle.std.proofs.lemmas.List.{drop_at, length-append}
use Rattle.std.proofs.lemmas.List.Elements.{All-head, All-tail}
use Rattle.pl_model.specs.declared.parameters.Param.{Param}
use Rattle.pl_model.specs.declared.kinds.Kind.{Kind}
use Rattle.pl_model.specs.declared.whole.Model.{Model}
use Rattle.pl_conflict.specs.declared.conflict.Code.{Code}
use Rattle.pl_conflict.specs.declared.conflict.Code.TheVariants as code
use Rattle.pl_conflict.specs.declared.conflict.Conflict.{Conflict}
use Rattle.pl_plan.specs.declared.repair.RepairMove.{RepairMove}
use Rattle.pl_plan.specs.declared.repair.RepairMove.TheVariants as repair
use Rattle.pl_entry.specs.declared.reply.Reply.{Reply}
use Rattle.pl_entry.specs.declared.reply.Reply.TheVariants as reply
use Rattle.pl_entry.specs.declared.reply.Reason.TheVariants as reason
use Rattle.pl_entry.specs.Bounds.{IsWord, IsConflictInRange, IsMoveInRange, IsFixReply, IsRestReply, IsCommitReply, IsSent, IsDispatchReply}
use Rattle.pl_journal.specs.Rendering.Lines.{code_word, conflict_words, kind_params, move_words, values_words, reply_words}
use Rattle.pl_journal.proofs.AboutRendering.Cutting.{lacks, cut, cut_behind}
use Rattle.pl_journal.proofs.AboutRendering.Finding.{same, same_itself, same_not}
use Rattle.pl_journal.proofs.AboutRendering.Told.{Differ, AreTold, IsPlainName, kind_names, param_names, index_of, kind_found, first_differs, rest_differ}

-- ---- words and numbers

abbrev pub word_at : List (List ℕ) → ℕ → List ℕ
word_at ws i = get_or ws i []

abbrev pub number_in : List ℕ → ℕ
number_in w = digits_value 10 w

abbrev pub value_in : List ℕ → ℤ
value_in w = pos (number_in w)

pub count_back : (n : ℕ) → n < 2 ^ 64 → number_in (decimal n) ≡ n
count_back n h = (decimal_is_IsNumeral n h).1

pub word_back : (n : ℕ) → IsWord n → number_in (decimal n) ≡ n
word_back n h = count_back n (omega arith)

pub value_back : (z : ℤ) → (pos 0 ≤ℤ z) × (z ≤ℤ pos 1000000000) → value_in (signed_decimal z) ≡ z
value_back (pos n) h = ap pos (count_back n (omega (arith, ints)))
value_back (negsuc n) h = absurd (omega (arith, ints))

-- ---- conflicts

abbrev pub code_in : List ℕ → Code
code_in w =
    cond (same w (codes "open-goal")) code.OpenGoal (cond (same w (codes "off-goal")) code.OffGoal (cond (same w (codes "late")) code.Late (cond (same w (codes "unset")) code.Unset
    (cond (same w (codes "bad-value")) code.BadValue (cond (same w (codes "undetailed")) code.Undetailed (cond (same w (codes "overrun")) code.Overrun (cond (same w (codes "temporal")) code.Temporal
    (cond (same w (codes "link")) code.Linked (cond (same w (codes "over")) code.Over (cond (same w (codes "low")) code.Low (cond (same w (codes "high")) code.High
    (cond (same w (codes "must")) code.Must code.BadStep))))))))))))

pub code_back : (c : Code) → code_in (code_word c) ≡ c
code_back code.OpenGoal = refl
code_back code.OffGoal = refl
code_back code.Late = refl
code_back code.Unset = refl
code_back code.BadValue = refl
code_back code.Undetailed = refl
code_back code.Overrun = refl
code_back code.Temporal = refl
code_back code.Linked = refl
code_back code.Over = refl
code_back code.Low = refl
code_back code.High = refl
code_back code.Must = refl
code_back code.BadStep = refl

abbrev pub conflict_in : List (List ℕ) → Conflict
conflict_in ws = record { from = number_in (word_at ws 0); code = code_in (word_at ws 1); subject = number_in (word_at ws 2); detail = number_in (word_at ws 3); a = number_in (word_at ws 4); b = number_in (word_at ws 5) }

pub conflict_back : (k : Conflict) (more : List (List ℕ)) → IsConflictInRange k → conflict_in (conflict_words k ++ more) ≡ k
conflict_back k more h =
    rw (word_back k.from h.from, code_back k.code, word_back k.subject h.subject, word_back k.detail h.detail, word_back k.a h.a, word_back k.b h.b) refl

-- ---- moves

abbrev pub goal_in : List (List ℕ) → Option ℕ
goal_in ws = cond (same (word_at ws 0) (codes "goal")) (Some (number_in (word_at ws 1))) None

abbrev pub move_in : Model → List (List ℕ) → RepairMove
move_in m ws =
    cond (same (word_at ws 0) (codes "add")) (repair.Add (index_of (kind_names m) (word_at ws 1)) (number_in (word_at ws 2)) (goal_in (drop 3 ws)))
    (cond (same (word_at ws 0) (codes "delete")) (repair.Delete (number_in (word_at ws 1)))
    (cond (same (word_at ws 0) (codes "shift")) (repair.Shift (number_in (word_at ws 1)) (number_in (word_at ws 2)))
    (cond (same (word_at ws 0) (codes "detail")) (repair.Detail (number_in (word_at ws 1)) (number_in (word_at ws 2)))
    (cond (same (word_at ws 0) (codes "abstract")) (repair.Abstract (number_in (word_at ws 1)))
    (cond (same (word_at ws 0) (codes "assign")) (repair.Assign (number_in (word_at ws 1)) (number_in (word_at ws 2)) (value_in (word_at ws 3)))
    (repair.Drop (number_in (word_at ws 1))))))))

pub move_back : (m : Model) (move : RepairMove) (more : List (List ℕ)) → AreTold m → IsMoveInRange m move → move_in m (move_words m move ++ codes ":" ∷ more) ≡ move
move_back m (repair.Add kind start None) more told h =
    rw (kind_found m kind told h.0, word_back start h.2) refl
move_back m (repair.Add kind start (Some goal)) more told h =
    rw (kind_found m kind told h.0, word_back start h.2, word_back goal h.3) refl
move_back m (repair.Delete id) more told h = rw (word_back id h) refl
move_back m (repair.Shift id start) more told h = rw (word_back id h.0, word_back start h.1) refl
move_back m (repair.Detail id alternative) more told h = rw (word_back id h.0, word_back alternative h.1) refl
move_back m (repair.Abstract id) more told h = rw (word_back id h) refl
move_back m (repair.Assign id param value) more told h = rw (word_back id h.0, count_back param (omega arith), value_back value h.2) refl
move_back m (repair.Drop goal) more told h = rw (word_back goal h) refl

-- ---- commands

abbrev pub values_in : List Param → List (List ℕ) → List (Option ℤ)
values_in [] ws = []
values_in (p ∷ ps) [] = None ∷ values_in ps []
values_in (p ∷ ps) (w ∷ ws) =
    cond (same p.name (word_at (cut 61 w) 0)) (Some (value_in (drop (length p.name + 1) w)) ∷ values_in ps ws) (None ∷ values_in ps (w ∷ ws))

name_first : (name value : List ℕ) → lacks 61 name ≡ true → word_at (cut 61 (name ++ 61 ∷ value)) 0 ≡ name
name_first name value h = ap (λ (ws : List (List ℕ)). word_at ws 0) (cut_behind 61 name value h)

value_second : (name value : List ℕ) → drop (length name + 1) (name ++ 61 ∷ value) ≡ value
value_second name value =
    let regrouped : name ++ 61 ∷ value ≡ name ++ 61 ∷ [] ++ value = sym (append_assoc name (61 ∷ []) value) in
    ap (λ (x : List ℕ). drop (length name + 1) x) regrouped ∙ drop_at (name ++ 61 ∷ []) value (length name + 1) (grind (arith, length-append))

-- the words of others say nothing of a parameter
others : (p : Param) (ts ps : List Param) (vs : List (Option ℤ)) → AllByRecursion (λ n. p.name ≢ n) (param_names ps) → AllByRecursion IsPlainName ps → values_in (p ∷ ts) (values_words ps vs) ≡ None ∷ values_in ts (values_words ps vs)
others p ts [] vs d named = refl
others p ts (q ∷ qs) [] d named = refl
others p ts (q ∷ qs) (None ∷ vs) d named = others p ts qs vs d.1 named.1
others p ts (q ∷ qs) (Some v ∷ vs) d named =
    rw (name_first q.name (signed_decimal v) named.0.1, same_not p.name q.name d.0) refl

pub values_back : (ps : List Param) (vs : List (Option ℤ)) → length vs ≡ length ps → Differ (param_names ps) → AllByRecursion IsPlainName ps → All (λ v. IfSome v (λ z. (pos 0 ≤ℤ z) × (z ≤ℤ pos 1000000000))) vs → values_in ps (values_words ps vs) ≡ vs
values_back [] [] l d named h = refl
values_back [] (v ∷ vs) l d named h = absurd (omega arith)
values_back (p ∷ ps) [] l d named h = absurd (omega arith)
values_back (p ∷ ps) (None ∷ vs) l d named h =
    others p ps ps vs (first_differs p.name (param_names ps) d) named.1
    ∙ ap (λ (x : List (Option ℤ)). None ∷ x) (values_back ps vs (omega arith) (rest_differ p.name (param_names ps) d) named.1 (All-tail (λ v. IfSome v (λ z. (pos 0 ≤ℤ z) × (z ≤ℤ pos 1000000000))) None vs h))
values_back (p ∷ ps) (Some v ∷ vs) l d named h =
    let range = All-head (λ v. IfSome v (λ z. (pos 0 ≤ℤ z) × (z ≤ℤ pos 1000000000))) (Some v) vs h in
    let more = values_back ps vs (omega arith) (rest_differ p.name (param_names ps) d) named.1 (All-tail (λ v. IfSome v (λ z. (pos 0 ≤ℤ z) × (z ≤ℤ pos 1000000000))) (Some v) vs h) in
    rw (name_first p.name (signed_decimal v) named.0.1, same_itself p.name, value_second p.name (signed_decimal v), value_back v range, more) refl

-- ---- replies

abbrev pub input_reply_in : List ℕ → Reply
input_reply_in w =
    cond (same w (codes "ok")) reply.Done (cond (same w (codes "end")) reply.Ended (cond (same w (codes "bad-line")) reply.BadLine (cond (same w (codes "unknown-name")) reply.UnknownName
    (cond (same w (codes "range")) reply.Range (cond (same w (codes "duplicate-goal")) reply.DuplicateGoal (cond (same w (codes "too-late")) reply.TooLate (cond (same w (codes "tick-back")) reply.TickBack
    (cond (same w (codes "tick-beyond")) reply.TickBeyond (cond (same w (codes "too-many-goals")) reply.TooManyGoals (cond (same w (codes "not-begun")) reply.NotBegun reply.EndBack))))))))))

abbrev pub fix_reply_in : List (List ℕ) → Reply
fix_reply_in ws =
    cond (same (word_at ws 0) (codes "ok")) reply.Done (cond (same (word_at ws 0) (codes "stale")) reply.Stale (cond (same (word_at ws 0) (codes "not-for")) reply.NotFor
    (cond (same (word_at ws 0) (codes "locked")) (reply.Locked (number_in (word_at ws 1))) (cond (same (word_at ws 0) (codes "behind")) (reply.Behind (number_in (word_at ws 1)))
    (cond (same (word_at ws 0) (codes "beyond")) (reply.Beyond (number_in (word_at ws 1))) reply.Full)))))

abbrev pub rest_reply_in : List ℕ → Reply
rest_reply_in w = reply.Rested (cond (same w (codes "clear")) reason.Clear (cond (same w (codes "spent")) reason.Spent reason.Stuck))

abbrev pub commit_reply_in : List (List ℕ) → Reply
commit_reply_in ws =
    cond (same (word_at ws 0) (codes "ok")) reply.Done (cond (same (word_at ws 0) (codes "behind")) reply.CommitBehind
    (cond (same (word_at ws 0) (codes "beyond")) reply.CommitBeyond (reply.Held (conflict_in (drop 1 ws)))))

abbrev pub sent_in : Model → List (List ℕ) → Reply
sent_in m ws =
    reply.Sent (number_in (word_at ws 0)) (index_of (kind_names m) (word_at ws 1)) (number_in (word_at ws 2)) (values_in (kind_params m (index_of (kind_names m) (word_at ws 1))) (drop 3 ws))

pub fix_reply_back : (m : Model) (r : Reply) → IsFixReply r → fix_reply_in (reply_words m r) ≡ r
fix_reply_back m reply.Done h = refl
fix_reply_back m reply.Stale h = refl
fix_reply_back m reply.NotFor h = refl
fix_reply_back m (reply.Locked id) h = rw (word_back id h) refl
fix_reply_back m (reply.Behind id) h = rw (word_back id h) refl
fix_reply_back m (reply.Beyond id) h = rw (word_back id h) refl
fix_reply_back m reply.Full h = refl
fix_reply_back m _ h = absurd h

pub rest_reply_back : (m : Model) (r : Reply) → IsRestReply r → (reply_words m r ≡ word_at (reply_words m r) 0 ∷ []) × (rest_reply_in (word_at (reply_words m r) 0) ≡ r)
rest_reply_back m (reply.Rested reason.Clear) h = (refl, refl)
rest_reply_back m (reply.Rested reason.Spent) h = (refl, refl)
rest_reply_back m (reply.Rested reason.Stuck) h = (refl, refl)
rest_reply_back m _ h = absurd h

pub commit_reply_back : (m : Model) (r : Reply) → IsCommitReply r → commit_reply_in (reply_words m r) ≡ r
commit_reply_back m reply.Done h = refl
commit_reply_back m reply.CommitBehind h = refl
commit_reply_back m reply.CommitBeyond h = refl
commit_reply_back m (reply.Held k) h =
    ap (λ (x : Conflict). reply.Held x) (conflict_back k [] h)
commit_reply_back m _ h = absurd h

sent_by : (m : Model) (id kind start : ℕ) (values : List (Option ℤ)) (k : Option Kind) → slice_get m.kinds kind ≡ k → IsSent id start values k → (kind < length m.kinds) × IsWord id × IsWord start × (length values ≡ length (kind_params m kind)) × All (λ v. IfSome v (λ z. (pos 0 ≤ℤ z) × (z ≤ℤ pos 1000000000))) values
sent_by m id kind start values None e h = absurd h
sent_by m id kind start values (Some k) e h = (kind_within m.kinds kind k e, h.0, h.1, rw e h.2, h.3)
  where
    kind_within : (ks : List Kind) (i : ℕ) (k : Kind) → slice_get ks i ≡ Some k → i < length ks
    kind_within [] i k e = absurd cc
    kind_within (x ∷ ks) zero k e = omega arith
    kind_within (x ∷ ks) (suc i) k e = omega (arith, kind_within ks i k e)

pub sent_back : (m : Model) (r : Reply) → AreTold m → IsDispatchReply m r → sent_in m (reply_words m r) ≡ r
sent_back m (reply.Sent id kind start values) told h =
    let s = sent_by m id kind start values (slice_get m.kinds kind) refl h.1 in
    rw (kind_found m kind told s.0, word_back id s.1, word_back start s.2, values_back (kind_params m kind) values s.3 (told.params kind) (told.params_plain kind) s.4) refl
sent_back m _ told h = absurd h
