-- Each commit, dispatch and close of a history is what the executive chooses there.
use Rattle.std.proofs.Common.{◌≡◌, ◌≢◌, ℕ, zero, suc, ◌+◌, ◌-◌, ◌≤◌, ◌<◌, List, [], ◌∷◌, ◌++◌, length, map, cond, nat_eq, Bool, true, false, Option, Some, None, slice_get, refl, sym, ◌∙◌, ap, subst, arith, inl, inr, append_assoc, eqb-true, length-append}
use Rattle.std.specs.List.{All}
use Rattle.std.proofs.lemmas.List.{append-nil}
use Rattle.std.proofs.lemmas.List.Sums.{sum_by-cons, sum_by-append}
use Rattle.std.proofs.lemmas.List.Elements.{All-nil, All-cons, All-head, All-tail, All-append}
use Rattle.std.proofs.lemmas.Option.{same_Some}
use Rattle.pl_turn.specs.History.{IsEachOnce, StandsFrom, StandsIn, times_at, times_in}
use Rattle.pl_marks.specs.declared.author.Author.{Author}
use Rattle.pl_model.specs.declared.whole.Model.{Model}
use Rattle.pl_entry.specs.declared.event.Event.{Event}
use Rattle.pl_entry.specs.declared.event.Event.TheVariants as event
use Rattle.pl_entry.specs.declared.entry.Entry.{Entry}
use Rattle.pl_machine.specs.declared.stop.Stop.{Stop}
use Rattle.pl_machine.specs.World.{World}
use Rattle.pl_machine.specs.Choices.{exec_choice_of}
use Rattle.pl_machine.specs.Legal.{world_of}
use Rattle.pl_acts.specs.declared.noted.Noted.{Noted}
use Rattle.pl_acts.specs.declared.noted.Noted.TheVariants.{Opened, Made, Stopped}
use Rattle.pl_acts.specs.declared.role.Role.{Role}
use Rattle.pl_acts.specs.declared.role.Role.TheVariants.{Planner, Executive}
use Rattle.pl_acts.specs.Items.{Signs, SignedEntry, made_of, with_authors, stop_items, items_of, entries_in, model_in, InWorld}
use Rattle.pl_acts.specs.Roles.{is_input, is_repair, is_executed, is_entry, IsChosen}
use Rattle.pl_acts.specs.Sights.{IsDueBy}
use Rattle.pl_acts.specs.Making.{IsMadeAt, MakesAll}
use Rattle.pl_acts.proofs.Items.{entries_in_items, length_going}
use Rattle.pl_acts.proofs.EntryKinds.{by_kind}
use Rattle.pl_pair.specs.Duties.{role_of, begun_of}
use Rattle.pl_pair.specs.Served.{AreOf, IsStopAtMost, AreOfUntil, MakesUntil, MakesOwn}
use Rattle.pl_pair.specs.Runs.{Service, ServedIn, owns_of}
use Rattle.pl_pair.specs.Chosen.{AreChosen}
use Rattle.pl_pair.proofs.Onward.{world_in}
use Rattle.pl_pair.proofs.OwnItems.{one_at, at_other, stands_back, at_front}

-- ---- who does not make it

abbrev NoneExecuted : List (ℕ × Noted) → Type 0
NoneExecuted own = All (λ x. is_entry is_executed x.1 ≡ false) own

repair_apart : (v : Event) → is_repair v ≡ true → is_executed v ≡ false
repair_apart (event.Opened o) e = refl
repair_apart (event.Input line) e = refl
repair_apart (event.Fix k m) e = refl
repair_apart event.Rest e = refl
repair_apart (event.Commit h) e = absurd (cc)
repair_apart event.Dispatch e = absurd (cc)
repair_apart event.Close e = absurd (cc)

input_apart : (v : Event) → is_input v ≡ true → is_executed v ≡ false
input_apart (event.Opened o) e = refl
input_apart (event.Input line) e = refl
input_apart (event.Fix k m) e = refl
input_apart event.Rest e = refl
input_apart (event.Commit h) e = absurd (cc)
input_apart event.Dispatch e = absurd (cc)
input_apart event.Close e = absurd (cc)

item_apart : (test : Event → Bool) → ((v : Event) → test v ≡ true → is_executed v ≡ false) → (x : Noted) → is_entry test x ≡ true → is_entry is_executed x ≡ false
item_apart test apart (Opened m n e) is = refl
item_apart test apart (Made by e) is = apart e.event is
item_apart test apart (Stopped by) is = refl

own_apart : (test : Event → Bool) → ((v : Event) → test v ≡ true → is_executed v ≡ false) → (own : List (ℕ × Noted)) → AreOf test own → NoneExecuted own
own_apart test apart [] are = All-nil (λ x. is_entry is_executed x.1 ≡ false)
own_apart test apart (x ∷ xs) are =
    All-cons (λ y. is_entry is_executed y.1 ≡ false) x xs (item_apart test apart x.1 (All-head (λ y. is_entry test y.1 ≡ true) x xs are)) (own_apart test apart xs (All-tail (λ y. is_entry test y.1 ≡ true) x xs are))

stop_apart : (rest : List (ℕ × Noted)) → IsStopAtMost rest → NoneExecuted rest
stop_apart rest (inl none) = subst NoneExecuted (sym none) (All-nil (λ x. is_entry is_executed x.1 ≡ false))
stop_apart rest (inr one) = subst NoneExecuted (sym one.2) (All-cons (λ x. is_entry is_executed x.1 ≡ false) (one.0, Stopped one.1) [] refl (All-nil (λ x. is_entry is_executed x.1 ≡ false)))

until_apart : (test : Event → Bool) → ((v : Event) → test v ≡ true → is_executed v ≡ false) → (mine : List (ℕ × Noted)) → AreOfUntil test mine → NoneExecuted mine
until_apart test apart mine made =
    subst NoneExecuted (sym made.whole) (All-append (λ x. is_entry is_executed x.1 ≡ false) made.own made.rest (own_apart test apart made.own made.kinds) (stop_apart made.rest made.behind))

-- of other entries none stands at its place
times_apart : (h : List Noted) (low p : ℕ) (e : Noted) (own : List (ℕ × Noted)) → StandsFrom h low own → NoneExecuted own → slice_get h p ≡ Some e → is_entry is_executed e ≡ true → times_at p own ≡ 0
times_apart h low p e [] s fails at passes = refl
times_apart h low p e (x ∷ xs) s fails at passes =
    let here : x.0 ≢ p = λ same.
    (let got : Some x.1 ≡ Some e = sym s.1 ∙ (ap (λ (k : ℕ). slice_get h k) same ∙ at) in
    let is : x.1 ≡ e = same_Some x.1 e got in
    let both : true ≡ false = sym passes ∙ (ap (is_entry is_executed) (sym is) ∙ All-head (λ y. is_entry is_executed y.1 ≡ false) x xs fails) in absurd (cc both)) in
    let none = at_other p x here in
    let rest = times_apart h (suc x.0) p e xs s.2 (All-tail (λ y. is_entry is_executed y.1 ≡ false) x xs fails) at passes in omega (arith, sum_by-cons (one_at p) x xs)

-- ---- who makes it

-- what stands at the place, in the list of a worker
pub record MadeHere (items : List Noted) (p : ℕ) : Type 0 where
  pub role : Role
  pub role2 : Role
  pub low : ℕ
  pub item : Noted
  pub made : IsMadeAt role low items p item role2

made_first : (items : List Noted) (p low : ℕ) (r r2 : Role) (x : ℕ × Noted) (own : List (ℕ × Noted)) → IsMadeAt r low items x.0 x.1 r2 → (times_at p own ≡ 1 → MadeHere items p) → times_at p (x ∷ own) ≡ 1
    → (b : Bool) → nat_eq x.0 p ≡ b → MadeHere items p
made_first items p low r r2 x own made rest times true e =
    let same : x.0 ≡ p = eqb-true x.0 p e in
    record { role = r; role2 = r2; low = low; item = x.1; made = subst (λ (k : ℕ). IsMadeAt r low items k x.1 r2) same made }
made_first items p low r r2 x own made rest times false e =
    let none : one_at p x ≡ 0 = ap (λ (b : Bool). cond b 1 0) e in
    rest (omega (arith, times, none, sum_by-cons (one_at p) x own))

made_here : (items : List Noted) (p low : ℕ) (r r2 : Role) (own : List (ℕ × Noted)) → MakesAll r low items own r2 → times_at p own ≡ 1 → MadeHere items p
made_here items p low r r2 [] all times = absurd (let h : 0 ≡ 1 = times in omega arith)
made_here items p low r r2 (x ∷ own) all times = made_first items p low all.0 all.2 x own all.3 (λ t. made_here items p (x.0 + 1) all.2 r2 own all.4 t) times (nat_eq x.0 p) refl

-- a worker's list, and a stop behind it at most
makes_split : (met : Option Stop) (r : Role) (low : ℕ) (items : List Noted) (mine : List (ℕ × Noted)) (last : Role) → MakesOwn met r low items mine last → MakesUntil r low items mine
makes_split None r low items mine last made = record { own = mine; rest = []; whole = sym (append-nil mine); last = last; made = made; behind = inl refl }
makes_split (Some s) r low items mine last made = made

-- what a role makes of this kind is the executive's
due_chosen : (r r2 : Role) (low : ℕ) (before : List Noted) (e : Entry) → is_executed e.event ≡ true → IsDueBy r r2 low before e → InWorld before (λ w. IsChosen (exec_choice_of w) e.event)
due_chosen (Planner g) r2 low before e executed due =
    absurd (let kind : is_repair e.event ≡ true = (by_kind (Planner g) r2 low before e due.1).0 in let both : true ≡ false = sym executed ∙ repair_apart e.event kind in cc)
due_chosen Executive (Planner g2) low before e executed due = absurd due.1
due_chosen Executive Executive low before e executed due = due.1

-- it is a worker's
module _ (items : List Noted) (p : ℕ) (by : Option Author) (e : Entry) (at : slice_get items p ≡ Some (Made by e)) (executed : is_executed e.event ≡ true) where
  owned_by : (s : Service) (rest : ℕ) → StandsIn items s.own → ServedIn items s → times_at p s.own + rest ≡ 1 → (rest ≡ 1 → MadeHere items p) → MadeHere items p
  owned_by s rest stands served one other = by_times (times_at p split.own) refl
    where
      split : MakesUntil (role_of s.duty) (begun_of s.duty) items s.own
      split = makes_split s.met (role_of s.duty) (begun_of s.duty) items s.own s.last served.made

      stop_none : times_at p split.rest ≡ 0
      stop_none =
          let behind : StandsIn items split.rest = stands_back items 0 split.own split.rest (subst (λ (l : List (ℕ × Noted)). StandsIn items l) split.whole stands) in
          times_apart items 0 p (Made by e) split.rest behind (stop_apart split.rest split.behind) at executed

      parts : times_at p s.own ≡ times_at p split.own + times_at p split.rest
      parts = ap (λ (l : List (ℕ × Noted)). times_at p l) split.whole ∙ sum_by-append (one_at p) split.own split.rest

      by_times : (n : ℕ) → times_at p split.own ≡ n → MadeHere items p
      by_times zero is = other (omega (arith, one, parts, stop_none, is))
      by_times (suc n) is = made_here items p (begun_of s.duty) (role_of s.duty) split.last split.own split.made (omega (arith, one, parts, stop_none, is))

  owned : (services : List Service) → All (StandsIn items) (owns_of services) → All (ServedIn items) services → times_in p (owns_of services) ≡ 1 → MadeHere items p
  owned [] stands each one = absurd (let h : 0 ≡ 1 = one in omega arith)
  owned (s ∷ services) stands each one =
      let sum = sum_by-cons (times_at p) s.own (owns_of services) in
      owned_by s (times_in p (owns_of services)) (All-head (StandsIn items) s.own (owns_of services) stands) (All-head (ServedIn items) s services each) (omega (arith, one, sum))
      (λ rest. owned services (All-tail (StandsIn items) s.own (owns_of services) stands) (All-tail (ServedIn items) s services each) rest)

-- ---- the items of a log, taken apart behind a front of it

same_front : (xs ys us vs : List Noted) → length xs ≡ length us → xs ++ ys ≡ us ++ vs → xs ≡ us
same_front [] ys [] vs long e = refl
same_front [] ys (u ∷ us) vs long e = absurd (omega arith)
same_front (x ∷ xs) ys [] vs long e = absurd (omega arith)
same_front (x ∷ xs) ys (u ∷ us) vs long e =
    let head : x ≡ u = (let h : x ∷ (xs ++ ys) ≡ u ∷ (us ++ vs) = e in (cc)) in
    let rest : xs ++ ys ≡ us ++ vs = (let h : x ∷ (xs ++ ys) ≡ u ∷ (us ++ vs) = e in (cc)) in
    let shorter : length xs ≡ length us = (let l : suc (length xs) ≡ suc (length us) = long in omega arith) in
    ap (λ (z : Noted). z ∷ xs) head ∙ ap (λ (zs : List Noted). u ∷ zs) (same_front xs ys us vs shorter rest)

-- the entry behind a front has one author, or none, whatever the others have
abbrev SplitsAt : ℕ → List Author → (log es : List Entry) → Entry → Type 0
SplitsAt k authors log es e = (by : Option Author) × (rest : List SignedEntry) × (with_authors k authors (log ++ e ∷ es) ≡ with_authors k authors log ++ (by, e) ∷ rest)

with_split : (k : ℕ) (authors : List Author) (log es : List Entry) (e : Entry) → SplitsAt k authors log es e
with_split (suc k) authors [] es e = (None, with_authors k authors es, refl)
with_split (suc k) authors (x ∷ log) es e = (let r = with_split k authors log es e in (r.0, r.1, ap (λ (zs : List SignedEntry). (None, x) ∷ zs) r.2))
with_split zero [] [] es e = (None, with_authors zero [] es, refl)
with_split zero [] (x ∷ log) es e = (let r = with_split zero [] log es e in (r.0, r.1, ap (λ (zs : List SignedEntry). (None, x) ∷ zs) r.2))
with_split zero (a ∷ authors) [] es e = (Some a, with_authors zero authors es, refl)
with_split zero (a ∷ authors) (x ∷ log) es e = (let r = with_split zero authors log es e in (r.0, r.1, ap (λ (zs : List SignedEntry). (Some a, x) ∷ zs) r.2))

-- the same history, before a stop
abbrev going : Signs → Signs
going s = record s { stopper = None }

made_split : (xs ys : List SignedEntry) (x : SignedEntry) (s : Option Author) → map made_of (xs ++ x ∷ ys) ++ stop_items s ≡ (map made_of xs ++ []) ++ made_of x ∷ (map made_of ys ++ stop_items s)
made_split [] ys x s = refl
made_split (z ∷ xs) ys x s = ap (λ (zs : List Noted). made_of z ∷ zs) (made_split xs ys x s)

items_split : (m : Model) (log es : List Entry) (e : Entry) (s : Signs) → 0 < length log
    → (by : Option Author) × (rest : List SignedEntry) × (items_of m (log ++ e ∷ es) s ≡ items_of m log (going s) ++ Made by e ∷ (map made_of rest ++ stop_items s.stopper))
unfolding items_of
items_split m [] es e s some = absurd (omega arith)
items_split m (first ∷ log) es e s some =
    let k = s.by.opening - 1 in
    let r = with_split k s.by.authors log es e in (
      r.0,
      r.1,
      ap (λ (zs : List SignedEntry). Opened m s.by.opening first ∷ (map made_of zs ++ stop_items s.stopper)) r.2
          ∙ ap (λ (zs : List Noted). Opened m s.by.opening first ∷ zs) (made_split (with_authors k s.by.authors log) r.1 (r.0, e) s.stopper),
    )

model_some : (m : Model) (log : List Entry) (s : Signs) → 0 < length log → model_in (items_of m log s) ≡ Some m
unfolding items_of
model_some m [] s some = absurd (omega arith)
model_some m (first ∷ log) s some = refl

made_same : (by by2 : Option Author) (a b : Entry) → Some (Made by a) ≡ Some (Made by2 b) → a ≡ b
made_same by by2 a b e = cc

module _ (m : Model) (whole : List Entry) (stop : Signs) (feeder : List (ℕ × Noted)) (services : List Service) (opening : ℕ) (stands : All (StandsIn (items_of m whole stop)) (feeder ∷ owns_of services))
    (owners : IsEachOnce opening (length (items_of m whole stop)) (λ place. times_in place (feeder ∷ owns_of services))) (inputs : AreOfUntil is_input feeder) (each : All (ServedIn (items_of m whole stop)) services) where
  -- it is a worker's
  executed_here : (p : ℕ) (by : Option Author) (e : Entry) → opening ≤ p → p < length (items_of m whole stop) → slice_get (items_of m whole stop) p ≡ Some (Made by e) → is_executed e.event ≡ true → MadeHere (items_of m whole stop) p
  executed_here p by e past within at is =
      let items = items_of m whole stop in
      let none = times_apart items 0 p (Made by e) feeder (All-head (StandsIn items) feeder (owns_of services) stands) (until_apart is_input input_apart feeder inputs) at is in
      let one = owners.inside p past within in
      let sum = sum_by-cons (times_at p) feeder (owns_of services) in
      owned items p by e at is services (All-tail (StandsIn items) feeder (owns_of services) stands) each (omega (arith, none, one, sum))

  module _ (log es : List Entry) (e : Entry) (some : 0 < length log) (past : opening ≤ length log) (is : whole ≡ log ++ e ∷ es) where
    abbrev front : List Noted
    front = items_of m log (going stop)

    split_at : (by : Option Author) × (rest : List SignedEntry) × (items_of m (log ++ e ∷ es) stop ≡ front ++ Made by e ∷ (map made_of rest ++ stop_items stop.stopper))
    split_at = items_split m log es e stop some

    abbrev by : Option Author
    by = split_at.0

    abbrev behind : List Noted
    behind = map made_of split_at.1 ++ stop_items stop.stopper

    parts : items_of m whole stop ≡ front ++ Made by e ∷ behind
    parts = ap (λ (l : List Entry). items_of m l stop) is ∙ split_at.2

    front_length : length front ≡ length log
    front_length = length_going m log (going stop) refl

    here : slice_get (items_of m whole stop) (length log) ≡ Some (Made by e)
    here =
        ap (λ (xs : List Noted). slice_get xs (length log)) parts
        ∙ ap (λ (k : ℕ). slice_get (front ++ Made by e ∷ behind) k) (sym front_length)
        ∙ at_front front behind (Made by e)

    within : length log < length (items_of m whole stop)
    within =
        let long = ap (λ (xs : List Noted). length xs) parts ∙ length-append front (Made by e ∷ behind) in
        let front_long = front_length in
        omega (arith, long, front_long)

    -- what was made there was made behind the log
    chosen_by : is_executed e.event ≡ true → MadeHere (items_of m whole stop) (length log) → IsChosen (exec_choice_of (world_of m log)) e.event
    chosen_by executed made =
        let is' = made.made in
        let both : is'.before ++ Made is'.author is'.entry ∷ is'.behind ≡ front ++ Made by e ∷ behind = sym is'.whole ∙ parts in
        let before : is'.before ≡ front = same_front is'.before (Made is'.author is'.entry ∷ is'.behind) front (Made by e ∷ behind) (sym is'.stands ∙ sym front_length) both in
        let at : slice_get (items_of m whole stop) (length log) ≡ Some (Made is'.author is'.entry) =
        ap (λ (xs : List Noted). slice_get xs (length log)) is'.whole ∙ ap (λ (k : ℕ). slice_get (is'.before ++ Made is'.author is'.entry ∷ is'.behind) k) is'.stands ∙ at_front is'.before is'.behind (Made is'.author is'.entry) in
        let same : is'.entry ≡ e = made_same is'.author by is'.entry e (sym at ∙ here) in
        let P : World → Type 0 = λ w. IsChosen (exec_choice_of w) is'.entry.event in
        let chosen_in : InWorld front P = subst (λ (xs : List Noted). InWorld xs P) before (due_chosen made.role made.role2 made.low is'.before is'.entry (ap (λ (x : Entry). is_executed x.event) same ∙ executed) is'.by) in
        let at_world : P (world_of m (entries_in front)) = world_in P front m (model_some m log (going stop) some) chosen_in in
        let chosen : P (world_of m log) = subst (λ (l : List Entry). P (world_of m l)) (entries_in_items m log (going stop)) at_world in
        subst (λ (x : Entry). IsChosen (exec_choice_of (world_of m log)) x.event) same chosen

    chosen_here : is_executed e.event ≡ true → IsChosen (exec_choice_of (world_of m log)) e.event
    chosen_here executed = chosen_by executed (executed_here (length log) by e past within here executed)

  pub are_chosen : (log es : List Entry) → 0 < length log → opening ≤ length log → whole ≡ log ++ es → AreChosen m log es
  are_chosen log [] some past is = tt
  are_chosen log (e ∷ es) some past is =
      let long = length-append log (e ∷ []) in
      (chosen_here log es e some past is, are_chosen (log ++ e ∷ []) es (omega (arith, long)) (omega (arith, long, past)) (is ∙ sym (append_assoc log (e ∷ []) es)))
