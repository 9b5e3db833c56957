-- The inputs of a history are those that the feeder handed in, in their order.
use Rattle.std.proofs.Common.{◌≡◌, ℕ, ◌+◌, ◌≤◌, ◌<◌, List, [], ◌∷◌, ◌++◌, length, map, drop, filter, Bool, true, Option, Some, None, slice_get, refl, sym, ◌∙◌, ap, subst, arith, append_assoc, length-append}
use Rattle.std.specs.List.{All, filter_map}
use Rattle.std.proofs.lemmas.List.Sums.{sum_by-cons, sum_by-append}
use Rattle.std.proofs.lemmas.List.Elements.{All-nil, All-cons, All-head, All-tail, All-append}
use Rattle.pl_turn.specs.History.{IsEachOnce, StandsIn, times_at, times_in}
use Rattle.pl_turn.proofs.Sifting.{sifted}
use Rattle.pl_marks.specs.declared.author.Author.{Author}
use Rattle.pl_marks.specs.declared.author.Author.TheVariants.{Feeder}
use Rattle.pl_entry.specs.declared.event.Event.{Event}
use Rattle.pl_entry.specs.declared.event.Event.TheVariants as event
use Rattle.pl_entry.specs.declared.entry.Entry.{Entry}
use Rattle.pl_machine.specs.Finished.{input_in, inputs_of}
use Rattle.pl_acts.specs.declared.noted.Noted.{Noted}
use Rattle.pl_acts.specs.declared.noted.Noted.TheVariants.{Opened, Made, Stopped}
use Rattle.pl_acts.specs.Items.{SignedEntry, made_of, entries_of, stop_items, signer_in}
use Rattle.pl_acts.specs.Roles.{is_input, is_entry}
use Rattle.pl_pair.specs.Served.{AreSigned, IsStopAtMost, AreOfUntil}
use Rattle.pl_pair.specs.Feeds.{IsInput, AreInputs}
use Rattle.pl_pair.proofs.Feeding.{drop_front}
use Rattle.pl_pair.proofs.OwnItems.{one_at, at_same, NoInputs, none_failing, times_within, stop_no_inputs, inputs_kind, at_front, stands_front, stands_back}

abbrev input_of : Noted → Option (Option (List ℕ))
input_of (Opened m n e) = None
input_of (Made by e) = input_in e.event
input_of (Stopped by) = None

own_inputs : (inputs : List (Option (List ℕ))) (own : List (ℕ × Noted)) → AreInputs inputs own → filter_map input_of (map (λ x. x.1) own) ≡ inputs
own_inputs [] [] are = refl
own_inputs [] (x ∷ own) are = absurd are
own_inputs (i ∷ inputs) [] are = absurd are
own_inputs (i ∷ inputs) ((place, Opened m n e) ∷ own) are = absurd are.0
own_inputs (i ∷ inputs) ((place, Stopped by) ∷ own) are = absurd are.0
own_inputs (i ∷ inputs) ((place, Made by e) ∷ own) are = rw are.0.1 (ap (λ (is : List (Option (List ℕ))). i ∷ is) (own_inputs inputs own are.1))

made_input : (v : Event) (b : Bool) → is_input v ≡ b → (e : SignedEntry) → e.1.event ≡ v → (xs : List Noted) → filter_map input_of (filter (is_entry is_input) (made_of e ∷ xs)) ≡ filter_map input_of (made_of e ∷ filter (is_entry is_input) xs)
made_input (event.Opened o) b is e same xs = rw same refl
made_input (event.Input line) b is e same xs = rw same refl
made_input (event.Fix k m) b is e same xs = rw same refl
made_input event.Rest b is e same xs = rw same refl
made_input (event.Commit h) b is e same xs = rw same refl
made_input event.Dispatch b is e same xs = rw same refl
made_input event.Close b is e same xs = rw same refl

more_by : (o : Option (Option (List ℕ))) (e : SignedEntry) (es : List Entry) (ys : List Noted) → input_in e.1.event ≡ o → filter_map input_of ys ≡ inputs_of es → filter_map input_of (made_of e ∷ ys) ≡ inputs_of (e.1 ∷ es)
more_by None e es ys is same = rw is same
more_by (Some i) e es ys is same = rw is (ap (λ (is : List (Option (List ℕ))). i ∷ is) same)

more_inputs : (es : List SignedEntry) (s : Option Author) → filter_map input_of (filter (is_entry is_input) (map made_of es ++ stop_items s)) ≡ inputs_of (entries_of es)
more_inputs [] (Some by) = refl
more_inputs [] None = refl
more_inputs (e ∷ es) s =
    made_input e.1.event (is_input e.1.event) refl e refl (map made_of es ++ stop_items s)
    ∙ more_by (input_in e.1.event) e (entries_of es) (filter (is_entry is_input) (map made_of es ++ stop_items s)) refl (more_inputs es s)

is_in : (v : Event) (i : Option (List ℕ)) → input_in v ≡ Some i → is_input v ≡ true
is_in (event.Opened o) i e = absurd (cc)
is_in (event.Input line) i e = refl
is_in (event.Fix k m) i e = absurd (cc)
is_in event.Rest i e = absurd (cc)
is_in (event.Commit h) i e = absurd (cc)
is_in event.Dispatch i e = absurd (cc)
is_in event.Close i e = absurd (cc)

input_some : (v : Event) → is_input v ≡ true → (i : Option (List ℕ)) × (input_in v ≡ Some i)
input_some (event.Opened o) e = absurd (cc)
input_some (event.Input line) e = (line, refl)
input_some (event.Fix k m) e = absurd (cc)
input_some event.Rest e = absurd (cc)
input_some (event.Commit h) e = absurd (cc)
input_some event.Dispatch e = absurd (cc)
input_some event.Close e = absurd (cc)

-- an entry that is no input adds none
none_more : (o : Option (Option (List ℕ))) (e : Entry) (es : List Entry) → input_in e.event ≡ o → (is_input e.event ≡ true → ⊥) → inputs_of es ≡ [] → inputs_of (e ∷ es) ≡ []
none_more None e es is never none = rw is none
none_more (Some i) e es is never none = absurd (never (is_in e.event i is))

one_more : (e : Entry) (es : List Entry) (i : Option (List ℕ)) → input_in e.event ≡ Some i → inputs_of es ≡ [] → inputs_of (e ∷ es) ≡ i ∷ []
one_more e es i is none = rw is (ap (λ (is : List (Option (List ℕ))). i ∷ is) none)

-- The feeder's own list: the inputs, and a stop behind them at most.
pub record FeederList (inputs : List (Option (List ℕ))) (own mine : List (ℕ × Noted)) : Type 0 where
  pub rest : List (ℕ × Noted)
  pub whole : mine ≡ own ++ rest
  pub are : AreInputs inputs own
  pub behind : IsStopAtMost rest
  pub signed : AreSigned Feeder rest

pub feeder_until : (inputs : List (Option (List ℕ))) (own mine : List (ℕ × Noted)) → FeederList inputs own mine → AreOfUntil is_input mine
feeder_until inputs own mine list = record { own = own; rest = list.rest; whole = list.whole; kinds = inputs_kind inputs own list.are; behind = list.behind }

-- each of the feeder's own items carries its name
inputs_signed : (inputs : List (Option (List ℕ))) (own : List (ℕ × Noted)) → AreInputs inputs own → AreSigned Feeder own
inputs_signed [] [] are = All-nil (λ x. signer_in x.1 ≡ Some Feeder)
inputs_signed [] (x ∷ own) are = absurd are
inputs_signed (i ∷ inputs) [] are = absurd are
inputs_signed (i ∷ inputs) (x ∷ own) are = All-cons (λ y. signer_in y.1 ≡ Some Feeder) x own (item_signed x.1 are.0) (inputs_signed inputs own are.1)
  where
    item_signed : (x : Noted) → IsInput i x → signer_in x ≡ Some Feeder
    item_signed (Opened m n e) is = absurd is
    item_signed (Made by e) is = is.0
    item_signed (Stopped by) is = absurd is

pub feeder_signed : (inputs : List (Option (List ℕ))) (own mine : List (ℕ × Noted)) → FeederList inputs own mine → AreSigned Feeder mine
feeder_signed inputs own mine list =
    subst (AreSigned Feeder) (sym list.whole) (All-append (λ x. signer_in x.1 ≡ Some Feeder) own list.rest (inputs_signed inputs own list.are) list.signed)

-- the own lists with the feeder's taken apart
module _ (items : List Noted) (inputs : List (Option (List ℕ))) (own feeder : List (ℕ × Noted)) (others : List (List (ℕ × Noted))) (list : FeederList inputs own feeder)
    (stands : All (StandsIn items) (feeder ∷ others)) (no_others : All NoInputs others) where
  feeder_stands : StandsIn items (own ++ list.rest)
  feeder_stands = subst (λ (l : List (ℕ × Noted)). StandsIn items l) list.whole (All-head (StandsIn items) feeder others stands)

  rest_stands : All (StandsIn items) (list.rest ∷ others)
  rest_stands = All-cons (StandsIn items) list.rest others (stands_back items 0 own list.rest feeder_stands) (All-tail (StandsIn items) feeder others stands)

  apart_stands : All (StandsIn items) (own ∷ list.rest ∷ others)
  apart_stands = All-cons (StandsIn items) own (list.rest ∷ others) (stands_front items 0 own list.rest feeder_stands) rest_stands

  apart_times : (p : ℕ) → times_in p (feeder ∷ others) ≡ times_in p (own ∷ list.rest ∷ others)
  apart_times p =
      let whole : times_at p feeder ≡ times_at p own + times_at p list.rest = ap (λ (l : List (ℕ × Noted)). times_at p l) list.whole ∙ sum_by-append (one_at p) own list.rest in
      let a = sum_by-cons (times_at p) feeder others in
      let b = sum_by-cons (times_at p) own (list.rest ∷ others) in
      let c = sum_by-cons (times_at p) list.rest others in
      omega (arith, whole, a, b, c)

  no_inputs_behind : All NoInputs (list.rest ∷ others)
  no_inputs_behind = All-cons NoInputs list.rest others (stop_no_inputs list.rest list.behind) no_others

  module _ (opening : ℕ) (owners : IsEachOnce opening (length items) (λ place. times_in place (feeder ∷ others))) where
    apart_owners : IsEachOnce opening (length items) (λ place. times_in place (own ∷ list.rest ∷ others))
    apart_owners = record {
      inside = λ n from to. sym (apart_times n) ∙ owners.inside n from to;
      below = λ n lt. sym (apart_times n) ∙ owners.below n lt;
      above = λ n le. sym (apart_times n) ∙ owners.above n le;
    }

    picked : map (λ x. x.1) own ≡ filter (is_entry is_input) (drop opening items)
    picked = sifted (is_entry is_input) items opening [] (list.rest ∷ others) own apart_stands apart_owners (inputs_kind inputs own list.are) (All-nil NoInputs) no_inputs_behind

    -- the inputs of the entries past the opening are those of the feeder, in their order
    pub inputs_are : (before : List Noted) (es : List SignedEntry) (s : Option Author) → opening ≡ length before → items ≡ before ++ (map made_of es ++ stop_items s) → inputs_of (entries_of es) ≡ inputs
    inputs_are before es s begins is =
        let behind : drop opening items ≡ map made_of es ++ stop_items s =
        ap (λ (k : ℕ). drop k items) begins ∙ ap (λ (xs : List Noted). drop (length before) xs) is ∙ drop_front before (map made_of es ++ stop_items s) in
        sym (more_inputs es s)
        ∙ ap (λ (xs : List Noted). filter_map input_of (filter (is_entry is_input) xs)) (sym behind)
        ∙ ap (λ (xs : List Noted). filter_map input_of xs) (sym picked)
        ∙ own_inputs inputs own list.are

    -- an input has the place of an own entry of the feeder
    nobody_else : (p : ℕ) (e : SignedEntry) → slice_get items p ≡ Some (made_of e) → is_input e.1.event ≡ true → times_in p (list.rest ∷ others) ≡ 0
    nobody_else p e at is = none_failing items p (made_of e) (list.rest ∷ others) rest_stands no_inputs_behind at is

    -- so behind a front that has all of them there is no further input
    pub no_further : (front : List Noted) (e : SignedEntry) (p : ℕ) → StandsIn front own → length front ≤ p → opening ≤ p → p < length items → slice_get items p ≡ Some (made_of e) → is_input e.1.event ≡ true → ⊥
    no_further front e p here behind past within at is =
        let one = apart_owners.inside p past within in
        let none = times_within front 0 p own here behind in
        let nobody = nobody_else p e at is in
        let sum = sum_by-cons (times_at p) own (list.rest ∷ others) in
        omega (arith, one, none, nobody, sum)

    -- all own items but the last stand in a front
    module _ (front : List Noted) (earlier : List (ℕ × Noted)) (last : ℕ × Noted) (whole : own ≡ earlier ++ last ∷ []) (here : StandsIn front earlier) (past : opening ≤ length front) where
      -- so an input behind it has the place of the last
      last_at : (e : SignedEntry) (p : ℕ) → length front ≤ p → p < length items → slice_get items p ≡ Some (made_of e) → is_input e.1.event ≡ true → last.0 ≡ p
      last_at e p behind within at is =
          let one = apart_owners.inside p (omega (arith, past, behind)) within in
          let none = times_within front 0 p earlier here behind in
          let nobody = nobody_else p e at is in
          let sum = sum_by-cons (times_at p) own (list.rest ∷ others) in
          let parts : times_at p own ≡ times_at p earlier + times_at p (last ∷ []) = ap (λ (l : List (ℕ × Noted)). times_at p l) whole ∙ sum_by-append (one_at p) earlier (last ∷ []) in
          let alone = sum_by-cons (one_at p) last [] in
          at_same p last (omega (arith, one, none, nobody, sum, parts, alone))

      entry_at : (before : List Noted) (e : SignedEntry) (rest : List Noted) → items ≡ before ++ made_of e ∷ rest → (length before < length items) × (slice_get items (length before) ≡ Some (made_of e))
      entry_at before e rest is =
          let long = ap (λ (xs : List Noted). length xs) is ∙ length-append before (made_of e ∷ rest) in
          (omega (arith, long), ap (λ (xs : List Noted). slice_get xs (length before)) is ∙ at_front before rest (made_of e))

      -- and where it stands right behind the front, there is none behind it
      none_behind : (before : List Noted) (es : List SignedEntry) (s : Option Author) → items ≡ before ++ (map made_of es ++ stop_items s) → last.0 ≡ length front → length front < length before → inputs_of (entries_of es) ≡ []
      none_behind before [] s is at less = refl
      none_behind before (e ∷ es) s is at less =
          let there = entry_at before e (map made_of es ++ stop_items s) is in
          let next : items ≡ (before ++ made_of e ∷ []) ++ (map made_of es ++ stop_items s) = is ∙ sym (append_assoc before (made_of e ∷ []) (map made_of es ++ stop_items s)) in
          let long = length-append before (made_of e ∷ []) in
          none_more (input_in e.1.event) e.1 (entries_of es) refl (λ input. let same = last_at e (length before) (omega arith) there.0 there.1 input in omega (arith, same, at, less))
          (none_behind (before ++ made_of e ∷ []) es s next at (omega (arith, long, less)))

      pub one_input : (e : SignedEntry) (es : List SignedEntry) (s : Option Author) → items ≡ front ++ (map made_of (e ∷ es) ++ stop_items s) → is_input e.1.event ≡ true → (message : Option (List ℕ)) × (inputs_of (entries_of (e ∷ es)) ≡ message ∷ [])
      one_input e es s is input =
          let there = entry_at front e (map made_of es ++ stop_items s) is in
          let at = last_at e (length front) (omega arith) there.0 there.1 input in
          let next : items ≡ (front ++ made_of e ∷ []) ++ (map made_of es ++ stop_items s) = is ∙ sym (append_assoc front (made_of e ∷ []) (map made_of es ++ stop_items s)) in
          let long = length-append front (made_of e ∷ []) in
          let some = input_some e.1.event input in
          (some.0, one_more e.1 (entries_of es) some.0 some.1 (none_behind (front ++ made_of e ∷ []) es s next at (omega (arith, long))))
