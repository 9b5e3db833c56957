-- The messages of lines, and the inputs that were made of them.
use Rattle.std.proofs.Common.{◌≡◌, ℕ, ◌<◌, List, [], ◌∷◌, ◌++◌, length, Bool, true, false, not, Option, Some, None, IfSome, ◌⊎◌, inl, inr, Ok, refl, sym, ◌∙◌, ap, subst, append_assoc}
use Rattle.std.proofs.lemmas.List.{append-nil}
use Rattle.std.proofs.lemmas.List.Elements.{filter_map-append}
use mathlib.Core.List.{IsPrefix}
use Rattle.pl_io.specs.Lines.{lines_of}
use Rattle.pl_io.specs.Reader.{NumberedLine}
use Rattle.pl_io.specs.Sparing.{read_size}
use Rattle.pl_input.specs.Words.{is_blank_line, is_line_of, end_word, messages_of}
use Rattle.pl_input.specs.Reads.{GivesLinesKnown, IsUsedUp, AreBlank}
use Rattle.pl_input.specs.Waits.{line_in}
use Rattle.pl_input.proofs.Reading.{gave_none, known, gave_lines}
use Rattle.pl_locked.specs.Plans.{PlanPass}
use Rattle.pl_input.specs.Places.{Place}
use Rattle.pl_pair.specs.Asking.{Asks}
use Rattle.pl_pair.specs.Feeds.{spoken, said_in, Reads, unasked, asked, Heard, HandsOnMessages}
use Rattle.pl_pair.specs.Runs.{InMessages, ReadUpTo}
use Rattle.pl_pair.proofs.Ending.{is_ending, NoEnds, LastEnds, EndsIf}

-- ---- one line

pub blank_next : (line : List ℕ) (lines : List (List ℕ)) → is_blank_line line ≡ true → messages_of (line ∷ lines) ≡ messages_of lines
unfolding messages_of
blank_next line lines blank = rw blank refl

pub message_next : (line : List ℕ) (lines : List (List ℕ)) → is_blank_line line ≡ false → is_line_of end_word line ≡ false → messages_of (line ∷ lines) ≡ Some line ∷ messages_of lines
unfolding messages_of
message_next line lines message other = rw (message, other) refl

pub end_next : (line : List ℕ) (lines : List (List ℕ)) → is_blank_line line ≡ false → is_line_of end_word line ≡ true → messages_of (line ∷ lines) ≡ Some line ∷ []
unfolding messages_of
end_next line lines message ends = rw (message, ends) refl

pub none_left : messages_of [] ≡ None ∷ []
unfolding messages_of
none_left = refl

spoken_skip : (line : List ℕ) (lines : List (List ℕ)) → is_blank_line line ≡ true → spoken (line ∷ lines) ≡ spoken lines
spoken_skip line lines blank = rw blank refl

spoken_next : (line : List ℕ) (lines : List (List ℕ)) → is_blank_line line ≡ false → spoken (line ∷ lines) ≡ line ∷ spoken lines
spoken_next line lines other = rw other refl

-- ---- lines whose messages do not end the run

nothing_said : (inputs : List (Option (List ℕ))) → NoEnds inputs → said_in inputs ≡ [] → inputs ≡ []
nothing_said [] none said = refl
nothing_said (None ∷ inputs) none said = absurd (let e : true ≡ false = none.0 in cc)
nothing_said (Some line ∷ inputs) none said = absurd (cc)

-- Inputs that are said by a line and those behind it.
record SaysFirst (line : List ℕ) (lines : List (List ℕ)) (inputs : List (Option (List ℕ))) : Type 0 where
  others : List (Option (List ℕ))
  is : inputs ≡ Some line ∷ others
  said : said_in others ≡ spoken lines
  first : is_line_of end_word line ≡ false
  none : NoEnds others

says_first : (line : List ℕ) (lines : List (List ℕ)) (inputs : List (Option (List ℕ))) → NoEnds inputs → said_in inputs ≡ line ∷ spoken lines → SaysFirst line lines inputs
says_first line lines [] none said = absurd (cc)
says_first line lines (None ∷ inputs) none said = absurd (let e : true ≡ false = none.0 in cc)
says_first line lines (Some l ∷ inputs) none said =
    let same : l ≡ line = (let h : l ∷ said_in inputs ≡ line ∷ spoken lines = said in (cc)) in
    let rest : said_in inputs ≡ spoken lines = (let h : l ∷ said_in inputs ≡ line ∷ spoken lines = said in (cc)) in
    record {
      others = inputs;
      is = ap (λ (x : List ℕ). Some x ∷ inputs) same;
      said = rest;
      first = subst (λ (x : List ℕ). is_line_of end_word x ≡ false) same none.0;
      none = none.1;
    }

-- what holds of the lines behind a first one
abbrev GoOn : List (List ℕ) → List (List ℕ) → Type 0
GoOn lines more = (inputs : List (Option (List ℕ))) → NoEnds inputs → said_in inputs ≡ spoken lines → messages_of (lines ++ more) ≡ inputs ++ messages_of more

on_by : (b : Bool) (line : List ℕ) (lines more : List (List ℕ)) (inputs : List (Option (List ℕ))) → is_blank_line line ≡ b → GoOn lines more → NoEnds inputs → said_in inputs ≡ spoken (line ∷ lines)
    → messages_of (line ∷ (lines ++ more)) ≡ inputs ++ messages_of more
on_by true line lines more inputs blank next none said = blank_next line (lines ++ more) blank ∙ next inputs none (said ∙ spoken_skip line lines blank)
on_by false line lines more inputs other next none said =
    let first = says_first line lines inputs none (said ∙ spoken_next line lines other) in
    message_next line (lines ++ more) other first.first
    ∙ ap (λ (ms : List (Option (List ℕ))). Some line ∷ ms) (next first.others first.none first.said)
    ∙ ap (λ (is : List (Option (List ℕ))). is ++ messages_of more) (sym first.is)

pub messages_on : (lines more : List (List ℕ)) → GoOn lines more
messages_on [] more inputs none said = ap (λ (is : List (Option (List ℕ))). is ++ messages_of more) (sym (nothing_said inputs none said))
messages_on (line ∷ lines) more inputs none said = on_by (is_blank_line line) line lines more inputs refl (messages_on lines more) none said

-- ---- and lines whose last message does

nothing_then : (front : List (Option (List ℕ))) (last : List ℕ) → said_in front ++ last ∷ [] ≡ [] → ⊥
nothing_then [] last e = cc
nothing_then (None ∷ front) last e = nothing_then front last e
nothing_then (Some l ∷ front) last e = cc

abbrev EndAt : List (List ℕ) → List (List ℕ) → List ℕ → Type 0
EndAt lines more last = (front : List (Option (List ℕ))) → NoEnds front → said_in front ++ last ∷ [] ≡ spoken lines → messages_of (lines ++ more) ≡ front ++ Some last ∷ []

to_next : (line : List ℕ) (lines more : List (List ℕ)) (last : List ℕ) (front : List (Option (List ℕ))) → is_line_of end_word last ≡ true → EndAt lines more last → is_blank_line line ≡ false → NoEnds front → said_in front ++ last ∷ [] ≡ line ∷ spoken lines
    → messages_of (line ∷ (lines ++ more)) ≡ front ++ Some last ∷ []
to_next line lines more last [] ends next other none said =
    let same : last ≡ line = (let h : last ∷ [] ≡ line ∷ spoken lines = said in (cc)) in
    let here : is_line_of end_word line ≡ true = subst (λ (x : List ℕ). is_line_of end_word x ≡ true) same ends in
    end_next line (lines ++ more) other here ∙ ap (λ (x : List ℕ). Some x ∷ []) (sym same)
to_next line lines more last (None ∷ front) ends next other none said = absurd (let e : true ≡ false = none.0 in cc)
to_next line lines more last (Some l ∷ front) ends next other none said =
    let same : l ≡ line = (let h : l ∷ (said_in front ++ last ∷ []) ≡ line ∷ spoken lines = said in (cc)) in
    let rest : said_in front ++ last ∷ [] ≡ spoken lines = (let h : l ∷ (said_in front ++ last ∷ []) ≡ line ∷ spoken lines = said in (cc)) in
    let first : is_line_of end_word line ≡ false = subst (λ (x : List ℕ). is_line_of end_word x ≡ false) same none.0 in
    message_next line (lines ++ more) other first
    ∙ ap (λ (ms : List (Option (List ℕ))). Some line ∷ ms) (next front none.1 rest)
    ∙ ap (λ (x : List ℕ). Some x ∷ (front ++ Some last ∷ [])) (sym same)

to_by : (b : Bool) (line : List ℕ) (lines more : List (List ℕ)) (last : List ℕ) (front : List (Option (List ℕ))) → is_blank_line line ≡ b → is_line_of end_word last ≡ true → EndAt lines more last → NoEnds front → said_in front ++ last ∷ [] ≡ spoken (line ∷ lines)
    → messages_of (line ∷ (lines ++ more)) ≡ front ++ Some last ∷ []
to_by true line lines more last front blank ends next none said = blank_next line (lines ++ more) blank ∙ next front none (said ∙ spoken_skip line lines blank)
to_by false line lines more last front other ends next none said = to_next line lines more last front ends next other none (said ∙ spoken_next line lines other)

messages_to : (lines more : List (List ℕ)) (last : List ℕ) → is_line_of end_word last ≡ true → EndAt lines more last
messages_to [] more last ends front none said = absurd (nothing_then front last said)
messages_to (line ∷ lines) more last ends front none said = to_by (is_blank_line line) line lines more last front refl ends (messages_to lines more last ends) none said

-- ---- what a reader gave

reads_gave : (start place : Place) (lines : List (List ℕ)) → Reads start lines place → GivesLinesKnown start.reader.limit start.reader.room start.ahead lines place.reader.room place.ahead
reads_gave start place lines (unasked none same) =
    let P : List (List ℕ) → Type 0 = λ ls. GivesLinesKnown start.reader.limit start.reader.room start.ahead ls place.reader.room place.ahead in
    let Q : Place → Type 0 = λ p. GivesLinesKnown start.reader.limit start.reader.room start.ahead [] p.reader.room p.ahead in
    subst P (sym none) (subst Q (sym same) (gave_none start.reader.limit start.reader.room start.ahead))
reads_gave start place lines (asked works took) = took.gave

-- the lines that were given, and what stands behind them
pub record HasRead (bytes : List ℕ) (lines : List (List ℕ)) (after : Option (List ℕ)) : Type 0 where
  pub rest : List ℕ
  pub is : after ≡ Some rest
  pub lines_are : lines_of bytes ≡ lines ++ lines_of rest

has_read : (start place : Place) (lines : List (List ℕ)) (bytes : List ℕ) → Reads start lines place → start.ahead ≡ Some bytes → HasRead bytes lines place.ahead
has_read start place lines bytes reads is =
    let k = known start.reader.limit start.reader.room start.reader.limit start.reader.room start.ahead bytes lines place.reader.room place.ahead refl refl is (reads_gave start place lines reads) in
    record { rest = k.rest; is = k.is; lines_are = gave_lines start.reader.limit start.reader.room bytes lines place.reader.room k.rest k.gave }

-- what holds of the bytes, if they are known
pub if_known : (o : Option (List ℕ)) (P : List ℕ → Type 0) → ((bytes : List ℕ) → o ≡ Some bytes → P bytes) → IfSome o P
if_known None P f = tt
if_known (Some bytes) P f = f bytes refl

module _ (old new : PlanPass) (start place : Place) (tells : HandsOnMessages old start new place) where
  -- inputs that do not end the run are followed by the messages of what is left
  pub told_on : NoEnds tells.inputs → (bytes : List ℕ) → start.ahead ≡ Some bytes → (rest : List ℕ) × (place.ahead ≡ Some rest) × (messages_of (lines_of bytes) ≡ tells.inputs ++ messages_of (lines_of rest))
  told_on none bytes is =
      let read = has_read start place tells.heard.lines bytes tells.heard.reads is in
      (read.rest, read.is, ap messages_of read.lines_are ∙ messages_on tells.heard.lines (lines_of read.rest) tells.inputs none tells.heard.said)

  used_rest : (bytes rest : List ℕ) → start.ahead ≡ Some bytes → place.ahead ≡ Some rest → IsUsedUp start.ahead place.ahead → rest ≡ []
  used_rest bytes rest is at used =
      let P : Option (List ℕ) → Type 0 = λ o. IsUsedUp o place.ahead in
      let now : place.ahead ≡ Some [] = subst P is used in
      let both : Some rest ≡ Some [] = sym at ∙ now in (cc)

  -- inputs of which the last ends the run are all messages
  told_out : (ends : LastEnds tells.inputs) → (bytes : List ℕ) → start.ahead ≡ Some bytes → tells.inputs ≡ messages_of (lines_of bytes)
  told_out ends bytes is = by_last ends.last ends.is ends.ends
    where
      read : HasRead bytes tells.heard.lines place.ahead
      read = has_read start place tells.heard.lines bytes tells.heard.reads is

      by_last : (last : Option (List ℕ)) → tells.inputs ≡ ends.front ++ last ∷ [] → is_ending last ≡ true → tells.inputs ≡ messages_of (lines_of bytes)
      by_last None inputs ending =
          let said : said_in ends.front ≡ spoken tells.heard.lines = sym (append-nil (said_in ends.front)) ∙ sym (filter_map-append (λ (m : Option (List ℕ)). m) ends.front (None ∷ [])) ∙ ap said_in (sym inputs) ∙ tells.heard.said in
          let none : read.rest ≡ [] = used_rest bytes read.rest is read.is (tells.heard.used ends.front inputs) in
          inputs ∙ ap (λ (ms : List (Option (List ℕ))). ends.front ++ ms) (sym (ap messages_of (ap lines_of none) ∙ none_left)) ∙ sym (messages_on tells.heard.lines (lines_of read.rest) ends.front ends.none said) ∙ ap messages_of (sym read.lines_are)
      by_last (Some line) inputs ending =
          let said : said_in ends.front ++ line ∷ [] ≡ spoken tells.heard.lines = sym (filter_map-append (λ (m : Option (List ℕ)). m) ends.front (Some line ∷ [])) ∙ ap said_in (sym inputs) ∙ tells.heard.said in
          inputs ∙ sym (messages_to tells.heard.lines (lines_of read.rest) line ending ends.front ends.none said) ∙ ap messages_of (sym read.lines_are)

  -- in any case the inputs are a front of the messages
  pub told_front : (b : Bool) → EndsIf b tells.inputs → InMessages start (λ messages. IsPrefix tells.inputs messages)
  told_front false none =
      if_known start.ahead (λ bytes. IsPrefix tells.inputs (messages_of (lines_of bytes))) (λ bytes is. let on = told_on none bytes is in (messages_of (lines_of on.0), sym on.2))
  told_front true ends =
      if_known start.ahead (λ bytes. IsPrefix tells.inputs (messages_of (lines_of bytes))) (λ bytes is. ([], append-nil tells.inputs ∙ told_out ends bytes is))

  pub told_all : LastEnds tells.inputs → InMessages start (λ messages. tells.inputs ≡ messages)
  told_all ends = if_known start.ahead (λ bytes. tells.inputs ≡ messages_of (lines_of bytes)) (λ bytes is. told_out ends bytes is)

  -- the lines that were given are those of the inputs
  pub told_lines : NoEnds tells.inputs → messages_of tells.heard.lines ≡ tells.inputs ++ None ∷ []
  told_lines none = ap messages_of (sym (append-nil tells.heard.lines)) ∙ messages_on tells.heard.lines [] tells.inputs none tells.heard.said ∙ ap (λ (ms : List (Option (List ℕ))). tells.inputs ++ ms) none_left

  pub told_gave : GivesLinesKnown start.reader.limit start.reader.room start.ahead tells.heard.lines place.reader.room place.ahead
  told_gave = reads_gave start place tells.heard.lines tells.heard.reads

-- ---- how far was read

reads_few : (start place : Place) (lines : List (List ℕ)) → Reads start lines place → length start.reader.held < read_size → length place.reader.held < read_size
reads_few start place lines (unasked none same) few = subst (λ (p : Place). length p.reader.held < read_size) (sym same) few
reads_few start place lines (asked works took) few = took.few few

up_to : (start place : Place) (inputs more : List (Option (List ℕ))) (heard : Heard start inputs place) → messages_of heard.lines ≡ inputs ++ more → (more ≡ []) ⊎ (more ≡ None ∷ []) → ReadUpTo start inputs place
up_to start place inputs more heard said no_others = record {
  lines = heard.lines;
  more = more;
  gave = reads_gave start place heard.lines heard.reads;
  few = reads_few start place heard.lines heard.reads;
  said = said;
  no_others = no_others;
  no_further = heard.last;
  used_up = heard.used;
  none = heard.none;
}

-- messages that do not end the run
pub up_to_next : (start place : Place) (inputs : List (Option (List ℕ))) → Heard start inputs place → NoEnds inputs → ReadUpTo start inputs place
up_to_next start place inputs heard none =
    up_to start place inputs (None ∷ []) heard
    (ap messages_of (sym (append-nil heard.lines)) ∙ messages_on heard.lines [] inputs none heard.said ∙ ap (λ (ms : List (Option (List ℕ))). inputs ++ ms) none_left) (inr refl)

no_ends_push : (front : List (Option (List ℕ))) (last : Option (List ℕ)) → NoEnds front → is_ending last ≡ false → NoEnds (front ++ last ∷ [])
no_ends_push [] last none other = (other, tt)
no_ends_push (i ∷ front) last none other = (none.0, no_ends_push front last none.1 other)

-- and one behind them
pub up_to_last : (start place : Place) (front : List (Option (List ℕ))) (last : Option (List ℕ)) → Heard start (front ++ last ∷ []) place → NoEnds front → ReadUpTo start (front ++ last ∷ []) place
up_to_last start place front None heard none =
    let said : said_in front ≡ spoken heard.lines = sym (append-nil (said_in front)) ∙ sym (filter_map-append (λ (m : Option (List ℕ)). m) front (None ∷ [])) ∙ heard.said in
    up_to start place (front ++ None ∷ []) [] heard
    (ap messages_of (sym (append-nil heard.lines)) ∙ messages_on heard.lines [] front none said ∙ ap (λ (ms : List (Option (List ℕ))). front ++ ms) none_left ∙ sym (append-nil (front ++ None ∷ []))) (inl refl)
up_to_last start place front (Some line) heard none = by (is_line_of end_word line) refl
  where
    said : said_in front ++ line ∷ [] ≡ spoken heard.lines
    said = sym (filter_map-append (λ (m : Option (List ℕ)). m) front (Some line ∷ [])) ∙ heard.said

    by : (b : Bool) → is_line_of end_word line ≡ b → ReadUpTo start (front ++ Some line ∷ []) place
    by true ends = up_to start place (front ++ Some line ∷ []) [] heard (ap messages_of (sym (append-nil heard.lines)) ∙ messages_to heard.lines [] line ends front none said ∙ sym (append-nil (front ++ Some line ∷ []))) (inl refl)
    by false other = up_to_next start place (front ++ Some line ∷ []) heard (no_ends_push front (Some line) none other)

-- whether the last of them ends the run or not
pub up_to_told : (b : Bool) (start place : Place) (inputs : List (Option (List ℕ))) → Heard start inputs place → EndsIf b inputs → ReadUpTo start inputs place
up_to_told false start place inputs heard none = up_to_next start place inputs heard none
up_to_told true start place inputs heard ends =
    let P : List (Option (List ℕ)) → Type 0 = λ is. Heard start is place in
    let Q : List (Option (List ℕ)) → Type 0 = λ is. ReadUpTo start is place in
    subst Q (sym ends.is) (up_to_last start place ends.front ends.last (subst P ends.is heard) ends.none)

-- ---- the next message

pub skip_blanks : (blanks more : List (List ℕ)) → AreBlank blanks → messages_of (blanks ++ more) ≡ messages_of more
skip_blanks [] more all = refl
skip_blanks (x ∷ xs) more all = blank_next x (xs ++ more) all.0 ∙ skip_blanks xs more all.1

-- the first of the messages
pub record BeginsWith (message : Option (List ℕ)) (messages : List (Option (List ℕ))) : Type 0 where
  pub others : List (Option (List ℕ))
  pub is : messages ≡ message ∷ others

begins_by : (b : Bool) (line : List ℕ) (lines : List (List ℕ)) → is_blank_line line ≡ false → is_line_of end_word line ≡ b → BeginsWith (Some line) (messages_of (line ∷ lines))
begins_by true line lines other ends = record { others = []; is = end_next line lines other ends }
begins_by false line lines other goes = record { others = messages_of lines; is = message_next line lines other goes }

pub asks_begins : (middle place : Place) (message : Option NumberedLine) (bytes : List ℕ) → Asks middle (Ok message) place → middle.ahead ≡ Some bytes → BeginsWith (line_in message) (messages_of (lines_of bytes))
asks_begins middle place None bytes asks is =
    let gets = asks.1 in
    let read = has_read middle place gets.lines bytes (asked asks.0 gets.took) is in
    let P : Option (List ℕ) → Type 0 = λ o. IsUsedUp o place.ahead in
    let now : place.ahead ≡ Some [] = subst P is gets.used_up in
    let none : read.rest ≡ [] = (let both : Some read.rest ≡ Some [] = sym read.is ∙ now in (cc)) in
    record {
      others = [];
      is = ap messages_of (read.lines_are ∙ ap (λ (ls : List (List ℕ)). gets.lines ++ ls) (ap lines_of none)) ∙ skip_blanks gets.lines [] gets.blank ∙ none_left;
    }
asks_begins middle place (Some line) bytes asks is =
    let gets = asks.1 in
    let read = has_read middle place (gets.lines ++ line.bytes ∷ []) bytes (asked asks.0 gets.took) is in
    let next = begins_by (is_line_of end_word line.bytes) line.bytes (lines_of read.rest) gets.message refl in
    record {
      others = next.others;
      is = ap messages_of (read.lines_are ∙ append_assoc gets.lines (line.bytes ∷ []) (lines_of read.rest)) ∙ skip_blanks gets.lines (line.bytes ∷ lines_of read.rest) gets.blank ∙ next.is;
    }
