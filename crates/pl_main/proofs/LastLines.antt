-- How far the input was read: the last line that was read is the last message.
use Rattle.std.proofs.Common.{◌≡◌, ℕ, ◌<◌, List, [], ◌∷◌, ◌++◌, length, Bool, true, false, Option, Some, None, ◌⊎◌, inl, inr, Ok, refl, sym, ◌∙◌, ap, subst, append_assoc, arith}
use Rattle.std.proofs.lemmas.List.{append-nil}
use Rattle.std.specs.declared.vec.Vec.{Vec}
use Rattle.std.specs.declared.alloc.Global.{Global}
use Rattle.pl_io.specs.Lines.{ahead, lines_of}
use Rattle.pl_io.specs.Reader.{NumberedLine}
use Rattle.pl_io.specs.Sparing.{read_size}
use Rattle.pl_input.specs.Words.{is_blank_line, is_line_of, end_word, messages_of, split_of}
use Rattle.pl_input.specs.Reads.{GivesLines, IsUsedUp, AreBlank}
use Rattle.pl_input.specs.Waits.{MessageGives, line_in}
use Rattle.pl_input.specs.Heads.{IsHead, IsBegun}
use Rattle.pl_input.specs.Places.{Place}
use Rattle.pl_main.specs.Plays.{EndsWith, by_end, by_line}
use Rattle.pl_main.specs.Top.{IsReadTo, line_limit, total_limit, fresh_reader, HasHead, HasRead}
use Rattle.pl_input.proofs.Reading.{gave_append, gave_lines, known}
use Rattle.pl_input.proofs.Beginning.{head_then}
use Rattle.pl_main.proofs.Playing.{not_single, messages_append}
use Rattle.pl_main.proofs.Heading.{split_is}
use Rattle.pl_pair.proofs.Saying.{skip_blanks, message_next, end_next, none_left}

-- ---- how runs end

last_is : (xs ys : List (Option (List ℕ))) (x y : Option (List ℕ)) → xs ++ x ∷ [] ≡ ys ++ y ∷ [] → x ≡ y
last_is [] ys x y e = (not_single x y ys e).1
last_is (z ∷ xs) [] x y e = absurd (let h : z ∷ xs ≡ [] = (not_single y x (z ∷ xs) (sym e)).0 in (cc))
last_is (z ∷ xs) (w ∷ ys) x y e = last_is xs ys x y (let h : z ∷ (xs ++ x ∷ []) ≡ w ∷ (ys ++ y ∷ []) = e in (cc))

-- messages of which one is the last are some
some_last : (front : List (Option (List ℕ))) (last : Option (List ℕ)) → [] ≡ front ++ last ∷ [] → ⊥
some_last [] last e = cc
some_last (m ∷ front) last e = cc

pub ends_all : (rest : List ℕ) (lines : List (List ℕ)) (inputs : List (Option (List ℕ))) → EndsWith rest lines inputs → messages_of (lines ++ lines_of rest) ≡ inputs
ends_all rest lines inputs (by_end front last none is) = ap (λ (r : List ℕ). messages_of (lines ++ lines_of r)) none ∙ ap messages_of (append-nil lines) ∙ is
ends_all rest lines inputs (by_line front line before last is all) = all (lines_of rest)

pub ends_read : (rest : List ℕ) (lines : List (List ℕ)) (inputs : List (Option (List ℕ))) → EndsWith rest lines inputs → messages_of lines ≡ inputs
ends_read rest lines inputs (by_end front last none is) = is
ends_read rest lines inputs (by_line front line before last is all) = ap messages_of (sym (append-nil lines)) ∙ all []

pub ends_used_up : (rest : List ℕ) (lines : List (List ℕ)) (inputs front : List (Option (List ℕ))) → EndsWith rest lines inputs → inputs ≡ front ++ None ∷ [] → rest ≡ []
ends_used_up rest lines inputs front (by_end ahead_of last none is) e = none
ends_used_up rest lines inputs front (by_line before line so_far last is all) e = absurd (let h : Some line ≡ None = last_is before front (Some line) None (sym last ∙ e) in (cc))

-- there is a message, the last of them
pub ends_some : (rest : List ℕ) (lines : List (List ℕ)) (inputs : List (Option (List ℕ))) → EndsWith rest lines inputs → inputs ≡ [] → ⊥
ends_some rest lines inputs (by_end front last none is) e = some_last front None (sym e ∙ last)
ends_some rest lines inputs (by_line front line before last is all) e = some_last front (Some line) (sym e ∙ last)

-- the last line that was read is the last message, where that is a line
pub ends_last : (rest : List ℕ) (lines : List (List ℕ)) (inputs front : List (Option (List ℕ))) (line : List ℕ) → EndsWith rest lines inputs → inputs ≡ front ++ Some line ∷ []
    → (before : List (List ℕ)) × (lines ≡ before ++ line ∷ [])
ends_last rest lines inputs front line (by_end ahead_of last none is) e = absurd (let h : None ≡ Some line = last_is ahead_of front None (Some line) (sym last ∙ e) in (cc))
ends_last rest lines inputs front line (by_line ahead_of found before last is all) e =
    let same : found ≡ line = (let h : Some found ≡ Some line = last_is ahead_of front (Some found) (Some line) (sym last ∙ e) in (cc)) in
    (before, is ∙ ap (λ (l : List ℕ). before ++ l ∷ []) same)

-- lines in front of lines that end with this one
pub ends_behind : (xs ys before : List (List ℕ)) (line : List ℕ) → ys ≡ before ++ line ∷ [] → (front : List (List ℕ)) × (xs ++ ys ≡ front ++ line ∷ [])
ends_behind xs ys before line is = (xs ++ before, ap (λ (ls : List (List ℕ)). xs ++ ls) is ∙ sym (append_assoc xs before (line ∷ [])))

-- the reader behind the model's text
pub record BeginsAt (place : Place) : Type 0 where
  pub limit : place.reader.limit ≡ line_limit
  pub few : length place.reader.held < read_size

-- what a source has left behind a reader
pub read_to : (place : Place) (source_left : Option (List ℕ)) (rest : List ℕ) → length place.reader.held < read_size → ahead place.reader.held source_left ≡ place.ahead → place.ahead ≡ Some rest → IsReadTo rest source_left
read_to place source_left rest few behind is = record { came = place.reader.held; few = few; behind = behind ∙ is }

-- the reader behind a text that begins
pub behind_text : (kept : Option (Vec ℕ Global)) (start : Place) (input : Option (List ℕ)) → IsBegun (fresh_reader line_limit) input kept start.reader start.ahead → BeginsAt start
behind_text kept start input begun = record { limit = begun.took.limit; few = begun.took.few (omega arith) }

-- no line was asked for behind `begin`
pub head_read : (input words : List ℕ) (source_left : Option (List ℕ)) → HasHead line_limit input words source_left → HasRead words [] input source_left
head_read input words source_left head = record {
  lines = head.lines;
  left = head.left;
  rest = head.rest;
  more = None ∷ [];
  gave = head.gave;
  text = head.head;
  behind = ap messages_of head.no_further ∙ none_left;
  no_others = inr refl;
  no_further = λ front line e. absurd (some_last front (Some line) e);
  used_up = λ front e. absurd (some_last front None e);
  none = λ e. head.no_further;
  source = head.source;
}

-- ---- the message behind those that were answered

-- messages of which this is the first
pub record BeginsWith (next : Option (List ℕ)) (all : List (Option (List ℕ))) : Type 0 where
  pub more : List (Option (List ℕ))
  pub is : all ≡ next ∷ more

first_message : (line : List ℕ) (lines : List (List ℕ)) → is_blank_line line ≡ false → (b : Bool) → is_line_of end_word line ≡ b → BeginsWith (Some line) (messages_of (line ∷ lines))
first_message line lines message true ends = record { more = []; is = end_next line lines message ends }
first_message line lines message false ends = record { more = messages_of lines; is = message_next line lines message ends }

-- messages of which this is the first, and the only one but for the end of the lines
pub record BeginsAlone (next : Option (List ℕ)) (all : List (Option (List ℕ))) : Type 0 where
  pub more : List (Option (List ℕ))
  pub is : all ≡ next ∷ more
  pub no_others : (more ≡ []) ⊎ (more ≡ None ∷ [])

first_alone : (line : List ℕ) → is_blank_line line ≡ false → (b : Bool) → is_line_of end_word line ≡ b → BeginsAlone (Some line) (messages_of (line ∷ []))
first_alone line message true ends = record { more = []; is = end_next line [] message ends; no_others = inl refl }
first_alone line message false ends = record { more = None ∷ []; is = message_next line [] message ends ∙ ap (λ (ns : List (Option (List ℕ))). Some line ∷ ns) none_left; no_others = inr refl }

behind_blanks : (blanks lines : List (List ℕ)) (next : Option (List ℕ)) → AreBlank blanks → BeginsWith next (messages_of lines) → BeginsWith next (messages_of (blanks ++ lines))
behind_blanks blanks lines next blank begins = record { more = begins.more; is = skip_blanks blanks lines blank ∙ begins.is }

-- the lines in which the next message was found
pub record GotNext (next : Option (List ℕ)) (room : ℕ) (bytes : List ℕ) (behind : Place) : Type 0 where
  pub lines : List (List ℕ)
  pub left : ℕ
  pub rest : List ℕ
  pub gave : GivesLines line_limit room bytes lines left rest
  pub read : BeginsAlone next (messages_of lines)
  pub all : BeginsWith next (messages_of (lines ++ lines_of rest))
  pub used_up : next ≡ None → rest ≡ []
  pub last : (line : List ℕ) → next ≡ Some line → (before : List (List ℕ)) × (lines ≡ before ++ line ∷ [])
  pub few : length behind.reader.held < read_size
  pub is : behind.ahead ≡ Some rest

pub got_next : (before behind : Place) (bytes : List ℕ) (message : Option NumberedLine) → BeginsAt before → before.ahead ≡ Some bytes → MessageGives before.reader before.ahead (Ok message) behind.reader behind.ahead → GotNext (line_in message) before.reader.room bytes behind
got_next before behind bytes (Some line) starts is_ahead gets =
    let k = known before.reader.limit before.reader.room line_limit before.reader.room before.ahead bytes (gets.lines ++ line.bytes ∷ []) behind.reader.room behind.ahead starts.limit refl is_ahead gets.took.gave in
    record {
      lines = gets.lines ++ line.bytes ∷ [];
      left = behind.reader.room;
      rest = k.rest;
      gave = k.gave;
      read = (let first = first_alone line.bytes gets.message (is_line_of end_word line.bytes) refl in
          record { more = first.more; is = skip_blanks gets.lines (line.bytes ∷ []) gets.blank ∙ first.is; no_others = first.no_others });
      all = subst (λ (ls : List (List ℕ)). BeginsWith (Some line.bytes) (messages_of ls)) (sym (append_assoc gets.lines (line.bytes ∷ []) (lines_of k.rest)))
          (behind_blanks gets.lines (line.bytes ∷ lines_of k.rest) (Some line.bytes) gets.blank (first_message line.bytes (lines_of k.rest) gets.message (is_line_of end_word line.bytes) refl));
      used_up = λ e. absurd (let h : Some line.bytes ≡ None = e in (cc));
      last = λ found e. (let same : line.bytes ≡ found = (let h : Some line.bytes ≡ Some found = e in (cc)) in (gets.lines, ap (λ (l : List ℕ). gets.lines ++ l ∷ []) same));
      few = gets.took.few starts.few;
      is = k.is;
    }
got_next before behind bytes None starts is_ahead gets =
    let k = known before.reader.limit before.reader.room line_limit before.reader.room before.ahead bytes gets.lines behind.reader.room behind.ahead starts.limit refl is_ahead gets.took.gave in
    let used = subst (λ (b : Option (List ℕ)). IsUsedUp b behind.ahead) is_ahead gets.used_up in
    let none : k.rest ≡ [] = (let h : Some k.rest ≡ Some [] = sym k.is ∙ used in (cc)) in
    let alone : messages_of gets.lines ≡ None ∷ [] = ap messages_of (sym (append-nil gets.lines)) ∙ skip_blanks gets.lines [] gets.blank ∙ none_left in
    let begins : BeginsWith None (messages_of gets.lines) = record { more = []; is = alone } in
    record {
      lines = gets.lines;
      left = behind.reader.room;
      rest = k.rest;
      gave = k.gave;
      read = record { more = []; is = alone; no_others = inl refl };
      all = subst (λ (ls : List (List ℕ)). BeginsWith None (messages_of ls)) (sym (ap (λ (r : List ℕ). gets.lines ++ lines_of r) none ∙ append-nil gets.lines)) begins;
      used_up = λ e. none;
      last = λ found e. absurd (let h : None ≡ Some found = e in (cc));
      few = gets.took.few starts.few;
      is = k.is;
    }

-- the lines with a next message behind those that were played
pub has_read : (input words : List ℕ) (heads lines : List (List ℕ)) (room mid : ℕ) (heads_rest bytes : List ℕ) (before : List (Option (List ℕ))) (next : Option (List ℕ)) (place : Place) (source_left : Option (List ℕ))
    → IsHead heads words → GivesLines line_limit total_limit input heads room heads_rest → GivesLines line_limit room heads_rest lines mid bytes → messages_of lines ≡ before ++ None ∷ [] → GotNext next mid bytes place
    → ahead place.reader.held source_left ≡ place.ahead → HasRead words (before ++ next ∷ []) input source_left
has_read input words heads lines room mid heads_rest bytes before next place source_left head gave gave2 so_far got behind =
    let both = head_then heads words (lines ++ got.lines) head in
    record {
      lines = heads ++ (lines ++ got.lines);
      left = got.left;
      rest = got.rest;
      more = got.read.more;
      gave = gave_append line_limit total_limit input heads (lines ++ got.lines) room heads_rest got.left got.rest gave (gave_append line_limit room heads_rest lines got.lines mid bytes got.left got.rest gave2 got.gave);
      text = both.0;
      behind = ap messages_of both.1 ∙ messages_append lines got.lines before so_far ∙ ap (λ (ns : List (Option (List ℕ))). before ++ ns) got.read.is ∙ sym (append_assoc before (next ∷ []) got.read.more);
      no_others = got.read.no_others;
      no_further = λ front line e.
          (let last = got.last line (last_is before front next (Some line) e) in
          let behind_lines = ends_behind lines got.lines last.0 line last.1 in
          ends_behind heads (lines ++ got.lines) behind_lines.0 line behind_lines.1);
      used_up = λ front e. got.used_up (last_is before front next None e);
      none = λ e. absurd (some_last before next (sym e));
      source = read_to place source_left got.rest got.few behind got.is;
    }

-- all messages of the input, where these lines of it were played and the next message was found behind them
pub all_messages : (input words : List ℕ) (heads lines : List (List ℕ)) (room mid : ℕ) (heads_rest bytes : List ℕ) (before : List (Option (List ℕ))) (next : Option (List ℕ)) (place : Place)
    → IsHead heads words → GivesLines line_limit total_limit input heads room heads_rest → GivesLines line_limit room heads_rest lines mid bytes → messages_of lines ≡ before ++ None ∷ [] → (got : GotNext next mid bytes place)
    → (split_of input).messages ≡ before ++ next ∷ got.all.more
all_messages input words heads lines room mid heads_rest bytes before next place head gave gave2 so_far got =
    (split_is input heads words (lines_of heads_rest) head (gave_lines line_limit total_limit input heads room heads_rest gave)).messages
    ∙ ap messages_of (gave_lines line_limit room heads_rest lines mid bytes gave2 ∙ ap (λ (ls : List (List ℕ)). lines ++ ls) (gave_lines line_limit mid bytes got.lines got.left got.rest got.gave))
    ∙ messages_append lines (got.lines ++ lines_of got.rest) before so_far ∙ ap (λ (ns : List (Option (List ℕ))). before ++ ns) got.all.is
