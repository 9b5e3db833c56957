-- Round after round, and message after message.
use Rattle.std.proofs.Common.{◌≡◌, ℕ, ◌+◌, ◌≤◌, ◌<◌, List, [], ◌∷◌, ◌++◌, length, drop, false, not, Option, Some, None, Result, Ok, Err, ◌⊎◌, inl, inr, refl, sym, ◌∙◌, ap, subst, arith, append_assoc, length-append}
use Rattle.std.proofs.lemmas.List.{append-nil}
use Rattle.std.proofs.lemmas.List.Elements.{All-head, filter_map-append, filter-append}
use mathlib.Core.List.{IsPrefix}
use Rattle.pl_turn.specs.History.{StandsIn}
use Rattle.pl_turn.specs.Passes.{seen_of, mine_of, crew_of}
use Rattle.pl_turn.proofs.Histories.{prefix_trans}
use Rattle.pl_io.specs.declared.errors.LineFault.{LineFault}
use Rattle.pl_io.specs.declared.errors.LineFault.TheVariants as fault
use Rattle.pl_io.specs.Faults.{Rose}
use Rattle.pl_io.specs.Writes.{AppendsFront}
use Rattle.pl_io.specs.Reader.{NumberedLine}
use Rattle.pl_marks.specs.declared.author.Author.TheVariants.{Feeder}
use Rattle.pl_model.specs.declared.whole.Model.{Model}
use Rattle.pl_entry.specs.declared.event.Event.TheVariants as event
use Rattle.pl_entry.specs.declared.entry.Entry.{Entry}
use Rattle.pl_input.specs.Words.{is_blank_line}
use Rattle.pl_journal.specs.Rendering.Lines.{text_from}
use Rattle.pl_journal.proofs.AboutRendering.Texts.{text_joined}
use Rattle.pl_input.specs.Reads.{ReadsLines, IsUsedUp, AreBlank}
use Rattle.pl_input.specs.Waits.{line_in}
use Rattle.pl_journal.specs.Written.{Adds}
use Rattle.pl_input.proofs.Reading.{took_more, used_later}
use Rattle.pl_journal.proofs.AboutWriting.{some_held, adds_then}
use Rattle.pl_acts.specs.declared.noted.Noted.{Noted}
use Rattle.pl_acts.specs.declared.noted.Noted.TheVariants.{Made, Stopped}
use Rattle.pl_locked.specs.declared.plan.SharedPlan.{SharedPlan}
use Rattle.pl_acts.specs.Items.{entry_in, entries_in, InWorld}
use Rattle.pl_acts.specs.Roles.{IsInputOf}
use Rattle.pl_locked.specs.Plans.{PlanPass, BelongsTo}
use Rattle.pl_locked.specs.Turns.{TakesTurn, Makes, Stops}
use Rattle.pl_acts.proofs.EntryKinds.{from_world}
use Rattle.pl_acts.proofs.FullLogs.{some_entries}
use Rattle.pl_pair.specs.declared.cut.Cut.{Cut}
use Rattle.pl_pair.specs.declared.cut.Cut.TheVariants as cut
use Rattle.pl_pair.specs.declared.rounds.Stage.TheVariants as stage
use Rattle.pl_pair.specs.Cuts.{cut_by}
use Rattle.pl_pair.specs.Rounds.{Follows, LooksAtPlan, IsBetween, lines_behind, RoundEnds}
use Rattle.std.specs.Prelude.{IsErrOf}
use Rattle.std.proofs.lemmas.Option.{same_Some}
use Rattle.pl_input.specs.Places.{Place}
use Rattle.pl_pair.specs.Asking.{Asks, IsFed, HandsOn, HandsNone, Passes, PassesTo}
use Rattle.pl_pair.specs.Feeds.{spoken, said_in, IsInput, AreInputs, Reads, unasked, asked, Heard, HandsOnMessages, HandsOne, WritesAll, FeedsRound, FeedsLastRound, StepsCut, in_round, at_message, FeedsRoundOrStops, Feeding, Waiting, FeedsOut, FeedsUntil, FeedsRefused, FeedsTorn, for_lines, for_message, for_reader, refused, stopped, FeedsAll, FeedsToEnd}
use Rattle.pl_pair.proofs.Passing.{follows_self, follows_on, entries_longer, behind_looks}

-- ---- lists

pub drop_front : {A : Type 0} (xs ys : List A) → drop (length xs) (xs ++ ys) ≡ ys
drop_front [] ys = refl
drop_front (x ∷ xs) ys = drop_front xs ys

some_nil : {A : Type 0} (xs : List A) (x : A) → [] ≡ xs ++ x ∷ [] → ⊥
some_nil [] x e = cc
some_nil (y ∷ xs) x e = cc

pub last_is : {A : Type 0} (xs ys : List A) (x y : A) → xs ++ x ∷ [] ≡ ys ++ y ∷ [] → x ≡ y
last_is [] [] x y e = cc
last_is [] (z ∷ ys) x y e = absurd (let h : [] ≡ ys ++ y ∷ [] = cc in some_nil ys y h)
last_is (z ∷ xs) [] x y e = absurd (let h : [] ≡ xs ++ x ∷ [] = cc in some_nil xs x h)
last_is (z ∷ xs) (w ∷ ys) x y e = (let h : xs ++ x ∷ [] ≡ ys ++ y ∷ [] = cc in last_is xs ys x y h)

-- ---- what is written

-- the entries of a history that goes on
pub entries_on : (front seen : List Noted) → (on : IsPrefix front seen) → entries_in seen ≡ entries_in front ++ entries_in on.0
entries_on front seen on = ap entries_in (sym on.1) ∙ filter_map-append entry_in front on.0

-- the lines behind a front are those of the rest
pub lines_rest : (m : Model) (front seen : List Noted) (from : ℕ) → (on : IsPrefix front seen) → from ≡ length (entries_in front) → lines_behind m from seen ≡ text_from m (0 + length (entries_in front)) (entries_in on.0)
lines_rest m front seen from on count =
    let es = entries_in front in
    let more = entries_in on.0 in
    let left : drop from (entries_in seen) ≡ more = ap (λ (k : ℕ). drop k (entries_in seen)) count ∙ ap (λ (xs : List Entry). drop (length es) xs) (entries_on front seen on) ∙ drop_front es more in
    let start : from ≡ 0 + length es = omega (arith, count) in
    ap (λ (xs : List Entry). text_from m from xs) left ∙ ap (λ (k : ℕ). text_from m k more) start

text_on : (m : Model) (front seen : List Noted) (from : ℕ) → IsPrefix front seen → from ≡ length (entries_in front) → text_from m 0 (entries_in front) ++ lines_behind m from seen ≡ text_from m 0 (entries_in seen)
text_on m front seen from on count =
    let es = entries_in front in
    let whole = entries_on front seen on in
    ap (λ (t : List ℕ). text_from m 0 es ++ t) (lines_rest m front seen from on count)
    ∙ sym (text_joined m 0 es (entries_in on.0))
    ∙ ap (λ (xs : List Entry). text_from m 0 xs) (sym whole)

wrote_on : (m : Model) (held mid now : Option (List ℕ)) (front seen : List Noted) (from : ℕ) → IsPrefix front seen → from ≡ length (entries_in front) → Adds held mid (text_from m 0 (entries_in front)) → Adds mid now (lines_behind m from seen) → WritesAll m held seen now
wrote_on m held mid now front seen from on count first second =
    subst (λ (t : List ℕ). Adds held now t) (text_on m front seen from on count) (adds_then held mid now (text_from m 0 (entries_in front)) (lines_behind m from seen) first second)

-- ---- what was told

tells_on : (old mid new : PlanPass) (start place : Place) → HandsOnMessages old start mid place → Follows mid new → mine_of new ≡ mine_of mid → HandsOnMessages old start new place
tells_on old mid new start place tells follows same = record {
  follows = follows_on old mid new tells.follows follows;
  inputs = tells.inputs;
  heard = tells.heard;
  mine = (let P : List (ℕ × Noted) → Type 0 = λ xs. AreInputs tells.inputs xs in subst P (sym same) tells.mine);
}

reads_on : (start middle place : Place) (xs ys : List (List ℕ)) → Reads start xs middle → ReadsLines middle.reader middle.ahead ys place.reader place.ahead → ReadsLines start.reader start.ahead (xs ++ ys) place.reader place.ahead
reads_on start middle place xs ys (unasked none same) took =
    let P : List (List ℕ) → Type 0 = λ zs. ReadsLines start.reader start.ahead (zs ++ ys) place.reader place.ahead in
    let Q : Place → Type 0 = λ p. ReadsLines p.reader p.ahead ys place.reader place.ahead in
    subst P (sym none) (subst Q same took)
reads_on start middle place xs ys (asked works first) took = took_more start.reader middle.reader place.reader start.ahead middle.ahead place.ahead xs ys first took

pub works_on : (start middle : Place) (xs : List (List ℕ)) → Reads start xs middle → middle.reader.failed ≡ None → start.reader.failed ≡ None
works_on start middle xs (unasked none same) works = sym (ap (λ (p : Place). p.reader.failed) same) ∙ works
works_on start middle xs (asked works first) works2 = works

used_on : (start middle place : Place) (xs : List (List ℕ)) → Reads start xs middle → IsUsedUp middle.ahead place.ahead → IsUsedUp start.ahead place.ahead
used_on start middle place xs (unasked none same) used =
    let Q : Place → Type 0 = λ p. IsUsedUp p.ahead place.ahead in
    subst Q same used
used_on start middle place xs (asked works took) used = used_later start.reader.limit start.reader.room start.ahead xs middle.reader.room middle.ahead place.ahead took.gave used

spoken_blank : (lines rest : List (List ℕ)) → AreBlank lines → spoken (lines ++ rest) ≡ spoken rest
spoken_blank [] rest all = refl
spoken_blank (x ∷ xs) rest all = rw all.0 (spoken_blank xs rest all.1)

spoken_one : (line : List ℕ) → is_blank_line line ≡ false → spoken (line ∷ []) ≡ line ∷ []
spoken_one line other = rw other refl

said_more : (inputs : List (Option (List ℕ))) (lines blanks : List (List ℕ)) (line : List ℕ) → said_in inputs ≡ spoken lines → AreBlank blanks → is_blank_line line ≡ false
    → said_in (inputs ++ Some line ∷ []) ≡ spoken (lines ++ (blanks ++ line ∷ []))
said_more inputs lines blanks line said blank other =
    filter_map-append (λ (m : Option (List ℕ)). m) inputs (Some line ∷ [])
    ∙ ap (λ (ls : List (List ℕ)). ls ++ line ∷ []) said
    ∙ ap (λ (ls : List (List ℕ)). spoken lines ++ ls) (sym (spoken_blank blanks (line ∷ []) blank ∙ spoken_one line other))
    ∙ sym (filter-append (λ (l : List ℕ). not (is_blank_line l)) lines (blanks ++ line ∷ []))

said_same : (inputs : List (Option (List ℕ))) (lines blanks : List (List ℕ)) → said_in inputs ≡ spoken lines → AreBlank blanks → said_in (inputs ++ None ∷ []) ≡ spoken (lines ++ blanks)
said_same inputs lines blanks said blank =
    filter_map-append (λ (m : Option (List ℕ)). m) inputs (None ∷ [])
    ∙ append-nil (said_in inputs)
    ∙ said
    ∙ sym (append-nil (spoken lines))
    ∙ ap (λ (ls : List (List ℕ)). spoken lines ++ ls) (sym (ap spoken (sym (append-nil blanks)) ∙ spoken_blank blanks [] blank))
    ∙ sym (filter-append (λ (l : List ℕ). not (is_blank_line l)) lines blanks)

inputs_push : (inputs : List (Option (List ℕ))) (own : List (ℕ × Noted)) (line : Option (List ℕ)) (x : ℕ × Noted) → AreInputs inputs own → IsInput line x.1 → AreInputs (inputs ++ line ∷ []) (own ++ x ∷ [])
inputs_push [] [] line x are is = (is, tt)
inputs_push [] (y ∷ own) line x are is = absurd are
inputs_push (l ∷ inputs) [] line x are is = absurd are
inputs_push (l ∷ inputs) (y ∷ own) line x are is = (are.0, inputs_push inputs own line x are.1 is)

-- a message more
pub heard_more : (start middle place : Place) (inputs : List (Option (List ℕ))) (message : Option NumberedLine) → Heard start inputs middle → Asks middle (Ok message) place → Heard start (inputs ++ line_in message ∷ []) place
heard_more start middle place inputs None heard asks =
    let gets = asks.1 in
    record {
      lines = heard.lines ++ gets.lines;
      reads = asked (works_on start middle heard.lines heard.reads asks.0) (reads_on start middle place heard.lines gets.lines heard.reads gets.took);
      said = said_same inputs heard.lines gets.lines heard.said gets.blank;
      used = λ front e. used_on start middle place heard.lines heard.reads gets.used_up;
      last = λ front line e. absurd (let h : None ≡ Some line = last_is inputs front None (Some line) e in (cc));
      none = λ e. absurd (some_nil inputs None (sym e));
    }
heard_more start middle place inputs (Some line) heard asks =
    let gets = asks.1 in
    record {
      lines = heard.lines ++ (gets.lines ++ line.bytes ∷ []);
      reads = asked (works_on start middle heard.lines heard.reads asks.0) (reads_on start middle place heard.lines (gets.lines ++ line.bytes ∷ []) heard.reads gets.took);
      said = said_more inputs heard.lines gets.lines line.bytes heard.said gets.blank gets.message;
      used = λ front e. absurd (let h : Some line.bytes ≡ None = last_is inputs front (Some line.bytes) None e in (cc));
      last = λ front l e.
          let same : line.bytes ≡ l = same_Some line.bytes l (last_is inputs front (Some line.bytes) (Some l) e) in
          (heard.lines ++ gets.lines, sym (append_assoc heard.lines gets.lines (line.bytes ∷ [])) ∙ ap (λ (x : List ℕ). (heard.lines ++ gets.lines) ++ x ∷ []) same);
      none = λ e. absurd (some_nil inputs (Some line.bytes) (sym e));
    }

-- and it was handed on
tells_more : (plan : SharedPlan) (old mid new : PlanPass) (start middle place : Place) → HandsOnMessages old start mid middle → Follows mid new → HandsOn middle mid (Ok tt) place new → HandsOnMessages old start new place
tells_more plan old mid new start middle place tells follows step =
    let line = line_in step.message in
    let makes = step.hands.1 in
    let is : makes.entry.event ≡ event.Input line = from_world (λ w. IsInputOf line w makes.entry) (makes.entry.event ≡ event.Input line) (seen_of mid ++ makes.between) makes.by (λ w h. h) in
    record {
      follows = follows_on old mid new tells.follows follows;
      inputs = tells.inputs ++ line ∷ [];
      heard = heard_more start middle place tells.inputs step.message tells.heard step.asks;
      mine = (let P : List (ℕ × Noted) → Type 0 = λ xs. AreInputs (tells.inputs ++ line ∷ []) xs in subst P (sym makes.mine) (inputs_push tells.inputs (mine_of mid) line (step.hands.0, Made (Some Feeder) makes.entry) tells.mine (refl, is)));
    }

-- a pass's own items stand in what it has seen
pub own_stands : (plan : SharedPlan) (pass : PlanPass) → BelongsTo plan pass → StandsIn (seen_of pass) (mine_of pass)
own_stands plan pass own = All-head (StandsIn (seen_of pass)) (mine_of pass) (crew_of pass).joined own.lock.stands

-- its entry stands behind what was seen before it
one_due : (mid new : PlanPass) (next number : ℕ) (line : Option (List ℕ)) → Makes (IsFed line) Feeder mid new number → next ≡ length (entries_in (seen_of mid)) → next < length (entries_in (seen_of new))
one_due mid new next number line makes count =
    let before = seen_of mid ++ makes.between in
    let whole : entries_in (seen_of new) ≡ entries_in before ++ makes.entry ∷ [] = ap entries_in makes.seen ∙ filter_map-append entry_in before (Made (Some Feeder) makes.entry ∷ []) in
    let long = ap (λ (es : List Entry). length es) whole ∙ length-append (entries_in before) (makes.entry ∷ []) in
    let longer = entries_longer (seen_of mid) before (makes.between, refl) in
    omega (arith, long, longer, count)

hands_one : (plan : SharedPlan) (old mid new : PlanPass) (number : ℕ) (line : Option (List ℕ)) → BelongsTo plan mid → Follows old mid → Makes (IsFed line) Feeder mid new number → InWorld (seen_of mid) IsBetween → HandsOne old (seen_of mid) (mine_of new)
hands_one plan old mid new number line own follows makes between = record {
  longer = follows.longer;
  plan = own.seen;
  between = between;
  earlier = mine_of mid;
  stands = own_stands plan mid own;
  last = (number, Made (Some Feeder) makes.entry);
  own = makes.mine;
}

not_full : (f : LineFault) → cut.Full ≡ cut_by f → ⊥
not_full fault.Read e = cc
not_full (fault.Long n) e = cc
not_full fault.Total e = cc
not_full fault.Memory e = cc

not_stopped : (f : LineFault) → cut.Stopped ≡ cut_by f → ⊥
not_stopped fault.Read e = cc
not_stopped (fault.Long n) e = cc
not_stopped fault.Total e = cc
not_stopped fault.Memory e = cc

not_write : (f : LineFault) → cut.Write ≡ cut_by f → ⊥
not_write fault.Read e = cc
not_write (fault.Long n) e = cc
not_write fault.Total e = cc
not_write fault.Memory e = cc

-- ---- the loop

-- nothing was read
pub heard_none : (start : Place) → Heard start [] start
heard_none start = record {
  lines = [];
  reads = unasked refl refl;
  said = refl;
  used = λ front e. absurd (some_nil front None e);
  last = λ front line e. absurd (some_nil front (Some line) e);
  none = λ e. refl;
}

pub feeding_none : (plan : SharedPlan) (m : Model) (pass : PlanPass) (start : Place) (held : Option (List ℕ)) → BelongsTo plan pass → mine_of pass ≡ [] → Feeding plan m pass start held pass start held 0
feeding_none plan m pass start held own new = record {
  own = own;
  tells = record {
    follows = follows_self pass;
    inputs = [];
    heard = heard_none start;
    mine = (let P : List (ℕ × Noted) → Type 0 = λ xs. AreInputs [] xs in subst P (sym new) tt);
  };
  writes = record { front = []; in_front = (seen_of pass, refl); count = refl; due = some_entries (seen_of pass) own.seen; written = some_held held; behind = inl new };
}

module _ (plan : SharedPlan) (m : Model) (old : PlanPass) (start : Place) (held : Option (List ℕ)) (cur : PlanPass) (middle : Place) (mid : Option (List ℕ)) (from : ℕ) (feeding : Feeding plan m old start held cur middle mid from) where
  on_to : (new : PlanPass) → LooksAtPlan cur new → IsPrefix feeding.writes.front (seen_of new)
  on_to new looks = prefix_trans feeding.writes.front (seen_of cur) (seen_of new) feeding.writes.in_front looks.follows.longer

  told_to : (new : PlanPass) → LooksAtPlan cur new → HandsOnMessages old start new middle
  told_to new looks = tells_on old cur new start middle feeding.tells looks.follows looks.mine

  waits : (new : PlanPass) (now : Option (List ℕ)) (next : ℕ) → BelongsTo plan new → LooksAtPlan cur new → RoundEnds m from mid (Ok (stage.Waits next)) (seen_of new) now → Waiting plan m old start held new middle now
  waits new now next own looks ends = record {
    own = own;
    tells = told_to new looks;
    written = wrote_on m held mid now feeding.writes.front (seen_of new) from (on_to new looks) feeding.writes.count feeding.writes.written ends.0;
    between = ends.2;
  }

  -- the pass sees more, and its lines are still to be written
  still : (new : PlanPass) → BelongsTo plan new → LooksAtPlan cur new → Feeding plan m old start held new middle mid from
  still new own looks =
      let writes = feeding.writes in
      let P : List (ℕ × Noted) → Type 0 = λ own. (own ≡ []) ⊎ HandsOne old writes.front own in
      record {
        own = own;
        tells = told_to new looks;
        writes = record { front = writes.front; in_front = on_to new looks; count = writes.count; due = behind_looks from cur new writes.due looks; written = writes.written; behind = subst P (sym looks.mine) writes.behind };
      }

  torn_to : (new : PlanPass) (place : Place) (now : Option (List ℕ)) → BelongsTo plan new → LooksAtPlan cur new → AppendsFront mid now (lines_behind m from (seen_of new)) → place ≡ middle → FeedsTorn plan m old start held new place now
  torn_to new place now own looks torn same =
      let P : Place → Type 0 = λ p. Feeding plan m old start held new p mid from in
      record { next = from; so_far = mid; feeding = subst P (sym same) (still new own looks); torn = torn }

  -- the lines were written, and a message was handed on
  pub feeds_on : (new : PlanPass) (place : Place) (now : Option (List ℕ)) (next : ℕ) → BelongsTo plan new → FeedsRound plan m from middle cur mid next place new now → Feeding plan m old start held new place now next
  feeds_on new place now next own step =
      let waiting = waits step.mid now next step.own step.looks step.ends in
      record {
        own = own;
        tells = tells_more plan old step.mid new start middle place waiting.tells step.follows step.passes;
        writes = record {
          front = seen_of step.mid;
          in_front = step.follows.longer;
          count = step.ends.1;
          due = one_due step.mid new next step.passes.hands.0 (line_in step.passes.message) step.passes.hands.1 step.ends.1;
          written = waiting.written;
          behind = inr (hands_one plan old step.mid new step.passes.hands.0 (line_in step.passes.message) step.own waiting.tells.follows step.passes.hands.1 step.ends.2);
        };
      }

  -- the input had ended
  pub feeds_out : (new : PlanPass) (place : Place) (now : Option (List ℕ)) → BelongsTo plan new → FeedsLastRound m from middle cur mid place new now → FeedsOut plan m old start held new place now
  feeds_out new place now own step =
      let P : Place → Type 0 = λ p. HandsOnMessages old start new p in
      record {
        own = own;
        tells = subst P (sym step.same) (told_to new step.looks);
        written = wrote_on m held mid now feeding.writes.front (seen_of new) from (on_to new step.looks) feeding.writes.count feeding.writes.written step.ends.0;
        done = step.ends.1;
      }

  -- cut short in a round
  cut_round : (c : Cut) (new : PlanPass) (place : Place) (now : Option (List ℕ)) → BelongsTo plan new → LooksAtPlan cur new → RoundEnds m from mid (Err c) (seen_of new) now → place ≡ middle → FeedsAll plan m old start held (Err c) new place now
  cut_round cut.Read new place now own looks ends same = absurd ends
  cut_round cut.Limit new place now own looks ends same = absurd ends
  cut_round cut.Full new place now own looks ends same = absurd ends
  cut_round cut.Write new place now own looks ends same = torn_to new place now own looks ends same
  cut_round cut.Memory new place now own looks ends same = for_lines (torn_to new place now own looks ends same)
  cut_round cut.Stopped new place now own looks ends same =
      let P : Place → Type 0 = λ p. HandsOnMessages old start new p in
      stopped (record {
        own = own;
        tells = subst P (sym same) (told_to new looks);
        written = wrote_on m held mid now feeding.writes.front (seen_of new) from (on_to new looks) feeding.writes.count feeding.writes.written ends.0;
        stopped = ends.1;
        going = ends.2;
      })

  module _ (between : PlanPass) (now : Option (List ℕ)) (waiting : Waiting plan m old start held between middle now) (new : PlanPass) (place : Place) (own : BelongsTo plan new) (follows : Follows between new) where
    refused_at : (c : Cut) → HandsOn middle between (Err c) place new → FeedsRefused plan m c old start held new place now
    refused_at c step = record { mid = between; middle = middle; waiting = waiting; own = own; follows = follows; step = step }

    until_at : (c : Cut) → HandsNone middle between c place new → FeedsUntil plan m c old start held new place now
    until_at c step = record {
      middle = middle;
      waiting = (let P : PlanPass → Type 0 = λ p. Waiting plan m old start held p middle now in subst P (sym step.same) waiting);
      fault = step.fault;
      asks = step.asks;
      cut = step.cut;
    }

    -- cut short at a message
    cut_message : (c : Cut) → Passes middle between (Err c) place new → FeedsAll plan m old start held (Err c) new place now
    cut_message cut.Read (inl step) = absurd step.hands
    cut_message cut.Read (inr step) = until_at cut.Read step
    cut_message cut.Limit (inl step) = absurd step.hands
    cut_message cut.Limit (inr step) = until_at cut.Limit step
    cut_message cut.Full (inl step) = refused_at cut.Full step
    cut_message cut.Full (inr step) = absurd (not_full step.fault step.cut)
    cut_message cut.Stopped (inl step) = refused (refused_at cut.Stopped step)
    cut_message cut.Stopped (inr step) = absurd (not_stopped step.fault step.cut)
    cut_message cut.Write (inl step) = absurd step.hands
    cut_message cut.Write (inr step) = absurd (not_write step.fault step.cut)
    cut_message cut.Memory (inl step) = for_message (refused_at cut.Memory step)
    cut_message cut.Memory (inr step) = for_reader (until_at cut.Memory step)

  pub feeds_cut : (c : Cut) (new : PlanPass) (place : Place) (now : Option (List ℕ)) → BelongsTo plan new → StepsCut plan m from middle cur mid c place new now → FeedsAll plan m old start held (Err c) new place now
  feeds_cut c new place now own (in_round looks ends same) = cut_round c new place now own looks ends same
  feeds_cut c new place now own (at_message between next own2 looks ends passes follows) =
      cut_message between now (waits between now next own2 looks ends) new place own follows c passes

-- ---- what the loop needs of it

pub feeding_due : (plan : SharedPlan) (m : Model) (old new : PlanPass) (start place : Place) (held now : Option (List ℕ)) (next : ℕ) → Feeding plan m old start held new place now next → next < length (entries_in (seen_of new))
feeding_due plan m old new start place held now next feeding = feeding.writes.due

reads_limit : (start place : Place) (lines : List (List ℕ)) → Reads start lines place → place.reader.limit ≡ start.reader.limit
reads_limit start place lines (unasked none same) = ap (λ (p : Place). p.reader.limit) same
reads_limit start place lines (asked works took) = took.limit

pub feeding_limit : (plan : SharedPlan) (m : Model) (old new : PlanPass) (start place : Place) (held now : Option (List ℕ)) (next : ℕ) → Feeding plan m old start held new place now next → start.reader.limit ≤ 4096 → place.reader.limit ≤ 4096
feeding_limit plan m old new start place held now next feeding le = (let same = reads_limit start place feeding.tells.heard.lines feeding.tells.heard.reads in omega arith)

reads_works : (start place : Place) (lines : List (List ℕ)) → Reads start lines place → start.reader.failed ≡ None → place.reader.failed ≡ None
reads_works start place lines (unasked none same) works = ap (λ (p : Place). p.reader.failed) same ∙ works
reads_works start place lines (asked works took) works2 = took.working

pub feeding_works : (plan : SharedPlan) (m : Model) (old new : PlanPass) (start place : Place) (held now : Option (List ℕ)) (next : ℕ) → Feeding plan m old start held new place now next → start.reader.failed ≡ None → place.reader.failed ≡ None
feeding_works plan m old new start place held now next feeding works = reads_works start place feeding.tells.heard.lines feeding.tells.heard.reads works

-- ---- one round and the next message

pub step_out : (plan : SharedPlan) (m : Model) (from : ℕ) (start : Place) (old new : PlanPass) (held now : Option (List ℕ)) → LooksAtPlan old new → RoundEnds m from held (Ok stage.Ended) (seen_of new) now → FeedsRoundOrStops plan m from start old held (Ok None) start new now
step_out plan m from start old new held now looks ends = record { looks = looks; ends = ends; same = refl }

pub step_round : (plan : SharedPlan) (m : Model) (from : ℕ) (start : Place) (old new : PlanPass) (held now : Option (List ℕ)) (c : Cut) → LooksAtPlan old new → RoundEnds m from held (Err c) (seen_of new) now → FeedsRoundOrStops plan m from start old held (Err c) start new now
step_round plan m from start old new held now c looks ends = in_round looks ends refl

-- a round, and what came of the next message
pub step_behind : (plan : SharedPlan) (m : Model) (from next : ℕ) (start place : Place) (old mid new : PlanPass) (held now : Option (List ℕ)) (r : Result (Option ℕ) Cut) → BelongsTo plan mid → LooksAtPlan old mid → RoundEnds m from held (Ok (stage.Waits next)) (seen_of mid) now
    → PassesTo next start mid r place new → Follows mid new → FeedsRoundOrStops plan m from start old held r place new now
step_behind plan m from next start place old mid new held now (Ok (Some n)) own looks ends passes follows =
    let P : ℕ → Type 0 = λ k. RoundEnds m from held (Ok (stage.Waits k)) (seen_of mid) now in
    record { mid = mid; own = own; looks = looks; ends = subst P (sym passes.0) ends; passes = passes.1; follows = follows }
step_behind plan m from next start place old mid new held now (Ok None) own looks ends passes follows = absurd passes
step_behind plan m from next start place old mid new held now (Err c) own looks ends passes follows = at_message mid next own looks ends passes follows

-- a round ends by no fault of the reader
pub round_no_read : (m : Model) (from : ℕ) (held now : Option (List ℕ)) (seen : List Noted) (c : Cut) (a b : ℕ) → RoundEnds m from held (Err c) seen now → c ≡ cut.Read → Rose a b
round_no_read m from held now seen c a b ends is = absurd (let P : Cut → Type 0 = λ k. RoundEnds m from held (Err k) seen now in subst P is ends)

no_write : (next : ℕ) (start place : Place) (old new : PlanPass) → PassesTo next start old (Err cut.Write) place new → ⊥
no_write next start place old new (inl step) = step.hands
no_write next start place old new (inr step) = not_write step.fault step.cut

is_no_error : (r : Result (Option ℕ) Cut) (o : Option ℕ) → r ≡ Ok o → r ≡ Err cut.Write → ⊥
is_no_error r o is e = cc

same_cut : (r : Result (Option ℕ) Cut) (c : Cut) → r ≡ Err c → r ≡ Err cut.Write → c ≡ cut.Write
same_cut r c is e = cc

-- a message is kept back by no fault of the sink
pub passes_no_write : (next : ℕ) (start place : Place) (old new : PlanPass) (r : Result (Option ℕ) Cut) (a b : ℕ) → PassesTo next start old r place new → IsErrOf r cut.Write → Rose a b
passes_no_write next start place old new (Ok o) a b passes is = absurd (is_no_error (Ok o) o refl is)
passes_no_write next start place old new (Err c) a b passes is = absurd (let P : Cut → Type 0 = λ k. PassesTo next start old (Err k) place new in no_write next start place old new (subst P (same_cut (Err c) c refl is) passes))

-- ---- the stop behind it

pub ends_stopped : (plan : SharedPlan) (m : Model) (c : Cut) (old mid new : PlanPass) (start place : Place) (held now : Option (List ℕ)) → FeedsAll plan m old start held (Err c) mid place now → TakesTurn mid new → Stops Feeder mid new
    → FeedsToEnd plan m old start held (Err c) new place now
ends_stopped plan m c old mid new start place held now feeds takes stops = record { mid = mid; feeds = feeds; takes = takes; stops = stops }
