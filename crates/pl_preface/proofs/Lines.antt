-- What stands before a journal, line by line.
use Rattle.std.proofs.Common.{◌≡◌, ℕ, suc, ◌+◌, ◌≤◌, List, [], ◌∷◌, ◌++◌, length, Bool, true, false, if◌then◌else◌, Option, None, inl, inr, refl, sym, ◌∙◌, ap, subst, add-zero, length-append, arith}
use Rattle.std.proofs.lemmas.Bool.{ltb-true}
use Rattle.std.proofs.lemmas.List.{append-nil}
use Rattle.std.proofs.lemmas.List.Elements.{All-nil, All-push}
use Rattle.std.specs.Prelude.{nat_lt, All, ⊤}
use Rattle.pl_io.specs.declared.errors.LineFault.{LineFault}
use Rattle.pl_io.specs.Reader.{Reader}
use Rattle.pl_input.specs.Reads.{ReadsLines, Halts, IsUsedUp}
use Rattle.pl_input.proofs.Reading.{took_none, took_more, used_later, halts_later}
use Rattle.pl_preface.specs.declared.refusal.Refusal.{Refusal}
use Rattle.pl_preface.specs.declared.refusal.Refusal.TheVariants as refusal
use Rattle.pl_preface.specs.declared.found.Found.{Found}
use Rattle.pl_preface.specs.declared.found.Found.TheVariants as found
use Rattle.pl_preface.specs.declared.found.Step.{Step}
use Rattle.pl_preface.specs.declared.found.Step.TheVariants as step
use Rattle.pl_preface.specs.Prefaces.{Reading, most_items, found_in, step_by, Said, so_far, whole, refused, goes_on, said, FitsFound, FitsStep}
use Rattle.pl_preface.specs.Gives.{SeesLine, IsBeforeJournal, HasPreface, IsRefusal, PrefaceHalts}

abbrev Lines : Type 0
Lines = List (List ℕ)

-- ---- more lines

-- what lines say, with more lines behind them
abbrev pub continued : {X : Type 0} → Reading X → ℕ → Lines → Said X → Said X
continued read before more (so_far items) = said read before items more
continued read before more (whole items behind) = whole items (behind ++ more)
continued read before more (refused why behind) = refused why (behind ++ more)

step_continues : {X : Type 0} (read : Reading X) (n : ℕ) (next : Step X) (xs more : Lines) (rest : List X → Said X) (longer : List X → Said X) → ((items : List X) → longer items ≡ continued read n more (rest items))
    → goes_on next (xs ++ more) longer ≡ continued read n more (goes_on next xs rest)
step_continues read n (step.More items) xs more rest longer same = same items
step_continues read n (step.Given items) xs more rest longer same = refl
step_continues read n (step.Refused why) xs more rest longer same = refl
step_continues read n step.Ended xs more rest longer same = refl

pub said_append : {X : Type 0} (read : Reading X) (n : ℕ) (items : List X) (lines more : Lines) → said read n items (lines ++ more) ≡ continued read (n + length lines) more (said read n items lines)
said_append read n items [] more = ap (λ (k : ℕ). said read k items more) (sym (add-zero n))
said_append {X} read n items (x ∷ xs) more =
    let count : suc n + length xs ≡ n + length (x ∷ xs) = omega arith in
    step_continues read (n + length (x ∷ xs)) (step_by (suc n) items (found_in read x)) xs more (λ (ys : List X). said read (suc n) ys xs) (λ (ys : List X). said read (suc n) ys (xs ++ more))
    (λ ys. said_append read (suc n) ys xs more ∙ ap (λ (k : ℕ). continued read k more (said read (suc n) ys xs)) count)

pub said_later : {X : Type 0} (read : Reading X) (n : ℕ) (lines more : Lines) (items : List X) → said read n [] lines ≡ so_far items → said read n [] (lines ++ more) ≡ said read (n + length lines) items more
said_later read n lines more items says = said_append read n [] lines more ∙ ap (continued read (n + length lines) more) says

pub whole_later : {X : Type 0} (read : Reading X) (n : ℕ) (lines more behind : Lines) (items : List X) → said read n [] lines ≡ whole items behind → said read n [] (lines ++ more) ≡ whole items (behind ++ more)
whole_later read n lines more behind items says = said_append read n [] lines more ∙ ap (continued read (n + length lines) more) says

pub refused_later : {X : Type 0} (read : Reading X) (n : ℕ) (lines more behind : Lines) (why : Refusal) → said read n [] lines ≡ refused why behind → said read n [] (lines ++ more) ≡ refused why (behind ++ more)
refused_later read n lines more behind why says = said_append read n [] lines more ∙ ap (continued read (n + length lines) more) says

-- ---- a step of the reader

pub before_none : {X : Type 0} (read : Reading X) (old : Reader) (before : Option (List ℕ)) → old.failed ≡ None → IsBeforeJournal read old before [] old before
before_none read old before working = record { lines = []; took = took_none old before working; says = refl }

-- what the lines say with one more
one_more : {X : Type 0} (read : Reading X) (old mid new : Reader) (before middle after : Option (List ℕ)) (items : List X) (next : Step X) (so : IsBeforeJournal read old before items mid middle) (sees : SeesLine read mid middle items next new after)
    → said read old.number [] (so.lines ++ sees.line ∷ []) ≡ goes_on next [] (λ (ys : List X). so_far ys)
one_more {X} read old mid new before middle after items next so sees =
    let one : length (sees.line ∷ []) ≡ 1 = refl in
    let number : suc (old.number + length so.lines) ≡ new.number = omega (arith, so.took.number, sees.took.number, one) in
    said_later read old.number so.lines (sees.line ∷ []) items so.says
    ∙ ap (λ (n : ℕ). goes_on (step_by n items (found_in read sees.line)) [] (λ (ys : List X). so_far ys)) number
    ∙ ap (λ (s : Step X). goes_on s [] (λ (ys : List X). so_far ys)) (sym sees.is)

abbrev both : {X : Type 0} (read : Reading X) (old mid new : Reader) (before middle after : Option (List ℕ)) (items : List X) (next : Step X) (so : IsBeforeJournal read old before items mid middle) (sees : SeesLine read mid middle items next new after)
    → ReadsLines old before (so.lines ++ sees.line ∷ []) new after
both read old mid new before middle after items next so sees = took_more old mid new before middle after so.lines (sees.line ∷ []) so.took sees.took

pub before_on : {X : Type 0} (read : Reading X) (old mid new : Reader) (before middle after : Option (List ℕ)) (items more : List X) → IsBeforeJournal read old before items mid middle → SeesLine read mid middle items (step.More more) new after
    → IsBeforeJournal read old before more new after
before_on read old mid new before middle after items more so sees =
    record { lines = so.lines ++ sees.line ∷ []; took = both read old mid new before middle after items (step.More more) so sees; says = one_more read old mid new before middle after items (step.More more) so sees }

pub before_whole : {X : Type 0} (read : Reading X) (old mid new : Reader) (before middle after : Option (List ℕ)) (items all : List X) → IsBeforeJournal read old before items mid middle → SeesLine read mid middle items (step.Given all) new after
    → HasPreface read old before all new after
before_whole read old mid new before middle after items all so sees =
    record { lines = so.lines ++ sees.line ∷ []; took = both read old mid new before middle after items (step.Given all) so sees; says = one_more read old mid new before middle after items (step.Given all) so sees }

pub before_refused : {X : Type 0} (read : Reading X) (old mid new : Reader) (before middle after : Option (List ℕ)) (items : List X) (why : Refusal) → IsBeforeJournal read old before items mid middle → SeesLine read mid middle items (step.Refused why) new after
    → IsRefusal read old before why new after
before_refused read old mid new before middle after items why so sees =
    inl (record { lines = so.lines ++ sees.line ∷ []; took = both read old mid new before middle after items (step.Refused why) so sees; says = one_more read old mid new before middle after items (step.Refused why) so sees })

pub before_ended : {X : Type 0} (read : Reading X) (old mid new : Reader) (before middle after : Option (List ℕ)) (items : List X) → IsBeforeJournal read old before items mid middle → ReadsLines mid middle [] new after × IsUsedUp middle after
    → IsRefusal read old before refusal.NoJournal new after
before_ended read old mid new before middle after items so ends =
    inr (
      refl,
      record {
        lines = so.lines ++ [];
        items = items;
        took = took_more old mid new before middle after so.lines [] so.took ends.0;
        says = rw (append-nil so.lines) so.says;
        used_up = used_later old.limit old.room before so.lines mid.room middle after so.took.gave ends.1;
      },
    )

pub before_halted : {X : Type 0} (read : Reading X) (old mid new : Reader) (before middle after : Option (List ℕ)) (items : List X) (f : LineFault) → IsBeforeJournal read old before items mid middle → Halts mid middle [] f new after → PrefaceHalts read old before f new after
before_halted read old mid new before middle after items f so halts = record {
  lines = so.lines ++ [];
  items = items;
  halts = halts_later old mid new before middle after so.lines [] f so.took halts;
  says = rw (append-nil so.lines) so.says;
}

-- ---- what holds of the items

pub no_items : {X : Type 0} (fits : X → Type 0) → All fits []
no_items fits = All-nil fits

added_fits : {X : Type 0} (fits : X → Type 0) (b : Bool) (why : Refusal) (items : List X) (x : X) → All fits items → fits x → FitsStep fits (if b then step.More (items ++ x ∷ []) else step.Refused why)
added_fits fits true why items x all one = All-push fits items x all one
added_fits fits false why items x all one = tt

pub step_fits : {X : Type 0} (fits : X → Type 0) (number : ℕ) (items : List X) (it : Found X) → All fits items → FitsFound fits it → FitsStep fits (step_by number items it)
step_fits fits number items found.Journal all one = all
step_fits fits number items found.Blank all one = all
step_fits fits number items (found.Item x) all one = added_fits fits (nat_lt (length items) most_items) (refusal.TooMany number) items x all one
step_fits fits number items (found.Faulty p) all one = tt

-- ---- how many items there are

abbrev FewSoFar : {X : Type 0} → Step X → Type 0
FewSoFar (step.More items) = length items ≤ most_items
FewSoFar (step.Given items) = length items ≤ most_items
FewSoFar (step.Refused why) = ⊤
FewSoFar step.Ended = ⊤

abbrev FewSaid : {X : Type 0} → Said X → Type 0
FewSaid (so_far items) = length items ≤ most_items
FewSaid (whole items behind) = length items ≤ most_items
FewSaid (refused why behind) = ⊤

few_added : {X : Type 0} (b : Bool) (why : Refusal) (items : List X) (x : X) → nat_lt (length items) most_items ≡ b → FewSoFar (if b then step.More (items ++ x ∷ []) else step.Refused why)
few_added true why items x test = omega (arith, length-append items (x ∷ []), ltb-true (length items) most_items test)
few_added false why items x test = tt

few_by : {X : Type 0} (number : ℕ) (items : List X) (it : Found X) → length items ≤ most_items → FewSoFar (step_by number items it)
few_by number items found.Journal few = few
few_by number items found.Blank few = few
few_by number items (found.Item x) few = few_added (nat_lt (length items) most_items) (refusal.TooMany number) items x refl
few_by number items (found.Faulty p) few = tt

few_behind : {X : Type 0} (next : Step X) (lines : Lines) (rest : List X → Said X) → FewSoFar next → ((items : List X) → length items ≤ most_items → FewSaid (rest items)) → FewSaid (goes_on next lines rest)
few_behind (step.More items) lines rest few on = on items few
few_behind (step.Given items) lines rest few on = few
few_behind (step.Refused why) lines rest few on = tt
few_behind step.Ended lines rest few on = tt

few_said : {X : Type 0} (read : Reading X) (n : ℕ) (items : List X) (lines : Lines) → length items ≤ most_items → FewSaid (said read n items lines)
few_said read n items [] few = few
few_said {X} read n items (x ∷ xs) few =
    few_behind (step_by (suc n) items (found_in read x)) xs (λ (ys : List X). said read (suc n) ys xs) (few_by (suc n) items (found_in read x) few)
    (λ ys le. few_said read (suc n) ys xs le)

pub few_given : {X : Type 0} (read : Reading X) (old : Reader) (before : Option (List ℕ)) (items : List X) (new : Reader) (after : Option (List ℕ)) → HasPreface read old before items new after → length items ≤ most_items
few_given {X} read old before items new after has = subst (λ (s : Said X). FewSaid s) has.says (few_said read old.number [] has.lines (omega arith))
