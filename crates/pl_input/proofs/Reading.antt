-- Lines that a reader gave, one after another.
use Rattle.std.proofs.Common.{◌≡◌, ℕ, ◌+◌, ◌<◌, ◌≤◌, List, [], ◌∷◌, ◌++◌, length, take, Bool, true, false, not, ◌&&◌, nat_lt, if◌then◌else◌, Option, Some, None, IfSome, Result, Ok, Err, refl, sym, ◌∙◌, ap, subst, length-append, arith}
use Rattle.std.proofs.lemmas.Option.{same_Some}
use Rattle.pl_io.specs.declared.errors.LineFault.{LineFault}
use Rattle.pl_io.specs.declared.errors.LineFault.TheVariants as fault
use Rattle.pl_io.specs.Lines.{first_line, has_newline, lines_of, after_line, next_of, given, ended, line_too_long, input_too_long}
use Rattle.pl_io.specs.Reader.{Reader, NumberedLine, FaultShown, Moves, Answers, IsNextLine}
use Rattle.pl_io.specs.Sparing.{read_size, IsSparing}
use Rattle.pl_io.proofs.LineLaws.{lines_of_next}
use Rattle.pl_input.specs.Reads.{GivesLines, GivesLinesKnown, ReadsLines, WhyKnown, StopsAt, Halts, IsUsedUp, OneLine}

by_tests : (a b : Bool) (line rest : List ℕ) → (if a then line_too_long else (if b then input_too_long else given line rest)) ≡ ended → ⊥
by_tests true b line rest e = cc
by_tests false true line rest e = cc
by_tests false false line rest e = cc

ended_is_none : (limit room : ℕ) (bytes : List ℕ) → next_of limit room bytes ≡ ended → bytes ≡ []
unfolding next_of
ended_is_none limit room [] e = refl
ended_is_none limit room (b ∷ bs) e = absurd (by_tests (nat_lt limit (length (first_line (take room (b ∷ bs))))) (nat_lt room (length (b ∷ bs)) && not (has_newline (take room (b ∷ bs)))) (first_line (b ∷ bs)) (after_line (b ∷ bs)) e)

one_known : (old new : Reader) (before after : Option (List ℕ)) (line : NumberedLine) → IfSome before (λ bytes. IsNextLine old new bytes after line) → GivesLinesKnown old.limit old.room before (line.bytes ∷ []) new.room after
one_known old new None after line is = tt
one_known old new (Some bytes) None line is = absurd (let e : None ≡ Some (after_line bytes) = is.rest in (cc))
one_known old new (Some bytes) (Some rest) line is =
    (new.room, record { next = is.next; leaves = is.room }, (refl, same_Some rest (after_line bytes) is.rest))

none_known : (old : Reader) (before after : Option (List ℕ)) → IfSome before (λ bytes. (next_of old.limit old.room bytes ≡ ended) × (after ≡ Some [])) → GivesLinesKnown old.limit old.room before [] old.room after × IsUsedUp before after
none_known old None after is = (tt, tt)
none_known old (Some bytes) None is = absurd (let e : None ≡ Some [] = is.1 in (cc))
none_known old (Some bytes) (Some rest) is = ((refl, same_Some rest [] is.1 ∙ sym (ended_is_none old.limit old.room bytes is.0)), is.1)

why_known : (old new : Reader) (before after : Option (List ℕ)) (f : LineFault) → IfSome before (λ bytes. Answers old new bytes after (Err f)) → WhyKnown old.limit old.room before f
why_known old new (Some bytes) after (fault.Long n) is = is.0
why_known old new (Some bytes) after fault.Total is = is.0
why_known old new _ after _ is = tt

-- what a fault shows is said of the reader's limits, which it leaves as they were
shown_now : (old new : Reader) (f : LineFault) → new.limit ≡ old.limit → new.room ≡ old.room → new.number ≡ old.number → FaultShown old new f → FaultShown new new f
shown_now old new (fault.Long n) limit room number shown = (rw (limit, room) shown.0, rw number shown.1)
shown_now old new fault.Memory limit room number shown = tt
shown_now old new _ limit room number shown = rw (limit, room) shown

kept_now : (old new : Reader) (before after : Option (List ℕ)) (f : LineFault) → IfSome before (λ bytes. Answers old new bytes after (Err f)) → (f ≡ fault.Memory → ⊥) → IfSome before (λ bytes. after ≡ Some bytes)
kept_now old new None after f is other = tt
kept_now old new (Some bytes) after fault.Read is other = is
kept_now old new (Some bytes) after (fault.Long n) is other = is.2
kept_now old new (Some bytes) after fault.Total is other = is.1
kept_now old new (Some bytes) after fault.Memory is other = absurd (other refl)

pub gave_none : (limit room : ℕ) (before : Option (List ℕ)) → GivesLinesKnown limit room before [] room before
gave_none limit room None = tt
gave_none limit room (Some bytes) = (refl, refl)

pub next_gives : (old new : Reader) (before after : Option (List ℕ)) (r : Result (Option NumberedLine) LineFault) → old.failed ≡ None
    → Moves old new r → IfSome before (λ bytes. Answers old new bytes after r) → (length old.held < read_size → IsSparing old.limit new.held r)
    → OneLine old before r new after
next_gives old new before after (Ok (Some line)) working moves answers few = record {
  took = record { limit = moves.limit; working = moves.still_working; number = moves.number; few = few; gave = one_known old new before after line answers };
  numbered = moves.line_number ∙ sym moves.number;
  less = moves.less;
  fits = moves.fits;
  no_newline = moves.no_newline;
}
next_gives old new before after (Ok None) working moves answers few =
    let known = none_known old before after answers in (
      record {
        limit = ap (λ (r : Reader). r.limit) moves.0;
        working = ap (λ (r : Reader). r.failed) moves.0 ∙ working;
        number = omega (arith, ap (λ (r : Reader). r.number) moves.0);
        few = few;
        gave = subst (λ (r : Reader). GivesLinesKnown old.limit old.room before [] r.room after) (sym moves.0) known.0;
      },
      known.1,
    )
next_gives old new before after (Err f) working moves answers few =
    record {
      left = old.room;
      rest = before;
      gave = gave_none old.limit old.room before;
      why = why_known old new before after f answers;
      stops = λ other. record {
        failed = moves.failed;
        limit = moves.limit;
        room = moves.room;
        number = omega (arith, moves.number);
        shown = shown_now old new f moves.limit moves.room moves.number (moves.shown working);
        few = few;
        kept = kept_now old new before after f answers other;
      };
    }

-- ---- one piece after another

pub gave_append : (limit room : ℕ) (bytes : List ℕ) (xs ys : List (List ℕ)) (mid : ℕ) (middle : List ℕ) (left : ℕ) (rest : List ℕ) → GivesLines limit room bytes xs mid middle → GivesLines limit mid middle ys left rest → GivesLines limit room bytes (xs ++ ys) left rest
gave_append limit room bytes [] ys mid middle left rest first second =
    subst (λ (b : List ℕ). GivesLines limit room b ys left rest) first.1 (subst (λ n. GivesLines limit n middle ys left rest) first.0 second)
gave_append limit room bytes (x ∷ xs) ys mid middle left rest first second = (first.0, first.1, gave_append limit first.0 (after_line bytes) xs ys mid middle left rest first.2 second)

known_append : (limit room : ℕ) (before : Option (List ℕ)) (xs ys : List (List ℕ)) (mid : ℕ) (middle : Option (List ℕ)) (left : ℕ) (after : Option (List ℕ))
    → GivesLinesKnown limit room before xs mid middle → GivesLinesKnown limit mid middle ys left after → GivesLinesKnown limit room before (xs ++ ys) left after
known_append limit room None xs ys mid middle left after first second = tt
known_append limit room (Some bytes) xs ys mid None left after first second = absurd first
known_append limit room (Some bytes) xs ys mid (Some m) left None first second = absurd second
known_append limit room (Some bytes) xs ys mid (Some m) left (Some rest) first second = gave_append limit room bytes xs ys mid m left rest first second

pub used_later : (limit room : ℕ) (before : Option (List ℕ)) (xs : List (List ℕ)) (mid : ℕ) (middle after : Option (List ℕ)) → GivesLinesKnown limit room before xs mid middle → IsUsedUp middle after → IsUsedUp before after
used_later limit room None xs mid middle after first used = tt
used_later limit room (Some bytes) xs mid None after first used = absurd first
used_later limit room (Some bytes) xs mid (Some m) after first used = used

pub gave_later : (old mid : Reader) (before middle : Option (List ℕ)) (xs ys : List (List ℕ)) (left : ℕ) (after : Option (List ℕ)) → ReadsLines old before xs mid middle → GivesLinesKnown mid.limit mid.room middle ys left after → GivesLinesKnown old.limit old.room before (xs ++ ys) left after
gave_later old mid before middle xs ys left after first second = known_append old.limit old.room before xs ys mid.room middle left after first.gave (subst (λ n. GivesLinesKnown n mid.room middle ys left after) first.limit second)

pub took_none : (old : Reader) (before : Option (List ℕ)) → old.failed ≡ None → ReadsLines old before [] old before
took_none old before working = record { limit = refl; working = working; number = omega arith; few = λ small. small; gave = gave_none old.limit old.room before }

counted : (a b c : ℕ) (xs ys : List (List ℕ)) → b ≡ a + length xs → c ≡ b + length ys → c ≡ a + length (xs ++ ys)
counted a b c xs ys first second = let both : length (xs ++ ys) ≡ length xs + length ys = length-append xs ys in omega (arith, first, second, both)

pub took_more : (old mid new : Reader) (before middle after : Option (List ℕ)) (xs ys : List (List ℕ)) → ReadsLines old before xs mid middle → ReadsLines mid middle ys new after → ReadsLines old before (xs ++ ys) new after
took_more old mid new before middle after xs ys first second = record {
  limit = second.limit ∙ first.limit;
  working = second.working;
  number = counted old.number mid.number new.number xs ys first.number second.number;
  few = λ small. second.few (first.few small);
  gave = gave_later old mid before middle xs ys new.room after first second.gave;
}

stops_later : (old mid new : Reader) (before middle after rest : Option (List ℕ)) (xs ys : List (List ℕ)) (left : ℕ) (f : LineFault) → ReadsLines old before xs mid middle → StopsAt mid ys left rest f new after → StopsAt old (xs ++ ys) left rest f new after
stops_later old mid new before middle after rest xs ys left f first stops = record {
  failed = stops.failed;
  limit = stops.limit ∙ first.limit;
  room = stops.room;
  number = counted old.number mid.number new.number xs ys first.number stops.number;
  shown = stops.shown;
  few = λ small. subst (λ n. length new.held ≤ n + read_size) first.limit (stops.few (first.few small));
  kept = stops.kept;
}

pub halts_later : (old mid new : Reader) (before middle after : Option (List ℕ)) (xs ys : List (List ℕ)) (f : LineFault) → ReadsLines old before xs mid middle → Halts mid middle ys f new after → Halts old before (xs ++ ys) f new after
halts_later old mid new before middle after xs ys f first halts = record {
  left = halts.left;
  rest = halts.rest;
  gave = gave_later old mid before middle xs ys halts.left halts.rest first halts.gave;
  why = subst (λ n. WhyKnown n halts.left halts.rest f) first.limit halts.why;
  stops = λ other. stops_later old mid new before middle after halts.rest xs ys halts.left f first (halts.stops other);
}

-- want of memory says nothing of the bytes
no_why : (limit left : ℕ) (rest : Option (List ℕ)) → WhyKnown limit left rest fault.Memory
no_why limit left None = tt
no_why limit left (Some rest) = tt

pub memory_after : (old mid new : Reader) (before middle after : Option (List ℕ)) (xs : List (List ℕ)) → ReadsLines old before xs mid middle → Halts old before xs fault.Memory new after
memory_after old mid new before middle after xs took = record { left = mid.room; rest = middle; gave = took.gave; why = no_why old.limit mid.room middle; stops = λ other. absurd (other refl) }

pub memory_halts : (old new : Reader) (before after : Option (List ℕ)) → Halts old before [] fault.Memory new after
memory_halts old new before after = record { left = old.room; rest = before; gave = gave_none old.limit old.room before; why = no_why old.limit old.room before; stops = λ other. absurd (other refl) }

-- ---- the lines of the bytes

pub gave_lines : (limit room : ℕ) (bytes : List ℕ) (lines : List (List ℕ)) (left : ℕ) (rest : List ℕ) → GivesLines limit room bytes lines left rest → lines_of bytes ≡ lines ++ lines_of rest
gave_lines limit room bytes [] left rest gave = ap lines_of (sym gave.1)
gave_lines limit room bytes (line ∷ lines) left rest gave =
    lines_of_next limit room bytes line (after_line bytes) gave.1.next ∙ ap (λ (ls : List (List ℕ)). line ∷ ls) (gave_lines limit gave.0 (after_line bytes) lines left rest gave.2)

-- lines that were given of bytes that are known
pub record IsKnown (limit room : ℕ) (bytes : List ℕ) (lines : List (List ℕ)) (left : ℕ) (after : Option (List ℕ)) : Type 0 where
  pub rest : List ℕ
  pub is : after ≡ Some rest
  pub gave : GivesLines limit room bytes lines left rest

known_now : (limit room : ℕ) (bytes : List ℕ) (lines : List (List ℕ)) (left : ℕ) (after : Option (List ℕ)) → GivesLinesKnown limit room (Some bytes) lines left after → IsKnown limit room bytes lines left after
known_now limit room bytes lines left None gave = absurd gave
known_now limit room bytes lines left (Some rest) gave = record { rest = rest; is = refl; gave = gave }

-- the same, of bytes and limits that are told by an equation
pub known : (limit room most total : ℕ) (before : Option (List ℕ)) (bytes : List ℕ) (lines : List (List ℕ)) (left : ℕ) (after : Option (List ℕ)) → limit ≡ most → room ≡ total → before ≡ Some bytes
    → GivesLinesKnown limit room before lines left after → IsKnown most total bytes lines left after
known limit room most total before bytes lines left after same_limit same_room is gave =
    known_now most total bytes lines left after
    (subst (λ n. GivesLinesKnown n total (Some bytes) lines left after) same_limit
    (subst (λ n. GivesLinesKnown limit n (Some bytes) lines left after) same_room
    (subst (λ (b : Option (List ℕ)). GivesLinesKnown limit room b lines left after) is gave)))
