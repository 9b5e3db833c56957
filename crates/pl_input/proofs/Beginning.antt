-- The model's text, line by line.
use Rattle.std.proofs.Common.{◌≡◌, ℕ, List, [], ◌∷◌, ◌++◌, Bool, true, false, if◌then◌else◌, Option, Some, None, refl, ◌∙◌, ap}
use Rattle.std.proofs.lemmas.List.{append-nil}
use Rattle.std.proofs.lemmas.Grind.{flat_map-append}
use Rattle.std.specs.declared.vec.Vec.{Vec}
use Rattle.std.specs.declared.alloc.Global.{Global}
use Rattle.pl_io.specs.declared.errors.LineFault.{LineFault}
use Rattle.pl_io.specs.Reader.{Reader}
use Rattle.pl_io.specs.Lines.{with_newline}
use Rattle.pl_input.specs.Words.{is_line_of, begin_word, text_before, model_text_of, lines_behind}
use Rattle.pl_input.specs.Reads.{ReadsLines, Halts, IsUsedUp}
use Rattle.pl_input.specs.Heads.{Keeps, IsHead, text_of_lines, IsBefore, IsBegun, HasNoBegin, HeadHalts, ReadsTextLine, ReadsBeginLine}
use Rattle.pl_input.proofs.Reading.{took_none, took_more, used_later, halts_later}

-- ---- lists of lines

none_behind : (b : Bool) (line : List ℕ) (rest : Option (List ℕ)) → text_before line b rest ≡ None → (b ≡ false) × (rest ≡ None)
none_behind false line None e = (refl, refl)
none_behind _ line _ e = absurd (cc)

still_none : (lines : List (List ℕ)) (line : List ℕ) → model_text_of lines ≡ None → is_line_of begin_word line ≡ false → model_text_of (lines ++ line ∷ []) ≡ None
still_none [] line none other = rw other refl
still_none (x ∷ xs) line none other =
    let parts = none_behind (is_line_of begin_word x) x (model_text_of xs) none in
    rw (parts.0, still_none xs line parts.1 other) refl

ends_text : (lines : List (List ℕ)) (line : List ℕ) → model_text_of lines ≡ None → is_line_of begin_word line ≡ true → model_text_of (lines ++ line ∷ []) ≡ Some (text_of_lines lines)
ends_text [] line none begins = rw begins refl
ends_text (x ∷ xs) line none begins =
    let parts = none_behind (is_line_of begin_word x) x (model_text_of xs) none in
    rw (parts.0, ends_text xs line parts.1 begins) refl

ends_lines : (lines : List (List ℕ)) (line : List ℕ) → model_text_of lines ≡ None → is_line_of begin_word line ≡ true → lines_behind (lines ++ line ∷ []) ≡ []
ends_lines [] line none begins = rw begins refl
ends_lines (x ∷ xs) line none begins =
    let parts = none_behind (is_line_of begin_word x) x (model_text_of xs) none in
    rw parts.0 (ends_lines xs line parts.1 begins)

text_more : (lines : List (List ℕ)) (line : List ℕ) → text_of_lines (lines ++ line ∷ []) ≡ text_of_lines lines ++ with_newline line
text_more lines line = flat_map-append with_newline lines (line ∷ []) ∙ ap (λ t. text_of_lines lines ++ t) (append-nil (with_newline line))

-- what stands behind a head
by_begin : (b : Bool) (x : List ℕ) (xs : List (List ℕ)) (words : List ℕ) (more : List (List ℕ)) (text : Option (List ℕ)) → model_text_of xs ≡ text
    → text_before x b text ≡ Some words → (if b then xs else lines_behind xs) ≡ []
    → ((w : List ℕ) → IsHead xs w → (model_text_of (xs ++ more) ≡ Some w) × (lines_behind (xs ++ more) ≡ more))
    → (text_before x b (model_text_of (xs ++ more)) ≡ Some words) × ((if b then xs ++ more else lines_behind (xs ++ more)) ≡ more)
by_begin true x xs words more text is head behind next = (head, ap (λ (ls : List (List ℕ)). ls ++ more) behind)
by_begin false x xs words more None is head behind next = absurd (cc)
by_begin false x xs words more (Some t) is head behind next =
    let both = next t (record { text = is; behind = behind }) in
    (rw both.0 head, both.1)

pub head_then : (lines : List (List ℕ)) (words : List ℕ) (more : List (List ℕ)) → IsHead lines words → (model_text_of (lines ++ more) ≡ Some words) × (lines_behind (lines ++ more) ≡ more)
head_then [] words more head = absurd (let e : None ≡ Some words = head.text in (cc))
head_then (x ∷ xs) words more head = by_begin (is_line_of begin_word x) x xs words more (model_text_of xs) refl head.text head.behind (λ w h. head_then xs w more h)

-- ---- a step of the reader

pub before_none : (old : Reader) (before : Option (List ℕ)) (kept : Option (Vec ℕ Global)) → old.failed ≡ None → Keeps kept [] → IsBefore old before kept old before
before_none old before kept working keeps = record { lines = []; took = took_none old before working; none = refl; keeps = keeps }

pub before_on : (old mid new : Reader) (before middle after : Option (List ℕ)) (kept more : Option (Vec ℕ Global)) → IsBefore old before kept mid middle → ReadsTextLine mid middle kept more new after → IsBefore old before more new after
before_on old mid new before middle after kept more so_far on = record {
  lines = so_far.lines ++ on.line ∷ [];
  took = took_more old mid new before middle after so_far.lines (on.line ∷ []) so_far.took on.took;
  none = still_none so_far.lines on.line so_far.none on.other;
  keeps = rw (text_more so_far.lines on.line) (on.keeps (text_of_lines so_far.lines) so_far.keeps);
}

pub before_begun : (old mid new : Reader) (before middle after : Option (List ℕ)) (kept whole : Option (Vec ℕ Global)) → IsBefore old before kept mid middle → ReadsBeginLine mid middle kept whole new after → IsBegun old before whole new after
before_begun old mid new before middle after kept whole so_far sees = record {
  lines = so_far.lines ++ sees.line ∷ [];
  words = text_of_lines so_far.lines;
  took = took_more old mid new before middle after so_far.lines (sees.line ∷ []) so_far.took sees.took;
  head = record { text = ends_text so_far.lines sees.line so_far.none sees.begins; behind = ends_lines so_far.lines sees.line so_far.none sees.begins };
  keeps = sees.keeps (text_of_lines so_far.lines) so_far.keeps;
}

pub before_ended : (old mid new : Reader) (before middle after : Option (List ℕ)) (kept : Option (Vec ℕ Global)) → IsBefore old before kept mid middle → ReadsLines mid middle [] new after × IsUsedUp middle after → HasNoBegin old before new after
before_ended old mid new before middle after kept so_far ends = record {
  lines = so_far.lines ++ [];
  took = took_more old mid new before middle after so_far.lines [] so_far.took ends.0;
  none = rw (append-nil so_far.lines) so_far.none;
  used_up = used_later old.limit old.room before so_far.lines mid.room middle after so_far.took.gave ends.1;
}

pub before_halted : (old mid new : Reader) (before middle after : Option (List ℕ)) (kept : Option (Vec ℕ Global)) (f : LineFault) → IsBefore old before kept mid middle → Halts mid middle [] f new after → HeadHalts old before f new after
before_halted old mid new before middle after kept f so_far halts = record {
  lines = so_far.lines ++ [];
  halts = halts_later old mid new before middle after so_far.lines [] f so_far.took halts;
  none = rw (append-nil so_far.lines) so_far.none;
}
