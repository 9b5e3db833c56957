-- Blank lines are passed over.
use Rattle.std.proofs.Common.{◌≡◌, ℕ, ◌≤◌, List, [], ◌∷◌, ◌++◌, length, true, false, Option, None, subst, arith}
use Rattle.std.proofs.lemmas.List.{append-nil}
use Rattle.pl_io.specs.declared.errors.LineFault.{LineFault}
use Rattle.pl_io.specs.Reader.{Reader, NumberedLine}
use Rattle.pl_input.specs.Words.{is_blank_line}
use Rattle.pl_input.specs.Reads.{ReadsLines, Halts, IsUsedUp, GotLine, AreBlank}
use Rattle.pl_input.specs.Waits.{Skips, GetsMessage, GetsEnd, GetsFault}
use Rattle.pl_input.proofs.Reading.{took_none, took_more, used_later, halts_later}

blank_push : (lines : List (List ℕ)) (line : List ℕ) → AreBlank lines → is_blank_line line ≡ true → AreBlank (lines ++ line ∷ [])
blank_push [] line all here = (here, tt)
blank_push (x ∷ xs) line all here = (all.0, blank_push xs line all.1 here)

pub skips_none : (old : Reader) (before : Option (List ℕ)) → old.failed ≡ None → Skips old before old before
skips_none old before working = record { lines = []; took = took_none old before working; blank = tt; room = omega arith }

pub skips_on : (old mid new : Reader) (before middle after : Option (List ℕ)) (line : NumberedLine) → Skips old before mid middle → GotLine mid middle line new after → is_blank_line line.bytes ≡ true → Skips old before new after
skips_on old mid new before middle after line skips got blank = record {
  lines = skips.lines ++ line.bytes ∷ [];
  took = took_more old mid new before middle after skips.lines (line.bytes ∷ []) skips.took got.took;
  blank = blank_push skips.lines line.bytes skips.blank blank;
  room = omega (arith, skips.room, got.less);
}

pub skips_message : (old mid new : Reader) (before middle after : Option (List ℕ)) (line : NumberedLine) → Skips old before mid middle → GotLine mid middle line new after → is_blank_line line.bytes ≡ false → GetsMessage old before line.bytes new after
skips_message old mid new before middle after line skips got other = record {
  lines = skips.lines;
  took = took_more old mid new before middle after skips.lines (line.bytes ∷ []) skips.took got.took;
  blank = skips.blank;
  message = other;
  less = omega (arith, skips.room, got.less);
  fits = subst (λ n. length line.bytes ≤ n) skips.took.limit got.fits;
  no_newline = got.no_newline;
}

pub skips_end : (old mid new : Reader) (before middle after : Option (List ℕ)) → Skips old before mid middle → ReadsLines mid middle [] new after × IsUsedUp middle after → GetsEnd old before new after
skips_end old mid new before middle after skips ends = record {
  lines = skips.lines ++ [];
  took = took_more old mid new before middle after skips.lines [] skips.took ends.0;
  blank = rw (append-nil skips.lines) skips.blank;
  used_up = used_later old.limit old.room before skips.lines mid.room middle after skips.took.gave ends.1;
}

pub skips_fault : (old mid new : Reader) (before middle after : Option (List ℕ)) (f : LineFault) → Skips old before mid middle → Halts mid middle [] f new after → GetsFault old before f new after
skips_fault old mid new before middle after f skips halts = record {
  lines = skips.lines ++ [];
  halts = halts_later old mid new before middle after skips.lines [] f skips.took halts;
  blank = rw (append-nil skips.lines) skips.blank;
}
