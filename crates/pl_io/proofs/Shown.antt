-- What the bytes at the front of an input show of its next line, whatever follows them.
use Rattle.std.specs.Prelude.{Option}
use Rattle.std.proofs.Common.{append-nil, ◌≡◌, ℕ, ◌+◌, ◌<◌, ◌≤◌, true, false, min, List, [], ◌∷◌, ◌++◌, length, take, drop, Some, None, IfSome, Ok, refl, sym, ap, ◌∙◌, subst, length-append, take-append-drop, arith}
use Rattle.std.proofs.Math.Seq.{take-length}
use Rattle.std.proofs.lemmas.Grind.{common_steps}
use Rattle.std.proofs.lemmas.List.{length-take, take-append-le}
use Rattle.std.specs.Io.KnownBytes.{IsAtEnd}
use Rattle.pl_io.specs.Lines.{has_newline, first_line, after_line, next_of, given, line_too_long, input_too_long, ahead}
use Rattle.pl_io.specs.Reader.{Reader}
use Rattle.pl_io.specs.Sparing.{shows_next}
use Rattle.pl_io.specs.Reading.{ShowsLine, IsOpen, Reaches, last_of}
use Rattle.pl_io.proofs.LineLaws.{lines_of_next}
use Rattle.pl_io.proofs.FirstLine.{first_line-append, after_line-append, has_newline-append, first_line-grows, first_line-whole, after_line-whole, first_line-take, after_line-drop, first_line-no_newline, newline-from_length, no_newline-from_length, first_line-le, take-more, next_of-judged, judged-line_too_long, judged-input_too_long, judged-given, judged-last}

too_long : (limit room : ℕ) (held : List ℕ) → limit < length (first_line (take room held))
    → (0 < room) × ((more : List ℕ) → next_of limit room (held ++ more) ≡ line_too_long)
too_long limit room held long =
    let short = first_line-le (take room held) in
    let some : 0 < min room (length held) = omega (arith, short, length-take room held) in (
      omega arith,
      λ more.
          let seen = take-more room held more in
          let grown : limit < length (first_line (take room (held ++ more))) =
          rw seen.1 (omega (arith, first_line-grows (take room held) seen.0)) in
          next_of-judged limit room (held ++ more) (rw length-append (omega arith)) ∙ judged-line_too_long limit room (held ++ more) (take room (held ++ more)) grown,
    )

past_total : (limit room : ℕ) (held : List ℕ) → length (first_line (take room held)) ≤ limit → length (take room held) ≤ length (first_line (take room held))
    → room < length held → (more : List ℕ) → next_of limit room (held ++ more) ≡ input_too_long
past_total limit room held fits open_line past more =
    let le : room ≤ length held = omega arith in
    let same : take room (held ++ more) ≡ take room held = take-append-le room held more le in
    next_of-judged limit room (held ++ more) (rw length-append (omega arith))
    ∙ judged-input_too_long limit room (held ++ more) (take room (held ++ more)) (rw same fits) (rw length-append (omega arith)) (rw same (no_newline-from_length (take room held) open_line))

pub shows_too_long : (limit room : ℕ) (held : List ℕ) → limit < length (first_line (take room held))
    → (0 < room) × (next_of limit room held ≡ line_too_long) × ((more : List ℕ) → next_of limit room (held ++ more) ≡ line_too_long)
shows_too_long limit room held long =
    let shown = too_long limit room held long in
    let here = shown.1 [] in
    (shown.0, rw append-nil at here, shown.1)

pub shows_past_total : (limit room : ℕ) (held : List ℕ) → length (first_line (take room held)) ≤ limit → length (take room held) ≤ length (first_line (take room held))
    → room < length held → (next_of limit room held ≡ input_too_long) × ((more : List ℕ) → next_of limit room (held ++ more) ≡ input_too_long)
shows_past_total limit room held fits open_line past =
    let shown = past_total limit room held fits open_line past in
    let here = shown [] in
    (rw append-nil at here, shown)

pub shows_line : (limit room : ℕ) (held : List ℕ) → length (first_line (take room held)) ≤ limit → length (first_line (take room held)) < length (take room held)
    → ShowsLine limit room held (length (first_line (take room held)))
shows_line limit room held fits less =
    let seen = take room held in
    let found = newline-from_length seen less in
    let whole : held ≡ seen ++ drop room held = sym (take-append-drop room held) in
    let held_first : first_line held ≡ first_line seen = ap first_line whole ∙ first_line-append seen (drop room held) found in
    let held_found : has_newline held ≡ true = rw whole (has_newline-append seen (drop room held) found) in
    let front : take (length (first_line seen)) held ≡ first_line held = ap (λ xs. take (length xs) held) (sym held_first) ∙ first_line-take held in
    let next : (more : List ℕ) → next_of limit room (held ++ more) ≡ given (take (length (first_line seen)) held) (after_line (held ++ more)) =
    λ more.
    let seen_more = take-more room held more in
    next_of-judged limit room (held ++ more) (rw length-append (omega (arith, length-take room held)))
    ∙ judged-given limit room (held ++ more) (take room (held ++ more)) (rw (seen_more.1, first_line-append seen seen_more.0 found) fits)
    (rw seen_more.1 (has_newline-append seen seen_more.0 found))
    ∙ ap (λ line. given line (after_line (held ++ more))) (first_line-append held more held_found ∙ sym front) in
    record {
      newline = omega (arith, length-take room held);
      within = omega (arith, length-take room held);
      fits = fits;
      first = ap length (sym held_first);
      no_newline = rw front (first_line-no_newline held);
      next = next;
      lines = λ more. lines_of_next limit room (held ++ more) (take (length (first_line seen)) held) (after_line (held ++ more)) (next more);
      after = λ more. after_line-append held more held_found ∙ ap (λ xs. xs ++ more) (sym (after_line-drop held) ∙ ap (λ line. drop (length line + 1) held) held_first);
    }

shows_nothing : (limit room : ℕ) (held : List ℕ) → take room held ≡ held → has_newline held ≡ false
    → length (first_line held) ≤ limit → length held ≤ room → shows_next limit room held ≡ false
shows_nothing limit room held all none short within = rw (all, none) (grind arith)

-- what one read brings behind bytes in which no line ends
pub read_behind : (limit : ℕ) (held filled : List ℕ) (count : ℕ) → take (length held) filled ≡ held
    → length filled ≡ length held + count → count ≤ 4096 → has_newline held ≡ false → length held ≤ limit
    → (length filled ≤ length (first_line filled) + 4096) × (length filled ≤ limit + 4096)
read_behind limit held filled count front grows few none short =
    let whole : filled ≡ held ++ drop (length held) filled =
    subst (λ (xs : List ℕ). filled ≡ xs ++ drop (length held) filled) front (sym (take-append-drop (length held) filled)) in
    let longer : length (first_line held) ≤ length (first_line filled) = rw whole (first_line-grows held (drop (length held) filled)) in
    let same : length (first_line held) ≡ length held = ap length (first_line-whole held none) in
    (omega (arith, longer, same, grows, few), omega (arith, grows, few, short))

pub shows_open : (limit room : ℕ) (held : List ℕ) → length (first_line (take room held)) ≤ limit → length (take room held) ≤ length (first_line (take room held))
    → length held ≤ room → IsOpen limit room held
shows_open limit room held fits open_line within =
    let all : take room held ≡ held = grind (arith, common_steps) in
    let none : has_newline held ≡ false = no_newline-from_length held (rw all at open_line) in
    let short : length (first_line held) ≤ limit = rw all at fits in
    record {
      no_newline = none;
      fits = rw (all, first_line-whole held none) at fits;
      within = within;
      shows = shows_nothing limit room held all none short within;
    }

pub next_of-open : (limit room : ℕ) (held : List ℕ) → IsOpen limit room held → 0 < length held → next_of limit room held ≡ given held []
next_of-open limit room held shown some =
    let all : take room held ≡ held = let within = shown.within in grind (arith, common_steps) in
    let first = first_line-whole held shown.no_newline in
    next_of-judged limit room held some ∙ judged-last limit room held (take room held) (rw (all, first) shown.fits) shown.within
    ∙ ap (λ line. given line (after_line held)) first ∙ ap (λ rest. given held rest) (after_line-whole held shown.no_newline)

pub ahead_at_end : (held bytes : List ℕ) (left : Option (List ℕ)) → ahead held left ≡ Some bytes → IsAtEnd left → held ≡ bytes
ahead_at_end held bytes None all end = grind arith
ahead_at_end held bytes (Some xs) all end = grind (arith, common_steps)

-- nothing stands behind the end
nothing_behind : (held front more : List ℕ) (n : ℕ) → front ≡ held → held ≡ front ++ more → length held ≤ n → [] ≡ drop n front ++ more
nothing_behind held front [] n is split past = grind (arith, common_steps)
nothing_behind held front (byte ∷ more) n is split past =
    let lengths : length held ≡ length front + length (byte ∷ more) = ap length split ∙ length-append front (byte ∷ more) in
    grind (arith, common_steps)

-- the bytes held are all that there are
last_reached : (old new : Reader) (held : List ℕ) (left : Option (List ℕ)) → new.held ≡ held → IsOpen old.limit old.room held
    → ahead held left ≡ Some held → Reaches old new held (ahead held left) (Ok (last_of held))
unfolding next_of
last_reached old new [] left is shown all = (refl, all)
last_reached old new (byte ∷ bytes) left is shown all =
    let held : List ℕ = byte ∷ bytes in
    let none : after_line held ≡ [] = after_line-whole held shown.no_newline in
    let some : 0 < length held = grind (arith, common_steps) in
    let next : next_of old.limit old.room held ≡ given (take (length held) new.held) (after_line held) =
    next_of-open old.limit old.room held shown some ∙ (rw (is, take-length held, none) refl) in (
      next,
      lines_of_next old.limit old.room held (take (length held) new.held) (after_line held) next,
      all,
      λ more split. none ∙ nothing_behind held new.held more (length held + 1) is split (omega arith),
    )

-- The input ended where no line was shown, so what is held is the last line, or nothing.
pub reaches_end : (old new : Reader) (bytes : List ℕ) (left : Option (List ℕ)) → new ≡ record old { held = new.held } → IsOpen new.limit new.room new.held
    → ahead new.held left ≡ Some bytes → IsAtEnd left → Reaches old new bytes (ahead new.held left) (Ok (last_of new.held))
reaches_end old new bytes left kept shown all end =
    let same = ahead_at_end new.held bytes left all end in
    let limit_is : new.limit ≡ old.limit = ap (λ r. r.limit) kept in
    let room_is : new.room ≡ old.room = ap (λ r. r.room) kept in
    let shown_all : IsOpen old.limit old.room bytes = rw (limit_is, room_is, same) at shown in
    let P : List ℕ → Type 0 = λ held. Reaches old new bytes (ahead held left) (Ok (last_of held)) in
    subst P (sym same) (last_reached old new bytes left same shown_all (rw same at all))

-- The same after turns that each kept what was ahead.
pub reach_ended : (first before now : Reader) (known left_before left : Option (List ℕ)) (found : Option ℕ)
    → before ≡ record first { held = before.held } → now ≡ record before { held = now.held } → now.held ≡ before.held
    → IsOpen before.limit before.room before.held → IsAtEnd left
    → IfSome known (λ bytes. ahead before.held left_before ≡ Some bytes)
    → IfSome (ahead before.held left_before) (λ bytes. ahead now.held left ≡ Some bytes)
    → found ≡ last_of now.held
    → IfSome known (λ bytes. Reaches first now bytes (ahead now.held left) (Ok found))
reach_ended first before now None left_before left found kept filled same shown end all more is = tt
reach_ended first before now (Some bytes) left_before left found kept filled same shown end all more is =
    let Known : Option (List ℕ) → Type 0 = λ o. IfSome o (λ xs. ahead now.held left ≡ Some xs) in
    let all_now : ahead now.held left ≡ Some bytes = subst Known all more in
    let limit_is : now.limit ≡ before.limit = ap (λ r. r.limit) filled in
    let room_is : now.room ≡ before.room = ap (λ r. r.room) filled in
    let holding : Reader → Reader = λ r. record r { held = now.held } in
    let whole : now ≡ record first { held = now.held } = filled ∙ ap holding kept in
    let shown_now : IsOpen now.limit now.room now.held = rw (limit_is, room_is, same) shown in
    rw is (reaches_end first now bytes left whole shown_now all_now end)
