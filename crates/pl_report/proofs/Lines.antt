-- The lines of the demonstration's input, each of them short.
use Rattle.std.proofs.Common.{◌≡◌, ℕ, zero, suc, ◌+◌, ◌*◌, ◌%◌, ◌^◌, ◌<◌, ◌≤◌, Bool, true, false, ◌==◌, List, [], ◌∷◌, ◌++◌, flat_map, length, All, refl, ap, ◌∙◌, arith, lit≤, length-append}
use Rattle.std.specs.Prelude.{codes, decimal, if◌then◌else◌}
use Rattle.std.specs.List.{range_with_len}
use Rattle.std.proofs.lemmas.Bool.{ne_eqb}
use Rattle.std.proofs.lemmas.Fmt.{decimal_by_steps, length-decimal-le}
use Rattle.std.proofs.lemmas.Grind.{common_steps}
use Rattle.std.proofs.lemmas.List.Elements.{All-from_recursion, All-nil, All-cons, All-append, All-tail, All-head}
use Rattle.std.proofs.lemmas.List.Folds.{list_any-append}
use Rattle.pl_io.specs.Lines.{with_newline, has_newline, lines_of}
use Rattle.pl_report.specs.Demonstration.{model_lines, kind_words, goal_line, tick_line, messages_for, demo_lines, demo_text}

-- ---- lines with their newlines are read as these lines

none_append : (xs ys : List ℕ) → has_newline xs ≡ false → has_newline ys ≡ false → has_newline (xs ++ ys) ≡ false
none_append xs ys left right = grind (arith, common_steps, list_any-append (λ b. b == 10) xs ys)

line_first : (line rest : List ℕ) → has_newline line ≡ false → lines_of ((line ++ 10 ∷ []) ++ rest) ≡ line ∷ lines_of rest
line_first [] rest none = refl
line_first (b ∷ bs) rest none = grind (arith, common_steps, line_first bs rest)

-- a line of at most 100 bytes without a newline
pub record IsShortLine (line : List ℕ) : Type 0 where
  pub none : has_newline line ≡ false
  pub short : length line ≤ 100

pub lines_back : (lines : List (List ℕ)) → All IsShortLine lines → lines_of (flat_map with_newline lines) ≡ lines
lines_back [] all = refl
lines_back (line ∷ lines) all =
    line_first line (flat_map with_newline lines) (All-head IsShortLine line lines all).none
    ∙ ap (λ (ls : List (List ℕ)). line ∷ ls) (lines_back lines (All-tail IsShortLine line lines all))

pub text_short : (lines : List (List ℕ)) → All IsShortLine lines → length (flat_map with_newline lines) ≤ 101 * length lines
text_short [] all = omega arith
text_short (line ∷ lines) all =
    omega (arith, (All-head IsShortLine line lines all).short, length-append (line ++ 10 ∷ []) (flat_map with_newline lines), length-append line (10 ∷ []), text_short lines (All-tail IsShortLine line lines all))

-- ---- numbers

digits_none : (n : ℕ) → n < 2 ^ 64 → has_newline (decimal n) ≡ false
digits_none n fits =
    decimal_by_steps (λ n ds. has_newline ds ≡ false)
    (λ d small. let other : ((48 + d) == 10) ≡ false = ne_eqb (48 + d) 10 (λ e. omega (arith, e)) in grind (arith, common_steps, other))
    (λ m ds more none. none_append ds ((48 + m % 10) ∷ []) none (let other : ((48 + m % 10) == 10) ≡ false = ne_eqb (48 + m % 10) 10 (λ e. omega (arith, e)) in grind (arith, common_steps, other)))
    n fits

-- ---- the messages

kind_none : (odd : Bool) → has_newline (if odd then codes " obs " else codes " scan ") ≡ false
kind_none true = refl
kind_none false = refl

kind_short : (odd : Bool) → length (if odd then codes " obs " else codes " scan ") ≤ 6
kind_short true = lit≤ tt
kind_short false = lit≤ tt

number_short : (n : ℕ) → n < 10 ^ 6 → length (decimal n) ≤ 6
number_short n small = length-decimal-le 6 n (omega arith) small (omega (arith, small))

goal_short : (i : ℕ) → i ≤ 4000 → IsShortLine (goal_line i)
goal_short i few = record {
  none = nones (decimal i) (kind_words i) (decimal (20 * i + 200)) (decimal (20 * i + 260)) (digits_none i (omega arith)) (kind_none (i % 2 == 1)) (digits_none (20 * i + 200) (omega arith)) (digits_none (20 * i + 260) (omega arith));
  short = lengths (decimal i) (kind_words i) (decimal (20 * i + 200)) (decimal (20 * i + 260)) (number_short i (omega arith)) (kind_short (i % 2 == 1)) (number_short (20 * i + 200) (omega arith)) (number_short (20 * i + 260) (omega arith));
}
  where
    lengths : (a b c d : List ℕ) → length a ≤ 6 → length b ≤ 6 → length c ≤ 6 → length d ≤ 6 → length (codes "goal " ++ (a ++ (b ++ (c ++ (codes " " ++ (d ++ codes " must")))))) ≤ 100
    lengths a b c d p q r s = simp (length-append {A = ℕ}) (omega arith)

    nones : (a b c d : List ℕ) → has_newline a ≡ false → has_newline b ≡ false → has_newline c ≡ false → has_newline d ≡ false → has_newline (codes "goal " ++ (a ++ (b ++ (c ++ (codes " " ++ (d ++ codes " must")))))) ≡ false
    nones a b c d p q r s =
        none_append a (b ++ (c ++ (codes " " ++ (d ++ codes " must")))) p
        (none_append b (c ++ (codes " " ++ (d ++ codes " must"))) q
        (none_append c (codes " " ++ (d ++ codes " must")) r
        (none_append d (codes " must") s refl)))

tick_short : (i : ℕ) → i ≤ 4000 → IsShortLine (tick_line i)
tick_short i few = record {
  none = none_append (codes "tick ") (decimal (20 * i)) refl (digits_none (20 * i) (omega arith));
  short = lengths (decimal (20 * i)) (number_short (20 * i) (omega arith));
}
  where
    lengths : (a : List ℕ) → length a ≤ 6 → length (codes "tick " ++ a) ≤ 100
    lengths a p = simp (length-append {A = ℕ}) (omega arith)

all_messages : (a n : ℕ) → a + n ≤ 4001 → All IsShortLine (flat_map messages_for (range_with_len a n))
all_messages a zero few = All-nil IsShortLine
all_messages a (suc n) few =
    All-cons IsShortLine (goal_line a) (tick_line a ∷ flat_map messages_for (range_with_len (a + 1) n)) (goal_short a (omega arith))
    (All-cons IsShortLine (tick_line a) (flat_map messages_for (range_with_len (a + 1) n)) (tick_short a (omega arith)) (all_messages (a + 1) n (omega arith)))

-- ---- the whole

short_line : (line : List ℕ) → has_newline line ≡ false → length line ≤ 100 → IsShortLine line
short_line line none short = record { none = none; short = short }

all_model : All IsShortLine model_lines
all_model =
    All-from_recursion IsShortLine model_lines (
      short_line (codes "horizon 1000000") refl (lit≤ tt),
      (
        short_line (codes "lead 100") refl (lit≤ tt),
        (
          short_line (codes "capacity cam 10") refl (lit≤ tt),
          (
            short_line (codes "level bat 0 1000 500") refl (lit≤ tt),
            (
              short_line (codes "kind obs { duration 5 use cam 6 lower bat 3 at end }") refl (lit≤ tt),
              (
                short_line (codes "kind shot { duration 4 use cam 4 }") refl (lit≤ tt),
                (
                  short_line (codes "kind charge { duration 10 raise bat 200 at end }") refl (lit≤ tt),
                  (
                    short_line (codes "kind scan { duration 10 alternative { slot a shot slot b shot order a end b start 0 3 } }") refl (lit≤ tt),
                    (
                      short_line (codes "begin") refl (lit≤ tt),
                      tt,
                    ),
                  ),
                ),
              ),
            ),
          ),
        ),
      ),
    )

all_lines : (goals : ℕ) → goals ≤ 4000 → All IsShortLine (demo_lines goals)
all_lines goals few =
    All-append IsShortLine model_lines (flat_map messages_for (range_with_len 1 goals) ++ codes "end" ∷ []) all_model
    (All-append IsShortLine (flat_map messages_for (range_with_len 1 goals)) (codes "end" ∷ []) (all_messages 1 goals (omega arith))
    (All-cons IsShortLine (codes "end") [] (short_line (codes "end") refl (lit≤ tt)) (All-nil IsShortLine)))

many_messages : (a n : ℕ) → length (flat_map messages_for (range_with_len a n)) ≡ 2 * n
many_messages a zero = refl
many_messages a (suc n) = omega (arith, many_messages (a + 1) n)

many_lines : (goals : ℕ) → length (demo_lines goals) ≡ 2 * goals + 10
many_lines goals = omega (arith, length-append model_lines (flat_map messages_for (range_with_len 1 goals) ++ codes "end" ∷ []), length-append (flat_map messages_for (range_with_len 1 goals)) (codes "end" ∷ []), many_messages 1 goals)

pub demo_text_lines : (goals : ℕ) → goals ≤ 4000 → lines_of (demo_text goals) ≡ demo_lines goals
unfolding demo_text
demo_text_lines goals few = lines_back (demo_lines goals) (all_lines goals few)

pub demo_lines_short : (goals : ℕ) → goals ≤ 4000 → All (λ line. length line ≤ 100) (demo_lines goals)
demo_lines_short goals few = λ k d less. (all_lines goals few k d less).short

pub demo_text_short : (goals : ℕ) → goals ≤ 4000 → length (demo_text goals) ≤ 1000000
unfolding demo_text
demo_text_short goals few = omega (arith, text_short (demo_lines goals) (all_lines goals few), many_lines goals)
