-- The grammar of timelines, and of numbers, points and places, by rules that are read exactly.
use Rattle.std.proofs.Common.{◌≡◌, ℕ, ℤ, Bool, true, false, List, [], ◌∷◌, map, Option, Some, None, ◌⊎◌, inl, inr, refl, ap}
use Rattle.pl_syntax.specs.declared.token.Token.{Token}
use Rattle.pl_syntax.specs.declared.token.Token.TheVariants as token
use Rattle.pl_text.specs.declared.word.Word.TheVariants as word
use Rattle.pl_syntax.specs.declared.symbol.Symbol.TheVariants as symbol
use Rattle.pl_model.specs.declared.reservations.Point.{Point}
use Rattle.pl_model.specs.declared.reservations.Point.TheVariants as point
use Rattle.pl_syntax.specs.declared.timelines.AstTimeline.{AstTimeline}
use Rattle.pl_syntax.specs.Tokens.{is_word, is_symbol}
use Rattle.pl_syntax.specs.Spelling.{AllFit}
use Rattle.pl_syntax.specs.Forms.{Name, SignedForm, bare, negative, spell_signed, point_token, place_token, StepForm, StepsForm, any_step, only, StatesForm, TimelineForm, capacity, level, states, spell_step, spell_steps, spell_states, spell_timeline}
use Rattle.pl_syntax.specs.Trees.{signed_value, step_tree, steps_tree, states_tree, timeline_tree}
use Rattle.pl_syntax.specs.Reading.{natural, negated, point_of, place_of, list_of, pair, any_steps, only_steps, is_name_token, capacity_of, level_of, states_of}
use Rattle.pl_syntax.proofs.Loops.{Any}
use Rattle.pl_syntax.proofs.Sets.{Set, has, nothing, told_word, told_symbol}
use Rattle.pl_syntax.proofs.Grammars.{Rule, word as a_word, symbol as a_symbol, seq, second, first, many, renamed, mapped, choice}
use Rattle.pl_syntax.proofs.Classes.{class, name, number, only_names}

-- ---- numbers, points, places

abbrev pub numeral : Rule ℕ ℤ
numeral = mapped natural number

abbrev behind_minus : Rule (Unit {0} × ℕ) ℤ
behind_minus = seq second (a_symbol symbol.Minus) (mapped negated number) refl

abbrev either_signed : Rule ((Unit {0} × ℕ) ⊎ ℕ) ℤ
either_signed = choice (is_symbol symbol.Minus) behind_minus numeral (told_symbol symbol.Minus) refl refl nothing refl refl

abbrev pub signed_to : SignedForm → (Unit {0} × ℕ) ⊎ ℕ
signed_to (bare n) = inr n
signed_to (negative n) = inl (tt, n)

abbrev pub signed_from : (Unit {0} × ℕ) ⊎ ℕ → SignedForm
signed_from (inl p) = negative p.1
signed_from (inr n) = bare n

pub signed_text : (j : SignedForm) (rest : List Token) → spell_signed j rest ≡ either_signed.spell (signed_to j) rest
signed_text (bare n) rest = refl
signed_text (negative n) rest = refl

pub signed_same : (j : SignedForm) → signed_value j ≡ either_signed.value (signed_to j)
signed_same (bare n) = refl
signed_same (negative n) = refl

pub signed_back : (i : (Unit {0} × ℕ) ⊎ ℕ) → signed_to (signed_from i) ≡ i
signed_back (inl p) = refl
signed_back (inr n) = refl

pub signed_fits : (j : SignedForm) → either_signed.ok (signed_to j)
signed_fits (bare n) = tt
signed_fits (negative n) = (tt, tt)

abbrev pub signed : Rule SignedForm ℤ
signed = renamed either_signed spell_signed signed_value Any signed_to signed_from signed_text signed_same signed_back (λ j f. signed_fits j) (λ j f. tt)

abbrev pub point_set : Set
point_set = record { words = 5 ∷ 6 ∷ []; symbols = []; names = false; numbers = false }

pub point_there : (p : Point) → point_of (point_token p) ≡ Some p
point_there point.Start = refl
point_there point.End = refl

pub point_back : (t : Token) (p : Point) → point_of t ≡ Some p → t ≡ point_token p
point_back (token.Word word.Start) point.Start e = refl
point_back (token.Word word.Start) point.End e = absurd cc
point_back (token.Word word.End) point.Start e = absurd cc
point_back (token.Word word.End) point.End e = refl
point_back t p e = absurd cc

pub point_first : (p : Point) → has point_set (point_token p) ≡ true
point_first point.Start = refl
point_first point.End = refl

abbrev pub a_point : Rule Point Point
a_point = class point_of point_token point_there point_back point_set point_first point.Start tt

abbrev pub place_set : Set
place_set = record { words = 23 ∷ []; symbols = []; names = true; numbers = false }

pub place_there : (p : Option Name) → place_of (place_token p) ≡ Some p
place_there (Some n) = refl
place_there None = refl

pub place_back : (t : Token) (p : Option Name) → place_of t ≡ Some p → t ≡ place_token p
place_back (token.Name m) (Some n) e = let f : m ≡ n = cc in ap token.Name f
place_back (token.Name m) None e = absurd cc
place_back (token.Word word.Parent) (Some n) e = absurd cc
place_back (token.Word word.Parent) None e = refl
place_back t p e = absurd cc

pub place_first : (p : Option Name) → has place_set (place_token p) ≡ true
place_first (Some n) = refl
place_first None = refl

abbrev pub a_place : Rule (Option Name) (Option Name)
a_place = class place_of place_token place_there place_back place_set place_first None tt

-- ---- timelines

abbrev pub a_step : Rule StepForm (Name × Name)
a_step = renamed (seq second (a_word word.Step) (seq pair name name refl) refl) spell_step step_tree Any (λ s. (tt, (s.from, s.to))) (λ p. record { from = p.1.0; to = p.1.1 }) (λ s rest. refl) (λ s. refl) (λ p. refl) (λ s f. (tt, (tt, tt))) (λ s f. tt)

abbrev pub step_bars : Set
step_bars = record { words = 7 ∷ 8 ∷ []; symbols = []; names = false; numbers = false }

abbrev pub steps_list : Rule (List StepForm) (List (Name × Name))
steps_list = many (is_word word.Step) a_step (told_word word.Step) refl step_bars refl refl refl

abbrev either_steps : Rule (Unit {0} ⊎ List StepForm) (Bool × List (Name × Name))
either_steps = choice (is_word word.Any) (mapped any_steps (a_word word.Any)) (mapped only_steps steps_list) (told_word word.Any) refl refl step_bars refl refl

abbrev pub steps_to : StepsForm → Unit {0} ⊎ List StepForm
steps_to any_step = inl tt
steps_to (only ss) = inr ss

abbrev pub steps_from : Unit {0} ⊎ List StepForm → StepsForm
steps_from (inl u) = any_step
steps_from (inr ss) = only ss

pub steps_text : (j : StepsForm) (rest : List Token) → spell_steps j rest ≡ either_steps.spell (steps_to j) rest
steps_text any_step rest = refl
steps_text (only ss) rest = refl

pub steps_same : (j : StepsForm) → steps_tree j ≡ either_steps.value (steps_to j)
steps_same any_step = refl
steps_same (only ss) = refl

pub steps_back : (i : Unit {0} ⊎ List StepForm) → steps_to (steps_from i) ≡ i
steps_back (inl u) = refl
steps_back (inr ss) = refl

pub all_any : {I : Type 0} (is : List I) → AllFit Any is
all_any [] = tt
all_any (i ∷ is) = (tt, all_any is)

pub steps_fit : (j : StepsForm) → either_steps.ok (steps_to j)
steps_fit any_step = tt
steps_fit (only ss) = all_any ss

abbrev pub some_steps : Rule StepsForm (Bool × List (Name × Name))
some_steps = renamed either_steps spell_steps steps_tree Any steps_to steps_from steps_text steps_same steps_back (λ j f. steps_fit j) (λ j f. tt)

pub told_names : (t : Token) → is_name_token t ≡ has only_names t
told_names (token.Name n) = refl
told_names (token.Number n) = refl
told_names (token.Word w) = refl
told_names (token.Symbol s) = refl

abbrev pub other_names : Rule (List Name) (List Name)
other_names = many is_name_token name told_names refl only_names refl refl refl

abbrev pub some_names : Rule (Name × List Name) (List Name)
some_names = seq list_of name other_names refl

abbrev pub a_capacity : Rule (Unit {0} × (Name × ℕ)) AstTimeline
a_capacity = seq second (a_word word.Capacity) (seq capacity_of name numeral refl) refl

abbrev pub a_level : Rule (Unit {0} × (Name × (ℕ × (ℕ × ℕ)))) AstTimeline
a_level = seq second (a_word word.Level) (seq level_of name (seq pair numeral (seq pair numeral numeral refl) refl) refl) refl

abbrev start_part : Rule (Unit {0} × (Unit {0} × (Name × StepsForm))) (Name × (Bool × List (Name × Name)))
start_part = seq second (a_symbol symbol.CloseBrace) (seq second (a_word word.Start) (seq pair name some_steps refl) refl) refl

abbrev braced_part : Rule (Unit {0} × ((Name × List Name) × (Unit {0} × (Unit {0} × (Name × StepsForm))))) (List Name × (Name × (Bool × List (Name × Name))))
braced_part = seq second (a_symbol symbol.OpenBrace) (seq pair some_names start_part refl) refl

pub names_fit : (ns : List Name) → AllFit Any ns
names_fit ns = all_any ns

pub map_same : (ns : List Name) → ns ≡ map (λ n. n) ns
map_same [] = refl
map_same (n ∷ ns) = ap (λ (x : List Name). n ∷ x) (map_same ns)

abbrev pub states_with : StatesForm → List Name → AstTimeline
states_with s others = states_of s.name (s.first ∷ others, (s.start, steps_tree s.steps))

pub states_same : (s : StatesForm) → states_tree s ≡ states_with s (map (λ n. n) s.others)
states_same s = ap (states_with s) (map_same s.others)

abbrev pub some_states : Rule StatesForm AstTimeline
some_states =
    renamed (seq second (a_word word.State) (seq states_of name braced_part refl) refl) spell_states states_tree Any
    (λ s. (tt, (s.name, (tt, ((s.first, s.others), (tt, (tt, (s.start, s.steps)))))))) (λ p. record { name = p.1.0; first = p.1.1.1.0.0; others = p.1.1.1.0.1; start = p.1.1.1.1.1.1.0; steps = p.1.1.1.1.1.1.1 })
    (λ s rest. refl) states_same (λ p. refl) (λ s f. (tt, (tt, (tt, ((tt, names_fit s.others), (tt, (tt, (tt, tt)))))))) (λ s f. tt)

abbrev TimelineParts : Type 0
TimelineParts = (Unit {0} × (Name × ℕ)) ⊎ ((Unit {0} × (Name × (ℕ × (ℕ × ℕ)))) ⊎ StatesForm)

abbrev either_timeline : Rule TimelineParts AstTimeline
either_timeline = choice (is_word word.Capacity) a_capacity (choice (is_word word.Level) a_level some_states (told_word word.Level) refl refl step_bars refl refl) (told_word word.Capacity) refl refl step_bars refl refl

abbrev pub timeline_to : TimelineForm → TimelineParts
timeline_to (capacity n most) = inl (tt, (n, most))
timeline_to (level n least most start) = inr (inl (tt, (n, (least, (most, start)))))
timeline_to (states s) = inr (inr s)

abbrev pub timeline_from : TimelineParts → TimelineForm
timeline_from (inl p) = capacity p.1.0 p.1.1
timeline_from (inr (inl p)) = level p.1.0 p.1.1.0 p.1.1.1.0 p.1.1.1.1
timeline_from (inr (inr s)) = states s

pub timeline_text : (j : TimelineForm) (rest : List Token) → spell_timeline j rest ≡ either_timeline.spell (timeline_to j) rest
timeline_text (capacity n most) rest = refl
timeline_text (level n least most start) rest = refl
timeline_text (states s) rest = refl

pub timeline_same : (j : TimelineForm) → timeline_tree j ≡ either_timeline.value (timeline_to j)
timeline_same (capacity n most) = refl
timeline_same (level n least most start) = refl
timeline_same (states s) = refl

pub timeline_back : (i : TimelineParts) → timeline_to (timeline_from i) ≡ i
timeline_back (inl p) = refl
timeline_back (inr (inl p)) = refl
timeline_back (inr (inr s)) = refl

pub timeline_fits : (j : TimelineForm) → either_timeline.ok (timeline_to j)
timeline_fits (capacity n most) = (tt, (tt, tt))
timeline_fits (level n least most start) = (tt, (tt, (tt, (tt, tt))))
timeline_fits (states s) = tt

abbrev pub a_timeline : Rule TimelineForm AstTimeline
a_timeline = renamed either_timeline spell_timeline timeline_tree Any timeline_to timeline_from timeline_text timeline_same timeline_back (λ j f. timeline_fits j) (λ j f. tt)
