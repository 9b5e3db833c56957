-- What two readings of one input have in common.
use Rattle.std.proofs.Common.{◌≡◌, ℕ, ◌+◌, List, [], ◌∷◌, ◌++◌, length, Bool, true, false, if◌then◌else◌, Option, Some, None, ◌⊎◌, inl, inr, refl, sym, ◌∙◌, ap, subst, length-append, arith}
use Rattle.pl_io.specs.Lines.{lines_of}
use Rattle.pl_input.specs.Words.{is_blank_line, is_line_of, begin_word, end_word, text_before, model_text_of, lines_behind, messages_from, messages_of, split_of}
use Rattle.pl_input.specs.Reads.{GivesLines}
use Rattle.pl_main.specs.Top.{total_limit}
use Rattle.pl_input.proofs.Reading.{gave_lines}

abbrev Lines : Type 0
Lines = List (List ℕ)

abbrev Message : Type 0
Message = Option (List ℕ)

-- ---- the model's text

text_step : (b : Bool) (x : List ℕ) (t u : Option (List ℕ)) (words : List ℕ) → text_before x b t ≡ Some words → ((w : List ℕ) → t ≡ Some w → u ≡ Some w) → text_before x b u ≡ Some words
text_step true x t u words e f = e
text_step false x None u words e f = absurd (let h : None ≡ Some words = e in (cc))
text_step false x (Some w) u words e f = subst (λ (o : Option (List ℕ)). text_before x false o ≡ Some words) (sym (f w refl)) e

pub text_goes_on : (lines more : Lines) (words : List ℕ) → model_text_of lines ≡ Some words → model_text_of (lines ++ more) ≡ Some words
text_goes_on [] more words e = absurd (let h : None ≡ Some words = e in (cc))
text_goes_on (x ∷ xs) more words e = text_step (is_line_of begin_word x) x (model_text_of xs) (model_text_of (xs ++ more)) words e (λ w h. text_goes_on xs more w h)

behind_step : (b : Bool) (x : List ℕ) (xs more : Lines) (t : Option (List ℕ)) (words : List ℕ) → text_before x b t ≡ Some words → ((w : List ℕ) → t ≡ Some w → lines_behind (xs ++ more) ≡ lines_behind xs ++ more)
    → (if b then xs ++ more else lines_behind (xs ++ more)) ≡ (if b then xs else lines_behind xs) ++ more
behind_step true x xs more t words e f = refl
behind_step false x xs more None words e f = absurd (let h : None ≡ Some words = e in (cc))
behind_step false x xs more (Some w) words e f = f w refl

pub behind_goes_on : (lines more : Lines) (words : List ℕ) → model_text_of lines ≡ Some words → lines_behind (lines ++ more) ≡ lines_behind lines ++ more
behind_goes_on [] more words e = absurd (let h : None ≡ Some words = e in (cc))
behind_goes_on (x ∷ xs) more words e = behind_step (is_line_of begin_word x) x xs more (model_text_of xs) words e (λ w h. behind_goes_on xs more w h)

pub split_text : (limit : ℕ) (input : List ℕ) (lines : Lines) (left : ℕ) (rest words : List ℕ) → GivesLines limit total_limit input lines left rest → model_text_of lines ≡ Some words → (split_of input).text ≡ Some words
split_text limit input lines left rest words gave e = ap model_text_of (gave_lines limit total_limit input lines left rest gave) ∙ text_goes_on lines (lines_of rest) words e

pub split_messages : (limit : ℕ) (input : List ℕ) (lines : Lines) (left : ℕ) (rest words : List ℕ) → GivesLines limit total_limit input lines left rest → model_text_of lines ≡ Some words
    → (split_of input).messages ≡ messages_of (lines_behind lines ++ lines_of rest)
split_messages limit input lines left rest words gave e =
    ap (λ (ls : Lines). messages_of (lines_behind ls)) (gave_lines limit total_limit input lines left rest gave) ∙ ap messages_of (behind_goes_on lines (lines_of rest) words e)

-- ---- the messages

-- the messages go on behind the lines, or what follows changes nothing
abbrev pub Ends : List Message → (Lines → List Message) → Type 0
Ends messages whole = ((ns : List Message) × (messages ≡ ns ++ None ∷ [])) ⊎ ((more : Lines) → whole more ≡ messages)

ends_step : (blank ends : Bool) (line : List ℕ) (messages : List Message) (whole : Lines → List Message) → Ends messages whole → Ends (messages_from blank ends line messages) (λ (more : Lines). messages_from blank ends line (whole more))
ends_step true ends line messages whole p = p
ends_step false true line messages whole p = inr (λ more. refl)
ends_step false false line messages whole (inl p) = inl (Some line ∷ p.0, ap (λ (ns : List Message). Some line ∷ ns) p.1)
ends_step false false line messages whole (inr p) = inr (λ more. ap (λ (ns : List Message). Some line ∷ ns) (p more))

pub messages_end : (lines : Lines) → Ends (messages_of lines) (λ (more : Lines). messages_of (lines ++ more))
unfolding messages_of
messages_end [] = inl ([], refl)
messages_end (x ∷ xs) = ends_step (is_blank_line x) (is_line_of end_word x) x (messages_of xs) (λ (more : Lines). messages_of (xs ++ more)) (messages_end xs)

-- a list has a last member
pub record HasLast (messages : List Message) : Type 0 where
  pub front : List Message
  pub last : Message
  pub is : messages ≡ front ++ last ∷ []

last_step : (blank ends : Bool) (line : List ℕ) (messages : List Message) → HasLast messages → HasLast (messages_from blank ends line messages)
last_step true ends line messages h = h
last_step false true line messages h = record { front = []; last = Some line; is = refl }
last_step false false line messages h = record { front = Some line ∷ h.front; last = h.last; is = ap (λ (ns : List Message). Some line ∷ ns) h.is }

pub messages_last : (lines : Lines) → HasLast (messages_of lines)
unfolding messages_of
messages_last [] = record { front = []; last = None; is = refl }
messages_last (x ∷ xs) = last_step (is_blank_line x) (is_line_of end_word x) x (messages_of xs) (messages_last xs)

-- a front of a list is the whole, or it is a front of all but the last member
abbrev pub Front : (xs more ns : List Message) (y : Message) → Type 0
Front xs more ns y = ((more ≡ []) × (xs ≡ ns ++ y ∷ [])) ⊎ ((m : List Message) × (ns ≡ xs ++ m))

front_more : (x n : Message) (xs more ns : List Message) (y : Message) → x ≡ n → Front xs more ns y → Front (x ∷ xs) more (n ∷ ns) y
front_more x n xs more ns y same (inl p) = inl (p.0, ap (λ (a : Message). a ∷ xs) same ∙ ap (λ (l : List Message). n ∷ l) p.1)
front_more x n xs more ns y same (inr p) = inr (p.0, ap (λ (a : Message). a ∷ ns) (sym same) ∙ ap (λ (l : List Message). x ∷ l) p.1)

pub front_of : (xs more ns : List Message) (y : Message) → xs ++ more ≡ ns ++ y ∷ [] → Front xs more ns y
front_of [] more ns y e = inr (ns, refl)
front_of (x ∷ []) [] [] y e = inl (refl, e)
front_of (x ∷ []) (m ∷ more) [] y e = absurd (let h : x ∷ m ∷ more ≡ y ∷ [] = e in (cc))
front_of (x ∷ z ∷ xs) more [] y e = absurd (let h : x ∷ z ∷ (xs ++ more) ≡ y ∷ [] = e in (cc))
front_of (x ∷ xs) more (n ∷ ns) y e =
    let h : x ∷ (xs ++ more) ≡ n ∷ (ns ++ y ∷ []) = e in
    let same : x ≡ n = (cc) in
    let rest : xs ++ more ≡ ns ++ y ∷ [] = (cc) in
    front_more x n xs more ns y same (front_of xs more ns y rest)

pub longer : (xs m : List Message) (lines : Lines) → xs ≡ (xs ++ m) ++ messages_of lines → ⊥
longer xs m lines e =
    let last = messages_last lines in
    let whole : length xs ≡ length ((xs ++ m) ++ (last.front ++ last.last ∷ [])) = ap (λ (l : List Message). length l) (e ∙ ap (λ (l : List Message). (xs ++ m) ++ l) last.is) in
    let one : length ((xs ++ m) ++ (last.front ++ last.last ∷ [])) ≡ length (xs ++ m) + length (last.front ++ last.last ∷ []) = length-append (xs ++ m) (last.front ++ last.last ∷ []) in
    let two : length (xs ++ m) ≡ length xs + length m = length-append xs m in
    let three : length (last.front ++ last.last ∷ []) ≡ length last.front + 1 = length-append last.front (last.last ∷ []) in
    omega (arith, whole, one, two, three)
