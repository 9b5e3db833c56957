-- A token that stands for a value: a name, a number, a point.
use Rattle.std.proofs.Common.{◌≡◌, ℕ, pos, negsuc, ◌≤◌, true, false, List, [], ◌∷◌, length, Option, Some, None, Result, refl, ap, ◌∙◌, arith}
use Rattle.pl_syntax.specs.declared.token.Token.{Token}
use Rattle.pl_syntax.specs.declared.token.Token.TheVariants as token
use Rattle.pl_text.specs.Bytes.{class_of}
use Rattle.pl_text.specs.Words.{word_of, is_name}
use Rattle.pl_syntax.specs.Tokens.{IsReal}
use Rattle.pl_syntax.specs.Faults.{Stop, Language, Begins, Judged}
use Rattle.pl_syntax.specs.Parsing.{follow, decoded, class_at, name_of, number_of}
use Rattle.pl_syntax.proofs.Judging.{judged_behind, judged_stuck, judged_ended}
use Rattle.pl_syntax.proofs.Steps.{Exact-alive}
use Rattle.pl_syntax.proofs.Loops.{Any, FormThen, Onward, RuleExact, Starts}
use Rattle.pl_syntax.proofs.Rules.{never, guards_apart}
use Rattle.pl_syntax.proofs.Sets.{Set, has, nothing, disjoint, disjoint-is}
use Rattle.pl_syntax.proofs.Grammars.{Rule, exact_never}

module _ {X : Type 0} (decode : Token → Option X) (encode : X → Token) (there : (x : X) → decode (encode x) ≡ Some x) (back : (t : Token) (x : X) → decode t ≡ Some x → t ≡ encode x) (firsts : Set) (among_firsts : (x : X) → has firsts (encode x) ≡ true) (some : X) (real : IsReal (encode some)) where
  abbrev pub spell_class : X → List Token → List Token
  spell_class x rest = encode x ∷ rest

  abbrev Classed : {D : Type 0} → (X → Language D) → Language D
  Classed R = FormThen spell_class (λ x. x) Any R

  given : (t : Token) (x y : X) → decode t ≡ Some x → t ≡ encode y → x ≡ y
  given t x y e is = let f = ap decode is ∙ there y in cc

  class_down : {D : Type 0} (R : X → Language D) (t : Token) (x : X) → decode t ≡ Some x → (ts : List Token) (d : D) → Classed R (t ∷ ts) d → R x ts d
  class_down R t x e ts d h = let s = h.spelled in let is : t ≡ encode h.form = cc in let er : ts ≡ h.rest = cc in let ex : x ≡ h.form = given t x h.form e is in rw (ex, er) h.goes

  class_up : {D : Type 0} (R : X → Language D) (t : Token) (x : X) → decode t ≡ Some x → (ts : List Token) (d : D) → R x ts d → Classed R (t ∷ ts) d
  class_up R t x e ts d h = record { form = x; rest = ts; spelled = ap (λ (u : Token). u ∷ ts) (back t x e); fits = tt; goes = h }

  not_class : {D : Type 0} (R : X → Language D) (t : Token) → decode t ≡ None → (ts : List Token) (d : D) → Classed R (t ∷ ts) d → ⊥
  not_class R t e ts d h = let s = h.spelled in let is : t ≡ encode h.form = cc in let f = ap decode is ∙ there h.form in absurd cc

  class_alive : {D : Type 0} (R : X → Language D) → Begins (R some) [] → Begins (Classed R) []
  class_alive R b = (encode some ∷ b.0, b.1, record { form = some; rest = b.0; spelled = refl; fits = tt; goes = b.2 }, (real, b.3))

  class_case : (D : Type 0) (n : ℕ) (k : X → List Token → Result D Stop) (R F : X → Language D) → Onward n never k R F → (t : Token) (ts : List Token) → length ts ≤ n → (o : Option X) → decode t ≡ o → Judged (Classed R) (Classed F) (t ∷ ts) (follow (decoded o t ts) k)
  class_case D n k R F onward t ts short (Some x) e = judged_behind (Classed R) (Classed F) (R x) (F x) t (class_down R t x e) (class_up R t x e) (class_down F t x e) (class_up F t x e) ts (k x ts) (onward.exact x ts short)
  class_case D n k R F onward t ts short None e = judged_stuck (Classed R) (Classed F) (R some) (F some) t (class_alive R (Exact-alive n (k some) (R some) (F some) (onward.exact some))) (not_class R t e) (not_class F t e) ts

  pub class_rule : (D : Type 0) → RuleExact D true never spell_class (λ x. x) Any (class_at decode)
  class_rule D n k R F onward [] short = judged_ended (Classed R) (Classed F) (class_alive R (Exact-alive n (k some) (R some) (F some) (onward.exact some))) (λ d h. let s = h.spelled in absurd cc)
  class_rule D n k R F onward (t ∷ ts) short = class_case D n k R F onward t ts (omega (arith, short)) (decode t) refl

  pub class_begins : Starts (has firsts) spell_class
  class_begins = record { some = λ x rest e. absurd cc; first = λ x rest t ts e. let is : t ≡ encode x = cc in ap (λ (u : Token). has firsts u) is ∙ among_firsts x }

  abbrev pub class : Rule X X
  class = record {
    takes = true;
    firsts = firsts;
    stops = nothing;
    lets = λ bars. disjoint bars firsts;
    spell = spell_class;
    value = λ x. x;
    ok = Any;
    parse = class_at decode;
    some = some;
    real = λ rest h. (real, h);
    begins = λ e. class_begins;
    guard = λ bars e D. guards_apart D (has firsts) (has bars) (has nothing) spell_class (λ x. x) class_begins (disjoint-is bars firsts e);
    exact = λ D. exact_never D true spell_class (λ x. x) Any (class_at decode) (class_rule D);
  }

abbrev pub only_names : Set
only_names = record { words = []; symbols = []; names = true; numbers = false }

abbrev pub only_numbers : Set
only_numbers = record { words = []; symbols = []; names = false; numbers = true }

-- a name
pub name_back : (t : Token) (n : List ℕ) → name_of t ≡ Some n → t ≡ token.Name n
name_back (token.Name m) n e = let f : m ≡ n = cc in ap token.Name f
name_back (token.Number m) n e = absurd cc
name_back (token.Word w) n e = absurd cc
name_back (token.Symbol s) n e = absurd cc

abbrev pub some_name : List ℕ
some_name = 97 ∷ []

pub name_real : is_name some_name ≡ true
unfolding class_of word_of
name_real = refl

abbrev pub name : Rule (List ℕ) (List ℕ)
name = class name_of token.Name (λ n. refl) name_back only_names (λ n. refl) some_name name_real

-- a number
pub number_back : (t : Token) (n : ℕ) → number_of t ≡ Some n → t ≡ token.Number (pos n)
number_back (token.Number (pos m)) n e = let f : m ≡ n = cc in ap (λ (k : ℕ). token.Number (pos k)) f
number_back (token.Number (negsuc m)) n e = absurd cc
number_back (token.Name m) n e = absurd cc
number_back (token.Word w) n e = absurd cc
number_back (token.Symbol s) n e = absurd cc

abbrev pub number_token : ℕ → Token
number_token n = token.Number (pos n)

abbrev pub number : Rule ℕ ℕ
number = class number_of number_token (λ n. refl) number_back only_numbers (λ n. refl) 0 (omega arith)
