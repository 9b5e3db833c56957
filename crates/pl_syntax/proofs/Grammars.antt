-- A rule with its proof, and rules made of rules. A grammar is read exactly because it is written with these.
use Rattle.std.proofs.Common.{◌≡◌, ℕ, suc, ◌≤◌, Bool, true, false, ◌&&◌, if◌then◌else◌, List, [], ◌∷◌, length, map, Option, Some, None, ◌⊎◌, inl, inr, Result, Ok, refl, sym, ap, ◌∙◌, subst, arith}
use Rattle.pl_lists.proofs.Tests.{and_first, and_second}
use Rattle.pl_text.specs.declared.word.Word.{Word}
use Rattle.pl_syntax.specs.declared.symbol.Symbol.{Symbol}
use Rattle.pl_syntax.specs.declared.token.Token.{Token}
use Rattle.pl_syntax.specs.declared.token.Token.TheVariants as token
use Rattle.pl_syntax.specs.Tokens.{same, IsReal, AreReal}
use Rattle.pl_syntax.specs.Spelling.{spell_many, AllFit}
use Rattle.pl_syntax.specs.Faults.{Stop, Language, Judged}
use Rattle.pl_syntax.specs.Parsing.{Parser, follow, ◌>>=◌, pure, made, both, expect, many_by, either, option}
use Rattle.pl_syntax.proofs.Judging.{judged_here, judged_end, judged_same}
use Rattle.pl_syntax.proofs.Steps.{judged_in_row}
use Rattle.pl_syntax.proofs.TokenTests.{same_word, same_symbol}
use Rattle.pl_syntax.proofs.Loops.{Any, Refuses, FormThen, Onward, more, RuleExact, Starts}
use Rattle.pl_syntax.proofs.Rules.{never, Guards, guards_apart, guards_both, guards_many, SpellsReal, spell_token, token_rule, Starts-both, seq_rule, renamed_down, renamed_rule, many_rule}
use Rattle.pl_syntax.proofs.Sets.{Set, has, nothing, only_word, only_symbol, joined, joined-left, joined-right, disjoint, disjoint-is, within, within-is, told_word, told_symbol}

pub record Rule (I X : Type 0) : Type 1 where
  -- whether each of its texts has a token, and what the first can be
  pub takes : Bool
  pub firsts : Set
  -- what must not follow
  pub stops : Set
  -- whether it may stand where these must not follow
  pub lets : Set → Bool
  pub spell : I → List Token → List Token
  pub value : I → X
  -- within the limits
  pub ok : I → Type 0
  pub parse : Parser X
  pub some : I
  pub real : SpellsReal spell some
  pub begins : takes ≡ true → Starts (has firsts) spell
  pub guard : (bars : Set) → lets bars ≡ true → (D : Type 0) → Guards D (has bars) (has stops) spell value
  pub exact : (D : Type 0) → RuleExact D takes (has stops) spell value ok parse

-- ---- more that must not follow

pub Onward-stops : {X D : Type 0} (n : ℕ) (bars stops : Token → Bool) (k : X → List Token → Result D Stop) (R F : X → Language D) → ((t : Token) → stops t ≡ true → bars t ≡ true) → Onward n bars k R F → Onward n stops k R F
Onward-stops n bars stops k R F within o = record { exact = o.exact; lives = o.lives; refuses = λ x t ts d is h. o.refuses x t ts d (within t is) h; refuses_free = λ x t ts d is h. o.refuses_free x t ts d (within t is) h }

never_in : (bars : Set) (t : Token) → never t ≡ true → has bars t ≡ true
never_in bars t e = absurd cc

pub exact_never : (D : Type 0) {I X : Type 0} (takes : Bool) (spell : I → List Token → List Token) (value : I → X) (ok : I → Type 0) (parse : Parser X) → RuleExact D takes never spell value ok parse → RuleExact D takes (has nothing) spell value ok parse
exact_never D takes spell value ok parse exact n k R F onward = exact n k R F (Onward-stops n (has nothing) never k R F (never_in nothing) onward)

exact_strong : (D : Type 0) {I X : Type 0} (takes : Bool) → takes ≡ true → (stops : Token → Bool) (spell : I → List Token → List Token) (value : I → X) (ok : I → Type 0) (parse : Parser X) → RuleExact D takes stops spell value ok parse → RuleExact D true stops spell value ok parse
exact_strong D true e stops spell value ok parse exact = exact
exact_strong D false e stops spell value ok parse exact = absurd cc

pub not_taken : {I : Type 0} (these : Token → Bool) (spell : I → List Token → List Token) → false ≡ true → Starts these spell
not_taken these spell e = absurd cc

-- ---- a token

module _ (wanted : Token) (self : same wanted wanted ≡ true) (real : IsReal wanted) (firsts : Set) (first : has firsts wanted ≡ true) where
  pub token_begins : Starts (has firsts) (spell_token wanted)
  token_begins = record { some = λ u rest e. absurd cc; first = λ u rest t ts e. let is : t ≡ wanted = cc in ap (λ (x : Token). has firsts x) is ∙ first }

  abbrev pub single : Rule (Unit {0}) (Unit {0})
  single = record {
    takes = true;
    firsts = firsts;
    stops = nothing;
    lets = λ bars. disjoint bars firsts;
    spell = spell_token wanted;
    value = λ u. u;
    ok = Any;
    parse = expect wanted;
    some = tt;
    real = λ rest h. (real, h);
    begins = λ e. token_begins;
    guard = λ bars e D. guards_apart D (has firsts) (has bars) (has nothing) (spell_token wanted) (λ u. u) token_begins (disjoint-is bars firsts e);
    exact = λ D. exact_never D true (spell_token wanted) (λ u. u) Any (expect wanted) (token_rule D wanted self real);
  }

pub word_first : (w : Word) → has (only_word w) (token.Word w) ≡ true
word_first w = sym (told_word w (token.Word w)) ∙ same_word w

pub symbol_first : (s : Symbol) → has (only_symbol s) (token.Symbol s) ≡ true
symbol_first s = sym (told_symbol s (token.Symbol s)) ∙ same_symbol s

abbrev pub word : Word → Rule (Unit {0}) (Unit {0})
word w = single (token.Word w) (same_word w) tt (only_word w) (word_first w)

abbrev pub symbol : Symbol → Rule (Unit {0}) (Unit {0})
symbol s = single (token.Symbol s) (same_symbol s) tt (only_symbol s) (symbol_first s)

-- ---- one after another

module _ {I J X Y Z : Type 0} (made : X → Y → Z) (a : Rule I X) (b : Rule J Y) (fits : b.lets a.stops ≡ true) where
  pub seq_begins : a.takes ≡ true → Starts (has a.firsts) (λ (p : I × J) rest. a.spell p.0 (b.spell p.1 rest))
  seq_begins e = Starts-both (has a.firsts) a.spell b.spell (a.begins e)

  pub seq_guard : (bars : Set) → a.lets bars ≡ true → (D : Type 0) → Guards D (has bars) (has b.stops) (λ (p : I × J) rest. a.spell p.0 (b.spell p.1 rest)) (λ (p : I × J). made (a.value p.0) (b.value p.1))
  seq_guard bars e D = guards_both D (has bars) (has a.stops) (has b.stops) a.spell b.spell a.value b.value made (a.guard bars e D) (b.guard a.stops fits D)

  abbrev pub seq : Rule (I × J) Z
  seq = record {
    takes = a.takes;
    firsts = a.firsts;
    stops = b.stops;
    lets = a.lets;
    spell = λ p rest. a.spell p.0 (b.spell p.1 rest);
    value = λ p. made (a.value p.0) (b.value p.1);
    ok = λ p. a.ok p.0 × b.ok p.1;
    parse = both made a.parse b.parse;
    some = (a.some, b.some);
    real = λ rest h. a.real (b.spell b.some rest) (b.real rest h);
    begins = seq_begins;
    guard = seq_guard;
    exact = λ D. seq_rule D a.spell b.spell a.value b.value a.ok b.ok made a.takes b.takes (has a.stops) (has b.stops) a.parse b.parse (a.exact D) (b.exact D) (b.guard a.stops fits D) b.some b.real;
  }

-- the value of the second, or of the first
abbrev pub second : {X : Type 0} → Unit {0} → X → X
second u x = x

abbrev pub first : {X : Type 0} → X → Unit {0} → X
first x u = x

abbrev pub after_word : {J Y : Type 0} (w : Word) (b : Rule J Y) → b.lets nothing ≡ true → Rule (Unit {0} × J) Y
after_word w b fits = seq second (word w) b fits

-- ---- { x }

module _ {I X : Type 0} (these : Token → Bool) (item : Rule I X) (told : (t : Token) → these t ≡ has item.firsts t) (takes : item.takes ≡ true) (bars : Set) (other : disjoint item.stops item.firsts ≡ true) (bars_firsts : within item.firsts bars ≡ true) (bars_stops : within item.stops bars ≡ true) where
  pub item_starts : Starts these item.spell
  item_starts = record { some = (item.begins takes).some; first = λ i rest t ts e. told t ∙ (item.begins takes).first i rest t ts e }

  is_first : (t : Token) → these t ≡ true → has item.firsts t ≡ true
  is_first t e = sym (told t) ∙ e

  no_first : (s : Set) → disjoint s item.firsts ≡ true → (t : Token) → has s t ≡ true → these t ≡ false
  no_first s e t is = told t ∙ disjoint-is s item.firsts e t is

  abbrev lets_many : Set → Bool
  lets_many inner = disjoint inner item.firsts && within inner bars

  pub many_guard : (inner : Set) → lets_many inner ≡ true → (D : Type 0) → Guards D (has inner) (has bars) (spell_many item.spell) (λ (is : List I). map item.value is)
  many_guard inner e D =
      guards_many D these (has item.stops) item.spell item.value item_starts (has bars) (has inner) (no_first inner (and_first (disjoint inner item.firsts) (within inner bars) e)) (within-is inner bars (and_second (disjoint inner item.firsts) (within inner bars) e))

  pub many_exact_rule : (D : Type 0) → RuleExact D false (has bars) (spell_many item.spell) (λ (is : List I). map item.value is) (AllFit item.ok) (λ ts. many_by these item.parse (length ts) [] ts)
  many_exact_rule D =
      many_rule D these (has item.stops) item.spell item.value item_starts item.ok item.parse (exact_strong D item.takes takes (has item.stops) item.spell item.value item.ok item.parse (item.exact D)) (has bars) (no_first item.stops other) (λ t e. within-is item.firsts bars bars_firsts t (is_first t e)) (within-is item.stops bars bars_stops)

  abbrev pub many : Rule (List I) (List X)
  many = record {
    takes = false;
    firsts = item.firsts;
    stops = bars;
    lets = λ inner. disjoint inner item.firsts && within inner bars;
    spell = spell_many item.spell;
    value = λ (is : List I). map item.value is;
    ok = AllFit item.ok;
    parse = λ ts. many_by these item.parse (length ts) [] ts;
    some = [];
    real = λ rest h. h;
    begins = not_taken (has item.firsts) (spell_many item.spell);
    guard = many_guard;
    exact = many_exact_rule;
  }

-- ---- other forms for the texts of a rule

module _ {I J X : Type 0} (r : Rule I X) (spell : J → List Token → List Token) (value : J → X) (ok : J → Type 0) (to : J → I) (from : I → J) (same_text : (j : J) (rest : List Token) → spell j rest ≡ r.spell (to j) rest) (same_value : (j : J) → value j ≡ r.value (to j)) (back : (i : I) → to (from i) ≡ i) (fit_to : (j : J) → ok j → r.ok (to j)) (fit_from : (j : J) → r.ok (to j) → ok j) where
  pub renamed_real : SpellsReal spell (from r.some)
  renamed_real rest h =
      let P : List Token → Type 0 = λ x. AreReal x in
      let Q : I → Type 0 = λ i. AreReal (r.spell i rest) in
      subst P (sym (same_text (from r.some) rest)) (subst Q (sym (back r.some)) (r.real rest h))

  pub renamed_begins : r.takes ≡ true → Starts (has r.firsts) spell
  renamed_begins e = record { some = λ j rest is. (r.begins e).some (to j) rest (is ∙ same_text j rest); first = λ j rest t ts is. (r.begins e).first (to j) rest t ts (is ∙ same_text j rest) }

  pub renamed_guard : (bars : Set) → r.lets bars ≡ true → (D : Type 0) → Guards D (has bars) (has r.stops) spell value
  renamed_guard bars e D fit R refuses t ts d is h =
      r.guard bars e D Any R refuses t ts d is (renamed_down D r.spell r.value r.ok spell value ok to from same_text same_value back fit_to fit_from fit Any (λ j f. tt) R (t ∷ ts) d h)

  abbrev pub renamed : Rule J X
  renamed = record {
    takes = r.takes;
    firsts = r.firsts;
    stops = r.stops;
    lets = r.lets;
    spell = spell;
    value = value;
    ok = ok;
    parse = r.parse;
    some = from r.some;
    real = renamed_real;
    begins = renamed_begins;
    guard = renamed_guard;
    exact = λ D. renamed_rule D r.spell r.value r.ok spell value ok to from same_text same_value back fit_to fit_from r.takes (has r.stops) r.parse (r.exact D);
  }

-- ---- another value for the texts of a rule

module _ {I X Y : Type 0} (g : X → Y) (r : Rule I X) where
  pub mapped_exact : (D : Type 0) → RuleExact D r.takes (has r.stops) r.spell (λ i. g (r.value i)) r.ok (made g r.parse)
  mapped_exact D n k R F onward ts short =
      judged_same (FormThen r.spell (λ i. g (r.value i)) r.ok R) (FormThen r.spell (λ i. g (r.value i)) Any F) (FormThen r.spell r.value r.ok (λ x. R (g x))) (FormThen r.spell r.value Any (λ x. F (g x)))
      (λ us d h. record { form = h.form; rest = h.rest; spelled = h.spelled; fits = h.fits; goes = h.goes }) (λ us d h. record { form = h.form; rest = h.rest; spelled = h.spelled; fits = h.fits; goes = h.goes })
      (λ us d h. record { form = h.form; rest = h.rest; spelled = h.spelled; fits = h.fits; goes = h.goes }) (λ us d h. record { form = h.form; rest = h.rest; spelled = h.spelled; fits = h.fits; goes = h.goes })
      ts (follow (made g r.parse ts) k)
      (judged_in_row (FormThen r.spell r.value r.ok (λ x. R (g x))) (FormThen r.spell r.value Any (λ x. F (g x))) ts (r.parse ts) (λ x. pure (g x)) k
      (r.exact D n (λ x us. k (g x) us) (λ x. R (g x)) (λ x. F (g x)) (record { exact = λ x. onward.exact (g x); lives = λ x. onward.lives (g x); refuses = λ x. onward.refuses (g x); refuses_free = λ x. onward.refuses_free (g x) }) ts short))

  pub mapped_guard : (bars : Set) → r.lets bars ≡ true → (D : Type 0) → Guards D (has bars) (has r.stops) r.spell (λ i. g (r.value i))
  mapped_guard bars e D fit R refuses t ts d is h =
      r.guard bars e D fit (λ x. R (g x)) (λ x. refuses (g x)) t ts d is (record { form = h.form; rest = h.rest; spelled = h.spelled; fits = h.fits; goes = h.goes })

  abbrev pub mapped : Rule I Y
  mapped = record { takes = r.takes; firsts = r.firsts; stops = r.stops; lets = r.lets; spell = r.spell; value = λ i. g (r.value i); ok = r.ok; parse = made g r.parse; some = r.some; real = r.real; begins = r.begins; guard = mapped_guard; exact = mapped_exact }

-- ---- one of two, by the next token

abbrev pub spell_either : {I J : Type 0} → (I → List Token → List Token) → (J → List Token → List Token) → I ⊎ J → List Token → List Token
spell_either a b (inl i) rest = a i rest
spell_either a b (inr j) rest = b j rest

abbrev pub value_either : {I J X : Type 0} → (I → X) → (J → X) → I ⊎ J → X
value_either a b (inl i) = a i
value_either a b (inr j) = b j

abbrev pub either_fits : {I J : Type 0} → (I → Type 0) → (J → Type 0) → I ⊎ J → Type 0
either_fits a b (inl i) = a i
either_fits a b (inr j) = b j

-- The second may be empty. Then what follows must not begin with what the first begins with.
module _ {I J X : Type 0} (these : Token → Bool) (a : Rule I X) (b : Rule J X) (told : (t : Token) → these t ≡ has a.firsts t) (takes_a : a.takes ≡ true) (lets_b : b.lets a.firsts ≡ true) (bars : Set) (bars_a : within a.stops bars ≡ true) (bars_b : within b.stops bars ≡ true) where
  abbrev Either : {D : Type 0} → (I ⊎ J → Type 0) → (X → Language D) → Language D
  Either ok R = FormThen (spell_either a.spell b.spell) (value_either a.value b.value) ok R

  abbrev First : {D : Type 0} → (I ⊎ J → Type 0) → (X → Language D) → Language D
  First ok R = FormThen a.spell a.value (λ i. ok (inl i)) R

  abbrev Second : {D : Type 0} → (I ⊎ J → Type 0) → (X → Language D) → Language D
  Second ok R = FormThen b.spell b.value (λ j. ok (inr j)) R

  first_at : {D : Type 0} (ok : I ⊎ J → Type 0) (R : X → Language D) → ((x : X) → Refuses (has bars) (R x)) → (t : Token) → these t ≡ true → (ts : List Token) (d : D) (form : I ⊎ J) (rest : List Token) → t ∷ ts ≡ spell_either a.spell b.spell form rest → ok form → R (value_either a.value b.value form) rest d → First ok R (t ∷ ts) d
  first_at ok R refuses t is ts d (inl i) rest e fits h = record { form = i; rest = rest; spelled = e; fits = fits; goes = h }
  first_at {D} ok R refuses t is ts d (inr j) rest e fits h =
      absurd (b.guard a.firsts lets_b D (λ y. ok (inr y)) R (λ x u us o s g. refuses x u us o (within-is b.stops bars bars_b u s) g) t ts d (sym (told t) ∙ is) (record { form = j; rest = rest; spelled = e; fits = fits; goes = h }))

  first_up : {D : Type 0} (ok : I ⊎ J → Type 0) (R : X → Language D) (ts : List Token) (d : D) → First ok R ts d → Either ok R ts d
  first_up ok R ts d h = record { form = inl h.form; rest = h.rest; spelled = h.spelled; fits = h.fits; goes = h.goes }

  second_at : {D : Type 0} (ok : I ⊎ J → Type 0) (R : X → Language D) (t : Token) → these t ≡ false → (ts : List Token) (d : D) (form : I ⊎ J) (rest : List Token) → t ∷ ts ≡ spell_either a.spell b.spell form rest → ok form → R (value_either a.value b.value form) rest d → Second ok R (t ∷ ts) d
  second_at ok R t is ts d (inl i) rest e fits h = let other = told t ∙ (a.begins takes_a).first i rest t ts e in absurd cc
  second_at ok R t is ts d (inr j) rest e fits h = record { form = j; rest = rest; spelled = e; fits = fits; goes = h }

  second_up : {D : Type 0} (ok : I ⊎ J → Type 0) (R : X → Language D) (ts : List Token) (d : D) → Second ok R ts d → Either ok R ts d
  second_up ok R ts d h = record { form = inr h.form; rest = h.rest; spelled = h.spelled; fits = h.fits; goes = h.goes }

  no_end : {D : Type 0} (ok : I ⊎ J → Type 0) (R : X → Language D) (d : D) (form : I ⊎ J) (rest : List Token) → [] ≡ spell_either a.spell b.spell form rest → ok form → R (value_either a.value b.value form) rest d → Second ok R [] d
  no_end ok R d (inl i) rest e fits h = absurd ((a.begins takes_a).some i rest e)
  no_end ok R d (inr j) rest e fits h = record { form = j; rest = rest; spelled = e; fits = fits; goes = h }

  within_one : (takes : Bool) (n m : ℕ) → m ≤ more takes n → m ≤ suc n
  within_one true n m le = le
  within_one false n m le = omega (arith, le)

  abbrev strong_a : (D : Type 0) → RuleExact D true (has a.stops) a.spell a.value a.ok a.parse
  strong_a D = exact_strong D a.takes takes_a (has a.stops) a.spell a.value a.ok a.parse (a.exact D)

  either_at : (D : Type 0) (n : ℕ) (k : X → List Token → Result D Stop) (R F : X → Language D) → Onward n (has bars) k R F → (t : Token) (ts : List Token) → length (t ∷ ts) ≤ more b.takes n → (c : Bool) → these t ≡ c → Judged (Either (either_fits a.ok b.ok) R) (Either Any F) (t ∷ ts) (follow (if c then a.parse (t ∷ ts) else b.parse (t ∷ ts)) k)
  either_at D n k R F onward t ts short true is =
      judged_here (Either (either_fits a.ok b.ok) R) (Either Any F) (First (either_fits a.ok b.ok) R) (First Any F) t
      (λ us d h. first_at (either_fits a.ok b.ok) R onward.refuses t is us d h.form h.rest h.spelled h.fits h.goes) (first_up (either_fits a.ok b.ok) R)
      (λ us d h. first_at Any F onward.refuses_free t is us d h.form h.rest h.spelled h.fits h.goes) (first_up Any F)
      ts (follow (a.parse (t ∷ ts)) k) (strong_a D n k R F (Onward-stops n (has bars) (has a.stops) k R F (within-is a.stops bars bars_a) onward) (t ∷ ts) (within_one b.takes n (length (t ∷ ts)) short))
  either_at D n k R F onward t ts short false is =
      judged_here (Either (either_fits a.ok b.ok) R) (Either Any F) (Second (either_fits a.ok b.ok) R) (Second Any F) t
      (λ us d h. second_at (either_fits a.ok b.ok) R t is us d h.form h.rest h.spelled h.fits h.goes) (second_up (either_fits a.ok b.ok) R)
      (λ us d h. second_at Any F t is us d h.form h.rest h.spelled h.fits h.goes) (second_up Any F)
      ts (follow (b.parse (t ∷ ts)) k) (b.exact D n k R F (Onward-stops n (has bars) (has b.stops) k R F (within-is b.stops bars bars_b) onward) (t ∷ ts) short)

  pub either_exact : (D : Type 0) → RuleExact D b.takes (has bars) (spell_either a.spell b.spell) (value_either a.value b.value) (either_fits a.ok b.ok) (either these a.parse b.parse)
  either_exact D n k R F onward [] short =
      judged_end (Either (either_fits a.ok b.ok) R) (Either Any F) (Second (either_fits a.ok b.ok) R) (Second Any F)
      (λ d h. no_end (either_fits a.ok b.ok) R d h.form h.rest h.spelled h.fits h.goes) (second_up (either_fits a.ok b.ok) R)
      (follow (b.parse []) k) (b.exact D n k R F (Onward-stops n (has bars) (has b.stops) k R F (within-is b.stops bars bars_b) onward) [] short)
  either_exact D n k R F onward (t ∷ ts) short = either_at D n k R F onward t ts short (these t) refl

  pub either_begins : b.takes ≡ true → Starts (has (joined a.firsts b.firsts)) (spell_either a.spell b.spell)
  either_begins takes_b = record { some = some; first = first }
    where
      some : (form : I ⊎ J) (rest : List Token) → [] ≡ spell_either a.spell b.spell form rest → ⊥
      some (inl i) rest e = (a.begins takes_a).some i rest e
      some (inr j) rest e = (b.begins takes_b).some j rest e

      first : (form : I ⊎ J) (rest : List Token) (t : Token) (ts : List Token) → t ∷ ts ≡ spell_either a.spell b.spell form rest → has (joined a.firsts b.firsts) t ≡ true
      first (inl i) rest t ts e = joined-left a.firsts b.firsts t ((a.begins takes_a).first i rest t ts e)
      first (inr j) rest t ts e = joined-right a.firsts b.firsts t ((b.begins takes_b).first j rest t ts e)

  guard_at : (inner : Set) → disjoint inner a.firsts ≡ true → b.lets inner ≡ true → (D : Type 0) (ok : I ⊎ J → Type 0) (R : X → Language D) → ((x : X) → Refuses (has bars) (R x)) → (t : Token) (ts : List Token) (d : D) → has inner t ≡ true → (form : I ⊎ J) (rest : List Token) → t ∷ ts ≡ spell_either a.spell b.spell form rest → ok form → R (value_either a.value b.value form) rest d → ⊥
  guard_at inner apart lets D ok R refuses t ts d is (inl i) rest e fits h = let other = disjoint-is inner a.firsts apart t is in let first = (a.begins takes_a).first i rest t ts e in absurd cc
  guard_at inner apart lets D ok R refuses t ts d is (inr j) rest e fits h =
      b.guard inner lets D (λ y. ok (inr y)) R (λ x u us o s g. refuses x u us o (within-is b.stops bars bars_b u s) g) t ts d is (record { form = j; rest = rest; spelled = e; fits = fits; goes = h })

  pub either_guard : (inner : Set) → (disjoint inner a.firsts && b.lets inner) ≡ true → (D : Type 0) → Guards D (has inner) (has bars) (spell_either a.spell b.spell) (value_either a.value b.value)
  either_guard inner e D ok R refuses t ts d is h =
      guard_at inner (and_first (disjoint inner a.firsts) (b.lets inner) e) (and_second (disjoint inner a.firsts) (b.lets inner) e) D ok R refuses t ts d is h.form h.rest h.spelled h.fits h.goes

  abbrev pub choice : Rule (I ⊎ J) X
  choice = record {
    takes = b.takes;
    firsts = joined a.firsts b.firsts;
    stops = bars;
    lets = λ inner. disjoint inner a.firsts && b.lets inner;
    spell = spell_either a.spell b.spell;
    value = value_either a.value b.value;
    ok = either_fits a.ok b.ok;
    parse = either these a.parse b.parse;
    some = inl a.some;
    real = a.real;
    begins = either_begins;
    guard = either_guard;
    exact = either_exact;
  }

-- ---- [ x ]

abbrev pub spell_option : {I : Type 0} → (I → List Token → List Token) → Option I → List Token → List Token
spell_option a None rest = rest
spell_option a (Some i) rest = a i rest

abbrev pub value_option : {I X : Type 0} → (I → X) → Option I → Option X
value_option a None = None
value_option a (Some i) = Some (a i)

abbrev pub option_fits : {I : Type 0} → (I → Type 0) → Option I → Type 0
option_fits a None = Unit {0}
option_fits a (Some i) = a i

module _ {I X : Type 0} (these : Token → Bool) (a : Rule I X) (told : (t : Token) → these t ≡ has a.firsts t) (takes : a.takes ≡ true) (set : Set) (within_these : within a.firsts set ≡ true) (within_a : within a.stops set ≡ true) where
  abbrev bars : Token → Bool
  bars t = has set t

  bars_these : (t : Token) → these t ≡ true → has set t ≡ true
  bars_these t e = within-is a.firsts set within_these t (sym (told t) ∙ e)

  bars_a : (t : Token) → has a.stops t ≡ true → has set t ≡ true
  bars_a t e = within-is a.stops set within_a t e

  starts : Starts these a.spell
  starts = record { some = (a.begins takes).some; first = λ i rest t ts e. told t ∙ (a.begins takes).first i rest t ts e }

  strong : (D : Type 0) → RuleExact D true (has a.stops) a.spell a.value a.ok a.parse
  strong D = exact_strong D a.takes takes (has a.stops) a.spell a.value a.ok a.parse (a.exact D)

  abbrev Maybe : {D : Type 0} → (Option I → Type 0) → (Option X → Language D) → Language D
  Maybe ok R = FormThen (spell_option a.spell) (value_option a.value) ok R

  abbrev Given : {D : Type 0} → (Option I → Type 0) → (Option X → Language D) → Language D
  Given ok R = FormThen a.spell a.value (λ i. ok (Some i)) (λ x. R (Some x))

  given_at : {D : Type 0} (ok : Option I → Type 0) (R : Option X → Language D) (t : Token) → these t ≡ true → Refuses bars (R None) → (ts : List Token) (d : D) (form : Option I) (rest : List Token) → t ∷ ts ≡ spell_option a.spell form rest → ok form → R (value_option a.value form) rest d → Given ok R (t ∷ ts) d
  given_at ok R t is refuses ts d None rest e fits h = absurd (refuses t ts d (bars_these t is) (rw e h))
  given_at ok R t is refuses ts d (Some i) rest e fits h = record { form = i; rest = rest; spelled = e; fits = fits; goes = h }

  given_up : {D : Type 0} (ok : Option I → Type 0) (R : Option X → Language D) (ts : List Token) (d : D) → Given ok R ts d → Maybe ok R ts d
  given_up ok R ts d h = record { form = Some h.form; rest = h.rest; spelled = h.spelled; fits = h.fits; goes = h.goes }

  none_at : {D : Type 0} (R : Option X → Language D) (t : Token) → these t ≡ false → (ts : List Token) (d : D) (form : Option I) (rest : List Token) → t ∷ ts ≡ spell_option a.spell form rest → R (value_option a.value form) rest d → R None (t ∷ ts) d
  none_at R t is ts d None rest e h = rw e h
  none_at R t is ts d (Some i) rest e h = let other = starts.first i rest t ts e in absurd cc

  end_at : {D : Type 0} (R : Option X → Language D) (d : D) (form : Option I) (rest : List Token) → [] ≡ spell_option a.spell form rest → R (value_option a.value form) rest d → R None [] d
  end_at R d None rest e h = rw e h
  end_at R d (Some i) rest e h = absurd (starts.some i rest e)

  none_up : {D : Type 0} (ok : Option I → Type 0) → ok None → (R : Option X → Language D) (ts : List Token) (d : D) → R None ts d → Maybe ok R ts d
  none_up ok fits R ts d h = record { form = None; rest = ts; spelled = refl; fits = fits; goes = h }

  option_at : (D : Type 0) (n : ℕ) (k : Option X → List Token → Result D Stop) (R F : Option X → Language D) → Onward n bars k R F → (t : Token) (ts : List Token) → length (t ∷ ts) ≤ n → (c : Bool) → these t ≡ c → Judged (Maybe (option_fits a.ok) R) (Maybe Any F) (t ∷ ts) (follow (if c then (a.parse >>= λ x. pure (Some x)) (t ∷ ts) else Ok (None, t ∷ ts)) k)
  option_at D n k R F onward t ts short true is =
      judged_here (Maybe (option_fits a.ok) R) (Maybe Any F) (Given (option_fits a.ok) R) (Given Any F) t
      (λ us d h. given_at (option_fits a.ok) R t is (onward.refuses None) us d h.form h.rest h.spelled h.fits h.goes) (given_up (option_fits a.ok) R)
      (λ us d h. given_at Any F t is (onward.refuses_free None) us d h.form h.rest h.spelled h.fits h.goes) (given_up Any F)
      ts (follow ((a.parse >>= λ x. pure (Some x)) (t ∷ ts)) k)
      (judged_in_row (Given (option_fits a.ok) R) (Given Any F) (t ∷ ts) (a.parse (t ∷ ts)) (λ x. pure (Some x)) k
      (strong D n (λ x us. k (Some x) us) (λ x. R (Some x)) (λ x. F (Some x))
      (record { exact = λ x. onward.exact (Some x); lives = λ x. onward.lives (Some x); refuses = λ x u us d stop h. onward.refuses (Some x) u us d (bars_a u stop) h; refuses_free = λ x u us d stop h. onward.refuses_free (Some x) u us d (bars_a u stop) h })
      (t ∷ ts) (omega (arith, short))))
  option_at D n k R F onward t ts short false is =
      judged_here (Maybe (option_fits a.ok) R) (Maybe Any F) (R None) (F None) t
      (λ us d h. none_at R t is us d h.form h.rest h.spelled h.goes) (none_up (option_fits a.ok) tt R)
      (λ us d h. none_at F t is us d h.form h.rest h.spelled h.goes) (none_up Any tt F)
      ts (k None (t ∷ ts)) (onward.exact None (t ∷ ts) short)

  pub option_exact : (D : Type 0) → RuleExact D false bars (spell_option a.spell) (value_option a.value) (option_fits a.ok) (option these a.parse)
  option_exact D n k R F onward [] short =
      judged_end (Maybe (option_fits a.ok) R) (Maybe Any F) (R None) (F None) (λ d h. end_at R d h.form h.rest h.spelled h.goes) (none_up (option_fits a.ok) tt R) (k None []) (onward.exact None [] short)
  option_exact D n k R F onward (t ∷ ts) short = option_at D n k R F onward t ts short (these t) refl

  pub optional_guard : (inner : Set) → (disjoint inner a.firsts && within inner set) ≡ true → (D : Type 0) → Guards D (has inner) (has set) (spell_option a.spell) (value_option a.value)
  optional_guard inner e D ok R refuses t ts d is h =
      refuses None t ts d (within-is inner set (and_second (disjoint inner a.firsts) (within inner set) e) t is)
      (none_at R t (told t ∙ disjoint-is inner a.firsts (and_first (disjoint inner a.firsts) (within inner set) e) t is) ts d h.form h.rest h.spelled h.goes)

  abbrev pub optional : Rule (Option I) (Option X)
  optional = record {
    takes = false;
    firsts = a.firsts;
    stops = set;
    lets = λ inner. disjoint inner a.firsts && within inner set;
    spell = spell_option a.spell;
    value = value_option a.value;
    ok = option_fits a.ok;
    parse = option these a.parse;
    some = None;
    real = λ rest h. h;
    begins = not_taken (has a.firsts) (spell_option a.spell);
    guard = optional_guard;
    exact = option_exact;
  }
