-- Rules of a grammar, each from its parts.
use Rattle.std.proofs.Common.{◌≡◌, ℕ, suc, ◌≤◌, Bool, true, false, if◌then◌else◌, List, [], ◌∷◌, length, map, Result, Ok, Err, refl, sym, ap, subst, ◌∙◌, arith}
use Rattle.pl_syntax.specs.declared.token.Token.{Token}
use Rattle.pl_syntax.specs.Tokens.{same, IsReal, AreReal}
use Rattle.pl_syntax.specs.Spelling.{spell_many, AllFit}
use Rattle.pl_syntax.specs.Faults.{unexpected, Stop, Language, Begins, Judged}
use Rattle.pl_syntax.specs.Parsing.{Parser, follow, ◌>>=◌, pure, both, expect, many_by}
use Rattle.pl_syntax.proofs.Judging.{judged_behind, judged_stuck, judged_ended, judged_same}
use Rattle.pl_syntax.proofs.Steps.{Exact-alive, judged_in_row}
use Rattle.pl_syntax.proofs.TokenTests.{same-is}
use Rattle.pl_syntax.proofs.Loops.{Any, Refuses, FormThen, Onward, more, RuleExact, Starts, ManyThen, many_refuses, many_exact}

-- every rule has a form, so that a text can go on
abbrev pub never : Token → Bool
never t = false

-- the tokens of the form are tokens of a text
abbrev pub SpellsReal : {I : Type 0} → (I → List Token → List Token) → I → Type 0
SpellsReal spell some = (rest : List Token) → AreReal rest → AreReal (spell some rest)

form_lives : {I X D : Type 0} (spell : I → List Token → List Token) (value : I → X) (some : I) → SpellsReal spell some → (F : X → Language D) → ((x : X) → Begins (F x) []) → Begins (FormThen spell value Any F) []
form_lives spell value some real F lives = let b = lives (value some) in (spell some b.0, b.1, record { form = some; rest = b.0; spelled = refl; fits = tt; goes = b.2 }, real b.0 b.3)

-- what must not come before, where the rule stands: neither the rule nor what follows begins with it
abbrev pub Guards : (D : Type 0) {J Y : Type 0} → (Token → Bool) → (Token → Bool) → (J → List Token → List Token) → (J → Y) → Type 1
Guards D {J} {Y} bars stops spell value = (ok : J → Type 0) (R : Y → Language D) → ((y : Y) → Refuses stops (R y)) → Refuses bars (FormThen spell value ok R)

pub form_refuses : {I X D : Type 0} (spell : I → List Token → List Token) (value : I → X) (ok : I → Type 0) (R : X → Language D) (these bars : Token → Bool) → Starts these spell → ((t : Token) → bars t ≡ true → these t ≡ false) → Refuses bars (FormThen spell value ok R)
form_refuses spell value ok R these bars starts apart t ts d is h = let a = apart t is in let b = starts.first h.form h.rest t ts h.spelled in absurd cc

-- a rule that begins with other tokens
pub guards_apart : (D : Type 0) {J Y : Type 0} (these bars stops : Token → Bool) (spell : J → List Token → List Token) (value : J → Y) → Starts these spell → ((t : Token) → bars t ≡ true → these t ≡ false) → Guards D bars stops spell value
guards_apart D these bars stops spell value starts apart ok R refuses = form_refuses spell value ok R these bars starts apart

pub Starts-both : {I J : Type 0} (these : Token → Bool) (spell_a : I → List Token → List Token) (spell_b : J → List Token → List Token) → Starts these spell_a → Starts these (λ (p : I × J) rest. spell_a p.0 (spell_b p.1 rest))
Starts-both these spell_a spell_b s = record { some = λ p rest e. s.some p.0 (spell_b p.1 rest) e; first = λ p rest t ts e. s.first p.0 (spell_b p.1 rest) t ts e }

-- ---- a word or a symbol

abbrev pub spell_token : Token → Unit {0} → List Token → List Token
spell_token wanted u rest = wanted ∷ rest

module _ (D : Type 0) (wanted : Token) (self : same wanted wanted ≡ true) (real : IsReal wanted) where
  abbrev Worded : (Unit {0} → Language D) → Language D
  Worded R = FormThen (spell_token wanted) (λ u. u) Any R

  token_down : (R : Unit {0} → Language D) (t : Token) (ts : List Token) (d : D) → Worded R (t ∷ ts) d → (t ≡ wanted) × R tt ts d
  token_down R t ts d h = let e = h.spelled in let et : t ≡ wanted = cc in let er : ts ≡ h.rest = cc in (et, rw er h.goes)

  token_end : (R : Unit {0} → Language D) (d : D) → Worded R [] d → ⊥
  token_end R d h = let e = h.spelled in absurd cc

  token_alive : (R : Unit {0} → Language D) → Begins (R tt) [] → Begins (Worded R) []
  token_alive R b = (wanted ∷ b.0, b.1, record { form = tt; rest = b.0; spelled = refl; fits = tt; goes = b.2 }, (real, b.3))

  token_at : (n : ℕ) (k : Unit {0} → List Token → Result D Stop) (R F : Unit {0} → Language D) → Onward n never k R F → (t : Token) (ts : List Token) (b : Bool) → same t wanted ≡ b → length ts ≤ n → Judged (Worded R) (Worded F) (t ∷ ts) (follow (if b then Ok (tt, ts) else Err (unexpected, suc (length ts))) k)
  token_at n k R F onward t ts true e short =
      let is : t ≡ wanted = same-is t wanted e in
      judged_behind (Worded R) (Worded F) (R tt) (F tt) t
      (λ us d h. (token_down R t us d h).1)
      (λ us d h. record { form = tt; rest = us; spelled = ap (λ (x : Token). x ∷ us) is; fits = tt; goes = h })
      (λ us d h. (token_down F t us d h).1)
      (λ us d h. record { form = tt; rest = us; spelled = ap (λ (x : Token). x ∷ us) is; fits = tt; goes = h })
      ts (k tt ts) (onward.exact tt ts short)
  token_at n k R F onward t ts false e short =
      judged_stuck (Worded R) (Worded F) (R tt) (F tt) t (token_alive R (Exact-alive n (k tt) (R tt) (F tt) (onward.exact tt))) (λ us d h. differs (token_down R t us d h).0) (λ us d h. differs (token_down F t us d h).0) ts
    where
      differs : t ≡ wanted → ⊥
      differs is = let P : Token → Type 0 = λ x. same x wanted ≡ false in let other = subst P is e in absurd cc

  pub token_rule : RuleExact D true never (spell_token wanted) (λ u. u) Any (expect wanted)
  token_rule n k R F onward [] short = judged_ended (Worded R) (Worded F) (token_alive R (Exact-alive n (k tt) (R tt) (F tt) (onward.exact tt))) (token_end R)
  token_rule n k R F onward (t ∷ ts) short = token_at n k R F onward t ts (same t wanted) refl (omega (arith, short))

-- ---- one rule after another

-- the second rule, whose value is made with that of the first
module _ (D : Type 0) {I J X Y Z : Type 0} (spell_a : I → List Token → List Token) (spell_b : J → List Token → List Token) (value_a : I → X) (value_b : J → Y) (ok_a : I → Type 0) (ok_b : J → Type 0) (made : X → Y → Z) where
  abbrev pub spell_both : I × J → List Token → List Token
  spell_both p rest = spell_a p.0 (spell_b p.1 rest)

  abbrev pub value_both : I × J → Z
  value_both p = made (value_a p.0) (value_b p.1)

  abbrev pub both_fit : I × J → Type 0
  both_fit p = ok_a p.0 × ok_b p.1

  abbrev Nested : (I → Type 0) → (J → Type 0) → (Z → Language D) → Language D
  Nested fit_a fit_b R = FormThen spell_a value_a fit_a (λ x. FormThen spell_b value_b fit_b (λ y. R (made x y)))

  both_down : (fit : I × J → Type 0) (fit_a : I → Type 0) (fit_b : J → Type 0) → ((p : I × J) → fit p → fit_a p.0 × fit_b p.1) → (R : Z → Language D) (ts : List Token) (d : D) → FormThen spell_both value_both fit R ts d → Nested fit_a fit_b R ts d
  both_down fit fit_a fit_b split R ts d h =
      record { form = h.form.0; rest = spell_b h.form.1 h.rest; spelled = h.spelled; fits = (split h.form h.fits).0; goes = record { form = h.form.1; rest = h.rest; spelled = refl; fits = (split h.form h.fits).1; goes = h.goes } }

  both_up : (fit : I × J → Type 0) (fit_a : I → Type 0) (fit_b : J → Type 0) → ((p : I × J) → fit_a p.0 → fit_b p.1 → fit p) → (R : Z → Language D) (ts : List Token) (d : D) → Nested fit_a fit_b R ts d → FormThen spell_both value_both fit R ts d
  both_up fit fit_a fit_b join R ts d h =
      record { form = (h.form, h.goes.form); rest = h.goes.rest; spelled = h.spelled ∙ ap (λ (x : List Token). spell_a h.form x) h.goes.spelled; fits = join (h.form, h.goes.form) h.fits h.goes.fits; goes = h.goes.goes }

  pub seq_rule : (takes_a takes_b : Bool) (stops_a stops_b : Token → Bool) (parse_a : Parser X) (parse_b : Parser Y) → RuleExact D takes_a stops_a spell_a value_a ok_a parse_a → RuleExact D takes_b stops_b spell_b value_b ok_b parse_b → Guards D stops_a stops_b spell_b value_b → (some : J) → SpellsReal spell_b some → RuleExact D takes_a stops_b spell_both value_both both_fit (both made parse_a parse_b)
  seq_rule takes_a takes_b stops_a stops_b parse_a parse_b rule_a rule_b guards some real n k R F onward ts short =
      judged_same (FormThen spell_both value_both both_fit R) (FormThen spell_both value_both Any F) (Nested ok_a ok_b R) (Nested Any Any F)
      (both_down both_fit ok_a ok_b (λ p fits. fits) R) (both_up both_fit ok_a ok_b (λ p f g. (f, g)) R) (both_down Any Any Any (λ p fits. (tt, tt)) F) (both_up Any Any Any (λ p f g. tt) F)
      ts (follow (follow (parse_a ts) (λ x. parse_b >>= λ y. pure (made x y))) k)
      (judged_in_row (Nested ok_a ok_b R) (Nested Any Any F) ts (parse_a ts) (λ x. parse_b >>= λ y. pure (made x y)) k
      (rule_a n (λ x us. follow ((parse_b >>= λ y. pure (made x y)) us) k) (λ x. FormThen spell_b value_b ok_b (λ y. R (made x y))) (λ x. FormThen spell_b value_b Any (λ y. F (made x y)))
      (record {
        exact = λ x us few. judged_in_row (FormThen spell_b value_b ok_b (λ y. R (made x y))) (FormThen spell_b value_b Any (λ y. F (made x y))) us (parse_b us) (λ y. pure (made x y)) k
            (rule_b n (λ y vs. k (made x y) vs) (λ y. R (made x y)) (λ y. F (made x y))
            (record { exact = λ y. onward.exact (made x y); lives = λ y. onward.lives (made x y); refuses = λ y. onward.refuses (made x y); refuses_free = λ y. onward.refuses_free (made x y) })
            us (longer takes_b n (length us) few));
        lives = λ x. form_lives spell_b value_b some real (λ y. F (made x y)) (λ y. onward.lives (made x y));
        refuses = λ x. guards ok_b (λ y. R (made x y)) (λ y. onward.refuses (made x y));
        refuses_free = λ x. guards Any (λ y. F (made x y)) (λ y. onward.refuses_free (made x y));
      })
      ts short))
    where
      longer : (takes : Bool) (n m : ℕ) → m ≤ n → m ≤ more takes n
      longer false n m le = le
      longer true n m le = omega (arith, le)

pub guards_both : (D : Type 0) {I J X Y Z : Type 0} (bars between stops : Token → Bool) (spell_a : I → List Token → List Token) (spell_b : J → List Token → List Token) (value_a : I → X) (value_b : J → Y) (made : X → Y → Z) → Guards D bars between spell_a value_a → Guards D between stops spell_b value_b → Guards D bars stops (λ (p : I × J) rest. spell_a p.0 (spell_b p.1 rest)) (λ (p : I × J). made (value_a p.0) (value_b p.1))
guards_both D bars between stops spell_a spell_b value_a value_b made first second ok R refuses t ts d is h =
    first Any (λ x. FormThen spell_b value_b Any (λ y. R (made x y))) (λ x. second Any (λ y. R (made x y)) (λ y. refuses (made x y))) t ts d is
    (record { form = h.form.0; rest = spell_b h.form.1 h.rest; spelled = h.spelled; fits = tt; goes = record { form = h.form.1; rest = h.rest; spelled = refl; fits = tt; goes = h.goes } })

-- ---- other forms and values for a rule

module _ (D : Type 0) {I J X : Type 0} (spell : I → List Token → List Token) (value : I → X) (ok : I → Type 0) (spell_new : J → List Token → List Token) (value_new : J → X) (ok_new : J → Type 0) (to : J → I) (from : I → J) (same_text : (j : J) (rest : List Token) → spell_new j rest ≡ spell (to j) rest) (same_value : (j : J) → value_new j ≡ value (to j)) (back : (i : I) → to (from i) ≡ i) (fit_to : (j : J) → ok_new j → ok (to j)) (fit_from : (j : J) → ok (to j) → ok_new j) where
  pub renamed_down : (fit_new : J → Type 0) (fit : I → Type 0) → ((j : J) → fit_new j → fit (to j)) → (R : X → Language D) (ts : List Token) (d : D) → FormThen spell_new value_new fit_new R ts d → FormThen spell value fit R ts d
  renamed_down fit_new fit goes R ts d h =
      let P : X → Type 0 = λ x. R x h.rest d in
      record { form = to h.form; rest = h.rest; spelled = h.spelled ∙ same_text h.form h.rest; fits = goes h.form h.fits; goes = subst P (same_value h.form) h.goes }

  renamed_up_at : (fit_new : J → Type 0) (fit : I → Type 0) → ((j : J) → fit (to j) → fit_new j) → (R : X → Language D) (ts : List Token) (d : D) (j : J) (rest : List Token) → ts ≡ spell (to j) rest → fit (to j) → R (value (to j)) rest d → FormThen spell_new value_new fit_new R ts d
  renamed_up_at fit_new fit comes R ts d j rest e fits h =
      let P : X → Type 0 = λ x. R x rest d in
      record { form = j; rest = rest; spelled = e ∙ sym (same_text j rest); fits = comes j fits; goes = subst P (sym (same_value j)) h }

  renamed_up : (fit_new : J → Type 0) (fit : I → Type 0) → ((j : J) → fit (to j) → fit_new j) → (R : X → Language D) (ts : List Token) (d : D) → FormThen spell value fit R ts d → FormThen spell_new value_new fit_new R ts d
  renamed_up fit_new fit comes R ts d h =
      let P : I → Type 0 = λ i. (ts ≡ spell i h.rest) × fit i × R (value i) h.rest d in
      let q = subst P (sym (back h.form)) (h.spelled, h.fits, h.goes) in
      renamed_up_at fit_new fit comes R ts d (from h.form) h.rest q.0 q.1 q.2

  pub renamed_rule : (takes : Bool) (stops : Token → Bool) (parse : Parser X) → RuleExact D takes stops spell value ok parse → RuleExact D takes stops spell_new value_new ok_new parse
  renamed_rule takes stops parse rule n k R F onward ts short =
      judged_same (FormThen spell_new value_new ok_new R) (FormThen spell_new value_new Any F) (FormThen spell value ok R) (FormThen spell value Any F)
      (renamed_down ok_new ok fit_to R) (renamed_up ok_new ok fit_from R) (renamed_down Any Any (λ j f. tt) F) (renamed_up Any Any (λ j f. tt) F)
      ts (follow (parse ts) k) (rule n k R F onward ts short)

-- ---- a list of items

module _ (D : Type 0) {I X : Type 0} (these stops : Token → Bool) (spell : I → List Token → List Token) (value : I → X) (begins : Starts these spell) where
  abbrev Listed : (List I → Type 0) → (List X → Language D) → Language D
  Listed ok R = FormThen (spell_many spell) (λ (is : List I). map value is) ok R

  listed_down : (ok : I → Type 0) (R : List X → Language D) (ts : List Token) (d : D) → Listed (AllFit ok) R ts d → ManyThen these stops spell value begins [] ok R ts d
  listed_down ok R ts d h = record { form = h.form; rest = h.rest; spelled = h.spelled; fits = h.fits; goes = h.goes }

  listed_up : (ok : I → Type 0) (R : List X → Language D) (ts : List Token) (d : D) → ManyThen these stops spell value begins [] ok R ts d → Listed (AllFit ok) R ts d
  listed_up ok R ts d h = record { form = h.form; rest = h.rest; spelled = h.spelled; fits = h.fits; goes = h.goes }

  all_any : (is : List I) → AllFit Any is
  all_any [] = tt
  all_any (i ∷ is) = (tt, all_any is)

  free_down : (R : List X → Language D) (ts : List Token) (d : D) → Listed Any R ts d → ManyThen these stops spell value begins [] Any R ts d
  free_down R ts d h = record { form = h.form; rest = h.rest; spelled = h.spelled; fits = all_any h.form; goes = h.goes }

  free_up : (R : List X → Language D) (ts : List Token) (d : D) → ManyThen these stops spell value begins [] Any R ts d → Listed Any R ts d
  free_up R ts d h = record { form = h.form; rest = h.rest; spelled = h.spelled; fits = tt; goes = h.goes }

  pub many_rule : (ok : I → Type 0) (item : Parser X) → RuleExact D true stops spell value ok item → (bars : Token → Bool) → ((t : Token) → stops t ≡ true → these t ≡ false) → ((t : Token) → these t ≡ true → bars t ≡ true) → ((t : Token) → stops t ≡ true → bars t ≡ true) → RuleExact D false bars (spell_many spell) (λ (is : List I). map value is) (AllFit ok) (λ ts. many_by these item (length ts) [] ts)
  many_rule ok item rule bars apart bars_these bars_stops n k R F onward ts short =
      judged_same (Listed (AllFit ok) R) (Listed Any F) (ManyThen these stops spell value begins [] ok R) (ManyThen these stops spell value begins [] Any F)
      (listed_down ok R) (listed_up ok R) (free_down F) (free_up F) ts (follow (many_by these item (length ts) [] ts) k)
      (many_exact these stops spell value begins ok item rule apart k R F (length ts)
      (record {
        exact = λ x us few. onward.exact x us (omega (arith, few, short));
        lives = onward.lives;
        refuses = λ x t us d is h. onward.refuses x t us d (bars_stops t is) h;
        refuses_free = λ x t us d is h. onward.refuses_free x t us d (bars_stops t is) h;
      })
      (λ x t us d is h. onward.refuses x t us d (bars_these t is) h) (λ x t us d is h. onward.refuses_free x t us d (bars_these t is) h) [] ts (omega arith))

  -- before a list stands what neither an item nor what follows begins with
  pub guards_many : (bars inner : Token → Bool) → ((t : Token) → inner t ≡ true → these t ≡ false) → ((t : Token) → inner t ≡ true → bars t ≡ true) → Guards D inner bars (spell_many spell) (λ (is : List I). map value is)
  guards_many bars inner apart within ok R refuses t ts d is h =
      many_refuses these stops spell value begins [] Any R inner apart (λ u us e i r. refuses [] u us e (within u i) r) t ts d is (record { form = h.form; rest = h.rest; spelled = h.spelled; fits = all_any h.form; goes = h.goes })
