-- `{ x }`: a loop that goes on while the next token begins an item is exact, where an item is.
use Rattle.std.proofs.Common.{◌≡◌, ℕ, zero, suc, ◌≤◌, Bool, true, false, if◌then◌else◌, List, [], ◌∷◌, ◌++◌, length, map, Result, Ok, refl, sym, ap, subst, ◌∙◌, append_assoc, arith}
use Rattle.std.proofs.lemmas.List.{append-nil}
use Rattle.pl_syntax.specs.declared.token.Token.{Token}
use Rattle.pl_syntax.specs.Spelling.{spell_many, AllFit}
use Rattle.pl_syntax.specs.Faults.{Stop, Language, Begins, Judged}
use Rattle.pl_syntax.specs.Parsing.{Parser, follow, ◌>>=◌, many_by}
use Rattle.pl_syntax.proofs.Judging.{judged_here, judged_end}
use Rattle.pl_syntax.proofs.Steps.{Exact, Exact-less, judged_in_row}

abbrev pub Any : {X : Type 0} → X → Type 0
Any x = Unit {0}

-- no text of R begins with such a token
abbrev pub Refuses : {D : Type 0} → (Token → Bool) → Language D → Type 0
Refuses {D} these R = (t : Token) (ts : List Token) (d : D) → these t ≡ true → R (t ∷ ts) d → ⊥

-- a form, and then R of its value
pub record FormThen {I X D : Type 0} (spell : I → List Token → List Token) (value : I → X) (ok : I → Type 0) (R : X → Language D) (ts : List Token) (d : D) : Type 0 where
  pub form : I
  pub rest : List Token
  pub spelled : ts ≡ spell form rest
  pub fits : ok form
  pub goes : R (value form) rest d

-- what follows a value
pub record Onward {X D : Type 0} (n : ℕ) (stops : Token → Bool) (k : X → List Token → Result D Stop) (R F : X → Language D) : Type 0 where
  pub exact : (x : X) → Exact n (k x) (R x) (F x)
  pub lives : (x : X) → Begins (F x) []
  pub refuses : (x : X) → Refuses stops (R x)
  pub refuses_free : (x : X) → Refuses stops (F x)

pub Onward-less : {X D : Type 0} (m n : ℕ) (stops : Token → Bool) (k : X → List Token → Result D Stop) (R F : X → Language D) → m ≤ n → Onward n stops k R F → Onward m stops k R F
Onward-less m n stops k R F le o = record { exact = λ x. Exact-less m n (k x) (R x) (F x) le (o.exact x); lives = o.lives; refuses = o.refuses; refuses_free = o.refuses_free }

abbrev pub more : Bool → ℕ → ℕ
more false n = n
more true n = suc n

-- A rule: its parser is exact, whatever follows, but for the tokens that must not follow. If it takes a token, then what follows is shorter.
abbrev pub RuleExact : (D : Type 0) → {I X : Type 0} → Bool → (Token → Bool) → (I → List Token → List Token) → (I → X) → (I → Type 0) → Parser X → Type 1
RuleExact D {I} {X} takes stops spell value ok parse = (n : ℕ) (k : X → List Token → Result D Stop) (R F : X → Language D) → Onward n stops k R F → Exact (more takes n) (λ ts. follow (parse ts) k) (FormThen spell value ok R) (FormThen spell value Any F)

-- what a form begins with
pub record Starts {I : Type 0} (these : Token → Bool) (spell : I → List Token → List Token) : Type 0 where
  pub some : (form : I) (rest : List Token) → [] ≡ spell form rest → ⊥
  pub first : (form : I) (rest : List Token) (t : Token) (ts : List Token) → t ∷ ts ≡ spell form rest → these t ≡ true

moved : {X : Type 0} (found : List X) (x : X) (xs : List X) → (found ++ x ∷ []) ++ xs ≡ found ++ x ∷ xs
moved found x xs = append_assoc found (x ∷ []) xs

module _ {I X D : Type 0} (these stops : Token → Bool) (spell : I → List Token → List Token) (value : I → X) (begins : Starts these spell) where
  pub record ManyThen (found : List X) (ok : I → Type 0) (R : List X → Language D) (ts : List Token) (d : D) : Type 0 where
    pub form : List I
    pub rest : List Token
    pub spelled : ts ≡ spell_many spell form rest
    pub fits : AllFit ok form
    pub goes : R (found ++ map value form) rest d

  abbrev OneThen : List X → (I → Type 0) → (List X → Language D) → Language D
  OneThen found ok R = FormThen spell value ok (λ x. ManyThen (found ++ x ∷ []) ok R)

  one_down_at : (found : List X) (ok : I → Type 0) (R : List X → Language D) (t : Token) → these t ≡ true → ((xs : List X) → Refuses these (R xs)) → (ts : List Token) (d : D) (form : List I) (rest : List Token) → t ∷ ts ≡ spell_many spell form rest → AllFit ok form → R (found ++ map value form) rest d → OneThen found ok R (t ∷ ts) d
  one_down_at found ok R t is refuses ts d [] rest e fits h = absurd (refuses (found ++ []) t ts d is (rw e h))
  one_down_at found ok R t is refuses ts d (i ∷ form) rest e fits h =
      let P : List X → Type 0 = λ l. R l rest d in
      record { form = i; rest = spell_many spell form rest; spelled = e; fits = fits.0; goes = record { form = form; rest = rest; spelled = refl; fits = fits.1; goes = subst P (sym (moved found (value i) (map value form))) h } }

  one_down : (found : List X) (ok : I → Type 0) (R : List X → Language D) (t : Token) → these t ≡ true → ((xs : List X) → Refuses these (R xs)) → (ts : List Token) (d : D) → ManyThen found ok R (t ∷ ts) d → OneThen found ok R (t ∷ ts) d
  one_down found ok R t is refuses ts d h = one_down_at found ok R t is refuses ts d h.form h.rest h.spelled h.fits h.goes

  one_up : (found : List X) (ok : I → Type 0) (R : List X → Language D) (ts : List Token) (d : D) → OneThen found ok R ts d → ManyThen found ok R ts d
  one_up found ok R ts d h =
      let P : List X → Type 0 = λ l. R l h.goes.rest d in
      record { form = h.form ∷ h.goes.form; rest = h.goes.rest; spelled = h.spelled ∙ ap (λ (x : List Token). spell h.form x) h.goes.spelled; fits = (h.fits, h.goes.fits); goes = subst P (moved found (value h.form) (map value h.goes.form)) h.goes.goes }

  none_down_at : (found : List X) (R : List X → Language D) (t : Token) → these t ≡ false → (ts : List Token) (d : D) (form : List I) (rest : List Token) → t ∷ ts ≡ spell_many spell form rest → R (found ++ map value form) rest d → R found (t ∷ ts) d
  none_down_at found R t is ts d [] rest e h = rw (e, ← append-nil found) h
  none_down_at found R t is ts d (i ∷ form) rest e h = let some = begins.first i (spell_many spell form rest) t ts e in absurd cc

  none_down : (found : List X) (ok : I → Type 0) (R : List X → Language D) (t : Token) → these t ≡ false → (ts : List Token) (d : D) → ManyThen found ok R (t ∷ ts) d → R found (t ∷ ts) d
  none_down found ok R t is ts d h = none_down_at found R t is ts d h.form h.rest h.spelled h.goes

  end_down_at : (found : List X) (R : List X → Language D) (d : D) (form : List I) (rest : List Token) → [] ≡ spell_many spell form rest → R (found ++ map value form) rest d → R found [] d
  end_down_at found R d [] rest e h = rw (e, ← append-nil found) h
  end_down_at found R d (i ∷ form) rest e h = absurd (begins.some i (spell_many spell form rest) e)

  end_down : (found : List X) (ok : I → Type 0) (R : List X → Language D) (d : D) → ManyThen found ok R [] d → R found [] d
  end_down found ok R d h = end_down_at found R d h.form h.rest h.spelled h.goes

  none_up : (found : List X) (ok : I → Type 0) (R : List X → Language D) (ts : List Token) (d : D) → R found ts d → ManyThen found ok R ts d
  none_up found ok R ts d h = record { form = []; rest = ts; spelled = refl; fits = tt; goes = rw append-nil h }

  -- what follows a list refuses what items refuse: so does the list
  pub many_refuses : (found : List X) (ok : I → Type 0) (R : List X → Language D) (bars : Token → Bool) → ((t : Token) → bars t ≡ true → these t ≡ false) → Refuses bars (R found) → Refuses bars (ManyThen found ok R)
  many_refuses found ok R bars apart refuses t ts d is h = refuses t ts d is (none_down found ok R t (apart t is) ts d h)

  pub many_lives : (R : List X → Language D) → ((xs : List X) → Begins (R xs) []) → (found : List X) → Begins (ManyThen found Any R) []
  many_lives R lives found = let b = lives found in (b.0, b.1, none_up found Any R b.0 b.1 b.2, b.3)

  module _ (ok : I → Type 0) (item : Parser X) (rule : RuleExact D true stops spell value ok item) (apart : (t : Token) → stops t ≡ true → these t ≡ false) (k : List X → List Token → Result D Stop) (R F : List X → Language D) where
    next_step : (m : ℕ) → Onward (suc m) stops k R F → ((xs : List X) → Refuses these (R xs)) → ((xs : List X) → Refuses these (F xs)) → (found : List X) → ((xs : List X) → Exact m (λ ts. follow (many_by these item m xs ts) k) (ManyThen xs ok R) (ManyThen xs Any F)) → (t : Token) (ts : List Token) → length ts ≤ m → (b : Bool) → these t ≡ b → Judged (ManyThen found ok R) (ManyThen found Any F) (t ∷ ts) (follow (if b then (item >>= λ x. many_by these item m (found ++ x ∷ [])) (t ∷ ts) else Ok (found, t ∷ ts)) k)
    next_step m onward refuses refuses_free found turns t ts short true is =
        judged_here (ManyThen found ok R) (ManyThen found Any F) (OneThen found ok R) (OneThen found Any F) t
        (one_down found ok R t is refuses) (one_up found ok R) (one_down found Any F t is refuses_free) (one_up found Any F)
        ts (follow ((item >>= λ x. many_by these item m (found ++ x ∷ [])) (t ∷ ts)) k)
        (judged_in_row (OneThen found ok R) (OneThen found Any F) (t ∷ ts) (item (t ∷ ts)) (λ x. many_by these item m (found ++ x ∷ [])) k
        (rule m (λ x us. follow (many_by these item m (found ++ x ∷ []) us) k) (λ x. ManyThen (found ++ x ∷ []) ok R) (λ x. ManyThen (found ++ x ∷ []) Any F)
        (record {
          exact = λ x. turns (found ++ x ∷ []);
          lives = λ x. many_lives F onward.lives (found ++ x ∷ []);
          refuses = λ x. many_refuses (found ++ x ∷ []) ok R stops apart (onward.refuses (found ++ x ∷ []));
          refuses_free = λ x. many_refuses (found ++ x ∷ []) Any F stops apart (onward.refuses_free (found ++ x ∷ []));
        })
        (t ∷ ts) (omega (arith, short))))
    next_step m onward refuses refuses_free found turns t ts short false is =
        judged_here (ManyThen found ok R) (ManyThen found Any F) (R found) (F found) t
        (none_down found ok R t is) (none_up found ok R) (none_down found Any F t is) (none_up found Any F)
        ts (k found (t ∷ ts)) (onward.exact found (t ∷ ts) (omega (arith, short)))

    pub many_exact : (m : ℕ) → Onward m stops k R F → ((xs : List X) → Refuses these (R xs)) → ((xs : List X) → Refuses these (F xs)) → (found : List X) → Exact m (λ ts. follow (many_by these item m found ts) k) (ManyThen found ok R) (ManyThen found Any F)
    unfolding many_by
    many_exact zero onward refuses refuses_free found [] short =
        judged_end (ManyThen found ok R) (ManyThen found Any F) (R found) (F found) (end_down found ok R) (none_up found ok R) (k found []) (onward.exact found [] short)
    many_exact zero onward refuses refuses_free found (t ∷ ts) short = absurd (omega (arith, short))
    many_exact (suc m) onward refuses refuses_free found [] short =
        judged_end (ManyThen found ok R) (ManyThen found Any F) (R found) (F found) (end_down found ok R) (none_up found ok R) (k found []) (onward.exact found [] short)
    many_exact (suc m) onward refuses refuses_free found (t ∷ ts) short =
        next_step m onward refuses refuses_free found (λ xs. many_exact m (Onward-less m (suc m) stops k R F (omega arith) onward) refuses refuses_free xs) t ts (omega (arith, short)) (these t) refl
