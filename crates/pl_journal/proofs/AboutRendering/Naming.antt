-- What a name's bytes are, and a checked model's names.
use Rattle.std.proofs.Common.{◌≡◌, ◌≢◌, ℕ, zero, suc, ◌+◌, ◌<◌, ◌≤◌, Bool, true, false, ◌&&◌, ◌||◌, ◌==◌, ltb, leb, List, [], ◌∷◌, ◌++◌, map, length, get_or, ◌⊎◌, inl, inr, refl, ap, sym, ◌∙◌, arith}
use Rattle.std.specs.Prelude.{slice_get, Option, Some, None, is_none}
use Rattle.std.specs.Option.{option_map_or}
use Rattle.std.specs.List.{list_all, AllByRecursion, AllPairs}
use Rattle.std.proofs.lemmas.Bool.{and_parts, or_cases, eqb-true, ltb-true, leb-true, lt-ltb, ne_eqb}
use Rattle.std.proofs.lemmas.List.{length-append, get_or-append-add}
use Rattle.std.proofs.lemmas.List.Elements.{recursion_from_All}
use Rattle.pl_text.specs.declared.class.Class.{Class}
use Rattle.pl_text.specs.declared.class.Class.TheVariants as class
use Rattle.pl_text.specs.Bytes.{is_blank, is_letter, is_digit, is_symbol, class_by, class_of, is_word_class, is_name_byte}
use Rattle.pl_text.specs.Words.{word_of, is_letter_class, is_word}
use Rattle.pl_model.specs.declared.parameters.Param.{Param}
use Rattle.pl_model.specs.declared.kinds.Kind.{Kind}
use Rattle.pl_model.specs.declared.whole.Model.{Model}
use Rattle.pl_model.specs.Names.{IsName, line_name, kind_name as name_of_kind, HasDistinctNames}
use Rattle.pl_model.specs.Written.{IsWritten, IsNamedParam}
use Rattle.pl_model.specs.Checked.{IsChecked}
use Rattle.pl_journal.specs.Rendering.Lines.{kind_name, kind_params}
use Rattle.pl_journal.proofs.AboutRendering.Cutting.{lacks}
use Rattle.pl_journal.proofs.AboutRendering.Plain.{plain}
use Rattle.pl_journal.proofs.AboutRendering.Lengths.{AreShort}
use Rattle.pl_journal.proofs.AboutRendering.Told.{Differ, IsPlainName, AreTold, kind_names, param_names}

-- ---- bytes

word_class : (blank hash letter digit symbol : Bool) → is_word_class (class_by blank hash letter digit symbol) ≡ true → (letter ≡ true) ⊎ (digit ≡ true)
word_class true hash letter digit symbol h = absurd cc
word_class false true letter digit symbol h = absurd cc
word_class false false true digit symbol h = inl refl
word_class false false false true symbol h = inr refl
word_class false false false false true h = absurd cc
word_class false false false false false h = absurd cc

letter_past : (b : ℕ) → is_letter b ≡ true → 32 < b
letter_past b h =
    elim (or_cases (leb 97 b && leb b 122) (leb 65 b && leb b 90) h) [
      | inl e ↦ (let low = leb-true 97 b (and_parts (leb 97 b) (leb b 122) e).0 in omega (arith, low))
      | inr e ↦ (let low = leb-true 65 b (and_parts (leb 65 b) (leb b 90) e).0 in omega (arith, low))
    ]

digit_past : (b : ℕ) → is_digit b ≡ true → 32 < b
digit_past b h = let low = leb-true 48 b (and_parts (leb 48 b) (leb b 57) h).0 in omega (arith, low)

class_past : (b : ℕ) → is_word_class (class_of b) ≡ true → 32 < b
unfolding class_of
class_past b h =
    elim (word_class (is_blank b) (b == 35) (is_letter b) (is_digit b) (is_symbol b) h)
    [ inl e ↦ letter_past b e | inr e ↦ digit_past b e ]

byte_past : (b : ℕ) → is_name_byte b ≡ true → 32 < b
byte_past b h =
    elim (or_cases (b == 95) (is_word_class (class_of b)) h)
    [ inl e ↦ (let is = eqb-true b 95 e in omega (arith, is)) | inr e ↦ class_past b e ]

sign_is_none : is_name_byte 61 ≡ false
unfolding class_of
sign_is_none = refl

byte_no_sign : (b : ℕ) → is_name_byte b ≡ true → b ≡ 61 → ⊥
byte_no_sign b h e =
    let wrong : is_name_byte 61 ≡ true = ap is_name_byte (sym e) ∙ h in
    let never = sign_is_none in
    absurd cc

letter_class : (c : Class) → is_letter_class c ≡ true → is_word_class c ≡ true
letter_class class.Letter h = refl
letter_class class.Blank h = absurd cc
letter_class class.Comment h = absurd cc
letter_class class.Digit h = absurd cc
letter_class class.Symbol h = absurd cc
letter_class class.Bad h = absurd cc

-- ---- names

pub record IsPlainWord (w : List ℕ) : Type 0 where
  pub is_plain : plain w ≡ true
  pub no_sign : lacks 61 w ≡ true
  pub short : length w ≤ 32

bytes_plain : (bs : List ℕ) → list_all is_name_byte bs ≡ true → (plain bs ≡ true) × (lacks 61 bs ≡ true)
bytes_plain [] h = (refl, refl)
bytes_plain (b ∷ bs) h =
    let p = and_parts (is_name_byte b) (list_all is_name_byte bs) h in
    let more = bytes_plain bs p.1 in
    (rw (lt-ltb 32 b (byte_past b p.0)) more.0, rw (ne_eqb b 61 (byte_no_sign b p.0)) more.1)

first_byte : (t : Bool) (c : Class) → is_letter_class c ≡ true → (t || is_word_class c) ≡ true
first_byte true c h = refl
first_byte false c h = letter_class c h

word_plain : (w : List ℕ) → is_word w ≡ true → IsPlainWord w
word_plain [] h = absurd cc
word_plain (b ∷ bs) h =
    let p = and_parts (is_letter_class (class_of b)) (ltb (length bs) 32 && list_all is_name_byte bs) h in
    let q = and_parts (ltb (length bs) 32) (list_all is_name_byte bs) p.1 in
    let all : list_all is_name_byte (b ∷ bs) ≡ true = rw (first_byte (b == 95) (class_of b) p.0) q.1 in
    let plain_bytes = bytes_plain (b ∷ bs) all in
    let few = ltb-true (length bs) 32 q.0 in
    record { is_plain = plain_bytes.0; no_sign = plain_bytes.1; short = omega (arith, few) }

pub name_plain : (w : List ℕ) → IsName w → IsPlainWord w
name_plain w h = word_plain w (and_parts (is_word w) (is_none (word_of w)) h).0

-- ---- of a checked model

behind_differ : (xs ys : List (List ℕ)) → AllPairs (λ x y. x ≢ y) (xs ++ ys) → Differ ys
behind_differ xs ys d i j e lt within =
    rw (get_or-append-add xs ys i e, get_or-append-add xs ys j e) at (d (length xs + i) (length xs + j) e (omega arith) (omega (arith, length-append xs ys)))

kinds_differ : (m : Model) → IsChecked m → Differ (kind_names m)
unfolding HasDistinctNames
kinds_differ m h = behind_differ (map line_name m.timelines) (map name_of_kind m.kinds) h.names.items

-- what holds of each kind's name and parameters holds of those of any number
pub at_kind : (P : Option Kind → Type 0) (ks : List Kind) → P None → ((i : ℕ) (d : Kind) → i < length ks → P (Some (get_or ks i d))) → (kind : ℕ) → P (slice_get ks kind)
at_kind P [] none some kind = none
at_kind P (k ∷ ks) none some zero = some 0 k (omega arith)
at_kind P (k ∷ ks) none some (suc kind) = at_kind P ks none (λ i d lt. some (suc i) d (omega arith)) kind

no_pairs : Differ []
no_pairs i j d lt within = absurd (omega arith)

pub kind_word : (m : Model) → IsChecked m → (kind : ℕ) → IsPlainWord (kind_name m kind)
unfolding IsWritten
kind_word m h kind =
    at_kind (λ k. IsPlainWord (option_map_or (λ k. k.name) k [])) m.kinds (record { is_plain = refl; no_sign = refl; short = omega arith })
    (λ i d lt. name_plain (get_or m.kinds i d).name (h.written.kinds i d lt).name) kind

params_differ : (m : Model) → IsChecked m → (kind : ℕ) → Differ (param_names (kind_params m kind))
unfolding HasDistinctNames
params_differ m h kind =
    at_kind (λ k. Differ (param_names (option_map_or (λ k. k.params) k []))) m.kinds no_pairs
    (λ i d lt. (h.names.kinds i d lt).params) kind

named_words : (ps : List Param) → AllByRecursion IsNamedParam ps → AllByRecursion (λ p. IsPlainWord p.name) ps
named_words [] h = tt
named_words (p ∷ ps) h = (name_plain p.name h.0, named_words ps h.1)

pub param_words : (m : Model) → IsChecked m → (kind : ℕ) → AllByRecursion (λ p. IsPlainWord p.name) (kind_params m kind)
unfolding IsWritten
param_words m h kind =
    at_kind (λ k. AllByRecursion (λ p. IsPlainWord p.name) (option_map_or (λ k. k.params) k [])) m.kinds tt
    (λ i d lt. named_words (get_or m.kinds i d).params (recursion_from_All IsNamedParam (get_or m.kinds i d).params (h.written.kinds i d lt).params)) kind

plain_words : (ps : List Param) → AllByRecursion (λ p. IsPlainWord p.name) ps → AllByRecursion IsPlainName ps
plain_words [] h = tt
plain_words (p ∷ ps) h = ((h.0.is_plain, h.0.no_sign), plain_words ps h.1)

pub few_params : (m : Model) → IsChecked m → (kind : ℕ) → length (kind_params m kind) ≤ 16
few_params m h kind =
    at_kind (λ k. length (option_map_or (λ k. k.params) k []) ≤ 16) m.kinds (omega arith)
    (λ i d lt. (h.kinds i d lt).few_params) kind

pub told_apart : (m : Model) → IsChecked m → AreTold m
told_apart m h =
    record { kinds = kinds_differ m h; kind_plain = λ kind. (kind_word m h kind).is_plain; params = params_differ m h; params_plain = λ kind. plain_words (kind_params m kind) (param_words m h kind) }

short_words : (ps : List Param) → AllByRecursion (λ p. IsPlainWord p.name) ps → AllByRecursion (λ p. length p.name ≤ 32) ps
short_words [] h = tt
short_words (p ∷ ps) h = (h.0.short, short_words ps h.1)

pub names_short : (m : Model) → IsChecked m → AreShort m
names_short m h =
    record { kinds = λ kind. (kind_word m h kind).short; few = few_params m h; params = λ kind. short_words (kind_params m kind) (param_words m h kind) }
