-- Texts one after another.
use Rattle.std.proofs.Common.{◌≡◌, ℕ, ℤ, ◌+◌, List, [], ◌∷◌, ◌++◌, length, Option, ◌⊎◌, inl, inr, append_assoc, refl, ap, sym, ◌∙◌, add-zero, arith}
use Rattle.std.proofs.lemmas.List.{append-nil}
use Rattle.pl_model.specs.declared.parameters.Param.{Param}
use Rattle.pl_model.specs.declared.whole.Model.{Model}
use Rattle.pl_entry.specs.declared.entry.Entry.{Entry}
use Rattle.pl_journal.specs.Rendering.Words.{spaced}
use Rattle.pl_journal.specs.Rendering.Lines.{values_words, line_of, text_from}

pub spaced-append : (xs ys : List (List ℕ)) → spaced (xs ++ ys) ≡ spaced xs ++ spaced ys
unfolding spaced
spaced-append [] ys = refl
spaced-append (x ∷ xs) ys =
    ap (λ (t : List ℕ). 32 ∷ (x ++ t)) (spaced-append xs ys) ∙ ap (λ (t : List ℕ). 32 ∷ t) (sym (append_assoc x (spaced xs) (spaced ys)))

-- words behind words
pub words_joined : (out : List ℕ) (xs ys : List (List ℕ)) → out ++ spaced xs ++ spaced ys ≡ out ++ spaced (xs ++ ys)
words_joined out xs ys = append_assoc out (spaced xs) (spaced ys) ∙ ap (λ (t : List ℕ). out ++ t) (sym (spaced-append xs ys))

-- a blank and a word
pub word_joined : (out word : List ℕ) → out ++ 32 ∷ [] ++ word ≡ out ++ spaced (word ∷ [])
unfolding spaced
word_joined out word = append_assoc out (32 ∷ []) word ∙ ap (λ (t : List ℕ). out ++ 32 ∷ t) (sym (append-nil word))

-- a name, the sign of equality and a value in one word
pub value_joined : (out name value : List ℕ) → out ++ spaced (name ∷ []) ++ 61 ∷ [] ++ value ≡ out ++ spaced ((name ++ 61 ∷ value) ∷ [])
unfolding spaced
value_joined out name value = simp (append_assoc, append-nil)

-- the text of a log is that of its front, and then that of the rest, numbered on
pub text_joined : (m : Model) (n : ℕ) (xs ys : List Entry) → text_from m n (xs ++ ys) ≡ text_from m n xs ++ text_from m (n + length xs) ys
text_joined m n [] ys = ap (λ k. text_from m k ys) (sym (add-zero n))
text_joined m n (x ∷ xs) ys =
    let count : n + 1 + length xs ≡ n + length (x ∷ xs) = omega arith in
    ap (λ (t : List ℕ). line_of m n x ++ t) (text_joined m (n + 1) xs ys ∙ ap (λ k. text_from m (n + 1) xs ++ text_from m k ys) count)
    ∙ sym (append_assoc (line_of m n x) (text_from m (n + 1) xs) (text_from m (n + length (x ∷ xs)) ys))

-- where no parameter or no value is left, nothing is left to write
pub none_ahead : (ps : List Param) (vs : List (Option ℤ)) → (ps ≡ []) ⊎ (vs ≡ []) → values_words ps vs ≡ []
none_ahead [] vs h = refl
none_ahead (p ∷ ps) [] h = refl
none_ahead (p ∷ ps) (v ∷ vs) h = elim h [ inl e ↦ cc | inr e ↦ cc ]
