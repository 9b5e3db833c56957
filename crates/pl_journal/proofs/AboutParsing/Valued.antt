-- The values of a command read back.
use Rattle.std.proofs.Common.{◌≡◌, ◌≢◌, ℕ, ℤ, pos, ◌≤ℤ◌, true, List, [], ◌∷◌, length, Option, Some, None, Ok, Err, refl, sym, ap, ◌∙◌, arith}
use Rattle.std.specs.Prelude.{IfSome}
use Rattle.std.specs.List.{All, AllByRecursion}
use Rattle.std.specs.Fmt.{signed_decimal}
use Rattle.std.proofs.lemmas.List.Elements.{All-head, All-tail}
use Rattle.pl_lists.specs.Judgements.{◌>>=◌}
use Rattle.pl_model.specs.declared.parameters.Param.{Param}
use Rattle.pl_journal.specs.Rendering.Words.{spaced}
use Rattle.pl_journal.specs.Rendering.Lines.{value_word, values_words}
use Rattle.pl_journal.proofs.AboutRendering.Plain.{plain, plain-append, plain-signed}
use Rattle.pl_journal.proofs.AboutRendering.Told.{Differ, IsPlainName, param_names, first_differs, rest_differ}
use Rattle.pl_journal.specs.declared.parsing.fault.EntryFault.TheVariants as fault
use Rattle.pl_journal.specs.Parsing.Reads.{Read}
use Rattle.pl_journal.specs.Parsing.Replies.{value_of, given_or, value_at, values_in}
use Rattle.pl_journal.proofs.AboutParsing.Before.{before_at, rest_from_at}
use Rattle.pl_journal.proofs.AboutParsing.Telling.{text_itself, text_not, word_back, amount_back}

-- ---- NAME=VALUE

value_same : (p : Param) (v : ℤ) → IsPlainName p → (pos 0 ≤ℤ v) × (v ≤ℤ pos 1000000000) → value_of p.name (value_word p.name v) ≡ Ok v
unfolding value_of
value_same p v named range =
    rw (before_at 61 p.name (signed_decimal v) named.1, rest_from_at 61 p.name (signed_decimal v) named.1, text_itself p.name) (amount_back v range)

value_other : (p q : Param) (v : ℤ) → IsPlainName q → p.name ≢ q.name → value_of p.name (value_word q.name v) ≡ Err fault.NotALine
unfolding value_of
value_other p q v named apart =
    rw (before_at 61 q.name (signed_decimal v) named.1, text_not q.name p.name (λ same. apart (sym same))) refl

word_plain : (q : Param) (v : ℤ) → IsPlainName q → plain (value_word q.name v) ≡ true
word_plain q v named = plain-append q.name (61 ∷ signed_decimal v) named.0 (plain-signed v)

value_first : (p : Param) (v : ℤ) (ws : List (List ℕ)) → IsPlainName p → (pos 0 ≤ℤ v) × (v ≤ℤ pos 1000000000) → value_at p.name (spaced (value_word p.name v ∷ ws)) ≡ (Some v, spaced ws)
unfolding value_at
value_first p v ws named range =
    rw (word_back (value_word p.name v) ws (word_plain p v named), value_same p v named range) refl

value_none : (p q : Param) (v : ℤ) (ws : List (List ℕ)) → IsPlainName q → p.name ≢ q.name → value_at p.name (spaced (value_word q.name v ∷ ws)) ≡ (None, spaced (value_word q.name v ∷ ws))
unfolding value_at
value_none p q v ws named apart =
    ap (λ (r : Read (ℤ × List ℕ)). given_or (spaced (value_word q.name v ∷ ws)) r)
    (ap (λ (r : Read (List ℕ × List ℕ)). r >>= λ w. value_of p.name w.0 >>= λ value. Ok (value, w.1)) (word_back (value_word q.name v) ws (word_plain q v named))
    ∙ ap (λ (r : Read ℤ). r >>= λ value. Ok (value, spaced ws)) (value_other p q v named apart))

nothing_left : (name : List ℕ) → value_at name (spaced []) ≡ (None, spaced [])
unfolding value_at spaced
nothing_left name = refl

-- ---- place by place

-- the words of others say nothing of a parameter
others : (p : Param) (ps : List Param) (vs : List (Option ℤ)) → AllByRecursion (λ n. p.name ≢ n) (param_names ps) → AllByRecursion IsPlainName ps → value_at p.name (spaced (values_words ps vs)) ≡ (None, spaced (values_words ps vs))
others p [] vs d named = nothing_left p.name
others p (q ∷ qs) [] d named = nothing_left p.name
others p (q ∷ qs) (None ∷ vs) d named = others p qs vs d.1 named.1
others p (q ∷ qs) (Some v ∷ vs) d named = value_none p q v (values_words qs vs) named.0 d.0

abbrev IsAmountIf : Option ℤ → Type 0
IsAmountIf v = IfSome v (λ z. (pos 0 ≤ℤ z) × (z ≤ℤ pos 1000000000))

pub values_back : (ps : List Param) (vs : List (Option ℤ)) → length vs ≡ length ps → Differ (param_names ps) → AllByRecursion IsPlainName ps → All (λ v. IfSome v (λ z. (pos 0 ≤ℤ z) × (z ≤ℤ pos 1000000000))) vs → values_in ps (spaced (values_words ps vs)) ≡ vs
values_back [] [] l d named h = refl
values_back [] (v ∷ vs) l d named h = absurd (omega arith)
values_back (p ∷ ps) [] l d named h = absurd (omega arith)
values_back (p ∷ ps) (None ∷ vs) l d named h =
    let more = values_back ps vs (omega arith) (rest_differ p.name (param_names ps) d) named.1 (All-tail IsAmountIf None vs h) in
    ap (λ (r : Option ℤ × List ℕ). r.0 ∷ values_in ps r.1) (others p ps vs (first_differs p.name (param_names ps) d) named.1) ∙ ap (λ (x : List (Option ℤ)). None ∷ x) more
values_back (p ∷ ps) (Some v ∷ vs) l d named h =
    let range = All-head IsAmountIf (Some v) vs h in
    let more = values_back ps vs (omega arith) (rest_differ p.name (param_names ps) d) named.1 (All-tail IsAmountIf (Some v) vs h) in
    ap (λ (r : Option ℤ × List ℕ). r.0 ∷ values_in ps r.1) (value_first p v (values_words ps vs) named.0 range) ∙ ap (λ (x : List (Option ℤ)). Some v ∷ x) more
