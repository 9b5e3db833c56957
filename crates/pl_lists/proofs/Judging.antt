-- What judgements in a row give.
use Rattle.std.proofs.Common.{◌≡◌, Bool, true, false, MatchBool, cond, List, [], ◌∷◌, ◌++◌, Result, Ok, Err, refl, sym, ap, ◌∙◌, append_assoc}
use Rattle.std.proofs.lemmas.List.{append-nil}
use Rattle.pl_lists.specs.Judgements.{◌>>=◌, ◌>>◌, each_made, behind, Fails}

module _ {F : Type 0} where
  pub bind_ok : {X Y : Type 0} (r : Result X F) (f : X → Result Y F) (y : Y) → (r >>= f) ≡ Ok y → (x : X) × (r ≡ Ok x) × (f x ≡ Ok y)
  bind_ok (Ok x) f y e = (x, refl, e)
  bind_ok (Err d) f y e = absurd (cc)

  pub then_ok : {Y : Type 0} (r : Result (Unit {0}) F) (later : Result Y F) (y : Y) → (r >> later) ≡ Ok y → (r ≡ Ok tt) × (later ≡ Ok y)
  then_ok (Ok tt) later y e = (refl, e)
  then_ok (Err d) later y e = absurd (cc)

  pub if_ok : {X : Type 0} (test : Bool) (r : Result X F) (d : F) (x : X) → cond test r (Err d) ≡ Ok x → (test ≡ true) × (r ≡ Ok x)
  if_ok true r d x e = (refl, e)
  if_ok false r d x e = absurd (cc)

  -- ---- want of memory aside

  -- where a fault is known, it is given
  pub fails_so : {X : Type 0} (is_memory : F → Bool) (e : F) (meant : Result X F) → meant ≡ Err e → Fails is_memory e meant
  fails_so is_memory e meant same = by (is_memory e)
    where
      by : (b : Bool) → MatchBool b (Unit {0}) (meant ≡ Err e)
      by true = tt
      by false = same

  -- a fault of one judgement is that of another that it stops
  pub fails_through : {X Y : Type 0} (is_memory : F → Bool) (a : Result X F) (b : Result Y F) (e : F) → ((f : F) → a ≡ Err f → b ≡ Err f) → Fails is_memory e a → Fails is_memory e b
  fails_through is_memory a b e stops = by (is_memory e)
    where
      by : (m : Bool) → MatchBool m (Unit {0}) (a ≡ Err e) → MatchBool m (Unit {0}) (b ≡ Err e)
      by true fails = tt
      by false fails = stops e fails

  pub fails_bind : {X Y : Type 0} (is_memory : F → Bool) (r : Result X F) (f : X → Result Y F) (e : F) → Fails is_memory e r → Fails is_memory e (r >>= f)
  fails_bind is_memory r f e = fails_through is_memory r (r >>= f) e (λ d same. rw same refl)

  -- ---- item by item, as a loop goes

  pub behind-cons : {X : Type 0} (found : List X) (x : X) (judged : Result (List X) F) → behind found (judged >>= λ xs. Ok (x ∷ xs)) ≡ behind (found ++ x ∷ []) judged
  behind-cons found x (Ok xs) = ap Ok (sym (append_assoc found (x ∷ []) xs))
  behind-cons found x (Err e) = refl

  pub behind-none : {X : Type 0} (found : List X) (whole : Result (List X) F) → behind found (Ok []) ≡ whole → whole ≡ Ok found
  behind-none found whole h = sym h ∙ ap Ok (append-nil found)

  pub each_goes_on : {X Y : Type 0} (make : X → Result Y F) (found : List Y) (x : X) (xs : List X) (y : Y) (whole : Result (List Y) F) → make x ≡ Ok y → behind found (each_made make (x ∷ xs)) ≡ whole → behind (found ++ y ∷ []) (each_made make xs) ≡ whole
  each_goes_on make found x xs y whole e h = sym (behind-cons found y (each_made make xs)) ∙ ap (λ r. behind found (r >>= λ v. each_made make xs >>= λ vs. Ok (v ∷ vs))) (sym e) ∙ h

  pub each_ends : {X Y : Type 0} (make : X → Result Y F) (found : List Y) (x : X) (xs : List X) (e : F) (whole : Result (List Y) F) → make x ≡ Err e → behind found (each_made make (x ∷ xs)) ≡ whole → whole ≡ Err e
  each_ends make found x xs e whole bad h = sym h ∙ ap (λ r. behind found (r >>= λ v. each_made make xs >>= λ vs. Ok (v ∷ vs))) bad
