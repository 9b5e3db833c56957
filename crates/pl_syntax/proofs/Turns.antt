-- A turn of a loop is a step of the recursion on the turns that are left.
use Rattle.std.proofs.Common.{◌≡◌, ℕ, zero, suc, if◌then◌else◌, Result, ◌+◌, ◌-◌, ◌≤◌, ◌<◌, Bool, true, false, List, [], ◌∷◌, ◌++◌, Ok, Err, refl, arith}
use Rattle.pl_syntax.specs.declared.token.Token.{Token}
use Rattle.pl_syntax.specs.Faults.{Stop}
use Rattle.pl_syntax.specs.Parsing.{Parser, follow, ◌>>=◌, made, next_is, many_by}

pub turn : (n at : ℕ) → at < n → n - at ≡ suc (n - (at + 1))
turn n at below = omega arith

pub done : (n at : ℕ) → n ≤ at → n - at ≡ 0
done n at le = omega arith

-- ---- items while the next token begins one

module _ {A : Type 0} (these : Token → Bool) (item : Parser A) (n at : ℕ) (found : List A) (ts : List Token) where
  pub many_goes : (x : A) (us : List Token) → at < n → next_is these ts ≡ true → item ts ≡ Ok (x, us) → many_by these item (n - at) found ts ≡ many_by these item (n - (at + 1)) (found ++ x ∷ []) us
  unfolding many_by
  many_goes x us below starts e = rw (turn n at below, starts, e) refl

  pub many_fails : (s : Stop) → at < n → next_is these ts ≡ true → item ts ≡ Err s → many_by these item (n - at) found ts ≡ Err s
  unfolding many_by
  many_fails s below starts e = rw (turn n at below, starts, e) refl

  pub many_stops : at < n → next_is these ts ≡ false → many_by these item (n - at) found ts ≡ Ok (found, ts)
  unfolding many_by
  many_stops below starts = rw (turn n at below, starts) refl

  pub many_ends : n ≤ at → many_by these item (n - at) found ts ≡ Ok (found, ts)
  unfolding many_by
  many_ends le = rw (done n at le) refl

-- what was found before stands before what is found
module _ {A : Type 0} (these : Token → Bool) (item : Parser A) (x : A) where
  many_behind_item : (n : ℕ) (xs : List A) → ((ys : List A) (us : List Token) → many_by these item n (x ∷ ys) us ≡ made (λ zs. x ∷ zs) (many_by these item n ys) us) → (r : Result (A × List Token) Stop) → follow r (λ y us. many_by these item n ((x ∷ xs) ++ y ∷ []) us) ≡ follow (follow r (λ y us. many_by these item n (xs ++ y ∷ []) us)) (λ zs us. Ok (x ∷ zs, us))
  many_behind_item n xs ih (Ok p) = ih (xs ++ p.0 ∷ []) p.1
  many_behind_item n xs ih (Err s) = refl

  many_behind_at : (n : ℕ) (xs : List A) → ((ys : List A) (us : List Token) → many_by these item n (x ∷ ys) us ≡ made (λ zs. x ∷ zs) (many_by these item n ys) us) → (ts : List Token) (b : Bool) → (if b then (item >>= λ y. many_by these item n ((x ∷ xs) ++ y ∷ [])) ts else Ok (x ∷ xs, ts)) ≡ follow (if b then (item >>= λ y. many_by these item n (xs ++ y ∷ [])) ts else Ok (xs, ts)) (λ zs us. Ok (x ∷ zs, us))
  many_behind_at n xs ih ts true = many_behind_item n xs ih (item ts)
  many_behind_at n xs ih ts false = refl

  pub many_behind : (n : ℕ) (xs : List A) (ts : List Token) → many_by these item n (x ∷ xs) ts ≡ made (λ zs. x ∷ zs) (many_by these item n xs) ts
  unfolding many_by
  many_behind zero xs ts = refl
  many_behind (suc n) xs ts = many_behind_at n xs (λ ys us. many_behind n ys us) ts (next_is these ts)
