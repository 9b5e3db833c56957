-- A move is a candidate where it makes sense, changes something and is among the first 256 that are tried, and only where it makes
-- sense, changes something and is tried.
use Rattle.std.proofs.Common.{◌≡◌, ℕ, zero, suc, ◌≤◌, Bool, true, false, List, [], ◌∷◌, length, take, refl, sym, ap, ◌∙◌, arith}
use Rattle.std.specs.Prelude.{filter, ◌||◌}
use Rattle.std.specs.List.{list_any}
use Rattle.std.proofs.lemmas.Bool.{or_right, or_from}
use Rattle.pl_lists.proofs.Tests.{or_weaker}
use Rattle.pl_plan.specs.declared.repair.RepairMove.{RepairMove}
use Rattle.pl_conflict.specs.declared.conflict.Conflict.{Conflict}
use Rattle.pl_semantics.specs.declared.plan_state.PlanState.{PlanState}
use Rattle.pl_semantics.specs.Candidates.{candidates_of, is_worth, once_from, same_move, tried_for}
use Rattle.pl_cand.proofs.Same.{one_move}

either : (a b : Bool) → (a || b) ≡ true → (a ≡ true → b ≡ true) → b ≡ true
either true b e via = via refl
either false b e via = e

clash : (a : Bool) → a ≡ true → a ≡ false → {X : Type 0} → X
clash true e f = absurd (cc)
clash false e f = absurd (cc)

-- the first few more
take_all : {X : Type 0} (n : ℕ) (xs : List X) → length xs ≤ n → take n xs ≡ xs
take_all zero [] le = refl
take_all (suc n) [] le = refl
take_all zero (x ∷ xs) le = absurd (omega (arith, le))
take_all (suc n) (x ∷ xs) le = ap (λ l. x ∷ l) (take_all n xs (omega (arith, le)))

any_more : (P : RepairMove → Bool) (n : ℕ) (xs : List RepairMove) → list_any P (take n xs) ≡ true → list_any P (take (suc n) xs) ≡ true
any_more P zero xs e = absurd (cc)
any_more P (suc n) [] e = absurd (cc)
any_more P (suc n) (x ∷ xs) e = or_weaker (P x) (list_any P (take n xs)) (list_any P (take (suc n) xs)) e (any_more P n xs)

module _ (W : RepairMove → Bool) (m : RepairMove) where
  -- ---- the first that are tried

  pub early : (n : ℕ) (seen xs : List RepairMove) → W m ≡ true → list_any (same_move m) seen ≡ false → list_any (same_move m) (take n xs) ≡ true
      → list_any (same_move m) (take n (once_from seen (filter W xs))) ≡ true
  early zero seen xs worth unseen is = absurd (cc)
  early (suc n) seen [] worth unseen is = absurd (cc)
  early (suc n) seen (x ∷ more) worth unseen is = by (W x) (list_any (same_move x) seen) (same_move m x) refl refl refl (λ r. early n seen more worth unseen r) (λ fresh r. early n (x ∷ seen) more worth fresh r)
    where
      rest : same_move m x ≡ false → list_any (same_move m) (take n more) ≡ true
      rest other = either (same_move m x) (list_any (same_move m) (take n more)) is (λ e. clash (same_move m x) e other)

      by : (w s b : Bool) → W x ≡ w → list_any (same_move x) seen ≡ s → same_move m x ≡ b
          → (list_any (same_move m) (take n more) ≡ true → list_any (same_move m) (take n (once_from seen (filter W more))) ≡ true)
          → (list_any (same_move m) (x ∷ seen) ≡ false → list_any (same_move m) (take n more) ≡ true → list_any (same_move m) (take n (once_from (x ∷ seen) (filter W more))) ≡ true)
          → list_any (same_move m) (take (suc n) (once_from seen (filter W (x ∷ more)))) ≡ true
      by false s true e f g past new = clash (W m) worth (ap W (one_move m x g) ∙ e)
      by false s false e f g past new = rw e (any_more (same_move m) n (once_from seen (filter W more)) (past (rest g)))
      by true true true e f g past new = clash (list_any (same_move m) seen) (ap (λ y. list_any (same_move y) seen) (one_move m x g) ∙ f) unseen
      by true true false e f g past new = rw (e, f) (any_more (same_move m) n (once_from seen (filter W more)) (past (rest g)))
      by true false true e f g past new = rw (e, f, g) refl
      by true false false e f g past new = rw (e, f) (or_right (same_move m x) _ (new (or_from (same_move m x) (list_any (same_move m) seen) g unseen) (rest g)))

  -- ---- all that are tried

  pub tried : (n : ℕ) (seen xs : List RepairMove) → list_any (same_move m) (take n (once_from seen (filter W xs))) ≡ true → (W m ≡ true) × (list_any (same_move m) xs ≡ true)
  tried zero seen xs is = absurd (cc)
  tried (suc n) seen [] is = absurd (cc)
  tried (suc n) seen (x ∷ more) is = by (W x) (list_any (same_move x) seen) (same_move m x) refl refl refl (λ r. tried (suc n) seen more r) (λ r. tried n (x ∷ seen) more r)
    where
      later : (W m ≡ true) × (list_any (same_move m) more ≡ true) → (W m ≡ true) × (list_any (same_move m) (x ∷ more) ≡ true)
      later both = (both.0, or_right (same_move m x) (list_any (same_move m) more) both.1)

      by : (w s b : Bool) → W x ≡ w → list_any (same_move x) seen ≡ s → same_move m x ≡ b
          → (list_any (same_move m) (take (suc n) (once_from seen (filter W more))) ≡ true → (W m ≡ true) × (list_any (same_move m) more ≡ true))
          → (list_any (same_move m) (take n (once_from (x ∷ seen) (filter W more))) ≡ true → (W m ≡ true) × (list_any (same_move m) more ≡ true))
          → (W m ≡ true) × (list_any (same_move m) (x ∷ more) ≡ true)
      by false s b e f g past new = later (past (rw e at is))
      by true true b e f g past new = later (past (rw (e, f) at is))
      by true false true e f g past new = (ap W (one_move m x g) ∙ e, rw g refl)
      by true false false e f g past new = later (new (rw (e, f, g) at is))

-- A move that makes sense and changes something stands in what is left where it is one of the first that are tried.
pub early_left : (W : RepairMove → Bool) (m : RepairMove) (xs : List RepairMove) → W m ≡ true → list_any (same_move m) (take 256 xs) ≡ true → true ≡ list_any (same_move m) (take 256 (once_from [] (filter W xs)))
early_left W m xs worth is = sym (early W m 256 [] xs worth refl is)

not_true : (b : Bool) → (b ≡ true → false ≡ b) → false ≡ b
not_true true by = by refl
not_true false by = refl

-- A worthless one does not, nor does one that is not tried.
pub worthless_left : (W : RepairMove → Bool) (m : RepairMove) (xs : List RepairMove) → W m ≡ false → false ≡ list_any (same_move m) (take 256 (once_from [] (filter W xs)))
worthless_left W m xs worthless = not_true (list_any (same_move m) (take 256 (once_from [] (filter W xs)))) (λ e. clash (W m) (tried W m 256 [] xs e).0 worthless)

never_left : (W : RepairMove → Bool) (m : RepairMove) (xs : List RepairMove) → list_any (same_move m) xs ≡ false → false ≡ list_any (same_move m) (take 256 (once_from [] (filter W xs)))
never_left W m xs none = not_true (list_any (same_move m) (take 256 (once_from [] (filter W xs)))) (λ e. clash (list_any (same_move m) xs) (tried W m 256 [] xs e).1 none)

pub untried_left : (W : RepairMove → Bool) (m : RepairMove) (xs : List RepairMove) → length xs ≤ 256 → list_any (same_move m) (take 256 xs) ≡ false → false ≡ list_any (same_move m) (take 256 (once_from [] (filter W xs)))
untried_left W m xs short none = never_left W m xs (ap (λ (l : List RepairMove). list_any (same_move m) l) (sym (take_all 256 xs short)) ∙ none)

pub all_short : (xs : List RepairMove) → length xs ≤ 256 → xs ≡ take 256 xs
all_short xs short = sym (take_all 256 xs short)

-- ---- candidates

-- One of the first that are tried is a candidate where it makes sense and changes something.
pub early_candidate : (s : PlanState) (k : Conflict) (m : RepairMove) → list_any (same_move m) (take 256 (tried_for s k k.code)) ≡ true → is_worth s m ≡ list_any (same_move m) (candidates_of s k)
unfolding candidates_of
early_candidate s k m is = by (is_worth s m) refl
  where
    by : (w : Bool) → is_worth s m ≡ w → w ≡ list_any (same_move m) (take 256 (once_from [] (filter (is_worth s) (tried_for s k k.code))))
    by true worth = early_left (is_worth s) m (tried_for s k k.code) worth is
    by false worthless = worthless_left (is_worth s) m (tried_for s k k.code) worthless

pub never_candidate : (s : PlanState) (k : Conflict) (m : RepairMove) → list_any (same_move m) (tried_for s k k.code) ≡ false → false ≡ list_any (same_move m) (candidates_of s k)
unfolding candidates_of
never_candidate s k m none = never_left (is_worth s) m (tried_for s k k.code) none
