-- Lists by number.
use Rattle.std.proofs.Common.{◌≡◌, ℕ, zero, suc, ◌+◌, ◌<◌, eqb, Bool, true, false, List, [], ◌∷◌, ◌++◌, append-nil, refl, sym, ap, ◌∙◌, arith}
use Rattle.std.specs.Prelude.{filter, slice_get}
use Rattle.std.specs.List.{flat_map}
use Rattle.std.proofs.lemmas.Bool.{eq-eqb, ne_eqb}
use Rattle.pl_model.specs.declared.expressions.Expr.{Expr}
use Rattle.pl_model.specs.declared.parameters.Param.{Param}
use Rattle.pl_plan.specs.declared.activity.Activity.{Activity}
use Rattle.pl_plan.specs.declared.repair.RepairMove.{RepairMove}
use Rattle.pl_semantics.specs.PlanStates.{numbered, of_found}
use Rattle.pl_semantics.specs.Moves.{is_free}
use Rattle.pl_semantics.specs.Repairs.{assigns, assigns_one}
use Rattle.pl_cand.specs.Details.{assigns_as, assigns_if_free}

-- ---- by number

-- the item of one number, of numbered ones
numbered_past : (f : ℕ × Param → List RepairMove) (m n : ℕ) (xs : List Param) → m < n → ((p : ℕ × Param) → eqb p.0 m ≡ false → f p ≡ []) → flat_map f (numbered n xs) ≡ []
numbered_past f m n [] lt none = refl
numbered_past f m n (x ∷ xs) lt none = rw (none (n, x) (ne_eqb n m (λ e. omega (arith, lt, e)))) (numbered_past f m (suc n) xs (omega (arith, lt)) none)

numbered_at : (f : ℕ × Param → List RepairMove) (g : Param → List RepairMove) (n i : ℕ) (xs : List Param) → ((p : Param) → f (n + i, p) ≡ g p) → ((p : ℕ × Param) → eqb p.0 (n + i) ≡ false → f p ≡ []) → flat_map f (numbered n xs) ≡ of_found g (slice_get xs i)
numbered_at f g n i [] here none = refl
numbered_at f g n zero (x ∷ xs) here none =
    let at : n + 0 ≡ n = omega arith in
    let one : f (n, x) ≡ g x = ap (λ k. f (k, x)) (sym at) ∙ here x in
    let rest : flat_map f (numbered (suc n) xs) ≡ [] = numbered_past f (n + 0) (suc n) xs (omega arith) none in
    rw (one, rest) (append-nil (g x))
numbered_at f g n (suc i) (x ∷ xs) here none =
    let at : n + suc i ≡ suc n + i = omega arith in
    let skip : f (n, x) ≡ [] = none (n, x) (ne_eqb n (n + suc i) (λ e. omega (arith, e))) in
    rw skip (numbered_at f g (suc n) i xs (λ p. ap (λ k. f (k, p)) (sym at) ∙ here p) (λ p e. none p (ap (eqb p.0) at ∙ e)))

pub assigns_at : (a : Activity) (n : ℕ) (xs : List Param) → flat_map (assigns_one a n) (numbered 0 xs) ≡ of_found (assigns_as a.id n) (slice_get xs n)
assigns_at a n xs = numbered_at (assigns_one a n) (assigns_as a.id n) 0 n xs (here (0 + n) (omega arith)) (none (0 + n) (omega arith))
  where
    here : (k : ℕ) → k ≡ n → (p : Param) → assigns_one a n (k, p) ≡ assigns_as a.id n p
    here k e p = rw (eq-eqb k n e) (ap (λ m. assigns a.id (m, p)) e)

    none : (k : ℕ) → k ≡ n → (p : ℕ × Param) → eqb p.0 k ≡ false → assigns_one a n p ≡ []
    none k e p apart = let f : eqb p.0 n ≡ false = ap (eqb p.0) (sym e) ∙ apart in rw f refl

-- ---- free parameters

pub free_all : (bindings : List (ℕ × Expr)) (id : ℕ) (xs : List (ℕ × Param)) → flat_map (assigns_if_free bindings id) xs ≡ flat_map (assigns id) (filter (is_free bindings) xs)
free_all bindings id [] = refl
free_all bindings id (p ∷ xs) = cases (is_free bindings p) refl (free_all bindings id xs)
  where
    cases : (b : Bool) → is_free bindings p ≡ b → flat_map (assigns_if_free bindings id) xs ≡ flat_map (assigns id) (filter (is_free bindings) xs) → flat_map (assigns_if_free bindings id) (p ∷ xs) ≡ flat_map (assigns id) (filter (is_free bindings) (p ∷ xs))
    cases true e more = rw e (ap (λ l. assigns id p ++ l) more)
    cases false e more = rw e more
