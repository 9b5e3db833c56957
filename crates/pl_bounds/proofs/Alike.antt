-- Moves that place the same at other starts.
use Rattle.std.proofs.Common.{◌≡◌, ℕ, ℤ, true, false, eqb, Option, Some, None, refl, sym, ap, ◌∙◌, subst, inl, inr}
use Rattle.std.proofs.lemmas.Bool.{eqb-true, and_parts}
use Rattle.pl_plan.specs.declared.repair.RepairMove.{RepairMove}
use Rattle.pl_plan.specs.declared.repair.RepairMove.TheVariants.{Add, Delete, Shift, Detail, Abstract, Assign, Drop}
use Rattle.pl_moves.specs.Runs.{CanBeMade, goes_on}
use Rattle.pl_semantics.specs.declared.plan_state.PlanState.{PlanState}
use Rattle.pl_semantics.specs.Candidates.{same_number}
use Rattle.pl_bounds.specs.Asked.{IsAlike}

pub alike_delete : (id : ℕ) (m : RepairMove) → IsAlike (Delete id) m → m ≡ Delete id
alike_delete id m (inl is) = is
alike_delete id m (inr on) = absurd (let bad : false ≡ true = on in cc)

pub alike_shift : (id start : ℕ) (m : RepairMove) → IsAlike (Shift id start) m → (to : ℕ) × (m ≡ Shift id to)
alike_shift id start m (inl is) = (start, is)
alike_shift id start m (inr on) = by m on
  where
    by : (m : RepairMove) → goes_on (Shift id start) m ≡ true → (to : ℕ) × (m ≡ Shift id to)
    by (Shift i t) on = (t, ap (λ n. Shift n t) (sym (eqb-true id i on)))
    by (Add kind t goal) on = absurd (cc)
    by (Delete i) on = absurd (cc)
    by (Detail i alternative) on = absurd (cc)
    by (Abstract i) on = absurd (cc)
    by (Assign i param value) on = absurd (cc)
    by (Drop goal) on = absurd (cc)

one_number : (a b : Option ℕ) → same_number a b ≡ true → b ≡ a
one_number None None e = refl
one_number None (Some n) e = absurd (cc)
one_number (Some m) None e = absurd (cc)
one_number (Some m) (Some n) e = ap (λ (k : ℕ). Some k) (sym (eqb-true m n e))

pub alike_add : (kind start : ℕ) (goal : Option ℕ) (m : RepairMove) → IsAlike (Add kind start goal) m → (to : ℕ) × (m ≡ Add kind to goal)
alike_add kind start goal m (inl is) = (start, is)
alike_add kind start goal m (inr on) = by m on
  where
    by : (m : RepairMove) → goes_on (Add kind start goal) m ≡ true → (to : ℕ) × (m ≡ Add kind to goal)
    by (Add k t g) on =
        let tests = and_parts (eqb kind k) (same_number goal g) on in
        (t, ap (λ n. Add n t g) (sym (eqb-true kind k tests.0)) ∙ ap (λ o. Add kind t o) (one_number goal g tests.1))
    by (Shift i t) on = absurd (cc)
    by (Delete i) on = absurd (cc)
    by (Detail i alternative) on = absurd (cc)
    by (Abstract i) on = absurd (cc)
    by (Assign i param value) on = absurd (cc)
    by (Drop goal) on = absurd (cc)

alike_assign : (id param : ℕ) (value : ℤ) (m : RepairMove) → IsAlike (Assign id param value) m → m ≡ Assign id param value
alike_assign id param value m (inl is) = is
alike_assign id param value m (inr on) = absurd (let bad : false ≡ true = on in cc)

-- ---- what holds of each

module _ (s : PlanState) (P : RepairMove → Type 0) where
  pub each_new : (kind start : ℕ) (goal : Option ℕ) → ((to : ℕ) → CanBeMade s (Add kind to goal) → P (Add kind to goal)) → (m : RepairMove) → CanBeMade s m → IsAlike (Add kind start goal) m → P m
  each_new kind start goal each m can alike =
      let it = alike_add kind start goal m alike in
      subst P (sym it.1) (each it.0 (subst (λ (w : RepairMove). CanBeMade s w) it.1 can))

  pub each_shift : (id start : ℕ) → ((to : ℕ) → CanBeMade s (Shift id to) → P (Shift id to)) → (m : RepairMove) → CanBeMade s m → IsAlike (Shift id start) m → P m
  each_shift id start each m can alike =
      let it = alike_shift id start m alike in
      subst P (sym it.1) (each it.0 (subst (λ (w : RepairMove). CanBeMade s w) it.1 can))

  pub each_deletion : (id : ℕ) → P (Delete id) → (m : RepairMove) → CanBeMade s m → IsAlike (Delete id) m → P m
  each_deletion id one m can alike = subst P (sym (alike_delete id m alike)) one

  pub each_assignment : (id param : ℕ) (value : ℤ) → (CanBeMade s (Assign id param value) → P (Assign id param value)) → (m : RepairMove) → CanBeMade s m → IsAlike (Assign id param value) m → P m
  each_assignment id param value one m can alike =
      let it = alike_assign id param value m alike in
      subst P (sym it) (one (subst (λ (w : RepairMove). CanBeMade s w) it can))
