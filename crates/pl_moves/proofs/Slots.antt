-- The new children from one slot on.
use Rattle.std.proofs.Common.{◌≡◌, ℕ, suc, ◌+◌, ◌<◌, true, false, List, [], ◌∷◌, drop, length, get_or, refl, sym, ap, ◌∙◌, arith}
use Rattle.std.specs.Prelude.{Some}
use Rattle.std.proofs.lemmas.List.{drop_more}
use Rattle.pl_model.specs.declared.alternatives.Slot.{Slot}
use Rattle.pl_plan.specs.declared.activity.Activity.{Activity}
use Rattle.pl_semantics.specs.declared.plan_state.PlanState.{PlanState}
use Rattle.pl_semantics.specs.Moves.{child_for, children_from}
use Rattle.pl_moves.specs.declared.side.Side.{Side}
use Rattle.pl_moves.specs.Sides.{lies_on, first_on}

record HasNext (xs : List Slot) (n : ℕ) : Type 0 where
  x : Slot
  is : drop n xs ≡ x ∷ drop (n + 1) xs

next_of : (xs : List Slot) (n : ℕ) → n < length xs → HasNext xs n
next_of [] n lt = absurd (omega (arith, lt))
next_of (x ∷ xs) n lt = record { x = get_or (x ∷ xs) n x; is = drop_more (x ∷ xs) n x lt }

module _ (s : PlanState) (side : Side) (parent : Activity) (slots : List Slot) (offsets : List ℕ) (n : ℕ) (lt : n < length offsets) (each : length offsets ≡ length slots) where
  abbrev start : ℕ
  start = parent.start + get_or offsets n 0

  next : HasNext slots n
  next = next_of slots n (omega (arith, lt, each))

  children_at : children_from s parent n (drop n slots) (drop n offsets) ≡ child_for s parent.id n (s.next_id + n) next.x start ∷ children_from s parent (suc n) (drop (n + 1) slots) (drop (n + 1) offsets)
  children_at = rw (next.is, drop_more offsets n 0 lt) refl

  pub first_here : lies_on s side start ≡ true → Some (s.next_id + n) ≡ first_on s side (children_from s parent n (drop n slots) (drop n offsets))
  first_here test = sym (ap (first_on s side) children_at ∙ rw test refl)

  pub first_later : lies_on s side start ≡ false → first_on s side (children_from s parent (n + 1) (drop (n + 1) slots) (drop (n + 1) offsets)) ≡ first_on s side (children_from s parent n (drop n slots) (drop n offsets))
  first_later test =
      let one : suc n ≡ n + 1 = omega arith in
      sym (ap (first_on s side) children_at ∙ rw test (ap (λ k. first_on s side (children_from s parent k (drop (n + 1) slots) (drop (n + 1) offsets))) one))
