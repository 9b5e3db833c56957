-- States of one normal form: as many conflicts stand in them, and a move leaves as many.
use Rattle.std.proofs.Common.{◌≡◌, ℕ, ◌+◌, Bool, true, List, length, Option, Some, None, refl, sym, ap, ◌∙◌, subst}
use Rattle.std.specs.Prelude.{is_some}
use Rattle.pl_plan.specs.declared.activity.Activity.{Activity}
use Rattle.pl_plan.specs.declared.repair.RepairMove.{RepairMove}
use Rattle.pl_plan.specs.declared.repair.RepairMove.TheVariants.{Add, Delete, Shift, Detail, Abstract, Assign, Drop}
use Rattle.pl_plan.specs.Trees.{IsRooted}
use Rattle.pl_semantics.specs.declared.plan_state.PlanState.{PlanState}
use Rattle.pl_semantics.specs.PlanStates.{found}
use Rattle.pl_semantics.specs.Conflicts.{conflicts_of}
use Rattle.pl_semantics.specs.Moves.{holds, is_proper, applied}
use Rattle.pl_semantics.specs.Legal.{left_after}
use Rattle.pl_semantics.specs.Whole.{IsWhole}
use Rattle.pl_renumbering.specs.Renumbered.{KeepsOrder, AgreesAhead, IsRenumbered, renumbered_all, renumbered_move}
use Rattle.pl_renumbering.specs.Normal.{rank, normal_of, normal_move, AreAlike, id_at}
use Rattle.pl_renumbering.proofs.Ranks.{ids_rise, ids_ahead, rank_back, all_back}
use Rattle.pl_renumbering.proofs.Rooted.{rooted_before}
use Rattle.pl_renumbering.proofs.Trees.{rooted_after}
use Rattle.pl_renumbering.proofs.Conflicts.{is_image, as_many_conflicts}
use Rattle.pl_renumbering.proofs.Renumbering.{of_image, proper_too, applied_too, left_too}

module _ (s : PlanState) (whole : IsWhole s) where
  pub orders : KeepsOrder (id_at s)
  orders = ids_rise s.next_id s.plan.activities 0 whole.rising whole.ids

  back : renumbered_all (id_at s) (renumbered_all (rank s.plan.activities) s.plan.activities) ≡ s.plan.activities
  back = all_back s.next_id s.plan.activities whole.rising whole.fits.rooted

  -- a state is its normal form under the ids of its ranks
  pub from_normal : IsRenumbered (id_at s) (normal_of s) s
  from_normal = of_image (id_at s) s.next_id (normal_of s) s orders (sym (ap (λ (xs : List Activity). record s { plan = record { activities = xs } }) back))

  pub ahead_of_normal : AgreesAhead (id_at s) (normal_of s) s
  ahead_of_normal n = ids_ahead s.next_id s.plan.activities n (length s.plan.activities + n) refl

  pub rooted_normal : IsRooted (normal_of s).plan.activities
  rooted_normal = rooted_before (id_at s) orders (renumbered_all (rank s.plan.activities) s.plan.activities) (subst IsRooted (sym back) whole.fits.rooted)

  pub count_of_normal : length (conflicts_of s) ≡ length (conflicts_of (normal_of s))
  count_of_normal = ap (λ u. length (conflicts_of u)) (is_image (id_at s) (normal_of s) s from_normal) ∙ as_many_conflicts (id_at s) s.next_id (normal_of s) orders rooted_normal

  -- ---- moves

  found_back : (test : Activity → Bool) (id : ℕ) → holds test (found s id) ≡ true → id_at s (rank s.plan.activities id) ≡ id
  found_back test id e = by (found s id) refl e
    where
      by : (o : Option Activity) → found s id ≡ o → holds test o ≡ true → id_at s (rank s.plan.activities id) ≡ id
      by None here bad = absurd (cc)
      by (Some a) here good = rank_back s.next_id s.plan.activities 0 id a whole.rising here

  some_back : (id : ℕ) → is_some (found s id) ≡ true → id_at s (rank s.plan.activities id) ≡ id
  some_back id e = by (found s id) refl e
    where
      by : (o : Option Activity) → found s id ≡ o → is_some o ≡ true → id_at s (rank s.plan.activities id) ≡ id
      by None here bad = absurd (cc)
      by (Some a) here good = rank_back s.next_id s.plan.activities 0 id a whole.rising here

  pub move_back : (m : RepairMove) → is_proper s m ≡ true → renumbered_move (id_at s) (normal_move s m) ≡ m
  unfolding is_proper
  move_back (Add kind start goal) proper = refl
  move_back (Delete id) proper = ap Delete (found_back _ id proper)
  move_back (Shift id start) proper = ap (λ i. Shift i start) (some_back id proper)
  move_back (Detail id alternative) proper = ap (λ i. Detail i alternative) (found_back _ id proper)
  move_back (Abstract id) proper = ap Abstract (found_back _ id proper)
  move_back (Assign id param value) proper = ap (λ i. Assign i param value) (found_back _ id proper)
  move_back (Drop number) proper = refl

  module _ (m : RepairMove) where
    rooted_after_normal : IsRooted (applied s (renumbered_move (id_at s) m)).plan.activities → IsRooted (applied (normal_of s) m).plan.activities
    rooted_after_normal rooted_then =
        rooted_before (id_at s) orders (applied (normal_of s) m).plan.activities
        (subst IsRooted (applied_too (id_at s) (normal_of s) s m from_normal ahead_of_normal rooted_normal).activities rooted_then)

    pub left_of_normal : IsRooted (applied s (renumbered_move (id_at s) m)).plan.activities → left_after s (renumbered_move (id_at s) m) ≡ left_after (normal_of s) m
    left_of_normal rooted_then = left_too (id_at s) (normal_of s) s m from_normal ahead_of_normal rooted_normal (rooted_after_normal rooted_then)

  pub left_by_normal : (m : RepairMove) → is_proper s m ≡ true → left_after s m ≡ left_after (normal_of s) (normal_move s m)
  left_by_normal m proper =
      let same : m ≡ renumbered_move (id_at s) (normal_move s m) = sym (move_back m proper) in
      ap (left_after s) same ∙ left_of_normal (normal_move s m) (rooted_after s whole (renumbered_move (id_at s) (normal_move s m)))

-- ---- two states

pub as_many_alike : (s t : PlanState) → AreAlike s t → IsWhole s → IsWhole t → length (conflicts_of s) ≡ length (conflicts_of t)
as_many_alike s t alike whole whole_too =
    count_of_normal s whole ∙ (ap (λ u. length (conflicts_of u)) alike ∙ sym (count_of_normal t whole_too))

pub left_alike : (s t : PlanState) (m n : RepairMove) → AreAlike s t → IsWhole s → IsWhole t → is_proper s m ≡ true → is_proper t n ≡ true → normal_move s m ≡ normal_move t n → left_after s m ≡ left_after t n
left_alike s t m n alike whole whole_too proper proper_too same =
    left_by_normal s whole m proper
    ∙ (ap (λ u. left_after u (normal_move s m)) alike ∙ (ap (left_after (normal_of t)) same ∙ sym (left_by_normal t whole_too n proper_too)))
