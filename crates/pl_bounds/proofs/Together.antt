-- The conflicts of links that a move leaves: those that it does not touch, and those of the activity that it places alone.
use Rattle.std.proofs.Common.{◌≡◌, ℕ, ◌+◌, ◌<◌, ◌≤◌, true, false, List, [], ◌∷◌, length, Option, Some, None, refl, sym, ap, ◌∙◌, arith}
use Rattle.std.specs.Option.{option_map}
use Rattle.std.proofs.lemmas.Bool.{false_from_ne_true}
use Rattle.pl_conflict.specs.declared.conflict.Conflict.{Conflict}
use Rattle.pl_conflict.specs.declared.conflict.Code.{Code}
use Rattle.pl_conflict.specs.declared.conflict.Code.TheVariants.{Temporal, Linked}
use Rattle.pl_conflict.specs.Order.{has}
use Rattle.pl_lists.proofs.Numbers.{eqb_itself}
use Rattle.pl_links.specs.declared.placed.Placed.{Placed}
use Rattle.pl_moves.specs.Runs.{CanBeMade}
use Rattle.pl_moves.proofs.Made.{named_live}
use Rattle.pl_plan.specs.declared.repair.RepairMove.TheVariants.{Add, Delete, Shift}
use Rattle.pl_plan.specs.Index.{is_number}
use Rattle.pl_plan.specs.Trees.{parent_of, subtree_of}
use Rattle.pl_semantics.specs.declared.plan_state.PlanState.{PlanState}
use Rattle.pl_semantics.specs.Links.{placed_of}
use Rattle.pl_semantics.specs.Moves.{applied}
use Rattle.pl_semantics.specs.PlanStates.{among, found}
use Rattle.pl_semantics.specs.Whole.{IsWhole}
use Rattle.pl_bounds.specs.Orders.{unmet_then}
use Rattle.pl_bounds.specs.Remaining.{count_of_untouched, kinds_of, IsLeftByShifting}
use Rattle.pl_bounds.specs.Ties.{lone_then, count_of_links}
use Rattle.pl_bounds.proofs.Gathered.{AreLinks, AreLone, all_few, links_few}
use Rattle.pl_bounds.proofs.Others.{top_held}
use Rattle.pl_bounds.proofs.Ordered.{unmet_left}
use Rattle.pl_bounds.proofs.Partners.{lone_left}
use Rattle.pl_bounds.proofs.Remaining.{below, left_by_deletion, left_by_new, left_by_shift, parent_left, subject_left, untouched}

-- ---- those of one activity, and others

module _ (t : PlanState) (id m : ℕ) (ks ls : List Conflict) (lone : AreLone t id m ks) (others : AreLinks t ls) (aside : (q : Conflict) → has q ls ≡ true → q.subject ≡ id → ⊥) where
  apart : (q : Conflict) → has q ks ≡ true → has q ls ≡ false
  apart q e = false_from_ne_true (has q ls) (λ h. aside q h (lone.own q e).0)

  pub both_few : (n : ℕ) → n ≤ length ls → n + m ≤ count_of_links t
  both_few n few =
      let all = all_few t ks ls [] lone.are others (record { apart = tt; stand = λ q e. absurd (cc) }) apart (λ q e. refl) (λ q e. refl) in
      let many = lone.many in
      omega (arith, all, many, few)

-- a conflict is not of a temporal link and of an order
not_both : (why : Code) → why ≡ Temporal → why ≡ Linked → ⊥
not_both why one other = absurd (let bad : Temporal ≡ Linked = sym one ∙ other in cc)

-- ---- moves

module _ (s : PlanState) (whole : IsWhole s) (next : s.next_id ≤ 3999999000) where
  pub few_by_deletion : (id : ℕ) → CanBeMade s (Delete id) → (n : ℕ) → n ≤ count_of_untouched s (subtree_of id s.plan.activities) [] (parent_of id s.plan.activities) → n ≤ count_of_links (applied s (Delete id))
  few_by_deletion id can n few =
      let all = links_few (applied s (Delete id)) (untouched s (subtree_of id s.plan.activities) [] (parent_of id s.plan.activities)) (left_by_deletion s whole next id can) in
      omega (arith, all, few)

  module _ (id to : ℕ) (can : CanBeMade s (Shift id to)) where
    abbrev sub : List ℕ
    sub = subtree_of id s.plan.activities

    abbrev left : List Conflict
    left = untouched s sub (kinds_of s sub) (parent_of id s.plan.activities)

    pub few_by_shift : (n : ℕ) → IsLeftByShifting s id n → n ≤ count_of_links (applied s (Shift id to))
    few_by_shift n few = let all = links_few (applied s (Shift id to)) left (left_by_shift s whole next id to can) in omega (arith, all, few)

    not_moved : (q : Conflict) → has q left ≡ true → q.subject ≡ id → ⊥
    not_moved q e is =
        let there : among id sub ≡ true = top_held s whole id (named_live s (Shift id to) can.proper) in
        let away : among q.subject sub ≡ false = subject_left s sub (kinds_of s sub) (parent_of id s.plan.activities) q e in
        let bad : true ≡ false = sym there ∙ (ap (λ (n : ℕ). among n sub) (sym is) ∙ away) in
        cc

    not_above : (q : Conflict) → has q left ≡ true → q.code ≡ Linked → parent_of id s.plan.activities ≡ Some q.subject → ⊥
    not_above q e linked above =
        let no : is_number q.subject (parent_of id s.plan.activities) ≡ false = parent_left s sub (kinds_of s sub) (parent_of id s.plan.activities) q e linked in
        let bad : true ≡ false = sym (ap (is_number q.subject) above ∙ eqb_itself q.subject) ∙ no in
        cc

    pub few_moved_alone : length sub ≡ 1 → (alone : Option Placed) → alone ≡ option_map (placed_of s) (found s id) → (n : ℕ) → IsLeftByShifting s id n → n + lone_then s to alone + unmet_then s to alone ≤ count_of_links (applied s (Shift id to))
    few_moved_alone one alone is n few =
        let own = lone_left s whole next id to can one alone is in
        let orders = unmet_left s whole next id to can one in
        let others = left_by_shift s whole next id to can in
        let first : (q : Conflict) → has q own.0 ≡ true → has q left ≡ false = λ q e. false_from_ne_true (has q left) (λ h. not_moved q h (own.1.own q e).0) in
        let second : (q : Conflict) → has q own.0 ≡ true → has q orders.0 ≡ false = λ q e. false_from_ne_true (has q orders.0) (λ h. not_both q.code (own.1.own q e).1 (orders.1.linked q h)) in
        let third : (q : Conflict) → has q left ≡ true → has q orders.0 ≡ false = λ q e. false_from_ne_true (has q orders.0) (λ h. not_above q e (orders.1.linked q h) (orders.1.above q h)) in
        let all = all_few (applied s (Shift id to)) own.0 left orders.0 own.1.are others orders.1.are first second third in
        let lone = own.1.many in
        let unmet : length orders.0 ≡ unmet_then s to alone = orders.1.many ∙ ap (unmet_then s to) (sym is) in
        let less : n ≤ length left = few in
        omega (arith, all, lone, unmet, less)

  module _ (kind to : ℕ) (goal : Option ℕ) (can : CanBeMade s (Add kind to goal)) where
    not_new : (q : Conflict) → has q (untouched s [] (kind ∷ []) None) ≡ true → q.subject ≡ s.next_id → ⊥
    not_new q e is = let less : q.subject < s.next_id = below s whole [] (kind ∷ []) None q e in omega (arith, less, is)

    pub few_with_new : (m : ℕ) (ks : List Conflict) → AreLone (applied s (Add kind to goal)) s.next_id m ks → (n : ℕ) → n ≤ count_of_untouched s [] (kind ∷ []) None → n + m ≤ count_of_links (applied s (Add kind to goal))
    few_with_new m ks lone n few = both_few (applied s (Add kind to goal)) s.next_id m ks (untouched s [] (kind ∷ []) None) lone (left_by_new s whole next kind to goal can) not_new n few
