-- The choice of an alternative leaves the conflicts of links that it does not touch.
use Rattle.std.proofs.Common.{◌≡◌, ℕ, ◌<◌, ◌≤◌, eqb, true, false, List, [], ◌∷◌, map, Some, None, refl, sym, ap, ◌∙◌, subst, arith}
use Rattle.std.specs.Prelude.{All}
use Rattle.std.proofs.lemmas.Bool.{ne_eqb, or_from}
use Rattle.std.proofs.lemmas.List.Elements.{All-nil, All-cons, All-head, All-tail}
use Rattle.pl_lists.proofs.Tests.{or_first_false, or_second_false}
use Rattle.pl_conflict.specs.declared.conflict.Conflict.{Conflict}
use Rattle.pl_conflict.specs.Order.{has}
use Rattle.pl_plan.specs.declared.activity.Activity.{Activity}
use Rattle.pl_plan.specs.declared.repair.RepairMove.TheVariants.{Detail}
use Rattle.pl_plan.specs.Fitting.{fills}
use Rattle.pl_plan.specs.Index.{is_number}
use Rattle.pl_plan.specs.Trees.{id_of, parent_of, subtree_of}
use Rattle.pl_semantics.specs.declared.plan_state.PlanState.{PlanState}
use Rattle.pl_semantics.specs.Conflicts.{conflicts_of}
use Rattle.pl_semantics.specs.Links.{link_conflicts}
use Rattle.pl_semantics.specs.Moves.{applied, detailed}
use Rattle.pl_semantics.specs.PlanStates.{among, found}
use Rattle.pl_semantics.specs.Whole.{IsWhole}
use Rattle.pl_update.proofs.AboutLinks.Lookups.{Fails}
use Rattle.pl_moves.specs.Changes.{placed_by}
use Rattle.pl_moves.specs.Runs.{CanBeMade}
use Rattle.pl_bounds.specs.Choosing.{kind_of_one}
use Rattle.pl_bounds.specs.Remaining.{count_of_untouched}
use Rattle.pl_bounds.specs.Ties.{count_of_links}
use Rattle.pl_bounds.proofs.Bare.{undone}
use Rattle.pl_bounds.proofs.Beside.{none_goes}
use Rattle.pl_bounds.proofs.Chosen.{IsChildOf, are_new, mine, up, placed}
use Rattle.pl_bounds.proofs.Gathered.{AreLinks, links_few}
use Rattle.pl_bounds.proofs.Remaining.{IsAside, left_of, stands_after, told_below, untouched}
use Rattle.pl_bounds.proofs.Summing.{can_place, placed_is}
use Rattle.pl_bounds.proofs.Under.{alone_below}

kinds_apart : (k : ℕ) (xs : List Activity) → among k (map kind_of_one xs) ≡ false → All (λ (m : Activity). eqb m.kind k ≡ false) xs
kinds_apart k [] none = All-nil (λ (m : Activity). eqb m.kind k ≡ false)
kinds_apart k (x ∷ xs) none = All-cons (λ (m : Activity). eqb m.kind k ≡ false) x xs (or_first_false (eqb x.kind k) (among k (map kind_of_one xs)) none) (kinds_apart k xs (or_second_false (eqb x.kind k) (among k (map kind_of_one xs)) none))

module _ (s : PlanState) (whole : IsWhole s) (next : s.next_id ≤ 3999999000) (a : Activity) (here : found s a.id ≡ Some a) (root : a.parent ≡ None) (alternative : ℕ) (can : CanBeMade s (Detail a.id alternative)) where
  abbrev children : List Activity
  children = mine s whole next a here root alternative can

  abbrev more : List Activity
  more = detailed alternative a ∷ children

  more_is : placed_by s (Detail a.id alternative) ≡ more
  more_is = placed s whole next a here root alternative can

  all_up : All (IsChildOf a.id) children
  all_up = up s whole next a here root alternative can

  alone : subtree_of a.id s.plan.activities ≡ a.id ∷ []
  alone = alone_below s a.id a whole here (undone s whole a here root alternative can)

  -- an id that was given is none of the children's
  not_new : (n : ℕ) → n < s.next_id → (xs : List Activity) → All (λ (x : Activity). s.next_id ≤ x.id) xs → among n (map id_of xs) ≡ false
  not_new n lt [] all = refl
  not_new n lt (x ∷ xs) all =
      let ge : s.next_id ≤ x.id = All-head (λ (y : Activity). s.next_id ≤ y.id) x xs all in
      or_from (eqb x.id n) (among n (map id_of xs)) (ne_eqb x.id n (λ e. omega (arith, lt, ge, e))) (not_new n lt xs (All-tail (λ (y : Activity). s.next_id ≤ y.id) x xs all))

  no_child : (n : ℕ) → eqb a.id n ≡ false → (slot : ℕ) → All (λ (m : Activity). fills n slot m ≡ false) more
  no_child n other slot =
      All-cons (λ (m : Activity). fills n slot m ≡ false) (detailed alternative a) children (rw root refl)
      (λ k d lt. let of = all_up k d lt in rw (of.up, other) refl)

  each : (q : Conflict) → IsAside s (a.id ∷ []) (map kind_of_one more) None q → has q (conflicts_of s) ≡ true → has q (link_conflicts (applied s (Detail a.id alternative))) ≡ true
  each q is there =
      let less : q.subject < s.next_id = told_below s whole q is.part there in
      let other : eqb a.id q.subject ≡ false = or_first_false (eqb a.id q.subject) false is.left in
      let away : among q.subject (map id_of more) ≡ false = or_from (eqb a.id q.subject) (among q.subject (map id_of children)) other (not_new q.subject less children (are_new s whole next a here root alternative can)) in
      let of_sub : among q.subject (subtree_of a.id s.plan.activities) ≡ false = ap (among q.subject) alone ∙ is.left in
      subst (λ (t : PlanState). has q (link_conflicts t) ≡ true) (placed_is s (Detail a.id alternative) whole next can tt)
      (stands_after s (a.id ∷ []) (placed_by s (Detail a.id alternative)) whole (can_place s (Detail a.id alternative) whole next can tt) q is.left
      (ap (λ (l : List Activity). among q.subject (map id_of l)) more_is ∙ away)
      (λ c k e. subst (λ (l : List Activity). All (λ (m : Activity). eqb m.kind k ≡ false) l) (sym more_is) (kinds_apart k more (is.lonely c k e)))
      (λ c slot. (
        subst (λ (l : List ℕ). All (Fails (fills q.subject slot) s.plan.activities) l) alone (none_goes s whole a.id q.subject of_sub (apart_from_root q.subject) slot),
        subst (λ (l : List Activity). All (λ (m : Activity). fills q.subject slot m ≡ false) l) (sym more_is) (no_child q.subject other slot),
      ))
      is.part there)
    where
      apart_from_root : (n : ℕ) → is_number n (parent_of a.id s.plan.activities) ≡ false
      apart_from_root n = rw (here, root) refl

  pub links_left : (n : ℕ) → n ≤ count_of_untouched s (a.id ∷ []) (map kind_of_one more) None → n ≤ count_of_links (applied s (Detail a.id alternative))
  links_left n few =
      let are : AreLinks (applied s (Detail a.id alternative)) (untouched s (a.id ∷ []) (map kind_of_one more) None) = left_of s whole (a.id ∷ []) (map kind_of_one more) None (applied s (Detail a.id alternative)) each in
      let all = links_few (applied s (Detail a.id alternative)) (untouched s (a.id ∷ []) (map kind_of_one more) None) are in
      omega (arith, all, few)
