-- How many conflicts of goals and activities a move leaves at least.
use Rattle.std.proofs.Common.{◌≡◌, ℕ, suc, ◌+◌, ◌-◌, ◌≤◌, eqb, Bool, true, false, cond, List, [], ◌∷◌, filter, length, Option, Some, None, refl, sym, ap, ◌∙◌, arith}
use Rattle.std.specs.Prelude.{◌||◌, IfSome, max, not, slice_get}
use Rattle.std.specs.Option.{option_to_list}
use Rattle.std.proofs.lemmas.Bool.{false_from_ne_true}
use Rattle.pl_conflict.specs.declared.conflict.Conflict.{Conflict}
use Rattle.pl_conflict.specs.declared.conflict.Code.TheVariants.{Undetailed}
use Rattle.pl_conflict.specs.declared.conflict.Code.TheVariants as code
use Rattle.pl_conflict.specs.Codes.{code_number}
use Rattle.pl_conflict.specs.Order.{has}
use Rattle.pl_lists.proofs.Tests.{and_second}
use Rattle.pl_conflict.proofs.Sorting.{same, same_is}
use Rattle.pl_moves.specs.Least.{least_known}
use Rattle.pl_moves.specs.Runs.{CanBeMade}
use Rattle.pl_moves.proofs.Made.{named_live}
use Rattle.pl_update.specs.GoalsAndActivities.Near.{near}
use Rattle.pl_update.specs.GoalsAndActivities.Touched.{touched_goals, touched_ids}
use Rattle.pl_plan.specs.declared.repair.RepairMove.TheVariants.{Add, Delete, Shift}
use Rattle.pl_plan.specs.Fitting.{alternatives_of}
use Rattle.pl_plan.specs.Trees.{subtree_of}
use Rattle.pl_semantics.specs.declared.plan_state.PlanState.{PlanState}
use Rattle.pl_semantics.specs.PlanStates.{among}
use Rattle.pl_semantics.specs.Activities.{at_start, wrong_of}
use Rattle.pl_semantics.specs.Conflicts.{conflicts_of}
use Rattle.pl_semantics.specs.Moves.{applied, root_for}
use Rattle.pl_semantics.specs.Parts.{part_of, of_activities}
use Rattle.pl_semantics.specs.Whole.{IsWhole}
use Rattle.pl_bounds.specs.Plain.{is_plain, is_plain_part, count_of_plain}
use Rattle.pl_bounds.specs.Standing.{count_of_elsewhere, is_elsewhere, HasUnset, IsLeftByNew, IsOpenWithout, is_open_one, IsStandingOf, IsUnsetThen}
use Rattle.pl_bounds.specs.Windows.{is_off, or_one_more, IsLeftByShift, IsWindowOf}
use Rattle.pl_bounds.specs.declared.window.Window.{Window}
use Rattle.pl_bounds.specs.declared.standing.Standing.{Standing}
use Rattle.pl_bounds.proofs.Differing.{has_passing}
use Rattle.pl_bounds.proofs.Following.{all_but_wrong, is_kept, kept_stays, near_new, none_wrong_new}
use Rattle.pl_bounds.proofs.Made.{follows, whole_then}
use Rattle.pl_bounds.proofs.Reopened.{again, is_new, stands_again}
use Rattle.pl_bounds.proofs.Others.{deletion_leaves, shift_leaves, top_held}
use Rattle.pl_bounds.proofs.Shifted.{LandsOff, lands_off, off_beside_unmoved, shift_left}
use Rattle.pl_bounds.proofs.Leaving.{AreLeft, left_few, standing_apart, with_one}
use Rattle.pl_bounds.proofs.Opens.{wrong_stands}
use Rattle.pl_bounds.proofs.Unchosen.{unchosen}

-- ---- a deletion

module _ (s : PlanState) (whole : IsWhole s) (next : s.next_id ≤ 3999999000) (id : ℕ) (can : CanBeMade s (Delete id)) where
  abbrev gone : PlanState
  gone = applied s (Delete id)

  abbrev is_other : Conflict → Bool
  is_other = is_elsewhere (subtree_of id s.plan.activities)

  abbrev others_than : List Conflict
  others_than = filter is_other (conflicts_of s)

  whole_gone : IsWhole gone
  whole_gone = whole_then s whole next (Delete id) tt can

  stay_then : (q : Conflict) → has q others_than ≡ true → (has q (conflicts_of gone) ≡ true) × (is_plain q ≡ true)
  stay_then = deletion_leaves s whole next id can

  others_left_then : AreLeft gone others_than
  others_left_then = record { apart = standing_apart s is_other; each = stay_then }

  -- one comes where its goal is open again
  one_comes : (of : IsOpenWithout s id) → AreLeft gone (again s whole id of whole_gone ∷ others_than)
  one_comes of = with_one gone others_than others_left_then (again s whole id of whole_gone) not_there (stands_again s whole id of whole_gone) refl
    where
      not_there : has (again s whole id of whole_gone) others_than ≡ false
      not_there = false_from_ne_true (has (again s whole id of whole_gone) others_than) (λ h. absurd (
          let there = (has_passing is_other (conflicts_of s) (again s whole id of whole_gone) h).0 in
          let bad : true ≡ false = sym there ∙ is_new s whole id of whole_gone in
          cc))

  pub delete_left : (most : ℕ) → most ≤ count_of_elsewhere s (subtree_of id s.plan.activities) → (b : Bool) → (b ≡ true → IsOpenWithout s id) → most + cond b 1 0 ≤ count_of_plain gone
  delete_left most low true so = let left = left_few gone (again s whole id (so refl) whole_gone ∷ others_than) (one_comes (so refl)) in omega (arith, low, left)
  delete_left most low false so = let left = left_few gone others_than others_left_then in omega (arith, low, left)

-- ---- a new root

module _ (s : PlanState) (whole : IsWhole s) (next : s.next_id ≤ 3999999000) (kind start : ℕ) (goal : Option ℕ) (can : CanBeMade s (Add kind start goal)) where
  abbrev then_ : PlanState
  then_ = applied s (Add kind start goal)

  -- what stands near it
  abbrev wrong : List Conflict
  wrong = near s (touched_goals s [] (root_for s kind start goal ∷ [])) (touched_ids s [] (root_for s kind start goal ∷ []))

  abbrev others : List Conflict
  others = filter (is_kept wrong) (conflicts_of s)

  -- what stands for the new root
  abbrev new : Conflict
  new = at_start (root_for s kind start goal) Undetailed 0 0

  stay : (q : Conflict) → has q others ≡ true → (has q (conflicts_of then_) ≡ true) × (is_plain q ≡ true)
  stay = kept_stays s then_ whole (whole_then s whole next (Add kind start goal) tt can) (touched_goals s [] (root_for s kind start goal ∷ [])) (touched_ids s [] (root_for s kind start goal ∷ [])) (follows s whole next (Add kind start goal) tt can)

  -- an activity that is not there yet has no conflicts
  none_of_new : (q : Conflict) → part_of q.code ≡ of_activities → q.subject ≡ s.next_id → has q others ≡ false
  none_of_new q is subject = false_from_ne_true (has q others) (λ h. absurd (
      let there : has q (conflicts_of s) ≡ true = (has_passing (is_kept wrong) (conflicts_of s) q h).0 in
      let own : has q (wrong_of s q.subject) ≡ true = wrong_stands s whole q is there in
      let none : wrong_of s q.subject ≡ [] = ap (wrong_of s) subject ∙ none_wrong_new s whole in
      let bad : false ≡ true = sym (ap (λ (ks : List Conflict). has q ks) none) ∙ own in
      cc))

  others_left : AreLeft then_ others
  others_left = record { apart = standing_apart s (is_kept wrong); each = stay }

  -- one more where the kind has alternatives
  abbrev first : Bool → List Conflict
  first true = others
  first false = new ∷ others

  first_left : (b : Bool) → eqb (length (alternatives_of (slice_get s.model.kinds kind))) 0 ≡ b → AreLeft then_ (first b)
  first_left true e = others_left
  first_left false e = with_one then_ others others_left new (none_of_new new refl refl) (unchosen s kind start goal can.allowed e) refl

  -- and one more where a value is not set
  second_left : (b : Bool) → eqb (length (alternatives_of (slice_get s.model.kinds kind))) 0 ≡ b → (u : HasUnset then_ s.next_id) → AreLeft then_ (u.q ∷ first b)
  second_left b e u = with_one then_ (first b) (first_left b e) u.q (apart_of b) u.there (ap (λ c. is_plain_part (part_of c)) u.why)
    where
      of_part : part_of u.q.code ≡ of_activities
      of_part = ap part_of u.why

      differ : same u.q new ≡ false
      differ = false_from_ne_true (same u.q new) (λ h. absurd (let is : u.q ≡ new = same_is u.q new h in let bad : code.Unset ≡ code.Undetailed = sym u.why ∙ ap (λ (k : Conflict). k.code) is in cc))

      apart_of : (b : Bool) → has u.q (first b) ≡ false
      apart_of true = none_of_new u.q of_part u.of
      apart_of false = ap (λ x. x || has u.q others) differ ∙ none_of_new u.q of_part u.of

  enough : (most : ℕ) → most ≤ count_of_plain s → most ≤ length others + length (option_to_list goal)
  enough most low = let all = all_but_wrong s wrong in let few = near_new s whole kind start goal in omega (arith, all, few, low)

  -- all but the goal that it serves, one more where its kind has alternatives, and one more where a value of it is not set
  add_left : (most : ℕ) → most ≤ count_of_plain s → (u : Bool) → (u ≡ true → IsUnsetThen s kind goal) → (n : ℕ) → n ≤ ((most - length (option_to_list goal)) + least_known s (Add kind start goal)) + cond u 1 0 → n ≤ count_of_plain then_
  add_left most low u so n few = by_both (eqb (length (alternatives_of (slice_get s.model.kinds kind))) 0) refl u so few
    where
      by_both : (b : Bool) → eqb (length (alternatives_of (slice_get s.model.kinds kind))) 0 ≡ b → (u : Bool) → (u ≡ true → IsUnsetThen s kind goal) → n ≤ ((most - length (option_to_list goal)) + cond b 0 1) + cond u 1 0 → n ≤ count_of_plain then_
      by_both true e true so few = let left = left_few then_ _ (second_left true e (so refl start can)) in let more = enough most low in omega (arith, more, left, few)
      by_both true e false so few = let left = left_few then_ _ (first_left true e) in let more = enough most low in omega (arith, more, left, few)
      by_both false e true so few = let left = left_few then_ _ (second_left false e (so refl start can)) in let more = enough most low in omega (arith, more, left, few)
      by_both false e false so few = let left = left_few then_ _ (first_left false e) in let more = enough most low in omega (arith, more, left, few)

-- whenever it starts
pub new_left : (s : PlanState) → IsWhole s → s.next_id ≤ 3999999000 → (kind start : ℕ) (goal : Option ℕ) (most : ℕ) → most ≤ count_of_plain s → (u : Bool) → (u ≡ true → IsUnsetThen s kind goal) → (n : ℕ) → n ≤ ((most - length (option_to_list goal)) + least_known s (Add kind start goal)) + cond u 1 0 → IsLeftByNew s kind goal n
new_left s whole next kind start goal most low u so n few = λ to can. add_left s whole next kind to goal can most low u so n few

-- ---- a shift

module _ (s : PlanState) (whole : IsWhole s) (next : s.next_id ≤ 3999999000) (id : ℕ) where
  -- one more where the root that it moves starts outside the window of its goal
  with_off : (n to : ℕ) → CanBeMade s (Shift id to) → n ≤ count_of_plain (applied s (Shift id to)) → (LandsOff s id to → suc n ≤ count_of_plain (applied s (Shift id to))) → (w : Option Window) → IfSome w (λ x. IsWindowOf s id x) → or_one_more w to n ≤ count_of_plain (applied s (Shift id to))
  with_off n to can left more None of = omega (arith, left)
  with_off n to can left more (Some w) of = by (is_off (Some w) to) refl
    where
      by : (b : Bool) → is_off (Some w) to ≡ b → n + cond b 1 0 ≤ count_of_plain (applied s (Shift id to))
      by true e = let one = more (lands_off s whole next id to can of.g of.served (ap (λ (x : Window). is_off (Some x) to) (sym of.is) ∙ e)) in omega (arith, one)
      by false e = omega (arith, left)

  -- as many open goals, and as many that are wrong with activities but for their starts
  pub unmoved_left : (o : Standing) → IsStandingOf s o → (n : ℕ) → n ≤ o.unmoved → IsLeftByShift s id n
  unmoved_left o of n few w window to can =
      let most = of.unmoved in
      with_off n to can
      (let left = shift_left s whole next id to can in omega (arith, few, most, left))
      (λ off. let left = off_beside_unmoved s whole next id to can off in omega (arith, few, most, left))
      w window

  abbrev others_of : List Conflict
  others_of = filter (is_elsewhere (subtree_of id s.plan.activities)) (conflicts_of s)

  others_left_by : (to : ℕ) → CanBeMade s (Shift id to) → AreLeft (applied s (Shift id to)) others_of
  others_left_by to can = record { apart = standing_apart s (is_elsewhere (subtree_of id s.plan.activities)); each = shift_leaves s whole next id to can }

  off_beside : (to : ℕ) → CanBeMade s (Shift id to) → LandsOff s id to → suc (length others_of) ≤ count_of_plain (applied s (Shift id to))
  off_beside to can off = left_few (applied s (Shift id to)) (off.k ∷ others_of) (with_one (applied s (Shift id to)) others_of (others_left_by to can) off.k none off.stands (ap (λ c. is_plain_part (part_of c)) off.why))
    where
      own : among off.k.subject (subtree_of id s.plan.activities) ≡ true
      own = ap (λ n. among n (subtree_of id s.plan.activities)) off.of ∙ top_held s whole id (named_live s (Shift id to) can.proper)

      none : has off.k others_of ≡ false
      none = false_from_ne_true (has off.k others_of) (λ h. absurd (
          let passes = (has_passing (is_elsewhere (subtree_of id s.plan.activities)) (conflicts_of s) off.k h).1 in
          let either = and_second (is_plain off.k) (is_open_one off.k || not (among off.k.subject (subtree_of id s.plan.activities))) passes in
          let closed : is_open_one off.k ≡ false = ap (λ c. eqb (code_number c) 0) off.why in
          let neither : (is_open_one off.k || not (among off.k.subject (subtree_of id s.plan.activities))) ≡ false = ap (λ b. b || not (among off.k.subject (subtree_of id s.plan.activities))) closed ∙ ap (λ b. not b) own in
          let bad : false ≡ true = sym neither ∙ either in
          cc))

  -- and all but what is wrong with its subtree
  but_own_left : (n : ℕ) → n ≤ count_of_elsewhere s (subtree_of id s.plan.activities) → IsLeftByShift s id n
  but_own_left n few w window to can =
      with_off n to can
      (let left = left_few (applied s (Shift id to)) others_of (others_left_by to can) in omega (arith, few, left))
      (λ off. let left = off_beside to can off in omega (arith, few, left))
      w window

  -- the greater of both
  pub greater_left : (o : Standing) → IsStandingOf s o → (others : ℕ) → others ≤ count_of_elsewhere s (subtree_of id s.plan.activities) → (n : ℕ) → n ≤ max o.unmoved others → IsLeftByShift s id n
  greater_left o of others most n few w window to can =
      let one = unmoved_left o of o.unmoved (omega arith) w window to can in
      let other = but_own_left others most w window to can in
      omega (arith, few, one, other)
