-- A value of a new root that is not set in a plan of its own is not set.
use Rattle.std.proofs.Common.{◌≡◌, ℕ, ◌≤◌, eqb, Bool, true, false, List, [], ◌∷◌, ◌++◌, map, Option, Some, None, refl, sym, ap, ◌∙◌, subst, arith}
use Rattle.std.specs.Prelude.{◌||◌}
use Rattle.std.specs.List.{list_any}
use Rattle.std.proofs.lemmas.Bool.{le-ltb}
use Rattle.std.proofs.lemmas.List.Elements.{All-head}
use Rattle.std.proofs.lemmas.List.{append-nil}
use Rattle.std.proofs.Math.Bool.{or-true}
use Rattle.pl_lists.proofs.Tests.{or_second_true}
use Rattle.pl_update.specs.Changes.Replaced.{with_plan}
use Rattle.pl_update.proofs.AboutChanges.Keeping.{whole_replaced}
use Rattle.pl_conflict.specs.declared.conflict.Conflict.{Conflict}
use Rattle.pl_conflict.specs.declared.conflict.Code.{Code}
use Rattle.pl_conflict.specs.declared.conflict.Code.TheVariants as code
use Rattle.pl_conflict.specs.Codes.{code_number}
use Rattle.pl_conflict.specs.Order.{has}
use Rattle.pl_conflict.proofs.Sorting.{same, has-append, same_itself}
use Rattle.pl_moves.specs.Runs.{CanBeMade}
use Rattle.pl_update.specs.GoalsAndActivities.Near.{near}
use Rattle.pl_plan.specs.declared.activity.Activity.{Activity}
use Rattle.pl_plan.specs.declared.repair.RepairMove.TheVariants.{Add}
use Rattle.pl_plan.specs.Fitting.{kind_of}
use Rattle.pl_plan.specs.Values.{Row}
use Rattle.pl_semantics.specs.declared.plan_state.PlanState.{PlanState}
use Rattle.pl_semantics.specs.PlanStates.{floor_of, found, is_committed, of_found}
use Rattle.pl_semantics.specs.Goals.{off_at, off_of}
use Rattle.pl_semantics.specs.Activities.{wrong_at, wrong_of}
use Rattle.pl_semantics.specs.Legal.{MayBeMade}
use Rattle.pl_semantics.specs.Moves.{root_for}
use Rattle.pl_semantics.specs.Whole.{IsWhole}
use Rattle.pl_semantics.proofs.Owning.{each_found}
use Rattle.pl_semantics.proofs.Refusing.{may}
use Rattle.pl_semantics.proofs.Subjects.{wrong_is}
use Rattle.pl_bounds.specs.Askings.{only, without_goal}
use Rattle.pl_bounds.specs.Standing.{is_unset_one, HasUnset, IsUnsetThen}
use Rattle.pl_bounds.proofs.Adding.{by_replacing, found_then, itself, may_replace, row, row_alone, row_then}
use Rattle.pl_bounds.proofs.Opens.{IsOff, off_code, wrong_is_left}
use Rattle.pl_bounds.proofs.Restarted.{among_fixed, at, fixed_among, fixed_at, fixed_by, fixed_is, fixed_moved, has_at, is_fixed}

-- ---- one of a list that tells it

record IsOneOf (p : Conflict → Bool) (ks : List Conflict) : Type 0 where
  q : Conflict
  there : has q ks ≡ true
  passes : p q ≡ true

one_of : (p : Conflict → Bool) (ks : List Conflict) → list_any p ks ≡ true → IsOneOf p ks
one_of p [] h = absurd (cc)
one_of p (k ∷ ks) h = by (p k) refl h (one_of p ks)
  where
    by : (b : Bool) → p k ≡ b → (b || list_any p ks) ≡ true → (list_any p ks ≡ true → IsOneOf p ks) → IsOneOf p (k ∷ ks)
    by true e there more = record { q = k; there = ap (λ b. b || has k ks) (same_itself k); passes = e }
    by false e there more = let one : IsOneOf p ks = more there in record { q = one.q; there = ap (λ b. same one.q k || b) one.there ∙ or-true (same one.q k); passes = one.passes }

pub code_unset : (c : Code) → eqb (code_number c) 3 ≡ true → c ≡ code.Unset
code_unset code.Unset e = refl
code_unset _ e = absurd (cc)

-- near it alone, one that tells it is of the activity itself
of_wrong : (t : PlanState) (id : ℕ) (q : Conflict) → q.code ≡ code.Unset → has q (near t [] (id ∷ [])) ≡ true → has q (wrong_of t id) ≡ true
unfolding near
of_wrong t id q is h =
    ap (λ (ks : List Conflict). has q ks) (sym (append-nil (wrong_of t id)))
    ∙ or_second_true (has q (off_of t id ++ [])) (has q (wrong_of t id ++ [])) (sym (has-append (off_of t id ++ []) (wrong_of t id ++ []) q) ∙ h)
    (λ there. absurd (
    let mine : has q (off_of t id) ≡ true = ap (λ (ks : List Conflict). has q ks) (sym (append-nil (off_of t id))) ∙ there in
    let off : q.code ≡ code.OffGoal = each_found IsOff (off_at t) (found t id) (off_code t) q mine in
    let bad : code.Unset ≡ code.OffGoal = sym is ∙ off in
    cc))

-- ---- the root, alone and in the plan

module _ (s : PlanState) (whole : IsWhole s) (next : s.next_id ≤ 3999999000) (kind start : ℕ) (goal : Option ℕ) (can : CanBeMade s (Add kind start goal)) (t : ℕ) (can_too : CanBeMade s (Add kind t goal)) where
  abbrev alone : PlanState
  alone = only s (without_goal (root_for s kind start goal))

  abbrev then_ : PlanState
  then_ = with_plan [] (root_for s kind t goal ∷ []) s

  abbrev lone : Activity
  lone = without_goal (root_for s kind start goal)

  abbrev root : Activity
  root = root_for s kind t goal

  fixed_same : fixed_at then_ root ≡ map (at t) (fixed_at alone lone)
  fixed_same =
      fixed_is then_ root
      ∙ ap (λ (r : Row). fixed_by s.model.horizon t s.next_id (kind_of s.model root) None [] [] r) (row_then s whole next kind t goal can_too)
      ∙ sym (fixed_moved t s.model.horizon start s.next_id (kind_of s.model root) None [] [] (row s whole next kind start goal can))
      ∙ ap (λ (r : Row). map (at t) (fixed_by s.model.horizon start s.next_id (kind_of s.model root) None [] [] r)) (sym (row_alone s whole next kind start goal can))
      ∙ ap (map (at t)) (sym (fixed_is alone lone))

  planned : is_committed then_ root ≡ false
  planned =
      let made : MayBeMade s (Add kind t goal) = may s (Add kind t goal) can_too.allowed in
      let above : floor_of s ≤ t = All-head (λ (a : Activity). floor_of s ≤ a.start) root [] made.above in
      le-ltb t s.committed (omega (arith, above))

  whole_then_ : IsWhole then_
  whole_then_ = whole_replaced s [] (root ∷ []) whole (may_replace s whole next kind t goal can_too)

  has_then : list_any is_unset_one (near alone [] (s.next_id ∷ [])) ≡ true → HasUnset then_ s.next_id
  has_then h =
      let one : IsOneOf is_unset_one (near alone [] (s.next_id ∷ [])) = one_of is_unset_one (near alone [] (s.next_id ∷ [])) h in
      let why : one.q.code ≡ code.Unset = code_unset one.q.code one.passes in
      let wrong : has one.q (wrong_of alone s.next_id) ≡ true = of_wrong alone s.next_id one.q why one.there in
      let here : found alone s.next_id ≡ Some lone = itself lone in
      let mine : has one.q (wrong_at alone lone) ≡ true = sym (ap (λ (o : Option Activity). has one.q (of_found (wrong_at alone) o)) here) ∙ wrong in
      let subject : one.q.subject ≡ s.next_id = (wrong_is alone lone one.q mine).0 in
      let fixed : has one.q (fixed_at alone lone) ≡ true = (fixed_among alone lone one.q (ap is_fixed why) mine).1 in
      let moved : has (at t one.q) (fixed_at then_ root) ≡ true = ap (λ (ks : List Conflict). has (at t one.q) ks) fixed_same ∙ has_at t (fixed_at alone lone) one.q fixed in
      let wrong_then : has (at t one.q) (wrong_at then_ root) ≡ true = among_fixed then_ root (at t one.q) planned moved in
      let own : has (at t one.q) (wrong_of then_ s.next_id) ≡ true = ap (λ (o : Option Activity). has (at t one.q) (of_found (wrong_at then_) o)) (found_then s whole next kind t goal can_too) ∙ wrong_then in
      record {
        q = at t one.q;
        there = wrong_is_left then_ whole_then_ (at t one.q) (ap (λ n. has (at t one.q) (wrong_of then_ n)) subject ∙ own);
        why = why;
        of = subject;
      }

pub unset_then : (s : PlanState) → IsWhole s → s.next_id ≤ 3999999000 → (kind start : ℕ) (goal : Option ℕ) → CanBeMade s (Add kind start goal) → list_any is_unset_one (near (only s (without_goal (root_for s kind start goal))) [] (s.next_id ∷ [])) ≡ true → IsUnsetThen s kind goal
unset_then s whole next kind start goal can h = λ t can_too.
    subst (λ (w : PlanState). HasUnset w s.next_id) (by_replacing s whole next kind t goal can_too).is (has_then s whole next kind start goal can t can_too h)
