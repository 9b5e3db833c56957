-- A change of each activity of a subtree is a replacement: a shift, and a value that is set.
use Rattle.std.proofs.Common.{◌≡◌, ℕ, ◌<◌, ◌≤◌, eqb, Bool, true, false, cond, List, [], ◌∷◌, map, filter, get_or, refl, sym, ap, ◌∙◌, subst, arith}
use Rattle.std.specs.Prelude.{◌&&◌, All, ℤ, Option, Some, None, IfSome, is_some, if◌then◌else◌}
use Rattle.std.specs.Option.{option_or, option_map}
use Rattle.std.proofs.lemmas.Bool.{ne_eqb}
use Rattle.std.proofs.lemmas.List.{length-map, length-set}
use Rattle.std.proofs.lemmas.List.Elements.{All-head, All-tail, All-map, All-cons, All-nil}
use Rattle.pl_plan.specs.declared.activity.Activity.{Activity}
use Rattle.pl_plan.specs.Activities.{activity_of}
use Rattle.pl_plan.specs.Trees.{itself, descends, subtree_of}
use Rattle.pl_plan.specs.Fitting.{FitsAlone}
use Rattle.pl_plan.specs.Moves.{KeepsTree}
use Rattle.pl_plan.proofs.Climbs.{all_at}
use Rattle.pl_plan.proofs.Kept.{all_kept, each_found, found-kept, found-changed}
use Rattle.pl_plan.proofs.TreeLaws.{descends_complete}
use Rattle.pl_plan.proofs.ByLookUps.{filter_rising}
use Rattle.pl_plan.proofs.MoveLaws.{fits_changed}
use Rattle.pl_semantics.specs.declared.plan_state.PlanState.{PlanState}
use Rattle.pl_semantics.specs.PlanStates.{among, floor_of}
use Rattle.pl_semantics.specs.Whole.{IsWhole, IsCarried, HasBegun}
use Rattle.pl_semantics.specs.Moves.{is_under, moved, with_value}
use Rattle.pl_moves.specs.Changes.{assigned}
use Rattle.pl_moves.proofs.Swaps.{IsSwap, swapped_at}
use Rattle.pl_moves.proofs.Subtrees.{among_subtree, rising_map, goes_if, subtree_swap}

-- ---- lists

-- what holds of all that pass
unkept : (p : Activity → Bool) (Q : Activity → Type 0) (xs : List Activity) → All Q (filter p xs) → All (λ x. p x ≡ true → Q x) xs
unkept p Q [] all = All-nil (λ x. p x ≡ true → Q x)
unkept p Q (x ∷ xs) all = cases (p x) refl (unkept p Q xs)
  where
    cases : (b : Bool) → p x ≡ b → (All Q (filter p xs) → All (λ x. p x ≡ true → Q x) xs) → All (λ x. p x ≡ true → Q x) (x ∷ xs)
    cases true e more = let both : All Q (x ∷ filter p xs) = rw e at all in All-cons (λ x. p x ≡ true → Q x) x xs (λ h. All-head Q x (filter p xs) both) (more (All-tail Q x (filter p xs) both))
    cases false e more = let rest : All Q (filter p xs) = rw e at all in All-cons (λ x. p x ≡ true → Q x) x xs (λ h. absurd (let bad : false ≡ true = sym e ∙ h in cc)) (more rest)

unmapped : (f : Activity → Activity) (Q : Activity → Type 0) (xs : List Activity) → All Q (map f xs) → All (λ x. Q (f x)) xs
unmapped f Q [] all = All-nil (λ x. Q (f x))
unmapped f Q (x ∷ xs) all = All-cons (λ x. Q (f x)) x xs (All-head Q (f x) (map f xs) all) (unmapped f Q xs (All-tail Q (f x) (map f xs) all))

-- what has no measured end may start whenever it does
unended : (moment committed : ℕ) (a : Activity) → a.measured ≡ None → HasBegun moment committed a
unended moment committed a none = rw none tt

-- ---- a change of a subtree

-- what the change leaves as it is
pub record KeepsAll (c : Activity → Activity) : Type 0 where
  pub tree : KeepsTree c
  pub goal : (a : Activity) → (c a).goal ≡ a.goal
  pub detail : (a : Activity) → (c a).detail ≡ a.detail

module _ (s : PlanState) (whole : IsWhole s) (top : ℕ) where
  abbrev xs : List Activity
  xs = s.plan.activities

  abbrev under : Activity → Bool
  under a = descends xs top a.id

  module _ (c e : Activity → Activity) (keeps : KeepsAll c) (keeps_too : KeepsAll e) (is : (a : Activity) → e a ≡ cond (under a) (c a) a) where
    found_remade : (q : ℕ) → activity_of q (map e xs) ≡ swapped_at xs (subtree_of top xs) (map c (filter under xs)) q
    found_remade q =
        found-changed e keeps_too.tree xs q
        ∙ (by (activity_of q xs) (λ a f. (all_at (FitsAlone s.model) xs q a whole.fits.each f).1) (descends xs top q) refl
        ∙ rw (found-changed c keeps.tree (filter under xs) q, found-kept (descends xs top) xs q, among_subtree xs top q) refl)
      where
        by : (o : Option Activity) → ((a : Activity) → o ≡ Some a → a.id ≡ q) → (d : Bool) → descends xs top q ≡ d → option_map e o ≡ option_or (option_map c (cond (descends xs top q) o None)) (cond (descends xs top q && is_some o) None o)
        by None ids true f = rw f refl
        by None ids false f = rw f refl
        by (Some a) ids true f = let test : under a ≡ true = ap (λ n. descends xs top n) (ids a refl) ∙ f in rw f (ap (λ (x : Activity). Some x) (is a ∙ rw test refl))
        by (Some a) ids false f = let test : under a ≡ false = ap (λ n. descends xs top n) (ids a refl) ∙ f in rw f (ap (λ (x : Activity). Some x) (is a ∙ rw test refl))

    inside : All (λ a. among a.id (subtree_of top xs) ≡ true) (map c (filter under xs))
    inside = All-map (λ a. among a.id (subtree_of top xs) ≡ true) c (filter under xs) (all_kept under (λ a. among (c a).id (subtree_of top xs) ≡ true) xs (λ i d lt test. rw (keeps.tree.id (get_or xs i d)) (goes_if s whole top (get_or xs i d).id test (rw (each_found xs whole.rising i d lt) refl))))

    carried : All (IsCarried s.goals) (map c (filter under xs))
    carried = All-map (IsCarried s.goals) c (filter under xs) (all_kept under (λ a. IsCarried s.goals (c a)) xs (λ i d lt test. rw (keeps.goal (get_or xs i d)) (whole.carried i d lt)))

    pub remade_swap : All (HasBegun s.moment s.committed) (map c (filter under xs)) → All (λ a. FitsAlone s.model (e a)) xs → IsSwap s (subtree_of top xs) (map c (filter under xs)) (map e xs)
    remade_swap begun alone =
        subtree_swap s whole top (map c (filter under xs)) (map e xs) inside found_remade
        (rising_map c keeps.tree 0 (filter under xs) (filter_rising under 0 xs whole.rising))
        carried begun
        (rising_map e keeps_too.tree 0 xs whole.rising)
        (fits_changed s.model xs whole.rising whole.fits e keeps_too.tree keeps_too.detail alone)
        (let same = length-map xs e in omega (arith, same, whole.live))

  -- ids that come were there
  pub below_all : (c : Activity → Activity) → KeepsAll c → All (λ a. a.id < s.next_id) (map c (filter under xs))
  below_all c keeps = All-map (λ a. a.id < s.next_id) c (filter under xs) (all_kept under (λ a. (c a).id < s.next_id) xs (λ i d lt test. rw (keeps.tree.id (get_or xs i d)) (whole.ids i d lt).1))

  -- ---- a shift

  pub moved_keeps : (from to : ℕ) → KeepsAll (moved from to)
  moved_keeps from to = record { tree = record { id = λ a. refl; kind = λ a. refl; parent = λ a. refl }; goal = λ a. refl; detail = λ a. refl }

  abbrev pub shifted_one : ℕ → ℕ → Activity → Activity
  shifted_one from to a = if under a then moved from to a else a

  shifted_keeps : (from to : ℕ) → KeepsAll (shifted_one from to)
  shifted_keeps from to = record { tree = record { id = λ a. id (under a) a; kind = λ a. kind (under a) a; parent = λ a. parent (under a) a }; goal = λ a. goal (under a) a; detail = λ a. detail (under a) a }
    where
      id : (b : Bool) (a : Activity) → (if b then moved from to a else a).id ≡ a.id
      id true a = refl
      id false a = refl

      kind : (b : Bool) (a : Activity) → (if b then moved from to a else a).kind ≡ a.kind
      kind true a = refl
      kind false a = refl

      parent : (b : Bool) (a : Activity) → (if b then moved from to a else a).parent ≡ a.parent
      parent true a = refl
      parent false a = refl

      goal : (b : Bool) (a : Activity) → (if b then moved from to a else a).goal ≡ a.goal
      goal true a = refl
      goal false a = refl

      detail : (b : Bool) (a : Activity) → (if b then moved from to a else a).detail ≡ a.detail
      detail true a = refl
      detail false a = refl

  -- what is moved along has no measured end
  pub shift_swap : (from to : ℕ) → All (λ a. under a ≡ true → a.measured ≡ None) xs → All (λ a. floor_of s ≤ a.start) (map (moved from to) (filter under xs)) → All (λ a. a.start < s.model.horizon) (map (moved from to) (filter under xs)) → IsSwap s (subtree_of top xs) (map (moved from to) (filter under xs)) (map (shifted_one from to) xs)
  shift_swap from to unmeasured above within = remade_swap (moved from to) (shifted_one from to) (moved_keeps from to) (shifted_keeps from to) (λ a. refl) begun alone
    where
      begun : All (HasBegun s.moment s.committed) (map (moved from to) (filter under xs))
      begun = All-map (HasBegun s.moment s.committed) (moved from to) (filter under xs) (all_kept under (λ a. HasBegun s.moment s.committed (moved from to a)) xs (λ i d lt test. unended s.moment s.committed (moved from to (get_or xs i d)) (unmeasured i d lt test)))

      high : All (λ a. under a ≡ true → floor_of s ≤ (moved from to a).start) xs
      high = unkept under (λ a. floor_of s ≤ (moved from to a).start) xs (unmapped (moved from to) (λ a. floor_of s ≤ a.start) (filter under xs) above)

      low : All (λ a. under a ≡ true → (moved from to a).start < s.model.horizon) xs
      low = unkept under (λ a. (moved from to a).start < s.model.horizon) xs (unmapped (moved from to) (λ a. a.start < s.model.horizon) (filter under xs) within)

      one : (a : Activity) → FitsAlone s.model a → (under a ≡ true → a.measured ≡ None) → (under a ≡ true → floor_of s ≤ (moved from to a).start) → (under a ≡ true → (moved from to a).start < s.model.horizon) → (b : Bool) → under a ≡ b → FitsAlone s.model (if b then moved from to a else a)
      one a fits none up down true f = let up_from = up f in record { kind = fits.kind; start = (omega (arith, up_from), down f); set = fits.set; choice = fits.choice; measured = subst (λ (o : Option ℕ). IfSome o (λ m. ((moved from to a).start < m) × (m ≤ s.model.horizon))) (sym (none f)) tt }
      one a fits none up down false f = fits

      alone : All (λ a. FitsAlone s.model (shifted_one from to a)) xs
      alone i d lt = one (get_or xs i d) (whole.fits.each i d lt) (unmeasured i d lt) (high i d lt) (low i d lt) (under (get_or xs i d)) refl

  -- ---- a value

  pub assigned_keeps : (param : ℕ) (value : ℤ) → KeepsAll (assigned top param value)
  assigned_keeps param value = record { tree = record { id = λ a. id (eqb a.id top) a; kind = λ a. kind (eqb a.id top) a; parent = λ a. parent (eqb a.id top) a }; goal = λ a. goal (eqb a.id top) a; detail = λ a. detail (eqb a.id top) a }
    where
      id : (b : Bool) (a : Activity) → (if b then with_value param value a else a).id ≡ a.id
      id true a = refl
      id false a = refl

      kind : (b : Bool) (a : Activity) → (if b then with_value param value a else a).kind ≡ a.kind
      kind true a = refl
      kind false a = refl

      parent : (b : Bool) (a : Activity) → (if b then with_value param value a else a).parent ≡ a.parent
      parent true a = refl
      parent false a = refl

      goal : (b : Bool) (a : Activity) → (if b then with_value param value a else a).goal ≡ a.goal
      goal true a = refl
      goal false a = refl

      detail : (b : Bool) (a : Activity) → (if b then with_value param value a else a).detail ≡ a.detail
      detail true a = refl
      detail false a = refl

  pub assign_swap : (param : ℕ) (value : ℤ) → IsSwap s (subtree_of top xs) (map (assigned top param value) (filter under xs)) (map (assigned top param value) xs)
  assign_swap param value = remade_swap (assigned top param value) (assigned top param value) (assigned_keeps param value) (assigned_keeps param value) same begun alone
    where
      -- its start and its measured end stay
      begun_too : (a : Activity) (b : Bool) → HasBegun s.moment s.committed a → HasBegun s.moment s.committed (if b then with_value param value a else a)
      begun_too a true has = has
      begun_too a false has = has

      begun : All (HasBegun s.moment s.committed) (map (assigned top param value) (filter under xs))
      begun = All-map (HasBegun s.moment s.committed) (assigned top param value) (filter under xs) (all_kept under (λ a. HasBegun s.moment s.committed (assigned top param value a)) xs (λ i d lt test. begun_too (get_or xs i d) (eqb (get_or xs i d).id top) (whole.begun i d lt)))

      -- the activity itself is of its subtree
      top_under : descends xs top top ≡ true
      top_under = descends_complete xs whole.fits.rooted top top itself

      same : (a : Activity) → assigned top param value a ≡ cond (under a) (assigned top param value a) a
      same a = by (under a) refl
        where
          by : (b : Bool) → under a ≡ b → assigned top param value a ≡ cond b (assigned top param value a) a
          by true f = refl
          by false f =
              let other : eqb a.id top ≡ false = ne_eqb a.id top (λ is. let bad : true ≡ false = sym top_under ∙ (ap (λ n. descends xs top n) (sym is) ∙ f) in absurd (cc)) in
              rw other refl

      one : (a : Activity) → FitsAlone s.model a → (b : Bool) → FitsAlone s.model (if b then with_value param value a else a)
      one a fits true = record { kind = fits.kind; start = fits.start; set = length-set a.set param (Some value) ∙ fits.set; choice = fits.choice; measured = fits.measured }
      one a fits false = fits

      alone : All (λ a. FitsAlone s.model (assigned top param value a)) xs
      alone i d lt = one (get_or xs i d) (whole.fits.each i d lt) (eqb (get_or xs i d).id top)

-- an activity is of its own subtree
pub moved_within : (s : PlanState) → IsWhole s → (a : Activity) → activity_of a.id s.plan.activities ≡ Some a → (to : ℕ) → All (λ b. b.start < s.model.horizon) (map (moved a.start to) (filter (is_under s a.id) s.plan.activities)) → (moved a.start to a).start < s.model.horizon
moved_within s whole a here to within =
    let each : All (λ b. is_under s a.id b ≡ true → (moved a.start to b).start < s.model.horizon) s.plan.activities = unkept (is_under s a.id) (λ b. (moved a.start to b).start < s.model.horizon) s.plan.activities (unmapped (moved a.start to) (λ b. b.start < s.model.horizon) (filter (is_under s a.id) s.plan.activities) within) in
    (all_at (λ b. is_under s a.id b ≡ true → (moved a.start to b).start < s.model.horizon) s.plan.activities a.id a each here).0 (descends_complete s.plan.activities whole.fits.rooted a.id a.id itself)
