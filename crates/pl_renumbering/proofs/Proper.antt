-- Whether a move is proper, and why it is refused, under new ids.
use Rattle.std.proofs.Common.{◌≡◌, ℕ, ◌+◌, ltb, eqb, Bool, true, false, List, length, Option, Some, None, refl, ap, ◌∙◌}
use Rattle.std.specs.Prelude.{◌&&◌, not, ℤ, map, find, slice_get, is_none, is_some}
use Rattle.std.specs.Option.{option_map}
use Rattle.pl_model.specs.Checked.{params_of}
use Rattle.pl_plan.specs.declared.activity.Activity.{Activity}
use Rattle.pl_plan.specs.declared.repair.RepairMove.{RepairMove}
use Rattle.pl_plan.specs.declared.repair.RepairMove.TheVariants.{Add, Delete, Shift, Detail, Abstract, Assign, Drop}
use Rattle.pl_plan.specs.Trees.{IsRooted}
use Rattle.pl_plan.specs.Fitting.{kind_of}
use Rattle.pl_plan.specs.Firm.{is_within}
use Rattle.pl_semantics.specs.declared.plan_state.PlanState.{PlanState}
use Rattle.pl_semantics.specs.declared.refusal.Refusal.{Refusal}
use Rattle.pl_semantics.specs.declared.refusal.Refusal.TheVariants.{Locked, Behind, Beyond}
use Rattle.pl_semantics.specs.PlanStates.{found, goal_at}
use Rattle.pl_semantics.specs.Moves.{is_free, holds, is_wanted, alternatives_at, takes_value, is_proper, is_behind, is_beyond, is_full, first_refused, or_else, full_if, refusal_of, started_by, count_of_new}
use Rattle.pl_semantics.specs.Legal.{is_legal}
use Rattle.pl_renumbering.specs.Renumbered.{KeepsOrder, AgreesAhead, renumbered_place, renumbered, renumbered_state, renumbered_move, renumbered_refusal}
use Rattle.pl_renumbering.proofs.Lists.{find_mapped, length-mapped}
use Rattle.pl_renumbering.proofs.Comings.{open_same, found_same, bindings_alike}
use Rattle.pl_renumbering.proofs.Changes.{locked_same, started_along, count_same}

holds_alike : {X : Type 0} (p q : X → Bool) → ((x : X) → p x ≡ q x) → (o : Option X) → holds p o ≡ holds q o
holds_alike p q same None = refl
holds_alike p q same (Some x) = same x

holds_mapped : {X Y : Type 0} (v : X → Y) (p : Y → Bool) (q : X → Bool) → ((x : X) → p (v x) ≡ q x) → (o : Option X) → holds p (option_map v o) ≡ holds q o
holds_mapped v p q same None = refl
holds_mapped v p q same (Some x) = same x

some_mapped : {X Y : Type 0} (v : X → Y) (o : Option X) → is_some (option_map v o) ≡ is_some o
some_mapped v None = refl
some_mapped v (Some x) = refl

no_place : (f : ℕ → ℕ) (o : Option (ℕ × ℕ)) → is_none (renumbered_place f o) ≡ is_none o
no_place f None = refl
no_place f (Some p) = refl

module _ (f : ℕ → ℕ) (next : ℕ) (s : PlanState) (keeps : KeepsOrder f) where
  abbrev t : PlanState
  t = renumbered_state f next s

  wanted_same : (kind : ℕ) (goal : Option ℕ) → is_wanted t kind goal ≡ is_wanted s kind goal
  wanted_same kind None = refl
  wanted_same kind (Some n) = holds_alike _ _ (λ g. ap (λ b. b && eqb g.kind kind) (open_same f next s g)) (goal_at s n)

  -- a test of what is found, which does not see ids
  at_found : (p q : Activity → Bool) → ((a : Activity) → p (renumbered f a) ≡ q a) → (id : ℕ) → holds p (found t (f id)) ≡ holds q (found s id)
  at_found p q same id = ap (holds p) (found_same f next s keeps id) ∙ holds_mapped (renumbered f) p q same (found s id)

  takes_same : (n : ℕ) (value : ℤ) (a : Activity) → takes_value t (renumbered f a) n value ≡ takes_value s a n value
  takes_same n value a = ap (λ b. holds (λ p. is_free b (n, p) && is_within p.low p.high (Some value)) (slice_get (params_of (kind_of s.model a)) n)) (bindings_alike f next s keeps a)

  pub proper_same : (m : RepairMove) → is_proper t (renumbered_move f m) ≡ is_proper s m
  unfolding is_proper
  proper_same (Add kind start goal) = ap (λ b. ltb kind (length s.model.kinds) && b) (wanted_same kind goal)
  proper_same (Delete id) = at_found _ _ (λ a. no_place f a.parent) id
  proper_same (Shift id start) = ap is_some (found_same f next s keeps id) ∙ some_mapped (renumbered f) (found s id)
  proper_same (Detail id alternative) = at_found _ (λ a. is_none a.detail && ltb alternative (length (alternatives_at s a))) (λ a. refl) id
  proper_same (Abstract id) = at_found _ (λ a. is_some a.detail) (λ a. refl) id
  proper_same (Assign id param value) = at_found _ _ (takes_same param value) id
  proper_same (Drop number) = holds_alike _ _ (λ g. ap (λ b. b && not g.must) (open_same f next s g)) (goal_at s number)

-- ---- refusals

module _ (f : ℕ → ℕ) where
  first_along : (why : ℕ → Refusal) → ((id : ℕ) → why (f id) ≡ renumbered_refusal f (why id)) → (p q : Activity → Bool) → ((a : Activity) → p (renumbered f a) ≡ q a) → (xs : List Activity)
      → first_refused why p (map (renumbered f) xs) ≡ option_map (renumbered_refusal f) (first_refused why q xs)
  first_along why named p q same xs = ap (option_map (λ a. why a.id)) (find_mapped (renumbered f) p q same xs) ∙ by (find q xs)
    where
      by : (o : Option Activity) → option_map (λ a. why a.id) (option_map (renumbered f) o) ≡ option_map (renumbered_refusal f) (option_map (λ a. why a.id) o)
      by None = refl
      by (Some a) = ap Some (named a.id)

  or_along : (x y : Option Refusal) (x' y' : Option Refusal) → x' ≡ option_map (renumbered_refusal f) x → y' ≡ option_map (renumbered_refusal f) y → or_else x' y' ≡ option_map (renumbered_refusal f) (or_else x y)
  or_along None y x' y' e h = ap (λ o. or_else o y') e ∙ h
  or_along (Some r) y x' y' e h = ap (λ o. or_else o y') e

  full_along : (b c : Bool) → b ≡ c → full_if b ≡ option_map (renumbered_refusal f) (full_if c)
  full_along b c e = ap full_if e ∙ by c
    where
      by : (d : Bool) → full_if d ≡ option_map (renumbered_refusal f) (full_if d)
      by true = refl
      by false = refl

module _ (f : ℕ → ℕ) (next : ℕ) (s : PlanState) (keeps : KeepsOrder f) (rooted : IsRooted s.plan.activities) (ahead : AgreesAhead f s (renumbered_state f next s)) where
  full_same : (m : RepairMove) → is_full (renumbered_state f next s) (renumbered_move f m) ≡ is_full s m
  full_same m =
      ap (λ n. ltb s.live_limit (n + count_of_new (renumbered_state f next s) (renumbered_move f m))) (length-mapped (renumbered f) s.plan.activities)
      ∙ ap (λ n. ltb s.live_limit (length s.plan.activities + n)) (count_same f next s keeps rooted ahead m)

  pub refusal_along : (m : RepairMove) → refusal_of (renumbered_state f next s) (renumbered_move f m) ≡ option_map (renumbered_refusal f) (refusal_of s m)
  unfolding refusal_of
  refusal_along m =
      or_along f _ _ _ _ (first_along f Locked (λ id. refl) _ _ (locked_same f next s keeps rooted m) s.plan.activities)
      (or_along f _ _ _ _ (ap (first_refused Behind (is_behind s)) (started_along f next s keeps rooted ahead m) ∙ first_along f Behind (λ id. refl) (is_behind s) (is_behind s) (λ a. refl) (started_by s m))
      (or_along f _ _ _ _ (ap (first_refused Beyond (is_beyond s)) (started_along f next s keeps rooted ahead m) ∙ first_along f Beyond (λ id. refl) (is_beyond s) (is_beyond s) (λ a. refl) (started_by s m))
      (full_along f _ _ (full_same m))))

  none_along : (o : Option Refusal) → is_none (option_map (renumbered_refusal f) o) ≡ is_none o
  none_along None = refl
  none_along (Some r) = refl

  pub legal_same : (m : RepairMove) → is_legal (renumbered_state f next s) (renumbered_move f m) ≡ is_legal s m
  legal_same m = ap is_none (refusal_along m) ∙ none_along (refusal_of s m)
