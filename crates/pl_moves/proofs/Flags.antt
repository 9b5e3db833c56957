-- What a repair leaves of the goals.
use Rattle.std.proofs.Common.{◌≡◌, ℕ, eqb, Bool, true, false, List, [], ◌∷◌, map, refl, sym, ap, ◌∙◌}
use Rattle.std.specs.Prelude.{◌&&◌, ◌||◌, not, Some, None, if◌then◌else◌}
use Rattle.std.proofs.lemmas.Bool.{eqb-true}
use Rattle.pl_facts.specs.declared.goal.Goal.{Goal}
use Rattle.pl_facts.specs.Goals.{goal_of, is_numbered, with_dropped}
use Rattle.pl_plan.specs.Serving.{is_served}
use Rattle.pl_plan.specs.declared.repair.RepairMove.{RepairMove}
use Rattle.pl_plan.specs.declared.repair.RepairMove.TheVariants.{Add, Delete, Shift, Detail, Abstract, Assign, Drop}
use Rattle.pl_semantics.specs.declared.plan_state.PlanState.{PlanState}
use Rattle.pl_semantics.specs.PlanStates.{goal_at, is_open}
use Rattle.pl_semantics.specs.Whole.{IsWhole}
use Rattle.pl_semantics.specs.Moves.{holds, is_proper, refusal_of, applied}
use Rattle.pl_moves.specs.Keeping.{KeepsGoals, undropped}

same_goals : (n : ℕ) (goals : List Goal) → map undropped (with_dropped n goals) ≡ map undropped goals
same_goals n [] = refl
same_goals n (x ∷ goals) = ap (λ (l : List Goal). undropped (if is_numbered n x then record x { dropped = true } else x) ∷ l) (same_goals n goals) ∙ ap (λ (g : Goal). g ∷ map undropped goals) (by (is_numbered n x))
  where
    by : (b : Bool) → undropped (if b then record x { dropped = true } else x) ≡ undropped x
    by true = refl
    by false = refl

-- a goal of another number stands
other_stands : (k n : ℕ) → eqb k n ≡ false → (goals : List Goal) → goal_of n (with_dropped k goals) ≡ goal_of n goals
other_stands k n apart [] = refl
other_stands k n apart (x ∷ goals) = by (eqb x.number k) refl (eqb x.number n) refl (other_stands k n apart goals)
  where
    by : (b : Bool) → eqb x.number k ≡ b → (d : Bool) → eqb x.number n ≡ d → goal_of n (with_dropped k goals) ≡ goal_of n goals → goal_of n (with_dropped k (x ∷ goals)) ≡ goal_of n (x ∷ goals)
    by true e true f more = absurd (let bad : true ≡ false = sym f ∙ (ap (λ m. eqb m n) (eqb-true x.number k e) ∙ apart) in cc)
    by true e false f more = rw (e, f) more
    by false e true f more = rw (e, f) refl
    by false e false f more = rw (e, f) more

-- one that may be dropped need not be served, and is not dropped
neither : (must dropped served : Bool) → ((not dropped && not served) && not must) ≡ true → (must || dropped) ≡ true → ⊥
neither true true served e f = absurd (cc)
neither true false true e f = absurd (cc)
neither true false false e f = absurd (cc)
neither false true served e f = absurd (cc)
neither false false served e f = absurd (cc)

module _ (s : PlanState) where
  drop_test : (k : ℕ) → is_proper s (Drop k) ≡ true → holds (λ g. is_open s g && not g.must) (goal_at s k) ≡ true
  unfolding is_proper
  drop_test k proper = proper

  drop_keeps : (k : ℕ) → is_proper s (Drop k) ≡ true → KeepsGoals s (applied s (Drop k))
  unfolding applied
  drop_keeps k proper = record {
    same = same_goals k s.goals;
    stands = λ n g here kept. other_stands k n (by n g here kept (eqb k n) refl) s.goals ∙ here;
  }
    where
      by : (n : ℕ) (g : Goal) → goal_at s n ≡ Some g → (g.must || g.dropped) ≡ true → (b : Bool) → eqb k n ≡ b → eqb k n ≡ false
      by n g here kept false e = e
      by n g here kept true e =
          let found : goal_at s k ≡ Some g = ap (λ m. goal_at s m) (eqb-true k n e) ∙ here in
          let test : (is_open s g && not g.must) ≡ true = rw found at (drop_test k proper) in
          absurd (neither g.must g.dropped (is_served g.number s.plan.activities) test kept)

  same_keeps : (new : PlanState) → new.goals ≡ s.goals → KeepsGoals s new
  same_keeps new same = record {
    same = ap (λ (l : List Goal). map undropped l) same;
    stands = λ n g here kept. ap (λ (l : List Goal). goal_of n l) same ∙ here;
  }

pub keeps_goals : (s : PlanState) (m : RepairMove) → IsWhole s → is_proper s m ≡ true → refusal_of s m ≡ None → KeepsGoals s (applied s m)
unfolding applied
keeps_goals s (Add kind start goal) whole proper allowed = same_keeps s (applied s (Add kind start goal)) refl
keeps_goals s (Delete id) whole proper allowed = same_keeps s (applied s (Delete id)) refl
keeps_goals s (Shift id start) whole proper allowed = same_keeps s (applied s (Shift id start)) refl
keeps_goals s (Detail id alternative) whole proper allowed = same_keeps s (applied s (Detail id alternative)) refl
keeps_goals s (Abstract id) whole proper allowed = same_keeps s (applied s (Abstract id)) refl
keeps_goals s (Assign id param value) whole proper allowed = same_keeps s (applied s (Assign id param value)) refl
keeps_goals s (Drop goal) whole proper allowed = drop_keeps s goal proper
