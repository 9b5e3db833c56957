-- A new activity whose kind has alternatives has none of them: that stands.
use Rattle.std.proofs.Common.{◌≡◌, ℕ, ◌≤◌, Bool, true, false, eqb, List, [], ◌∷◌, ◌++◌, length, refl, ap, ◌∙◌, arith, Option, None}
use Rattle.std.specs.Prelude.{◌||◌, slice_get}
use Rattle.std.specs.List.{flat_map}
use Rattle.std.proofs.lemmas.Bool.{le-ltb}
use Rattle.std.proofs.lemmas.Grind.{flat_map-append}
use Rattle.std.proofs.lemmas.List.{append-nil}
use Rattle.std.proofs.lemmas.List.Elements.{All-head}
use Rattle.std.proofs.Math.Bool.{or-true}
use Rattle.pl_conflict.specs.declared.conflict.Conflict.{Conflict}
use Rattle.pl_conflict.specs.declared.conflict.Code.TheVariants.{Undetailed}
use Rattle.pl_conflict.specs.Order.{has}
use Rattle.pl_conflict.proofs.Sorting.{has-append, same_itself}
use Rattle.pl_plan.specs.declared.activity.Activity.{Activity}
use Rattle.pl_plan.specs.declared.repair.RepairMove.TheVariants.{Add}
use Rattle.pl_plan.specs.Fitting.{alternatives_of}
use Rattle.pl_semantics.specs.declared.plan_state.PlanState.{PlanState}
use Rattle.pl_semantics.specs.PlanStates.{floor_of, is_committed, if_planned}
use Rattle.pl_semantics.specs.Activities.{at_start, late_at, unset_at, bad_values_at, undetailed_at, overrun_at, wrong_at, activity_conflicts}
use Rattle.pl_semantics.specs.Goals.{goal_conflicts}
use Rattle.pl_semantics.specs.Links.{link_conflicts}
use Rattle.pl_semantics.specs.Timelines.{timeline_conflicts}
use Rattle.pl_semantics.specs.Conflicts.{conflicts_of}
use Rattle.pl_semantics.specs.Moves.{root_for, applied, refusal_of}
use Rattle.pl_semantics.specs.Legal.{MayBeMade}
use Rattle.pl_semantics.proofs.Refusing.{may}
use Rattle.pl_semantics.proofs.Standing.{members}

has_between : (k : Conflict) (xs us ys : List Conflict) → has k us ≡ true → has k (xs ++ us ++ ys) ≡ true
has_between k xs us ys e = has-append (xs ++ us) ys k ∙ ap (λ b. b || has k ys) (has-append xs us k ∙ ap (λ b. has k xs || b) e ∙ or-true (has k xs))

has_planned : (k : Conflict) (committed : Bool) (ks : List Conflict) → committed ≡ false → has k ks ≡ true → has k (if_planned committed ks) ≡ true
has_planned k true ks e there = absurd (cc)
has_planned k false ks e there = there

-- what is wrong with an activity that is not committed, and has none of the alternatives of its kind
pub wrong_new : (t : PlanState) (a : Activity) → is_committed t a ≡ false → undetailed_at t a ≡ at_start a Undetailed 0 0 ∷ [] → has (at_start a Undetailed 0 0) (wrong_at t a) ≡ true
unfolding wrong_at
wrong_new t a planned undetailed =
    let k : Conflict = at_start a Undetailed 0 0 in
    let early : List Conflict = late_at t a ++ unset_at t a ++ bad_values_at t a in
    has_planned k (is_committed t a) (early ++ undetailed_at t a ++ overrun_at t a) planned (has_between k early (undetailed_at t a) (overrun_at t a) (ap (has k) undetailed ∙ ap (λ b. b || false) (same_itself k)))

pub unchosen : (s : PlanState) (kind start : ℕ) (goal : Option ℕ) → refusal_of s (Add kind start goal) ≡ None → eqb (length (alternatives_of (slice_get s.model.kinds kind))) 0 ≡ false
    → has (at_start (root_for s kind start goal) Undetailed 0 0) (conflicts_of (applied s (Add kind start goal))) ≡ true
unfolding applied
unchosen s kind start goal allowed some =
    let root : Activity = root_for s kind start goal in
    let t : PlanState = applied s (Add kind start goal) in
    let k : Conflict = at_start root Undetailed 0 0 in
    let made : MayBeMade s (Add kind start goal) = may s (Add kind start goal) allowed in
    let above : floor_of s ≤ start = All-head (λ (a : Activity). floor_of s ≤ a.start) root [] made.above in
    let after : s.committed ≤ start = omega (arith, above) in
    let planned : is_committed t root ≡ false = le-ltb start s.committed after in
    let wrong : has k (wrong_at t root) ≡ true = wrong_new t root planned (rw some refl) in
    let last : has k (flat_map (wrong_at t) (root ∷ [])) ≡ true = ap (has k) (append-nil (wrong_at t root)) ∙ wrong in
    let among : has k (activity_conflicts t) ≡ true =
    ap (has k) (flat_map-append (wrong_at t) s.plan.activities (root ∷ [])) ∙ has-append (flat_map (wrong_at t) s.plan.activities) (flat_map (wrong_at t) (root ∷ [])) k
    ∙ ap (λ b. has k (flat_map (wrong_at t) s.plan.activities) || b) last ∙ or-true (has k (flat_map (wrong_at t) s.plan.activities)) in
    members t k ∙ ap (λ b. has k (goal_conflicts t) || (b || (has k (link_conflicts t) || has k (timeline_conflicts t)))) among ∙ or-true (has k (goal_conflicts t))
