-- How long firm activities last, how far a model's distances reach, and the windows of goals.
use Rattle.std.proofs.Common.{◌≡◌, ℕ, ◌+◌, ◌<◌, ◌≤◌, negsuc, ◌≤ℤ◌, List, length, get_or, Option, Some, None, true, refl, arith}
use Rattle.std.specs.Prelude.{All, is_some, slice_get, option_and_then}
use Rattle.std.proofs.lemmas.Int.{ints}
use Rattle.std.proofs.lemmas.List.{get_or_default, length-map}
use Rattle.std.proofs.lemmas.List.Elements.{All-nil, All-map, All-weaker}
use Rattle.pl_lists.proofs.Elements.{all_at}
use Rattle.pl_model.specs.declared.kinds.Kind.{Kind}
use Rattle.pl_model.specs.declared.alternatives.Alternative.{Alternative}
use Rattle.pl_model.specs.declared.alternatives.Order.{Order}
use Rattle.pl_model.specs.declared.links.Link.{Link}
use Rattle.pl_model.specs.Checked.{IsCheckedKind, IsCheckedLink, IsCheckedOrder, IsCheckedAlternative, IsDistance}
use Rattle.pl_plan.specs.declared.activity.Activity.{Activity}
use Rattle.pl_plan.specs.Activities.{activity_of, AreRising}
use Rattle.pl_plan.specs.Serving.{served_in}
use Rattle.pl_facts.specs.declared.goal.Goal.{Goal}
use Rattle.pl_facts.specs.Goals.{is_numbered}
use Rattle.pl_links.specs.declared.placed.Placed.{Placed}
use Rattle.pl_links.specs.Items.{kind_of, alternatives_of}
use Rattle.pl_links.specs.Broken.{links_of, links_in, orders_of, orders_in}
use Rattle.pl_semantics.specs.declared.plan_state.PlanState.{PlanState}
use Rattle.pl_semantics.specs.PlanStates.{end_at, served_by, goal_at}
use Rattle.pl_semantics.specs.Links.{placed_of, placed_in}
use Rattle.pl_semantics.specs.Whole.{IsWhole, IsGoalOf}
use Rattle.pl_semantics.proofs.Found.{found_here, fits_alone}
use Rattle.pl_detect.proofs.Bounded.{firm_until}
use Rattle.pl_flex.specs.FlexNets.{is_firm, firm_in, end_of, goal_served}
use Rattle.pl_flex.proofs.Members.{all_passing, all_find, length-passing}

-- it starts before the horizon, and lasts from one moment on and up to the horizon's length
pub record HasEnds (horizon : ℕ) (p : Placed) : Type 0 where
  pub before : p.start < horizon
  pub after : p.start < end_of p
  pub within : end_of p ≤ p.start + horizon

all_live : (xs : List Activity) → AreRising xs → All (λ a. activity_of a.id xs ≡ Some a) xs
all_live xs rising i d h = found_here xs xs refl rising i (get_or xs i d) h (get_or_default xs i d (get_or xs i d) h)

one_ends : (s : PlanState) → IsWhole s → (a : Activity) → activity_of a.id s.plan.activities ≡ Some a → (o : Option ℕ) → end_at s a ≡ o → is_some o ≡ true → HasEnds s.model.horizon (placed_of s a)
one_ends s whole a live None e firm = absurd (cc)
one_ends s whole a live (Some end) e firm =
    let alone = fits_alone s whole a live in
    let until = (firm_until s.model s.plan.activities a end live e).1.ends alone.measured in
    record {
      before = alone.start.1;
      after = rw e until.0;
      within = rw e until.1;
    }

pub all_end : (s : PlanState) → IsWhole s → All (HasEnds s.model.horizon) (firm_in s)
all_end s whole =
    all_passing (HasEnds s.model.horizon) is_firm (placed_in s)
    (All-map (λ p. is_firm p ≡ true → HasEnds s.model.horizon p) (placed_of s) s.plan.activities
    (All-weaker (λ a. activity_of a.id s.plan.activities ≡ Some a) (λ a. is_firm (placed_of s a) ≡ true → HasEnds s.model.horizon (placed_of s a))
    (λ a live firm. one_ends s whole a live (end_at s a) refl firm)
    s.plan.activities (all_live s.plan.activities whole.rising)))

pub few_firm : (s : PlanState) → IsWhole s → length (firm_in s) ≤ 10000
few_firm s whole = omega (arith, length-passing is_firm (placed_in s), length-map {A = Activity} {B = Placed} s.plan.activities (placed_of s), whole.live, whole.limit)

-- ---- distances

links_within : (s : PlanState) → IsWhole s → (o : Option Kind) → ((k : Kind) → o ≡ Some k → IsCheckedKind s.model k) → All (λ (l : Link). IsDistance s.model.horizon l.low l.high) (links_in o)
links_within s whole None checked = All-nil (λ (l : Link). IsDistance s.model.horizon l.low l.high)
links_within s whole (Some k) checked = All-weaker (IsCheckedLink s.model) (λ l. IsDistance s.model.horizon l.low l.high) (λ l is. is.distance) k.links (checked k refl).links

pub links_near : (s : PlanState) → IsWhole s → (p : Placed) → All (λ (l : Link). IsDistance s.model.horizon l.low l.high) (links_of s.model p)
links_near s whole p = links_within s whole (kind_of s.model p) (λ k e. all_at (IsCheckedKind s.model) s.model.kinds p.kind k whole.checked.kinds e)

orders_within : (s : PlanState) (params : ℕ) (o : Option Alternative) → ((a : Alternative) → o ≡ Some a → IsCheckedAlternative s.model params a) → All (λ (x : Order). IsDistance s.model.horizon x.low x.high) (orders_in o)
orders_within s params None checked = All-nil (λ (x : Order). IsDistance s.model.horizon x.low x.high)
orders_within s params (Some a) checked = All-weaker (IsCheckedOrder s.model.horizon (length a.slots)) (λ x. IsDistance s.model.horizon x.low x.high) (λ x is. is.distance) a.orders (checked a refl).orders

orders_chosen : (s : PlanState) (o : Option Kind) → ((k : Kind) → o ≡ Some k → IsCheckedKind s.model k) → (detail : Option ℕ) → All (λ (x : Order). IsDistance s.model.horizon x.low x.high) (orders_in (option_and_then (slice_get (alternatives_of o)) detail))
orders_chosen s o checked None = All-nil (λ (x : Order). IsDistance s.model.horizon x.low x.high)
orders_chosen s None checked (Some n) = All-nil (λ (x : Order). IsDistance s.model.horizon x.low x.high)
orders_chosen s (Some k) checked (Some n) =
    orders_within s (length k.params) (slice_get k.alternatives n)
    (λ a e. all_at (IsCheckedAlternative s.model (length k.params)) k.alternatives n a (checked k refl).alternatives e)

pub orders_near : (s : PlanState) → IsWhole s → (p : Placed) → All (λ (x : Order). IsDistance s.model.horizon x.low x.high) (orders_of s.model p)
orders_near s whole p = orders_chosen s (kind_of s.model p) (λ k e. all_at (IsCheckedKind s.model) s.model.kinds p.kind k whole.checked.kinds e) p.detail

pub near_orders : (s : PlanState) → IsWhole s → (p : Placed) → All (λ (o : Order). negsuc 99999999 ≤ℤ o.low) (orders_of s.model p)
near_orders s whole p =
    All-weaker (λ (o : Order). IsDistance s.model.horizon o.low o.high) (λ o. negsuc 99999999 ≤ℤ o.low) (λ o d. omega (arith, ints, d.0, whole.checked.horizon.1)) (orders_of s.model p) (orders_near s whole p)

pub near_links : (s : PlanState) → IsWhole s → (p : Placed) → All (λ (l : Link). negsuc 99999999 ≤ℤ l.low) (links_of s.model p)
near_links s whole p =
    All-weaker (λ (l : Link). IsDistance s.model.horizon l.low l.high) (λ l. negsuc 99999999 ≤ℤ l.low) (λ l d. omega (arith, ints, d.0, whole.checked.horizon.1)) (links_of s.model p) (links_near s whole p)

-- ---- goals

served : (s : PlanState) → IsWhole s → (o : Option ℕ) (g : Goal) → option_and_then (goal_at s) o ≡ Some g → IsGoalOf s.model g
served s whole None g e = absurd (cc)
served s whole (Some n) g e = all_find (IsGoalOf s.model) (is_numbered n) s.goals g whole.goals e

served_of : (s : PlanState) → IsWhole s → (o : Option Activity) (g : Goal) → option_and_then (served_by s) o ≡ Some g → IsGoalOf s.model g
served_of s whole None g e = absurd (cc)
served_of s whole (Some a) g e = served s whole (served_in a) g e

pub goal_fits : (s : PlanState) → IsWhole s → (id : ℕ) (g : Goal) → goal_served s id ≡ Some g → IsGoalOf s.model g
goal_fits s whole id g e = served_of s whole (activity_of id s.plan.activities) g e
