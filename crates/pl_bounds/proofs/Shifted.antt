-- A shift leaves the open goals, and what is wrong with activities but for their starts.
use Rattle.std.proofs.Common.{◌≡◌, ℕ, suc, ◌+◌, ◌-◌, ◌≤◌, eqb, Bool, true, false, cond, List, [], ◌∷◌, map, filter, length, Option, Some, None, refl, sym, ap, ◌∙◌, subst, inl, inr, arith}
use Rattle.std.specs.Prelude.{◌||◌, ◌⊎◌, All, if◌then◌else◌, nat_lt, option_and_then}
use Rattle.std.specs.List.{filter_map}
use Rattle.std.specs.Option.{option_map}
use Rattle.std.proofs.lemmas.Bool.{le-ltb, false_from_ne_true}
use Rattle.std.proofs.lemmas.List.{length-map}
use Rattle.std.proofs.Math.Bool.{or-true}
use Rattle.std.proofs.lemmas.Option.{same_Some}
use Rattle.pl_conflict.specs.declared.conflict.Conflict.{Conflict}
use Rattle.pl_conflict.specs.declared.conflict.Code.{Code}
use Rattle.pl_conflict.specs.declared.conflict.Code.TheVariants as code
use Rattle.pl_conflict.specs.Codes.{code_number}
use Rattle.pl_conflict.specs.Order.{has}
use Rattle.pl_conflict.proofs.Sorting.{same, same_is, same_itself}
use Rattle.pl_facts.specs.declared.goal.Goal.{Goal}
use Rattle.pl_moves.specs.Changes.{placed_by}
use Rattle.pl_moves.specs.Runs.{CanBeMade}
use Rattle.pl_moves.proofs.Made.{named_live}
use Rattle.pl_plan.specs.declared.activity.Activity.{Activity}
use Rattle.pl_plan.specs.declared.repair.RepairMove.TheVariants.{Shift}
use Rattle.pl_plan.specs.Activities.{IsLive, activity_of}
use Rattle.pl_plan.specs.Fitting.{FitsAlone}
use Rattle.pl_plan.specs.Moves.{KeepsTree}
use Rattle.pl_plan.specs.Serving.{served_in, is_served}
use Rattle.pl_plan.specs.Trees.{descends, itself}
use Rattle.pl_plan.proofs.TreeLaws.{descends_complete}
use Rattle.pl_plan.proofs.Climbs.{all_at}
use Rattle.pl_plan.proofs.Kept.{found-changed, found-kept}
use Rattle.pl_semantics.specs.declared.plan_state.PlanState.{PlanState}
use Rattle.pl_semantics.specs.PlanStates.{among, floor_of, found, goal_at, if_planned, is_committed, of_found, served_by, when}
use Rattle.pl_semantics.specs.Goals.{off_at, off_from, off_goal, off_of}
use Rattle.pl_semantics.specs.Activities.{wrong_at, wrong_of}
use Rattle.pl_semantics.specs.Conflicts.{conflicts_of}
use Rattle.pl_semantics.specs.Moves.{applied, is_under, moved, with_activities}
use Rattle.pl_semantics.specs.Parts.{part_of, of_activities}
use Rattle.pl_semantics.specs.Whole.{IsWhole}
use Rattle.pl_semantics.proofs.Refusing.{may}
use Rattle.pl_bounds.specs.Counts.{AreApart}
use Rattle.pl_update.specs.Evaluations.Shifted.{still}
use Rattle.pl_bounds.specs.Plain.{is_plain, is_plain_part, count_of_plain}
use Rattle.pl_bounds.specs.Standing.{is_unmoved, is_unmoved_one, count_of_unmoved, IsServedBy}
use Rattle.pl_bounds.proofs.Differing.{has_passing}
use Rattle.pl_bounds.proofs.Leaving.{AreLeft, left_few, standing_apart, with_one}
use Rattle.pl_bounds.proofs.Opens.{moved_served, off_is_left, open_not_served, open_stands, untouched, wrong_stands, wrong_is_left}
use Rattle.pl_bounds.proofs.Restarted.{at, fixed_among, fixed_at, fixed_from, fixed_stays, found_then, is_fixed}
use Rattle.pl_bounds.proofs.Made.{stays, whole_then}

-- ---- lists

record IsFrom (f : Conflict → Conflict) (ks : List Conflict) (q : Conflict) : Type 0 where
  k : Conflict
  there : has k ks ≡ true
  is : q ≡ f k

from_map : (f : Conflict → Conflict) (ks : List Conflict) (q : Conflict) → has q (map f ks) ≡ true → IsFrom f ks q
from_map f [] q h = absurd (cc)
from_map f (k ∷ ks) q h = by (same q (f k)) refl h (from_map f ks q)
  where
    by : (b : Bool) → same q (f k) ≡ b → (b || has q (map f ks)) ≡ true → (has q (map f ks) ≡ true → IsFrom f ks q) → IsFrom f (k ∷ ks) q
    by true e there more = record { k = k; there = ap (λ b. b || has k ks) (same_itself k); is = same_is q (f k) e }
    by false e there more = let from : IsFrom f ks q = more there in record { k = from.k; there = ap (λ b. same from.k k || b) from.there ∙ or-true (same from.k k); is = from.is }

behind : (f : Conflict → Conflict) (k : Conflict) (ks : List Conflict) → ((q r : Conflict) → has q (k ∷ ks) ≡ true → has r (k ∷ ks) ≡ true → f q ≡ f r → q ≡ r) → (q r : Conflict) → has q ks ≡ true → has r ks ≡ true → f q ≡ f r → q ≡ r
behind f k ks one q r h g e = one q r (ap (λ b. same q k || b) h ∙ or-true (same q k)) (ap (λ b. same r k || b) g ∙ or-true (same r k)) e

apart_map : (f : Conflict → Conflict) (ks : List Conflict) → AreApart ks → ((q r : Conflict) → has q ks ≡ true → has r ks ≡ true → f q ≡ f r → q ≡ r) → AreApart (map f ks)
apart_map f [] apart one = tt
apart_map f (k ∷ ks) apart one = (
  false_from_ne_true (has (f k) (map f ks)) (λ h. absurd (
      let from : IsFrom f ks (f k) = from_map f ks (f k) h in
      let is : k ≡ from.k = one k from.k (ap (λ b. b || has k ks) (same_itself k)) (ap (λ b. same from.k k || b) from.there ∙ or-true (same from.k k)) from.is in
      let bad : true ≡ false = sym from.there ∙ (ap (λ (z : Conflict). has z ks) (sym is) ∙ apart.0) in
      cc)),
  apart_map f ks apart.1 (behind f k ks one),
)

-- ---- codes

abbrev is_zero : Code → Bool
is_zero c = eqb (code_number c) 0

open_or_fixed : (c : Code) → is_unmoved c ≡ true → (is_zero c ≡ true) ⊎ ((is_fixed c ≡ true) × (is_zero c ≡ false))
open_or_fixed code.OpenGoal e = inl refl
open_or_fixed code.Unset e = inr (refl, refl)
open_or_fixed code.BadValue e = inr (refl, refl)
open_or_fixed code.Undetailed e = inr (refl, refl)
open_or_fixed _ e = absurd (cc)

unmoved_plain : (c : Code) → is_unmoved c ≡ true → is_plain_part (part_of c) ≡ true
unmoved_plain code.OpenGoal e = refl
unmoved_plain code.Unset e = refl
unmoved_plain code.BadValue e = refl
unmoved_plain code.Undetailed e = refl
unmoved_plain _ e = absurd (cc)

fixed_part : (c : Code) → is_fixed c ≡ true → part_of c ≡ of_activities
fixed_part code.Unset e = refl
fixed_part code.BadValue e = refl
fixed_part code.Undetailed e = refl
fixed_part _ e = absurd (cc)

-- ---- an activity's own

record IsOwn (s : PlanState) (q : Conflict) : Type 0 where
  a : Activity
  here : found s q.subject ≡ Some a
  planned : is_committed s a ≡ false
  among : has q (fixed_at s a) ≡ true

own : (s : PlanState) → IsWhole s → (q : Conflict) → is_fixed q.code ≡ true → has q (conflicts_of s) ≡ true → IsOwn s q
own s whole q fixed there = by (found s q.subject) refl (wrong_stands s whole q (fixed_part q.code fixed) there)
  where
    by : (o : Option Activity) → found s q.subject ≡ o → has q (of_found (wrong_at s) o) ≡ true → IsOwn s q
    by None e h = absurd (let bad : false ≡ true = h in cc)
    by (Some a) e h = let both = fixed_among s a q fixed h in record { a = a; here = e; planned = both.0; among = both.1 }

-- a conflict of the activity of this id, which a shift of it leaves, because its goal does not allow its start then
pub record LandsOff (s : PlanState) (id to : ℕ) : Type 0 where
  pub k : Conflict
  pub stands : has k (conflicts_of (applied s (Shift id to))) ≡ true
  pub why : k.code ≡ code.OffGoal
  pub of : k.subject ≡ id

-- ---- activities moved along

abbrev start_in : Option Activity → ℕ
start_in None = 0
start_in (Some a) = a.start

module _ (s : PlanState) (whole : IsWhole s) (next : s.next_id ≤ 3999999000) (id to : ℕ) (can : CanBeMade s (Shift id to)) (top : Activity) (here : found s id ≡ Some top) where
  abbrev xs : List Activity
  xs = s.plan.activities

  abbrev e : Activity → Activity
  e a = if is_under s top.id a then moved top.start to a else a

  abbrev then_ : PlanState
  then_ = with_activities s (map e s.plan.activities)

  is_then : applied s (Shift id to) ≡ then_
  unfolding applied
  is_then = rw here refl

  kept_by : (b : Bool) (a : Activity) → still (cond b (moved top.start to a) a) ≡ still a
  kept_by true a = refl
  kept_by false a = refl

  keeps : (a : Activity) → still (e a) ≡ still a
  keeps a = kept_by (is_under s top.id a) a

  whole_too : IsWhole then_
  whole_too = subst (λ (t : PlanState). IsWhole t) is_then (whole_then s whole next (Shift id to) tt can)

  moves_tree : KeepsTree (moved top.start to)
  moves_tree = record { id = λ a. refl; kind = λ a. refl; parent = λ a. refl }

  above : All (λ (b : Activity). floor_of s ≤ b.start) (map (moved top.start to) (filter (is_under s top.id) xs))
  above = rw here at (may s (Shift id to) can.allowed).above

  -- what it moves is not committed then
  moved_free : (q : ℕ) (a : Activity) → found s q ≡ Some a → is_under s top.id a ≡ true → is_committed then_ (moved top.start to a) ≡ false
  moved_free q a at_q f =
      let is_id : a.id ≡ q = (all_at (FitsAlone s.model) xs q a whole.fits.each at_q).1 in
      let under : descends xs top.id q ≡ true = ap (λ n. descends xs top.id n) (sym is_id) ∙ f in
      let among : activity_of q (filter (is_under s top.id) xs) ≡ Some a = found-kept (descends xs top.id) xs q ∙ rw under at_q in
      let along : activity_of q (map (moved top.start to) (filter (is_under s top.id) xs)) ≡ Some (moved top.start to a) = found-changed (moved top.start to) moves_tree (filter (is_under s top.id) xs) q ∙ ap (option_map (moved top.start to)) among in
      let low : floor_of s ≤ (moved top.start to a).start = (all_at (λ (b : Activity). floor_of s ≤ b.start) (map (moved top.start to) (filter (is_under s top.id) xs)) q (moved top.start to a) above along).0 in
      le-ltb (moved top.start to a).start s.committed (omega (arith, low))

  -- and what is not committed is not committed then
  still_free : (q : ℕ) (a : Activity) → found s q ≡ Some a → is_committed s a ≡ false → is_committed then_ (e a) ≡ false
  still_free q a at_q free = by (is_under s top.id a) refl
    where
      by : (b : Bool) → is_under s top.id a ≡ b → is_committed then_ (cond b (moved top.start to a) a) ≡ false
      by false f = free
      by true f = moved_free q a at_q f

  -- ---- conflicts, moved along

  abbrev along : Conflict → Conflict
  along q = cond (is_zero q.code) q (at (start_in (found then_ q.subject)) q)

  same_code : (b : Bool) (n : ℕ) (q : Conflict) → (cond b q (at n q)).code ≡ q.code
  same_code true n q = refl
  same_code false n q = refl

  along_code : (q : Conflict) → (along q).code ≡ q.code
  along_code q = same_code (is_zero q.code) (start_in (found then_ q.subject)) q

  open_along : (q : Conflict) → is_zero q.code ≡ true → along q ≡ q
  open_along q f = ap (λ b. cond b q (at (start_in (found then_ q.subject)) q)) f

  fixed_along : (q : Conflict) → is_zero q.code ≡ false → along q ≡ at (start_in (found then_ q.subject)) q
  fixed_along q f = ap (λ b. cond b q (at (start_in (found then_ q.subject)) q)) f

  -- ---- they stand

  served : (n : ℕ) → among n (filter_map served_in (placed_by s (Shift id to))) ≡ true → is_served n s.plan.activities ≡ true
  served n h = let there : among n (filter_map served_in (map (moved top.start to) (filter (is_under s top.id) xs))) ≡ true = rw here at h in moved_served n top.start to (is_under s top.id) xs there

  open_then : (q : Conflict) → is_zero q.code ≡ true → has q (conflicts_of s) ≡ true → has q (conflicts_of then_) ≡ true
  open_then q opened there =
      let free = open_not_served s q (open_stands s whole q opened there) in
      subst (λ (t : PlanState). has q (conflicts_of t) ≡ true) is_then
      (stays s whole next (Shift id to) tt can q opened there (untouched s q.subject _ (placed_by s (Shift id to)) (served q.subject) free))

  fixed_then_ : (q : Conflict) → is_fixed q.code ≡ true → has q (conflicts_of s) ≡ true → has (at (start_in (found then_ q.subject)) q) (conflicts_of then_) ≡ true
  fixed_then_ q fixed there =
      let mine : IsOwn s q = own s whole q fixed there in
      let now : found then_ q.subject ≡ Some (e mine.a) = found_then s whole e keeps whole_too q.subject ∙ ap (option_map e) mine.here in
      let wrong : has (at (e mine.a).start q) (wrong_at then_ (e mine.a)) ≡ true = fixed_stays s whole e keeps whole_too mine.a q (still_free q.subject mine.a mine.here mine.planned) mine.among in
      let own_then : has (at (e mine.a).start q) (wrong_of then_ q.subject) ≡ true = ap (λ (o : Option Activity). has (at (e mine.a).start q) (of_found (wrong_at then_) o)) now ∙ wrong in
      subst (λ n. has (at n q) (conflicts_of then_) ≡ true) (sym (ap start_in now)) (wrong_is_left then_ whole_too (at (e mine.a).start q) own_then)

  abbrev ones : List Conflict
  ones = filter is_unmoved_one (conflicts_of s)

  stands_then : (q : Conflict) → has q ones ≡ true → (has (along q) (conflicts_of then_) ≡ true) × (is_plain (along q) ≡ true)
  stands_then q h = (by (open_or_fixed q.code both.1), ap (λ c. is_plain_part (part_of c)) (along_code q) ∙ unmoved_plain q.code both.1)
    where
      both : (has q (conflicts_of s) ≡ true) × (is_unmoved_one q ≡ true)
      both = has_passing is_unmoved_one (conflicts_of s) q h

      by : (is_zero q.code ≡ true) ⊎ ((is_fixed q.code ≡ true) × (is_zero q.code ≡ false)) → has (along q) (conflicts_of then_) ≡ true
      by (inl f) = ap (λ (k : Conflict). has k (conflicts_of then_)) (open_along q f) ∙ open_then q f both.0
      by (inr f) = ap (λ (k : Conflict). has k (conflicts_of then_)) (fixed_along q f.1) ∙ fixed_then_ q f.0 both.0

  -- ---- they differ

  from_own : (q : Conflict) (mine : IsOwn s q) → q.from ≡ mine.a.start
  from_own q mine = fixed_from s mine.a q mine.among

  fixed_one : (q r : Conflict) → is_fixed q.code ≡ true → is_fixed r.code ≡ true → has q (conflicts_of s) ≡ true → has r (conflicts_of s) ≡ true → (n m : ℕ) → at n q ≡ at m r → q ≡ r
  fixed_one q r fixed fixed_too there there_too n m f =
      let mine : IsOwn s q = own s whole q fixed there in
      let other : IsOwn s r = own s whole r fixed_too there_too in
      let subject : q.subject ≡ r.subject = ap (λ (k : Conflict). k.subject) f in
      let activity : mine.a ≡ other.a = same_Some mine.a other.a (sym mine.here ∙ ap (found s) subject ∙ other.here) in
      let start : q.from ≡ r.from = from_own q mine ∙ ap (λ (a : Activity). a.start) activity ∙ sym (from_own r other) in
      ap (at q.from) f ∙ ap (λ k. at k r) start

  one_of : (q r : Conflict) → has q ones ≡ true → has r ones ≡ true → along q ≡ along r → q ≡ r
  one_of q r h g f = by (open_or_fixed q.code both.1) (open_or_fixed r.code both_too.1)
    where
      both : (has q (conflicts_of s) ≡ true) × (is_unmoved_one q ≡ true)
      both = has_passing is_unmoved_one (conflicts_of s) q h

      both_too : (has r (conflicts_of s) ≡ true) × (is_unmoved_one r ≡ true)
      both_too = has_passing is_unmoved_one (conflicts_of s) r g

      zeros : is_zero q.code ≡ is_zero r.code
      zeros = ap is_zero (sym (along_code q) ∙ ap (λ (k : Conflict). k.code) f ∙ along_code r)

      by : (is_zero q.code ≡ true) ⊎ ((is_fixed q.code ≡ true) × (is_zero q.code ≡ false)) → (is_zero r.code ≡ true) ⊎ ((is_fixed r.code ≡ true) × (is_zero r.code ≡ false)) → q ≡ r
      by (inl x) (inl y) = sym (open_along q x) ∙ f ∙ open_along r y
      by (inl x) (inr y) = absurd (let bad : true ≡ false = sym x ∙ zeros ∙ y.1 in cc)
      by (inr x) (inl y) = absurd (let bad : true ≡ false = sym y ∙ sym zeros ∙ x.1 in cc)
      by (inr x) (inr y) = fixed_one q r x.0 y.0 both.0 both_too.0 _ _ (sym (fixed_along q x.1) ∙ f ∙ fixed_along r y.1)

  ones_are_left : AreLeft then_ (map along ones)
  ones_are_left = record {
    apart = apart_map along ones (standing_apart s is_unmoved_one) one_of;
    each = λ q h.
        let from : IsFrom along ones q = from_map along ones q h in
        subst (λ (k : Conflict). (has k (conflicts_of then_) ≡ true) × (is_plain k ≡ true)) (sym from.is) (stands_then from.k from.there);
  }

  left_then : count_of_unmoved s ≤ count_of_plain (applied s (Shift id to))
  left_then = subst (λ (t : PlanState). length ones ≤ count_of_plain t) (sym is_then) (let few = left_few then_ (map along ones) ones_are_left in omega (arith, few, length-map ones along))

  -- ---- a root that starts where its goal does not allow it

  abbrev landed : Activity
  landed = moved top.start to top

  under_itself : is_under s top.id top ≡ true
  under_itself = descends_complete xs whole.fits.rooted top.id top.id itself

  found_landed : found then_ id ≡ Some landed
  found_landed = found_then s whole e keeps whole_too id ∙ (ap (option_map e) here ∙ ap (λ b. Some (cond b landed top)) under_itself)

  lands_at : landed.start ≡ to
  lands_at = let at : (top.start + to) - top.start ≡ to = omega arith in at

  off_stands : (g : Goal) → IsServedBy s id g → (nat_lt to g.earliest || nat_lt g.latest to) ≡ true → has (off_goal landed g) (conflicts_of then_) ≡ true
  unfolding off_at
  off_stands g of out =
      let k : Conflict = off_goal landed g in
      let same_one : of.a ≡ top = same_Some of.a top (sym of.here ∙ here) in
      let serves : served_in landed ≡ Some g.number = ap served_in (sym same_one) ∙ of.serves in
      let subject : top.id ≡ id = (all_at (FitsAlone s.model) xs id top whole.fits.each here).1 in
      let own : has k (off_of then_ id) ≡ true =
      ap (λ (o : Option Activity). has k (of_found (off_at then_) o)) found_landed
      ∙ (ap (λ b. has k (if_planned b (of_found (off_from landed) (served_by then_ landed)))) (moved_free id top here under_itself)
      ∙ (ap (λ o. has k (of_found (off_from landed) (option_and_then (goal_at then_) o))) serves
      ∙ (ap (λ o. has k (of_found (off_from landed) o)) of.goal
      ∙ (ap (λ n. has k (when (nat_lt n g.earliest || nat_lt g.latest n) k)) lands_at
      ∙ (ap (λ b. has k (when b k)) out ∙ ap (λ b. b || false) (same_itself k)))))) in
      off_is_left then_ whole_too k (ap (λ n. has k (off_of then_ n)) subject ∙ own)

  off_then : (g : Goal) → IsServedBy s id g → (nat_lt to g.earliest || nat_lt g.latest to) ≡ true → LandsOff s id to
  off_then g of out = record {
    k = off_goal landed g;
    stands = subst (λ (t : PlanState). has (off_goal landed g) (conflicts_of t) ≡ true) (sym is_then) (off_stands g of out);
    why = refl;
    of = (all_at (FitsAlone s.model) xs id top whole.fits.each here).1;
  }

  -- it is none of those that are moved along
  one_more_then : LandsOff s id to → suc (count_of_unmoved s) ≤ count_of_plain (applied s (Shift id to))
  one_more_then off =
      let stands : has off.k (conflicts_of then_) ≡ true = subst (λ (t : PlanState). has off.k (conflicts_of t) ≡ true) is_then off.stands in
      let more : AreLeft then_ (off.k ∷ map along ones) = with_one then_ (map along ones) ones_are_left off.k none stands (ap (λ c. is_plain_part (part_of c)) off.why) in
      subst (λ (t : PlanState). suc (length ones) ≤ count_of_plain t) (sym is_then) (let few = left_few then_ (off.k ∷ map along ones) more in omega (arith, few, length-map ones along))
    where
      none : has off.k (map along ones) ≡ false
      none = false_from_ne_true (has off.k (map along ones)) (λ h. absurd (
          let from : IsFrom along ones off.k = from_map along ones off.k h in
          let coded : code.OffGoal ≡ from.k.code = sym off.why ∙ (ap (λ (k : Conflict). k.code) from.is ∙ along_code from.k) in
          let unmoved : is_unmoved from.k.code ≡ true = (has_passing is_unmoved_one (conflicts_of s) from.k from.there).1 in
          let bad : false ≡ true = ap is_unmoved coded ∙ unmoved in
          cc))

-- ---- any shift that can be made

of_top : (s : PlanState) (id to : ℕ) (R : Type 0) → CanBeMade s (Shift id to) → ((top : Activity) → found s id ≡ Some top → R) → R
of_top s id to R can each = by (found s id) refl
  where
    live : IsLive id s.plan.activities
    live = named_live s (Shift id to) can.proper

    by : (o : Option Activity) → found s id ≡ o → R
    by None e = absurd (let bad : false ≡ true = rw e at live in cc)
    by (Some top) e = each top e

module _ (s : PlanState) (whole : IsWhole s) (next : s.next_id ≤ 3999999000) (id to : ℕ) (can : CanBeMade s (Shift id to)) where
  pub shift_left : count_of_unmoved s ≤ count_of_plain (applied s (Shift id to))
  shift_left = of_top s id to (count_of_unmoved s ≤ count_of_plain (applied s (Shift id to))) can (left_then s whole next id to can)

  pub lands_off : (g : Goal) → IsServedBy s id g → (nat_lt to g.earliest || nat_lt g.latest to) ≡ true → LandsOff s id to
  lands_off g of out = of_top s id to (LandsOff s id to) can (λ top here. off_then s whole next id to can top here g of out)

  pub off_beside_unmoved : LandsOff s id to → suc (count_of_unmoved s) ≤ count_of_plain (applied s (Shift id to))
  off_beside_unmoved off = of_top s id to (suc (count_of_unmoved s) ≤ count_of_plain (applied s (Shift id to))) can (λ top here. one_more_then s whole next id to can top here off)
