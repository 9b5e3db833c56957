-- A new root: no other activity changes, and its links that find no partner are conflicts then.
use Rattle.std.proofs.Common.{◌≡◌, ℕ, ◌+◌, ◌-◌, ◌<◌, ◌≤◌, Bool, true, false, cond, eqb, leb, List, [], ◌∷◌, ◌++◌, map, Option, Some, None, refl, sym, ap, ◌∙◌, subst, arith}
use Rattle.std.specs.Prelude.{◌&&◌, ◌||◌, not, All, is_some, option_and_then}
use Rattle.std.specs.List.{list_any}
use Rattle.std.specs.Option.{option_map}
use Rattle.std.proofs.lemmas.Bool.{eq-eqb, leb-true, ne_eqb}
use Rattle.std.proofs.lemmas.List.Elements.{All-head, All-tail}
use Rattle.pl_update.specs.Changes.Replaced.{touched, with_plan}
use Rattle.pl_update.proofs.AboutChanges.Keeping.{whole_replaced}
use Rattle.pl_links.specs.declared.placed.Placed.{Placed}
use Rattle.pl_links.specs.Broken.{is_partner, lacks_partner, links_of}
use Rattle.pl_model.specs.declared.kinds.Kind.{Kind}
use Rattle.pl_model.specs.declared.links.Link.{Link}
use Rattle.pl_moves.specs.Runs.{CanBeMade}
use Rattle.pl_plan.specs.declared.activity.Activity.{Activity}
use Rattle.pl_plan.specs.declared.repair.RepairMove.TheVariants.{Add}
use Rattle.pl_plan.specs.Activities.{activity_of}
use Rattle.pl_plan.specs.Firm.{end_in, end_of, end_with}
use Rattle.pl_plan.specs.Fitting.{kind_of}
use Rattle.pl_plan.specs.Values.{Row, values_of}
use Rattle.pl_plan.proofs.Kept.{each_found}
use Rattle.pl_semantics.specs.declared.plan_state.PlanState.{PlanState}
use Rattle.pl_semantics.specs.Legal.{MayBeMade}
use Rattle.pl_semantics.specs.Links.{placed_of, placed_in}
use Rattle.pl_semantics.specs.Moves.{applied, root_for}
use Rattle.pl_semantics.specs.PlanStates.{among, end_at, found, floor_of, is_ahead, is_committed, row_of}
use Rattle.pl_semantics.specs.Whole.{IsIdBelow, IsWhole}
use Rattle.pl_semantics.proofs.Refusing.{may}
use Rattle.pl_bounds.specs.Askings.{only, without_goal}
use Rattle.pl_bounds.specs.Moved.{moved_to}
use Rattle.pl_bounds.specs.Ties.{placed_at, count_of_lone}
use Rattle.pl_bounds.proofs.Adding.{activities_then, by_replacing, found_then, itself, may_replace, row, row_alone, row_then}
use Rattle.pl_bounds.proofs.Gathered.{AreLone, gathered}
use Rattle.pl_bounds.proofs.Lonely.{lones_from}
use Rattle.pl_bounds.proofs.Moving.{end_moved}

found_before : (q : ℕ) (y : Activity) (xs ys : List Activity) → activity_of q xs ≡ Some y → activity_of q (xs ++ ys) ≡ Some y
found_before q y [] ys here = absurd (cc)
found_before q y (x ∷ xs) ys here = by (eqb x.id q) refl here (found_before q y xs ys)
  where
    by : (b : Bool) → eqb x.id q ≡ b → cond b (Some x) (activity_of q xs) ≡ Some y → (activity_of q xs ≡ Some y → activity_of q (xs ++ ys) ≡ Some y) → activity_of q (x ∷ xs ++ ys) ≡ Some y
    by true e h more = rw e h
    by false e h more = rw e (more h)

module _ (s : PlanState) (whole : IsWhole s) (next : s.next_id ≤ 3999999000) (kind to : ℕ) (goal : Option ℕ) (can : CanBeMade s (Add kind to goal)) where
  abbrev xs : List Activity
  xs = s.plan.activities

  abbrev own : Activity
  own = root_for s kind to goal

  abbrev t : PlanState
  t = with_plan [] (own ∷ []) s

  -- ---- the others

  end_same : (y : Activity) → found s y.id ≡ Some y → y.id < s.next_id → end_at t y ≡ end_at s y
  unfolding end_of
  end_same y live below =
      let other : eqb s.next_id y.id ≡ false = ne_eqb s.next_id y.id (λ e. omega (arith, below, e)) in
      let far : among y.id (touched [] (own ∷ [])) ≡ false = rw other refl in
      let values : values_of s.model t.plan.activities y.id ≡ values_of s.model xs y.id = (may_replace s whole next kind to goal can).kept y.id far in
      let there : found t y.id ≡ Some y = ap (λ (l : List Activity). activity_of y.id l) (activities_then s whole next kind to goal can) ∙ found_before y.id y xs (own ∷ []) live in
      ap (λ (o : Option Activity). end_in s.model o (values_of s.model t.plan.activities y.id)) there
      ∙ (ap (λ (r : Row). end_in s.model (Some y) r) values ∙ ap (λ (o : Option Activity). end_in s.model o (values_of s.model xs y.id)) (sym live))

  abbrev placed_with : Activity → Option ℕ → Placed
  placed_with y end = record { id = y.id; kind = y.kind; start = y.start; end = end; parent = y.parent; detail = y.detail }

  placed_same : (y : Activity) → found s y.id ≡ Some y → y.id < s.next_id → placed_of t y ≡ placed_of s y
  placed_same y live below = ap (placed_with y) (end_same y live below)

  -- it is no partner of its own
  not_itself : (l : Link) → is_partner l (placed_of t own) (placed_of t own) ≡ false
  not_itself l = rw (eq-eqb s.next_id s.next_id refl) refl

  partners_before : (l : Link) (ys : List Activity) → All (λ (y : Activity). found s y.id ≡ Some y) ys → All (IsIdBelow s.next_id) ys
      → list_any (is_partner l (placed_of t own)) (map (placed_of t) (ys ++ own ∷ [])) ≡ list_any (is_partner l (placed_of t own)) (map (placed_of s) ys)
  partners_before l [] live below = ap (λ (b : Bool). b || false) (not_itself l)
  partners_before l (y ∷ ys) live below =
      ap (λ (p : Placed). is_partner l (placed_of t own) p || list_any (is_partner l (placed_of t own)) (map (placed_of t) (ys ++ own ∷ []))) (placed_same y (All-head (λ (z : Activity). found s z.id ≡ Some z) y ys live) (All-head (IsIdBelow s.next_id) y ys below).1)
      ∙ ap (λ (b : Bool). is_partner l (placed_of t own) (placed_of s y) || b) (partners_before l ys (All-tail (λ (z : Activity). found s z.id ≡ Some z) y ys live) (All-tail (IsIdBelow s.next_id) y ys below))

  same_partners : (l : Link) → list_any (is_partner l (placed_of t own)) (placed_in t) ≡ list_any (is_partner l (placed_of t own)) (placed_in s)
  same_partners l =
      ap (λ (ys : List Activity). list_any (is_partner l (placed_of t own)) (map (placed_of t) ys)) (activities_then s whole next kind to goal can)
      ∙ partners_before l xs (each_found xs whole.rising) whole.ids

  -- ---- itself

  ahead : is_ahead t own ≡ true
  ahead =
      let keeps : MayBeMade s (Add kind to goal) = may s (Add kind to goal) can.allowed in
      let low : floor_of s ≤ to = All-head (λ (a : Activity). floor_of s ≤ a.start) own [] keeps.above in
      by (leb to s.moment) (leb-true to s.moment) low
    where
      by : (b : Bool) → (b ≡ true → to ≤ s.moment) → floor_of s ≤ to → not (is_committed t own && b) ≡ true
      by true less low = absurd (let le : to ≤ s.moment = less refl in omega (arith, le, low))
      by false less low = none (is_committed t own)
        where
          none : (c : Bool) → not (c && false) ≡ true
          none true = refl
          none false = refl

  whole_then : IsWhole t
  whole_then = whole_replaced s [] (own ∷ []) whole (may_replace s whole next kind to goal can)

  -- ---- as it is placed in a plan of its own, at another start

  module _ (start : ℕ) (can_first : CanBeMade s (Add kind start goal)) where
    abbrev alone : Activity
    alone = without_goal (root_for s kind start goal)

    abbrev first : Placed
    first = placed_of (only s alone) alone

    abbrev own_row : Row
    own_row = row s whole next kind start goal can_first

    end_then : (o : Option Kind) → option_map (moved_to start to) (option_and_then (λ k. end_with s.model.horizon k start None own_row) o) ≡ option_and_then (λ k. end_with s.model.horizon k to None own_row) o
    end_then None = refl
    end_then (Some k) =
        let low : start ≤ start + to = omega arith in
        let back : (start + to) - start ≡ to = omega arith in
        sym (end_moved start to s.model.horizon k start None own_row refl low) ∙ ap (λ (n : ℕ). end_with s.model.horizon k n None own_row) back

    end_own : option_map (moved_to start to) (end_at (only s alone) alone) ≡ end_at t own
    unfolding end_of
    end_own =
        ap (λ (o : Option Activity). option_map (moved_to start to) (end_in s.model o (row_of (only s alone) alone))) (itself alone)
        ∙ (ap (λ (r : Row). option_map (moved_to start to) (end_in s.model (Some alone) r)) (row_alone s whole next kind start goal can_first)
        ∙ (end_then (kind_of s.model alone)
        ∙ (ap (λ (r : Row). end_in s.model (Some own) r) (sym (row_then s whole next kind to goal can))
        ∙ ap (λ (o : Option Activity). end_in s.model o (row_of t own)) (sym (found_then s whole next kind to goal can)))))

    placed_own : placed_at to first ≡ placed_of t own
    placed_own = ap (λ (o : Option ℕ). record (placed_of t own) { end = o }) end_own

    lacks : (l : Link) → lacks_partner (placed_in s) (placed_at to first) l ≡ true → lacks_partner (placed_in t) (placed_of t own) l ≡ true
    lacks l lonely =
        let before : lacks_partner (placed_in s) (placed_of t own) l ≡ true = subst (λ (p : Placed). lacks_partner (placed_in s) p l ≡ true) placed_own lonely in
        ap (λ (b : Bool). is_some (end_at t own) && not b) (same_partners l) ∙ before

    abbrev is_lone : Link → Bool
    is_lone l = lacks_partner (placed_in s) (placed_at to first) l

    pub new_lone : AreLone (applied s (Add kind to goal)) s.next_id (count_of_lone s to first) (lones_from own is_lone 0 (links_of s.model first))
    new_lone =
        let then_ : AreLone t s.next_id (count_of_lone s to first) (lones_from own is_lone 0 (links_of s.model first)) = gathered t whole_then.rising own ahead (found_then s whole next kind to goal can) is_lone lacks in
        subst (λ (w : PlanState). AreLone w s.next_id (count_of_lone s to first) (lones_from own is_lone 0 (links_of s.model first))) (by_replacing s whole next kind to goal can).is then_
