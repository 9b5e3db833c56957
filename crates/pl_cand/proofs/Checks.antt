-- What a whole plan state knows of its goals and of the kinds of its activities.
use Rattle.std.proofs.Common.{◌≡◌, ℕ, ℤ, ◌≤◌, Bool, true, false, List, [], ◌∷◌, length, Option, Some, None, refl, sym, subst, arith}
use Rattle.std.specs.Prelude.{All, slice_get, option_and_then}
use Rattle.std.proofs.lemmas.Int.{ints}
use Rattle.std.proofs.lemmas.List.Elements.{All-nil, All-head, All-tail, All-weaker}
use Rattle.pl_lists.proofs.Elements.{all_at}
use Rattle.pl_facts.specs.declared.goal.Goal.{Goal}
use Rattle.pl_facts.specs.Goals.{is_numbered, goal_of}
use Rattle.pl_model.specs.declared.parameters.Param.{Param}
use Rattle.pl_model.specs.declared.links.Link.{Link}
use Rattle.pl_model.specs.declared.alternatives.Order.{Order}
use Rattle.pl_model.specs.declared.alternatives.Alternative.{Alternative}
use Rattle.pl_model.specs.declared.reservations.Reservation.{Reservation}
use Rattle.pl_model.specs.declared.reservations.Reservation.TheVariants.{Take, Raise, Lower, Put, Must}
use Rattle.pl_model.specs.declared.timelines.Timeline.{Timeline}
use Rattle.pl_facts.specs.Bases.{base_of}
use Rattle.pl_model.specs.declared.timelines.Timeline.TheVariants.{Capacity, Level, States}
use Rattle.pl_model.specs.declared.kinds.Kind.{Kind}
use Rattle.pl_model.specs.Checked.{IsCheckedKind, IsCheckedParam, IsCheckedLink, IsCheckedOrder, IsCheckedAlternative, IsReservation, IsLevelLine, params_of}
use Rattle.pl_plan.specs.declared.activity.Activity.{Activity}
use Rattle.pl_plan.specs.Fitting.{kind_of, alternatives_of}
use Rattle.pl_plan.specs.Serving.{served_in}
use Rattle.pl_plan.proofs.FirmSteps.{checked_kind}
use Rattle.pl_links.specs.Broken.{links_of, links_in, orders_in}
use Rattle.pl_semantics.specs.declared.plan_state.PlanState.{PlanState}
use Rattle.pl_semantics.specs.PlanStates.{goal_at, served_by, reservations_in}
use Rattle.pl_semantics.specs.Whole.{IsWhole, IsGoalOf, IsBase}
use Rattle.pl_semantics.specs.Links.{placed_of, order_at}
use Rattle.pl_cand.specs.Near.{IsNear, AreNear, AreClose}
use Rattle.pl_cand.specs.Levels.{HasBase, IsOfLevel, IsToldAt}

-- ---- levels

level_told : (moment : ℕ) (t : Timeline) (base : Option (ℤ × ℤ)) → IsLevelLine (Some t) → IsBase moment t base → IsToldAt moment base
level_told moment (Capacity name most) base line is = absurd line
level_told moment (Level name least most start) None line is = is
level_told moment (Level name least most start) (Some b) line is = is.0
level_told moment (States name states start any steps) base line is = absurd line

-- ---- goals

found_goal : (P : Goal → Type 0) (n : ℕ) (gs : List Goal) (g : Goal) → All P gs → goal_of n gs ≡ Some g → P g
found_goal P n [] g all e = absurd (cc)
found_goal P n (x ∷ xs) g all e = cases (is_numbered n x) refl (found_goal P n xs g (All-tail P x xs all))
  where
    cases : (b : Bool) → is_numbered n x ≡ b → (goal_of n xs ≡ Some g → P g) → P g
    cases true is more = let here : Some x ≡ Some g = rw is at e in let same : x ≡ g = cc in subst P same (All-head P x xs all)
    cases false is more = more (rw is at e)

module _ (s : PlanState) (whole : IsWhole s) where
  pub goal_of_model : (n : ℕ) (g : Goal) → goal_at s n ≡ Some g → IsGoalOf s.model g
  goal_of_model n g e = found_goal (IsGoalOf s.model) n s.goals g whole.goals e

  pub served_of_model : (a : Activity) (g : Goal) → served_by s a ≡ Some g → IsGoalOf s.model g
  served_of_model a g e = cases (served_in a) refl
    where
      cases : (o : Option ℕ) → served_in a ≡ o → IsGoalOf s.model g
      cases None is = let none : None ≡ Some g = rw is at e in absurd (cc)
      cases (Some n) is = goal_of_model n g (rw is at e)

  -- ---- kinds

  by_kind : (P : Option Kind → Type 0) → P None → ((k : Kind) → IsCheckedKind s.model k → P (Some k)) → (i : ℕ) → P (slice_get s.model.kinds i)
  by_kind P none some i = cases (slice_get s.model.kinds i) refl
    where
      cases : (o : Option Kind) → slice_get s.model.kinds i ≡ o → P (slice_get s.model.kinds i)
      cases None e = subst P (sym e) none
      cases (Some k) e = subst P (sym e) (some k (checked_kind s.model whole.checked i k e))

  pub params_few : (a : Activity) → length (params_of (kind_of s.model a)) ≤ 16
  params_few a = by_kind (λ o. length (params_of o) ≤ 16) (omega arith) (λ k checked. checked.few_params) a.kind

  pub alternatives_few : (a : Activity) → length (alternatives_of (kind_of s.model a)) ≤ 8
  alternatives_few a = by_kind (λ o. length (alternatives_of o) ≤ 8) (omega arith) (λ k checked. checked.few_alternatives) a.kind

  pub present_most : s.moment ≤ 10000000
  present_most = omega (arith, whole.checked.horizon.1, whole.present)

  pub params_near : (a : Activity) → All AreNear (params_of (kind_of s.model a))
  params_near a = by_kind (λ o. All AreNear (params_of o)) (All-nil AreNear) each a.kind
    where
      near : (n : ℕ) (p : Param) → IsCheckedParam n p → AreNear p
      near n p is = ((omega (arith, ints, is.least), omega (arith, ints, is.least)), (omega (arith, ints, is.greatest), omega (arith, ints, is.greatest)))

      each : (k : Kind) → IsCheckedKind s.model k → All AreNear k.params
      each k checked = All-weaker (IsCheckedParam (length k.params)) AreNear (near (length k.params)) k.params checked.params

  close : (l : Link) → IsCheckedLink s.model l → AreClose l
  close l is =
      let far : s.model.horizon ≤ 10000000 = whole.checked.horizon.1 in
      let distance = is.distance in
      ((omega (arith, ints, far, distance), omega (arith, ints, far, distance)), (omega (arith, ints, far, distance), omega (arith, ints, far, distance)))

  pub links_close : (a : Activity) → All AreClose (links_of s.model (placed_of s a))
  links_close a = by_kind (λ o. All AreClose (links_in o)) (All-nil AreClose) (λ k checked. All-weaker (IsCheckedLink s.model) AreClose close k.links checked.links) a.kind

  told_at : (line : ℕ) (o : Option Timeline) → slice_get s.model.timelines line ≡ o → IsLevelLine o → HasBase s line
  told_at line None e level = absurd level
  told_at line (Some t) e level = level_told s.moment t (base_of line s.bases) level (whole.bases line t e)

  reservation_level : (n : ℕ) (r : Reservation) → IsReservation s.model.timelines n r → IsOfLevel s r
  reservation_level n (Take line e) is = tt
  reservation_level n (Raise line e p) is = told_at line (slice_get s.model.timelines line) refl is.0
  reservation_level n (Lower line e p) is = told_at line (slice_get s.model.timelines line) refl is.0
  reservation_level n (Put line state p) is = tt
  reservation_level n (Must line state) is = tt

  pub reservations_level : (a : Activity) → All (IsOfLevel s) (reservations_in (kind_of s.model a))
  reservations_level a = by_kind (λ o. All (IsOfLevel s) (reservations_in o)) (All-nil (IsOfLevel s)) (λ k checked. All-weaker (IsReservation s.model.timelines (length k.params)) (IsOfLevel s) (reservation_level (length k.params)) k.reservations checked.reservations) a.kind

  orders_checked : (horizon : ℕ) (alternatives : List Alternative) → ((i : ℕ) (x : Alternative) → slice_get alternatives i ≡ Some x → (n : ℕ) × All (IsCheckedOrder s.model.horizon n) x.orders) → (detail : Option ℕ) (i : ℕ) (o : Order) → slice_get (orders_in (option_and_then (slice_get alternatives) detail)) i ≡ Some o → (n : ℕ) × IsCheckedOrder s.model.horizon n o
  orders_checked horizon alternatives each None i o e = absurd (cc)
  orders_checked horizon alternatives each (Some d) i o e = cases (slice_get alternatives d) refl
    where
      cases : (x : Option Alternative) → slice_get alternatives d ≡ x → (n : ℕ) × IsCheckedOrder s.model.horizon n o
      cases None is = let none : None ≡ Some o = rw is at e in absurd (cc)
      cases (Some x) is = let at : slice_get x.orders i ≡ Some o = rw is at e in let all = each d x is in (all.0, all_at (IsCheckedOrder s.model.horizon all.0) x.orders i o all.1 at)

  order_near : (n : ℕ) (o : Order) → IsCheckedOrder s.model.horizon n o → IsNear o.low × IsNear o.high
  order_near n o is =
      let far : s.model.horizon ≤ 10000000 = whole.checked.horizon.1 in
      let distance = is.distance in
      ((omega (arith, ints, far, distance), omega (arith, ints, far, distance)), (omega (arith, ints, far, distance), omega (arith, ints, far, distance)))

  pub order_is_near : (a : Activity) (index : ℕ) (o : Order) → order_at s a index ≡ Some o → IsNear o.low × IsNear o.high
  order_is_near a index o e = let found = checked (slice_get s.model.kinds a.kind) (λ k is. checked_kind s.model whole.checked a.kind k is) e in order_near found.0 o found.1
    where
      checked : (kind : Option Kind) → ((k : Kind) → kind ≡ Some k → IsCheckedKind s.model k) → slice_get (orders_in (option_and_then (slice_get (alternatives_of kind)) a.detail)) index ≡ Some o → (n : ℕ) × IsCheckedOrder s.model.horizon n o
      checked None is e = orders_checked 0 [] (λ i x none. absurd (cc)) a.detail index o e
      checked (Some k) is e = orders_checked 0 k.alternatives (λ i x at. (length x.slots, (all_at (IsCheckedAlternative s.model (length k.params)) k.alternatives i x (is k refl).alternatives at).orders)) a.detail index o e
