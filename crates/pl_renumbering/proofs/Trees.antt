-- After a move each parent is live, and has a smaller id.
use Rattle.std.proofs.Common.{◌≡◌, ℕ, suc, ◌<◌, eqb, Bool, true, false, cond, List, [], ◌∷◌, ◌++◌, Option, Some, None, IfSome, refl, sym, subst, arith}
use Rattle.std.specs.Prelude.{All, IsSome, map, slice_get}
use Rattle.std.specs.Option.{option_map}
use Rattle.std.proofs.lemmas.List.Elements.{All-nil, All-cons, All-head, All-tail, All-append, All-weaker}
use Rattle.pl_model.specs.declared.alternatives.Slot.{Slot}
use Rattle.pl_model.specs.declared.alternatives.Alternative.{Alternative}
use Rattle.pl_plan.specs.declared.activity.Activity.{Activity}
use Rattle.pl_plan.specs.declared.repair.RepairMove.{RepairMove}
use Rattle.pl_plan.specs.declared.repair.RepairMove.TheVariants.{Add, Delete, Shift, Detail, Abstract, Assign, Drop}
use Rattle.pl_plan.specs.Activities.{activity_of, IsLive}
use Rattle.pl_plan.specs.Trees.{IsParented, IsRooted}
use Rattle.pl_plan.specs.Moves.{KeepsTree}
use Rattle.pl_plan.proofs.Climbs.{all_at}
use Rattle.pl_plan.proofs.Kept.{found-changed}
use Rattle.pl_plan.proofs.MoveLaws.{rooted_outside, fits_abstracted}
use Rattle.pl_semantics.specs.declared.plan_state.PlanState.{PlanState}
use Rattle.pl_semantics.specs.PlanStates.{found}
use Rattle.pl_semantics.specs.Moves.{is_under, root_for, children_from, children_in, children_for, alternatives_at, moved, detailed, with_value, shifted, has_id, applied}
use Rattle.pl_semantics.specs.Whole.{IsIdBelow, IsWhole}

-- ---- changes that leave ids and parents

where_keeps : (test : Activity → Bool) (change : Activity → Activity) → KeepsTree change → KeepsTree (λ a. cond (test a) (change a) a)
where_keeps test change keeps = record { id = λ a. by_id a (test a); kind = λ a. by_kind a (test a); parent = λ a. by_parent a (test a) }
  where
    by_id : (a : Activity) (b : Bool) → (cond b (change a) a).id ≡ a.id
    by_id a true = keeps.id a
    by_id a false = refl

    by_kind : (a : Activity) (b : Bool) → (cond b (change a) a).kind ≡ a.kind
    by_kind a true = keeps.kind a
    by_kind a false = refl

    by_parent : (a : Activity) (b : Bool) → (cond b (change a) a).parent ≡ a.parent
    by_parent a true = keeps.parent a
    by_parent a false = refl

module _ (change : Activity → Activity) (keeps : KeepsTree change) (xs : List Activity) where
  some_changed : (o : Option Activity) → IsSome o → IsSome (option_map change o)
  some_changed None there = there
  some_changed (Some a) there = refl

  live_changed : (q : ℕ) → IsLive q xs → IsLive q (map change xs)
  live_changed q live = subst IsSome (sym (found-changed change keeps xs q)) (some_changed (activity_of q xs) live)

  parented_changed : (a : Activity) → IsParented xs a → IsParented (map change xs) (change a)
  parented_changed a is =
      subst (λ o. IfSome o (λ p. IsLive p.0 (map change xs) × (p.0 < (change a).id))) (sym (keeps.parent a))
      (subst (λ n. IfSome a.parent (λ p. IsLive p.0 (map change xs) × (p.0 < n))) (sym (keeps.id a)) (by a.parent is))
    where
      by : (o : Option (ℕ × ℕ)) → IfSome o (λ p. IsLive p.0 xs × (p.0 < a.id)) → IfSome o (λ p. IsLive p.0 (map change xs) × (p.0 < a.id))
      by None h = tt
      by (Some p) h = (live_changed p.0 h.0, h.1)

  each_changed : (ys : List Activity) → All (IsParented xs) ys → All (IsParented (map change xs)) (map change ys)
  each_changed [] all = All-nil (IsParented (map change xs))
  each_changed (y ∷ ys) all = All-cons (IsParented (map change xs)) (change y) (map change ys) (parented_changed y (All-head (IsParented xs) y ys all)) (each_changed ys (All-tail (IsParented xs) y ys all))

  rooted_changed : IsRooted xs → IsRooted (map change xs)
  rooted_changed rooted = record { parents = each_changed xs rooted.parents }

-- ---- activities that come

live_more : (q : ℕ) (xs more : List Activity) → IsLive q xs → IsLive q (xs ++ more)
live_more q [] more live = absurd (let bad : false ≡ true = live in (cc))
live_more q (x ∷ xs) more live = by (eqb x.id q) refl (live_more q xs more)
  where
    by : (b : Bool) → eqb x.id q ≡ b → (IsLive q xs → IsLive q (xs ++ more)) → IsLive q (x ∷ xs ++ more)
    by true e later = rw e refl
    by false e later = let rest : IsLive q xs = rw e at live in rw e (later rest)

parented_more : (xs more : List Activity) (a : Activity) → IsParented xs a → IsParented (xs ++ more) a
parented_more xs more a is = by a.parent is
  where
    by : (o : Option (ℕ × ℕ)) → IfSome o (λ p. IsLive p.0 xs × (p.0 < a.id)) → IfSome o (λ p. IsLive p.0 (xs ++ more) × (p.0 < a.id))
    by None h = tt
    by (Some p) h = (live_more p.0 xs more h.0, h.1)

rooted_more : (xs more : List Activity) → IsRooted xs → All (IsParented xs) more → IsRooted (xs ++ more)
rooted_more xs more rooted come = record {
  parents = All-append (IsParented (xs ++ more)) xs more
      (All-weaker (IsParented xs) (IsParented (xs ++ more)) (parented_more xs more) xs rooted.parents)
      (All-weaker (IsParented xs) (IsParented (xs ++ more)) (parented_more xs more) more come);
}

module _ (s : PlanState) (whole : IsWhole s) where
  children_below : (xs : List Activity) (a : Activity) → IsLive a.id xs → a.id < s.next_id → (n : ℕ) (slots : List Slot) (offsets : List ℕ) → All (IsParented xs) (children_from s a n slots offsets)
  children_below xs a live less n [] offsets = All-nil (IsParented xs)
  children_below xs a live less n (at ∷ more) [] = All-nil (IsParented xs)
  children_below xs a live less n (at ∷ more) (offset ∷ offsets) = All-cons (IsParented xs) _ _ (live, omega (arith, less)) (children_below xs a live less (suc n) more offsets)

  children_parented : (xs : List Activity) (id alternative : ℕ) → ((q : ℕ) → IsLive q s.plan.activities → IsLive q xs) → All (IsParented xs) (children_for s alternative (found s id))
  children_parented xs id alternative stays = by (found s id) refl
    where
      by_alternative : (a : Activity) → IsLive a.id xs → a.id < s.next_id → (o : Option Alternative) → All (IsParented xs) (children_in s a o)
      by_alternative a live less None = All-nil (IsParented xs)
      by_alternative a live less (Some alternative) = children_below xs a live less 0 alternative.slots alternative.offsets

      by : (o : Option Activity) → found s id ≡ o → All (IsParented xs) (children_for s alternative o)
      by None e = All-nil (IsParented xs)
      by (Some a) e =
          let stands = all_at (IsIdBelow s.next_id) s.plan.activities id a whole.ids e in
          let live : IsLive id s.plan.activities = rw e refl in
          by_alternative a (subst (λ n. IsLive n xs) (sym stands.1) (stays id live)) stands.0.1 (slice_get (alternatives_at s a) alternative)

  shifted_rooted : (to : ℕ) (o : Option Activity) → IsRooted (shifted s to o)
  shifted_rooted to None = whole.fits.rooted
  shifted_rooted to (Some a) =
      rooted_changed _ (where_keeps (is_under s a.id) (moved a.start to) (record { id = λ x. refl; kind = λ x. refl; parent = λ x. refl })) s.plan.activities whole.fits.rooted

  detail_keeps : (id alternative : ℕ) → KeepsTree (λ a. cond (has_id id a) (detailed alternative a) a)
  detail_keeps id alternative = where_keeps (has_id id) (detailed alternative) (record { id = λ x. refl; kind = λ x. refl; parent = λ x. refl })

  pub rooted_after : (m : RepairMove) → IsRooted (applied s m).plan.activities
  unfolding applied
  rooted_after (Add kind start goal) = rooted_more s.plan.activities (root_for s kind start goal ∷ []) whole.fits.rooted (All-cons (IsParented s.plan.activities) (root_for s kind start goal) [] tt (All-nil (IsParented s.plan.activities)))
  rooted_after (Delete id) = rooted_outside s.plan.activities whole.fits.rooted whole.rising id
  rooted_after (Shift id start) = shifted_rooted start (found s id)
  rooted_after (Detail id alternative) =
      rooted_more (map (λ a. cond (has_id id a) (detailed alternative a) a) s.plan.activities) (children_for s alternative (found s id))
      (rooted_changed _ (detail_keeps id alternative) s.plan.activities whole.fits.rooted)
      (children_parented (map (λ a. cond (has_id id a) (detailed alternative a) a) s.plan.activities) id alternative (live_changed _ (detail_keeps id alternative) s.plan.activities))
  rooted_after (Abstract id) = (fits_abstracted s.model s.plan.activities whole.rising whole.fits id).rooted
  rooted_after (Assign id param value) =
      rooted_changed _ (where_keeps (has_id id) (with_value param value) (record { id = λ x. refl; kind = λ x. refl; parent = λ x. refl })) s.plan.activities whole.fits.rooted
  rooted_after (Drop number) = whole.fits.rooted
