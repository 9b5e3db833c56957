-- Links of one activity that find no partner: each is a conflict.
use Rattle.std.proofs.Common.{◌≡◌, ℕ, zero, suc, ◌<◌, Bool, true, false, eqb, List, [], ◌∷◌, ◌++◌, length, Option, Some, refl, sym, ap, ◌∙◌, subst, arith, max}
use Rattle.std.specs.Prelude.{◌||◌, slice_get}
use Rattle.std.specs.List.{flat_map}
use Rattle.std.proofs.lemmas.Bool.{eqb-true, eqb-false, or_left, or_right}
use Rattle.std.proofs.Math.Bool.{or_assoc}
use Rattle.pl_conflict.specs.declared.conflict.Conflict.{Conflict}
use Rattle.pl_conflict.specs.Order.{has}
use Rattle.pl_conflict.proofs.Sorting.{same, has-append, same_itself}
use Rattle.pl_model.specs.declared.links.Link.{Link}
use Rattle.pl_model.specs.declared.alternatives.Order.{Order}
use Rattle.pl_links.specs.declared.placed.Placed.{Placed}
use Rattle.pl_links.specs.declared.broken.Broken.{Broken}
use Rattle.pl_links.specs.Broken.{when, lacks_partner, is_link_broken, is_order_broken, broken_at, broken_below, links_of, orders_of}
use Rattle.pl_plan.specs.declared.activity.Activity.{Activity}
use Rattle.pl_plan.specs.Activities.{AreRising}
use Rattle.pl_semantics.specs.declared.plan_state.PlanState.{PlanState}
use Rattle.pl_semantics.specs.PlanStates as states
use Rattle.pl_semantics.specs.PlanStates.{found, of_found, is_ahead}
use Rattle.pl_semantics.specs.Links.{placed_of, placed_in, lone, conflict_of, links_at, link_conflicts}
use Rattle.pl_semantics.proofs.Standing.{links_by_subject}
use Rattle.pl_bounds.proofs.Indexed.{conflicts_from}

-- ---- one that is broken is a conflict

pub flat_append : (f : Broken → List Conflict) (xs ys : List Broken) (q : Conflict) → has q (flat_map f (xs ++ ys)) ≡ (has q (flat_map f xs) || has q (flat_map f ys))
flat_append f [] ys q = refl
flat_append f (x ∷ xs) ys q =
    has-append (f x) (flat_map f (xs ++ ys)) q
    ∙ (ap (λ b. has q (f x) || b) (flat_append f xs ys q)
    ∙ ((sym (or_assoc (has q (f x)) (has q (flat_map f xs)) (has q (flat_map f ys))))
    ∙ ap (λ b. b || has q (flat_map f ys)) (sym (has-append (f x) (flat_map f xs) q))))

-- what is broken at an index of one activity is among all that it breaks
module _ (t : PlanState) (a : Activity) (links : List Link) (orders : List Order) where
  abbrev conflicts_at : ℕ → List Conflict
  conflicts_at j = flat_map (conflict_of t a) (broken_at (placed_in t) (placed_of t a) links orders j)

  abbrev conflicts_below : ℕ → List Conflict
  conflicts_below n = flat_map (conflict_of t a) (broken_below (placed_in t) (placed_of t a) links orders n)

  pub among_all : (q : Conflict) (n j : ℕ) → j < n → has q (conflicts_at j) ≡ true → has q (conflicts_below n) ≡ true
  among_all q zero j lt there = absurd (omega (arith, lt))
  among_all q (suc n) j lt there = flat_append (conflict_of t a) (broken_below (placed_in t) (placed_of t a) links orders n) (broken_at (placed_in t) (placed_of t a) links orders n) q ∙ by (eqb j n) refl (among_all q n j)
    where
      by : (b : Bool) → eqb j n ≡ b → (j < n → has q (conflicts_at j) ≡ true → has q (conflicts_below n) ≡ true) → (has q (conflicts_below n) || has q (conflicts_at n)) ≡ true
      by true e more = or_right (has q (conflicts_below n)) _ (subst (λ (m : ℕ). has q (conflicts_at m) ≡ true) (eqb-true j n e) there)
      by false e more = or_left _ (has q (conflicts_at n)) (more (let other : j ≡ n → ⊥ = eqb-false j n e in grind (arith, other, lt)) there)

module _ (t : PlanState) (a : Activity) (ahead : is_ahead t a ≡ true) where
  abbrev own : Placed
  own = placed_of t a

  abbrev items : List Placed
  items = placed_in t

  here : (links : List Link) (orders : List Order) (j : ℕ) (l : Link) → slice_get links j ≡ Some l → lacks_partner items own l ≡ true → has (lone a j) (flat_map (conflict_of t a) (broken_at items own links orders j)) ≡ true
  here links orders j l is lacks =
      flat_append (conflict_of t a) (when (is_link_broken items own (slice_get links j)) link_one) (when (is_order_broken items own (slice_get orders j)) order_one) (lone a j)
      ∙ or_left (has (lone a j) (flat_map (conflict_of t a) (when (is_link_broken items own (slice_get links j)) link_one))) _ first
    where
      link_one : Broken
      link_one = record { id = own.id; index = j; slots = false }

      order_one : Broken
      order_one = record { id = own.id; index = j; slots = true }

      broken : is_link_broken items own (slice_get links j) ≡ true
      broken = ap (is_link_broken items own) is ∙ lacks

      first : has (lone a j) (flat_map (conflict_of t a) (when (is_link_broken items own (slice_get links j)) link_one)) ≡ true
      first =
          ap (λ b. has (lone a j) (flat_map (conflict_of t a) (when b link_one))) broken
          ∙ (ap (λ b. has (lone a j) (states.when b (lone a j) ++ [])) ahead
          ∙ or_left (same (lone a j) (lone a j)) false (same_itself (lone a j)))

  pub lone_stands : AreRising t.plan.activities → found t a.id ≡ Some a → (j : ℕ) (l : Link) → j < length (links_of t.model own) → slice_get (links_of t.model own) j ≡ Some l → lacks_partner items own l ≡ true → has (lone a j) (link_conflicts t) ≡ true
  unfolding links_at
  lone_stands rising live j l lt is lacks =
      links_by_subject t rising (lone a j)
      ∙ (ap (λ (o : Option Activity). has (lone a j) (of_found (links_at t) o)) live
      ∙ among_all t a (links_of t.model own) (orders_of t.model own) (lone a j) (max (length (links_of t.model own)) (length (orders_of t.model own))) j (omega (arith, lt)) (here (links_of t.model own) (orders_of t.model own) j l is lacks))

-- ---- those of some links

abbrev pub lone_one : Activity → ℕ → Link → Conflict
lone_one a i l = lone a i

abbrev pub lones_from : Activity → (Link → Bool) → ℕ → List Link → List Conflict
lones_from a is_lone i ls = conflicts_from is_lone (lone_one a) i ls
