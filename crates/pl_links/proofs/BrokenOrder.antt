-- What is broken is listed by id and index, a link before an order.
use Rattle.std.proofs.Common.{◌≡◌, inl, inr, ℕ, zero, suc, ◌<◌, ◌≤◌, max, Bool, true, false, List, [], ◌∷◌, ◌++◌, length, refl, sym, ◌∙◌, arith, flat_map}
use Rattle.std.specs.Prelude.{All, AllPairs, slice_get}
use Rattle.std.proofs.lemmas.List.Elements.{All-nil, All-head, All-tail, All-append, All-weaker}
use Rattle.std.proofs.lemmas.List.Kept.{AllPairs-cons}
use Rattle.pl_model.specs.declared.links.Link.{Link}
use Rattle.pl_model.specs.declared.alternatives.Order.{Order}
use Rattle.pl_model.specs.declared.whole.Model.{Model}
use Rattle.pl_links.specs.declared.placed.Placed.{Placed}
use Rattle.pl_links.specs.declared.broken.Broken.{Broken}
use Rattle.pl_links.specs.Items.{RiseFrom, AreRising}
use Rattle.pl_links.specs.Broken.{when, is_link_broken, is_order_broken, broken_at, broken_below, broken_by, broken_of, links_of, orders_of}
use Rattle.pl_links.specs.Laws.{IsBefore}
use Rattle.pl_links.proofs.BrokenLaws.{broken, all_when}

-- each one before all that follow it
abbrev Ordered : List Broken → Type 0
Ordered [] = Unit {0}
Ordered (x ∷ more) = All (IsBefore x) more × Ordered more

pairs : (xs : List Broken) → Ordered xs → AllPairs IsBefore xs
pairs [] ordered = λ i j d lt in_range. absurd (omega (arith, in_range))
pairs (x ∷ xs) ordered = AllPairs-cons IsBefore x xs ordered.0 (pairs xs ordered.1)

joined : (xs ys : List Broken) → Ordered xs → Ordered ys → All (λ x. All (IsBefore x) ys) xs → Ordered (xs ++ ys)
joined [] ys first second across = second
joined (x ∷ xs) ys first second across =
    (All-append (IsBefore x) xs ys first.0 (All-head (λ a. All (IsBefore a) ys) x xs across), joined xs ys first.1 second (All-tail (λ a. All (IsBefore a) ys) x xs across))

all_before : (P Q : Broken → Type 0) (xs ys : List Broken) → ((x y : Broken) → P x → Q y → IsBefore x y) → All P xs → All Q ys → All (λ x. All (IsBefore x) ys) xs
all_before P Q xs ys before first second = All-weaker P (λ x. All (IsBefore x) ys) (λ x p. All-weaker Q (IsBefore x) (λ y q. before x y p q) ys second) xs first

ordered_when : (t : Bool) (x : Broken) → Ordered (when t x)
ordered_when true x = (All-nil (IsBefore x), tt)
ordered_when false x = tt

abbrev Of : ℕ → ℕ → Bool → Broken → Type 0
Of id n slots x = (x.id ≡ id) × (x.index ≡ n) × (x.slots ≡ slots)

abbrev At : ℕ → ℕ → Broken → Type 0
At id n x = (x.id ≡ id) × (x.index ≡ n)

abbrev Below : ℕ → ℕ → Broken → Type 0
Below id n x = (x.id ≡ id) × (x.index < n)

module _ (items : List Placed) (own : Placed) (ls : List Link) (os : List Order) where
  at_bounds : (n : ℕ) → All (At own.id n) (broken_at items own ls os n)
  at_bounds n =
      let link = is_link_broken items own (slice_get ls n) in
      let order = is_order_broken items own (slice_get os n) in
      All-append (At own.id n) (when link (broken own.id n false)) (when order (broken own.id n true))
      (all_when (At own.id n) link (broken own.id n false) (λ e. (refl, refl)))
      (all_when (At own.id n) order (broken own.id n true) (λ e. (refl, refl)))

  below_bounds : (n : ℕ) → All (Below own.id n) (broken_below items own ls os n)
  below_bounds zero = All-nil (Below own.id zero)
  below_bounds (suc n) =
      All-append (Below own.id (suc n)) (broken_below items own ls os n) (broken_at items own ls os n)
      (All-weaker (Below own.id n) (Below own.id (suc n)) (λ x b. (b.0, omega (arith, b.1))) (broken_below items own ls os n) (below_bounds n))
      (All-weaker (At own.id n) (Below own.id (suc n)) (λ x b. (b.0, omega (arith, b.1))) (broken_at items own ls os n) (at_bounds n))

  ordered_at : (n : ℕ) → Ordered (broken_at items own ls os n)
  ordered_at n =
      let link = is_link_broken items own (slice_get ls n) in
      let order = is_order_broken items own (slice_get os n) in
      let first = when link (broken own.id n false) in
      let second = when order (broken own.id n true) in
      joined first second (ordered_when link (broken own.id n false)) (ordered_when order (broken own.id n true))
      (all_before (Of own.id n false) (Of own.id n true) first second
      (λ x y p q. inr (p.0 ∙ sym q.0, inr (p.1 ∙ sym q.1, p.2, q.2)))
      (all_when (Of own.id n false) link (broken own.id n false) (λ e. (refl, refl, refl)))
      (all_when (Of own.id n true) order (broken own.id n true) (λ e. (refl, refl, refl))))

  ordered_below : (n : ℕ) → Ordered (broken_below items own ls os n)
  ordered_below zero = tt
  ordered_below (suc n) =
      joined (broken_below items own ls os n) (broken_at items own ls os n) (ordered_below n) (ordered_at n)
      (all_before (Below own.id n) (At own.id n) (broken_below items own ls os n) (broken_at items own ls os n)
      (λ x y p q. inr (p.0 ∙ sym q.0, inl (omega (arith, p.1, q.1))))
      (below_bounds n) (at_bounds n))

module _ (model : Model) (items : List Placed) where
  abbrev count_of : Placed → ℕ
  count_of own = max (length (links_of model own)) (length (orders_of model own))

  by_bounds : (own : Placed) → All (Below own.id (count_of own)) (broken_by model items own)
  by_bounds own = below_bounds items own (links_of model own) (orders_of model own) (count_of own)

  ordered_by : (own : Placed) → Ordered (broken_by model items own)
  ordered_by own = ordered_below items own (links_of model own) (orders_of model own) (count_of own)

  ids_from : (c : ℕ) (xs : List Placed) → RiseFrom c xs → All (λ x. c ≤ x.id) (flat_map (broken_by model items) xs)
  ids_from c [] rising = All-nil (λ x. c ≤ x.id)
  ids_from c (own ∷ xs) rising =
      All-append (λ x. c ≤ x.id) (broken_by model items own) (flat_map (broken_by model items) xs)
      (All-weaker (Below own.id (count_of own)) (λ x. c ≤ x.id) (λ x b. omega (arith, b.0, rising.0)) (broken_by model items own) (by_bounds own))
      (All-weaker (λ x. suc own.id ≤ x.id) (λ x. c ≤ x.id) (λ x le. omega (arith, le, rising.0)) (flat_map (broken_by model items) xs) (ids_from (suc own.id) xs rising.1))

  ordered_flat : (c : ℕ) (xs : List Placed) → RiseFrom c xs → Ordered (flat_map (broken_by model items) xs)
  ordered_flat c [] rising = tt
  ordered_flat c (own ∷ xs) rising =
      joined (broken_by model items own) (flat_map (broken_by model items) xs) (ordered_by own) (ordered_flat (suc own.id) xs rising.1)
      (all_before (Below own.id (count_of own)) (λ y. suc own.id ≤ y.id) (broken_by model items own) (flat_map (broken_by model items) xs)
      (λ x y p q. inl (omega (arith, p.0, q)))
      (by_bounds own) (ids_from (suc own.id) xs rising.1))

pub broken_in_order : (model : Model) (items : List Placed) → AreRising items → AllPairs IsBefore (broken_of model items)
broken_in_order model items rising = pairs (broken_of model items) (ordered_flat model items 0 items rising)
