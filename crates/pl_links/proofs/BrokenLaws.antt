-- The list of what is broken has exactly what is broken.
use Rattle.std.proofs.Common.{◌≡◌, ⊎_elim, ℕ, zero, suc, ◌<◌, ◌≤◌, max, Bool, true, false, List, [], ◌∷◌, length, refl, sym, subst, arith, flat_map}
use Rattle.std.specs.Prelude.{All, Contains, slice_get, ◌↔◌}
use Rattle.std.proofs.lemmas.Bool.{cases_lt}
use Rattle.std.proofs.lemmas.List.Elements.{All-nil, All-cons, All-head, All-tail, All-append, All-weaker, All-contains, All-contains_itself, Contains-append_left, Contains-append_right}
use Rattle.pl_model.specs.declared.links.Link.{Link}
use Rattle.pl_model.specs.declared.alternatives.Order.{Order}
use Rattle.pl_model.specs.declared.whole.Model.{Model}
use Rattle.pl_links.specs.declared.placed.Placed.{Placed}
use Rattle.pl_links.specs.declared.broken.Broken.{Broken}
use Rattle.pl_links.specs.Broken.{when, is_link_broken, is_order_broken, broken_at, broken_below, broken_by, broken_of, links_of, orders_of}
use Rattle.pl_links.specs.Laws.{fails_at, IsBroken}

abbrev pub broken : ℕ → ℕ → Bool → Broken
broken id index slots = record { id = id; index = index; slots = slots }

pub all_when : (P : Broken → Type 0) (t : Bool) (x : Broken) → (t ≡ true → P x) → All P (when t x)
all_when P true x holds = All-cons P x [] (holds refl) (All-nil P)
all_when P false x holds = All-nil P

contains_when : (t : Bool) (x : Broken) → t ≡ true → Contains (when t x) x
contains_when true x e = (0, omega arith, refl)
contains_when false x e = absurd (cc)

all_flat : (P : Broken → Type 0) (f : Placed → List Broken) (xs : List Placed) → All (λ own. All P (f own)) xs → All P (flat_map f xs)
all_flat P f [] each = All-nil P
all_flat P f (x ∷ xs) each = All-append P (f x) (flat_map f xs) (All-head (λ own. All P (f own)) x xs each) (all_flat P f xs (All-tail (λ own. All P (f own)) x xs each))

flat_contains : (f : Placed → List Broken) (b : Broken) (xs : List Placed) → All (λ own. Contains (f own) b → Contains (flat_map f xs) b) xs
flat_contains f b [] = All-nil (λ own. Contains (f own) b → Contains (flat_map f []) b)
flat_contains f b (x ∷ xs) =
    All-cons (λ own. Contains (f own) b → Contains (flat_map f (x ∷ xs)) b) x xs
    (λ here. Contains-append_left (f x) (flat_map f xs) b here)
    (All-weaker (λ own. Contains (f own) b → Contains (flat_map f xs) b) (λ own. Contains (f own) b → Contains (flat_map f (x ∷ xs)) b)
    (λ own later c. Contains-append_right (f x) (flat_map f xs) b (later c)) xs (flat_contains f b xs))

pub link_within : (items : List Placed) (own : Placed) (ls : List Link) (i : ℕ) → is_link_broken items own (slice_get ls i) ≡ true → i < length ls
link_within items own [] i e = absurd (let h : false ≡ true = e in (cc))
link_within items own (l ∷ ls) zero e = omega arith
link_within items own (l ∷ ls) (suc i) e = omega (arith, link_within items own ls i e)

pub failing_within : (items : List Placed) (own : Placed) (os : List Order) (i : ℕ) → is_order_broken items own (slice_get os i) ≡ true → i < length os
failing_within items own [] i e = absurd (let h : false ≡ true = e in (cc))
failing_within items own (o ∷ os) zero e = omega arith
failing_within items own (o ∷ os) (suc i) e = omega (arith, failing_within items own os i e)

module _ (items : List Placed) (own : Placed) (ls : List Link) (os : List Order) where
  all_below : (P : Broken → Type 0) → ((index : ℕ) (slots : Bool) → fails_at items own ls os index slots ≡ true → P (broken own.id index slots)) → (n : ℕ) → All P (broken_below items own ls os n)
  all_below P holds zero = All-nil P
  all_below P holds (suc n) =
      let link = is_link_broken items own (slice_get ls n) in
      let order = is_order_broken items own (slice_get os n) in
      All-append P (broken_below items own ls os n) (broken_at items own ls os n) (all_below P holds n)
      (All-append P (when link (broken own.id n false)) (when order (broken own.id n true)) (all_when P link (broken own.id n false) (holds n false)) (all_when P order (broken own.id n true) (holds n true)))

  at_contains : (n : ℕ) (slots : Bool) → fails_at items own ls os n slots ≡ true → Contains (broken_at items own ls os n) (broken own.id n slots)
  at_contains n false e =
      let link = is_link_broken items own (slice_get ls n) in
      let order = is_order_broken items own (slice_get os n) in
      Contains-append_left (when link (broken own.id n false)) (when order (broken own.id n true)) (broken own.id n false) (contains_when link (broken own.id n false) e)
  at_contains n true e =
      let link = is_link_broken items own (slice_get ls n) in
      let order = is_order_broken items own (slice_get os n) in
      Contains-append_right (when link (broken own.id n false)) (when order (broken own.id n true)) (broken own.id n true) (contains_when order (broken own.id n true) e)

  below_contains : (n index : ℕ) (slots : Bool) → index < n → fails_at items own ls os index slots ≡ true → Contains (broken_below items own ls os n) (broken own.id index slots)
  below_contains zero index slots lt e = absurd (omega (arith, lt))
  below_contains (suc n) index slots lt e =
      ⊎_elim
      (λ (before : index < n). Contains-append_left (broken_below items own ls os n) (broken_at items own ls os n) (broken own.id index slots) (below_contains n index slots before e))
      (λ (behind : n ≤ index).
      let same : n ≡ index = omega (arith, lt, behind) in
      Contains-append_right (broken_below items own ls os n) (broken_at items own ls os n) (broken own.id index slots)
      (subst (λ k. Contains (broken_at items own ls os k) (broken own.id index slots)) (sym same) (at_contains index slots e)))
      (cases_lt index n)

  pub within : (index : ℕ) (slots : Bool) → fails_at items own ls os index slots ≡ true → index < max (length ls) (length os)
  within index false e = omega (arith, link_within items own ls index e)
  within index true e = omega (arith, failing_within items own os index e)

pub all_are_broken : (model : Model) (items : List Placed) → All (IsBroken model items) (broken_of model items)
all_are_broken model items =
    all_flat (IsBroken model items) (broken_by model items) items
    (All-weaker (Contains items) (λ own. All (IsBroken model items) (broken_by model items own))
    (λ own placed. all_below items own (links_of model own) (orders_of model own) (IsBroken model items)
    (λ index slots failing. record { own = own; placed = placed; id = refl; failing = failing })
    (max (length (links_of model own)) (length (orders_of model own))))
    items (All-contains_itself items))

broken_is_listed : (model : Model) (items : List Placed) (b : Broken) → IsBroken model items b → Contains (broken_of model items) b
broken_is_listed model items b is =
    let ls = links_of model is.own in
    let os = orders_of model is.own in
    let here : Contains (broken_by model items is.own) (broken is.own.id b.index b.slots) = below_contains items is.own ls os (max (length ls) (length os)) b.index b.slots (within items is.own ls os b.index b.slots is.failing) is.failing in
    let later : Contains (broken_by model items is.own) b = subst (λ i. Contains (broken_by model items is.own) (broken i b.index b.slots)) is.id here in
    All-contains (λ own. Contains (broken_by model items own) b → Contains (broken_of model items) b) items is.own (flat_contains (broken_by model items) b items) is.placed later

pub exactly_the_broken : (model : Model) (items : List Placed) (b : Broken) → Contains (broken_of model items) b ↔ IsBroken model items b
exactly_the_broken model items b = (λ c. All-contains (IsBroken model items) (broken_of model items) b (all_are_broken model items) c, λ is. broken_is_listed model items b is)
