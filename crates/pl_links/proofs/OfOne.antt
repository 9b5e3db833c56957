-- What an activity breaks lies from its first link up to the first link of the next id.
use Rattle.std.proofs.Common.{◌≡◌, ℕ, ◌+◌, ◌<◌, Bool, true, false, List, filter, refl, sym, subst, ⊎_elim, arith}
use Rattle.std.specs.declared.ops.Bound.TheVariants.{Included, Excluded}
use Rattle.std.specs.Ordering.{nat_cmp, bool_cmp, ordering_then, is_le}
use Rattle.std.specs.BTreeMap.Range.{range_contains}
use Rattle.std.proofs.lemmas.Bool.{cases_order, eq-eqb, ne_eqb, cases_eq}
use Rattle.pl_links.specs.declared.broken.Broken.{Broken}
use Rattle.pl_links.specs.Sets.{broken_cmp, is_of, first_of}
use Rattle.pl_links.proofs.Anys.{filter_same}
use Rattle.pl_links.proofs.Keyed.{cmp_less, cmp_equal, cmp_greater}

-- nothing of an activity is before its first link
from_first : (index : ℕ) (slots : Bool) → is_le (ordering_then (nat_cmp 0 index) (bool_cmp false slots)) ≡ true
from_first index slots = ⊎_elim
    (λ (e : index ≡ 0). subst (λ i. is_le (ordering_then (nat_cmp 0 i) (bool_cmp false slots)) ≡ true) (sym e) (slot slots))
    (λ (ne : index ≡ 0 → ⊥). rw (cmp_less 0 index (grind (arith, ne))) refl)
    (cases_eq index 0)
  where
    slot : (b : Bool) → is_le (bool_cmp false b) ≡ true
    slot true = refl
    slot false = refl

module _ (id : ℕ) (b : Broken) where
  own : b.id ≡ id → range_contains broken_cmp (Included (first_of id)) (Excluded (first_of (id + 1))) b ≡ is_of id b
  own e = rw (e, cmp_equal id, cmp_greater (id + 1) id (omega arith), from_first b.index b.slots, eq-eqb id id refl) refl

  before : b.id < id → range_contains broken_cmp (Included (first_of id)) (Excluded (first_of (id + 1))) b ≡ is_of id b
  before lt = let ne : b.id ≡ id → ⊥ = λ e. omega (arith, lt, e) in rw (cmp_greater id b.id lt, ne_eqb b.id id ne) refl

  after : id < b.id → range_contains broken_cmp (Included (first_of id)) (Excluded (first_of (id + 1))) b ≡ is_of id b
  after lt =
      let ne : b.id ≡ id → ⊥ = λ e. omega (arith, lt, e) in
      rw (cmp_less id b.id lt, ne_eqb b.id id ne) (⊎_elim
      (λ (e : id + 1 ≡ b.id). rw (← e, cmp_equal (id + 1), from_first b.index b.slots) refl)
      (λ (ne : id + 1 ≡ b.id → ⊥). rw (cmp_less (id + 1) b.id (grind (arith, lt, ne))) refl)
      (cases_eq (id + 1) b.id))

  lies_between : range_contains broken_cmp (Included (first_of id)) (Excluded (first_of (id + 1))) b ≡ is_of id b
  lies_between = ⊎_elim own (λ o. ⊎_elim before after o) (cases_order b.id id)

pub all_between : (id next : ℕ) (all : List Broken) → next ≡ id + 1 → filter (range_contains broken_cmp (Included (first_of id)) (Excluded (first_of next))) all ≡ filter (is_of id) all
all_between id next all is = rw is (filter_same (range_contains broken_cmp (Included (first_of id)) (Excluded (first_of (id + 1)))) (is_of id) all (lies_between id))
