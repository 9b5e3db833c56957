-- Where an id stands among placed activities of rising ids.
use Rattle.std.proofs.Common.{◌≡◌, ℕ, zero, suc, ◌<◌, ◌≤◌, eqb, ltb, Bool, true, false, List, [], ◌∷◌, length, get_or, Some, None, Result, Ok, Err, IfOk, IfErr, refl, sym, ap, arith, ◌∙◌}
use Rattle.std.specs.List.{insert, remove}
use Rattle.std.specs.List.Sorted.{IsSearchInRange, IsBinarySearchResult, IsNonDecreasingBy}
use Rattle.std.specs.Ordering.{nat_cmp, ordering_index}
use Rattle.std.proofs.lemmas.Cmp.{ranked}
use Rattle.std.proofs.lemmas.Bool.{eq-eqb, ne_eqb, lt-ltb, le-ltb, ltb-true, ltb-false, eqb-false}
use Rattle.std.proofs.lemmas.Bool.Decides.{nat_tests}
use Rattle.pl_lists.proofs.Listing as listing
use Rattle.pl_links.specs.declared.placed.Placed.{Placed}
use Rattle.pl_links.specs.Items.{RiseFrom, AreRising, item_of, with_item, without}

-- ids do not lie below where they begin to rise
pub rises_above : (xs : List Placed) (c i : ℕ) (d : Placed) → RiseFrom c xs → i < length xs → c ≤ (get_or xs i d).id
rises_above [] c i d rising lt = absurd (omega (arith, lt))
rises_above (x ∷ xs) c zero d rising lt = rising.0
rises_above (x ∷ xs) c (suc i) d rising lt = omega (arith, rising.0, rises_above xs (suc x.id) i d rising.1 (omega (arith, lt)))

pub found_at : (xs : List Placed) (c i id : ℕ) (d : Placed) → RiseFrom c xs → i < length xs → (get_or xs i d).id ≡ id → item_of id xs ≡ Some (get_or xs i d)
found_at [] c i id d rising lt is = absurd (omega (arith, lt))
found_at (x ∷ xs) c zero id d rising lt is = rw (eq-eqb x.id id is) refl
found_at (x ∷ xs) c (suc i) id d rising lt is =
    let in_range : i < length xs = omega (arith, lt) in
    let above = rises_above xs (suc x.id) i d rising.1 in_range in
    rw (ne_eqb x.id id (λ e. omega (arith, above, is, e))) (found_at xs (suc x.id) i id d rising.1 in_range is)

pub rising-without : (id c : ℕ) (xs : List Placed) → RiseFrom c xs → RiseFrom c (without id xs)
rising-without id c xs rising = listing.rising-without (λ p. p.id) (λ p. eqb p.id id) c xs rising

pub rising-with_item : (a : Placed) (c : ℕ) (xs : List Placed) → item_of a.id xs ≡ None → c ≤ a.id → RiseFrom c xs → RiseFrom c (with_item a xs)
rising-with_item a c [] none le rising = (le, tt)
rising-with_item a c (x ∷ xs) none le rising = cases (eqb x.id a.id) refl (λ rest lt. rising-with_item a (suc x.id) xs rest lt rising.1)
  where
    above : (b : Bool) → ltb x.id a.id ≡ b → (x.id ≡ a.id → ⊥) → item_of a.id xs ≡ None → (item_of a.id xs ≡ None → suc x.id ≤ a.id → RiseFrom (suc x.id) (with_item a xs)) → RiseFrom c (with_item a (x ∷ xs))
    above true e ne rest more = rw e (rising.0, more rest (ltb-true x.id a.id e))
    above false e ne rest more = let at_most : a.id ≤ x.id = ltb-false x.id a.id e in rw e (le, (grind (arith, at_most, ne), rising.1))

    cases : (b : Bool) → eqb x.id a.id ≡ b → (item_of a.id xs ≡ None → suc x.id ≤ a.id → RiseFrom (suc x.id) (with_item a xs)) → RiseFrom c (with_item a (x ∷ xs))
    cases true e more = let found : Some x ≡ None = rw e at none in absurd (cc)
    cases false e more = let rest : item_of a.id xs ≡ None = rw e at none in above (ltb x.id a.id) refl (eqb-false x.id a.id e) rest more
