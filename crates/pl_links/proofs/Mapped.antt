-- Activities under their ids in a map, and their list by rising id.
use Rattle.std.proofs.Common.{◌≡◌, ⊎_elim, ℕ, ◌<◌, eqb, ltb, Bool, true, false, cond, List, [], ◌∷◌, Option, Some, None, refl, sym, ap, ◌∙◌, subst, arith}
use Rattle.std.specs.Prelude.{All, ◌⊎◌}
use Rattle.std.specs.declared.cmp.Ordering.{Ordering}
use Rattle.std.specs.declared.cmp.Ordering.TheVariants.{Less, Equal, Greater}
use Rattle.std.specs.Ordering.{nat_cmp, is_eq, match_ordering}
use Rattle.std.specs.Map.{values_of, lookup, remove_entry}
use Rattle.std.specs.BTreeMap.{is_at, insert_entry}
use Rattle.std.proofs.lemmas.Bool.{eqb-true, eq-eqb, ne_eqb, lt-ltb, le-ltb, cases_order}
use Rattle.std.proofs.lemmas.List.Elements.{All-nil, All-cons, All-head, All-tail}
use Rattle.std.proofs.lemmas.Map.Lookups.{exact_unsigned}
use Rattle.pl_lists.proofs.Tests.{same_test}
use Rattle.pl_lists.proofs.Orderings.{equal_from_test}
use Rattle.pl_links.specs.declared.placed.Placed.{Placed}
use Rattle.pl_links.specs.Items.{item_of, with_item, without}
use Rattle.pl_links.specs.Filed.{IsUnderId, AreUnderIds}
use Rattle.pl_links.proofs.Keyed.{cmp_less, cmp_equal, cmp_greater}

test_is : (id k : ℕ) → is_at (nat_cmp id) k ≡ eqb k id
test_is id k =
    same_test (is_at (nat_cmp id) k) (eqb k id)
    (λ e. eq-eqb k id (sym (exact_unsigned id k (equal_from_test (nat_cmp id k) e))))
    (λ e. subst (λ n. is_at (nat_cmp id) n ≡ true) (sym (eqb-true k id e)) (ap is_eq (cmp_equal id)))

tested : (id : ℕ) (e : ℕ × Placed) → IsUnderId e → is_at (nat_cmp id) e.0 ≡ eqb e.1.id id
tested id e is = test_is id e.0 ∙ ap (λ n. eqb n id) is

pub lookup_is : (id : ℕ) (es : List (ℕ × Placed)) → AreUnderIds es → lookup (is_at (nat_cmp id)) es ≡ item_of id (values_of es)
lookup_is id [] under = refl
lookup_is id (e ∷ es) under =
    rw (tested id e (All-head IsUnderId e es under), lookup_is id es (All-tail IsUnderId e es under)) refl

pub removed_is : (id : ℕ) (es : List (ℕ × Placed)) → AreUnderIds es → values_of (remove_entry (is_at (nat_cmp id)) es) ≡ without id (values_of es)
removed_is id [] under = refl
removed_is id (e ∷ es) under = cases (eqb e.1.id id) refl (removed_is id es (All-tail IsUnderId e es under))
  where
    cases : (b : Bool) → eqb e.1.id id ≡ b → values_of (remove_entry (is_at (nat_cmp id)) es) ≡ without id (values_of es) → values_of (remove_entry (is_at (nat_cmp id)) (e ∷ es)) ≡ without id (values_of (e ∷ es))
    cases true t more = rw (tested id e (All-head IsUnderId e es under), t) refl
    cases false t more = rw (tested id e (All-head IsUnderId e es under), t) (ap (λ (xs : List Placed). e.1 ∷ xs) more)

pub under_removed : (id : ℕ) (es : List (ℕ × Placed)) → AreUnderIds es → AreUnderIds (remove_entry (is_at (nat_cmp id)) es)
under_removed id [] under = under
under_removed id (e ∷ es) under = cases (is_at (nat_cmp id) e.0) (under_removed id es (All-tail IsUnderId e es under))
  where
    cases : (b : Bool) → AreUnderIds (remove_entry (is_at (nat_cmp id)) es) → AreUnderIds (cond b es (e ∷ remove_entry (is_at (nat_cmp id)) es))
    cases true more = All-tail IsUnderId e es under
    cases false more = All-cons IsUnderId e (remove_entry (is_at (nat_cmp id)) es) (All-head IsUnderId e es under) more

pub inserted_is : (p : Placed) (es : List (ℕ × Placed)) → AreUnderIds es → item_of p.id (values_of es) ≡ None → values_of (insert_entry nat_cmp es p.id p) ≡ with_item p (values_of es)
inserted_is p [] under none = refl
inserted_is p (e ∷ es) under none = ⊎_elim
    (λ (same : p.id ≡ e.1.id). let found : Some e.1 ≡ None = rw (eq-eqb e.1.id p.id (sym same)) at none in absurd (cc))
    (λ (apart : (p.id < e.1.id) ⊎ (e.1.id < p.id)). ⊎_elim
    (λ (lt : p.id < e.1.id).
    let order : nat_cmp p.id e.0 ≡ Less = ap (nat_cmp p.id) is ∙ cmp_less p.id e.1.id lt in
    rw (order, le-ltb e.1.id p.id (omega (arith, lt))) refl)
    (λ (gt : e.1.id < p.id).
    let order : nat_cmp p.id e.0 ≡ Greater = ap (nat_cmp p.id) is ∙ cmp_greater p.id e.1.id gt in
    let rest : item_of p.id (values_of es) ≡ None = rw (ne_eqb e.1.id p.id (λ f. omega (arith, gt, f))) at none in
    let more = inserted_is p es (All-tail IsUnderId e es under) rest in
    rw (order, lt-ltb e.1.id p.id gt) (ap (λ (xs : List Placed). e.1 ∷ xs) more))
    apart)
    (cases_order p.id e.1.id)
  where
    is : IsUnderId e
    is = All-head IsUnderId e es under

pub under_inserted : (p : Placed) (es : List (ℕ × Placed)) → AreUnderIds es → AreUnderIds (insert_entry nat_cmp es p.id p)
under_inserted p [] under = All-cons IsUnderId (p.id, p) [] refl (All-nil IsUnderId)
under_inserted p (e ∷ es) under = cases (nat_cmp p.id e.0) refl (under_inserted p es (All-tail IsUnderId e es under))
  where
    cases : (o : Ordering) → nat_cmp p.id e.0 ≡ o → AreUnderIds (insert_entry nat_cmp es p.id p) → AreUnderIds (match_ordering o ((p.id, p) ∷ e ∷ es) ((e.0, p) ∷ es) (e ∷ insert_entry nat_cmp es p.id p))
    cases Less t more = All-cons IsUnderId (p.id, p) (e ∷ es) refl under
    cases Equal t more = All-cons IsUnderId (e.0, p) es (sym (exact_unsigned p.id e.0 t)) (All-tail IsUnderId e es under)
    cases Greater t more = All-cons IsUnderId e (insert_entry nat_cmp es p.id p) (All-head IsUnderId e es under) more
