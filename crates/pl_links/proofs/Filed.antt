-- What the indexes hold after a change.
use Rattle.std.proofs.Common.{◌≡◌, ℕ, eqb, ltb, suc, ◌≤◌, Bool, true, false, cond, List, [], ◌∷◌, Option, Some, None, refl, sym, ap, ◌∙◌, subst, arith, rules}
use Rattle.std.specs.Prelude.{◌&&◌, ◌||◌, not}
use Rattle.std.proofs.lemmas.Bool.{eqb-true, eqb-false, eq-eqb, ne_eqb, ltb-true}
use Rattle.std.proofs.Math.Bool.{or-false, and-not_self, and-true}
use Rattle.pl_links.specs.declared.keys.Key.{Key}
use Rattle.pl_links.specs.declared.placed.Placed.{Placed}
use Rattle.pl_links.specs.Items.{is_slot, RiseFrom, AreRising, item_of, with_item, without}
use Rattle.pl_links.specs.Keys.{has_key, is_key_of, is_filed, IsIndexOf}

-- ---- look-ups by id

pub item-with : (p : Placed) (id : ℕ) (items : List Placed) → item_of p.id items ≡ None → item_of id (with_item p items) ≡ cond (eqb p.id id) (Some p) (item_of id items)
item-with p id [] none = refl
item-with p id (x ∷ items) none = cases (ltb x.id p.id) refl (item-with p id items)
  where
    swapped : (a b : Bool) → (a ≡ true → b ≡ true → ⊥) → cond a (Some x) (cond b (Some p) (item_of id items)) ≡ cond b (Some p) (cond a (Some x) (item_of id items))
    swapped true true apart = absurd (apart refl refl)
    swapped true false apart = refl
    swapped false b apart = refl

    rest : (b : Bool) → eqb x.id p.id ≡ b → cond b (Some x) (item_of p.id items) ≡ None → (eqb x.id p.id ≡ false) × (item_of p.id items ≡ None)
    rest true e none = absurd (let h : Some x ≡ None = none in (cc))
    rest false e none = (e, none)

    cases : (b : Bool) → ltb x.id p.id ≡ b → (item_of p.id items ≡ None → item_of id (with_item p items) ≡ cond (eqb p.id id) (Some p) (item_of id items)) → item_of id (with_item p (x ∷ items)) ≡ cond (eqb p.id id) (Some p) (item_of id (x ∷ items))
    cases true e more =
        let parts = rest (eqb x.id p.id) refl none in
        rw (e, more parts.1) (swapped (eqb x.id id) (eqb p.id id) (λ f g. eqb-false x.id p.id parts.0 (eqb-true x.id id f ∙ sym (eqb-true p.id id g))))
    cases false e more = rw e refl

none_below : (id c : ℕ) (items : List Placed) → RiseFrom c items → suc id ≤ c → item_of id items ≡ None
none_below id c [] rising lt = refl
none_below id c (x ∷ items) rising lt = rw (ne_eqb x.id id (λ e. omega (arith, lt, rising.0, e))) (none_below id (suc x.id) items rising.1 (omega (arith, lt, rising.0)))

pub item-without : (gone id c : ℕ) (items : List Placed) → RiseFrom c items → item_of id (without gone items) ≡ cond (eqb gone id) None (item_of id items)
item-without gone id c [] rising = none (eqb gone id)
  where
    none : (b : Bool) → item_of id [] ≡ cond b None (item_of id [])
    none true = refl
    none false = refl
item-without gone id c (x ∷ items) rising = cases (eqb x.id gone) refl (item-without gone id (suc x.id) items rising.1)
  where
    here : x.id ≡ gone → (b : Bool) → eqb gone id ≡ b → item_of id items ≡ cond b None (cond (eqb x.id id) (Some x) (item_of id items))
    here is true e = none_below id (suc x.id) items rising.1 (omega (arith, is, eqb-true gone id e))
    here is false e = rw (ne_eqb x.id id (λ f. eqb-false gone id e (sym is ∙ f))) refl

    swapped : (a b : Bool) → (a ≡ true → b ≡ true → ⊥) → cond a (Some x) (cond b None (item_of id items)) ≡ cond b None (cond a (Some x) (item_of id items))
    swapped true true apart = absurd (apart refl refl)
    swapped true false apart = refl
    swapped false b apart = refl

    cases : (b : Bool) → eqb x.id gone ≡ b → item_of id (without gone items) ≡ cond (eqb gone id) None (item_of id items) → item_of id (without gone (x ∷ items)) ≡ cond (eqb gone id) None (item_of id (x ∷ items))
    cases true e more = rw e (here (eqb-true x.id gone e) (eqb gone id) refl)
    cases false e more = rw (e, more) (swapped (eqb x.id id) (eqb gone id) (λ f g. eqb-false x.id gone e (eqb-true x.id id f ∙ sym (eqb-true gone id g))))

-- ---- indexes

module _ (place : Placed → Option (ℕ × ℕ)) (items : List Placed) (p : Placed) where
  filed_here : (k : Key) (b : Bool) → eqb p.id k.id ≡ b → (b && is_slot k.group k.number (place p)) ≡ is_key_of (place p) p.id k
  filed_here k true e = ap (λ t. t && is_slot k.group k.number (place p)) (sym (eq-eqb k.id p.id (sym (eqb-true p.id k.id e))))
  filed_here k false e = ap (λ t. t && is_slot k.group k.number (place p)) (sym (ne_eqb k.id p.id (λ f. eqb-false p.id k.id e (sym f))))

  pub index_with : (old new : List Key) → ((k : Key) → has_key k new ≡ (has_key k old || is_key_of (place p) p.id k)) → item_of p.id items ≡ None → IsIndexOf place items old → IsIndexOf place (with_item p items) new
  index_with old new changes absent index k =
      changes k ∙ rw (index k, item-with p k.id items absent, ← filed_here k (eqb p.id k.id) refl) (cases (eqb p.id k.id) refl)
    where
      cases : (b : Bool) → eqb p.id k.id ≡ b → (is_filed place (item_of k.id items) k || (b && is_slot k.group k.number (place p))) ≡ is_filed place (cond b (Some p) (item_of k.id items)) k
      cases true e = let none : item_of k.id items ≡ None = subst (λ i. item_of i items ≡ None) (eqb-true p.id k.id e) absent in rw none refl
      cases false e = or-false (is_filed place (item_of k.id items) k)

  pub index_back : (old new back : List Key) → ((k : Key) → has_key k new ≡ (has_key k old || is_key_of (place p) p.id k)) → ((k : Key) → has_key k back ≡ (has_key k new && not (is_key_of (place p) p.id k))) → item_of p.id items ≡ None → IsIndexOf place items old → IsIndexOf place items back
  index_back old new back adds drops absent index k =
      drops k ∙ rw (adds k, index k, ← filed_here k (eqb p.id k.id) refl) (cases (eqb p.id k.id) refl (is_slot k.group k.number (place p)))
    where
      off : (a b : Bool) → ((a || b) && not b) ≡ (a && not b)
      off true true = refl
      off true false = refl
      off false true = refl
      off false false = refl

      stays : (a : Bool) → ((a || false) && true) ≡ a
      stays true = refl
      stays false = refl

      cases : (b : Bool) → eqb p.id k.id ≡ b → (s : Bool) → ((is_filed place (item_of k.id items) k || (b && s)) && not (b && s)) ≡ is_filed place (item_of k.id items) k
      cases true e s = let none : item_of k.id items ≡ None = subst (λ i. item_of i items ≡ None) (eqb-true p.id k.id e) absent in rw none (off false s)
      cases false e s = stays (is_filed place (item_of k.id items) k)

  pub index_without : (old new : List Key) → ((k : Key) → has_key k new ≡ (has_key k old && not (is_key_of (place p) p.id k))) → AreRising items → item_of p.id items ≡ Some p → IsIndexOf place items old → IsIndexOf place (without p.id items) new
  index_without old new changes rising placed index k =
      changes k ∙ rw (index k, item-without p.id k.id 0 items rising, ← filed_here k (eqb p.id k.id) refl) (cases (eqb p.id k.id) refl)
    where
      cases : (b : Bool) → eqb p.id k.id ≡ b → (is_filed place (item_of k.id items) k && not (b && is_slot k.group k.number (place p))) ≡ is_filed place (cond b None (item_of k.id items)) k
      cases true e = let here : item_of k.id items ≡ Some p = subst (λ i. item_of i items ≡ Some p) (eqb-true p.id k.id e) placed in rw here (and-not_self (is_slot k.group k.number (place p)))
      cases false e = and-true (is_filed place (item_of k.id items) k)
