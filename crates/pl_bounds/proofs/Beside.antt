-- What a move of a subtree leaves beside it: no other activity but the parent of the uppermost has a child in it.
use Rattle.std.proofs.Common.{◌≡◌, ℕ, eqb, Bool, true, false, List, [], ◌∷◌, map, filter, get_or, Option, Some, None, refl, sym, ap, ◌∙◌, subst}
use Rattle.std.specs.Prelude.{◌&&◌, ◌||◌, All, option_and_then}
use Rattle.std.specs.List.{flat_map}
use Rattle.std.proofs.lemmas.Bool.{eq-eqb, ne_eqb, or_from, or_left, or_right}
use Rattle.std.proofs.lemmas.Bool.{eqb-true}
use Rattle.std.proofs.lemmas.List.Elements.{All-nil, All-cons, All-head, All-tail, All-map, All-filter, filter_passes}
use Rattle.std.proofs.lemmas.Map.Views.{Contains-from_any}
use Rattle.pl_lists.proofs.Tests.{or_first_false, or_second_false}
use Rattle.pl_plan.specs.declared.activity.Activity.{Activity}
use Rattle.pl_plan.specs.Activities.{IsLive}
use Rattle.pl_plan.specs.Fitting.{fills, is_slot}
use Rattle.pl_plan.specs.Index.{is_number}
use Rattle.pl_plan.specs.Trees.{Descends, child, id_of, itself, parent_id, parent_in, parent_of, subtree_of}
use Rattle.pl_plan.proofs.Kept.{each_found}
use Rattle.pl_plan.proofs.Members.{subtree_members}
use Rattle.pl_plan.proofs.TreeLaws.{descends_sound}
use Rattle.pl_semantics.specs.declared.plan_state.PlanState.{PlanState}
use Rattle.pl_semantics.specs.Moves.{is_under, moved, moved_with}
use Rattle.pl_semantics.specs.PlanStates.{among, found, of_found}
use Rattle.pl_semantics.specs.Whole.{IsWhole}
use Rattle.pl_semantics.proofs.Found.{found_id, found_live, parent_live}
use Rattle.pl_update.proofs.AboutLinks.Lookups.{Fails}
use Rattle.pl_update.proofs.AboutLinks.Nearby.{among-append}
use Rattle.pl_bounds.specs.Remaining.{kind_alone, kinds_of}
use Rattle.pl_bounds.proofs.Others.{flipped, held}

-- ---- lists

all_among : (P : ℕ → Type 0) (ids : List ℕ) → ((i : ℕ) → among i ids ≡ true → P i) → All P ids
all_among P [] each = All-nil P
all_among P (i ∷ ids) each = All-cons P i ids (each i (or_left (eqb i i) (among i ids) (eq-eqb i i refl))) (all_among P ids (λ j there. each j (or_right (eqb i j) (among j ids) there)))

pub none_among : (n : ℕ) (more : List Activity) → All (λ (m : Activity). eqb m.id n ≡ false) more → among n (map id_of more) ≡ false
none_among n [] all = refl
none_among n (m ∷ more) all = or_from (eqb m.id n) (among n (map id_of more)) (All-head (λ (x : Activity). eqb x.id n ≡ false) m more all) (none_among n more (All-tail (λ (x : Activity). eqb x.id n ≡ false) m more all))

none_of_one : (f : ℕ → List ℕ) (n : ℕ) (ids : List ℕ) → among n (flat_map f ids) ≡ false → (i : ℕ) → among i ids ≡ true → among n (f i) ≡ false
none_of_one f n [] none i there = absurd (cc)
none_of_one f n (j ∷ ids) none i there = by (eqb j i) refl (none_of_one f n ids (or_second_false (among n (f j)) (among n (flat_map f ids)) both) i)
  where
    both : (among n (f j) || among n (flat_map f ids)) ≡ false
    both = sym (among-append n (f j) (flat_map f ids)) ∙ none

    by : (b : Bool) → eqb j i ≡ b → (among i ids ≡ true → among n (f i) ≡ false) → among n (f i) ≡ false
    by true e more = subst (λ (k : ℕ). among n (f k) ≡ false) (eqb-true j i e) (or_first_false (among n (f j)) (among n (flat_map f ids)) both)
    by false e more = more (rw e at there)

-- ---- a subtree

module _ (s : PlanState) (whole : IsWhole s) (id : ℕ) where
  abbrev xs : List Activity
  xs = s.plan.activities

  abbrev sub : List ℕ
  sub = subtree_of id s.plan.activities

  under_from : (i : ℕ) → among i sub ≡ true → Descends xs id i
  under_from i there = ((subtree_members xs whole.fits.rooted id i).0 (Contains-from_any {eq = eqb} eqb-true i sub (flipped i sub ∙ there))).1

  module _ (p : ℕ) (left : among p sub ≡ false) (apart : is_number p (parent_of id xs) ≡ false) where
    -- the parent of one of them is another one
    parent_other : (n r : ℕ) → Descends xs id n → parent_of n xs ≡ Some r → IsLive r xs → eqb r p ≡ false
    parent_other n r itself up live = sym (ap (is_number p) up) ∙ apart
    parent_other n r (child m above its under) up live =
        ne_eqb r p (λ e. absurd (
        let same : Some above ≡ Some r = sym its ∙ up in
        let is : above ≡ r = cc in
        let there : among r sub ≡ true = held s whole id r live (subst (λ (k : ℕ). Descends xs id k) is under) in
        let bad : true ≡ false = sym there ∙ (ap (λ (k : ℕ). among k sub) e ∙ left) in
        cc))

    no_slot : (slot : ℕ) (y : Activity) → found s y.id ≡ Some y → among y.id sub ≡ true → fills p slot y ≡ false
    no_slot slot y live there = by y.parent refl
      where
        by : (o : Option (ℕ × ℕ)) → y.parent ≡ o → is_slot p slot o ≡ false
        by None e = refl
        by (Some r) e =
            let up : parent_of y.id xs ≡ Some r.0 = ap (option_and_then parent_in) live ∙ ap parent_id e in
            ap (λ b. b && eqb r.1 slot) (parent_other y.id r.0 (under_from y.id there) up (parent_live s whole y live r e))

    pub none_goes : (slot : ℕ) → All (Fails (fills p slot) xs) sub
    none_goes slot = all_among (Fails (fills p slot) xs) sub (λ i there a e. no_slot slot a (found_live i xs a e) (ap (λ (k : ℕ). among k sub) (found_id i xs a e) ∙ there))

  -- ---- what a shift places

  module _ (to : ℕ) where
    all_of : (Q : Activity → Type 0) → ((from : ℕ) (y : Activity) → found s y.id ≡ Some y → among y.id sub ≡ true → Q (moved from to y)) → (o : Option Activity) → found s id ≡ o → All Q (moved_with s to o)
    all_of Q each None e = All-nil Q
    all_of Q each (Some top) e = All-map Q (moved top.start to) (filter (is_under s top.id) xs) (λ k d lt.
        let y = get_or (filter (is_under s top.id) xs) k d in
        let live : found s y.id ≡ Some y = All-filter (is_under s top.id) (λ (z : Activity). found s z.id ≡ Some z) xs (each_found xs whole.rising) k d lt in
        each top.start y live (inside y live (filter_passes (is_under s top.id) xs k d lt)))
      where
        inside : (y : Activity) → found s y.id ≡ Some y → is_under s top.id y ≡ true → among y.id sub ≡ true
        inside y live under = held s whole id y.id (rw live refl) (subst (λ (n : ℕ). Descends xs n y.id) (found_id id xs top e) (descends_sound xs whole.fits.rooted top.id y.id under))

    pub all_moved : (Q : Activity → Type 0) → ((from : ℕ) (y : Activity) → found s y.id ≡ Some y → among y.id sub ≡ true → Q (moved from to y)) → All Q (moved_with s to (found s id))
    all_moved Q each = all_of Q each (found s id) refl

    -- in no slot of another one
    pub none_comes : (p : ℕ) → among p sub ≡ false → is_number p (parent_of id xs) ≡ false → (slot : ℕ) → All (λ (m : Activity). fills p slot m ≡ false) (moved_with s to (found s id))
    none_comes p left apart slot = all_moved (λ (m : Activity). fills p slot m ≡ false) (λ from y live there. no_slot p left apart slot y live there)

    -- of no other kind than what moves
    pub kinds_left : (k : ℕ) → among k (kinds_of s sub) ≡ false → All (λ (m : Activity). eqb m.kind k ≡ false) (moved_with s to (found s id))
    kinds_left k none = all_moved (λ (m : Activity). eqb m.kind k ≡ false) (λ from y live there.
        let alone : among k (of_found kind_alone (found s y.id)) ≡ false = none_of_one (λ i. of_found kind_alone (found s i)) k sub none y.id there in
        or_first_false (eqb y.kind k) false (sym (ap (λ (o : Option Activity). among k (of_found kind_alone o)) live) ∙ alone))

    -- of no other ids
    pub ids_left : (n : ℕ) → among n sub ≡ false → among n (map id_of (moved_with s to (found s id))) ≡ false
    ids_left n none = none_among n (moved_with s to (found s id)) (all_moved (λ (m : Activity). eqb m.id n ≡ false) (λ from y live there. ne_eqb y.id n (λ e. absurd (let bad : true ≡ false = sym there ∙ (ap (λ (k : ℕ). among k sub) e ∙ none) in cc))))
