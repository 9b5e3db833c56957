-- Lists without two of one key stay so, with one more and with one less. Which items are equal.
use Rattle.std.proofs.Common.{◌≡◌, ℕ, Bool, ap, ◌∙◌, eqb, true, false, ◌||◌, cond, List, [], ◌∷◌, ◌++◌, refl, sym, subst}
use Rattle.std.proofs.lemmas.Bool.{and_parts, eqb-true}
use Rattle.pl_lists.specs.Lists.{front, back}
use Rattle.pl_points.specs.Standing.{stands, without}
use Rattle.pl_state.specs.declared.key.Key.{Key}
use Rattle.pl_state.specs.declared.reservation.Setting.{Setting}
use Rattle.pl_state.specs.declared.answer.BadSet.{BadSet}
use Rattle.pl_state.specs.declared.answer.BrokenMust.{BrokenMust}
use Rattle.pl_state.specs.Sets.{same_setting, set_key}
use Rattle.pl_state.specs.Timelines.{same_bad, same_broken}
use Rattle.pl_state.specs.Keys.{KnowsKey, key_of}
use Rattle.pl_state.specs.Sorted.{NoneHas, AreDistinct}

none_has_with : {T : Type 0} (key : T → Key) (p : T → Bool) (k : Key) (u : T) (xs : List T) → (key u ≡ k → ⊥) → NoneHas key k xs → NoneHas key k (front p xs ++ u ∷ back p xs)
none_has_with key p k u [] other none = (other, tt)
none_has_with key p k u (x ∷ xs) other none = cases (p x) (none_has_with key p k u xs other none.1)
  where
    cases : (b : Bool) → NoneHas key k (front p xs ++ u ∷ back p xs) → NoneHas key k (cond b (x ∷ front p xs) [] ++ u ∷ cond b (back p xs) (x ∷ xs))
    cases true more = (none.0, more)
    cases false more = (other, none)

pub distinct_with : {T : Type 0} (key : T → Key) (p : T → Bool) (u : T) (xs : List T) → NoneHas key (key u) xs → AreDistinct key xs → AreDistinct key (front p xs ++ u ∷ back p xs)
distinct_with key p u [] none distinct = (tt, tt)
distinct_with key p u (x ∷ xs) none distinct = cases (p x) (distinct_with key p u xs none.1 distinct.1)
  where
    cases : (b : Bool) → AreDistinct key (front p xs ++ u ∷ back p xs) → AreDistinct key (cond b (x ∷ front p xs) [] ++ u ∷ cond b (back p xs) (x ∷ xs))
    cases true more = (none_has_with key p (key x) u xs (λ e. none.0 (sym e)) distinct.0, more)
    cases false more = (none, distinct)

none_has_without : {T : Type 0} (key : T → Key) (same : T → T → Bool) (k : Key) (u : T) (xs : List T) → NoneHas key k xs → NoneHas key k (without same u xs)
none_has_without key same k u [] none = tt
none_has_without key same k u (x ∷ xs) none = cases (same x u) (none_has_without key same k u xs none.1)
  where
    cases : (b : Bool) → NoneHas key k (without same u xs) → NoneHas key k (cond b xs (x ∷ without same u xs))
    cases true more = none.1
    cases false more = (none.0, more)

pub distinct_without : {T : Type 0} (key : T → Key) (same : T → T → Bool) (u : T) (xs : List T) → AreDistinct key xs → AreDistinct key (without same u xs)
distinct_without key same u [] distinct = tt
distinct_without key same u (x ∷ xs) distinct = cases (same x u) (distinct_without key same u xs distinct.1)
  where
    cases : (b : Bool) → AreDistinct key (without same u xs) → AreDistinct key (cond b xs (x ∷ without same u xs))
    cases true more = distinct.1
    cases false more = (none_has_without key same (key x) u xs distinct.0, more)

-- what stands has its key, and so has no other
stands_has : {T : Type 0} (key : T → Key) (same : T → T → Bool) → KnowsKey key same → (u : T) (xs : List T) → NoneHas key (key u) xs → stands same u xs ≡ true → ⊥
stands_has key same knows u [] none has = absurd (cc)
stands_has key same knows u (x ∷ xs) none has = cases (same x u) refl (stands_has key same knows u xs none.1) has
  where
    cases : (b : Bool) → same x u ≡ b → (stands same u xs ≡ true → ⊥) → (b || stands same u xs) ≡ true → ⊥
    cases true e more h = none.0 (knows x u e)
    cases false e more h = more h

-- when one goes, none is left that has its key
pub gone_has : {T : Type 0} (key : T → Key) (same : T → T → Bool) → KnowsKey key same → (u : T) (xs : List T) → stands same u xs ≡ true → AreDistinct key xs → NoneHas key (key u) (without same u xs)
gone_has {T} key same knows u [] has distinct = tt
gone_has {T} key same knows u (x ∷ xs) has distinct = cases (same x u) refl has (λ more. gone_has key same knows u xs more distinct.1)
  where
    cases : (b : Bool) → same x u ≡ b → (b || stands same u xs) ≡ true → (stands same u xs ≡ true → NoneHas key (key u) (without same u xs)) → NoneHas key (key u) (cond b xs (x ∷ without same u xs))
    cases true e h more = let P : Key → Type 0 = λ k. NoneHas key k xs in subst P (knows x u e) distinct.0
    cases false e h more =
        let Q : Key → Type 0 = λ k. NoneHas key k xs in
        (λ f. stands_has key same knows u xs (subst Q f distinct.0) h, more h)

pub knows_set : (x y : Setting) → same_setting x y ≡ true → set_key x ≡ set_key y
knows_set x y e =
    let one = and_parts (eqb x.at y.at) _ e in
    let two = and_parts (eqb x.id y.id) _ one.1 in
    let three = and_parts (eqb x.index y.index) _ two.1 in
    ap (λ n. key_of n x.id x.index) (eqb-true x.at y.at one.0) ∙ (ap (λ n. key_of y.at n x.index) (eqb-true x.id y.id two.0) ∙ ap (λ n. key_of y.at y.id n) (eqb-true x.index y.index three.0))

bad_of : ℕ → ℕ → ℕ → BadSet
bad_of at id index = record { at = at; id = id; index = index }

pub bad_exact : (x y : BadSet) → same_bad x y ≡ true → x ≡ y
unfolding bad_of
bad_exact x y e =
    let one = and_parts (eqb x.at y.at) _ e in
    let two = and_parts (eqb x.id y.id) _ one.1 in
    ap (λ n. bad_of n x.id x.index) (eqb-true x.at y.at one.0) ∙ (ap (λ n. bad_of y.at n x.index) (eqb-true x.id y.id two.0) ∙ ap (λ n. bad_of y.at y.id n) (eqb-true x.index y.index two.1))

broken_of : ℕ → ℕ → ℕ → ℕ → BrokenMust
broken_of id index from to = record { id = id; index = index; from = from; to = to }

pub broken_exact : (x y : BrokenMust) → same_broken x y ≡ true → x ≡ y
unfolding broken_of
broken_exact x y e =
    let one = and_parts (eqb x.id y.id) _ e in
    let two = and_parts (eqb x.index y.index) _ one.1 in
    let three = and_parts (eqb x.from y.from) _ two.1 in
    ap (λ n. broken_of n x.index x.from x.to) (eqb-true x.id y.id one.0) ∙ (ap (λ n. broken_of y.id n x.from x.to) (eqb-true x.index y.index two.0) ∙ (ap (λ n. broken_of y.id y.index n x.to) (eqb-true x.from y.from three.0) ∙ ap (λ n. broken_of y.id y.index y.from n) (eqb-true x.to y.to three.1)))
