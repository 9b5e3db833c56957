-- Sets and musts of a state, and what is wrong with them, under new ids.
use Rattle.std.proofs.Common.{◌≡◌, ℕ, ◌-◌, eqb, ltb, leb, Bool, true, false, cond, List, [], ◌∷◌, refl, ap, ◌∙◌}
use Rattle.std.specs.Prelude.{◌&&◌, not, map, max, min}
use Rattle.std.specs.List.{fold, flat_map}
use Rattle.pl_points.specs.declared.span.Span.{Span}
use Rattle.pl_points.specs.Spans.{spans_of}
use Rattle.pl_points.proofs.Maximal.{local}
use Rattle.pl_lists.specs.Lists.{front, back}
use Rattle.pl_state.specs.declared.reservation.Setting.{Setting}
use Rattle.pl_state.specs.declared.reservation.Must.{Must}
use Rattle.pl_state.specs.Sets.{set_before, with_set, state_from, bad_set, is_counted, bad_from}
use Rattle.pl_state.specs.Musts.{must_before, with_must, broken_in, broken_spans, broken_one, broken_all}
use Rattle.pl_semantics.specs.declared.demand.Demand.{Demand}
use Rattle.pl_semantics.specs.Demands.{asked_of, set_in, must_in, sets_of, musts_of}
use Rattle.pl_renumbering.specs.Renumbered.{KeepsOrder}
use Rattle.pl_renumbering.specs.Carried.{renumbered_setting, renumbered_must, renumbered_broken_must, renumbered_bad_set, renumbered_demand}
use Rattle.pl_renumbering.proofs.Lists.{both_mapped, front_mapped, back_mapped, fold_mapped}
use Rattle.pl_renumbering.proofs.Numbers.{same_ids, less_ids}
use Rattle.pl_renumbering.proofs.Demands.{settings_along, needs_along}

-- ---- the state, which does not depend on ids

pub state_unchanged : (f : ℕ → ℕ) (base moment state : ℕ) (xs : List Setting) → state_from base moment state (map (renumbered_setting f) xs) ≡ state_from base moment state xs
state_unchanged f base moment state [] = refl
state_unchanged f base moment state (x ∷ xs) = state_unchanged f base moment (cond (ltb base x.at && leb x.at moment) x.state state) xs

-- ---- steps that are not allowed

pub bad_along : (f : ℕ → ℕ) (allowed : ℕ → ℕ → Bool) (base horizon moment state : ℕ) (xs : List Setting)
    → bad_from allowed base horizon moment state (map (renumbered_setting f) xs) ≡ map (renumbered_bad_set f) (bad_from allowed base horizon moment state xs)
bad_along f allowed base horizon moment state [] = refl
bad_along f allowed base horizon moment state (x ∷ xs) = both_mapped (renumbered_bad_set f) _ _ _ _
    (single (is_counted base horizon x && (leb moment x.at && not (allowed state x.state))))
    (bad_along f allowed base horizon moment (cond (is_counted base horizon x) x.state state) xs)
  where
    single : (b : Bool) → cond b (bad_set (renumbered_setting f x) ∷ []) [] ≡ map (renumbered_bad_set f) (cond b (bad_set x ∷ []) [])
    single true = refl
    single false = refl

-- ---- broken musts

spans_along : (f : ℕ → ℕ) (m : Must) (all : List Span) → broken_spans (renumbered_must f m) all ≡ map (renumbered_broken_must f) (broken_spans m all)
spans_along f m [] = refl
spans_along f m (p ∷ more) = ap (λ l. renumbered_broken_must f (broken_in m p) ∷ l) (spans_along f m more)

module _ (f : ℕ → ℕ) (state state' : ℕ → ℕ) (same : (t : ℕ) → state' t ≡ state t) (moment horizon : ℕ) where
  one_along : (m : Must) → broken_one state' moment horizon (renumbered_must f m) ≡ map (renumbered_broken_must f) (broken_one state moment horizon m)
  one_along m =
      ap (broken_spans (renumbered_must f m)) (local (λ t. not (eqb (state' t) m.state)) (λ t. not (eqb (state t) m.state)) (max m.from moment) (min m.to horizon - max m.from moment) (λ t le lt. ap (λ n. not (eqb n m.state)) (same t)))
      ∙ spans_along f m (spans_of (λ t. not (eqb (state t) m.state)) (max m.from moment) (min m.to horizon - max m.from moment))

  pub broken_all_along : (ms : List Must) → broken_all state' moment horizon (map (renumbered_must f) ms) ≡ map (renumbered_broken_must f) (broken_all state moment horizon ms)
  broken_all_along [] = refl
  broken_all_along (m ∷ ms) = both_mapped (renumbered_broken_must f) _ _ _ _ (one_along m) (broken_all_along ms)

-- ---- sets and musts in their order

module _ (f : ℕ → ℕ) (keeps : KeepsOrder f) where
  set_before_same : (u x : Setting) → set_before (renumbered_setting f u) (renumbered_setting f x) ≡ set_before u x
  set_before_same u x = rw (less_ids f keeps x.id u.id, same_ids f keeps x.id u.id) refl

  must_before_same : (u x : Must) → must_before (renumbered_must f u) (renumbered_must f x) ≡ must_before u x
  must_before_same u x = rw (less_ids f keeps x.id u.id, same_ids f keeps x.id u.id) refl

  set_put : (xs : List Setting) (u : Setting) → with_set (renumbered_setting f u) (map (renumbered_setting f) xs) ≡ map (renumbered_setting f) (with_set u xs)
  set_put xs u = both_mapped (renumbered_setting f) _ _ (front (set_before u) xs) (u ∷ back (set_before u) xs)
      (front_mapped (renumbered_setting f) (set_before (renumbered_setting f u)) (set_before u) (set_before_same u) xs)
      (ap (λ l. renumbered_setting f u ∷ l) (back_mapped (renumbered_setting f) (set_before (renumbered_setting f u)) (set_before u) (set_before_same u) xs))

  must_put : (xs : List Must) (u : Must) → with_must (renumbered_must f u) (map (renumbered_must f) xs) ≡ map (renumbered_must f) (with_must u xs)
  must_put xs u = both_mapped (renumbered_must f) _ _ (front (must_before u) xs) (u ∷ back (must_before u) xs)
      (front_mapped (renumbered_must f) (must_before (renumbered_must f u)) (must_before u) (must_before_same u) xs)
      (ap (λ l. renumbered_must f u ∷ l) (back_mapped (renumbered_must f) (must_before (renumbered_must f u)) (must_before u) (must_before_same u) xs))

  pub sets_along : (line : ℕ) (ds : List Demand) → sets_of line (map (renumbered_demand f) ds) ≡ map (renumbered_setting f) (sets_of line ds)
  sets_along line ds =
      ap (fold (λ (sorted : List Setting) (x : Setting). with_set x sorted) []) (settings_along f line ds)
      ∙ fold_mapped (renumbered_setting f) (λ sorted x. with_set x sorted) (λ sorted x. with_set x sorted) set_put [] (flat_map (asked_of set_in line) ds)

  pub musts_along : (line : ℕ) (ds : List Demand) → musts_of line (map (renumbered_demand f) ds) ≡ map (renumbered_must f) (musts_of line ds)
  musts_along line ds =
      ap (fold (λ (sorted : List Must) (m : Must). with_must m sorted) []) (needs_along f line ds)
      ∙ fold_mapped (renumbered_must f) (λ sorted m. with_must m sorted) (λ sorted m. with_must m sorted) must_put [] (flat_map (asked_of must_in line) ds)
