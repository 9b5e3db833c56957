-- A set whose step from the state before it is not allowed: a conflict tells it.
use Rattle.std.proofs.Common.{◌≡◌, ℕ, ◌<◌, ◌≤◌, ltb, leb, Bool, true, false, cond, List, [], ◌∷◌, filter, refl, sym, ap, ◌∙◌, subst, arith, inl, inr}
use Rattle.std.specs.Prelude.{◌||◌, slice_get, Option, Some}
use Rattle.std.proofs.lemmas.Bool.{and_parts, ltb-true, lt-ltb, le-leb}
use Rattle.std.proofs.Math.Bool.{or-true}
use Rattle.pl_model.specs.declared.timelines.Timeline.{Timeline}
use Rattle.pl_model.specs.declared.timelines.Timeline.TheVariants.{States}
use Rattle.pl_conflict.specs.declared.conflict.Conflict.{Conflict}
use Rattle.pl_conflict.specs.declared.conflict.Code.TheVariants as code
use Rattle.pl_conflict.specs.Order.{has}
use Rattle.pl_conflict.proofs.Sorting.{has-append}
use Rattle.pl_state.specs.declared.reservation.Setting.{Setting}
use Rattle.pl_state.specs.declared.answer.BadSet.{BadSet}
use Rattle.pl_state.specs.Keys.{key_before, AreSorted, NoneBefore, Has}
use Rattle.pl_state.specs.Sorted.{NoneHas, AreDistinct}
use Rattle.pl_state.specs.Sets.{set_key, state_from, is_allowed, is_counted, bad_set, bad_from}
use Rattle.pl_state.proofs.Keys.{follows, before_itself}
use Rattle.pl_state.proofs.Sorting.{has_none}
use Rattle.pl_semantics.specs.declared.plan_state.PlanState.{PlanState}
use Rattle.pl_semantics.specs.PlanStates.{natural}
use Rattle.pl_semantics.specs.Demands.{demands_of, sets_of, since, told}
use Rattle.pl_semantics.specs.Timelines.{bad_step, musts, bad_steps, line_conflicts}
use Rattle.pl_bounds.specs.Marks.{mark_of, Stands}
use Rattle.pl_bounds.specs.Settings.{HasSteps}
use Rattle.pl_bounds.proofs.Governing.{counts, none_has, same_key}
use Rattle.pl_bounds.proofs.Having.{has_right}
use Rattle.pl_bounds.proofs.Needed.{made_has, of_line, stands_all}

-- ---- those that stand before one

-- whether the other one stands before this one
abbrev pub before : Setting → Setting → Bool
before x z = key_before (set_key z) (set_key x)

pub kept_has : (p : Setting → Bool) (z : Setting) (xs : List Setting) → Has z (filter p xs) → Has z xs × (p z ≡ true)
kept_has p z [] has = absurd has
kept_has p z (y ∷ ys) has = by (p y) refl has (kept_has p z ys)
  where
    by : (b : Bool) → p y ≡ b → Has z (cond b (y ∷ filter p ys) (filter p ys)) → (Has z (filter p ys) → Has z ys × (p z ≡ true)) → Has z (y ∷ ys) × (p z ≡ true)
    by true e h more = elim h [
      | inl is ↦ (inl is, ap p (sym is) ∙ e)
      | inr rest ↦ (let both = more rest in (inr both.0, both.1))
    ]
    by false e h more = let both = more h in (inr both.0, both.1)

pub has_kept : (p : Setting → Bool) (z : Setting) (xs : List Setting) → Has z xs → p z ≡ true → Has z (filter p xs)
has_kept p z [] has e = absurd has
has_kept p z (y ∷ ys) has e = by (p y) refl has (has_kept p z ys)
  where
    by : (b : Bool) → p y ≡ b → Has z (y ∷ ys) → (Has z ys → p z ≡ true → Has z (filter p ys)) → Has z (cond b (y ∷ filter p ys) (filter p ys))
    by true f h more = elim h [ inl is ↦ inl is | inr rest ↦ inr (more rest e) ]
    by false f h more = elim h [ inl is ↦ absurd (let bad : true ≡ false = sym e ∙ (ap p (sym is) ∙ f) in cc) | inr rest ↦ more rest e ]

module _ (p : Setting → Bool) where
  none_before_kept : (k : Setting) (xs : List Setting) → NoneBefore set_key (set_key k) xs → NoneBefore set_key (set_key k) (filter p xs)
  none_before_kept k [] none = tt
  none_before_kept k (y ∷ ys) none = by (p y) (none_before_kept k ys none.1)
    where
      by : (b : Bool) → NoneBefore set_key (set_key k) (filter p ys) → NoneBefore set_key (set_key k) (cond b (y ∷ filter p ys) (filter p ys))
      by true rest = (none.0, rest)
      by false rest = rest

  pub sorted_kept : (xs : List Setting) → AreSorted set_key xs → AreSorted set_key (filter p xs)
  sorted_kept [] sorted = tt
  sorted_kept (y ∷ ys) sorted = by (p y) (sorted_kept ys sorted.1)
    where
      by : (b : Bool) → AreSorted set_key (filter p ys) → AreSorted set_key (cond b (y ∷ filter p ys) (filter p ys))
      by true rest = (none_before_kept y ys sorted.0, rest)
      by false rest = rest

  none_has_kept : (k : Setting) (xs : List Setting) → NoneHas set_key (set_key k) xs → NoneHas set_key (set_key k) (filter p xs)
  none_has_kept k [] none = tt
  none_has_kept k (y ∷ ys) none = by (p y) (none_has_kept k ys none.1)
    where
      by : (b : Bool) → NoneHas set_key (set_key k) (filter p ys) → NoneHas set_key (set_key k) (cond b (y ∷ filter p ys) (filter p ys))
      by true rest = (none.0, rest)
      by false rest = rest

  pub distinct_kept : (xs : List Setting) → AreDistinct set_key xs → AreDistinct set_key (filter p xs)
  distinct_kept [] distinct = tt
  distinct_kept (y ∷ ys) distinct = by (p y) (distinct_kept ys distinct.1)
    where
      by : (b : Bool) → AreDistinct set_key (filter p ys) → AreDistinct set_key (cond b (y ∷ filter p ys) (filter p ys))
      by true rest = (none_has_kept y ys distinct.0, rest)
      by false rest = rest

none_kept : (x : Setting) (xs : List Setting) → NoneBefore set_key (set_key x) xs → filter (before x) xs ≡ []
none_kept x [] none = refl
none_kept x (y ∷ ys) none = rw none.0 (none_kept x ys none.1)

-- ---- its step

module _ (allowed : ℕ → ℕ → Bool) (base horizon moment : ℕ) (x : Setting) (counted : is_counted base horizon x ≡ true) (now : leb moment x.at ≡ true) where
  abbrev bads : ℕ → List Setting → List BadSet
  bads v xs = bad_from allowed base horizon moment v xs

  first_bad : (v : ℕ) (ys : List Setting) → NoneBefore set_key (set_key x) ys → allowed (state_from base x.at v (filter (before x) (x ∷ ys))) x.state ≡ false → Has (bad_set x) (bads v (x ∷ ys))
  first_bad v ys none bad =
      let own : filter (before x) (x ∷ ys) ≡ [] = rw (before_itself (set_key x)) (none_kept x ys none) in
      let here : allowed v x.state ≡ false = subst (λ (l : List Setting). allowed (state_from base x.at v l) x.state ≡ false) own bad in
      rw (counted, now, here) (inl refl)

  -- one before it counts for it as it counts for the timeline
  counts_same : (y : Setting) → y.at ≤ x.at → is_counted base horizon y ≡ counts base x.at y
  counts_same y le =
      let parts = and_parts (ltb base x.at) (ltb x.at horizon) counted in
      let last : x.at < horizon = ltb-true x.at horizon parts.1 in
      rw (lt-ltb y.at horizon (omega (arith, le, last)), le-leb y.at x.at le) refl

  pub has_bad : (v : ℕ) (xs : List Setting) → AreSorted set_key xs → AreDistinct set_key xs → Has x xs → allowed (state_from base x.at v (filter (before x) xs)) x.state ≡ false → Has (bad_set x) (bads v xs)
  has_bad v [] sorted distinct has bad = absurd has
  has_bad v (y ∷ ys) sorted distinct has bad = elim has [
    | inl is ↦ subst (λ (u : Setting). Has (bad_set x) (bads v (u ∷ ys))) (sym is)
        (first_bad v ys (subst (λ (u : Setting). NoneBefore set_key (set_key u) ys) is sorted.0) (subst (λ (u : Setting). allowed (state_from base x.at v (filter (before x) (u ∷ ys))) x.state ≡ false) is bad))
    | inr more ↦ by (before x y) refl more bad (has_bad (cond (is_counted base horizon y) y.state v) ys sorted.1 distinct.1 more)
  ]
    where
      by : (b : Bool) → before x y ≡ b → Has x ys → allowed (state_from base x.at v (cond b (y ∷ filter (before x) ys) (filter (before x) ys))) x.state ≡ false
          → (allowed (state_from base x.at (cond (is_counted base horizon y) y.state v) (filter (before x) ys)) x.state ≡ false → Has (bad_set x) (bads (cond (is_counted base horizon y) y.state v) ys))
          → Has (bad_set x) (bads v (y ∷ ys))
      by true e more h next =
          let behind = has_none set_key (set_key y) x ys sorted.0 more in
          let le : y.at ≤ x.at = (follows (set_key x) (set_key y) behind).0 in
          has_right (bad_set x) _ (bads (cond (is_counted base horizon y) y.state v) ys)
          (next (ap (λ (c : Bool). allowed (state_from base x.at (cond c y.state v) (filter (before x) ys)) x.state) (counts_same y le) ∙ h))
      by false e more h next = absurd (
          let behind = has_none set_key (set_key y) x ys sorted.0 more in
          none_has y x ys distinct.0 more (sym (same_key y x e behind)))

-- ---- it stands

module _ (s : PlanState) (line : ℕ) where
  abbrev pub entering : Setting → ℕ
  entering x = state_from (since s line) x.at (natural (told s line)) (filter (before x) (sets_of line (demands_of s)))

  -- it tells that this step is not allowed
  pub step_stands : (any : Bool) (steps : List (ℕ × ℕ)) (x : Setting) (o : Option Timeline) → slice_get s.model.timelines line ≡ o → HasSteps any steps o → AreSorted set_key (sets_of line (demands_of s)) → AreDistinct set_key (sets_of line (demands_of s))
      → Has x (sets_of line (demands_of s)) → since s line < x.at → x.at < s.model.horizon → s.moment ≤ x.at → is_allowed any steps (entering x) x.state ≡ false → Stands s (mark_of code.BadStep x.id x.index)
  unfolding line_conflicts
  step_stands any steps x (Some (States name states start any' steps')) there (same_any, same_steps) sorted distinct held since_lt horizon_lt now_le bad =
      let counted : is_counted (since s line) s.model.horizon x ≡ true = rw (lt-ltb (since s line) x.at since_lt, lt-ltb x.at s.model.horizon horizon_lt) refl in
      let here : Has (bad_set x) (bad_from (is_allowed any steps) (since s line) s.model.horizon s.moment (natural (told s line)) (sets_of line (demands_of s))) =
      has_bad (is_allowed any steps) (since s line) s.model.horizon s.moment x counted (le-leb s.moment x.at now_le) (natural (told s line)) (sets_of line (demands_of s)) sorted distinct held bad in
      let q : Conflict = bad_step s (bad_set x) in
      let among : has q (bad_steps s line any' steps') ≡ true =
      subst (λ (b : Bool). has q (bad_steps s line b steps') ≡ true) (sym same_any) (subst (λ (l : List (ℕ × ℕ)). has q (bad_steps s line any l) ≡ true) (sym same_steps) (made_has (bad_step s) (bad_set x) _ here)) in
      let all : has q (line_conflicts s (line, States name states start any' steps')) ≡ true = has-append (musts s line) (bad_steps s line any' steps') q ∙ (ap (λ b. has q (musts s line) || b) among ∙ or-true (has q (musts s line))) in
      record { q = q; there = stands_all s line q (of_line s line q (States name states start any' steps') there all); states = refl; is = refl }
  step_stands any steps x _ there has_steps sorted distinct held since_lt horizon_lt now_le bad = absurd (has_steps)
