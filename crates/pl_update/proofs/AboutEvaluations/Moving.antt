-- What is kept after a shift.
use Rattle.std.proofs.Common.{◌≡◌, ◌≢◌, ℕ, ◌+◌, ◌-◌, ◌<◌, ◌≤◌, eqb, Bool, true, false, List, [], ◌∷◌, map, Option, Some, None, refl, sym, ap, ◌∙◌, subst, ℤ, pos, negsuc, arith}
use Rattle.std.specs.Prelude.{◌==◌, ◌&&◌, min, nat_le, All, unwrap_or, option_and_then, if◌then◌else◌}
use Rattle.std.specs.List.{fold}
use Rattle.std.specs.Option.{option_or, option_map}
use Rattle.std.proofs.lemmas.Bool.{eqb-true, ne_eqb, and_parts, leb-true}
use Rattle.std.proofs.lemmas.List.Elements.{All-head, All-tail}
use Rattle.pl_model.specs.declared.kinds.Kind.{Kind}
use Rattle.pl_model.specs.declared.whole.Model.{Model}
use Rattle.pl_model.specs.Values.{value_of}
use Rattle.pl_plan.specs.declared.activity.Activity.{Activity}
use Rattle.pl_plan.specs.declared.evaluated.Evaluated.{Evaluated}
use Rattle.pl_plan.specs.Activities.{activity_of}
use Rattle.pl_plan.specs.Trees.{id_of}
use Rattle.pl_plan.specs.Fitting.{FitsAlone, kind_of}
use Rattle.pl_plan.specs.Values.{Row, values_of}
use Rattle.pl_plan.specs.Firm.{moments_in, duration_in, is_firm_with, amounts_in, amounts_of, end_with, end_of}
use Rattle.pl_plan.proofs.Climbs.{all_at}
use Rattle.pl_semantics.specs.declared.plan_state.PlanState.{PlanState}
use Rattle.pl_semantics.specs.PlanStates.{among}
use Rattle.pl_semantics.specs.Whole.{IsWhole}
use Rattle.pl_semantics.proofs.Found.{found_id}
use Rattle.pl_update.specs.Changes.Replaced.{replaced, CanReplace}
use Rattle.pl_update.proofs.AboutChanges.Putting.{puttable}
use Rattle.pl_update.proofs.AboutChanges.Finding.{found-replaced}
use Rattle.pl_update.specs.Evaluations.Kept.{Entries, kept_at, comes_to, come_to, AreOf}
use Rattle.pl_update.specs.Evaluations.Shifted.{still, AreStill, IsElsewhere, IsShift, start_before, moved, KeepsShifted}
use Rattle.pl_update.proofs.AboutEvaluations.Coming.{AreOnce, once_head, once_tail}
use Rattle.pl_update.proofs.AboutEvaluations.Still.{values_still}

-- what is kept under an id, moved along with each activity of that id
abbrev pub shifted_at : List Activity → ℕ → Option Evaluated → List Activity → Option Evaluated
shifted_at activities q o more = fold (λ o a. if a.id == q then option_map (moved (start_before activities a) a.start) o else o) o more

-- ---- one activity after another

no_other : (id q : ℕ) (more : List Activity) → All (λ b. id ≢ b.id) more → id ≡ q → activity_of q more ≡ None
no_other id q [] all is = refl
no_other id q (b ∷ more) all is =
    rw (ne_eqb b.id q (λ same. All-head (λ (x : Activity). id ≢ x.id) b more all (is ∙ sym same)))
    (no_other id q more (All-tail (λ (x : Activity). id ≢ x.id) b more all) is)

module _ (xs : List Activity) (q : ℕ) where
  untouched : (more : List Activity) (o : Option Evaluated) → activity_of q more ≡ None → shifted_at xs q o more ≡ o
  untouched [] o none = refl
  untouched (a ∷ more) o none = cases (eqb a.id q) refl (untouched more o)
    where
      cases : (b : Bool) → eqb a.id q ≡ b → (activity_of q more ≡ None → shifted_at xs q o more ≡ o) → shifted_at xs q o (a ∷ more) ≡ o
      cases true e rest = absurd (let bad : Some a ≡ None = rw e at none in cc)
      cases false e rest = rw e (rest (rw e at none))

  shifted_once : (more : List Activity) (o : Option Evaluated) (a : Activity) → AreOnce more → activity_of q more ≡ Some a → shifted_at xs q o more ≡ option_map (moved (start_before xs a) a.start) o
  shifted_once [] o a once here = absurd (cc)
  shifted_once (x ∷ more) o a once here = cases (eqb x.id q) refl (shifted_once more o a (once_tail x more once))
    where
      cases : (b : Bool) → eqb x.id q ≡ b → (activity_of q more ≡ Some a → shifted_at xs q o more ≡ option_map (moved (start_before xs a) a.start) o) → shifted_at xs q o (x ∷ more) ≡ option_map (moved (start_before xs a) a.start) o
      cases true e rest =
          let at : Some x ≡ Some a = rw e at here in
          let same : x ≡ a = cc in
          let none : activity_of q more ≡ None = no_other x.id q more (once_head x more once) (eqb-true x.id q e) in
          rw e (untouched more (option_map (moved (start_before xs x) x.start) o) none ∙ ap (λ (y : Activity). option_map (moved (start_before xs y) y.start) o) same)
      cases false e rest = rw e (rest (rw e at here))

-- ---- ends

moments_within : (h : ℕ) (o : Option ℤ) (d : ℕ) → moments_in h o ≡ Some d → d ≤ h
moments_within h None d e = absurd (cc)
moments_within h (Some (negsuc n)) d e = absurd (cc)
moments_within h (Some (pos n)) d e = cases (nat_le 1 n && nat_le n h) refl
  where
    cases : (b : Bool) → (nat_le 1 n && nat_le n h) ≡ b → d ≤ h
    cases true f =
        let is : Some n ≡ Some d = rw f at e in
        let same : n ≡ d = cc in
        let most : n ≤ h = leb-true n h (and_parts (nat_le 1 n) (nat_le n h) f).1 in
        omega (arith, same, most)
    cases false f = absurd (let bad : None ≡ Some d = rw f at e in cc)

module _ (h : ℕ) (k : Kind) (values : Row) (from to : ℕ) (room : to + h < 4294967296) where
  abbrev along : Option ℕ → Option ℕ
  along o = option_map (λ m. min (to + (m - from)) 4294967295) o

  duration_along : (o : Option ℕ) → duration_in h k values ≡ o → along (option_map (λ d. from + d) o) ≡ option_map (λ d. to + d) o
  duration_along None e = refl
  duration_along (Some d) e =
      let most : d ≤ h = moments_within h (value_of k.duration values) d e in
      let is : min (to + ((from + d) - from)) 4294967295 ≡ to + d = omega (arith, most, room) in
      ap Some is

  end_along : along (end_with h k from None values) ≡ end_with h k to None values
  end_along = cases (is_firm_with h k values) refl
    where
      cases : (b : Bool) → is_firm_with h k values ≡ b → along (end_with h k from None values) ≡ end_with h k to None values
      cases true e = rw e (duration_along (duration_in h k values) refl)
      cases false e = rw e refl

module _ (model : Model) (xs ys : List Activity) where
  end_moved : (id : ℕ) (a b : Activity) → activity_of id xs ≡ Some b → activity_of id ys ≡ Some a → still b ≡ still a → a.measured ≡ None → a.start + model.horizon < 4294967296 → values_of model xs id ≡ values_of model ys id
      → option_map (λ m. min (a.start + (m - b.start)) 4294967295) (end_of model xs id) ≡ end_of model ys id
  unfolding end_of
  end_moved id a b was is alike none room row =
      rw (was, is, row) (by (values_of model ys id) b.measured a.measured (ap (λ (z : Activity). z.measured) alike ∙ none) none (kind_of model b) (kind_of model a) (ap (λ (z : Activity). kind_of model z) alike))
    where
      by : (own : Row) (m n : Option ℕ) → m ≡ None → n ≡ None → (o w : Option Kind) → o ≡ w → option_map (λ m. min (a.start + (m - b.start)) 4294967295) (option_and_then (λ k. end_with model.horizon k b.start m own) o) ≡ option_and_then (λ k. end_with model.horizon k a.start n own) w
      by own (Some m) n f g o w e = absurd (cc)
      by own None (Some n) f g o w e = absurd (cc)
      by own None None f g None None e = refl
      by own None None f g None (Some k) e = absurd (cc)
      by own None None f g (Some k) None e = absurd (cc)
      by own None None f g (Some k) (Some l) e = let same : k ≡ l = cc in end_along model.horizon k own b.start a.start room ∙ ap (λ z. end_with model.horizon z a.start None own) same

  kinds_alike : (o w : Option Activity) → option_map still o ≡ option_map still w → option_and_then (kind_of model) o ≡ option_and_then (kind_of model) w
  kinds_alike None None e = refl
  kinds_alike None (Some b) e = absurd (cc)
  kinds_alike (Some a) None e = absurd (cc)
  kinds_alike (Some a) (Some b) e = (let alike : still a ≡ still b = cc in ap (λ (z : Activity). kind_of model z) alike)

  amounts_still : AreStill xs ys → (id : ℕ) → values_of model xs id ≡ values_of model ys id → amounts_of model xs id ≡ amounts_of model ys id
  unfolding amounts_of
  amounts_still same id row =
      ap (λ (k : Option Kind). amounts_in k (values_of model xs id)) (kinds_alike (activity_of id xs) (activity_of id ys) (same id))
      ∙ ap (amounts_in (option_and_then (kind_of model) (activity_of id ys))) row

-- ---- a shift

not_among : (q : ℕ) (more : List Activity) → activity_of q more ≡ None → among q (map id_of more) ≡ false
not_among q [] none = refl
not_among q (x ∷ more) none = cases (eqb x.id q) refl (not_among q more)
  where
    cases : (b : Bool) → eqb x.id q ≡ b → (activity_of q more ≡ None → among q (map id_of more) ≡ false) → among q (map id_of (x ∷ more)) ≡ false
    cases true e rest = absurd (let bad : Some x ≡ None = rw e at none in cc)
    cases false e rest = rw e (rest (rw e at none))

one_there : (a : Activity) (o : Option Activity) → option_map still o ≡ Some (still a) → (b : Activity) × (o ≡ Some b) × (still b ≡ still a)
one_there a None e = absurd (cc)
one_there a (Some b) e = (b, refl, (let same : still b ≡ still a = cc in same))

module _ (s : PlanState) (gone : List ℕ) (more : List Activity) (whole : IsWhole s) (can : CanReplace s gone more) (shift : IsShift s.plan.activities gone more) where
  abbrev xs : List Activity
  xs = s.plan.activities

  abbrev ys : List Activity
  ys = replaced s.plan.activities gone more

  found_now : (q : ℕ) → activity_of q ys ≡ option_or (activity_of q more) (if among q gone then None else activity_of q xs)
  found_now q = found-replaced s.plan.activities gone more q whole.rising (puttable s.plan.activities gone more whole.rising can.once can.free)

  there : (q : ℕ) (a : Activity) → activity_of q more ≡ Some a → activity_of q ys ≡ Some a
  there q a here = found_now q ∙ rw here refl

  stays : (q : ℕ) → activity_of q more ≡ None → activity_of q ys ≡ activity_of q xs
  stays q none =
      let out : among q gone ≡ false = ap (among q) shift.ids ∙ not_among q more none in
      found_now q ∙ rw (none, out) refl

  elsewhere : (q : ℕ) (a : Activity) → activity_of q more ≡ Some a → IsElsewhere xs a × (a.id ≡ q)
  elsewhere q a here = all_at (IsElsewhere xs) more q a shift.same here

  -- what comes was there, but for its start
  before : (q : ℕ) (a : Activity) → activity_of q more ≡ Some a → option_map still (activity_of q xs) ≡ Some (still a)
  before q a here =
      let both = elsewhere q a here in
      subst (λ n. option_map still (activity_of n xs) ≡ Some (still a)) both.1 both.0.0

  are_still : AreStill xs ys
  are_still q = by (activity_of q more) refl
    where
      by : (o : Option Activity) → activity_of q more ≡ o → option_map still (activity_of q xs) ≡ option_map still (activity_of q ys)
      by None e = ap (option_map still) (sym (stays q e))
      by (Some a) e = before q a e ∙ ap (option_map still) (sym (there q a e))

  same_values : (q : ℕ) → values_of s.model xs q ≡ values_of s.model ys q
  same_values q = values_still s.model xs ys whole.fits.rooted can.fits.rooted are_still q

  same_amounts : (q : ℕ) → amounts_of s.model xs q ≡ amounts_of s.model ys q
  same_amounts q = amounts_still s.model xs ys are_still q (same_values q)

  same_end : (q : ℕ) → activity_of q more ≡ None → end_of s.model xs q ≡ end_of s.model ys q
  unfolding end_of
  same_end q none = rw (stays q none, same_values q) refl

  room : (q : ℕ) (a : Activity) → activity_of q ys ≡ Some a → a.start + s.model.horizon < 4294967296
  room q a here =
      let alone : FitsAlone s.model a = (all_at (FitsAlone s.model) ys q a can.fits.each here).0 in
      let below : a.start < s.model.horizon = alone.start.1 in
      let most : s.model.horizon ≤ 10000000 = whole.checked.horizon.1 in
      omega (arith, below, most)

  kept_same : (q : ℕ) → activity_of q more ≡ None → come_to s.model xs q ≡ come_to s.model ys q
  kept_same q none = rw (stays q none) (by (activity_of q xs) refl)
    where
      by : (o : Option Activity) → activity_of q xs ≡ o → option_map (comes_to s.model xs) o ≡ option_map (comes_to s.model ys) o
      by None e = refl
      by (Some a) e =
          let is : a.id ≡ q = found_id q xs a e in
          ap (λ n. Some (record { values = values_of s.model xs n; amounts = amounts_of s.model xs n; end = end_of s.model xs n })) is
          ∙ ap (λ row. Some (record { values = row; amounts = amounts_of s.model xs q; end = end_of s.model xs q })) (same_values q)
          ∙ ap (λ row. Some (record { values = values_of s.model ys q; amounts = row; end = end_of s.model xs q })) (same_amounts q)
          ∙ ap (λ end. Some (record { values = values_of s.model ys q; amounts = amounts_of s.model ys q; end = end })) (same_end q none)
          ∙ ap (λ n. Some (record { values = values_of s.model ys n; amounts = amounts_of s.model ys n; end = end_of s.model ys n })) (sym is)

  kept_moved : (q : ℕ) (a : Activity) → activity_of q more ≡ Some a → option_map (moved (start_before xs a) a.start) (come_to s.model xs q) ≡ come_to s.model ys q
  kept_moved q a here =
      let was = one_there a (activity_of q xs) (before q a here) in
      let b : Activity = was.0 in
      let is_b : b.id ≡ q = found_id q xs b was.1 in
      let is_a : a.id ≡ q = found_id q ys a (there q a here) in
      let from : start_before xs a ≡ b.start = ap (λ n. unwrap_or (option_map (λ (x : Activity). x.start) (activity_of n xs)) a.start) is_a ∙ ap (λ o. unwrap_or (option_map (λ (x : Activity). x.start) o) a.start) was.1 in
      let end : option_map (λ m. min (a.start + (m - b.start)) 4294967295) (end_of s.model xs q) ≡ end_of s.model ys q = end_moved s.model xs ys q a b was.1 (there q a here) was.2 (elsewhere q a here).0.1 (room q a (there q a here)) (same_values q) in
      rw (was.1, there q a here)
      (ap (λ n. Some (moved n a.start (comes_to s.model xs b))) from
      ∙ ap (λ n. Some (moved b.start a.start (record { values = values_of s.model xs n; amounts = amounts_of s.model xs n; end = end_of s.model xs n }))) is_b
      ∙ ap (λ row. Some (record { values = row; amounts = amounts_of s.model xs q; end = option_map (λ m. min (a.start + (m - b.start)) 4294967295) (end_of s.model xs q) })) (same_values q)
      ∙ ap (λ row. Some (record { values = values_of s.model ys q; amounts = row; end = option_map (λ m. min (a.start + (m - b.start)) 4294967295) (end_of s.model xs q) })) (same_amounts q)
      ∙ ap (λ e. Some (record { values = values_of s.model ys q; amounts = amounts_of s.model ys q; end = e })) end
      ∙ ap (λ n. Some (record { values = values_of s.model ys n; amounts = amounts_of s.model ys n; end = end_of s.model ys n })) (sym is_a))

  kept_shifted : (old new : Entries) → AreOf s old → ((q : ℕ) → kept_at q new ≡ shifted_at xs q (kept_at q old) more) → (q : ℕ) → kept_at q new ≡ come_to s.model ys q
  kept_shifted old new are is q = is q ∙ ap (λ o. shifted_at xs q o more) (are.each q) ∙ by (activity_of q more) refl
    where
      by : (o : Option Activity) → activity_of q more ≡ o → shifted_at xs q (come_to s.model xs q) more ≡ come_to s.model ys q
      by None e = untouched xs q more (come_to s.model xs q) e ∙ kept_same q e
      by (Some a) e = shifted_once xs q more (come_to s.model xs q) a can.once e ∙ kept_moved q a e

pub keeps_shifted : (s : PlanState) (more : List Activity) (old new : Entries) → ((q : ℕ) → kept_at q new ≡ shifted_at s.plan.activities q (kept_at q old) more) → KeepsShifted s more old new
keeps_shifted s more old new is gone whole can shift are = record { each = kept_shifted s gone more whole can shift old new are is }
