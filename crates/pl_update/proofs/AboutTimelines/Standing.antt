-- What timelines hold, item by item: the items of each timeline add up to what is asked of it.
use Rattle.std.proofs.Common.{◌≡◌, ℕ, eqb, Bool, true, false, cond, List, [], ◌∷◌, Some, refl, sym, ap, ◌∙◌, arith, ℤ, pos, ◌+ℤ◌}
use Rattle.std.specs.Prelude.{slice_get}
use Rattle.std.specs.List.{flat_map}
use Rattle.std.proofs.lemmas.Int.{ints}
use Rattle.pl_lists.proofs.Numbers.{add_nothing}
use Rattle.pl_points.specs.Sums.{total}
use Rattle.pl_capacity.specs.declared.reservation.Use.{Use}
use Rattle.pl_capacity.specs.Uses as capacity
use Rattle.pl_level.specs.declared.reservation.Effect.{Effect}
use Rattle.pl_level.specs.Effects as level
use Rattle.pl_state.specs.declared.reservation.Setting.{Setting}
use Rattle.pl_state.specs.declared.reservation.Must.{Must}
use Rattle.pl_state.specs.Timelines as states
use Rattle.pl_state.specs.Sets.{set_before, with_set}
use Rattle.pl_state.specs.Musts.{must_before, with_must}
use Rattle.pl_semantics.specs.declared.demand.Demand.{Demand}
use Rattle.pl_semantics.specs.declared.demand.Asked.{Asked}
use Rattle.pl_semantics.specs.Demands.{asked_of, use_in, effect_in, set_in, must_in, uses_of, effects_of, sets_of, musts_of}
use Rattle.pl_update.specs.declared.timelines.line.Line.{Line}
use Rattle.pl_update.specs.declared.timelines.line.Line.TheVariants.{Capacity, Level, States}
use Rattle.pl_update.specs.Timelines.Held.{held, held_in, held_at, asked_at, Hold}
use Rattle.pl_update.proofs.AboutTimelines.Listing.{total_same, total_nothing, total-append, total_put, total_fold}

-- ---- what is asked, item by item

-- a demand counts as its items of one sort do
abbrev pub by_item : {X : Type 0} → (Asked → List X) → (X → ℤ) → Asked → ℤ
by_item what g a = total g (what a)

pub asked_items : {X : Type 0} (what : Asked → List X) (g : X → ℤ) (line : ℕ) (ds : List Demand) → asked_at ds line (by_item what g) ≡ total g (flat_map (asked_of what line) ds)
asked_items what g line [] = refl
asked_items what g line (d ∷ ds) = omega (arith, ints, by (eqb d.line line), asked_items what g line ds, total-append g (asked_of what line d) (flat_map (asked_of what line) ds))
  where
    by : (b : Bool) → cond b (total g (what d.asked)) (pos 0) ≡ total g (cond b (what d.asked) [])
    by true = refl
    by false = refl

-- ---- what is held, item by item

pub held_uses : (g : Use → ℤ) (c : capacity.Standing) → held (by_item use_in g) (Capacity c) ≡ total g c.uses
held_uses g c = total_same (λ u. g u +ℤ pos 0) g (λ u. add_nothing (g u)) c.uses

pub held_effects : (g : Effect → ℤ) (l : level.Standing) → held (by_item effect_in g) (Level l) ≡ total g l.effects
held_effects g l = total_same (λ e. g e +ℤ pos 0) g (λ e. add_nothing (g e)) l.effects

pub held_sets : (g : Setting → ℤ) (x : states.Standing) → held (by_item set_in g) (States x) ≡ total g x.sets
held_sets g x = omega (arith, ints, total_same (λ y. g y +ℤ pos 0) g (λ y. add_nothing (g y)) x.sets, total_nothing x.musts)

pub held_musts : (g : Must → ℤ) (x : states.Standing) → held (by_item must_in g) (States x) ≡ total g x.musts
held_musts g x = omega (arith, ints, total_same (λ m. g m +ℤ pos 0) g (λ m. add_nothing (g m)) x.musts, total_nothing x.sets)

-- ---- both

pub held_there : (f : Asked → ℤ) (lines : List Line) (line : ℕ) (l : Line) → slice_get lines line ≡ Some l → held_at lines line f ≡ held f l
held_there f lines line l here = ap (held_in f) here

module _ (lines : List Line) (ds : List Demand) (hold : Hold lines ds) (line : ℕ) where
  pub uses_held : (c : capacity.Standing) → slice_get lines line ≡ Some (Capacity c) → (g : Use → ℤ) → total g c.uses ≡ total g (uses_of line ds)
  uses_held c here g = sym (held_uses g c) ∙ sym (held_there (by_item use_in g) lines line (Capacity c) here) ∙ hold line (by_item use_in g) ∙ asked_items use_in g line ds

  pub effects_held : (l : level.Standing) → slice_get lines line ≡ Some (Level l) → (g : Effect → ℤ) → total g l.effects ≡ total g (effects_of line ds)
  effects_held l here g = sym (held_effects g l) ∙ sym (held_there (by_item effect_in g) lines line (Level l) here) ∙ hold line (by_item effect_in g) ∙ asked_items effect_in g line ds

  pub sets_held : (x : states.Standing) → slice_get lines line ≡ Some (States x) → (g : Setting → ℤ) → total g x.sets ≡ total g (sets_of line ds)
  sets_held x here g =
      let asked : total g x.sets ≡ total g (flat_map (asked_of set_in line) ds) = sym (held_sets g x) ∙ sym (held_there (by_item set_in g) lines line (States x) here) ∙ hold line (by_item set_in g) ∙ asked_items set_in g line ds in
      let put : total g (sets_of line ds) ≡ pos 0 +ℤ total g (flat_map (asked_of set_in line) ds) = total_fold g (λ sorted y. with_set y sorted) (λ ys y. total_put g (set_before y) y ys) (flat_map (asked_of set_in line) ds) [] in
      omega (arith, ints, asked, put)

  pub musts_held : (x : states.Standing) → slice_get lines line ≡ Some (States x) → (g : Must → ℤ) → total g x.musts ≡ total g (musts_of line ds)
  musts_held x here g =
      let asked : total g x.musts ≡ total g (flat_map (asked_of must_in line) ds) = sym (held_musts g x) ∙ sym (held_there (by_item must_in g) lines line (States x) here) ∙ hold line (by_item must_in g) ∙ asked_items must_in g line ds in
      let put : total g (musts_of line ds) ≡ pos 0 +ℤ total g (flat_map (asked_of must_in line) ds) = total_fold g (λ sorted m. with_must m sorted) (λ ys m. total_put g (must_before m) m ys) (flat_map (asked_of must_in line) ds) [] in
      omega (arith, ints, asked, put)
