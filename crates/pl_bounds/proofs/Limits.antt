-- Which timelines have a limit on a side, and from when on their effects count.
use Rattle.std.proofs.Common.{◌≡◌, ℕ, Option, Some, None, refl, sym, ap, ℤ}
use Rattle.std.specs.Prelude.{slice_get, IsSome}
use Rattle.pl_model.specs.declared.timelines.Timeline.{Timeline}
use Rattle.pl_model.specs.declared.timelines.Timeline.TheVariants.{Capacity, Level, States}
use Rattle.pl_model.specs.Checked.{IsCapacityLine, IsLevelLine}
use Rattle.pl_facts.specs.Bases.{base_of}
use Rattle.pl_semantics.specs.declared.plan_state.PlanState.{PlanState}
use Rattle.pl_semantics.specs.Demands.{moment_of_base, since}
use Rattle.pl_semantics.specs.Whole.{IsWhole, IsBase}
use Rattle.pl_bounds.specs.Sides.{limit_of}
use Rattle.pl_bounds.specs.declared.outside.Side.TheVariants.{Over, Low, High}

pub over_is_capacity : (o : Option Timeline) → IsSome (limit_of Over o) → IsCapacityLine o
over_is_capacity None is = absurd (cc)
over_is_capacity (Some (Capacity name most)) is = tt
over_is_capacity (Some (Level name least most start)) is = absurd (cc)
over_is_capacity (Some (States name states start any steps)) is = absurd (cc)

pub low_is_level : (o : Option Timeline) → IsSome (limit_of Low o) → IsLevelLine o
low_is_level None is = absurd (cc)
low_is_level (Some (Capacity name most)) is = absurd (cc)
low_is_level (Some (Level name least most start)) is = tt
low_is_level (Some (States name states start any steps)) is = absurd (cc)

pub high_is_level : (o : Option Timeline) → IsSome (limit_of High o) → IsLevelLine o
high_is_level None is = absurd (cc)
high_is_level (Some (Capacity name most)) is = absurd (cc)
high_is_level (Some (Level name least most start)) is = tt
high_is_level (Some (States name states start any steps)) is = absurd (cc)

no_base : (moment : ℕ) (t : Timeline) (base : Option (ℤ × ℤ)) → IsCapacityLine (Some t) → IsBase moment t base → base ≡ None
no_base moment (Capacity name most) base line is = is
no_base moment (Level name least most start) base line is = absurd line
no_base moment (States name states start any steps) base line is = absurd line

-- a capacity has no base
pub capacity_since : (s : PlanState) → IsWhole s → (line : ℕ) → IsCapacityLine (slice_get s.model.timelines line) → 0 ≡ since s line
capacity_since s whole line of_capacity = cases (slice_get s.model.timelines line) refl of_capacity
  where
    cases : (o : Option Timeline) → slice_get s.model.timelines line ≡ o → IsCapacityLine o → 0 ≡ since s line
    cases None e capacity = absurd capacity
    cases (Some t) e capacity = sym (ap moment_of_base (no_base s.moment t (base_of line s.bases) capacity (whole.bases line t e)))
