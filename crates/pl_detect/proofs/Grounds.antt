-- The limits and the bases of the timelines of a plan state that is whole.
use Rattle.std.proofs.Common.{◌≡◌, ℕ, ◌≤◌, length, Option, Some, None, refl, sym, subst, arith, ℤ, pos, negsuc, ◌≤ℤ◌}
use Rattle.std.specs.Prelude.{slice_get}
use Rattle.std.proofs.lemmas.Int.{ints, to_z-of_z}
use mir.Val.{to_z, of_z, SFits}
use mir.Syntax.{w64}
use Rattle.std.proofs.lemmas.Option.{slice_get_within, get_or_from_slice_get}
use Rattle.pl_model.specs.declared.timelines.Timeline.{Timeline}
use Rattle.pl_model.specs.declared.timelines.Timeline.TheVariants.{Capacity, Level, States}
use Rattle.pl_model.specs.Checked.{IsCheckedLine, IsLevel, IsLevelLine}
use Rattle.pl_facts.specs.Bases.{base_of}
use Rattle.pl_semantics.specs.declared.plan_state.PlanState.{PlanState}
use Rattle.pl_semantics.specs.Whole.{IsWhole, IsBase, IsStateOf}
use Rattle.pl_detect.specs.Based.{IsToldBy, HasBase, IsStateLine}

fits_level : (z : ℤ) → IsLevel z → SFits w64 z
fits_level (pos n) is = omega (arith, ints, is.1)
fits_level (negsuc n) is = absurd (omega (arith, ints, is.0))

-- as a program holds it
pub raw_level : (z : ℤ) → IsLevel z → IsLevel (to_z w64 (of_z w64 z))
raw_level z is =
    let fits : SFits w64 z = fits_level z is in
    let P : ℤ → Type 0 = λ y. IsLevel y in
    subst P (sym (to_z-of_z w64 z fits)) is

level_base : (moment : ℕ) (t : Timeline) (base : Option (ℤ × ℤ)) → IsLevelLine (Some t) → IsBase moment t base → IsToldBy moment 1000000000000 base
level_base moment (Capacity name most) base line is = absurd line
level_base moment (Level name least most start) None line is = is
level_base moment (Level name least most start) (Some b) line is = (is.0, is.1.0, is.1.1)
level_base moment (States name states start any steps) base line is = absurd line

few_states : (states : ℕ) (v : ℤ) → states ≤ 32 → IsStateOf states v → (pos 0 ≤ℤ v) × (v ≤ℤ pos 32)
few_states states (pos n) few is = (omega (arith, ints), omega (arith, ints, few, is))
few_states states (negsuc n) few is = absurd is

state_base : (moment : ℕ) (t : Timeline) (base : Option (ℤ × ℤ)) → IsStateLine (Some t) → IsCheckedLine t → IsBase moment t base → IsToldBy moment 32 base
state_base moment (Capacity name most) base line checked is = absurd line
state_base moment (Level name least most start) base line checked is = absurd line
state_base moment (States name states start any steps) None line checked is = is
state_base moment (States name states start any steps) (Some b) line checked is = let state = few_states (length states) b.1 checked.0 is.1 in (is.0, state.0, state.1)

wider : (moment : ℕ) (base : Option (ℤ × ℤ)) → IsToldBy moment 32 base → IsToldBy moment 1000000000000 base
wider moment None is = is
wider moment (Some b) is = (is.0, is.1, omega (arith, ints, is.2))

pub wider_base : (s : PlanState) (line : ℕ) → HasBase s line 32 → HasBase s line 1000000000000
wider_base s line is = wider s.moment (base_of line s.bases) is

module _ (s : PlanState) (whole : IsWhole s) (line : ℕ) where
  pub checked_line : (t : Timeline) → slice_get s.model.timelines line ≡ Some t → IsCheckedLine t
  checked_line t is = subst IsCheckedLine (get_or_from_slice_get s.model.timelines line t t is) (whole.checked.timelines line t (slice_get_within s.model.timelines line t is))

  pub level_based : IsLevelLine (slice_get s.model.timelines line) → HasBase s line 1000000000000
  level_based of_level = cases (slice_get s.model.timelines line) refl of_level
    where
      cases : (o : Option Timeline) → slice_get s.model.timelines line ≡ o → IsLevelLine o → HasBase s line 1000000000000
      cases None e level = absurd level
      cases (Some t) e level = level_base s.moment t (base_of line s.bases) level (whole.bases line t e)

  pub states_based : IsStateLine (slice_get s.model.timelines line) → HasBase s line 32
  states_based of_states = cases (slice_get s.model.timelines line) refl of_states
    where
      cases : (o : Option Timeline) → slice_get s.model.timelines line ≡ o → IsStateLine o → HasBase s line 32
      cases None e states = absurd states
      cases (Some t) e states = state_base s.moment t (base_of line s.bases) states (checked_line t e) (whole.bases line t e)

-- of the timelines themselves

pub level_limits : (s : PlanState) → IsWhole s → (line : ℕ) (t : Timeline) → slice_get s.model.timelines line ≡ Some t → IsLevelLine (Some t) → HasBase s line 1000000000000
level_limits s whole line t is level = level_based s whole line (subst IsLevelLine (sym is) level)

pub states_limits : (s : PlanState) → IsWhole s → (line : ℕ) (t : Timeline) → slice_get s.model.timelines line ≡ Some t → IsStateLine (Some t) → HasBase s line 32
states_limits s whole line t is states = states_based s whole line (subst IsStateLine (sym is) states)
