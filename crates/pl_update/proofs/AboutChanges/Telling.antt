-- Bases after the present moved on, after telemetry, and at first.
use Rattle.std.proofs.Common.{◌≡◌, ◌≢◌, ℕ, ◌<◌, ◌≤◌, List, length, get_or, refl, sym, ap, ◌∙◌, subst, arith, ⊎_elim}
use Rattle.std.specs.Prelude.{Option, Some, None, IsSome, slice_get, slice_set, ℤ, pos, ◌≤ℤ◌}
use Rattle.std.proofs.lemmas.Bool.{cases_eq, cases_lt, false≢true}
use Rattle.std.proofs.lemmas.Int.{ints}
use Rattle.std.proofs.lemmas.List.{get_or-map, get_or-set_same, get_or-set_other, get_or_past}
use Rattle.std.proofs.lemmas.Option.{slice_get_within, slice_get-get_or}
use Rattle.pl_model.specs.declared.timelines.Timeline.{Timeline}
use Rattle.pl_model.specs.declared.timelines.Timeline.TheVariants.{Capacity, Level, States}
use Rattle.pl_model.specs.declared.whole.Model.{Model}
use Rattle.pl_model.specs.Checked.{IsChecked, IsCheckedLine}
use Rattle.pl_facts.specs.Bases.{base_of, first_base, first_bases}
use Rattle.pl_semantics.specs.Whole.{IsBase, AreBasesAt}
use Rattle.pl_update.specs.Changes.Changes.{CanTell}

-- ---- later

base_later : (moment now : ℕ) → moment ≤ now → (t : Timeline) (b : Option (ℤ × ℤ)) → IsBase moment t b → IsBase now t b
base_later moment now le (Capacity name most) b is = is
base_later moment now le (Level name least most start) None is = is
base_later moment now le (Level name least most start) (Some (at, v)) is = (let below : at ≤ℤ pos moment = is.0 in omega (arith, ints), is.1)
base_later moment now le (States name states start any steps) None is = is
base_later moment now le (States name states start any steps) (Some (at, v)) is = (let below : at ≤ℤ pos moment = is.0 in omega (arith, ints), is.1)

pub bases_later : (model : Model) (moment now : ℕ) (bases : List (Option (ℤ × ℤ))) → moment ≤ now → AreBasesAt model moment bases → AreBasesAt model now bases
bases_later model moment now bases le are line t here = base_later moment now le t (base_of line bases) (are line t here)

-- ---- told

has_base : (moment : ℕ) (value : ℤ) (t : Timeline) (b : Option (ℤ × ℤ)) → CanTell value (Some t) → IsBase moment t b → IsSome b
has_base moment value (Capacity name most) b can is = absurd can
has_base moment value (Level name least most start) None can is = absurd is
has_base moment value (Level name least most start) (Some b) can is = refl
has_base moment value (States name states start any steps) None can is = absurd is
has_base moment value (States name states start any steps) (Some b) can is = refl

told_base : (moment : ℕ) (value : ℤ) (t : Timeline) → CanTell value (Some t) → IsBase moment t (Some (pos moment, value))
told_base moment value (Capacity name most) can = absurd can
told_base moment value (Level name least most start) can = (omega (arith, ints), can)
told_base moment value (States name states start any steps) can = (omega (arith, ints), can)

-- a timeline that can be told has a base
pub can_set : (model : Model) (moment line : ℕ) (value : ℤ) (bases : List (Option (ℤ × ℤ))) → AreBasesAt model moment bases → (o : Option Timeline) → slice_get model.timelines line ≡ o → CanTell value o → IsSome (base_of line bases)
can_set model moment line value bases are None here can = absurd can
can_set model moment line value bases are (Some t) here can = has_base moment value t (base_of line bases) can (are line t here)

pub within_bases : (line : ℕ) (bases : List (Option (ℤ × ℤ))) → IsSome (base_of line bases) → line < length bases
within_bases line bases some = ⊎_elim
    (λ (lt : line < length bases). lt)
    (λ (ge : length bases ≤ line). absurd (let none : base_of line bases ≡ None = get_or_past bases line None ge in false≢true (rw none at some)))
    (cases_lt line (length bases))

pub bases_told : (model : Model) (moment line : ℕ) (value : ℤ) (bases : List (Option (ℤ × ℤ))) → AreBasesAt model moment bases → CanTell value (slice_get model.timelines line) → AreBasesAt model moment (slice_set bases line (Some (pos moment, value)))
bases_told model moment line value bases are can q t here = ⊎_elim
    (λ (e : q ≡ line).
    let there : slice_get model.timelines line ≡ Some t = subst (λ k. slice_get model.timelines k ≡ Some t) e here in
    let within : line < length bases = within_bases line bases (can_set model moment line value bases are (slice_get model.timelines line) refl can) in
    let is : base_of q (slice_set bases line (Some (pos moment, value))) ≡ Some (pos moment, value) = ap (λ k. base_of k (slice_set bases line (Some (pos moment, value)))) e ∙ get_or-set_same bases line (Some (pos moment, value)) None within in
    subst (IsBase moment t) (sym is) (told_base moment value t (rw there at can)))
    (λ (ne : q ≢ line).
    let is : base_of q (slice_set bases line (Some (pos moment, value))) ≡ base_of q bases = get_or-set_other bases line q (Some (pos moment, value)) None ne in
    subst (IsBase moment t) (sym is) (are q t here))
    (cases_eq q line)

-- ---- at first

first_is : (t : Timeline) → IsCheckedLine t → IsBase 0 t (first_base t)
first_is (Capacity name most) checked = refl
first_is (Level name least most start) checked = (omega (arith, ints), checked.2)
first_is (States name states start any steps) checked = (omega (arith, ints), checked.1)

pub bases_first : (model : Model) → IsChecked model → AreBasesAt model 0 (first_bases model)
bases_first model checked line t here =
    let within : line < length model.timelines = slice_get_within model.timelines line t here in
    let at : Some (get_or model.timelines line t) ≡ Some t = sym (slice_get-get_or model.timelines line t within) ∙ here in
    let same : get_or model.timelines line t ≡ t = cc in
    let is : base_of line (first_bases model) ≡ first_base t = get_or-map first_base model.timelines line t None within ∙ ap first_base same in
    subst (IsBase 0 t) (sym is) (first_is t (subst IsCheckedLine same (checked.timelines line t within)))
