-- The bases of level and state timelines: a moment and a value by the timeline's number, and none for a capacity.
use Rattle.std.specs.Prelude.{◌≡◌, ℕ, ℤ, pos, negsuc, Option, Some, None, List, map, is_some, slice_index_or}
use Rattle.pl_model.specs.declared.timelines.Timeline.{Timeline}
use Rattle.pl_model.specs.declared.timelines.Timeline.TheVariants.{Capacity, Level, States}
use Rattle.pl_model.specs.declared.whole.Model.{Model}

-- before any telemetry: the start value, at the moment before the first
abbrev pub first_base : Timeline → Option (ℤ × ℤ)
first_base (Capacity name most) = None
first_base (Level name least most start) = Some (negsuc 0, start)
first_base (States name states start any steps) = Some (negsuc 0, pos start)

abbrev pub first_bases : Model → List (Option (ℤ × ℤ))
first_bases model = map first_base model.timelines

abbrev pub base_of : ℕ → List (Option (ℤ × ℤ)) → Option (ℤ × ℤ)
base_of line bases = slice_index_or bases line None

-- exactly the level and state timelines of the model have a base
abbrev pub AreBasesOf : Model → List (Option (ℤ × ℤ)) → Type 0
AreBasesOf model bases = (line : ℕ) → is_some (base_of line bases) ≡ is_some (base_of line (first_bases model))
