-- What a name of the text names. Timelines and kinds are numbered from 0 in the order of the text, each sort by itself.
use Rattle.std.specs.Prelude.{ℕ, Bool, true, false, ◌&&◌, List, Option, Some, None, map, take, count_by, bytes_eq, slice_get, option_and_then, Ok, Err}
use Rattle.std.specs.List.{position_from}
use Rattle.pl_syntax.specs.declared.whole.Item.{Item}
use Rattle.pl_syntax.specs.declared.whole.Item.TheVariants as item
use Rattle.pl_syntax.specs.declared.timelines.AstTimeline.{AstTimeline}
use Rattle.pl_syntax.specs.declared.timelines.AstTimeline.TheVariants as line
use Rattle.pl_syntax.specs.declared.kinds.AstKind.{AstKind}
use Rattle.pl_syntax.specs.declared.parameters.AstParam.{AstParam}
use Rattle.pl_syntax.specs.declared.parameters.AstOrigin.{AstOrigin}
use Rattle.pl_syntax.specs.declared.parameters.AstOrigin.TheVariants as origin
use Rattle.pl_syntax.specs.declared.alternatives.AstSlot.{AstSlot}
use Rattle.pl_check.specs.declared.fault.ModelFault.TheVariants as fault
use Rattle.pl_check.specs.Names.{Name, place_of, item_name}
use Rattle.pl_check.specs.Judgements.{Judged}

-- what was found for the name, or else the name is unknown
abbrev pub known : {X : Type 0} → Name → Option X → Judged X
known name None = Err (fault.Unknown name)
known name (Some x) = Ok x

abbrev pub is_kind : Item → Bool
is_kind (item.Timeline l) = false
is_kind (item.Kind k) = true

abbrev pub is_line : Item → Bool
is_line (item.Timeline l) = true
is_line (item.Kind k) = false

-- the number of an item of its sort is how many of them stand before it
abbrev pub kind_with : ℕ → Item → Option (ℕ × AstKind)
kind_with number (item.Timeline l) = None
kind_with number (item.Kind k) = Some (number, k)

abbrev pub line_with : ℕ → Item → Option (ℕ × AstTimeline)
line_with number (item.Timeline l) = Some (number, l)
line_with number (item.Kind k) = None

abbrev pub kind_at : List Item → ℕ → Option (ℕ × AstKind)
kind_at items i = option_and_then (kind_with (count_by is_kind (take i items))) (slice_get items i)

abbrev pub line_at : List Item → ℕ → Option (ℕ × AstTimeline)
line_at items i = option_and_then (line_with (count_by is_line (take i items))) (slice_get items i)

-- the kind of this name, and its number
abbrev pub kind_named : List Item → Name → Option (ℕ × AstKind)
kind_named items name = option_and_then (kind_at items) (place_of (map item_name items) name)

-- the timeline of this name, and its number
abbrev pub line_named : List Item → Name → Option (ℕ × AstTimeline)
line_named items name = option_and_then (line_at items) (place_of (map item_name items) name)

abbrev pub as_capacity : ℕ × AstTimeline → Option ℕ
as_capacity (number, line.Capacity name most) = Some number
as_capacity (number, line.Level name least most start) = None
as_capacity (number, line.States name states start any steps) = None

abbrev pub as_level : ℕ × AstTimeline → Option ℕ
as_level (number, line.Capacity name most) = None
as_level (number, line.Level name least most start) = Some number
as_level (number, line.States name states start any steps) = None

-- with its states
abbrev pub as_states : ℕ × AstTimeline → Option (ℕ × List Name)
as_states (number, line.Capacity name most) = None
as_states (number, line.Level name least most start) = None
as_states (number, line.States name states start any steps) = Some (number, states)

abbrev pub capacity_named : List Item → Name → Option ℕ
capacity_named items name = option_and_then as_capacity (line_named items name)

abbrev pub level_named : List Item → Name → Option ℕ
level_named items name = option_and_then as_level (line_named items name)

abbrev pub states_named : List Item → Name → Option (ℕ × List Name)
states_named items name = option_and_then as_states (line_named items name)

abbrev pub is_param_named : Name → AstParam → Bool
is_param_named name p = bytes_eq p.name name

abbrev pub param_named : List AstParam → Name → Option ℕ
param_named params name = position_from (is_param_named name) 0 params

abbrev pub is_unequalled : AstOrigin → Bool
is_unequalled origin.Plain = true
is_unequalled (origin.Default n) = true
is_unequalled (origin.Equals e) = false

abbrev pub is_bindable_named : Name → AstParam → Bool
is_bindable_named name p = bytes_eq p.name name && is_unequalled p.origin

-- the parameter of this name that is declared without `=`
abbrev pub bindable_named : List AstParam → Name → Option ℕ
bindable_named params name = position_from (is_bindable_named name) 0 params

abbrev pub is_slot_named : Name → AstSlot → Bool
is_slot_named name s = bytes_eq s.name name

abbrev pub slot_named : List AstSlot → Name → Option ℕ
slot_named slots name = position_from (is_slot_named name) 0 slots
