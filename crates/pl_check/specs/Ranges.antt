-- The fault of the first number, in the order of the text, that is out of range. The bounds of a duration stand at the end of
-- its expression.
use Rattle.std.specs.Prelude.{ℕ, ℤ, pos, neg_ℤ, int_le, Bool, true, ◌&&◌, List, Some, None, map, length}
use Rattle.pl_model.specs.declared.expressions.Expr.{Expr, fold-Expr}
use Rattle.pl_model.specs.declared.expressions.Expr.TheOpen.{Expr-F}
use Rattle.pl_model.specs.declared.parameters.Param.{Param}
use Rattle.pl_model.specs.declared.parameters.Origin.{Origin}
use Rattle.pl_model.specs.declared.parameters.Origin.TheVariants.{Free, Dependent}
use Rattle.pl_model.specs.declared.reservations.Reservation.{Reservation}
use Rattle.pl_model.specs.declared.reservations.Reservation.TheVariants.{Take, Raise, Lower, Put, Must}
use Rattle.pl_model.specs.declared.links.Link.{Link}
use Rattle.pl_model.specs.declared.alternatives.Slot.{Slot}
use Rattle.pl_model.specs.declared.alternatives.Order.{Order}
use Rattle.pl_model.specs.declared.timelines.Timeline.{Timeline}
use Rattle.pl_model.specs.declared.timelines.Timeline.TheVariants.{Capacity, Level, States}
use Rattle.pl_model.specs.Bounds.{bounds_of}
use Rattle.pl_model.specs.Schedules.{param_range}
use Rattle.pl_model.specs.Values.{NamesBelow}
use Rattle.pl_check.specs.declared.fault.ModelFault.TheVariants as fault
use Rattle.pl_check.specs.declared.fault.What.TheVariants as what
use Rattle.pl_check.specs.declared.drafts.DraftAlternative.{DraftAlternative}
use Rattle.pl_check.specs.declared.drafts.DraftKind.{DraftKind}
use Rattle.pl_check.specs.declared.drafts.Draft.{Draft}
use Rattle.pl_check.specs.declared.drafts.Draft.TheVariants as draft
use Rattle.pl_check.specs.Judgements.{Judgement, pass, ◌>>◌, unless, each}

unfoldable pub is_between : ℤ → ℤ → ℤ → Bool
is_between low high n = int_le low n && int_le n high

-- of parameters, amounts, capacities and literals
abbrev pub is_amount : ℤ → Bool
is_amount n = is_between (pos 0) (pos 1000000000) n

-- of the limits and the start of a level
abbrev pub is_level : ℤ → Bool
is_level n = is_between (pos 0) (pos 1000000000000) n

abbrev pub literals_at : Expr-F Bool → Bool
literals_at (Expr-F.Num n) = is_amount n
literals_at (Expr-F.Param p) = true
literals_at (Expr-F.Apply op a b) = a && b

abbrev pub literals_fit : Expr → Bool
literals_fit e = fold-Expr Bool literals_at e

abbrev pub range_in_expr : Expr → Judgement
range_in_expr e = unless (literals_fit e) (fault.Range what.Literal)

abbrev pub range_in_line : Timeline → Judgement
range_in_line (Capacity name most) = unless (is_amount most) (fault.Range what.Capacity)
range_in_line (Level name least most start) = unless (is_level least && is_level most && is_level start && int_le least most) (fault.Range what.Level)
range_in_line (States name states start any steps) = pass

abbrev pub is_default : ℤ → ℤ → Origin → Bool
is_default low high (Free None) = true
is_default low high (Free (Some n)) = is_between low high n
is_default low high (Dependent e) = true

abbrev pub range_in_origin : Origin → Judgement
range_in_origin (Free default) = pass
range_in_origin (Dependent e) = range_in_expr e

abbrev pub range_in_param : Param → Judgement
range_in_param p =
    unless (is_amount p.low && is_amount p.high && int_le p.low p.high && is_default p.low p.high p.origin) (fault.Range what.Param)
    >> range_in_origin p.origin

-- each parameter over its range, whether it is set or follows from others
abbrev pub duration_bounds : DraftKind → ℤ × ℤ
duration_bounds k = bounds_of k.duration (map param_range k.params)

-- the expression of the duration names parameters of the kind
abbrev pub NamesOwn : DraftKind → Type 0
NamesOwn k = NamesBelow (length k.params) k.duration

abbrev pub NamesOwnIn : Draft → Type 0
NamesOwnIn (draft.Timeline l) = Unit {0}
NamesOwnIn (draft.Kind k) = NamesOwn k

-- some duration from 1 to the horizon lies in the bounds
abbrev pub is_possible : ℤ → ℤ × ℤ → Bool
is_possible horizon bounds = int_le (pos 1) bounds.1 && int_le bounds.0 horizon

abbrev pub range_in_reservation : Reservation → Judgement
range_in_reservation (Take line e) = range_in_expr e
range_in_reservation (Raise line e point) = range_in_expr e
range_in_reservation (Lower line e point) = range_in_expr e
range_in_reservation (Put line state point) = pass
range_in_reservation (Must line state) = pass

-- how far two points are apart, at least and at most
abbrev pub is_distance : ℤ → ℤ → ℤ → Bool
is_distance horizon low high = is_between (neg_ℤ horizon) horizon low && is_between (neg_ℤ horizon) horizon high && int_le low high

unfoldable pub range_in_link : ℤ → Link → Judgement
range_in_link horizon l = unless (is_distance horizon l.low l.high) (fault.Range what.Link)

abbrev pub range_in_binding : ℕ × Expr → Judgement
range_in_binding b = range_in_expr b.1

abbrev pub range_in_slot : Slot → Judgement
range_in_slot s = each range_in_binding s.bindings

unfoldable pub range_in_order : ℤ → Order → Judgement
range_in_order horizon o = unless (is_distance horizon o.low o.high) (fault.Range what.Order)

abbrev pub range_in_alternative : ℤ → DraftAlternative → Judgement
range_in_alternative horizon a = each range_in_slot a.slots >> each (range_in_order horizon) a.orders

abbrev pub range_in_duration : ℤ → DraftKind → Judgement
range_in_duration horizon k = range_in_expr k.duration >> unless (is_possible horizon (duration_bounds k)) (fault.Range what.Duration)

abbrev pub range_in_kind : ℤ → DraftKind → Judgement
range_in_kind horizon k =
    each range_in_param k.params
    >> (range_in_duration horizon k
    >> (each range_in_reservation k.reservations
    >> (each (range_in_link horizon) k.links
    >> each (range_in_alternative horizon) k.alternatives)))

unfoldable pub range_in_draft : ℤ → Draft → Judgement
range_in_draft horizon (draft.Timeline l) = range_in_line l
range_in_draft horizon (draft.Kind k) = range_in_kind horizon k

-- the first number out of range
abbrev pub range_in : ℤ → ℤ → List Draft → Judgement
range_in horizon lead drafts =
    unless (is_between (pos 2) (pos 10000000) horizon) (fault.Range what.Horizon)
    >> (unless (is_between (pos 1) horizon lead) (fault.Range what.Lead)
    >> each (range_in_draft horizon) drafts)
