-- How often each part of a model may stand, and the fault of the first that stands more often.
use Rattle.std.specs.Prelude.{ℕ, ◌+◌, ◌-◌, nat_le, Option, Some, None, List, [], ◌∷◌, Err, if◌then◌else◌}
use Rattle.pl_syntax.specs.declared.whole.Ast.{Ast}
use Rattle.pl_syntax.specs.declared.whole.Item.{Item}
use Rattle.pl_syntax.specs.declared.whole.Item.TheVariants as item
use Rattle.pl_syntax.specs.declared.timelines.AstTimeline.{AstTimeline}
use Rattle.pl_syntax.specs.declared.timelines.AstTimeline.TheVariants as line
use Rattle.pl_syntax.specs.declared.kinds.AstKind.{AstKind}
use Rattle.pl_syntax.specs.declared.parameters.AstParam.{AstParam}
use Rattle.pl_syntax.specs.declared.parameters.AstOrigin.{AstOrigin}
use Rattle.pl_syntax.specs.declared.parameters.AstOrigin.TheVariants as origin
use Rattle.pl_syntax.specs.declared.reservations.AstReservation.{AstReservation}
use Rattle.pl_syntax.specs.declared.reservations.AstReservation.TheVariants as reservation
use Rattle.pl_syntax.specs.declared.links.AstLink.{AstLink}
use Rattle.pl_syntax.specs.declared.alternatives.AstSlot.{AstSlot}
use Rattle.pl_syntax.specs.declared.alternatives.AstOrder.{AstOrder}
use Rattle.pl_syntax.specs.declared.alternatives.AstAlternative.{AstAlternative}
use Rattle.pl_syntax.specs.declared.expressions.AstExpr.{AstExpr, fold-AstExpr}
use Rattle.pl_syntax.specs.declared.expressions.AstExpr.TheOpen.{AstExpr-F}
use Rattle.pl_check.specs.declared.fault.ModelFault.TheVariants as fault
use Rattle.pl_check.specs.declared.fault.What.TheVariants as what
use Rattle.pl_check.specs.Names.{Name}
use Rattle.pl_check.specs.Judgements.{Judgement, pass, ◌>>◌, unless, each, at_most}

abbrev pub nodes_at : AstExpr-F ℕ → ℕ
nodes_at (AstExpr-F.Num n) = 1
nodes_at (AstExpr-F.Name n) = 1
nodes_at (AstExpr-F.Apply op a b) = 1 + (a + b)

-- how many numbers, names and operations an expression has
abbrev pub nodes_of : AstExpr → ℕ
nodes_of e = fold-AstExpr ℕ nodes_at e

-- the room that so many nodes leave
abbrev pub room_after : ℕ → ℕ → Option ℕ
room_after room nodes = if nat_le nodes room then Some (room - nodes) else None

abbrev pub few_nodes : AstExpr → Judgement
few_nodes e = unless (nat_le (nodes_of e) 64) (fault.TooMany what.Nodes)

abbrev pub counts_in_origin : AstOrigin → Judgement
counts_in_origin origin.Plain = pass
counts_in_origin (origin.Default n) = pass
counts_in_origin (origin.Equals e) = few_nodes e

abbrev pub counts_in_param : AstParam → Judgement
counts_in_param p = counts_in_origin p.origin

abbrev pub counts_in_reservation : AstReservation → Judgement
counts_in_reservation (reservation.Take name e) = few_nodes e
counts_in_reservation (reservation.Raise name e point) = few_nodes e
counts_in_reservation (reservation.Lower name e point) = few_nodes e
counts_in_reservation (reservation.Put name state point) = pass
counts_in_reservation (reservation.Must name state) = pass

abbrev pub counts_in_link : AstLink → Judgement
counts_in_link l = pass

abbrev pub counts_in_binding : Name × AstExpr → Judgement
counts_in_binding b = few_nodes b.1

abbrev pub counts_in_slot : AstSlot → Judgement
counts_in_slot s = each counts_in_binding s.bindings

abbrev pub counts_in_order : AstOrder → Judgement
counts_in_order o = pass

abbrev pub counts_in_alternative : AstAlternative → Judgement
counts_in_alternative a = at_most 16 what.Slots counts_in_slot a.slots >> at_most 64 what.Orders counts_in_order a.orders

abbrev pub counts_in_kind : AstKind → Judgement
counts_in_kind k =
    at_most 16 what.Params counts_in_param k.params
    >> (few_nodes k.duration
    >> (at_most 32 what.Reservations counts_in_reservation k.reservations
    >> (at_most 16 what.Links counts_in_link k.links
    >> at_most 8 what.Alternatives counts_in_alternative k.alternatives)))

abbrev pub counts_in_state : Name → Judgement
counts_in_state name = pass

abbrev pub counts_in_line : AstTimeline → Judgement
counts_in_line (line.Capacity name most) = pass
counts_in_line (line.Level name least most start) = pass
counts_in_line (line.States name states start any steps) = at_most 32 what.States counts_in_state states

-- so many timelines and kinds stand before the items
abbrev pub counts_in_items : ℕ → ℕ → List Item → Judgement
counts_in_items lines kinds [] = pass
counts_in_items lines kinds (item.Timeline l ∷ items) =
    if nat_le 256 lines then Err (fault.TooMany what.Timelines) else counts_in_line l >> counts_in_items (lines + 1) kinds items
counts_in_items lines kinds (item.Kind k ∷ items) =
    if nat_le 256 kinds then Err (fault.TooMany what.Kinds) else counts_in_kind k >> counts_in_items lines (kinds + 1) items

-- the first count that passes its limit, in the order of the text
abbrev pub counts_in : Ast → Judgement
counts_in ast = counts_in_items 0 0 ast.items
