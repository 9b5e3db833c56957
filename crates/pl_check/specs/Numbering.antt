-- The tree with its names numbered, or the fault of the first name, in the order of the text, that is not of the sort that its
-- place wants.
use Rattle.std.specs.Prelude.{ℕ, List, Option, Some, None, Ok}
use Rattle.pl_syntax.specs.declared.whole.Item.{Item}
use Rattle.pl_syntax.specs.declared.whole.Item.TheVariants as item
use Rattle.pl_syntax.specs.declared.timelines.AstTimeline.{AstTimeline}
use Rattle.pl_syntax.specs.declared.timelines.AstTimeline.TheVariants as line
use Rattle.pl_syntax.specs.declared.kinds.AstKind.{AstKind}
use Rattle.pl_syntax.specs.declared.parameters.AstParam.{AstParam}
use Rattle.pl_syntax.specs.declared.parameters.AstOrigin.{AstOrigin}
use Rattle.pl_syntax.specs.declared.parameters.AstOrigin.TheVariants as origin
use Rattle.pl_syntax.specs.declared.reservations.AstReservation.{AstReservation}
use Rattle.pl_syntax.specs.declared.reservations.AstReservation.TheVariants as reservation
use Rattle.pl_syntax.specs.declared.links.AstLink.{AstLink}
use Rattle.pl_syntax.specs.declared.alternatives.AstSlot.{AstSlot}
use Rattle.pl_syntax.specs.declared.alternatives.AstOrder.{AstOrder}
use Rattle.pl_syntax.specs.declared.alternatives.AstAlternative.{AstAlternative}
use Rattle.pl_syntax.specs.declared.expressions.AstExpr.{AstExpr, fold-AstExpr}
use Rattle.pl_syntax.specs.declared.expressions.AstExpr.TheOpen.{AstExpr-F}
use Rattle.pl_model.specs.declared.expressions.Expr.{Expr, Num, Param as Named, Apply}
use Rattle.pl_model.specs.declared.parameters.Param.{Param}
use Rattle.pl_model.specs.declared.parameters.Origin.{Origin}
use Rattle.pl_model.specs.declared.parameters.Origin.TheVariants.{Free, Dependent}
use Rattle.pl_model.specs.declared.reservations.Reservation.{Reservation}
use Rattle.pl_model.specs.declared.reservations.Reservation.TheVariants.{Take, Raise, Lower, Put, Must}
use Rattle.pl_model.specs.declared.links.Link.{Link}
use Rattle.pl_model.specs.declared.alternatives.Slot.{Slot}
use Rattle.pl_model.specs.declared.alternatives.Order.{Order}
use Rattle.pl_model.specs.declared.timelines.Timeline.{Timeline}
use Rattle.pl_model.specs.declared.timelines.Timeline.TheVariants.{Capacity, Level, States}
use Rattle.pl_check.specs.declared.drafts.DraftAlternative.{DraftAlternative}
use Rattle.pl_check.specs.declared.drafts.DraftKind.{DraftKind}
use Rattle.pl_check.specs.declared.drafts.Draft.{Draft}
use Rattle.pl_check.specs.declared.drafts.Draft.TheVariants as draft
use Rattle.pl_check.specs.Names.{Name, place_of}
use Rattle.pl_check.specs.Judgements.{Judged, ◌>>=◌, each_made}
use Rattle.pl_check.specs.Finding.{known, kind_named, capacity_named, level_named, states_named, param_named, bindable_named, slot_named}

-- one level of an expression: a name is one of the kind's own parameters, or of the parent's in a binding
abbrev pub numbered_at : List AstParam → AstExpr-F (Judged Expr) → Judged Expr
numbered_at params (AstExpr-F.Num n) = Ok (Num n)
numbered_at params (AstExpr-F.Name name) = known name (param_named params name) >>= λ p. Ok (Named p)
numbered_at params (AstExpr-F.Apply op a b) = a >>= λ x. b >>= λ y. Ok (Apply op x y)

abbrev pub numbered : List AstParam → AstExpr → Judged Expr
numbered params e = fold-AstExpr (Judged Expr) (numbered_at params) e

abbrev pub state_number : List Name → Name → Judged ℕ
state_number states name = known name (place_of states name)

abbrev pub numbered_step : List Name → Name × Name → Judged (ℕ × ℕ)
numbered_step states s = state_number states s.0 >>= λ from. state_number states s.1 >>= λ to. Ok (from, to)

abbrev pub numbered_line : AstTimeline → Judged Timeline
numbered_line (line.Capacity name most) = Ok (Capacity name most)
numbered_line (line.Level name least most start) = Ok (Level name least most start)
numbered_line (line.States name states start any steps) =
    state_number states start >>= λ first. each_made (numbered_step states) steps >>= λ moves. Ok (States name states first any moves)

abbrev pub numbered_origin : List AstParam → AstOrigin → Judged Origin
numbered_origin params origin.Plain = Ok (Free None)
numbered_origin params (origin.Default n) = Ok (Free (Some n))
numbered_origin params (origin.Equals e) = numbered params e >>= λ x. Ok (Dependent x)

abbrev pub numbered_param : List AstParam → AstParam → Judged Param
numbered_param params p = numbered_origin params p.origin >>= λ o. Ok (record { name = p.name; low = p.low; high = p.high; origin = o })

unfoldable pub numbered_params : List AstParam → Judged (List Param)
numbered_params params = each_made (numbered_param params) params

-- of a state timeline and its state: the two numbers
abbrev pub state_named : List Item → Name → Name → Judged (ℕ × ℕ)
state_named items name state =
    known name (states_named items name) >>= λ found. state_number found.1 state >>= λ s. Ok (found.0, s)

abbrev pub numbered_reservation : List Item → List AstParam → AstReservation → Judged Reservation
numbered_reservation items params (reservation.Take name e) =
    known name (capacity_named items name) >>= λ l. numbered params e >>= λ x. Ok (Take l x)
numbered_reservation items params (reservation.Raise name e point) =
    known name (level_named items name) >>= λ l. numbered params e >>= λ x. Ok (Raise l x point)
numbered_reservation items params (reservation.Lower name e point) =
    known name (level_named items name) >>= λ l. numbered params e >>= λ x. Ok (Lower l x point)
numbered_reservation items params (reservation.Put name state point) =
    state_named items name state >>= λ found. Ok (Put found.0 found.1 point)
numbered_reservation items params (reservation.Must name state) =
    state_named items name state >>= λ found. Ok (Must found.0 found.1)

unfoldable pub numbered_reservations : List Item → List AstParam → List AstReservation → Judged (List Reservation)
numbered_reservations items params reservations = each_made (numbered_reservation items params) reservations

abbrev pub numbered_link : List Item → AstLink → Judged Link
numbered_link items l =
    known l.kind (kind_named items l.kind) >>= λ found. Ok (record { mine = l.mine; kind = found.0; theirs = l.theirs; low = l.low; high = l.high })

unfoldable pub numbered_links : List Item → List AstLink → Judged (List Link)
numbered_links items links = each_made (numbered_link items) links

-- on the left a parameter of the slot's kind, on the right the parent's
abbrev pub numbered_binding : List AstParam → List AstParam → Name × AstExpr → Judged (ℕ × Expr)
numbered_binding params of_slot b = known b.0 (bindable_named of_slot b.0) >>= λ p. numbered params b.1 >>= λ x. Ok (p, x)

abbrev pub numbered_slot : List Item → List AstParam → AstSlot → Judged Slot
numbered_slot items params s =
    known s.kind (kind_named items s.kind) >>= λ found.
    each_made (numbered_binding params found.1.params) s.bindings >>= λ bindings. Ok (record { name = s.name; kind = found.0; bindings = bindings })

-- a place of an order: a slot's number, none for the parent
abbrev pub numbered_place : List AstSlot → Option Name → Judged (Option ℕ)
numbered_place slots None = Ok None
numbered_place slots (Some name) = known name (slot_named slots name) >>= λ s. Ok (Some s)

abbrev pub numbered_order : List AstSlot → AstOrder → Judged Order
numbered_order slots o =
    numbered_place slots o.first >>= λ first.
    numbered_place slots o.second >>= λ second. Ok (record { first = first; first_end = o.first_end; second = second; second_end = o.second_end; low = o.low; high = o.high })

abbrev pub numbered_alternative : List Item → List AstParam → AstAlternative → Judged DraftAlternative
numbered_alternative items params a =
    each_made (numbered_slot items params) a.slots >>= λ slots.
    each_made (numbered_order a.slots) a.orders >>= λ orders. Ok (record { slots = slots; orders = orders })

unfoldable pub numbered_alternatives : List Item → List AstParam → List AstAlternative → Judged (List DraftAlternative)
numbered_alternatives items params alternatives = each_made (numbered_alternative items params) alternatives

unfoldable pub numbered_duration : AstKind → Judged Expr
numbered_duration k = numbered k.params k.duration

-- the parameters and the duration of a kind
abbrev pub numbered_head : AstKind → Judged (List Param × Expr)
numbered_head k = numbered_params k.params >>= λ params. numbered_duration k >>= λ duration. Ok (params, duration)

-- its reservations and its links
abbrev pub numbered_asks : List Item → AstKind → Judged (List Reservation × List Link)
numbered_asks items k =
    numbered_reservations items k.params k.reservations >>= λ reservations.
    numbered_links items k.links >>= λ links. Ok (reservations, links)

abbrev pub kind_of_parts : List ℕ → List Param × Expr → List Reservation × List Link → List DraftAlternative → DraftKind
kind_of_parts name head asks alternatives =
    record { name = name; params = head.0; duration = head.1; reservations = asks.0; links = asks.1; alternatives = alternatives }

abbrev pub numbered_kind : List Item → AstKind → Judged DraftKind
numbered_kind items k =
    numbered_head k >>= λ head.
    numbered_asks items k >>= λ asks.
    numbered_alternatives items k.params k.alternatives >>= λ alternatives. Ok (kind_of_parts k.name head asks alternatives)

abbrev pub numbered_item : List Item → Item → Judged Draft
numbered_item items (item.Timeline l) = numbered_line l >>= λ x. Ok (draft.Timeline x)
numbered_item items (item.Kind k) = numbered_kind items k >>= λ x. Ok (draft.Kind x)

-- Kinds and timelines may be named before they stand.
abbrev pub numbered_items : List Item → Judged (List Draft)
numbered_items items = each_made (numbered_item items) items
