-- The tree of a form.
use Rattle.std.specs.Prelude.{pos, neg_ℤ, ℤ, Bool, true, false, List, [], ◌∷◌, map}
use Rattle.pl_syntax.specs.declared.timelines.AstTimeline.{AstTimeline}
use Rattle.pl_syntax.specs.declared.timelines.AstTimeline.TheVariants as timelines
use Rattle.pl_syntax.specs.declared.expressions.AstExpr.{AstExpr}
use Rattle.pl_syntax.specs.declared.parameters.AstOrigin.{AstOrigin}
use Rattle.pl_syntax.specs.declared.parameters.AstOrigin.TheVariants as origin
use Rattle.pl_syntax.specs.declared.parameters.AstParam.{AstParam}
use Rattle.pl_syntax.specs.declared.reservations.AstReservation.{AstReservation}
use Rattle.pl_syntax.specs.declared.reservations.AstReservation.TheVariants as reservation
use Rattle.pl_syntax.specs.declared.links.AstLink.{AstLink}
use Rattle.pl_syntax.specs.declared.alternatives.AstSlot.{AstSlot}
use Rattle.pl_syntax.specs.declared.alternatives.AstOrder.{AstOrder}
use Rattle.pl_syntax.specs.declared.alternatives.AstAlternative.{AstAlternative}
use Rattle.pl_syntax.specs.declared.kinds.AstKind.{AstKind}
use Rattle.pl_syntax.specs.declared.whole.Item.{Item}
use Rattle.pl_syntax.specs.declared.whole.Item.TheVariants as item
use Rattle.pl_syntax.specs.declared.whole.Ast.{Ast}
use Rattle.pl_syntax.specs.Expressions.{expr_tree}
use Rattle.pl_syntax.specs.Forms.{Name, SignedForm, bare, negative, StepForm, StepsForm, any_step, only, StatesForm, TimelineForm, capacity, level, states, OriginForm, plain, default, equals, ParamForm, ReservationForm, take, raise, lower, put, must, LinkForm, BindingForm, BindingsForm, no_binding, bindings, SlotForm, OrderForm, AlternativeForm, KindForm, ItemForm, timeline, kind, ModelForm}

abbrev pub signed_value : SignedForm → ℤ
signed_value (bare n) = pos n
signed_value (negative n) = neg_ℤ (pos n)

abbrev pub step_tree : StepForm → Name × Name
step_tree s = (s.from, s.to)

-- whether every step is allowed, and the steps
abbrev pub steps_tree : StepsForm → Bool × List (Name × Name)
steps_tree any_step = (true, [])
steps_tree (only ss) = (false, map step_tree ss)

abbrev pub states_tree : StatesForm → AstTimeline
states_tree s = timelines.States s.name (s.first ∷ s.others) s.start (steps_tree s.steps).0 (steps_tree s.steps).1

abbrev pub timeline_tree : TimelineForm → AstTimeline
timeline_tree (capacity n most) = timelines.Capacity n (pos most)
timeline_tree (level n least most start) = timelines.Level n (pos least) (pos most) (pos start)
timeline_tree (states s) = states_tree s

abbrev pub origin_tree : OriginForm → AstOrigin
origin_tree plain = origin.Plain
origin_tree (default n) = origin.Default (pos n)
origin_tree (equals e) = origin.Equals (expr_tree e).0

abbrev pub param_tree : ParamForm → AstParam
param_tree p = record { name = p.name; low = pos p.low; high = pos p.high; origin = origin_tree p.origin }

abbrev pub reservation_tree : ReservationForm → AstReservation
reservation_tree (take n e) = reservation.Take n (expr_tree e).0
reservation_tree (raise n e p) = reservation.Raise n (expr_tree e).0 p
reservation_tree (lower n e p) = reservation.Lower n (expr_tree e).0 p
reservation_tree (put n s p) = reservation.Put n s p
reservation_tree (must n s) = reservation.Must n s

abbrev pub link_tree : LinkForm → AstLink
link_tree l = record { mine = l.mine; kind = l.kind; theirs = l.theirs; low = signed_value l.low; high = signed_value l.high }

abbrev pub binding_tree : BindingForm → Name × AstExpr
binding_tree b = (b.name, (expr_tree b.value).0)

abbrev pub bindings_tree : BindingsForm → List (Name × AstExpr)
bindings_tree no_binding = []
bindings_tree (bindings b bs) = binding_tree b ∷ map binding_tree bs

abbrev pub slot_tree : SlotForm → AstSlot
slot_tree s = record { name = s.name; kind = s.kind; bindings = bindings_tree s.given }

abbrev pub order_tree : OrderForm → AstOrder
order_tree o = record { first = o.first; first_end = o.first_end; second = o.second; second_end = o.second_end; low = signed_value o.low; high = signed_value o.high }

abbrev pub alternative_tree : AlternativeForm → AstAlternative
alternative_tree a = record { slots = slot_tree a.first ∷ map slot_tree a.others; orders = map order_tree a.orders }

abbrev pub kind_tree : KindForm → AstKind
kind_tree k = record { name = k.name; params = map param_tree k.params; duration = (expr_tree k.duration).0; reservations = map reservation_tree k.reservations; links = map link_tree k.links; alternatives = map alternative_tree k.alternatives }

abbrev pub item_tree : ItemForm → Item
item_tree (timeline t) = item.Timeline (timeline_tree t)
item_tree (kind k) = item.Kind (kind_tree k)

abbrev pub model_tree : ModelForm → Ast
model_tree m = record { horizon = pos m.horizon; lead = pos m.lead; items = map item_tree m.items }
