-- The text with which the demonstration's input begins, and its model.
use Rattle.std.specs.Prelude.{ℕ, pos, List, [], ◌∷◌, Some, take, flat_map, codes}
use Rattle.pl_io.specs.Lines.{with_newline}
use Rattle.pl_model.specs.declared.expressions.Expr.{Num}
use Rattle.pl_model.specs.declared.reservations.Point.TheVariants.{Start, End}
use Rattle.pl_model.specs.declared.reservations.Reservation.{Reservation}
use Rattle.pl_model.specs.declared.reservations.Reservation.TheVariants.{Take, Raise, Lower}
use Rattle.pl_model.specs.declared.alternatives.Slot.{Slot}
use Rattle.pl_model.specs.declared.alternatives.Order.{Order}
use Rattle.pl_model.specs.declared.alternatives.Alternative.{Alternative}
use Rattle.pl_model.specs.declared.kinds.Kind.{Kind}
use Rattle.pl_model.specs.declared.timelines.Timeline.{Timeline}
use Rattle.pl_model.specs.declared.timelines.Timeline.TheVariants.{Capacity, Level}
use Rattle.pl_model.specs.declared.whole.Model.{Model}
use Rattle.pl_report.specs.Demonstration.{model_lines}

-- the lines in front of the `begin` line, each with its newline
unfoldable pub demo_words : List ℕ
demo_words = flat_map with_newline (take 8 model_lines)

-- ---- the timelines: the camera is the first, the battery the second

abbrev pub demo_timelines : List Timeline
demo_timelines = Capacity (codes "cam") (pos 10) ∷ Level (codes "bat") (pos 0) (pos 1000) (pos 500) ∷ []

-- ---- the kinds: obs, shot, charge and scan, by their numbers from 0

abbrev pub obs_reservations : List Reservation
obs_reservations = Take 0 (Num (pos 6)) ∷ Lower 1 (Num (pos 3)) End ∷ []

abbrev pub shot_reservations : List Reservation
shot_reservations = Take 0 (Num (pos 4)) ∷ []

abbrev pub charge_reservations : List Reservation
charge_reservations = Raise 1 (Num (pos 200)) End ∷ []

-- a shot
abbrev pub shot_slot : List ℕ → Slot
shot_slot name = record { name = name; kind = 1; bindings = [] }

abbrev pub scan_slots : List Slot
scan_slots = shot_slot (codes "a") ∷ shot_slot (codes "b") ∷ []

-- the second shot starts at most 3 after the first has ended
abbrev pub shots_order : Order
shots_order = record { first = Some 0; first_end = End; second = Some 1; second_end = Start; low = pos 0; high = pos 3 }

abbrev pub scan_orders : List Order
scan_orders = shots_order ∷ []

-- the least offsets: the first shot at once, the second when the first has ended
abbrev pub scan_alternative : Alternative
scan_alternative = record { slots = scan_slots; orders = scan_orders; offsets = 0 ∷ 4 ∷ [] }

-- a kind without parameters and links, whose duration is a number
abbrev pub fixed_kind : List ℕ → ℕ → List Reservation → List Alternative → Kind
fixed_kind name duration reservations alternatives =
    record { name = name; params = []; duration = Num (pos duration); least_duration = duration; reservations = reservations; links = []; alternatives = alternatives }

abbrev pub demo_kinds : List Kind
demo_kinds =
    fixed_kind (codes "obs") 5 obs_reservations []
    ∷ fixed_kind (codes "shot") 4 shot_reservations []
    ∷ fixed_kind (codes "charge") 10 charge_reservations []
    ∷ fixed_kind (codes "scan") 10 [] (scan_alternative ∷ [])
    ∷ []

unfoldable pub demo_model : Model
demo_model = record { horizon = 1000000; lead = 100; timelines = demo_timelines; kinds = demo_kinds }
