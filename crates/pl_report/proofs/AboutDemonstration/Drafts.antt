-- The drafts of the model: its items with their names numbered.
use Rattle.std.proofs.Common.{ℕ, ℤ, pos, List, [], ◌∷◌, codes}
use Rattle.pl_model.specs.declared.expressions.Expr.{Num}
use Rattle.pl_model.specs.declared.reservations.Reservation.{Reservation}
use Rattle.pl_model.specs.declared.timelines.Timeline.TheVariants.{Capacity, Level}
use Rattle.pl_check.specs.declared.drafts.DraftAlternative.{DraftAlternative}
use Rattle.pl_check.specs.declared.drafts.DraftKind.{DraftKind}
use Rattle.pl_check.specs.declared.drafts.Draft.{Draft}
use Rattle.pl_check.specs.declared.drafts.Draft.TheVariants as draft
use Rattle.pl_report.specs.DemoModel.{obs_reservations, shot_reservations, charge_reservations, scan_slots, scan_orders}

abbrev pub fixed_draft : List ℕ → ℕ → List Reservation → List DraftAlternative → DraftKind
fixed_draft name duration reservations alternatives =
    record { name = name; params = []; duration = Num (pos duration); reservations = reservations; links = []; alternatives = alternatives }

abbrev pub scan_draft : DraftAlternative
scan_draft = record { slots = scan_slots; orders = scan_orders }

abbrev pub obs_kind : DraftKind
obs_kind = fixed_draft (codes "obs") 5 obs_reservations []

abbrev pub shot_kind : DraftKind
shot_kind = fixed_draft (codes "shot") 4 shot_reservations []

abbrev pub charge_kind : DraftKind
charge_kind = fixed_draft (codes "charge") 10 charge_reservations []

abbrev pub scan_kind : DraftKind
scan_kind = fixed_draft (codes "scan") 10 [] (scan_draft ∷ [])

abbrev pub demo_drafts : List Draft
demo_drafts =
    draft.Timeline (Capacity (codes "cam") (pos 10))
    ∷ draft.Timeline (Level (codes "bat") (pos 0) (pos 1000) (pos 500))
    ∷ draft.Kind obs_kind
    ∷ draft.Kind shot_kind
    ∷ draft.Kind charge_kind
    ∷ draft.Kind scan_kind
    ∷ []

-- the kinds among them
abbrev pub draft_kinds : List DraftKind
draft_kinds = obs_kind ∷ shot_kind ∷ charge_kind ∷ scan_kind ∷ []

-- ---- the least and the greatest duration of each kind

abbrev pub lasting : ℕ → ℤ × ℤ
lasting n = (pos n, pos n)

abbrev pub demo_spans : List (ℤ × ℤ)
demo_spans = lasting 5 ∷ lasting 4 ∷ lasting 10 ∷ lasting 10 ∷ []
