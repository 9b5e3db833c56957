-- The kinds of the model are those of the drafts, with their least durations and offsets.
use Rattle.std.proofs.Common.{◌≡◌, ℕ, ℤ, pos, List, [], ◌∷◌, codes, refl, sym, ap, subst}
use Rattle.pl_lists.specs.Lists.{Pairwise}
use Rattle.pl_model.specs.declared.reservations.Reservation.{Reservation}
use Rattle.pl_model.specs.declared.alternatives.Alternative.{Alternative}
use Rattle.pl_check.specs.declared.drafts.DraftAlternative.{DraftAlternative}
use Rattle.pl_check.specs.Networks.{cut_to, span_of, FinishesAlternative, FinishesKind}
use Rattle.pl_check.specs.Checked.{spans_in}
use Rattle.pl_report.specs.DemoModel.{obs_reservations, shot_reservations, charge_reservations, scan_alternative, fixed_kind, demo_kinds}
use Rattle.pl_report.proofs.AboutDemonstration.Drafts.{fixed_draft, scan_draft, demo_drafts, draft_kinds, lasting, demo_spans}
use Rattle.pl_report.proofs.AboutDemonstration.Ranging.{bounds_num, demo_spans_are, scan_span_is}
use Rattle.pl_report.proofs.AboutDemonstration.Network.{scan_offsets}

abbrev horizon : ℤ
horizon = pos 1000000

abbrev Finishes : List DraftAlternative → List Alternative → ℤ × ℤ → Type 0
Finishes drafts made own = Pairwise (FinishesAlternative demo_spans own) drafts made

-- a kind whose duration needs no cut
finished : (name : List ℕ) (duration : ℕ) (reservations : List Reservation) (drafts : List DraftAlternative) (made : List Alternative)
    → pos duration ≡ (span_of horizon (fixed_draft name duration reservations drafts)).0
    → Finishes drafts made (span_of horizon (fixed_draft name duration reservations drafts))
    → FinishesKind horizon demo_spans (fixed_draft name duration reservations drafts) (fixed_kind name duration reservations made)
finished name duration reservations drafts made least alternatives = record {
  name = refl;
  params = refl;
  duration = refl;
  least = least;
  reservations = refl;
  links = refl;
  alternatives = alternatives;
}

-- the least duration
abbrev least_cut : ℤ × ℤ → ℤ
least_cut bounds = cut_to horizon bounds.0

scan_finished : FinishesAlternative demo_spans (lasting 10) scan_draft scan_alternative
scan_finished = record { slots = refl; orders = refl; offsets = scan_offsets }

by_spans : Pairwise (FinishesKind horizon demo_spans) draft_kinds demo_kinds
by_spans = (
  finished (codes "obs") 5 obs_reservations [] [] (ap least_cut (sym (bounds_num (pos 5)))) tt,
  (
    finished (codes "shot") 4 shot_reservations [] [] (ap least_cut (sym (bounds_num (pos 4)))) tt,
    (
      finished (codes "charge") 10 charge_reservations [] [] (ap least_cut (sym (bounds_num (pos 10)))) tt,
      (
        finished (codes "scan") 10 [] (scan_draft ∷ []) (scan_alternative ∷ []) (ap least_cut (sym (bounds_num (pos 10)))) (subst (Finishes (scan_draft ∷ []) (scan_alternative ∷ [])) (sym scan_span_is) (scan_finished, tt)),
        tt,
      ),
    ),
  ),
)

pub demo_finished : Pairwise (FinishesKind horizon (spans_in horizon demo_drafts)) draft_kinds demo_kinds
demo_finished = subst (λ (spans : List (ℤ × ℤ)). Pairwise (FinishesKind horizon spans) draft_kinds demo_kinds) (sym demo_spans_are) by_spans
