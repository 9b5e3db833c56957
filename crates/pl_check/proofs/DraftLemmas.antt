-- A kind of the text, and the draft that numbers it.
use Rattle.std.proofs.Common.{◌≡◌, List, Ok, ap, subst, ◌∙◌}
use Rattle.pl_syntax.specs.declared.whole.Item.{Item}
use Rattle.pl_syntax.specs.declared.kinds.AstKind.{AstKind}
use Rattle.pl_model.specs.declared.expressions.Expr.{Expr}
use Rattle.pl_model.specs.declared.parameters.Param.{Param}
use Rattle.pl_model.specs.declared.reservations.Reservation.{Reservation}
use Rattle.pl_model.specs.declared.links.Link.{Link}
use Rattle.pl_check.specs.declared.drafts.DraftKind.{DraftKind}
use Rattle.pl_check.specs.Numbering.{numbered, numbered_params, numbered_reservation, numbered_reservations, numbered_link, numbered_links, numbered_alternative, numbered_alternatives, numbered_duration, numbered_head, numbered_asks, numbered_kind}
use Rattle.pl_lists.specs.Lists.{Pairwise}
use Rattle.pl_lists.proofs.Judging.{bind_ok}
use Rattle.pl_check.proofs.PairLemmas.{ok_same, each_pairs, Makes}

-- a draft and the kind of the text that it numbers
pub record Numbers (items : List Item) (k : AstKind) (d : DraftKind) : Type 0 where
  pub name : k.name ≡ d.name
  pub params : numbered_params k.params ≡ Ok d.params
  pub duration : numbered k.params k.duration ≡ Ok d.duration
  pub reservations : Pairwise (Makes (numbered_reservation items k.params)) k.reservations d.reservations
  pub links : Pairwise (Makes (numbered_link items)) k.links d.links
  pub alternatives : Pairwise (Makes (numbered_alternative items k.params)) k.alternatives d.alternatives

pub numbers_kind : (items : List Item) (k : AstKind) (d : DraftKind) → numbered_kind items k ≡ Ok d → Numbers items k d
unfolding numbered_duration numbered_reservations numbered_links numbered_alternatives
numbers_kind items k d h =
    let head = bind_ok (numbered_head k) _ d h in
    let asks = bind_ok (numbered_asks items k) _ d head.2 in
    let alternatives = bind_ok (numbered_alternatives items k.params k.alternatives) _ d asks.2 in
    let params = bind_ok (numbered_params k.params) _ head.0 head.1 in
    let duration = bind_ok (numbered_duration k) _ head.0 params.2 in
    let reservations = bind_ok (numbered_reservations items k.params k.reservations) _ asks.0 asks.1 in
    let links = bind_ok (numbered_links items k.links) _ asks.0 reservations.2 in
    let same = ok_same _ d alternatives.2 in
    let same_head = ok_same _ head.0 duration.2 in
    let same_asks = ok_same _ asks.0 links.2 in
    record {
      name = ap (λ (x : DraftKind). x.name) same;
      params = params.1 ∙ ap Ok (ap (λ (x : List Param × Expr). x.0) same_head ∙ ap (λ (x : DraftKind). x.params) same);
      duration = duration.1 ∙ ap Ok (ap (λ (x : List Param × Expr). x.1) same_head ∙ ap (λ (x : DraftKind). x.duration) same);
      reservations = subst (Pairwise (Makes (numbered_reservation items k.params)) k.reservations) (ap (λ (x : List Reservation × List Link). x.0) same_asks ∙ ap (λ (x : DraftKind). x.reservations) same) (each_pairs (numbered_reservation items k.params) k.reservations reservations.0 reservations.1);
      links = subst (Pairwise (Makes (numbered_link items)) k.links) (ap (λ (x : List Reservation × List Link). x.1) same_asks ∙ ap (λ (x : DraftKind). x.links) same) (each_pairs (numbered_link items) k.links links.0 links.1);
      alternatives = subst (Pairwise (Makes (numbered_alternative items k.params)) k.alternatives) (ap (λ (x : DraftKind). x.alternatives) same) (each_pairs (numbered_alternative items k.params) k.alternatives alternatives.0 alternatives.1);
    }
