-- What the numbers of the text's parts name, where every name was found.
use Rattle.std.proofs.Common.{◌≡◌, ℕ, ◌<◌, true, List, Option, Some, None, Ok, All, length, slice_get, sym, ap, subst, ◌∙◌}
use Rattle.std.specs.Prelude.{bytes_eq}
use Rattle.std.proofs.lemmas.Option.{slice_get_within}
use Rattle.std.proofs.lemmas.Bool.{and_parts}
use Rattle.pl_syntax.specs.declared.whole.Item.{Item}
use Rattle.pl_syntax.specs.declared.timelines.AstTimeline.{AstTimeline}
use Rattle.pl_syntax.specs.declared.timelines.AstTimeline.TheVariants as line
use Rattle.pl_syntax.specs.declared.kinds.AstKind.{AstKind}
use Rattle.pl_syntax.specs.declared.parameters.AstParam.{AstParam}
use Rattle.pl_syntax.specs.declared.parameters.AstOrigin.{AstOrigin}
use Rattle.pl_syntax.specs.declared.parameters.AstOrigin.TheVariants as origin
use Rattle.pl_syntax.specs.declared.reservations.AstReservation.{AstReservation}
use Rattle.pl_syntax.specs.declared.reservations.AstReservation.TheVariants as reservation
use Rattle.pl_syntax.specs.declared.alternatives.AstSlot.{AstSlot}
use Rattle.pl_syntax.specs.declared.expressions.AstExpr.{AstExpr}
use Rattle.pl_model.specs.declared.expressions.Expr.{Expr}
use Rattle.pl_model.specs.declared.parameters.Param.{Param}
use Rattle.pl_model.specs.declared.parameters.Origin.{Origin}
use Rattle.pl_model.specs.declared.reservations.Reservation.{Reservation}
use Rattle.pl_model.specs.declared.alternatives.Slot.{Slot}
use Rattle.pl_model.specs.declared.kinds.Kind.{Kind}
use Rattle.pl_model.specs.declared.timelines.Timeline.{Timeline}
use Rattle.pl_model.specs.declared.whole.Model.{Model}
use Rattle.pl_model.specs.Checked.{IsCapacityLine, IsLevelLine, HasState, IsReservation, IsSetOrigin, IsSetParam, IsBinding, IsCheckedSlot, IsStep, params_of}
use Rattle.pl_model.specs.Schedules.{IsPlace}
use Rattle.pl_check.specs.Names.{Name, place_of}
use Rattle.pl_check.specs.Judgements.{each_made}
use Rattle.pl_check.specs.Finding.{known, kind_named, line_named, capacity_named, level_named, states_named, as_capacity, as_level, as_states, bindable_named, is_bindable_named, is_unequalled, slot_named, is_slot_named}
use Rattle.pl_check.specs.Numbering.{numbered, numbered_line, numbered_step, numbered_origin, numbered_param, numbered_params, numbered_reservation, numbered_binding, numbered_slot, numbered_place, state_named, state_number}
use Rattle.pl_lists.specs.Lists.{Pairwise}
use Rattle.pl_lists.proofs.Judging.{bind_ok}
use Rattle.pl_check.proofs.PairLemmas.{known_ok, ok_same, and_then_some, placed_at, pair_at, pair_all, all_such, each_pairs, Makes}
use Rattle.pl_check.proofs.MadeLemmas.{written_kinds, written_lines, kind_found, line_found}
use Rattle.pl_check.proofs.ExpressionLemmas.{names_made}

-- the kinds and the timelines of a model by the numbers of those of the text
pub record IsMadeOf (items : List Item) (model : Model) : Type 0 where
  pub kinds : (n : ℕ) (k : AstKind) → slice_get (written_kinds items) n ≡ Some k → (m : Kind) × (slice_get model.kinds n ≡ Some m) × (numbered_params k.params ≡ Ok m.params)
  pub lines : (n : ℕ) (l : AstTimeline) → slice_get (written_lines items) n ≡ Some l → (t : Timeline) × (slice_get model.timelines n ≡ Some t) × (numbered_line l ≡ Ok t)

-- ---- parameters and bindings

pub params_made : (params : List AstParam) (made : List Param) → numbered_params params ≡ Ok made → Pairwise (Makes (numbered_param params)) params made
unfolding numbered_params
params_made params made h = each_pairs (numbered_param params) params made h

pub origin_made : (params : List AstParam) (p : AstParam) (q : Param) → numbered_param params p ≡ Ok q → numbered_origin params p.origin ≡ Ok q.origin
origin_made params p q h =
    let made = bind_ok (numbered_origin params p.origin) _ q h in
    made.1 ∙ ap Ok (ap (λ (x : Param). x.origin) (ok_same _ q made.2))

set_origin : (params : List AstParam) (a : AstOrigin) (o : Origin) → numbered_origin params a ≡ Ok o → is_unequalled a ≡ true → IsSetOrigin o
set_origin params origin.Plain o h t = subst IsSetOrigin (ok_same _ o h) tt
set_origin params (origin.Default n) o h t = subst IsSetOrigin (ok_same _ o h) tt
set_origin params (origin.Equals e) o h t = absurd (cc t)

binding_made : (params of_slot : List AstParam) (made : List Param) (a : Name × AstExpr) (b : ℕ × Expr) → numbered_params of_slot ≡ Ok made → numbered_binding params of_slot a ≡ Ok b → IsBinding (length params) made b
binding_made params of_slot made a b m h =
    let left = bind_ok (known a.0 (bindable_named of_slot a.0)) _ b h in
    let right = bind_ok (numbered params a.1) _ b left.2 in
    let place = placed_at (is_bindable_named a.0) of_slot left.0 (known_ok a.0 (bindable_named of_slot a.0) left.0 left.1) in
    let stands = pair_at (Makes (numbered_param of_slot)) of_slot made left.0 place.0 (params_made of_slot made m) place.1 in
    let free = (and_parts (bytes_eq place.0.name a.0) (is_unequalled place.0.origin) place.2).1 in
    let whole : IsBinding (length params) made (left.0, right.0) = record {
      number = slice_get_within made left.0 stands.0 stands.1;
      set = subst IsSetParam (sym stands.1) (set_origin of_slot place.0.origin stands.0.origin (origin_made of_slot place.0 stands.0 stands.2) free);
      names = names_made params a.1 right.0 right.1;
    } in
    subst (IsBinding (length params) made) (ok_same _ b right.2) whole

pub slot_made : (items : List Item) (model : Model) (params : List AstParam) (a : AstSlot) (s : Slot) → IsMadeOf items model → numbered_slot items params a ≡ Ok s → IsCheckedSlot model (length params) s
slot_made items model params a s made h =
    let kind = bind_ok (known a.kind (kind_named items a.kind)) _ s h in
    let bindings = bind_ok (each_made (numbered_binding params kind.0.1.params) a.bindings) _ s kind.2 in
    let stands = made.kinds kind.0.0 kind.0.1 (kind_found items a.kind kind.0 (known_ok a.kind (kind_named items a.kind) kind.0 kind.1)) in
    let each : All (IsBinding (length params) stands.0.params) bindings.0 =
    pair_all (Makes (numbered_binding params kind.0.1.params)) (λ x. Unit {0}) (IsBinding (length params) stands.0.params) (λ x y u m. binding_made params kind.0.1.params stands.0.params x y stands.2 m) a.bindings bindings.0 (all_such a.bindings) (each_pairs (numbered_binding params kind.0.1.params) a.bindings bindings.0 bindings.1) in
    let whole : IsCheckedSlot model (length params) (record { name = a.name; kind = kind.0.0; bindings = bindings.0 }) = record {
      kind = slice_get_within model.kinds kind.0.0 stands.0 stands.1;
      bindings = subst (λ ps. All (IsBinding (length params) ps) bindings.0) (sym (ap params_of stands.1)) each;
    } in
    subst (IsCheckedSlot model (length params)) (ok_same _ s bindings.2) whole

-- ---- orders

pub place_made : (slots : List AstSlot) (a : Option Name) (p : Option ℕ) → numbered_place slots a ≡ Ok p → IsPlace (length slots) p
place_made slots None p h = subst (IsPlace (length slots)) (ok_same _ p h) tt
place_made slots (Some name) p h =
    let slot = bind_ok (known name (slot_named slots name)) _ p h in
    let place = placed_at (is_slot_named name) slots slot.0 (known_ok name (slot_named slots name) slot.0 slot.1) in
    subst (IsPlace (length slots)) (ok_same _ p slot.2) (slice_get_within slots slot.0 place.0 place.1)

-- ---- states

pub state_below : (states : List Name) (name : Name) (s : ℕ) → state_number states name ≡ Ok s → s < length states
state_below states name s h =
    let place = placed_at (bytes_eq name) states s (known_ok name (place_of states name) s h) in
    slice_get_within states s place.0 place.1

pub step_made : (states : List Name) (a : Name × Name) (s : ℕ × ℕ) → numbered_step states a ≡ Ok s → IsStep (length states) s
step_made states a s h =
    let from = bind_ok (state_number states a.0) _ s h in
    let to = bind_ok (state_number states a.1) _ s from.2 in
    subst (IsStep (length states)) (ok_same _ s to.2) (state_below states a.0 from.0 from.1, state_below states a.1 to.0 to.1)

-- ---- timelines of the right sort

capacity_is : (found : ℕ × AstTimeline) (l : ℕ) (t : Timeline) → as_capacity found ≡ Some l → numbered_line found.1 ≡ Ok t → (found.0 ≡ l) × IsCapacityLine (Some t)
capacity_is (n, line.Capacity name most) l t e h = let same : n ≡ l = cc e in (same, subst (λ x. IsCapacityLine (Some x)) (ok_same _ t h) tt)
capacity_is (n, line.Level name least most start) l t e h = absurd (cc e)
capacity_is (n, line.States name states start any steps) l t e h = absurd (cc e)

level_is : (found : ℕ × AstTimeline) (l : ℕ) (t : Timeline) → as_level found ≡ Some l → numbered_line found.1 ≡ Ok t → (found.0 ≡ l) × IsLevelLine (Some t)
level_is (n, line.Level name least most start) l t e h = let same : n ≡ l = cc e in (same, subst (λ x. IsLevelLine (Some x)) (ok_same _ t h) tt)
level_is (n, line.Capacity name most) l t e h = absurd (cc e)
level_is (n, line.States name states start any steps) l t e h = absurd (cc e)

states_are : (found : ℕ × AstTimeline) (named : ℕ × List Name) (t : Timeline) (state : ℕ) → as_states found ≡ Some named → numbered_line found.1 ≡ Ok t → state < length named.1 → (found.0 ≡ named.0) × HasState state (Some t)
states_are (n, line.States name states start any steps) named t state e h lt =
    let same : (n, states) ≡ named = cc e in
    let first = bind_ok (state_number states start) _ t h in
    let moves = bind_ok (each_made (numbered_step states) steps) _ t first.2 in
    let below : state < length states = subst (λ (x : ℕ × List Name). state < length x.1) (sym same) lt in
    (ap (λ (x : ℕ × List Name). x.0) same, subst (λ x. HasState state (Some x)) (ok_same _ t moves.2) below)
states_are (n, line.Capacity name most) named t state e h lt = absurd (cc e)
states_are (n, line.Level name least most start) named t state e h lt = absurd (cc e)

module _ (items : List Item) (model : Model) (made : IsMadeOf items model) where
  capacity_made : (name : Name) (l : ℕ) → known name (capacity_named items name) ≡ Ok l → IsCapacityLine (slice_get model.timelines l)
  capacity_made name l h =
      let found = and_then_some as_capacity (line_named items name) l (known_ok name (capacity_named items name) l h) in
      let stands = made.lines found.0.0 found.0.1 (line_found items name found.0 found.1) in
      let is = capacity_is found.0 l stands.0 found.2 stands.2 in
      subst (λ n. IsCapacityLine (slice_get model.timelines n)) is.0 (subst IsCapacityLine (sym stands.1) is.1)

  level_made : (name : Name) (l : ℕ) → known name (level_named items name) ≡ Ok l → IsLevelLine (slice_get model.timelines l)
  level_made name l h =
      let found = and_then_some as_level (line_named items name) l (known_ok name (level_named items name) l h) in
      let stands = made.lines found.0.0 found.0.1 (line_found items name found.0 found.1) in
      let is = level_is found.0 l stands.0 found.2 stands.2 in
      subst (λ n. IsLevelLine (slice_get model.timelines n)) is.0 (subst IsLevelLine (sym stands.1) is.1)

  state_made : (name state : Name) (found : ℕ × ℕ) → state_named items name state ≡ Ok found → HasState found.1 (slice_get model.timelines found.0)
  state_made name state found h =
      let named = bind_ok (known name (states_named items name)) _ found h in
      let number = bind_ok (state_number named.0.1 state) _ found named.2 in
      let place = and_then_some as_states (line_named items name) named.0 (known_ok name (states_named items name) named.0 named.1) in
      let stands = made.lines place.0.0 place.0.1 (line_found items name place.0 place.1) in
      let is = states_are place.0 named.0 stands.0 number.0 place.2 stands.2 (state_below named.0.1 state number.0 number.1) in
      let whole : HasState number.0 (slice_get model.timelines named.0.0) = subst (λ n. HasState number.0 (slice_get model.timelines n)) is.0 (subst (HasState number.0) (sym stands.1) is.1) in
      subst (λ (x : ℕ × ℕ). HasState x.1 (slice_get model.timelines x.0)) (ok_same _ found number.2) whole

  pub reservation_made : (params : List AstParam) (a : AstReservation) (r : Reservation) → numbered_reservation items params a ≡ Ok r → IsReservation model.timelines (length params) r
  reservation_made params (reservation.Take name e) r h =
      let number = bind_ok (known name (capacity_named items name)) _ r h in
      let amount = bind_ok (numbered params e) _ r number.2 in
      subst (IsReservation model.timelines (length params)) (ok_same _ r amount.2) (capacity_made name number.0 number.1, names_made params e amount.0 amount.1)
  reservation_made params (reservation.Raise name e point) r h =
      let number = bind_ok (known name (level_named items name)) _ r h in
      let amount = bind_ok (numbered params e) _ r number.2 in
      subst (IsReservation model.timelines (length params)) (ok_same _ r amount.2) (level_made name number.0 number.1, names_made params e amount.0 amount.1)
  reservation_made params (reservation.Lower name e point) r h =
      let number = bind_ok (known name (level_named items name)) _ r h in
      let amount = bind_ok (numbered params e) _ r number.2 in
      subst (IsReservation model.timelines (length params)) (ok_same _ r amount.2) (level_made name number.0 number.1, names_made params e amount.0 amount.1)
  reservation_made params (reservation.Put name state point) r h =
      let found = bind_ok (state_named items name state) _ r h in
      subst (IsReservation model.timelines (length params)) (ok_same _ r found.2) (state_made name state found.0 found.1)
  reservation_made params (reservation.Must name state) r h =
      let found = bind_ok (state_named items name state) _ r h in
      subst (IsReservation model.timelines (length params)) (ok_same _ r found.2) (state_made name state found.0 found.1)
