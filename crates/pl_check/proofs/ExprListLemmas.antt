-- The expressions of a kind of the text, and of its draft.
use Rattle.std.proofs.Common.{◌≡◌, ℕ, suc, ◌≤◌, ℤ, Bool, true, List, [], ◌∷◌, ◌++◌, Ok, length, map, max, refl, sym, ap, subst, ◌∙◌, arith}
use Rattle.std.specs.Prelude.{◌&&◌}
use Rattle.std.specs.List.{flat_map}
use Rattle.std.proofs.lemmas.List.Elements.{All-cons, All-map, All-weaker}
use Rattle.pl_syntax.specs.declared.whole.Item.{Item}
use Rattle.pl_syntax.specs.declared.kinds.AstKind.{AstKind}
use Rattle.pl_syntax.specs.declared.parameters.AstParam.{AstParam}
use Rattle.pl_syntax.specs.declared.parameters.AstOrigin.{AstOrigin}
use Rattle.pl_syntax.specs.declared.parameters.AstOrigin.TheVariants as origin
use Rattle.pl_syntax.specs.declared.reservations.AstReservation.{AstReservation}
use Rattle.pl_syntax.specs.declared.reservations.AstReservation.TheVariants as reservation
use Rattle.pl_syntax.specs.declared.alternatives.AstSlot.{AstSlot}
use Rattle.pl_syntax.specs.declared.alternatives.AstAlternative.{AstAlternative}
use Rattle.pl_syntax.specs.declared.expressions.AstExpr.{AstExpr}
use Rattle.pl_model.specs.declared.expressions.Expr.{Expr}
use Rattle.pl_model.specs.declared.parameters.Param.{Param}
use Rattle.pl_model.specs.declared.parameters.Origin.{Origin}
use Rattle.pl_model.specs.declared.reservations.Reservation.{Reservation}
use Rattle.pl_model.specs.declared.alternatives.Slot.{Slot}
use Rattle.pl_model.specs.declared.alternatives.Alternative.{Alternative}
use Rattle.pl_model.specs.declared.kinds.Kind.{Kind}
use Rattle.pl_model.specs.Expressions.{origin_exprs, param_exprs, reservation_exprs, bound_expr, slot_exprs, alternative_exprs, exprs_of}
use Rattle.pl_check.specs.declared.drafts.DraftAlternative.{DraftAlternative}
use Rattle.pl_check.specs.declared.drafts.DraftKind.{DraftKind}
use Rattle.pl_check.specs.Judgements.{each_made}
use Rattle.pl_check.specs.Names.{Name}
use Rattle.pl_check.specs.Finding.{known, kind_named, capacity_named, level_named, bindable_named}
use Rattle.pl_check.specs.Numbering.{numbered, numbered_origin, numbered_param, numbered_reservation, numbered_binding, numbered_slot, numbered_order, numbered_alternative, state_named}
use Rattle.pl_lists.specs.Lists.{Pairwise}
use Rattle.pl_check.specs.Networks.{FinishesAlternative, FinishesKind, span_of}
use Rattle.pl_lists.proofs.Judging.{bind_ok}
use Rattle.pl_check.proofs.PairLemmas.{ok_same, pair_map, each_pairs, Makes}
use Rattle.pl_check.proofs.NumberLemmas.{origin_made}

-- ---- lists of lists, place by place

module _ {U V : Type 0} (S : U → V → Type 0) where
  pair_append : (us : List U) (vs : List V) (us' : List U) (vs' : List V) → Pairwise S us vs → Pairwise S us' vs' → Pairwise S (us ++ us') (vs ++ vs')
  pair_append [] [] us' vs' h k = k
  pair_append [] (v ∷ vs) us' vs' h k = absurd h
  pair_append (u ∷ us) [] us' vs' h k = absurd h
  pair_append (u ∷ us) (v ∷ vs) us' vs' h k = (h.0, pair_append us vs us' vs' h.1 k)

  module _ {X Y : Type 0} (R : X → Y → Type 0) where
    pair_flat : (f : X → List U) (g : Y → List V) → ((x : X) (y : Y) → R x y → Pairwise S (f x) (g y)) → (xs : List X) (ys : List Y) → Pairwise R xs ys → Pairwise S (flat_map f xs) (flat_map g ys)
    pair_flat f g k [] [] h = tt
    pair_flat f g k [] (y ∷ ys) h = absurd h
    pair_flat f g k (x ∷ xs) [] h = absurd h
    pair_flat f g k (x ∷ xs) (y ∷ ys) h = pair_append (f x) (g y) (flat_map f xs) (flat_map g ys) (k x y h.0) (pair_flat f g k xs ys h.1)

-- ---- the expressions of the text

abbrev pub origin_written : AstOrigin → List AstExpr
origin_written origin.Plain = []
origin_written (origin.Default n) = []
origin_written (origin.Equals e) = e ∷ []

abbrev pub param_written : AstParam → List AstExpr
param_written p = origin_written p.origin

abbrev pub reservation_written : AstReservation → List AstExpr
reservation_written (reservation.Take name e) = e ∷ []
reservation_written (reservation.Raise name e point) = e ∷ []
reservation_written (reservation.Lower name e point) = e ∷ []
reservation_written (reservation.Put name state point) = []
reservation_written (reservation.Must name state) = []

abbrev pub binding_written : Name × AstExpr → AstExpr
binding_written b = b.1

abbrev pub slot_written : AstSlot → List AstExpr
slot_written s = map binding_written s.bindings

abbrev pub alternative_written : AstAlternative → List AstExpr
alternative_written a = flat_map slot_written a.slots

abbrev pub exprs_written : AstKind → List AstExpr
exprs_written k = k.duration ∷ (flat_map param_written k.params ++ (flat_map reservation_written k.reservations ++ flat_map alternative_written k.alternatives))

-- ---- and of the draft

abbrev pub draft_exprs : DraftAlternative → List Expr
draft_exprs a = flat_map slot_exprs a.slots

abbrev pub exprs_drafted : DraftKind → List Expr
exprs_drafted d = d.duration ∷ (flat_map param_exprs d.params ++ (flat_map reservation_exprs d.reservations ++ flat_map draft_exprs d.alternatives))

module _ (params : List AstParam) where
  abbrev Numbered : AstExpr → Expr → Type 0
  Numbered e x = numbered params e ≡ Ok x

  origin_pairs : (a : AstOrigin) (o : Origin) → numbered_origin params a ≡ Ok o → Pairwise Numbered (origin_written a) (origin_exprs o)
  origin_pairs origin.Plain o h = subst (λ x. Pairwise Numbered [] (origin_exprs x)) (ok_same _ o h) tt
  origin_pairs (origin.Default n) o h = subst (λ x. Pairwise Numbered [] (origin_exprs x)) (ok_same _ o h) tt
  origin_pairs (origin.Equals e) o h =
      let made = bind_ok (numbered params e) _ o h in
      subst (λ x. Pairwise Numbered (e ∷ []) (origin_exprs x)) (ok_same _ o made.2) (made.1, tt)

  param_pairs : (a : AstParam) (p : Param) → numbered_param params a ≡ Ok p → Pairwise Numbered (param_written a) (param_exprs p)
  param_pairs a p h = origin_pairs a.origin p.origin (origin_made params a p h)

  reservation_pairs : (items : List Item) (a : AstReservation) (r : Reservation) → numbered_reservation items params a ≡ Ok r → Pairwise Numbered (reservation_written a) (reservation_exprs r)
  reservation_pairs items (reservation.Take name e) r h =
      let number = bind_ok (known name (capacity_named items name)) _ r h in
      let amount = bind_ok (numbered params e) _ r number.2 in
      subst (λ x. Pairwise Numbered (e ∷ []) (reservation_exprs x)) (ok_same _ r amount.2) (amount.1, tt)
  reservation_pairs items (reservation.Raise name e point) r h =
      let number = bind_ok (known name (level_named items name)) _ r h in
      let amount = bind_ok (numbered params e) _ r number.2 in
      subst (λ x. Pairwise Numbered (e ∷ []) (reservation_exprs x)) (ok_same _ r amount.2) (amount.1, tt)
  reservation_pairs items (reservation.Lower name e point) r h =
      let number = bind_ok (known name (level_named items name)) _ r h in
      let amount = bind_ok (numbered params e) _ r number.2 in
      subst (λ x. Pairwise Numbered (e ∷ []) (reservation_exprs x)) (ok_same _ r amount.2) (amount.1, tt)
  reservation_pairs items (reservation.Put name state point) r h =
      let found = bind_ok (state_named items name state) _ r h in
      subst (λ x. Pairwise Numbered [] (reservation_exprs x)) (ok_same _ r found.2) tt
  reservation_pairs items (reservation.Must name state) r h =
      let found = bind_ok (state_named items name state) _ r h in
      subst (λ x. Pairwise Numbered [] (reservation_exprs x)) (ok_same _ r found.2) tt

  binding_pair : (of_slot : List AstParam) (a : Name × AstExpr) (b : ℕ × Expr) → numbered_binding params of_slot a ≡ Ok b → Numbered (binding_written a) (bound_expr b)
  binding_pair of_slot a b h =
      let left = bind_ok (known a.0 (bindable_named of_slot a.0)) _ b h in
      let right = bind_ok (numbered params a.1) _ b left.2 in
      subst (λ x. Numbered a.1 (bound_expr x)) (ok_same _ b right.2) right.1

  slot_pairs : (items : List Item) (a : AstSlot) (s : Slot) → numbered_slot items params a ≡ Ok s → Pairwise Numbered (slot_written a) (slot_exprs s)
  slot_pairs items a s h =
      let kind = bind_ok (known a.kind (kind_named items a.kind)) _ s h in
      let of_slot : List AstParam = kind.0.1.params in
      let bindings = bind_ok (each_made (numbered_binding params of_slot) a.bindings) _ s kind.2 in
      let pairs = pair_map (Makes (numbered_binding params of_slot)) Numbered binding_written bound_expr (binding_pair of_slot) a.bindings bindings.0 (each_pairs (numbered_binding params of_slot) a.bindings bindings.0 bindings.1) in
      subst (λ x. Pairwise Numbered (slot_written a) (slot_exprs x)) (ok_same _ s bindings.2) pairs

  alternative_pairs : (items : List Item) (a : AstAlternative) (d : DraftAlternative) → numbered_alternative items params a ≡ Ok d → Pairwise Numbered (alternative_written a) (draft_exprs d)
  alternative_pairs items a d h =
      let slots = bind_ok (each_made (numbered_slot items params) a.slots) _ d h in
      let orders = bind_ok (each_made (numbered_order a.slots) a.orders) _ d slots.2 in
      let pairs = pair_flat Numbered (Makes (numbered_slot items params)) slot_written slot_exprs (slot_pairs items) a.slots slots.0 (each_pairs (numbered_slot items params) a.slots slots.0 slots.1) in
      subst (λ x. Pairwise Numbered (alternative_written a) (draft_exprs x)) (ok_same _ d orders.2) pairs

-- each expression of the text and its numbered form
pub exprs_made : (items : List Item) (k : AstKind) (d : DraftKind) → numbered k.params k.duration ≡ Ok d.duration
    → Pairwise (Makes (numbered_param k.params)) k.params d.params
    → Pairwise (Makes (numbered_reservation items k.params)) k.reservations d.reservations
    → Pairwise (Makes (numbered_alternative items k.params)) k.alternatives d.alternatives
    → Pairwise (Makes (numbered k.params)) (exprs_written k) (exprs_drafted d)
exprs_made items k d duration params reservations alternatives = (
  duration,
  pair_append (Makes (numbered k.params)) (flat_map param_written k.params) (flat_map param_exprs d.params) _ _
      (pair_flat (Makes (numbered k.params)) (Makes (numbered_param k.params)) param_written param_exprs (param_pairs k.params) k.params d.params params)
      (pair_append (Makes (numbered k.params)) (flat_map reservation_written k.reservations) (flat_map reservation_exprs d.reservations) _ _
      (pair_flat (Makes (numbered k.params)) (Makes (numbered_reservation items k.params)) reservation_written reservation_exprs (reservation_pairs k.params items) k.reservations d.reservations reservations)
      (pair_flat (Makes (numbered k.params)) (Makes (numbered_alternative items k.params)) alternative_written draft_exprs (alternative_pairs k.params items) k.alternatives d.alternatives alternatives)),
)

-- the kind that finishes a draft has its expressions
module _ (horizon : ℤ) (spans : List (ℤ × ℤ)) where
  slots_same : (own : ℤ × ℤ) (ds : List DraftAlternative) (ms : List Alternative) → Pairwise (FinishesAlternative spans own) ds ms → flat_map draft_exprs ds ≡ flat_map alternative_exprs ms
  slots_same own [] [] h = refl
  slots_same own [] (m ∷ ms) h = absurd h
  slots_same own (d ∷ ds) [] h = absurd h
  slots_same own (d ∷ ds) (m ∷ ms) h =
      ap (λ ss. flat_map slot_exprs ss ++ flat_map draft_exprs ds) (sym h.0.slots) ∙ ap (λ es. flat_map slot_exprs m.slots ++ es) (slots_same own ds ms h.1)

  pub exprs_kept : (d : DraftKind) (m : Kind) → FinishesKind horizon spans d m → exprs_drafted d ≡ exprs_of m
  exprs_kept d m f =
      ap (λ e. e ∷ (flat_map param_exprs d.params ++ (flat_map reservation_exprs d.reservations ++ flat_map draft_exprs d.alternatives))) (sym f.duration)
      ∙ ap (λ ps. m.duration ∷ (flat_map param_exprs ps ++ (flat_map reservation_exprs d.reservations ++ flat_map draft_exprs d.alternatives))) (sym f.params)
      ∙ ap (λ rs. m.duration ∷ (flat_map param_exprs m.params ++ (flat_map reservation_exprs rs ++ flat_map draft_exprs d.alternatives))) (sym f.reservations)
      ∙ ap (λ es. m.duration ∷ (flat_map param_exprs m.params ++ (flat_map reservation_exprs m.reservations ++ es))) (slots_same (span_of horizon d) d.alternatives m.alternatives f.alternatives)
