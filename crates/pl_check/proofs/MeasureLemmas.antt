-- The size and the literals of an expression, in the text and numbered.
use Rattle.std.proofs.Common.{◌≡◌, ℕ, suc, ◌+◌, ◌≤◌, ℤ, Bool, true, List, Ok, Err, All, length, max, refl, sym, ap, subst, ◌∙◌, arith, [], ◌++◌, ◌∷◌}
use Rattle.std.specs.Prelude.{◌&&◌, nat_le}
use Rattle.std.specs.List.{flat_map}
use Rattle.std.proofs.lemmas.Bool.Decides.{nat_tests}
use Rattle.std.proofs.lemmas.List.Elements.{All-nil, All-cons, All-append, All-map, All-weaker}
use Rattle.pl_syntax.specs.declared.kinds.AstKind.{AstKind}
use Rattle.pl_syntax.specs.declared.parameters.AstParam.{AstParam}
use Rattle.pl_syntax.specs.declared.parameters.AstOrigin.{AstOrigin}
use Rattle.pl_syntax.specs.declared.parameters.AstOrigin.TheVariants as origin
use Rattle.pl_syntax.specs.declared.reservations.AstReservation.{AstReservation}
use Rattle.pl_syntax.specs.declared.reservations.AstReservation.TheVariants as reservation
use Rattle.pl_syntax.specs.declared.alternatives.AstSlot.{AstSlot}
use Rattle.pl_syntax.specs.declared.alternatives.AstAlternative.{AstAlternative}
use Rattle.pl_syntax.specs.declared.expressions.AstExpr.{AstExpr, Num, Name, Apply, fold-AstExpr, fold-roll-AstExpr}
use Rattle.pl_syntax.specs.declared.expressions.AstExpr.TheOpen.{AstExpr-F}
use Rattle.pl_syntax.specs.declared.expressions.AstExpr.TheViews.{rolls-Num, rolls-Name, rolls-Apply}
use Rattle.pl_model.specs.declared.expressions.Op.{Op}
use Rattle.pl_model.specs.declared.expressions.Expr.{Expr, fold-Expr}
use Rattle.pl_model.specs.declared.expressions.Expr as model
use Rattle.pl_model.specs.declared.expressions.Expr.TheOpen.{Expr-F}
use Rattle.pl_model.specs.declared.parameters.Param.{Param}
use Rattle.pl_model.specs.declared.parameters.Origin.{Origin}
use Rattle.pl_model.specs.declared.parameters.Origin.TheVariants.{Free, Dependent}
use Rattle.pl_model.specs.declared.reservations.Reservation.{Reservation}
use Rattle.pl_model.specs.declared.reservations.Reservation.TheVariants.{Take, Raise, Lower, Put, Must}
use Rattle.pl_model.specs.declared.alternatives.Slot.{Slot}
use Rattle.pl_model.specs.Expressions as sizes
use Rattle.pl_model.specs.Expressions.{HasSmallLiterals, param_exprs, origin_exprs, reservation_exprs, bound_expr, slot_exprs}
use Rattle.pl_model.proofs.Induction.{induct, fold_num, fold_param, fold_apply}
use Rattle.pl_syntax.proofs.Again.{levels_at, levels_of}
use Rattle.pl_check.specs.declared.drafts.DraftAlternative.{DraftAlternative}
use Rattle.pl_check.specs.declared.drafts.DraftKind.{DraftKind}
use Rattle.pl_check.specs.declared.fault.ModelFault.TheVariants as fault
use Rattle.pl_check.specs.declared.fault.What.TheVariants as what
use Rattle.pl_check.specs.Judgements.{◌>>=◌, pass, each, at_most, unless}
use Rattle.pl_check.specs.Names.{Name as Text}
use Rattle.pl_check.specs.Counts.{nodes_at, nodes_of, few_nodes, counts_in_origin, counts_in_param, counts_in_reservation, counts_in_link, counts_in_binding, counts_in_slot, counts_in_order, counts_in_alternative, counts_in_kind}
use Rattle.pl_check.specs.Finding.{known, param_named}
use Rattle.pl_check.specs.Numbering.{numbered}
use Rattle.pl_check.specs.Ranges.{is_between, is_amount, is_default, literals_at, literals_fit, range_in_expr, range_in_origin, range_in_param, range_in_reservation, range_in_duration, range_in_binding, range_in_slot, range_in_order, range_in_link, range_in_alternative, range_in_kind, is_possible, duration_bounds}
use Rattle.std.specs.Prelude.{int_le}
use Rattle.pl_check.proofs.SizeLemmas.{then_passes, few}
use Rattle.pl_check.proofs.RangeLemmas.{test_passes, each_passes}
use Rattle.pl_lists.proofs.Judging.{bind_ok}
use Rattle.pl_lists.proofs.Elements.{all_flat}
use Rattle.pl_check.proofs.PairLemmas.{known_ok, ok_same}
use Rattle.pl_check.proofs.ExpressionLemmas.{written, numbered-num, numbered-name, numbered-apply}
use Rattle.pl_check.proofs.ExprListLemmas.{origin_written, param_written, reservation_written, binding_written, slot_written, alternative_written, exprs_written, draft_exprs, exprs_drafted}

module _ {A : Type 0} (at : AstExpr-F A → A) where
  ast_num : (n : ℤ) → fold-AstExpr A at (Num n) ≡ at (AstExpr-F.Num n)
  ast_num n = ap (fold-AstExpr A at) (sym (rolls-Num n)) ∙ fold-roll-AstExpr A at (AstExpr-F.Num n)

  ast_name : (name : List ℕ) → fold-AstExpr A at (Name name) ≡ at (AstExpr-F.Name name)
  ast_name name = ap (fold-AstExpr A at) (sym (rolls-Name name)) ∙ fold-roll-AstExpr A at (AstExpr-F.Name name)

  ast_apply : (op : Op) (a b : AstExpr) → fold-AstExpr A at (Apply op a b) ≡ at (AstExpr-F.Apply op (fold-AstExpr A at a) (fold-AstExpr A at b))
  ast_apply op a b = ap (fold-AstExpr A at) (sym (rolls-Apply op a b)) ∙ fold-roll-AstExpr A at (AstExpr-F.Apply op a b)

-- ---- a measure that sees no names is kept

module _ (params : List AstParam) (at : AstExpr-F ℕ → ℕ) (made : Expr-F ℕ → ℕ) (num : (n : ℤ) → at (AstExpr-F.Num n) ≡ made (Expr-F.Num n)) (named : (name : List ℕ) (p : ℕ) → at (AstExpr-F.Name name) ≡ made (Expr-F.Param p)) (apply : (op : Op) (a b : ℕ) → at (AstExpr-F.Apply op a b) ≡ made (Expr-F.Apply op a b)) where
  measure_kept : (e : AstExpr) (x : Expr) → numbered params e ≡ Ok x → fold-AstExpr ℕ at e ≡ fold-Expr ℕ made x
  measure_kept = written (λ e. (x : Expr) → numbered params e ≡ Ok x → fold-AstExpr ℕ at e ≡ fold-Expr ℕ made x)
      (λ n x h. ast_num at n ∙ num n ∙ sym (fold_num ℕ made n) ∙ ap (fold-Expr ℕ made) (ok_same _ x (sym (numbered-num params n) ∙ h)))
      (λ name x h.
      let p = bind_ok (known name (param_named params name)) (λ p. Ok (model.Param p)) x (sym (numbered-name params name) ∙ h) in
      ast_name at name ∙ named name p.0 ∙ sym (fold_param ℕ made p.0) ∙ ap (fold-Expr ℕ made) (ok_same _ x p.2))
      (λ op a b f g x h.
      let left = bind_ok (numbered params a) (λ y. numbered params b >>= λ z. Ok (model.Apply op y z)) x (sym (numbered-apply params op a b) ∙ h) in
      let right = bind_ok (numbered params b) (λ z. Ok (model.Apply op left.0 z)) x left.2 in
      let first = f left.0 left.1 in
      let second = g right.0 right.1 in
      ast_apply at op a b ∙ ap (λ n. at (AstExpr-F.Apply op n (fold-AstExpr ℕ at b))) first ∙ ap (λ n. at (AstExpr-F.Apply op (fold-Expr ℕ made left.0) n)) second
      ∙ apply op (fold-Expr ℕ made left.0) (fold-Expr ℕ made right.0) ∙ sym (fold_apply ℕ made op left.0 right.0) ∙ ap (fold-Expr ℕ made) (ok_same _ x right.2))

pub nodes_kept : (params : List AstParam) (e : AstExpr) (x : Expr) → numbered params e ≡ Ok x → nodes_of e ≡ sizes.nodes_of x
nodes_kept params e x h = measure_kept params nodes_at sizes.nodes_at (λ n. refl) (λ name p. refl) (λ op a b. refl) e x h

pub levels_kept : (params : List AstParam) (e : AstExpr) (x : Expr) → numbered params e ≡ Ok x → levels_of e ≡ sizes.levels_of x
levels_kept params e x h = measure_kept params levels_at sizes.levels_at (λ n. refl) (λ name p. refl) (λ op a b. refl) e x h

-- ---- nodes

le_from_test : (a b : ℕ) → nat_le a b ≡ true → a ≤ b
le_from_test a b h = grind (arith, nat_tests)

abbrev pub HasFewNodes : AstExpr → Type 0
HasFewNodes e = nodes_of e ≤ 64

one_few : (e : AstExpr) → few_nodes e ≡ pass → HasFewNodes e
one_few e h = le_from_test (nodes_of e) 64 (test_passes (nat_le (nodes_of e) 64) (fault.TooMany what.Nodes) h)

single_few : (e : AstExpr) → few_nodes e ≡ pass → All HasFewNodes (e ∷ [])
single_few e h = All-cons HasFewNodes e [] (one_few e h) (All-nil HasFewNodes)

origin_few : (a : AstOrigin) → counts_in_origin a ≡ pass → All HasFewNodes (origin_written a)
origin_few origin.Plain h = All-nil HasFewNodes
origin_few (origin.Default n) h = All-nil HasFewNodes
origin_few (origin.Equals e) h = single_few e h

reservation_few : (a : AstReservation) → counts_in_reservation a ≡ pass → All HasFewNodes (reservation_written a)
reservation_few (reservation.Take name e) h = single_few e h
reservation_few (reservation.Raise name e point) h = single_few e h
reservation_few (reservation.Lower name e point) h = single_few e h
reservation_few (reservation.Put name state point) h = All-nil HasFewNodes
reservation_few (reservation.Must name state) h = All-nil HasFewNodes

slot_few : (s : AstSlot) → counts_in_slot s ≡ pass → All HasFewNodes (slot_written s)
slot_few s h = All-map HasFewNodes binding_written s.bindings (All-weaker (λ b. counts_in_binding b ≡ pass) (λ b. HasFewNodes (binding_written b)) (λ b p. one_few b.1 p) s.bindings (each_passes counts_in_binding s.bindings h))

alternative_few : (a : AstAlternative) → counts_in_alternative a ≡ pass → All HasFewNodes (alternative_written a)
alternative_few a h =
    let both = then_passes (at_most 16 what.Slots counts_in_slot a.slots) (at_most 64 what.Orders counts_in_order a.orders) tt h in
    all_flat HasFewNodes slot_written a.slots (All-weaker (λ s. counts_in_slot s ≡ pass) (λ s. All HasFewNodes (slot_written s)) slot_few a.slots (few 16 what.Slots counts_in_slot a.slots both.0).1)

pub exprs_few : (k : AstKind) → counts_in_kind k ≡ pass → All HasFewNodes (exprs_written k)
exprs_few k h =
    let params = then_passes (at_most 16 what.Params counts_in_param k.params) _ tt h in
    let duration = then_passes (few_nodes k.duration) _ tt params.1 in
    let reservations = then_passes (at_most 32 what.Reservations counts_in_reservation k.reservations) _ tt duration.1 in
    let links = then_passes (at_most 16 what.Links counts_in_link k.links) (at_most 8 what.Alternatives counts_in_alternative k.alternatives) tt reservations.1 in
    let of_params : All HasFewNodes (flat_map param_written k.params) =
    all_flat HasFewNodes param_written k.params (All-weaker (λ p. counts_in_param p ≡ pass) (λ p. All HasFewNodes (param_written p)) (λ p q. origin_few p.origin q) k.params (few 16 what.Params counts_in_param k.params params.0).1) in
    let of_reservations : All HasFewNodes (flat_map reservation_written k.reservations) =
    all_flat HasFewNodes reservation_written k.reservations (All-weaker (λ r. counts_in_reservation r ≡ pass) (λ r. All HasFewNodes (reservation_written r)) reservation_few k.reservations (few 32 what.Reservations counts_in_reservation k.reservations reservations.0).1) in
    let of_alternatives : All HasFewNodes (flat_map alternative_written k.alternatives) =
    all_flat HasFewNodes alternative_written k.alternatives (All-weaker (λ a. counts_in_alternative a ≡ pass) (λ a. All HasFewNodes (alternative_written a)) alternative_few k.alternatives (few 8 what.Alternatives counts_in_alternative k.alternatives links.1).1) in
    All-cons HasFewNodes k.duration _ (one_few k.duration duration.0)
    (All-append HasFewNodes (flat_map param_written k.params) _ of_params (All-append HasFewNodes (flat_map reservation_written k.reservations) (flat_map alternative_written k.alternatives) of_reservations of_alternatives))

-- ---- literals

same_at : (x : Expr-F Bool) → literals_at x ≡ sizes.literals_at x
unfolding is_between
same_at (Expr-F.Num n) = refl
same_at (Expr-F.Param p) = refl
same_at (Expr-F.Apply op a b) = refl

literals_same : (e : Expr) → literals_fit e ≡ fold-Expr Bool sizes.literals_at e
literals_same = induct (λ e. literals_fit e ≡ fold-Expr Bool sizes.literals_at e)
    (λ n. fold_num Bool literals_at n ∙ same_at (Expr-F.Num n) ∙ sym (fold_num Bool sizes.literals_at n))
    (λ p. fold_param Bool literals_at p ∙ same_at (Expr-F.Param p) ∙ sym (fold_param Bool sizes.literals_at p))
    (λ op a b f g. fold_apply Bool literals_at op a b ∙ ap (λ x. x && literals_fit b) f ∙ ap (λ y. fold-Expr Bool sizes.literals_at a && y) g ∙ sym (fold_apply Bool sizes.literals_at op a b))

one_small : (e : Expr) → range_in_expr e ≡ pass → HasSmallLiterals e
one_small e h = sym (literals_same e) ∙ test_passes (literals_fit e) (fault.Range what.Literal) h

single_small : (e : Expr) → range_in_expr e ≡ pass → All HasSmallLiterals (e ∷ [])
single_small e h = All-cons HasSmallLiterals e [] (one_small e h) (All-nil HasSmallLiterals)

origin_small : (o : Origin) → range_in_origin o ≡ pass → All HasSmallLiterals (origin_exprs o)
origin_small (Free default) h = All-nil HasSmallLiterals
origin_small (Dependent e) h = single_small e h

param_small : (p : Param) → range_in_param p ≡ pass → All HasSmallLiterals (param_exprs p)
param_small p h =
    let both = then_passes (unless (is_amount p.low && is_amount p.high && int_le p.low p.high && is_default p.low p.high p.origin) (fault.Range what.Param)) (range_in_origin p.origin) tt h in
    origin_small p.origin both.1

reservation_small : (r : Reservation) → range_in_reservation r ≡ pass → All HasSmallLiterals (reservation_exprs r)
reservation_small (Take line e) h = single_small e h
reservation_small (Raise line e point) h = single_small e h
reservation_small (Lower line e point) h = single_small e h
reservation_small (Put line state point) h = All-nil HasSmallLiterals
reservation_small (Must line state) h = All-nil HasSmallLiterals

slot_small : (s : Slot) → range_in_slot s ≡ pass → All HasSmallLiterals (slot_exprs s)
slot_small s h = All-map HasSmallLiterals bound_expr s.bindings (All-weaker (λ b. range_in_binding b ≡ pass) (λ b. HasSmallLiterals (bound_expr b)) (λ b p. one_small b.1 p) s.bindings (each_passes range_in_binding s.bindings h))

alternative_small : (horizon : ℤ) (a : DraftAlternative) → range_in_alternative horizon a ≡ pass → All HasSmallLiterals (draft_exprs a)
alternative_small horizon a h =
    let both = then_passes (each range_in_slot a.slots) (each (range_in_order horizon) a.orders) tt h in
    all_flat HasSmallLiterals slot_exprs a.slots (All-weaker (λ s. range_in_slot s ≡ pass) (λ s. All HasSmallLiterals (slot_exprs s)) slot_small a.slots (each_passes range_in_slot a.slots both.0))

pub exprs_small : (horizon : ℤ) (d : DraftKind) → range_in_kind horizon d ≡ pass → All HasSmallLiterals (exprs_drafted d)
exprs_small horizon d h =
    let params = then_passes (each range_in_param d.params) _ tt h in
    let duration = then_passes (range_in_duration horizon d) _ tt params.1 in
    let literals = then_passes (range_in_expr d.duration) (unless (is_possible horizon (duration_bounds d)) (fault.Range what.Duration)) tt duration.0 in
    let reservations = then_passes (each range_in_reservation d.reservations) _ tt duration.1 in
    let links = then_passes (each (range_in_link horizon) d.links) (each (range_in_alternative horizon) d.alternatives) tt reservations.1 in
    let of_params : All HasSmallLiterals (flat_map param_exprs d.params) =
    all_flat HasSmallLiterals param_exprs d.params (All-weaker (λ p. range_in_param p ≡ pass) (λ p. All HasSmallLiterals (param_exprs p)) param_small d.params (each_passes range_in_param d.params params.0)) in
    let of_reservations : All HasSmallLiterals (flat_map reservation_exprs d.reservations) =
    all_flat HasSmallLiterals reservation_exprs d.reservations (All-weaker (λ r. range_in_reservation r ≡ pass) (λ r. All HasSmallLiterals (reservation_exprs r)) reservation_small d.reservations (each_passes range_in_reservation d.reservations reservations.0)) in
    let of_alternatives : All HasSmallLiterals (flat_map draft_exprs d.alternatives) =
    all_flat HasSmallLiterals draft_exprs d.alternatives (All-weaker (λ a. range_in_alternative horizon a ≡ pass) (λ a. All HasSmallLiterals (draft_exprs a)) (alternative_small horizon) d.alternatives (each_passes (range_in_alternative horizon) d.alternatives links.1)) in
    All-cons HasSmallLiterals d.duration _ (one_small d.duration literals.0)
    (All-append HasSmallLiterals (flat_map param_exprs d.params) _ of_params (All-append HasSmallLiterals (flat_map reservation_exprs d.reservations) (flat_map draft_exprs d.alternatives) of_reservations of_alternatives))

-- ---- durations

-- the bounds of the duration meet 1 to the horizon
pub duration_possible : (horizon : ℤ) (d : DraftKind) → range_in_kind horizon d ≡ pass → is_possible horizon (duration_bounds d) ≡ true
duration_possible horizon d h =
    let params = then_passes (each range_in_param d.params) _ tt h in
    let duration = then_passes (range_in_duration horizon d) _ tt params.1 in
    let literals = then_passes (range_in_expr d.duration) (unless (is_possible horizon (duration_bounds d)) (fault.Range what.Duration)) tt duration.0 in
    test_passes (is_possible horizon (duration_bounds d)) (fault.Range what.Duration) literals.1
