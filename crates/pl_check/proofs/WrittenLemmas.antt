-- What the grammar gives the tree stays in the model.
use Rattle.std.proofs.Common.{◌≡◌, ℕ, ◌<◌, ◌≤◌, ℤ, List, [], Ok, All, length, sym, ap, subst, ◌∙◌, arith}
use Rattle.pl_syntax.specs.declared.whole.Item.{Item}
use Rattle.pl_syntax.specs.declared.timelines.AstTimeline.{AstTimeline}
use Rattle.pl_syntax.specs.declared.timelines.AstTimeline.TheVariants as line
use Rattle.pl_syntax.specs.declared.kinds.AstKind.{AstKind}
use Rattle.pl_syntax.specs.declared.parameters.AstParam.{AstParam}
use Rattle.pl_syntax.specs.declared.alternatives.AstSlot.{AstSlot}
use Rattle.pl_syntax.specs.declared.alternatives.AstAlternative.{AstAlternative}
use Rattle.pl_syntax.specs.declared.expressions.AstExpr.{AstExpr}
use Rattle.pl_model.specs.declared.expressions.Expr.{Expr}
use Rattle.pl_model.specs.declared.parameters.Param.{Param}
use Rattle.pl_model.specs.declared.alternatives.Slot.{Slot}
use Rattle.pl_model.specs.declared.alternatives.Alternative.{Alternative}
use Rattle.pl_model.specs.declared.kinds.Kind.{Kind}
use Rattle.pl_model.specs.declared.timelines.Timeline.{Timeline}
use Rattle.pl_model.specs.Names.{IsName}
use Rattle.pl_model.specs.Expressions.{exprs_of}
use Rattle.pl_model.specs.Written.{IsWrittenLine, IsShallow, IsNamedParam, IsNamedSlot, IsWrittenAlternative, IsWrittenKind}
use Rattle.pl_check.specs.declared.drafts.DraftAlternative.{DraftAlternative}
use Rattle.pl_check.specs.declared.drafts.DraftKind.{DraftKind}
use Rattle.pl_check.specs.Judgements.{Judged, each_made}
use Rattle.pl_check.specs.Numbering.{numbered, numbered_line, numbered_step, numbered_param, numbered_slot, numbered_order, numbered_alternative, state_number}
use Rattle.pl_lists.specs.Lists.{Pairwise}
use Rattle.pl_check.specs.Networks.{FinishesAlternative, FinishesKind, span_of}
use Rattle.pl_lists.proofs.Judging.{bind_ok}
use Rattle.pl_lists.proofs.Listing.{pairwise_length}
use Rattle.pl_check.proofs.PairLemmas.{ok_same, pair_all, each_pairs, Makes}
use Rattle.pl_check.proofs.NumberLemmas.{params_made}
use Rattle.pl_check.proofs.DifferLemmas.{param_named_so, slot_named_so}
use Rattle.pl_check.proofs.DraftLemmas.{Numbers}
use Rattle.pl_check.proofs.ExprListLemmas.{exprs_written, exprs_drafted, exprs_made, exprs_kept}
use Rattle.pl_check.proofs.MeasureLemmas.{levels_kept}
use Rattle.pl_check.proofs.TextLemmas.{IsNamedLine, IsNamed, IsTextKind, HasNamedSlots, IsFlat}
use Rattle.pl_check.proofs.TextLemmas as text

none_made : {X Y : Type 0} (make : X → Judged Y) (xs : List X) (ys : List Y) → each_made make xs ≡ Ok ys → xs ≡ [] → ys ≡ []
none_made make xs ys h e = sym (ok_same [] ys (subst (λ l. each_made make l ≡ Ok ys) e h))

pub line_written : (a : AstTimeline) (t : Timeline) → numbered_line a ≡ Ok t → IsNamedLine a → IsWrittenLine t
line_written (line.Capacity name most) t h n = subst IsWrittenLine (ok_same _ t h) n
line_written (line.Level name least most start) t h n = subst IsWrittenLine (ok_same _ t h) n
line_written (line.States name states start any steps) t h n =
    let first = bind_ok (state_number states start) _ t h in
    let moves = bind_ok (each_made (numbered_step states) steps) _ t first.2 in
    subst IsWrittenLine (ok_same _ t moves.2) (n.0, n.1, n.2, λ e. none_made (numbered_step states) steps moves.0 moves.1 (n.3 e))

alternative_written : (items : List Item) (params : List AstParam) (a : AstAlternative) (d : DraftAlternative) → numbered_alternative items params a ≡ Ok d → HasNamedSlots a → (0 < length d.slots) × All IsNamedSlot d.slots
alternative_written items params a d h n =
    let slots = bind_ok (each_made (numbered_slot items params) a.slots) _ d h in
    let orders = bind_ok (each_made (numbered_order a.slots) a.orders) _ d slots.2 in
    let pairs = each_pairs (numbered_slot items params) a.slots slots.0 slots.1 in
    let many : length slots.0 ≡ length a.slots = pairwise_length (Makes (numbered_slot items params)) a.slots slots.0 pairs in
    let named : All IsNamedSlot slots.0 = pair_all (Makes (numbered_slot items params)) text.IsNamedSlot IsNamedSlot (λ x y is k. subst IsName (slot_named_so items params x y k) is) a.slots slots.0 n.1 pairs in
    subst (λ (x : DraftAlternative). (0 < length x.slots) × All IsNamedSlot x.slots) (ok_same _ d orders.2) (omega (arith, many, n.0), named)

pub kind_written : (items : List Item) (horizon : ℤ) (spans : List (ℤ × ℤ)) (k : AstKind) (d : DraftKind) (m : Kind) → Numbers items k d → FinishesKind horizon spans d m → IsTextKind k → IsWrittenKind m
kind_written items horizon spans k d m numbers f t =
    let param_pairs = params_made k.params d.params numbers.params in
    let params : All IsNamedParam d.params = pair_all (Makes (numbered_param k.params)) IsNamed IsNamedParam (λ x y is n. subst IsName (param_named_so k.params x y n) is) k.params d.params t.params param_pairs in
    let expr_pairs = exprs_made items k d numbers.duration param_pairs numbers.reservations numbers.alternatives in
    let shallow : All IsShallow (exprs_drafted d) = pair_all (Makes (numbered k.params)) IsFlat IsShallow (λ e x is n. omega (arith, is, levels_kept k.params e x n)) (exprs_written k) (exprs_drafted d) t.exprs expr_pairs in
    let drafts : All (λ x. (0 < length x.slots) × All IsNamedSlot x.slots) d.alternatives = pair_all (Makes (numbered_alternative items k.params)) HasNamedSlots (λ (x : DraftAlternative). (0 < length x.slots) × All IsNamedSlot x.slots) (λ a x is n. alternative_written items k.params a x n is) k.alternatives d.alternatives t.alternatives numbers.alternatives in
    record {
      name = subst IsName (numbers.name ∙ sym f.name) t.name;
      params = subst (All IsNamedParam) (sym f.params) params;
      expressions = subst (All IsShallow) (exprs_kept horizon spans d m f) shallow;
      alternatives = pair_all (FinishesAlternative spans (span_of horizon d)) (λ (x : DraftAlternative). (0 < length x.slots) × All IsNamedSlot x.slots) IsWrittenAlternative
          (λ x a is g. record { some_slot = subst (λ ss. 0 < length ss) (sym g.slots) is.0; slots = subst (All IsNamedSlot) (sym g.slots) is.1 }) d.alternatives m.alternatives drafts f.alternatives;
    }
