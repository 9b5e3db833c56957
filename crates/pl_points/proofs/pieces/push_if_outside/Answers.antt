use Rattle.std.proofs.Common.{◌≡◌, arith, ap, sym, ◌∙◌, subst, true, ◌||◌}
use mir.Val.{to_z, of_z}
use mir.Syntax.{w64}
use Rattle.std.proofs.lemmas.Int.{to_z-of_z}
use Rattle.std.proofs.lemmas.Result.{on_ok_weaker}
use Rattle.pl_points.specs.Spans.{AreApart, covers, within}
use Rattle.pl_points.specs.Limits.{is_outside}
use Rattle.pl_points.proofs.Spanning.{apart_piece, covers_piece, apart_wider, and_true}
use Rattle.pl_points.proofs.pieces.push_if_outside.Goals as goal

pub returns-then-is_outside-clause-apart : goal.returns-then-is_outside-clause-apart
returns-then-is_outside-clause-apart c = on_ok_weaker c.extend.result (λ e. subst (λ l. AreApart 0 c.args.to l) (sym e) (apart_piece c.args.from c.args.to c.args.spans.now.items c.requires.some c.requires.apart)) c.extend.ensures

pub returns-then-is_outside-clause-covers : goal.returns-then-is_outside-clause-covers
returns-then-is_outside-clause-covers c =
    let is : to_z w64 (of_z w64 c.args.value) ≡ c.args.value = to_z-of_z w64 c.args.value c.ranges.value in
    let outside : true ≡ is_outside c.args.limit c.args.value = c.if-is_outside.ensures ∙ ap (is_outside c.args.limit) is in
    on_ok_weaker c.extend.result (λ e t. ap (λ l. covers l t) e ∙ covers_piece c.args.from c.args.to c.args.spans.now.items c.requires.some c.requires.apart t
    ∙ ap (λ b. covers c.args.spans.now.items t || b) (and_true (within c.args.from c.args.to t) (is_outside c.args.limit c.args.value) (sym outside))) c.extend.ensures

pub returns-else-is_outside-clause-apart : goal.returns-else-is_outside-clause-apart
returns-else-is_outside-clause-apart c = apart_wider 0 c.args.from c.args.to c.args.spans.now.items (omega (arith, c.requires.some)) c.requires.apart
