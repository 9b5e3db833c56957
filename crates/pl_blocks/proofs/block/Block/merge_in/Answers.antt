use Rattle.std.proofs.Common.{rules, ◌≡◌, true, ap, sym, ◌∙◌, subst, take}
use mir.Val.{to_z, of_z}
use mir.Syntax.{w64}
use Rattle.pl_blocks.specs.Blocks.{is_past, AreSums}
use Rattle.pl_blocks.proofs.Beginnings.{kept_sums}
use Rattle.pl_blocks.proofs.block.Block.merge_in.Goals as goal

pub kept_or_first-kept-requires-clause-sums : goal.kept_or_first-kept-requires-clause-sums
kept_or_first-kept-requires-clause-sums g c = λ keeps.
    let ps = c.self.inside.points.items in
    let at = c.args.at in
    let d = to_z w64 (of_z w64 c.args.delta) in
    let early = c.self.inside.early in
    let past : is_past at (take early.count ps) ≡ true = ap (λ l. is_past at (take early.count l)) (sym c.deref.ensures.value) ∙ sym c.lie_before-keeps.ensures ∙ keeps in
    subst (λ l. AreSums l early.count early.sum early.least early.greatest) (sym (c.deref-2.ensures.value ∙ c.in_ok-merge.ensures.ok)) (kept_sums ps early.count at d early.sum early.least early.greatest c.self.invariant.early past)

pub invariant_of-self-2 : goal.invariant_of-self-2
invariant_of-self-2 g c = record {
  some = search rules;
  few = search rules;
  rising = search rules;
  near = search rules;
  final = search rules;
  adds_up = search rules;
  lowest = search rules;
  highest = search rules;
  early = subst (λ l. AreSums l c.sums_up_to-early.result.count c.sums_up_to-early.result.sum c.sums_up_to-early.result.least c.sums_up_to-early.result.greatest) c.deref-3.ensures.value c.sums_up_to-early.ensures.sums;
}
