use Rattle.std.proofs.Common.{◌≡◌, ◌+◌, ◌<◌, ◌≤◌, List, sym, ◌∙◌, subst, ap, arith}
use Rattle.std.proofs.lemmas.Int.{ints}
use mir.Val.{to_z, of_z}
use mir.Syntax.{w64}
use Rattle.pl_model.specs.declared.whole.Model.{Model}
use Rattle.pl_bounds.specs.Looks.{AreLooksAt}
use Rattle.pl_bounds.specs.declared.outside.Look.{Look}
use Rattle.pl_bounds.proofs.Looked.{one_look_more}
use Rattle.pl_bounds.proofs.looking.Looking.look.Goals as goal

pub returns : goal.returns
returns c =
    let s = c.args.board.now.state in
    let value = to_z w64 (of_z w64 c.value_at-value.result) in
    let whole : value ≡ c.value_at-value.result = omega (arith, ints) in
    let l : Look = record { at = c.args.at; value = value } in
    let looks = c.args.self.now.looks.items in
    let next = c.args.self.now.next in
    let low : next ≤ c.args.at = omega arith in
    let horizon : c.model.result.now.horizon ≡ s.model.horizon = ap (λ (m : Model). m.horizon) c.model.ensures in
    let high : c.args.at < s.model.horizon = omega arith in
    let P : List Look → Type 0 = λ xs. AreLooksAt s c.args.side c.args.line (c.args.at + 1) xs in
    subst P (sym c.in_ok-push.ensures.items) (one_look_more s c.args.side c.args.line next looks l c.requires.looks low high (whole ∙ c.value_at-value.ensures))
