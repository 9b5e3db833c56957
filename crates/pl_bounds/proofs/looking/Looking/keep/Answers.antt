use Rattle.std.proofs.Common.{◌≡◌, ◌+◌, ◌<◌, ◌≤◌, List, sym, subst, ap, arith}
use Rattle.pl_model.specs.declared.whole.Model.{Model}
use Rattle.pl_bounds.specs.Looks.{AreLooksAt}
use Rattle.pl_bounds.specs.declared.outside.Look.{Look}
use Rattle.pl_bounds.proofs.Looked.{one_look_more}
use Rattle.pl_bounds.proofs.looking.Looking.keep.Goals as goal

pub returns : goal.returns
returns c =
    let s = c.args.board.now.state in
    let o = c.args.outside.now in
    let l = c.args.look in
    let looks = c.args.self.now.looks.items in
    let next = c.args.self.now.next in
    let low : next ≤ l.at = omega arith in
    let horizon : c.model.result.now.horizon ≡ s.model.horizon = ap (λ (m : Model). m.horizon) c.model.ensures in
    let high : l.at < s.model.horizon = omega arith in
    let P : List Look → Type 0 = λ xs. AreLooksAt s o.side o.line (l.at + 1) xs in
    subst P (sym c.in_ok-push.ensures.items) (one_look_more s o.side o.line next looks l c.requires.looks low high c.requires.right)
