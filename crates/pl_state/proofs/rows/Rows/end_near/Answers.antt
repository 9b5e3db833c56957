use Rattle.std.proofs.Common.{◌≡◌, ◌+◌, ◌-◌, take, drop, ap, sym, ◌∙◌, arith}
use Rattle.std.proofs.lemmas.List.{drop-drop, length-drop}
use Rattle.pl_state.proofs.rows.Rows.end_near.Goals as goal

pub overflow_add-result : goal.overflow_add-result
overflow_add-result g c = omega (arith, c.len-whole.type_inv, c.len-whole.ensures, c.in-Some.ensures.there, length-drop c.args.from c.args.self.now, c.requires.from)

pub returns-in-Some-clause-bound : goal.returns-in-Some-clause-bound
returns-in-Some-clause-bound g c = omega (arith, c.in-Some.ensures.there, length-drop c.args.from c.args.self.now, c.requires.from)

pub returns-in-Some-clause-front : goal.returns-in-Some-clause-front
returns-in-Some-clause-front g c =
    let n = c.in-Some.few in
    let same : (c.args.from + n) - c.args.from ≡ n = omega arith in
    ap (λ k. take k (drop c.args.from c.args.self.now)) same ∙ c.in-Some.ensures.front

pub returns-in-Some-clause-rest : goal.returns-in-Some-clause-rest
returns-in-Some-clause-rest g c = sym (drop-drop c.in-Some.few c.args.from c.args.self.now) ∙ c.in-Some.ensures.rest
