use Rattle.std.proofs.Common.{◌≡◌, ◌+◌, ◌-◌, drop, ap, sym, ◌∙◌, arith}
use Rattle.std.proofs.lemmas.List.{drop-drop}
use Rattle.pl_state.specs.Rows.{is_covered}
use Rattle.pl_state.proofs.InRows.{parted_covered, cut_from}
use Rattle.pl_state.proofs.rows.Rows.end_from.Goals as goal

pub returns-clause-front : goal.returns-clause-front
returns-clause-front g c =
    let key = g.T.Keyed.key in
    let p = is_covered key c.args.bound in
    let xs = c.args.self.now in
    let from = c.args.from in
    let n = c.count.result in
    let same : n - from ≡ c.max.result - from = omega (arith, c.max.ensures) in
    (cut_from p from n (c.max.result - from) xs (parted_covered key c.args.bound xs c.requires.sorted) (record { bound = c.count.ensures.bound; front = c.count.ensures.front; rest = c.count.ensures.rest }) same).front

pub returns-clause-rest : goal.returns-clause-rest
returns-clause-rest g c =
    let key = g.T.Keyed.key in
    let p = is_covered key c.args.bound in
    let xs = c.args.self.now in
    let from = c.args.from in
    let n = c.count.result in
    let same : n - from ≡ c.max.result - from = omega (arith, c.max.ensures) in
    let end : c.max.result ≡ from + (c.max.result - from) = omega (arith, c.max.ensures) in
    ap (λ i. drop i xs) end ∙ (sym (drop-drop (c.max.result - from) from xs) ∙ (cut_from p from n (c.max.result - from) xs (parted_covered key c.args.bound xs c.requires.sorted) (record { bound = c.count.ensures.bound; front = c.count.ensures.front; rest = c.count.ensures.rest }) same).rest)
