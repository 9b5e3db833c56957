use Rattle.std.proofs.Common.{◌≡◌, ◌∙◌, sym, inl, inr, rules}
use Rattle.pl_bounds.proofs.bounds_with_states.is_alike.Goals as goal

pub returns-then-eq : goal.returns-then-eq
returns-then-eq c = λ _.
    let same : c.args.mv.now ≡ c.args.first.now = search rules in
    inl same

pub returns : goal.returns
returns c = λ goes. inr (sym c.goes_on.ensures ∙ goes)
