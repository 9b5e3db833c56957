use Rattle.std.proofs.Common.{◌≡◌, [], ◌∷◌, ◌++◌, List, ℕ, length, sym, ap, ◌∙◌, subst, refl}
use Rattle.std.specs.Prelude.{Some}
use Rattle.std.specs.BTreeMap.{Updates}
use Rattle.pl_facts.specs.declared.goal.Goal.{Goal}
use Rattle.pl_facts.specs.Places.{AreIndexed, down}
use Rattle.pl_facts.proofs.Numbered.{indexed_push}
use Rattle.pl_facts.proofs.goals.Goals.push.Goals as goal

pub invariant_of-self-2 : goal.invariant_of-self-2
invariant_of-self-2 c =
    let items : c.push.new.self.items ≡ c.self.inside.goals.items ++ c.args.goal ∷ [] = rw (c.push.ensures.items, c.unwrap.ensures, c.in_ok-reserve.ensures.items) refl in
    let count : c.len.result ≡ length c.self.inside.goals.items = c.len.ensures ∙ c.reserve.new.self.ok.0 ∙ ap length c.in_ok-reserve.ensures.items in
    let updates : Updates down c.self.inside.places c.insert.new.self (record { 0 = c.args.goal.number }) (Some (length c.self.inside.goals.items)) = subst (λ (n : ℕ). Updates down c.self.inside.places c.insert.new.self (record { 0 = c.args.goal.number }) (Some n)) count c.in_ok-insert.ensures.updates in
    subst (λ (goals : List Goal). AreIndexed c.insert.new.self goals) (sym items) (indexed_push c.self.inside.places c.insert.new.self c.self.inside.goals.items c.args.goal c.self.invariant (rw c.self.view_is c.requires) updates)
