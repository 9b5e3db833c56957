use Rattle.std.proofs.Common.{◌≡◌, ◌∙◌, sym, ap, refl, subst, arith, rules, true, ℕ, eqb, leb, List, ◌∷◌, []}
use Rattle.std.specs.Prelude.{◌&&◌, filter, Contains}
use Rattle.std.proofs.lemmas.Bool.{and_parts, and_from, eqb-true, eq-eqb, leb-true, le-leb, false_from_ne_true}
use Rattle.pl_links.specs.declared.keys.Key.{Key}
use Rattle.pl_links.specs.Keys.{has_key, lies}
use Rattle.pl_links.proofs.Anys.{filtered_head, none_filtered}
use Rattle.pl_links.proofs.Keyed.{key, contained, has_contained, lies_at, at_lies}
use Rattle.pl_links.proofs.index.Index.first.Goals as goal

pub returns-in-Some-clause-some : goal.returns-in-Some-clause-some
returns-in-Some-clause-some c =
    let k = c.in-Some.key.now in
    let head : filter (lies c.args.group c.args.number c.args.number) c.args.self.now ≡ k ∷ c.next.new.self = sym c.within.ensures.between ∙ c.in-Some.ensures.steps in
    let found = filtered_head (lies c.args.group c.args.number c.args.number) c.args.self.now k c.next.new.self head in
    rw (lies_at c.args.group c.args.number k found.1) (has_contained k c.args.self.now found.0)

pub returns-in-None-clause-none : goal.returns-in-None-clause-none
returns-in-None-clause-none c = λ id.
    let none : filter (lies c.args.group c.args.number c.args.number) c.args.self.now ≡ [] = sym c.within.ensures.between ∙ c.in-None.ensures.steps.0 in
    let k = key c.args.group c.args.number id in
    false_from_ne_true (has_key k c.args.self.now) (λ has. none_filtered (lies c.args.group c.args.number c.args.number) c.args.self.now k none (contained k c.args.self.now has) (at_lies c.args.group c.args.number id))
