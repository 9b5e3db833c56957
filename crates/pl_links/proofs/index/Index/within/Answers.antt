use Rattle.std.proofs.Common.{◌≡◌, ◌∙◌, refl, arith, rules, filter}
use Rattle.pl_links.specs.Keys.{key_cmp, lies}
use Rattle.std.specs.BTreeMap.Range.{range_contains}
use Rattle.std.specs.declared.ops.Bound.TheVariants.{Included}
use Rattle.pl_links.proofs.Keyed.{key, group_keys}
use Rattle.pl_links.proofs.index.Index.within.Goals as goal

pub returns-clause-between : goal.returns-clause-between
returns-clause-between c =
    let g = c.args.group in
    let is : c.range.result ≡ filter (range_contains key_cmp (Included (key g c.args.from 0)) (Included (key g c.args.to 4294967295))) c.self.inside.keys.keys = search rules in
    rw (← c.self.view_is) (is ∙ group_keys g c.args.from c.args.to 4294967295 c.self.inside.keys.keys refl c.self.invariant)
