use Rattle.std.proofs.Common.{◌≡◌, ◌∙◌, filter, rules}
use Rattle.std.specs.BTreeMap.Range.{range_contains}
use Rattle.std.specs.declared.ops.Bound.TheVariants.{Included, Excluded}
use Rattle.pl_links.specs.Sets.{broken_cmp, first_of}
use Rattle.pl_links.proofs.OfOne.{all_between}
use Rattle.pl_links.proofs.links.Links.between.Goals as goal

pub returns-clause-between : goal.returns-clause-between
returns-clause-between c =
    let is : c.range.result ≡ filter (range_contains broken_cmp (Included (first_of c.args.id)) (Excluded (first_of c.args.next))) c.self.inside.broken.keys = search rules in
    rw (← c.self.view_is) (is ∙ all_between c.args.id c.args.next c.self.inside.broken.keys c.requires)
