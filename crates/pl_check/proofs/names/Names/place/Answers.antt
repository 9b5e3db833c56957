use Rattle.std.proofs.Common.{bytes_eq, ap, ◌∙◌}
use Rattle.pl_check.specs.Names.{place_of}
use Rattle.pl_check.proofs.NameLemmas.{position_from_map}
use Rattle.std.proofs.lemmas.Iterator.Adapters.{position_from-zero}
use Rattle.pl_check.proofs.names.Names.place.Goals as goal

pub returns : goal.returns
returns c =
    c.get_index_of.ensures.index
    ∙ position_from-zero (λ v. bytes_eq c.args.name.now v.items) c.self.inside.set.keys
    ∙ position_from_map (λ v. v.items) (bytes_eq c.args.name.now) 0 c.self.inside.set.keys
    ∙ ap (λ names. place_of names c.args.name.now) c.self.view_is
