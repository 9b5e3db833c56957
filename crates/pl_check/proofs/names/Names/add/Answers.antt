use Rattle.std.proofs.Common.{not, bytes_eq, ap, ◌∙◌, map}
use Rattle.pl_check.specs.Names.{is_among}
use Rattle.pl_check.proofs.NameLemmas.{any_map}
use Rattle.pl_check.proofs.names.Names.add.Goals as goal

pub returns-clause-new : goal.returns-clause-new
returns-clause-new c =
    c.in_ok-new.ensures.added
    ∙ ap not (any_map (λ v. v.items) (bytes_eq c.in_ok-from_slice.field-0.items) c.self.inside.set.keys)
    ∙ ap (λ name. not (is_among (map (λ v. v.items) c.self.inside.set.keys) name)) c.in_ok-from_slice.ensures.items
    ∙ ap (λ names. not (is_among names c.args.name.now)) c.self.view_is
