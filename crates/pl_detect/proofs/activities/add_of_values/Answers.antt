use Rattle.std.proofs.Common.{◌∙◌, sym}
use Rattle.pl_detect.proofs.FirmOnes.{nothing_of_firm}
use Rattle.pl_detect.proofs.Named.{named_above, row_counted}
use Rattle.pl_detect.proofs.activities.add_of_values.Goals as goal

pub returns-then-is_some : goal.returns-then-is_some
returns-then-is_some c =
    nothing_of_firm c.args.s.now c.args.a.now c.requires.whole c.requires.live c.args.kind.now c.requires.kind
    c.args.own.now.end c.requires.end (sym c.is_some.ensures ∙ c.if-is_some.true) c.args.out.now.items

pub add_unset-requires-clause-len : goal.add_unset-requires-clause-len
add_unset-requires-clause-len c = row_counted c.args.s.now c.requires.whole c.args.a.now c.requires.live c.args.kind.now c.requires.kind c.as_slice-values.result.now (c.as_slice-values.ensures ∙ c.requires.values)

pub add_bad_values-requires-clause-len : goal.add_bad_values-requires-clause-len
add_bad_values-requires-clause-len c = row_counted c.args.s.now c.requires.whole c.args.a.now c.requires.live c.args.kind.now c.requires.kind c.as_slice-values.result.now (c.as_slice-values.ensures ∙ c.requires.values)

pub add_bad_values-requires-clause-named : goal.add_bad_values-requires-clause-named
add_bad_values-requires-clause-named c = rw c.requires.above (named_above c.args.s.now c.requires.whole c.args.a.now c.requires.live)
