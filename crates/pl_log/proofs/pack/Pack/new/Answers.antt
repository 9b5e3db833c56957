use Rattle.std.proofs.Common.{◌≡◌, ◌∙◌}
use Rattle.pl_log.proofs.Entries.{have_more, have_all}
use Rattle.pl_log.proofs.pack.Pack.new.Goals as goal

pub loop-entry-preserved : goal.loop-entry-preserved
loop-entry-preserved c =
    have_more c.loop-entry.parts c.put.new.self c.args.entries.now c.loop-entry.entry-index c.entry-item.result c.loop-entry-test.true c.entry-item.is c.in_ok-put.ensures c.loop-entry.invariant

pub returns : goal.returns
returns c =
    let parts = c.loop-entry.parts in
    let forms : c.in_ok-from_slice.field-0.items ≡ parts.forms.items = c.in_ok-from_slice.ensures.items ∙ c.deref.ensures.value in
    let numbers : c.in_ok-pack.field-0 ≡ parts.numbers.items = c.in_ok-pack.ensures ∙ c.deref-2.ensures.value in
    let bytes : c.in_ok-from_slice-2.field-0.items ≡ parts.bytes.items = c.in_ok-from_slice-2.ensures.items ∙ c.deref-3.ensures.value in
    let values : c.in_ok-from_slice-3.field-0.items ≡ parts.values.items = c.in_ok-from_slice-3.ensures.items ∙ c.deref-4.ensures.value in
    rw (forms, numbers, bytes, values) (have_all parts c.args.entries.now c.loop-entry.entry-index c.loop-entry-test.false c.loop-entry.invariant)
