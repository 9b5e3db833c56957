use Rattle.std.proofs.Common.{◌∙◌}
use Rattle.pl_journal.proofs.AboutParsing.Reread.{text_told}
use Rattle.pl_journal.proofs.parsing.reading.has_line.Goals as goal

-- src/reading.rt:36:1
pub returns : goal.returns
returns c =
    let whole = c.in_ok-text.text in
    rw c.is.ensures
    (text_told c.args.model.now c.args.number c.args.entry.now whole.items c.as_slice.result.now c.args.line.now whole.len c.in_ok-text.ensures.line whole.ok.0 (c.as_slice.ensures.value ∙ c.pop-newline.ensures.rest))
