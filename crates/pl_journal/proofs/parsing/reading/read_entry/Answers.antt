use Rattle.std.proofs.Common.{◌≡◌}
use Rattle.std.proofs.lemmas.Result.{err_from_is_err_and}
use Rattle.pl_journal.proofs.AboutParsing.Reread.{unread}
use Rattle.pl_journal.proofs.parsing.reading.read_entry.Goals as goal

-- src/reading.rt:80:27
pub returns-in_err-number-clause-reads : goal.returns-in_err-number-clause-reads
returns-in_err-number-clause-reads c n e is =
    let told = unread c.args.model.now c.args.line.now c.in_err-number.field-0.0 c.requires c.in_err-number.ensures n e is in
    let failed = err_from_is_err_and c.from_residual.result c.from_residual.ensures.1 in
    let same : failed.0 ≡ c.in_err-number.field-0.0 = failed.2 in
    rw (failed.1, same) told
