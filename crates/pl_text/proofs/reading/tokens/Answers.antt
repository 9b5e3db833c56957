use Rattle.std.proofs.Common.{length, sym, ◌∙◌}
use Rattle.std.proofs.lemmas.Bool.{eqb-true}
use Rattle.pl_text.proofs.Scanning.{ends}
use Rattle.pl_text.proofs.reading.tokens.Goals as goal

pub returns : goal.returns
returns c =
    sym c.lexemes.invariant.0 ∙ ends c.lexemes.scanner.found.items c.lexemes.scanner.at c.lexemes.scanner.rest.now (eqb-true (length c.lexemes.scanner.rest.now) 0 (sym c.lexemes-test.ensures))
