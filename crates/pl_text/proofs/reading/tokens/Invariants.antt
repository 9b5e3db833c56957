use Rattle.std.proofs.Common.{◌≡◌, ◌+◌, length}
use Rattle.pl_lists.specs.Judgements.{behind}
use Rattle.pl_text.specs.Tokens.{tokens_at}
use Rattle.pl_text.proofs.reading.tokens.Given as goal

-- what was found and what is left are the tokens of the text
abbrev pub invariant-lexemes : goal.invariant-lexemes
invariant-lexemes l =
    (behind l.scanner.found.items (tokens_at 0 l.scanner.at l.scanner.rest.now) ≡ tokens_at 0 0 l.text)
    × (l.scanner.at + length l.scanner.rest.now ≡ length l.text)

abbrev pub decreases-lexemes : goal.decreases-lexemes
decreases-lexemes l = length l.scanner.rest.now
