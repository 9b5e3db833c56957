use Rattle.std.proofs.Common.{◌≡◌, Ok, ap, sym, ◌∙◌}
use Rattle.pl_text.specs.Tokens.{tokens_of}
use Rattle.pl_syntax.proofs.Answered.{found_short}
use Rattle.pl_syntax.proofs.TextMarks.{all_marked}
use Rattle.pl_syntax.proofs.reading.read_model.Goals as goal

pub read_tokens-requires-clause-marked : goal.read_tokens-requires-clause-marked
read_tokens-requires-clause-marked c = rw c.as_slice.ensures.value (all_marked c.args.text.now c.in-Ok.tokens.items c.in-Ok.ensures)

pub returns-in-Ok-clause-found : goal.returns-in-Ok-clause-found
returns-in-Ok-clause-found c =
    let lexed : tokens_of c.args.text.now ≡ Ok c.as_slice.result.now = c.in-Ok.ensures ∙ ap Ok (sym c.as_slice.ensures.value) in
    λ ast le h. found_short c.args.text.now c.read_tokens.result (c.read_tokens.ensures lexed) ast h
