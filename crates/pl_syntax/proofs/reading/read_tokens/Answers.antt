use Rattle.std.proofs.Common.{◌≡◌, sym, ◌∙◌, subst, List, ap}
use Rattle.pl_syntax.specs.declared.token.Token.{Token}
use Rattle.pl_syntax.specs.Gives.{Fails}
use Rattle.pl_syntax.specs.Reading.{read_all}
use Rattle.pl_syntax.specs.Marks.{marks_of}
use Rattle.pl_syntax.proofs.Answered.{answer_ok, answer_err}
use Rattle.pl_syntax.proofs.reading.read_tokens.Goals as goal

pub returns-in-Ok-all : goal.returns-in-Ok-all
returns-in-Ok-all c =
    let marks : c.new-reader.result.rest.now ≡ marks_of c.args.text.now c.args.tokens.now = c.new-reader.ensures ∙ c.as_slice.ensures.value ∙ c.in-Ok.ensures in
    λ lexed. answer_ok c.args.text.now c.args.tokens.now c.in-Ok-all.ast (ap (λ (x : List Token). read_all 32 32 x) (sym marks) ∙ c.in-Ok-all.ensures) lexed

pub returns : goal.returns
returns c =
    let marks : c.new-reader.result.rest.now ≡ marks_of c.args.text.now c.args.tokens.now = c.new-reader.ensures ∙ c.as_slice.ensures.value ∙ c.in-Ok.ensures in
    let P : List Token → Type 0 = λ x. Fails c.in-Err-all.stopped (read_all 32 32 x) in
    λ lexed. rw c.placed.ensures (answer_err c.args.text.now c.args.tokens.now c.in-Err-all.stopped (subst P marks c.in-Err-all.ensures) lexed)
