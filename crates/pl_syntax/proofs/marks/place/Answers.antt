use Rattle.std.proofs.Common.{◌<◌, length, ap, sym, ◌∙◌}
use Rattle.pl_text.specs.declared.token.Token.{Token}
use Rattle.std.proofs.lemmas.Bool.{ltb-true, ltb-false}
use Rattle.pl_syntax.proofs.Answered.{place_get, place_end}
use Rattle.pl_syntax.proofs.marks.place.Goals as goal

pub returns-in-Some : goal.returns-in-Some
returns-in-Some c =
    let below : c.args.index < length c.args.tokens.now = ltb-true c.args.index (length c.args.tokens.now) (sym c.in-Some.ensures.lookup.0) in
    ap (λ (t : Token). t.from) c.in-Some.ensures.lookup.1 ∙ sym (place_get c.args.tokens.now c.args.index c.args.end c.in-Some.token.now below)

pub returns-in-None : goal.returns-in-None
returns-in-None c = sym (place_end c.args.tokens.now c.args.index c.args.end (ltb-false c.args.index (length c.args.tokens.now) (sym c.in-None.ensures.lookup.0)))
