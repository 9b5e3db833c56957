use Rattle.std.proofs.Common.{rules, ◌≡◌, true, Some, Ok, subst}
use Rattle.pl_input.specs.Words.{is_blank_line}
use Rattle.pl_input.specs.Places.{place_of}
use Rattle.pl_pair.specs.Asking.{FirstLine}
use Rattle.pl_pair.proofs.Messages.{asks_behind}
use Rattle.pl_pair.proofs.asking.take_message.Goals as goal

-- src/asking.rt:39:9
pub returns-then-is_blank_line-clause-asks : goal.returns-then-is_blank_line-clause-asks
returns-then-is_blank_line-clause-asks g c =
    let is : c.first_line.result ≡ Ok (Some c.in-Some.line) = search rules in
    let blank : is_blank_line c.in-Some.line.bytes ≡ true = search rules in
    asks_behind (place_of c.args.lines.now (g.S.Source.left c.args.src.now)) (place_of c.first_line.new.lines (g.S.Source.left c.first_line.new.src)) (place_of c.next_message.new.lines (g.S.Source.left c.next_message.new.src))
    c.in-Some.line c.next_message.result (subst (λ r. FirstLine (place_of c.args.lines.now (g.S.Source.left c.args.src.now)) r (place_of c.first_line.new.lines (g.S.Source.left c.first_line.new.src))) is c.first_line.ensures.line) blank c.next_message.ensures.message
