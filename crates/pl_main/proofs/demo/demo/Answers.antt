use Rattle.std.proofs.Common.{Some, Err, ap, ◌∙◌}
use Rattle.pl_io.specs.declared.errors.LineFault.{LineFault}
use Rattle.pl_main.proofs.Showing.{begun_keeps, begun_shows, has_begin, head_shows, never_rose}
use Rattle.pl_main.proofs.demo.demo.Goals as goal

pub returns-in-Err-clause-shows : goal.returns-in-Err-clause-shows
returns-in-Err-clause-shows g c =
    head_shows _ _ _ _ (Some c.read_head.new.src) _ c.in-Err.fault _ c.requires.1 (c.in_ok-src.ensures ∙ c.as_slice.ensures.value ∙ c.in_ok-text.ensures) c.in_ok-lines.ensures (rw c.in-Err.fault-is at c.in-Err.ensures.head) c.halt_of.ensures (λ is. never_rose ((rw c.in-Err.fault-is at c.in-Err.ensures.cause) (ap (λ (f : LineFault). Err f) is)))

pub unreachable-requires : goal.unreachable-requires
unreachable-requires g c =
    has_begin _ _ _ _ (Some c.read_head.new.src) c.requires.1 (c.in_ok-src.ensures ∙ c.as_slice.ensures.value ∙ c.in_ok-text.ensures) c.in_ok-lines.ensures (rw c.in-Ok-NoBegin.field-0-is at c.in-Ok-NoBegin.ensures.head)

pub show_text-requires-clause-keeps : goal.show_text-requires-clause-keeps
show_text-requires-clause-keeps g c =
    begun_keeps _ _ _ _ _ (Some c.read_head.new.src) c.requires.1 (c.in_ok-src.ensures ∙ c.as_slice.ensures.value ∙ c.in_ok-text.ensures) c.in_ok-lines.ensures (rw c.in-Ok-Text.field-0-is at c.in-Ok-Text.ensures.head)

pub returns-clause-shows : goal.returns-clause-shows
returns-clause-shows g c =
    begun_shows _ _ _ _ c.read_head.new.lines c.show_text.new.lines (Some c.read_head.new.src) (Some c.show_text.new.src) _ _ _ c.requires.1 (c.in_ok-src.ensures ∙ c.as_slice.ensures.value ∙ c.in_ok-text.ensures) c.in_ok-lines.ensures (rw c.in-Ok-Text.field-0-is at c.in-Ok-Text.ensures.head) c.show_text.ensures.shows
