-- What left a list of spans, and what came into it.
use Rattle.std.specs.Prelude.{◌≡◌, Bool, ◌&&◌, ◌==◌, List}
use Rattle.pl_lists.specs.Lists.{left_out}
use Rattle.pl_points.specs.declared.span.Span.{Span}
use Rattle.pl_points.specs.declared.span.Change.{Change}

abbrev pub same_span : Span → Span → Bool
same_span s t = (s.from == t.from) && (s.to == t.to)

-- from one list to another: what left, and what came
pub record IsChange (old new : List Span) (change : Change) : Type 0 where
  pub went : change.went ≡ left_out same_span new old
  pub came : change.came ≡ left_out same_span old new
