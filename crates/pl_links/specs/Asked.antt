-- Which points of activities the temporal links of a model ask for.
use Rattle.std.specs.Prelude.{ℕ, zero, suc, ◌+◌, ◌==◌, ◌&&◌, ◌||◌, Bool, true, false, List, [], ◌∷◌, ◌++◌, Option, Some, None, slice_get}
use Rattle.std.specs.List.{list_any}
use Rattle.pl_model.specs.declared.reservations.Point.{Point}
use Rattle.pl_model.specs.declared.reservations.Point.TheVariants.{Start, End}
use Rattle.pl_model.specs.declared.links.Link.{Link}
use Rattle.pl_model.specs.declared.kinds.Kind.{Kind}
use Rattle.pl_links.specs.declared.asked.AskedPoints.{AskedPoints}

-- ---- what a model asks for

abbrev pub same_point : Point → Point → Bool
same_point Start Start = true
same_point Start End = false
same_point End Start = false
same_point End End = true

-- a link of a kind's activities has its own point, or that of the partner, there
abbrev pub asks : Point → ℕ → ℕ → Link → Bool
asks point kind own link =
    ((own == kind) && same_point link.mine point) || ((link.kind == kind) && same_point link.theirs point)

-- some link of these kinds does, of which the first has this number
abbrev pub asked_from : Point → ℕ → ℕ → List Kind → Bool
asked_from point kind own [] = false
asked_from point kind own (x ∷ kinds) =
    list_any (asks point kind own) x.links || asked_from point kind (own + 1) kinds

-- for each kind below this one, whether some link asks for its point
abbrev pub asked_below : Point → List Kind → ℕ → List Bool
asked_below point kinds zero = []
asked_below point kinds (suc n) = asked_below point kinds n ++ (asked_from point n 0 kinds ∷ [])

-- ---- what is marked as asked for

abbrev pub is_marked : Option Bool → Bool
is_marked None = false
is_marked (Some mark) = mark

abbrev pub marks_at : Point → AskedPoints → List Bool
marks_at Start asked = asked.starts
marks_at End asked = asked.ends

-- the point of this kind is marked
abbrev pub is_asked : AskedPoints → Point → ℕ → Bool
is_asked asked point kind = is_marked (slice_get (marks_at point asked) kind)
