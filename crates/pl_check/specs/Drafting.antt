-- The timelines and the kinds among the drafts, each in the order of the text.
use Rattle.std.specs.Prelude.{List, Option, Some, None}
use Rattle.std.specs.List.{filter_map}
use Rattle.pl_model.specs.declared.timelines.Timeline.{Timeline}
use Rattle.pl_check.specs.declared.drafts.DraftKind.{DraftKind}
use Rattle.pl_check.specs.declared.drafts.Draft.{Draft}
use Rattle.pl_check.specs.declared.drafts.Draft.TheVariants as draft

abbrev pub as_line : Draft → Option Timeline
as_line (draft.Timeline l) = Some l
as_line (draft.Kind k) = None

abbrev pub as_kind : Draft → Option DraftKind
as_kind (draft.Timeline l) = None
as_kind (draft.Kind k) = Some k

abbrev pub lines_in : List Draft → List Timeline
lines_in drafts = filter_map as_line drafts

abbrev pub kinds_in : List Draft → List DraftKind
kinds_in drafts = filter_map as_kind drafts
