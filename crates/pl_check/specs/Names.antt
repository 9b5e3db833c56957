-- Names and their numbers, and the fault of the first name that is given twice. The names of timelines and kinds share one space.
use Rattle.std.specs.Prelude.{ℕ, Bool, List, [], ◌∷◌, ◌++◌, Option, bytes_eq, Err, if◌then◌else◌}
use Rattle.std.specs.List.{list_any, position_from}
use Rattle.pl_syntax.specs.declared.whole.Ast.{Ast}
use Rattle.pl_syntax.specs.declared.whole.Item.{Item}
use Rattle.pl_syntax.specs.declared.whole.Item.TheVariants as item
use Rattle.pl_syntax.specs.declared.timelines.AstTimeline.{AstTimeline}
use Rattle.pl_syntax.specs.declared.timelines.AstTimeline.TheVariants as line
use Rattle.pl_syntax.specs.declared.kinds.AstKind.{AstKind}
use Rattle.pl_syntax.specs.declared.parameters.AstParam.{AstParam}
use Rattle.pl_syntax.specs.declared.alternatives.AstSlot.{AstSlot}
use Rattle.pl_syntax.specs.declared.alternatives.AstAlternative.{AstAlternative}
use Rattle.pl_syntax.specs.declared.expressions.AstExpr.{AstExpr}
pub use Rattle.pl_syntax.specs.Forms.{Name}
use Rattle.pl_check.specs.declared.fault.ModelFault.TheVariants as fault
use Rattle.pl_check.specs.Judgements.{Judgement, pass, ◌>>◌, each}

-- the number of a name: its place among the names
abbrev pub place_of : List Name → Name → Option ℕ
place_of names name = position_from (bytes_eq name) 0 names

abbrev pub is_among : List Name → Name → Bool
is_among names name = list_any (bytes_eq name) names

-- a name that does not stand among those before it
abbrev pub is_new : List Name → Name → Judgement
is_new before name = if is_among before name then Err (fault.Twice name) else pass

-- each item's name is new, and then what the item holds is judged
abbrev pub distinct : {X : Type 0} → (X → Name) → (X → Judgement) → List Name → List X → Judgement
distinct name_of inside before [] = pass
distinct name_of inside before (x ∷ xs) = is_new before (name_of x) >> (inside x >> distinct name_of inside (before ++ name_of x ∷ []) xs)

abbrev pub nothing_inside : {X : Type 0} → X → Judgement
nothing_inside x = pass

abbrev pub own_name : Name → Name
own_name name = name

abbrev pub param_name : AstParam → Name
param_name p = p.name

abbrev pub slot_name : AstSlot → Name
slot_name s = s.name

abbrev pub binding_name : Name × AstExpr → Name
binding_name b = b.0

abbrev pub line_name : AstTimeline → Name
line_name (line.Capacity name most) = name
line_name (line.Level name least most start) = name
line_name (line.States name states start any steps) = name

abbrev pub item_name : Item → Name
item_name (item.Timeline l) = line_name l
item_name (item.Kind k) = k.name

abbrev pub twice_in_line : AstTimeline → Judgement
twice_in_line (line.Capacity name most) = pass
twice_in_line (line.Level name least most start) = pass
twice_in_line (line.States name states start any steps) = distinct own_name nothing_inside [] states

abbrev pub twice_in_slot : AstSlot → Judgement
twice_in_slot s = distinct binding_name nothing_inside [] s.bindings

abbrev pub twice_in_alternative : AstAlternative → Judgement
twice_in_alternative a = distinct slot_name twice_in_slot [] a.slots

abbrev pub twice_in_kind : AstKind → Judgement
twice_in_kind k = distinct param_name nothing_inside [] k.params >> each twice_in_alternative k.alternatives

abbrev pub twice_in_item : Item → Judgement
twice_in_item (item.Timeline l) = twice_in_line l
twice_in_item (item.Kind k) = twice_in_kind k

-- the first name that stands twice, at the second of the two
abbrev pub twice_in : Ast → Judgement
twice_in ast = distinct item_name twice_in_item [] ast.items
