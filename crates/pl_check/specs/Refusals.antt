-- The lines that say why a text is no model.
use Rattle.std.specs.Prelude.{ℕ, Bool, true, false, List, [], ◌∷◌, ◌++◌, codes, decimal}
use Rattle.pl_syntax.specs.declared.fault.SyntaxFault.{SyntaxFault}
use Rattle.pl_syntax.specs.declared.fault.SyntaxFault.TheVariants as syntax
use Rattle.pl_check.specs.declared.fault.ModelFault.{ModelFault}
use Rattle.pl_check.specs.declared.fault.ModelFault.TheVariants as fault
use Rattle.pl_check.specs.declared.fault.What.{What}
use Rattle.pl_check.specs.declared.fault.What.TheVariants as what

abbrev pub memory_text : List ℕ
memory_text = codes "out of memory"

-- a place counts bytes of the text from 0
abbrev pub syntax_text : SyntaxFault → List ℕ
syntax_text syntax.TooLong = codes "too long"
syntax_text (syntax.BadByte at) = codes "bad byte at " ++ decimal at
syntax_text (syntax.BadNumber at) = codes "bad number at " ++ decimal at
syntax_text (syntax.BadName at) = codes "bad name at " ++ decimal at
syntax_text (syntax.TooDeep at) = codes "too deep at " ++ decimal at
syntax_text (syntax.Unexpected at) = codes "unexpected at " ++ decimal at
syntax_text syntax.Memory = memory_text

abbrev pub what_word : What → List ℕ
what_word what.Timelines = codes "timelines"
what_word what.States = codes "states"
what_word what.Kinds = codes "kinds"
what_word what.Params = codes "params"
what_word what.Reservations = codes "reservations"
what_word what.Links = codes "links"
what_word what.Alternatives = codes "alternatives"
what_word what.Slots = codes "slots"
what_word what.Orders = codes "orders"
what_word what.Nodes = codes "nodes"
what_word what.Horizon = codes "horizon"
what_word what.Lead = codes "lead"
what_word what.Capacity = codes "capacity"
what_word what.Level = codes "level"
what_word what.Param = codes "param"
what_word what.Link = codes "link"
what_word what.Order = codes "order"
what_word what.Literal = codes "literal"
what_word what.Duration = codes "duration"

abbrev pub fault_text : ModelFault → List ℕ
fault_text (fault.Twice name) = codes "name twice: " ++ name
fault_text (fault.TooMany what) = codes "too many: " ++ what_word what
fault_text (fault.Unknown name) = codes "unknown name: " ++ name
fault_text (fault.Range what) = codes "out of range: " ++ what_word what
fault_text (fault.Circular kind param) = codes "circular: kind " ++ (kind ++ (codes ", parameter " ++ param))
fault_text (fault.Recursive kind) = codes "recursive: kind " ++ kind
fault_text (fault.NoSchedule kind alternative cycle) = codes "no schedule: kind " ++ (kind ++ (codes ", alternative " ++ decimal alternative))
fault_text fault.Memory = memory_text

-- the whole line
abbrev pub refusal_line : List ℕ → List ℕ
refusal_line text = codes "model: " ++ (text ++ 10 ∷ [])

-- ---- want of memory, which is no fault of a text

abbrev pub is_want_in_syntax : SyntaxFault → Bool
is_want_in_syntax syntax.Memory = true
is_want_in_syntax _ = false

abbrev pub is_want : ModelFault → Bool
is_want fault.Memory = true
is_want _ = false
