-- What each planner made, and the lines that tell it.
use Rattle.std.specs.Prelude.{ℕ, zero, suc, ◌+◌, ◌==◌, ◌&&◌, Bool, true, false, List, [], ◌++◌, codes, decimal, Option, Some, None, slice_get}
use Rattle.std.specs.List.{count_by}
use Rattle.pl_entry.specs.declared.event.Event.{Event}
use Rattle.pl_entry.specs.declared.event.Event.TheVariants as event
use Rattle.pl_entry.specs.declared.reply.Reply.{Reply}
use Rattle.pl_entry.specs.declared.reply.Reply.TheVariants as reply
use Rattle.pl_entry.specs.declared.entry.Entry.{Entry}
use Rattle.pl_marks.specs.declared.author.Author.{Author}
use Rattle.pl_marks.specs.declared.author.Author.TheVariants.{Feeder, Executive, Planner}
use Rattle.pl_marks.specs.declared.mark.Mark.{Mark}
use Rattle.pl_many.specs.declared.tally.Tally.{Tally}

abbrev pub is_done : Reply → Bool
is_done reply.Done = true
is_done _ = false

abbrev pub is_done_repair : Event → Reply → Bool
is_done_repair (event.Fix k m) r = is_done r
is_done_repair _ r = false

-- a repair that was made
abbrev pub is_made_repair : Entry → Bool
is_made_repair e = is_done_repair e.event e.reply

abbrev pub is_by : ℕ → Author → Bool
is_by number (Planner by) = by == number
is_by number Feeder = false
is_by number Executive = false

abbrev pub is_mark_by : ℕ → Mark → Bool
is_mark_by number mark = is_by number mark.author

abbrev pub is_repair_in : Option Entry → Bool
is_repair_in None = false
is_repair_in (Some e) = is_made_repair e

-- a mark of a repair of the planner that was made
abbrev pub is_repair_by : ℕ → List Entry → Mark → Bool
is_repair_by number log mark = is_mark_by number mark && is_repair_in (slice_get log mark.entry)

-- how many marks the planner of this number has, and how many of them are of repairs that were made
abbrev pub tally_of : ℕ → List Mark → List Entry → Tally
tally_of number marks log = record { entries = count_by (is_mark_by number) marks; repairs = count_by (is_repair_by number log) marks }

-- ---- lines

abbrev pub planner_line : ℕ → Tally → List ℕ
planner_line number tally = codes "# planner " ++ decimal number ++ codes " entries " ++ decimal tally.entries ++ codes " ok " ++ decimal tally.repairs ++ codes "\n"

-- the lines of so many planners, the first with this number
abbrev pub lines_from : ℕ → ℕ → List Mark → List Entry → List ℕ
lines_from number zero marks log = []
lines_from number (suc more) marks log = planner_line number (tally_of number marks log) ++ lines_from (number + 1) more marks log

-- a line for each planner, by number
abbrev pub lines_of : ℕ → List Mark → List Entry → List ℕ
lines_of planners marks log = lines_from 1 planners marks log
