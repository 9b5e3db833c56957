-- Lines of planners.
use Rattle.std.proofs.Common.{◌≡◌, ℕ, zero, suc, ◌+◌, ◌-◌, ◌<◌, ◌≤◌, List, ◌++◌, length, Option, Some, None, Result, OnErr, sym, ap, ◌∙◌, subst, arith, length-append}
use Rattle.std.proofs.lemmas.List.{append-nil}
use Rattle.std.proofs.lemmas.List.Sums.{count_by-le-length}
use Rattle.std.specs.List.{count_by}
use Rattle.pl_entry.specs.declared.entry.Entry.{Entry}
use Rattle.pl_io.specs.Writes.{AppendsFront}
use Rattle.pl_input.specs.declared.halt.Halt.{Halt}
use Rattle.pl_marks.specs.declared.mark.Mark.{Mark}
use Rattle.pl_many.specs.declared.tally.Tally.{Tally}
use Rattle.pl_journal.specs.Written.{Adds}
use Rattle.pl_journal.proofs.AboutWriting.{AddsFront, adds_more, front_behind, front_stops}
use Rattle.pl_many.specs.Tallies.{is_mark_by, is_repair_by, tally_of, planner_line, lines_from, lines_of}

pub few_entries : (number : ℕ) (marks : List Mark) → count_by (is_mark_by number) marks ≤ length marks
few_entries number marks = count_by-le-length (is_mark_by number) marks

pub few_repairs : (number : ℕ) (log : List Entry) (marks : List Mark) → count_by (is_repair_by number log) marks ≤ length marks
few_repairs number log marks = count_by-le-length (is_repair_by number log) marks

pub line_some : (number : ℕ) (t : Tally) → 0 < length (planner_line number t)
line_some number t = simp length-append (omega arith)

-- nothing of a line was written
pub front_none : (held : Option (List ℕ)) (number : ℕ) (t : Tally) → AppendsFront held held (planner_line number t)
front_none None number t = tt
front_none (Some before) number t = (0, line_some number t, ap Some (sym (append-nil before)))

-- nothing of the lines of some planners was written
pub lines_none : (held : Option (List ℕ)) (planners : ℕ) (marks : List Mark) (log : List Entry) → 0 < planners → AppendsFront held held (lines_of planners marks log)
lines_none None planners marks log some = tt
lines_none (Some before) zero marks log some = absurd (omega (arith, some))
lines_none (Some before) (suc more) marks log some =
    (0, (let line = line_some 1 (tally_of 1 marks log) in let longer = length-append (planner_line 1 (tally_of 1 marks log)) (lines_from 2 more marks log) in omega (arith, line, longer)), ap Some (sym (append-nil before)))

-- ---- one line more

module _ (before planners : ℕ) (marks : List Mark) (log : List Entry) (due : before < planners) (t : Tally) (is : t ≡ tally_of (before + 1) marks log) where
  next_lines : lines_from (before + 1) (planners - before) marks log ≡ planner_line (before + 1) t ++ lines_from (before + 1 + 1) (planners - (before + 1)) marks log
  next_lines =
      ap (λ (n : ℕ). lines_from (before + 1) n marks log) (let e : planners - before ≡ suc (planners - (before + 1)) = omega (arith, due) in e)
      ∙ ap (λ (x : Tally). planner_line (before + 1) x ++ lines_from (before + 1 + 1) (planners - (before + 1)) marks log) (sym is)

  pub adds_tally : (old mid new : Option (List ℕ)) (whole : List ℕ) → AddsFront old mid (lines_from (before + 1) (planners - before) marks log) whole → Adds mid new (planner_line (before + 1) t)
      → AddsFront old new (lines_from (before + 1 + 1) (planners - (before + 1)) marks log) whole
  adds_tally old mid new whole front adds =
      adds_more old mid new (planner_line (before + 1) t) (lines_from (before + 1 + 1) (planners - (before + 1)) marks log) whole (subst (λ (rest : List ℕ). AddsFront old mid rest whole) next_lines front) adds

  pub front_tally : (r : Result (Unit {0}) Halt) (old mid new : Option (List ℕ)) (whole : List ℕ) → AddsFront old mid (lines_from (before + 1) (planners - before) marks log) whole → AppendsFront mid new (planner_line (before + 1) t)
      → OnErr r (AppendsFront old new whole)
  front_tally r old mid new whole front part =
      front_stops r old new whole
      (front_behind old mid new (planner_line (before + 1) t) (lines_from (before + 1 + 1) (planners - (before + 1)) marks log) whole (subst (λ (rest : List ℕ). AddsFront old mid rest whole) next_lines front) part)
