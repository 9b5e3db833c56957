-- What a crew's marks say: of what a member has seen, and of the whole history at the end.
use Rattle.std.specs.Prelude.{◌≡◌, ◌-◌, ℕ, List, length, map, true, false, Some, ◌⊎◌}
use Rattle.std.specs.List.{All, Contains, range_with_len}
use Rattle.pl_turn.specs.Passes.{seen_of, mine_of, opening_of, lists_of}
use Rattle.pl_model.specs.declared.whole.Model.{Model}
use Rattle.pl_entry.specs.declared.entry.Entry.{Entry}
use Rattle.pl_machine.specs.Legal.{Legal}
use Rattle.pl_machine.specs.Sound.{State}
use Rattle.pl_marks.specs.declared.author.Author.{Author}
use Rattle.pl_marks.specs.declared.mark.Mark.{Mark}
use Rattle.pl_marks.specs.Marks.{Signed, marks_of, counts_of}
use Rattle.pl_acts.specs.declared.noted.Noted.{Noted}
use Rattle.pl_acts.specs.Items.{Signs, items_of, opening_in, is_stop}
use Rattle.pl_locked.specs.Plans.{PlanPass, Closes}
use Rattle.pl_pair.specs.Served.{AreSigned}
use Rattle.pl_many.specs.declared.member.Member.{Member}

-- There is a mark for each entry of the log behind the first `opening`, in order. The marks of each author count 1, 2 and so on, without a gap.
pub record AreMarksOf (opening : ℕ) (log : List Entry) (marks : List Mark) : Type 0 where
  pub entries : map (λ (m : Mark). m.entry) marks ≡ range_with_len opening (length log - opening)
  pub counts : (a : Author) → counts_of a marks ≡ range_with_len 1 (length (counts_of a marks))

-- ---- of a member

-- an own entry of this author has one of these marks, and a stop has none
abbrev pub IsNamed : List Mark → Author → ℕ × Noted → Type 0
IsNamed marks by x = (is_stop x.1 ≡ true) ⊎ ((m : Mark) × Contains marks m × (m.entry ≡ x.0) × (m.author ≡ by))

-- What a member has seen is a legal log with its marks, one for each entry behind those that its first item says were handed in. Each own entry of the member, the stop aside, is named by a mark of the member's.
pub record IsMarked (m : Member) : Type 0 where
  pub model : Model
  pub log : List Entry
  pub signs : Signs
  pub legal : Legal model log
  pub seen : seen_of m.pass ≡ items_of model log signs
  pub handed : opening_in (seen_of m.pass) ≡ Some signs.by.opening
  pub marks : AreMarksOf signs.by.opening log (marks_of signs.by)
  pub named : All (IsNamed (marks_of signs.by) m.author) (mine_of m.pass)

-- ---- at the end

-- one of these lists is all of the mark's author, and has an entry at the mark's place
abbrev pub NamesOwn : List (List (ℕ × Noted)) → Mark → Type 0
NamesOwn lists mark = (own : List (ℕ × Noted)) × Contains lists own × AreSigned mark.author own × ((item : Noted) × Contains own (mark.entry, item) × (is_stop item ≡ false))

-- The machine has the whole history, and a mark for each entry past those that were handed in. Each mark names an own entry of the feeder or of a member that was joined, whose author it has.
pub record ClosesCrew (feeder : PlanPass) (machine : State) (marks : List Mark) : Type 0 where
  pub by : Signed
  pub closes : Closes feeder machine by
  pub handed : by.opening ≡ opening_of feeder
  pub are : marks ≡ marks_of by
  pub counted : AreMarksOf (opening_of feeder) machine.log marks
  pub named : All (NamesOwn (lists_of feeder)) marks
