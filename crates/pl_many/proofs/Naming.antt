-- Which mark names which entry.
use Rattle.std.proofs.Common.{◌≡◌, ℕ, ◌+◌, ◌-◌, ◌<◌, ◌≤◌, List, length, get_or, true, Some, None, slice_get, refl, sym, ◌∙◌, ap, subst, inl, inr, ◌⊎◌, arith}
use Rattle.std.specs.List.{All, Contains, range_with_len}
use Rattle.std.proofs.lemmas.List.{length-map}
use Rattle.std.proofs.lemmas.List.FromFn.{length-range_with_len}
use Rattle.std.proofs.lemmas.List.Elements.{All-cons, All-head, Contains-get_or}
use Rattle.std.proofs.lemmas.Option.{slice_get_within, slice_get-get_or, get_or_from_slice_get}
use Rattle.pl_turn.specs.History.{StandsIn}
use Rattle.pl_turn.specs.Passes.{seen_of, mine_of, opening_of, joined_by, lists_of}
use Rattle.pl_entry.specs.declared.entry.Entry.{Entry}
use Rattle.pl_machine.specs.Sound.{State}
use Rattle.pl_marks.specs.declared.author.Author.{Author}
use Rattle.pl_marks.specs.declared.author.Author.TheVariants.{Feeder}
use Rattle.pl_marks.specs.declared.mark.Mark.{Mark}
use Rattle.pl_marks.specs.Authors.{times}
use Rattle.pl_marks.specs.Marks.{Signed, marks_of, mark_of}
use Rattle.pl_marks.proofs.Numbering.{entries_are, authors_are, counts_are, marked}
use Rattle.pl_acts.specs.declared.noted.Noted.{Noted}
use Rattle.pl_acts.specs.declared.noted.Noted.TheVariants.{Opened, Made, Stopped}
use Rattle.pl_acts.specs.Items.{items_of, opening_in, is_stop, signer_in}
use Rattle.pl_acts.proofs.Items.{opening_in_items}
use Rattle.pl_acts.specs.Seen.{IsPlan}
use Rattle.pl_acts.proofs.Signers.{items_marked}
use Rattle.pl_locked.specs.Plans.{PlanPass, Closes}
use Rattle.pl_pair.specs.Served.{AreSigned, IsSomeones}
use Rattle.pl_pair.proofs.Owning.{contains_at, stands_at, IsEntryOf, entry_at, whose_is, whole_long, owned, opening_is}
use Rattle.pl_many.specs.declared.crew.Crew.{Crew}
use Rattle.pl_many.specs.declared.member.Member.{Member}
use Rattle.pl_many.specs.Members.{Gathers, IsMember}
use Rattle.pl_many.specs.Closing.{AreMarksOf, IsNamed, IsMarked, NamesOwn, ClosesCrew}

-- ---- marks

pub marks_are : (s : Signed) (log : List Entry) → s.opening + length s.authors ≡ length log → AreMarksOf s.opening log (marks_of s)
marks_are s log each = record {
  entries = entries_are s ∙ ap (λ (n : ℕ). range_with_len s.opening n) (let e : length s.authors ≡ length log - s.opening = omega (arith, each) in e);
  counts = λ a. counts_are s a ∙ ap (λ (n : ℕ). range_with_len 1 n) (sym (ap length (counts_are s a) ∙ length-range_with_len 1 (times a s.authors)));
}

-- ---- at the end

module _ (pass : PlanPass) (machine : State) (by : Signed) (gathers : Gathers pass) (mine : IsSomeones (mine_of pass)) (closes : Closes pass machine by) where
  abbrev whole : List Noted
  whole = items_of machine.model machine.log closes.signs

  some_opening : 0 < closes.signs.by.opening
  some_opening = (let is = ap (λ (s : Signed). s.opening) closes.signed in let some = closes.some in omega (arith, is, some))

  each_signed : closes.signs.by.opening + length closes.signs.by.authors ≡ length machine.log
  each_signed = ap (λ (s : Signed). s.opening + length s.authors) closes.signed ∙ closes.each

  all_theirs : All IsSomeones (lists_of pass)
  all_theirs = All-cons IsSomeones (mine_of pass) (joined_by pass) mine gathers.joined

  whole_is : length machine.log ≤ length whole
  whole_is = whole_long machine.model machine.log closes.signs some_opening each_signed (lists_of pass) (opening_of pass) closes.stands closes.owners all_theirs

  same_opening : by.opening ≡ opening_of pass
  same_opening = sym (ap (λ (s : Signed). s.opening) closes.signed) ∙ opening_is machine.model machine.log closes.signs some_opening each_signed (lists_of pass) (opening_of pass) closes.stands closes.owners all_theirs (seen_of pass) closes.history gathers.long gathers.handed

  -- the mark of each entry names it
  names_at : (k : ℕ) (a : Author) → slice_get by.authors k ≡ Some a → NamesOwn (lists_of pass) (mark_of by k a)
  names_at k a at =
      let is : closes.signs.by ≡ by = closes.signed in
      let handed = same_opening in
      let long = whole_is in
      let every = closes.each in
      let lt = slice_get_within by.authors k a at in
      let r = owned machine.model machine.log closes.signs some_opening each_signed (lists_of pass) (opening_of pass) closes.stands closes.owners all_theirs (by.opening + k) (omega (arith, handed)) (omega (arith, long, every, lt)) in
      let at2 : slice_get closes.signs.by.authors k ≡ Some a = ap (λ (s : Signed). slice_get s.authors k) is ∙ at in
      let there : slice_get whole (closes.signs.by.opening + k) ≡ Some r.item = ap (λ (s : Signed). slice_get whole (s.opening + k)) is ∙ r.at in
      let entry : IsEntryOf a r.item = entry_at machine.model machine.log closes.signs some_opening each_signed k a r.item at2 there in
      let signed : AreSigned a r.own = whose_is r.own a r.item r.whose (by.opening + k) r.has entry in
      (r.own, r.one, signed, (r.item, r.has, entry.0))

  names_all : All (NamesOwn (lists_of pass)) (marks_of by)
  names_all k d within =
      let long = ap length (authors_are by) in
      let few = length-map (marks_of by) (λ (m : Mark). m.author) in
      let a = get_or by.authors k Feeder in
      let at : slice_get by.authors k ≡ Some a = slice_get-get_or by.authors k Feeder (omega (arith, long, few, within)) in
      subst (NamesOwn (lists_of pass)) (sym (get_or_from_slice_get (marks_of by) k (mark_of by k a) d (marked by k a at))) (names_at k a at)

  pub closes_crew : (marks : List Mark) → marks ≡ marks_of by → ClosesCrew pass machine marks
  closes_crew marks are = record {
    by = by;
    closes = closes;
    handed = same_opening;
    are = are;
    counted = subst (λ (n : ℕ). AreMarksOf n machine.log marks) same_opening (subst (AreMarksOf by.opening machine.log) (sym are) (marks_are by machine.log closes.each));
    named = subst (All (NamesOwn (lists_of pass))) (sym are) names_all;
  }

-- ---- what a member has seen

entry_or_stop : (i : Noted) (a : Author) → signer_in i ≡ Some a → (is_stop i ≡ true) ⊎ ((e : Entry) × (i ≡ Made (Some a) e))
entry_or_stop (Opened m n e) a is = absurd (let h : None ≡ Some a = is in (cc))
entry_or_stop (Made None e) a is = absurd (let h : None ≡ Some a = is in (cc))
entry_or_stop (Made (Some b) e) a is = inr (e, (let same : b ≡ a = (let h : Some b ≡ Some a = is in (cc)) in ap (λ (c : Author). Made (Some c) e) same))
entry_or_stop (Stopped by) a is = inl refl

module _ (m : Member) (plan : IsPlan (seen_of m.pass)) (stands : StandsIn (seen_of m.pass) (mine_of m.pass)) (signed : AreSigned m.author (mine_of m.pass)) where
  named_by : (place : ℕ) (i : Noted) → Contains (mine_of m.pass) (place, i) → (is_stop i ≡ true) ⊎ ((e : Entry) × (i ≡ Made (Some m.author) e)) → IsNamed (marks_of plan.signs.by) m.author (place, i)
  named_by place i has (inl stop) = inl stop
  named_by place i has (inr e) =
      let at : slice_get (items_of plan.model plan.log plan.signs) place ≡ Some (Made (Some m.author) e.0) =
      ap (λ (xs : List Noted). slice_get xs place) (sym plan.is) ∙ (stands_at (seen_of m.pass) 0 (mine_of m.pass) stands place i has ∙ ap (λ (x : Noted). Some x) e.1) in
      let mark = items_marked plan.model plan.log plan.signs place m.author e.0 plan.some at in
      inr (mark_of plan.signs.by mark.0 m.author, contains_at (marks_of plan.signs.by) mark.0 (mark_of plan.signs.by mark.0 m.author) mark.2, sym mark.1, refl)

  named_own : (x : ℕ × Noted) → Contains (mine_of m.pass) x → signer_in x.1 ≡ Some m.author → IsNamed (marks_of plan.signs.by) m.author x
  named_own x has is = named_by x.0 x.1 has (entry_or_stop x.1 m.author is)

  pub is_marked : IsMarked m
  is_marked = record {
    model = plan.model;
    log = plan.log;
    signs = plan.signs;
    legal = plan.legal;
    seen = plan.is;
    handed = ap opening_in plan.is ∙ opening_in_items plan.model plan.log plan.signs plan.legal;
    marks = marks_are plan.signs.by plan.log plan.each;
    named = λ k d within. named_own (get_or (mine_of m.pass) k d) (Contains-get_or (mine_of m.pass) k d within) (signed k d within);
  }

pub member_marked : (crew : Crew) (m : Member) → IsMember crew m → IsMarked m
member_marked crew m member = is_marked m member.own.seen (All-head (StandsIn (seen_of m.pass)) (mine_of m.pass) (joined_by m.pass) member.own.lock.stands) member.signed
