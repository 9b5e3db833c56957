-- The marks as they are kept, with the number of each author's entries beside them.
use Rattle.std.proofs.Common.{◌≡◌, ℕ, ◌+◌, ◌-◌, ◌<◌, ◌≤◌, List, [], ◌∷◌, ◌++◌, length, map, set, get_or, Bool, true, false, refl, sym, ◌∙◌, ap, arith, length-append}
use Rattle.std.specs.List.{All}
use Rattle.std.proofs.lemmas.List.{map-append, length-map, append_cancel_right, length-set, get_or-set_same, get_or-set_other}
use Rattle.std.proofs.lemmas.List.Elements.{All-nil, All-cons, All-push, All-head, All-tail}
use Rattle.std.proofs.lemmas.List.Sums.{count_by-le-length}
use Rattle.pl_marks.specs.declared.author.Author.{Author}
use Rattle.pl_marks.specs.declared.mark.Mark.{Mark}
use Rattle.pl_marks.specs.Authors.{IsAuthor, slot_of, is_same, times}
use Rattle.pl_marks.specs.Marks.{marks_of, signed_by, AreCounted}
use Rattle.pl_marks.proofs.Authors.{same_self, same_author, slot_few, slot_apart}
use Rattle.pl_marks.proofs.Numbering.{mark_at, one_more, times_here, times_there}

abbrev pub authors_in : List Mark → List Author
authors_in marks = map (λ (m : Mark). m.author) marks

-- ---- one more, or one less, at the end

pub authors_more : (marks : List Mark) (m : Mark) → authors_in (marks ++ m ∷ []) ≡ authors_in marks ++ m.author ∷ []
authors_more marks m = map-append (λ (x : Mark). x.author) marks (m ∷ [])

last_is : {A : Type 0} (xs ys : List A) (x y : A) → xs ++ x ∷ [] ≡ ys ++ y ∷ [] → x ≡ y
last_is [] [] x y e = cc
last_is [] (w ∷ ys) x y e = absurd (let long = ap length e ∙ length-append (w ∷ ys) (y ∷ []) in omega (arith, long))
last_is (z ∷ xs) [] x y e = absurd (let long = sym (ap length e) ∙ length-append (z ∷ xs) (x ∷ []) in omega (arith, long))
last_is (z ∷ xs) (w ∷ ys) x y e = (let h : xs ++ x ∷ [] ≡ ys ++ y ∷ [] = cc in last_is xs ys x y h)

pub front_is : {A : Type 0} (xs ys : List A) (x y : A) → xs ++ x ∷ [] ≡ ys ++ y ∷ [] → xs ≡ ys
front_is xs ys x y e = append_cancel_right xs ys (y ∷ []) (ap (λ z. xs ++ z ∷ []) (sym (last_is xs ys x y e)) ∙ e)

all_parts : {A : Type 0} (P : A → Type 0) (xs ys : List A) → All P (xs ++ ys) → All P xs × All P ys
all_parts P [] ys all = (All-nil P, all)
all_parts P (x ∷ xs) ys all = let rest = all_parts P xs ys (All-tail P x (xs ++ ys) all) in (All-cons P x xs (All-head P x (xs ++ ys) all) rest.0, rest.1)

-- ---- kept

pub none_counted : (opening : ℕ) (counts : List ℕ) → length counts ≡ 10 → ((k : ℕ) → k < 10 → get_or counts k 0 ≡ 0) → AreCounted opening [] counts
none_counted opening counts long zeros = record {
  are = refl;
  known = All-nil (λ (m : Mark). IsAuthor m.author);
  long = long;
  counted = λ a is. zeros (slot_of a) (slot_few a is);
}

module _ (opening : ℕ) (marks : List Mark) (counts : List ℕ) (kept : AreCounted opening marks counts) where
  -- a count is no more than there are marks
  pub count_few : (a : Author) → IsAuthor a → get_or counts (slot_of a) 0 ≤ length marks
  count_few a is =
      let e = kept.counted a is in
      let le = count_by-le-length (is_same a) (authors_in marks) in
      let long = length-map marks (λ (m : Mark). m.author) in omega (arith, e, le, long)

  module _ (a : Author) (is : IsAuthor a) where
    abbrev pub next_mark : Mark
    next_mark = record { entry = opening + length marks; author = a; count = get_or counts (slot_of a) 0 + 1 }

    abbrev pub next_counts : List ℕ
    next_counts = set counts (slot_of a) (get_or counts (slot_of a) 0 + 1)

    within : slot_of a < length counts
    within = let few = slot_few a is in let long = kept.long in omega arith

    same_next : mark_at (opening + length (authors_in marks)) (authors_in marks) a ≡ next_mark
    same_next =
        let F : (ℕ × ℕ) → Mark = λ x. record { entry = x.0; author = a; count = x.1 } in
        let e : opening + length (authors_in marks) ≡ opening + length marks = ap (λ (n : ℕ). opening + n) (length-map marks (λ (m : Mark). m.author)) in
        let f : times a (authors_in marks) + 1 ≡ get_or counts (slot_of a) 0 + 1 = ap (λ (n : ℕ). n + 1) (sym (kept.counted a is)) in
        ap F (λ i. (e i, f i))

    are_more : marks ++ next_mark ∷ [] ≡ marks_of (signed_by opening (marks ++ next_mark ∷ []))
    are_more =
        ap (λ (ms : List Mark). ms ++ next_mark ∷ []) kept.are
        ∙ ap (λ (m : Mark). marks_of (signed_by opening marks) ++ m ∷ []) (sym same_next)
        ∙ sym (one_more opening (authors_in marks) a)
        ∙ ap (λ (l : List Author). marks_of (record { opening = opening; authors = l })) (sym (authors_more marks next_mark))

    more_counted : (b : Author) → IsAuthor b → (t : Bool) → is_same b a ≡ t → get_or next_counts (slot_of b) 0 ≡ times b (authors_in marks ++ a ∷ [])
    more_counted b known true same =
        let e : b ≡ a = same_author b a same in
        ap (λ (x : Author). get_or next_counts (slot_of x) 0) e
        ∙ get_or-set_same counts (slot_of a) (get_or counts (slot_of a) 0 + 1) 0 within
        ∙ ap (λ (n : ℕ). n + 1) (kept.counted a is)
        ∙ ap (λ (x : Author). times x (authors_in marks) + 1) (sym e)
        ∙ sym (times_here b a (authors_in marks) same)
    more_counted b known false other =
        get_or-set_other counts (slot_of a) (slot_of b) (get_or counts (slot_of a) 0 + 1) 0 (slot_apart a b is known other)
        ∙ kept.counted b known
        ∙ sym (times_there b a (authors_in marks) other)

    pub pushed : AreCounted opening (marks ++ next_mark ∷ []) next_counts
    pushed = record {
      are = are_more;
      known = All-push (λ (m : Mark). IsAuthor m.author) marks next_mark kept.known is;
      long = length-set counts (slot_of a) (get_or counts (slot_of a) 0 + 1) ∙ kept.long;
      counted = λ b known. more_counted b known (is_same b a) refl ∙ ap (λ (l : List Author). times b l) (sym (authors_more marks next_mark));
    }

-- the last mark is taken back
module _ (opening : ℕ) (marks : List Mark) (last : Mark) (counts : List ℕ) (kept : AreCounted opening (marks ++ last ∷ []) counts) where
  abbrev a : Author
  a = last.author

  pub last_known : IsAuthor a
  last_known = All-head (λ (m : Mark). IsAuthor m.author) last [] (all_parts (λ (m : Mark). IsAuthor m.author) marks (last ∷ []) kept.known).1

  abbrev pub less_counts : List ℕ
  less_counts = set counts (slot_of a) (get_or counts (slot_of a) 0 - 1)

  last_within : slot_of a < length counts
  last_within = let few = slot_few a last_known in let long = kept.long in omega arith

  were : (b : Author) → IsAuthor b → get_or counts (slot_of b) 0 ≡ times b (authors_in marks ++ a ∷ [])
  were b known = kept.counted b known ∙ ap (λ (l : List Author). times b l) (authors_more marks last)

  pub last_counted : 0 < get_or counts (slot_of a) 0
  last_counted = let e = were a last_known in let one = times_here a a (authors_in marks) (same_self a) in omega (arith, e, one)

  less_counted : (b : Author) → IsAuthor b → (t : Bool) → is_same b a ≡ t → get_or less_counts (slot_of b) 0 ≡ times b (authors_in marks)
  less_counted b known true same =
      let e : b ≡ a = same_author b a same in
      let was : get_or counts (slot_of a) 0 ≡ times a (authors_in marks) + 1 = were a last_known ∙ times_here a a (authors_in marks) (same_self a) in
      let less : get_or counts (slot_of a) 0 - 1 ≡ times a (authors_in marks) = omega (arith, was) in
      ap (λ (x : Author). get_or less_counts (slot_of x) 0) e ∙ get_or-set_same counts (slot_of a) (get_or counts (slot_of a) 0 - 1) 0 last_within ∙ less
      ∙ ap (λ (x : Author). times x (authors_in marks)) (sym e)
  less_counted b known false other =
      get_or-set_other counts (slot_of a) (slot_of b) (get_or counts (slot_of a) 0 - 1) 0 (slot_apart a b last_known known other)
      ∙ were b known ∙ times_there b a (authors_in marks) other

  pub popped : AreCounted opening marks less_counts
  popped = record {
    are = front_is marks (marks_of (signed_by opening marks)) last (mark_at (opening + length (authors_in marks)) (authors_in marks) a)
        (kept.are ∙ ap (λ (l : List Author). marks_of (record { opening = opening; authors = l })) (authors_more marks last) ∙ one_more opening (authors_in marks) a);
    known = (all_parts (λ (m : Mark). IsAuthor m.author) marks (last ∷ []) kept.known).0;
    long = length-set counts (slot_of a) (get_or counts (slot_of a) 0 - 1) ∙ kept.long;
    counted = λ b known. less_counted b known (is_same b a) refl;
  }

  -- what the others are
  pub others_are : (authors : List Author) (author : Author) → authors_in (marks ++ last ∷ []) ≡ authors ++ author ∷ [] → signed_by opening marks ≡ record { opening = opening; authors = authors }
  others_are authors author e =
      let same : authors_in marks ≡ authors = front_is (authors_in marks) authors a author (sym (authors_more marks last) ∙ e) in
      ap (λ (l : List Author). record { opening = opening; authors = l }) same
