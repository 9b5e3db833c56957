-- What the marks of some authors are, entry by entry and author by author.
use Rattle.std.proofs.Common.{◌≡◌, ℕ, suc, zero, ◌+◌, List, [], ◌∷◌, ◌++◌, length, map, take, cond, Bool, true, false, Some, slice_get, refl, sym, ◌∙◌, ap, arith, append_assoc}
use Rattle.std.specs.List.{range_with_len, filter}
use Rattle.std.proofs.lemmas.List.{append-nil}
use Rattle.std.proofs.lemmas.List.Sums.{sum_by-append, sum_by-cons}
use Rattle.pl_marks.specs.declared.author.Author.{Author}
use Rattle.pl_marks.specs.declared.mark.Mark.{Mark}
use Rattle.pl_marks.specs.Authors.{is_same, times}
use Rattle.pl_marks.specs.Marks.{Signed, marks_from, marks_of, mark_of, counts_of}
use Rattle.pl_marks.proofs.Authors.{same_author}

abbrev one_of : Author → Author → ℕ
one_of a b = cond (is_same a b) 1 0

-- one more entry
pub times_more : (a b : Author) (earlier : List Author) → times a (earlier ++ b ∷ []) ≡ times a earlier + one_of a b
times_more a b earlier = let one = sum_by-cons (one_of a) b [] in omega (arith, sum_by-append (one_of a) earlier (b ∷ []), one)

pub times_here : (a b : Author) (earlier : List Author) → is_same a b ≡ true → times a (earlier ++ b ∷ []) ≡ times a earlier + 1
times_here a b earlier same = times_more a b earlier ∙ ap (λ (t : Bool). times a earlier + cond t 1 0) same

pub times_there : (a b : Author) (earlier : List Author) → is_same a b ≡ false → times a (earlier ++ b ∷ []) ≡ times a earlier
times_there a b earlier other = let e : times a (earlier ++ b ∷ []) ≡ times a earlier + 0 = times_more a b earlier ∙ ap (λ (t : Bool). times a earlier + cond t 1 0) other in omega arith

-- ---- entry by entry

entries_from : (place : ℕ) (earlier authors : List Author) → map (λ (m : Mark). m.entry) (marks_from place earlier authors) ≡ range_with_len place (length authors)
entries_from place earlier [] = refl
entries_from place earlier (a ∷ authors) = ap (λ (ns : List ℕ). place ∷ ns) (entries_from (place + 1) (earlier ++ a ∷ []) authors)

authors_from : (place : ℕ) (earlier authors : List Author) → map (λ (m : Mark). m.author) (marks_from place earlier authors) ≡ authors
authors_from place earlier [] = refl
authors_from place earlier (a ∷ authors) = ap (λ (l : List Author). a ∷ l) (authors_from (place + 1) (earlier ++ a ∷ []) authors)

pub entries_are : (s : Signed) → map (λ (m : Mark). m.entry) (marks_of s) ≡ range_with_len s.opening (length s.authors)
entries_are s = entries_from s.opening [] s.authors

pub authors_are : (s : Signed) → map (λ (m : Mark). m.author) (marks_of s) ≡ s.authors
authors_are s = authors_from s.opening [] s.authors

-- the mark at a place behind the authors of earlier entries
abbrev pub mark_at : ℕ → List Author → Author → Mark
mark_at place earlier a = record { entry = place; author = a; count = times a earlier + 1 }

same_mark : (m n : ℕ) (xs ys : List Author) (a : Author) → m ≡ n → xs ≡ ys → mark_at m xs a ≡ mark_at n ys a
same_mark m n xs ys a e f = let F : (ℕ × List Author) → Mark = λ x. mark_at x.0 x.1 a in ap F (λ i. (e i, f i))

marked_from : (place : ℕ) (earlier authors : List Author) (k : ℕ) (a : Author) → slice_get authors k ≡ Some a → slice_get (marks_from place earlier authors) k ≡ Some (mark_at (place + k) (earlier ++ take k authors) a)
marked_from place earlier [] k a at = absurd (cc)
marked_from place earlier (b ∷ authors) zero a at =
    let same : b ≡ a = (let h : Some b ≡ Some a = at in cc) in
    ap (λ (x : Author). Some (mark_at place earlier x)) same
    ∙ ap (λ (m : Mark). Some m) (same_mark place (place + 0) earlier (earlier ++ []) a (omega arith) (sym (append-nil earlier)))
marked_from place earlier (b ∷ authors) (suc k) a at =
    marked_from (place + 1) (earlier ++ b ∷ []) authors k a at
    ∙ ap (λ (m : Mark). Some m) (same_mark (place + 1 + k) (place + suc k) ((earlier ++ b ∷ []) ++ take k authors) (earlier ++ b ∷ take k authors) a (omega arith) (append_assoc earlier (b ∷ []) (take k authors)))

pub marked : (s : Signed) (k : ℕ) (a : Author) → slice_get s.authors k ≡ Some a → slice_get (marks_of s) k ≡ Some (mark_of s k a)
marked s k a at = marked_from s.opening [] s.authors k a at

-- one more mark
marks_more : (place : ℕ) (earlier authors : List Author) (a : Author) → marks_from place earlier (authors ++ a ∷ []) ≡ marks_from place earlier authors ++ mark_at (place + length authors) (earlier ++ authors) a ∷ []
marks_more place earlier [] a = ap (λ (m : Mark). m ∷ []) (same_mark place (place + 0) earlier (earlier ++ []) a (omega arith) (sym (append-nil earlier)))
marks_more place earlier (b ∷ authors) a =
    let rest = marks_more (place + 1) (earlier ++ b ∷ []) authors a in
    let last = same_mark (place + 1 + length authors) (place + suc (length authors)) ((earlier ++ b ∷ []) ++ authors) (earlier ++ b ∷ authors) a (omega arith) (append_assoc earlier (b ∷ []) authors) in
    ap (λ (ms : List Mark). mark_at place earlier b ∷ ms) (rest ∙ ap (λ (m : Mark). marks_from (place + 1) (earlier ++ b ∷ []) authors ++ m ∷ []) last)

pub one_more : (opening : ℕ) (authors : List Author) (a : Author)
    → marks_of (record { opening = opening; authors = authors ++ a ∷ [] }) ≡ marks_of (record { opening = opening; authors = authors }) ++ mark_at (opening + length authors) authors a ∷ []
one_more opening authors a = marks_more opening [] authors a

-- ---- author by author

counts_by : (a b : Author) (place : ℕ) (earlier authors : List Author) (t : Bool) → is_same a b ≡ t
    → counts_of a (marks_from (place + 1) (earlier ++ b ∷ []) authors) ≡ range_with_len (times a (earlier ++ b ∷ []) + 1) (times a authors)
    → counts_of a (marks_from place earlier (b ∷ authors)) ≡ range_with_len (times a earlier + 1) (times a (b ∷ authors))
counts_by a b place earlier authors true same rest =
    let F : Bool → List ℕ = λ t.
    map (λ (m : Mark). m.count) (cond t (mark_at place earlier b ∷ filter (λ m. is_same a m.author) (marks_from (place + 1) (earlier ++ b ∷ []) authors)) (filter (λ m. is_same a m.author) (marks_from (place + 1) (earlier ++ b ∷ []) authors))) in
    let more : times a (b ∷ authors) ≡ suc (times a authors) =
    (let one : one_of a b ≡ 1 = ap (λ (t : Bool). cond t 1 0) same in let sum = sum_by-cons (one_of a) b authors in omega (arith, one, sum)) in
    let first : times b earlier + 1 ≡ times a earlier + 1 = ap (λ (x : Author). times x earlier + 1) (sym (same_author a b same)) in
    let next : times a (earlier ++ b ∷ []) + 1 ≡ times a earlier + 1 + 1 = ap (λ (n : ℕ). n + 1) (times_here a b earlier same) in
    ap F same ∙ ap (λ (ns : List ℕ). (times b earlier + 1) ∷ ns) (rest ∙ ap (λ (n : ℕ). range_with_len n (times a authors)) next)
    ∙ ap (λ (n : ℕ). n ∷ range_with_len (times a earlier + 1 + 1) (times a authors)) first ∙ ap (λ (n : ℕ). range_with_len (times a earlier + 1) n) (sym more)
counts_by a b place earlier authors false other rest =
    let F : Bool → List ℕ = λ t.
    map (λ (m : Mark). m.count) (cond t (mark_at place earlier b ∷ filter (λ m. is_same a m.author) (marks_from (place + 1) (earlier ++ b ∷ []) authors)) (filter (λ m. is_same a m.author) (marks_from (place + 1) (earlier ++ b ∷ []) authors))) in
    let same : times a (b ∷ authors) ≡ times a authors =
    (let none : one_of a b ≡ 0 = ap (λ (t : Bool). cond t 1 0) other in let sum = sum_by-cons (one_of a) b authors in omega (arith, none, sum)) in
    ap F other ∙ rest ∙ ap (λ (n : ℕ). range_with_len (n + 1) (times a authors)) (times_there a b earlier other) ∙ ap (λ (n : ℕ). range_with_len (times a earlier + 1) n) (sym same)

counts_from : (a : Author) (place : ℕ) (earlier authors : List Author) → counts_of a (marks_from place earlier authors) ≡ range_with_len (times a earlier + 1) (times a authors)
counts_from a place earlier [] = refl
counts_from a place earlier (b ∷ authors) = counts_by a b place earlier authors (is_same a b) refl (counts_from a (place + 1) (earlier ++ b ∷ []) authors)

pub counts_are : (s : Signed) (a : Author) → counts_of a (marks_of s) ≡ range_with_len 1 (times a s.authors)
counts_are s a = counts_from a s.opening [] s.authors
