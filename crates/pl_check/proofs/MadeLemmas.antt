-- The kinds and timelines of the text, by number, and what each becomes.
use Rattle.std.proofs.Common.{◌≡◌, ℕ, zero, suc, ◌+◌, Bool, cond, List, [], ◌∷◌, Option, Some, None, Ok, All, map, take, count_by, slice_get, sym, ap, subst, ◌∙◌, arith}
use Rattle.std.specs.List.{filter_map}
use Rattle.std.proofs.lemmas.List.Elements.{All-nil, All-cons, All-head, All-tail}
use Rattle.std.proofs.lemmas.List.Sums.{sum_by-append}
use Rattle.pl_syntax.specs.declared.whole.Item.{Item}
use Rattle.pl_syntax.specs.declared.whole.Item.TheVariants as item
use Rattle.pl_syntax.specs.declared.timelines.AstTimeline.{AstTimeline}
use Rattle.pl_syntax.specs.declared.kinds.AstKind.{AstKind}
use Rattle.pl_check.specs.declared.drafts.Draft.{Draft}
use Rattle.pl_check.specs.declared.drafts.Draft.TheVariants as draft
use Rattle.pl_check.specs.Names.{Name, place_of, item_name}
use Rattle.pl_check.specs.Finding.{is_kind, is_line, kind_with, line_with, kind_at, line_at, kind_named, line_named}
use Rattle.pl_check.specs.Numbering.{numbered_line, numbered_kind, numbered_item}
use Rattle.pl_check.specs.Drafting.{lines_in, kinds_in}
use Rattle.pl_lists.specs.Lists.{Pairwise}
use Rattle.pl_lists.proofs.Judging.{bind_ok}
use Rattle.pl_check.proofs.PairLemmas.{and_then_some, Makes}

abbrev pub written_kind : Item → Option AstKind
written_kind (item.Timeline l) = None
written_kind (item.Kind k) = Some k

abbrev pub written_line : Item → Option AstTimeline
written_line (item.Timeline l) = Some l
written_line (item.Kind k) = None

abbrev pub written_kinds : List Item → List AstKind
written_kinds items = filter_map written_kind items

abbrev pub written_lines : List Item → List AstTimeline
written_lines items = filter_map written_line items

-- what holds of each kind, and of each timeline, by what holds of each item
pub kinds_such : (P : AstKind → Type 0) (Q : Item → Type 0) → ((k : AstKind) → Q (item.Kind k) → P k) → (items : List Item) → All Q items → All P (written_kinds items)
kinds_such P Q f [] h = All-nil P
kinds_such P Q f (item.Timeline l ∷ items) h = kinds_such P Q f items (All-tail Q (item.Timeline l) items h)
kinds_such P Q f (item.Kind k ∷ items) h = All-cons P k (written_kinds items) (f k (All-head Q (item.Kind k) items h)) (kinds_such P Q f items (All-tail Q (item.Kind k) items h))

pub lines_such : (P : AstTimeline → Type 0) (Q : Item → Type 0) → ((l : AstTimeline) → Q (item.Timeline l) → P l) → (items : List Item) → All Q items → All P (written_lines items)
lines_such P Q f [] h = All-nil P
lines_such P Q f (item.Kind k ∷ items) h = lines_such P Q f items (All-tail Q (item.Kind k) items h)
lines_such P Q f (item.Timeline l ∷ items) h = All-cons P l (written_lines items) (f l (All-head Q (item.Timeline l) items h)) (lines_such P Q f items (All-tail Q (item.Timeline l) items h))

-- ---- an item is numbered by those of its sort before it

counts_more : {X : Type 0} (test : X → Bool) (x : X) (xs : List X) → count_by test (x ∷ xs) ≡ cond (test x) 1 0 + count_by test xs
counts_more test x xs = omega (arith, sum_by-append (λ y. cond (test y) 1 0) (x ∷ []) xs)

kind_placed : (items : List Item) (i : ℕ) (k : AstKind) → slice_get items i ≡ Some (item.Kind k) → slice_get (written_kinds items) (count_by is_kind (take i items)) ≡ Some k
kind_placed [] i k h = absurd (cc)
kind_placed (item.Timeline l ∷ items) zero k h = absurd (cc)
kind_placed (item.Kind j ∷ items) zero k h = let same : j ≡ k = cc in ap Some same
kind_placed (item.Timeline l ∷ items) (suc i) k h =
    let same : count_by is_kind (take (suc i) (item.Timeline l ∷ items)) ≡ count_by is_kind (take i items) = omega arith in
    subst (λ n. slice_get (written_kinds items) n ≡ Some k) (sym same) (kind_placed items i k h)
kind_placed (item.Kind j ∷ items) (suc i) k h =
    let same : count_by is_kind (take (suc i) (item.Kind j ∷ items)) ≡ suc (count_by is_kind (take i items)) = omega (arith, counts_more is_kind (item.Kind j) (take i items)) in
    subst (λ n. slice_get (j ∷ written_kinds items) n ≡ Some k) (sym same) (kind_placed items i k h)

line_placed : (items : List Item) (i : ℕ) (l : AstTimeline) → slice_get items i ≡ Some (item.Timeline l) → slice_get (written_lines items) (count_by is_line (take i items)) ≡ Some l
line_placed [] i l h = absurd (cc)
line_placed (item.Kind k ∷ items) zero l h = absurd (cc)
line_placed (item.Timeline j ∷ items) zero l h = let same : j ≡ l = cc in ap Some same
line_placed (item.Kind k ∷ items) (suc i) l h =
    let same : count_by is_line (take (suc i) (item.Kind k ∷ items)) ≡ count_by is_line (take i items) = omega arith in
    subst (λ n. slice_get (written_lines items) n ≡ Some l) (sym same) (line_placed items i l h)
line_placed (item.Timeline j ∷ items) (suc i) l h =
    let same : count_by is_line (take (suc i) (item.Timeline j ∷ items)) ≡ suc (count_by is_line (take i items)) = omega (arith, counts_more is_line (item.Timeline j) (take i items)) in
    subst (λ n. slice_get (j ∷ written_lines items) n ≡ Some l) (sym same) (line_placed items i l h)

kind_with_is : (n : ℕ) (x : Item) (found : ℕ × AstKind) → kind_with n x ≡ Some found → (x ≡ item.Kind found.1) × (n ≡ found.0)
kind_with_is n (item.Timeline l) found h = absurd (cc)
kind_with_is n (item.Kind k) found h = let same : (n, k) ≡ found = cc in (ap (λ (f : ℕ × AstKind). item.Kind f.1) same, ap (λ (f : ℕ × AstKind). f.0) same)

line_with_is : (n : ℕ) (x : Item) (found : ℕ × AstTimeline) → line_with n x ≡ Some found → (x ≡ item.Timeline found.1) × (n ≡ found.0)
line_with_is n (item.Kind k) found h = absurd (cc)
line_with_is n (item.Timeline l) found h = let same : (n, l) ≡ found = cc in (ap (λ (f : ℕ × AstTimeline). item.Timeline f.1) same, ap (λ (f : ℕ × AstTimeline). f.0) same)

pub kind_found : (items : List Item) (name : Name) (found : ℕ × AstKind) → kind_named items name ≡ Some found → slice_get (written_kinds items) found.0 ≡ Some found.1
kind_found items name found h =
    let place = and_then_some (kind_at items) (place_of (map item_name items) name) found h in
    let at = and_then_some (kind_with (count_by is_kind (take place.0 items))) (slice_get items place.0) found place.2 in
    let is = kind_with_is (count_by is_kind (take place.0 items)) at.0 found at.2 in
    subst (λ n. slice_get (written_kinds items) n ≡ Some found.1) is.1 (kind_placed items place.0 found.1 (at.1 ∙ ap Some is.0))

pub line_found : (items : List Item) (name : Name) (found : ℕ × AstTimeline) → line_named items name ≡ Some found → slice_get (written_lines items) found.0 ≡ Some found.1
line_found items name found h =
    let place = and_then_some (line_at items) (place_of (map item_name items) name) found h in
    let at = and_then_some (line_with (count_by is_line (take place.0 items))) (slice_get items place.0) found place.2 in
    let is = line_with_is (count_by is_line (take place.0 items)) at.0 found at.2 in
    subst (λ n. slice_get (written_lines items) n ≡ Some found.1) is.1 (line_placed items place.0 found.1 (at.1 ∙ ap Some is.0))

-- ---- what each kind and each timeline becomes

pub made_kinds : (all items : List Item) (drafts : List Draft) → Pairwise (Makes (numbered_item all)) items drafts → Pairwise (Makes (numbered_kind all)) (written_kinds items) (kinds_in drafts)
made_kinds all [] [] h = tt
made_kinds all [] (d ∷ drafts) h = absurd h
made_kinds all (x ∷ items) [] h = absurd h
made_kinds all (item.Timeline l ∷ items) (draft.Timeline t ∷ drafts) h = made_kinds all items drafts h.1
made_kinds all (item.Timeline l ∷ items) (draft.Kind d ∷ drafts) h =
    let made = bind_ok (numbered_line l) (λ x. Ok (draft.Timeline x)) (draft.Kind d) h.0 in absurd (cc made.2)
made_kinds all (item.Kind k ∷ items) (draft.Timeline t ∷ drafts) h =
    let made = bind_ok (numbered_kind all k) (λ x. Ok (draft.Kind x)) (draft.Timeline t) h.0 in absurd (cc made.2)
made_kinds all (item.Kind k ∷ items) (draft.Kind d ∷ drafts) h =
    let made = bind_ok (numbered_kind all k) (λ x. Ok (draft.Kind x)) (draft.Kind d) h.0 in
    let same : made.0 ≡ d = cc made.2 in
    (made.1 ∙ ap Ok same, made_kinds all items drafts h.1)

pub made_lines : (all items : List Item) (drafts : List Draft) → Pairwise (Makes (numbered_item all)) items drafts → Pairwise (Makes numbered_line) (written_lines items) (lines_in drafts)
made_lines all [] [] h = tt
made_lines all [] (d ∷ drafts) h = absurd h
made_lines all (x ∷ items) [] h = absurd h
made_lines all (item.Kind k ∷ items) (draft.Kind d ∷ drafts) h = made_lines all items drafts h.1
made_lines all (item.Timeline l ∷ items) (draft.Kind d ∷ drafts) h =
    let made = bind_ok (numbered_line l) (λ x. Ok (draft.Timeline x)) (draft.Kind d) h.0 in absurd (cc made.2)
made_lines all (item.Kind k ∷ items) (draft.Timeline t ∷ drafts) h =
    let made = bind_ok (numbered_kind all k) (λ x. Ok (draft.Kind x)) (draft.Timeline t) h.0 in absurd (cc made.2)
made_lines all (item.Timeline l ∷ items) (draft.Timeline t ∷ drafts) h =
    let made = bind_ok (numbered_line l) (λ x. Ok (draft.Timeline x)) (draft.Timeline t) h.0 in
    let same : made.0 ≡ t = cc made.2 in
    (made.1 ∙ ap Ok same, made_lines all items drafts h.1)
