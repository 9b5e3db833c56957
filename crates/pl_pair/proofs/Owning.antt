-- Who owns which place of a history: nobody of a crew what was handed in, and somebody each place behind it.
use Rattle.std.proofs.Common.{◌≡◌, ℕ, zero, suc, ◌+◌, ◌-◌, ◌<◌, ◌≤◌, ◌==◌, List, [], ◌∷◌, ◌++◌, length, take, get_or, Bool, true, false, cond, is_some, Option, Some, None, slice_get, refl, sym, ◌∙◌, ap, subst, arith}
use Rattle.std.specs.List.{All, Contains}
use Rattle.std.proofs.lemmas.Bool.{eqb-true}
use Rattle.std.proofs.lemmas.List.{append-nil}
use Rattle.std.proofs.lemmas.List.Sums.{sum_by-cons}
use Rattle.std.proofs.lemmas.List.Elements.{All-nil, All-cons, All-contains}
use Rattle.std.proofs.lemmas.Option.{slice_get_within, slice_get-get_or, get_or_from_slice_get}
use mathlib.Core.List.{IsPrefix}
use mathlib.Core.Logic.{dite}
use native.Mathlib.Decide.{dec_le}
use Rattle.pl_turn.specs.History.{IsEachOnce, StandsFrom, StandsIn, times_at, times_in}
use Rattle.pl_turn.proofs.Histories.{prefix_get}
use Rattle.pl_marks.specs.declared.author.Author.{Author}
use Rattle.pl_marks.specs.declared.author.Author.TheVariants.{Feeder}
use Rattle.pl_model.specs.declared.whole.Model.{Model}
use Rattle.pl_entry.specs.declared.entry.Entry.{Entry}
use Rattle.pl_acts.specs.declared.noted.Noted.{Noted}
use Rattle.pl_acts.specs.declared.noted.Noted.TheVariants.{Opened, Made, Stopped}
use Rattle.pl_acts.specs.Items.{Signs, handed_in, made_items, stop_items, items_of, is_stop, signer_in}
use Rattle.pl_acts.proofs.Items.{length_stopped, length_going}
use Rattle.pl_pair.specs.Served.{AreSigned, IsSomeones, AreHandedIn}

-- ---- items by place

-- nobody of the crew made it
abbrev pub IsHanded : Noted → Type 0
IsHanded i = signer_in i ≡ None

-- somebody did
abbrev pub IsTheirs : Noted → Type 0
IsTheirs i = (a : Author) × (signer_in i ≡ Some a)

never_both : (i : Noted) → IsHanded i → IsTheirs i → ⊥
never_both i handed by = (let h : None ≡ Some by.0 = sym handed ∙ by.1 in (cc))

-- an entry of this author's, at a place that is told
abbrev pub IsEntryOf : Author → Noted → Type 0
IsEntryOf a i = (is_stop i ≡ false) × (signer_in i ≡ Some a)

same_item : (x i : Noted) → Some x ≡ Some i → x ≡ i
same_item x i e = (cc)

no_item : {A : Type 0} (i : Noted) → None ≡ Some i → A
no_item i e = absurd (cc)

stop_theirs : (t : Option Author) (p : ℕ) (i : Noted) → slice_get (stop_items t) p ≡ Some i → IsTheirs i
stop_theirs (Some by) zero i at = (by, sym (ap signer_in (same_item (Stopped by) i at)))
stop_theirs (Some by) (suc p) i at = no_item i at
stop_theirs None p i at = no_item i at

-- of entries behind the open one, the first so many of which were handed in
made_before : (k : ℕ) (authors : List Author) (es : List Entry) (t : Option Author) (p : ℕ) (i : Noted) → p < k → p < length es → slice_get (made_items k authors es ++ stop_items t) p ≡ Some i → IsHanded i
made_before zero authors es t p i few within at = absurd (omega (arith, few))
made_before (suc k) authors [] t p i few within at = absurd (omega (arith, within))
made_before (suc k) authors (x ∷ es) t zero i few within at = sym (ap signer_in (same_item (Made None x) i at))
made_before (suc k) authors (x ∷ es) t (suc p) i few within at = made_before k authors es t p i (omega arith) (omega arith) at

made_behind : (k : ℕ) (authors : List Author) (es : List Entry) (t : Option Author) (p : ℕ) (i : Noted) → length es ≡ k + length authors → k ≤ p → slice_get (made_items k authors es ++ stop_items t) p ≡ Some i → IsTheirs i
made_behind (suc k) authors [] t p i long past at = absurd (omega (arith, long))
made_behind (suc k) authors (x ∷ es) t zero i long past at = absurd (omega (arith, past))
made_behind (suc k) authors (x ∷ es) t (suc p) i long past at = made_behind k authors es t p i (omega (arith, long)) (omega arith) at
made_behind zero [] [] t p i long past at = stop_theirs t p i at
made_behind zero [] (x ∷ es) t p i long past at = absurd (omega (arith, long))
made_behind zero (a ∷ authors) [] t p i long past at = absurd (omega (arith, long))
made_behind zero (a ∷ authors) (x ∷ es) t zero i long past at = (a, sym (ap signer_in (same_item (Made (Some a) x) i at)))
made_behind zero (a ∷ authors) (x ∷ es) t (suc p) i long past at = made_behind zero authors es t p i (omega (arith, long)) (omega arith) at

made_at : (k : ℕ) (authors : List Author) (es : List Entry) (t : Option Author) (q : ℕ) (a : Author) (i : Noted) → length es ≡ k + length authors → slice_get authors q ≡ Some a → slice_get (made_items k authors es ++ stop_items t) (k + q) ≡ Some i → IsEntryOf a i
made_at (suc k) authors [] t q a i long by at = absurd (omega (arith, long))
made_at (suc k) authors (x ∷ es) t q a i long by at =
    made_at k authors es t q a i (omega (arith, long)) by (ap (λ (p : ℕ). slice_get (made_items (suc k) authors (x ∷ es) ++ stop_items t) p) (let e : suc (k + q) ≡ suc k + q = omega arith in e) ∙ at)
made_at zero [] es t q a i long by at = absurd (let h : None ≡ Some a = by in (cc))
made_at zero (b ∷ authors) [] t q a i long by at = absurd (omega (arith, long))
made_at zero (b ∷ authors) (x ∷ es) t zero a i long by at =
    let same : b ≡ a = (let h : Some b ≡ Some a = by in (cc)) in
    let is : Made (Some b) x ≡ i = same_item (Made (Some b) x) i at in
    (sym (ap is_stop is), sym (ap signer_in is) ∙ ap (λ (c : Author). Some c) same)
made_at zero (b ∷ authors) (x ∷ es) t (suc q) a i long by at =
    made_at zero authors es t q a i (omega (arith, long)) by (ap (λ (p : ℕ). slice_get (made_items zero (b ∷ authors) (x ∷ es) ++ stop_items t) p) (let e : suc (zero + q) ≡ zero + suc q = omega arith in e) ∙ at)

-- of a whole history
module _ (m : Model) (log : List Entry) (s : Signs) (some : 0 < s.by.opening) (each : s.by.opening + length s.by.authors ≡ length log) where
  before_by : (log2 : List Entry) → log ≡ log2 → (p : ℕ) (i : Noted) → p < s.by.opening → p < length log2 → slice_get (items_of m log2 s) p ≡ Some i → IsHanded i
  unfolding items_of
  before_by [] same p i few within at = absurd (omega (arith, within))
  before_by (first ∷ es) same zero i few within at = sym (ap signer_in (same_item (Opened m s.by.opening first) i at))
  before_by (first ∷ es) same (suc p) i few within at = made_before (s.by.opening - 1) s.by.authors es s.stopper p i (omega (arith, few)) (omega (arith, within)) at

  before_opening : (p : ℕ) (i : Noted) → p < s.by.opening → p < length log → slice_get (items_of m log s) p ≡ Some i → IsHanded i
  before_opening p i few within at = before_by log refl p i few within at

  behind_by : (log2 : List Entry) → log ≡ log2 → (p : ℕ) (i : Noted) → s.by.opening ≤ p → slice_get (items_of m log2 s) p ≡ Some i → IsTheirs i
  unfolding items_of
  behind_by [] same p i past at = absurd (let long = ap length same in omega (arith, long, some, each))
  behind_by (first ∷ es) same zero i past at = absurd (omega (arith, some, past))
  behind_by (first ∷ es) same (suc p) i past at = (let long = ap length same in made_behind (s.by.opening - 1) s.by.authors es s.stopper p i (omega (arith, long, each, some)) (omega (arith, past, some)) at)

  behind_opening : (p : ℕ) (i : Noted) → s.by.opening ≤ p → slice_get (items_of m log s) p ≡ Some i → IsTheirs i
  behind_opening p i past at = behind_by log refl p i past at

  entry_by : (log2 : List Entry) → log ≡ log2 → (p q : ℕ) (a : Author) (i : Noted) → p ≡ s.by.opening + q → slice_get s.by.authors q ≡ Some a → slice_get (items_of m log2 s) p ≡ Some i → IsEntryOf a i
  unfolding items_of
  entry_by [] same p q a i is by at = absurd (let long = ap length same in omega (arith, long, some, each))
  entry_by (first ∷ es) same zero q a i is by at = absurd (omega (arith, some, is))
  entry_by (first ∷ es) same (suc p) q a i is by at =
      let long = ap length same in
      let place : p ≡ s.by.opening - 1 + q = omega (arith, is, some) in
      made_at (s.by.opening - 1) s.by.authors es s.stopper q a i (omega (arith, long, each, some)) by (ap (λ (n : ℕ). slice_get (made_items (s.by.opening - 1) s.by.authors es ++ stop_items s.stopper) n) (sym place) ∙ at)

  pub entry_at : (q : ℕ) (a : Author) (i : Noted) → slice_get s.by.authors q ≡ Some a → slice_get (items_of m log s) (s.by.opening + q) ≡ Some i → IsEntryOf a i
  entry_at q a i by at = entry_by log refl (s.by.opening + q) q a i refl by at

-- nobody of a crew made what was handed in
handed_made : (k : ℕ) (es : List Entry) → All IsHanded (made_items k [] es)
handed_made (suc k) [] = All-nil IsHanded
handed_made (suc k) (e ∷ es) = All-cons IsHanded (Made None e) (made_items k [] es) refl (handed_made k es)
handed_made zero [] = All-nil IsHanded
handed_made zero (e ∷ es) = All-cons IsHanded (Made None e) (made_items zero [] es) refl (handed_made zero es)

pub handed_are : (m : Model) (log : List Entry) → AreHandedIn (items_of m log (handed_in log))
unfolding items_of
handed_are m [] = All-nil IsHanded
handed_are m (first ∷ es) =
    subst (All IsHanded) (sym (append-nil (Opened m (length (first ∷ es)) first ∷ made_items (length (first ∷ es) - 1) [] es))) (All-cons IsHanded (Opened m (length (first ∷ es)) first) (made_items (length (first ∷ es) - 1) [] es) refl (handed_made (length (first ∷ es) - 1) es))

-- ---- own items by place

contains_head : {A : Type 0} (x : A) (xs : List A) → Contains (x ∷ xs) x
contains_head x xs = (0, omega arith, refl)

contains_tail : {A : Type 0} (x y : A) (xs : List A) → Contains xs y → Contains (x ∷ xs) y
contains_tail x y xs c = (suc c.0, (let lt = c.1 in omega arith), c.2)

pub contains_at : {A : Type 0} (xs : List A) (k : ℕ) (x : A) → slice_get xs k ≡ Some x → Contains xs x
contains_at xs k x at = (k, slice_get_within xs k x at, get_or_from_slice_get xs k x x at)

pub stands_at : (h : List Noted) (low : ℕ) (own : List (ℕ × Noted)) → StandsFrom h low own → (place : ℕ) (i : Noted) → Contains own (place, i) → slice_get h place ≡ Some i
stands_at h low [] stands place i c = absurd (let lt = c.1 in omega arith)
stands_at h low (x ∷ own) stands place i (zero, within, is) = (let P : (ℕ × Noted) → Type 0 = λ y. slice_get h y.0 ≡ Some y.1 in subst P is stands.1)
stands_at h low (x ∷ own) stands place i (suc k, within, is) = stands_at h (suc x.0) own stands.2 place i (k, omega arith, is)

-- the first of these, or one behind it
own_first : (place : ℕ) (x : ℕ × Noted) (own : List (ℕ × Noted)) (b : Bool) → (x.0 == place) ≡ b → (◌≡◌ {A = ℕ} (cond (x.0 == place) 1 0) 0 → (i : Noted) × Contains own (place, i)) → (i : Noted) × Contains (x ∷ own) (place, i)
own_first place x own true here rest = (x.1, (0, omega arith, λ j. (eqb-true x.0 place here j, x.1)))
own_first place x own false there rest = (let r = rest (ap (λ (b : Bool). cond b 1 0) there) in (r.0, contains_tail x (place, r.0) own r.1))

own_at : (place : ℕ) (own : List (ℕ × Noted)) → 0 < times_at place own → (i : Noted) × Contains own (place, i)
own_at place [] some = absurd (omega (arith, some))
own_at place (x ∷ own) some =
    own_first place x own (x.0 == place) refl (λ none. own_at place own (let sum = sum_by-cons (λ (y : ℕ × Noted). cond (y.0 == place) 1 0) x own in omega (arith, sum, none, some)))

abbrev HasAt : ℕ → List (ℕ × Noted) → Type 0
HasAt place own = 0 < times_at place own

owner_first : (place : ℕ) (own : List (ℕ × Noted)) (lists : List (List (ℕ × Noted))) (n : ℕ) → times_at place own ≡ n → (n ≡ 0 → (l : List (ℕ × Noted)) × Contains lists l × HasAt place l) → (l : List (ℕ × Noted)) × Contains (own ∷ lists) l × HasAt place l
owner_first place own lists (suc n) here rest = (own, contains_head own lists, omega (arith, here))
owner_first place own lists zero none rest = (let r = rest refl in (r.0, contains_tail own r.0 lists r.1, r.2))

owner_at : (place : ℕ) (lists : List (List (ℕ × Noted))) → 0 < times_in place lists → (l : List (ℕ × Noted)) × Contains lists l × HasAt place l
owner_at place [] some = absurd (omega (arith, some))
owner_at place (own ∷ lists) some =
    owner_first place own lists (times_at place own) refl (λ none. owner_at place lists (let sum = sum_by-cons (times_at place) own lists in omega (arith, sum, none, some)))

abbrev pub SignedBy : Author → ℕ × Noted → Type 0
SignedBy by x = signer_in x.1 ≡ Some by

pub whose_is : (own : List (ℕ × Noted)) (a : Author) (i : Noted) → IsSomeones own → (place : ℕ) → Contains own (place, i) → IsEntryOf a i → AreSigned a own
whose_is own a i whose place has entry =
    let same : whose.0 ≡ a = (let h : Some whose.0 ≡ Some a = sym (All-contains (SignedBy whose.0) own (place, i) whose.1 has) ∙ entry.1 in (cc)) in
    subst (λ (b : Author). AreSigned b own) same whose.1

get_take : (n : ℕ) (xs : List Noted) (k : ℕ) (x : Noted) → k < n → slice_get xs k ≡ Some x → slice_get (take n xs) k ≡ Some x
get_take zero xs k x few at = absurd (omega (arith, few))
get_take (suc n) [] k x few at = no_item x at
get_take (suc n) (y ∷ xs) zero x few at = at
get_take (suc n) (y ∷ xs) (suc k) x few at = get_take n xs k x (omega arith) at

-- ---- a history whose places past its opening stand in these lists

module _ (m : Model) (log : List Entry) (s : Signs) (some : 0 < s.by.opening) (each : s.by.opening + length s.by.authors ≡ length log) (lists : List (List (ℕ × Noted))) (from : ℕ) (stands : All (StandsIn (items_of m log s)) lists)
    (owners : IsEachOnce from (length (items_of m log s)) (λ place. times_in place lists)) (theirs : All IsSomeones lists) where
  abbrev whole : List Noted
  whole = items_of m log s

  whole_by : (t : Bool) → is_some s.stopper ≡ t → length log ≤ length whole
  whole_by true is = (let e = length_stopped m log s is in omega (arith, e))
  whole_by false is = (let e = length_going m log s is in omega (arith, e))

  pub whole_long : length log ≤ length whole
  whole_long = whole_by (is_some s.stopper) refl

  -- whose the item at a place past the opening is: it stands in one of the lists, which is somebody's
  pub record Owned (place : ℕ) : Type 0 where
    pub own : List (ℕ × Noted)
    pub item : Noted
    pub one : Contains lists own
    pub has : Contains own (place, item)
    pub at : slice_get whole place ≡ Some item
    pub whose : IsSomeones own

  pub owned : (place : ℕ) → from ≤ place → place < length whole → Owned place
  owned place past within =
      let once = owners.inside place past within in
      let l = owner_at place lists (omega (arith, once)) in
      let i = own_at place l.0 l.2 in
      record {
        own = l.0;
        item = i.0;
        one = l.1;
        has = i.1;
        at = stands_at whole 0 l.0 (All-contains (StandsIn whole) lists l.0 stands l.1) place i.0 i.1;
        whose = All-contains IsSomeones lists l.0 theirs l.1;
      }

  own_theirs : (own : List (ℕ × Noted)) → IsSomeones own → (place : ℕ) (i : Noted) → Contains own (place, i) → IsTheirs i
  own_theirs own whose place i has = (whose.0, All-contains (SignedBy whose.0) own (place, i) whose.1 has)

  low : s.by.opening ≤ from
  low = dite (dec_le s.by.opening from) (λ (le : s.by.opening ≤ from). le) (λ (over : s.by.opening ≤ from → ⊥). absurd (
      let long = whole_long in
      let within : from < length log = omega (arith, each) in
      let r = owned from (omega arith) (omega (arith, long)) in
      never_both r.item (before_opening m log s some each from r.item (omega arith) within r.at) (own_theirs r.own r.whose from r.item r.has)))

  module _ (seen : List Noted) (on : IsPrefix seen (items_of m log s)) (long : from ≤ length seen) (handed : AreHandedIn (take from seen)) where
    high : from ≤ s.by.opening
    high = dite (dec_le from s.by.opening) (λ (le : from ≤ s.by.opening). le) (λ (over : from ≤ s.by.opening → ⊥). absurd (
        let here : s.by.opening < from = omega arith in
        let found = slice_get-get_or seen s.by.opening (Stopped Feeder) (omega (arith, long)) in
        let i : Noted = get_or seen s.by.opening (Stopped Feeder) in
        let at : slice_get whole s.by.opening ≡ Some i = prefix_get seen whole s.by.opening i on found in
        never_both i (All-contains IsHanded (take from seen) i handed (contains_at (take from seen) s.by.opening i (get_take from seen s.by.opening i here found))) (behind_opening m log s some each s.by.opening i (omega arith) at)))

    -- as many entries were handed in as the history had then
    pub opening_is : s.by.opening ≡ from
    opening_is = (let le = low in let ge = high in omega (arith, le, ge))
