-- What the own lists of the threads hold: how often a place stands in one, and which hold no inputs.
use Rattle.std.proofs.Common.{◌≡◌, ◌≢◌, ℕ, suc, ◌≤◌, List, [], ◌∷◌, ◌++◌, length, cond, nat_eq, Bool, true, false, Option, Some, None, slice_get, refl, sym, ◌∙◌, ap, subst, arith, inl, inr, ne_eqb}
use Rattle.std.specs.List.{All}
use Rattle.std.proofs.lemmas.Bool.{eqb-true}
use Rattle.std.proofs.lemmas.List.Sums.{sum_by-cons}
use Rattle.std.proofs.lemmas.List.Elements.{All-nil, All-cons, All-head, All-tail, All-append}
use Rattle.std.proofs.lemmas.Option.{slice_get_within, same_Some}
use Rattle.pl_turn.specs.History.{StandsFrom, StandsIn, times_at, times_in}
use Rattle.pl_turn.proofs.Owning.{spends_true}
use Rattle.pl_entry.specs.declared.event.Event.{Event}
use Rattle.pl_entry.specs.declared.event.Event.TheVariants as event
use Rattle.pl_machine.specs.declared.stop.Stop.{Stop}
use Rattle.pl_acts.specs.declared.noted.Noted.{Noted}
use Rattle.pl_acts.specs.declared.noted.Noted.TheVariants.{Opened, Made, Stopped}
use Rattle.pl_acts.specs.Roles.{is_input, is_repair, is_executed, is_entry}
use Rattle.pl_pair.specs.Served as serving
use Rattle.pl_pair.specs.Served.{AreOf, IsStopAtMost}
use Rattle.pl_pair.specs.Feeds.{IsInput, AreInputs}

-- ---- how often a place stands in an own list

abbrev pub one_at : ℕ → ℕ × Noted → ℕ
one_at p x = cond (nat_eq x.0 p) 1 0

pub at_other : (p : ℕ) (x : ℕ × Noted) → x.0 ≢ p → one_at p x ≡ 0
at_other p x ne = ap (λ (b : Bool). cond b 1 0) (ne_eqb x.0 p ne)

pub at_same : (p : ℕ) (x : ℕ × Noted) → one_at p x ≡ 1 → x.0 ≡ p
at_same p x e = eqb-true x.0 p (spends_true (nat_eq x.0 p) e)

abbrev pub NoInputs : List (ℕ × Noted) → Type 0
NoInputs own = All (λ x. is_entry is_input x.1 ≡ false) own

-- of entries that are no inputs none stands at an input's place
times_failing : (h : List Noted) (low p : ℕ) (e : Noted) (own : List (ℕ × Noted)) → StandsFrom h low own → All (λ x. is_entry is_input x.1 ≡ false) own → slice_get h p ≡ Some e → is_entry is_input e ≡ true → times_at p own ≡ 0
times_failing h low p e [] s fails at passes = refl
times_failing h low p e (x ∷ xs) s fails at passes =
    let here : x.0 ≢ p = λ same.
    (let got : Some x.1 ≡ Some e = sym s.1 ∙ (ap (λ (k : ℕ). slice_get h k) same ∙ at) in
    let is : x.1 ≡ e = same_Some x.1 e got in
    let both : true ≡ false = sym passes ∙ (ap (is_entry is_input) (sym is) ∙ All-head (λ y. is_entry is_input y.1 ≡ false) x xs fails) in absurd (cc both)) in
    let none = at_other p x here in
    let rest = times_failing h (suc x.0) p e xs s.2 (All-tail (λ y. is_entry is_input y.1 ≡ false) x xs fails) at passes in omega (arith, sum_by-cons (one_at p) x xs)

-- nor in several such lists
pub none_failing : (h : List Noted) (p : ℕ) (e : Noted) (lists : List (List (ℕ × Noted))) → All (StandsIn h) lists → All NoInputs lists → slice_get h p ≡ Some e → is_entry is_input e ≡ true → times_in p lists ≡ 0
none_failing h p e [] stands none at passes = refl
none_failing h p e (own ∷ lists) stands none at passes =
    let here = times_failing h 0 p e own (All-head (StandsIn h) own lists stands) (All-head NoInputs own lists none) at passes in
    let rest = none_failing h p e lists (All-tail (StandsIn h) own lists stands) (All-tail NoInputs own lists none) at passes in omega (arith, sum_by-cons (times_at p) own lists, here, rest)

-- what stands in a front has no place behind it
pub times_within : (h : List Noted) (low p : ℕ) (own : List (ℕ × Noted)) → StandsFrom h low own → length h ≤ p → times_at p own ≡ 0
times_within h low p [] s le = refl
times_within h low p (x ∷ xs) s le =
    let within = slice_get_within h x.0 x.1 s.1 in
    let none = at_other p x (λ e. omega arith) in
    let rest = times_within h (suc x.0) p xs s.2 le in omega (arith, sum_by-cons (one_at p) x xs)

-- ---- kinds of entries

pub repair_no_input : (v : Event) → is_repair v ≡ true → is_input v ≡ false
repair_no_input (event.Opened o) e = refl
repair_no_input (event.Input line) e = absurd (cc)
repair_no_input (event.Fix k m) e = refl
repair_no_input event.Rest e = refl
repair_no_input (event.Commit h) e = refl
repair_no_input event.Dispatch e = refl
repair_no_input event.Close e = refl

pub executed_no_input : (v : Event) → is_executed v ≡ true → is_input v ≡ false
executed_no_input (event.Opened o) e = refl
executed_no_input (event.Input line) e = absurd (cc)
executed_no_input (event.Fix k m) e = refl
executed_no_input event.Rest e = refl
executed_no_input (event.Commit h) e = refl
executed_no_input event.Dispatch e = refl
executed_no_input event.Close e = refl

item_no_input : (test : Event → Bool) → ((v : Event) → test v ≡ true → is_input v ≡ false) → (x : Noted) → is_entry test x ≡ true → is_entry is_input x ≡ false
item_no_input test apart (Opened m n e) is = refl
item_no_input test apart (Made by e) is = apart e.event is
item_no_input test apart (Stopped by) is = refl

of_no_inputs : (test : Event → Bool) → ((v : Event) → test v ≡ true → is_input v ≡ false) → (own : List (ℕ × Noted)) → AreOf test own → NoInputs own
of_no_inputs test apart [] are = All-nil (λ x. is_entry is_input x.1 ≡ false)
of_no_inputs test apart (x ∷ xs) are =
    All-cons (λ y. is_entry is_input y.1 ≡ false) x xs (item_no_input test apart x.1 (All-head (λ y. is_entry test y.1 ≡ true) x xs are)) (of_no_inputs test apart xs (All-tail (λ y. is_entry test y.1 ≡ true) x xs are))

pub stop_no_inputs : (rest : List (ℕ × Noted)) → IsStopAtMost rest → NoInputs rest
stop_no_inputs rest (inl none) = subst NoInputs (sym none) (All-nil (λ x. is_entry is_input x.1 ≡ false))
stop_no_inputs rest (inr one) = subst NoInputs (sym one.2) (All-cons (λ x. is_entry is_input x.1 ≡ false) (one.0, Stopped one.1) [] refl (All-nil (λ x. is_entry is_input x.1 ≡ false)))

pub made_no_inputs : (met : Option Stop) (test : Event → Bool) → ((v : Event) → test v ≡ true → is_input v ≡ false) → (mine : List (ℕ × Noted)) → serving.Made met test mine → NoInputs mine
made_no_inputs None test apart mine made = of_no_inputs test apart mine made
made_no_inputs (Some s) test apart mine made =
    subst NoInputs (sym made.whole) (All-append (λ x. is_entry is_input x.1 ≡ false) made.own made.rest (of_no_inputs test apart made.own made.kinds) (stop_no_inputs made.rest made.behind))

pub inputs_kind : (inputs : List (Option (List ℕ))) (own : List (ℕ × Noted)) → AreInputs inputs own → AreOf is_input own
inputs_kind [] [] are = All-nil (λ x. is_entry is_input x.1 ≡ true)
inputs_kind [] (x ∷ own) are = absurd are
inputs_kind (i ∷ inputs) [] are = absurd are
inputs_kind (i ∷ inputs) (x ∷ own) are = All-cons (λ y. is_entry is_input y.1 ≡ true) x own (item_kind i x.1 are.0) (inputs_kind inputs own are.1)
  where
    item_kind : (i : Option (List ℕ)) (x : Noted) → IsInput i x → is_entry is_input x ≡ true
    item_kind i (Opened m n e) is = absurd is
    item_kind i (Made by e) is = ap is_input is.1
    item_kind i (Stopped by) is = absurd is

-- ---- the front and the back of an own list

pub at_front : (xs ys : List Noted) (x : Noted) → slice_get (xs ++ x ∷ ys) (length xs) ≡ Some x
at_front [] ys x = refl
at_front (z ∷ xs) ys x = at_front xs ys x

pub stands_front : (h : List Noted) (low : ℕ) (xs ys : List (ℕ × Noted)) → StandsFrom h low (xs ++ ys) → StandsFrom h low xs
stands_front h low [] ys s = tt
stands_front h low (x ∷ xs) ys s = (s.0, s.1, stands_front h (suc x.0) xs ys s.2)

stands_lower : (h : List Noted) (low low2 : ℕ) (xs : List (ℕ × Noted)) → low ≤ low2 → StandsFrom h low2 xs → StandsFrom h low xs
stands_lower h low low2 [] le s = tt
stands_lower h low low2 (x ∷ xs) le s = ((let le2 = s.0 in omega arith), s.1, s.2)

pub stands_back : (h : List Noted) (low : ℕ) (xs ys : List (ℕ × Noted)) → StandsFrom h low (xs ++ ys) → StandsFrom h 0 ys
stands_back h low [] ys s = stands_lower h 0 low ys (omega arith) s
stands_back h low (x ∷ xs) ys s = stands_back h (suc x.0) xs ys s.2
