-- A look at items one by one, from a place on.
use Rattle.std.proofs.Common.{◌≡◌, ℕ, zero, suc, ◌+◌, ◌-◌, ◌<◌, ◌≤◌, Bool, true, false, cond, Option, Some, None, IfSome, List, [], ◌∷◌, ◌++◌, length, take, drop, get_or, refl, ap, sym, ◌∙◌, subst, arith}
use Rattle.std.proofs.lemmas.List.{append_assoc, append-nil, take-append-drop, drop-drop, length-drop}
use Rattle.std.proofs.Math.Seq.{take-suc}
use Rattle.pl_lists.specs.Lists.{front, back}
use Rattle.pl_points.proofs.Parting.{drop_next}
use Rattle.pl_state.specs.Rows.{EndsAt}

-- all from a place up to another pass
pub record AllPassed {T : Type 0} (p : T → Bool) (xs : List T) (from place : ℕ) : Type 0 where
  low : from ≤ place
  front : front p (drop from xs) ≡ take (place - from) (drop from xs) ++ front p (drop place xs)
  rest : back p (drop from xs) ≡ back p (drop place xs)

pub none_passed : {T : Type 0} (p : T → Bool) (xs : List T) (from : ℕ) → AllPassed p xs from from
none_passed p xs from =
    let none : from - from ≡ 0 = omega arith in
    record { low = omega arith; front = ap (λ n. take n (drop from xs) ++ front p (drop from xs)) (sym none); rest = refl }

-- the item at the place
cut_there : {T : Type 0} (xs : List T) (place next : ℕ) (x : T) → place < length xs → next ≡ place + 1 → x ≡ get_or xs place x → drop place xs ≡ x ∷ drop next xs
cut_there xs place next x lt is here =
    let one : suc place ≡ next = omega (arith, is) in
    drop_next xs place x lt ∙ ap (λ y. y ∷ drop (suc place) xs) (sym here) ∙ ap (λ n. x ∷ drop n xs) one

take_one : {T : Type 0} (n : ℕ) (ys zs : List T) (x : T) → drop n ys ≡ x ∷ zs → n < length ys → take (suc n) ys ≡ take n ys ++ x ∷ []
take_one n ys zs x cut lt = take-suc ys n x lt ∙ ap (λ y. take n ys ++ y ∷ []) (head (drop_next ys n x lt))
  where
    first : {T : Type 0} (d : T) (l : List T) → T
    first d [] = d
    first d (y ∷ l) = y

    head : drop n ys ≡ get_or ys n x ∷ drop (suc n) ys → get_or ys n x ≡ x
    head e = ap (first x) (sym e ∙ cut)

pub passed_next : {T : Type 0} (p : T → Bool) (xs : List T) (from place next : ℕ) (x : T) → AllPassed p xs from place → place < length xs → next ≡ place + 1 → x ≡ get_or xs place x → p x ≡ true → AllPassed p xs from next
passed_next p xs from place next x all lt is here passes =
    let ys = drop from xs in
    let n = place - from in
    let cut : drop place xs ≡ x ∷ drop next xs = cut_there xs place next x lt is here in
    let same : from + n ≡ place = omega (arith, all.low) in
    let there : drop n ys ≡ x ∷ drop next xs = drop-drop n from xs ∙ ap (λ i. drop i xs) same ∙ cut in
    let room : n < length ys = omega (arith, length-drop from xs, lt, all.low) in
    let more : next - from ≡ suc n = omega (arith, is, all.low) in
    let front_is : front p (drop place xs) ≡ x ∷ front p (drop next xs) = ap (front p) cut ∙ rw passes refl in
    let back_is : back p (drop place xs) ≡ back p (drop next xs) = ap (back p) cut ∙ rw passes refl in
    record {
      low = omega (arith, is, all.low);
      front = all.front ∙ ap (λ l. take n ys ++ l) front_is ∙ sym (append_assoc (take n ys) (x ∷ []) (front p (drop next xs)))
          ∙ ap (λ l. l ++ front p (drop next xs)) (sym (take_one n ys (drop next xs) x there room) ∙ ap (λ m. take m ys) (sym more));
      rest = all.rest ∙ back_is;
    }

-- the item at the place does not pass
pub stops_there : {T : Type 0} (p : T → Bool) (xs : List T) (from place : ℕ) (x : T) → AllPassed p xs from place → place < length xs → x ≡ get_or xs place x → p x ≡ false
    → (take (place - from) (drop from xs) ≡ front p (drop from xs)) × (drop place xs ≡ back p (drop from xs))
stops_there p xs from place x all lt here fails =
    let cut : drop place xs ≡ x ∷ drop (place + 1) xs = cut_there xs place (place + 1) x lt refl here in
    let none : front p (drop place xs) ≡ [] = ap (front p) cut ∙ rw fails refl in
    let rest : back p (drop place xs) ≡ drop place xs = ap (back p) cut ∙ (rw fails (sym cut)) in
    let kept = take (place - from) (drop from xs) in
    (sym (all.front ∙ ap (λ l. kept ++ l) none ∙ append-nil kept), sym (all.rest ∙ rest))

-- where the items of a front end, the whole ends
ends_in : {T : Type 0} (p : T → Bool) (xs rest : List T) (n : ℕ) → EndsAt p xs n → EndsAt p (xs ++ rest) n
ends_in p [] rest n e = absurd (omega (arith, e.there))
ends_in {T} p (x ∷ xs) rest n e = cases (p x) n e.there e.front e.rest (ends_in p xs rest) refl
  where
    cases : (b : Bool) (n : ℕ) → n < suc (length xs) → take n (x ∷ xs) ≡ cond b (x ∷ front p xs) [] → drop n (x ∷ xs) ≡ cond b (back p xs) (x ∷ xs)
        → ((m : ℕ) → EndsAt p xs m → EndsAt p (xs ++ rest) m)
        → p x ≡ b → EndsAt p (x ∷ (xs ++ rest)) n
    cases true zero lt first behind more is = absurd (let h : [] ≡ x ∷ front p xs = first in (cc))
    cases true (suc m) lt first behind more is =
        let next = more m (record { there = omega (arith, lt); front = ap (drop 1) first; rest = behind }) in
        record { there = omega (arith, next.there); front = ap (λ l. x ∷ l) next.front ∙ rw is refl; rest = next.rest ∙ rw is refl }
    cases false zero lt first behind more is = record { there = omega arith; front = rw is refl; rest = rw is refl }
    cases false (suc m) lt first behind more is = absurd (let h : x ∷ take m xs ≡ [] = first in (cc))

pub ends_within : {T : Type 0} (p : T → Bool) (all xs : List T) (n : ℕ) → xs ≡ take (length xs) all → EndsAt p xs n → EndsAt p all n
ends_within p all xs n is ends =
    let whole : xs ++ drop (length xs) all ≡ all = ap (λ l. l ++ drop (length xs) all) is ∙ take-append-drop (length xs) all in
    subst (λ l. EndsAt p l n) whole (ends_in p xs (drop (length xs) all) n ends)

pub if_some_weaker : {T : Type 0} (P Q : T → Type 0) (r : Option T) → ((x : T) → P x → Q x) → IfSome r P → IfSome r Q
if_some_weaker P Q None f h = h
if_some_weaker P Q (Some x) f h = f x h
