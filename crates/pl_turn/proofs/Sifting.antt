-- The entries of one pass, picked out of the history by a test.
use Rattle.std.proofs.Common.{◌≡◌, ◌≢◌, ℕ, zero, suc, ◌+◌, ◌-◌, ◌≤◌, ◌<◌, true, false, Bool, cond, List, [], ◌∷◌, ◌++◌, length, map, drop, Some, None, nat_eq, slice_get, refl, sym, ap, ◌∙◌, subst, arith, eq-eqb, ne_eqb}
use Rattle.std.specs.List.{All, filter}
use Rattle.std.proofs.lemmas.List.Sums.{sum_by-cons, sum_by-append}
use Rattle.std.proofs.lemmas.List.Elements.{All-nil, All-cons, All-head, All-tail}
use Rattle.std.proofs.lemmas.Option.{slice_get_within, same_Some}
use Rattle.std.proofs.lemmas.Bool.{false_from_ne_true}
use mathlib.Core.Logic.{dite}
use native.Mathlib.Decide.{ℕ_discrete, dec_le}
use Rattle.pl_turn.specs.History.{IsEachOnce, StandsFrom, StandsIn, times_at, times_in}

front_of : {X : Type 0} (P : X → Type 0) (xs ys : List X) → All P (xs ++ ys) → All P xs
front_of P [] ys all = All-nil P
front_of P (x ∷ xs) ys all = All-cons P x xs (All-head P x (xs ++ ys) all) (front_of P xs ys (All-tail P x (xs ++ ys) all))

back_of : {X : Type 0} (P : X → Type 0) (xs ys : List X) → All P (xs ++ ys) → All P ys
back_of P [] ys all = all
back_of P (x ∷ xs) ys all = back_of P xs ys (All-tail P x (xs ++ ys) all)

module _ {I : Type 0} where
  abbrev one_at : ℕ → ℕ × I → ℕ
  one_at p x = cond (nat_eq x.0 p) 1 0

  at_here : (p : ℕ) (x : ℕ × I) → x.0 ≡ p → one_at p x ≡ 1
  at_here p x e = ap (λ (b : Bool). cond b 1 0) (eq-eqb x.0 p e)

  at_other : (p : ℕ) (x : ℕ × I) → x.0 ≢ p → one_at p x ≡ 0
  at_other p x ne = ap (λ (b : Bool). cond b 1 0) (ne_eqb x.0 p ne)

  -- below its first place a list has nothing
  times_before : (h : List I) (low p : ℕ) (own : List (ℕ × I)) → StandsFrom h low own → p < low → times_at p own ≡ 0
  times_before h low p [] s lt = refl
  times_before h low p (x ∷ xs) s lt =
      let here = at_other p x (λ e. let le = s.0 in omega arith) in
      let rest = times_before h (suc x.0) p xs s.2 (let le = s.0 in omega arith) in omega (arith, sum_by-cons (one_at p) x xs)

  -- a list whose entries fail the test has none at the place of an entry that passes
  times_failing : (test : I → Bool) (h : List I) (low p : ℕ) (e : I) (own : List (ℕ × I)) → StandsFrom h low own → All (λ x. test x.1 ≡ false) own → slice_get h p ≡ Some e → test e ≡ true → times_at p own ≡ 0
  times_failing test h low p e [] s fails at passes = refl
  times_failing test h low p e (x ∷ xs) s fails at passes =
      let here : x.0 ≢ p = λ same.
      (let got : Some x.1 ≡ Some e = sym s.1 ∙ (ap (λ (k : ℕ). slice_get h k) same ∙ at) in
      let is : x.1 ≡ e = same_Some x.1 e got in
      let both : true ≡ false = sym passes ∙ (ap test (sym is) ∙ All-head (λ y. test y.1 ≡ false) x xs fails) in absurd (cc both)) in
      let none = at_other p x here in
      let rest = times_failing test h (suc x.0) p e xs s.2 (All-tail (λ y. test y.1 ≡ false) x xs fails) at passes in omega (arith, sum_by-cons (one_at p) x xs)

  -- the same of several lists
  all_failing : (test : I → Bool) (h : List I) (p : ℕ) (e : I) (lists : List (List (ℕ × I))) → All (StandsIn h) lists → All (λ own. All (λ x. test x.1 ≡ false) own) lists → slice_get h p ≡ Some e → test e ≡ true → times_in p lists ≡ 0
  all_failing test h p e [] s fails at passes = refl
  all_failing test h p e (l ∷ ls) s fails at passes =
      let here = times_failing test h 0 p e l (All-head (StandsIn h) l ls s) (All-head (λ own. All (λ x. test x.1 ≡ false) own) l ls fails) at passes in
      let rest = all_failing test h p e ls (All-tail (StandsIn h) l ls s) (All-tail (λ own. All (λ x. test x.1 ≡ false) own) l ls fails) at passes in
      omega (arith, sum_by-cons (times_at p) l ls)

  -- From the n-th on the history is `rest`. Where the own entries pass the test, and each entry of `rest` that passes is an own one, those are the entries that pass
  sifts : (test : I → Bool) (h rest : List I) (n : ℕ) (own : List (ℕ × I)) → ((i : ℕ) → slice_get rest i ≡ slice_get h (n + i)) → StandsFrom h n own → All (λ x. test x.1 ≡ true) own
      → ((p : ℕ) (e : I) → n ≤ p → slice_get h p ≡ Some e → test e ≡ true → times_at p own ≡ 1) → map (λ x. x.1) own ≡ filter test rest
  sifts test h [] n [] same s passes covers = refl
  sifts test h [] n (x ∷ xs) same s passes covers =
      let le = s.0 in
      let there : n + (x.0 - n) ≡ x.0 = omega arith in
      let none : None ≡ Some x.1 = same (x.0 - n) ∙ (ap (λ (k : ℕ). slice_get h k) there ∙ s.1) in absurd (cc none)
  sifts test h (e ∷ rest) n [] same s passes covers =
      let here : slice_get h n ≡ Some e = ap (λ (k : ℕ). slice_get h k) (let z : n ≡ n + 0 = omega arith in z) ∙ sym (same 0) in
      let fails : test e ≡ false = false_from_ne_true (test e) (λ t. let one = covers n e (omega arith) here t in omega arith) in
      let P : Bool → Type 0 = λ b. [] ≡ cond b (e ∷ filter test rest) (filter test rest) in
      subst P (sym fails) (sifts test h rest (suc n) [] (λ i. same (suc i) ∙ ap (λ (k : ℕ). slice_get h k) (let z : n + suc i ≡ suc n + i = omega arith in z)) tt passes
      (λ p e' le at t. covers p e' (omega arith) at t))
  sifts test h (e ∷ rest) n (x ∷ xs) same s passes covers =
      let here : slice_get h n ≡ Some e = ap (λ (k : ℕ). slice_get h k) (let z : n ≡ n + 0 = omega arith in z) ∙ sym (same 0) in
      let on : (i : ℕ) → slice_get rest i ≡ slice_get h (suc n + i) = λ i. same (suc i) ∙ ap (λ (k : ℕ). slice_get h k) (let z : n + suc i ≡ suc n + i = omega arith in z) in
      let f : List I = filter test rest in
      dite (ℕ_discrete x.0 n)
      (λ (at : x.0 ≡ n).
      let is : x.1 ≡ e = same_Some x.1 e (sym s.1 ∙ (ap (λ (k : ℕ). slice_get h k) at ∙ here)) in
      let yes' : test e ≡ true = ap test (sym is) ∙ All-head (λ y. test y.1 ≡ true) x xs passes in
      let from : StandsFrom h (suc n) xs = subst (λ (k : ℕ). StandsFrom h (suc k) xs) at s.2 in
      let more : map (λ y. y.1) xs ≡ f = sifts test h rest (suc n) xs on from (All-tail (λ y. test y.1 ≡ true) x xs passes)
      (λ p e' le found t. let one = covers p e' (omega arith) found t in let none = at_other p x (λ k. omega arith) in omega (arith, sum_by-cons (one_at p) x xs)) in
      let P : Bool → Type 0 = λ b. x.1 ∷ map (λ y. y.1) xs ≡ cond b (e ∷ f) f in
      subst P (sym yes') (λ i. is i ∷ more i))
      (λ (ne : x.0 ≢ n).
      let le = s.0 in
      let past : StandsFrom h (suc n) (x ∷ xs) = (omega arith, s.1, s.2) in
      let fails : test e ≡ false = false_from_ne_true (test e) (λ t. let one = covers n e (omega arith) here t in let none = times_before h (suc n) n (x ∷ xs) past (omega arith) in omega arith) in
      let P : Bool → Type 0 = λ b. x.1 ∷ map (λ y. y.1) xs ≡ cond b (e ∷ f) f in
      subst P (sym fails) (sifts test h rest (suc n) (x ∷ xs) on past passes (λ p e' le' found t. covers p e' (omega arith) found t)))

  -- a list with nothing below `low` stands from there on
  stands_past : (h : List I) (low : ℕ) (own : List (ℕ × I)) → StandsIn h own → ((p : ℕ) → p < low → times_at p own ≡ 0) → StandsFrom h low own
  stands_past h low [] s none = tt
  stands_past h low (x ∷ xs) s none =
      (dite (dec_le low x.0) (λ (le : low ≤ x.0). le) (λ (no' : low ≤ x.0 → ⊥). absurd (let zero' = none x.0 (omega arith) in let one = at_here x.0 x refl in omega (arith, sum_by-cons (one_at x.0) x xs))), s.1, s.2)

  get_past : (h : List I) (n i : ℕ) → slice_get (drop n h) i ≡ slice_get h (n + i)
  get_past h zero i = ap (λ (k : ℕ). slice_get h k) (let z : i ≡ zero + i = omega arith in z)
  get_past [] (suc n) i = refl
  get_past (x ∷ xs) (suc n) i = get_past xs n i ∙ ap (λ (k : ℕ). slice_get (x ∷ xs) k) (let z : suc (n + i) ≡ suc n + i = omega arith in z)

  -- of several lists that share the places out, the one whose entries pass is what passes in the history
  pub sifted : (test : I → Bool) (h : List I) (opening : ℕ) (before after : List (List (ℕ × I))) (own : List (ℕ × I)) → All (StandsIn h) (before ++ own ∷ after)
      → IsEachOnce opening (length h) (λ p. times_in p (before ++ own ∷ after)) → All (λ x. test x.1 ≡ true) own → All (λ l. All (λ x. test x.1 ≡ false) l) before → All (λ l. All (λ x. test x.1 ≡ false) l) after
      → map (λ x. x.1) own ≡ filter test (drop opening h)
  sifted test h opening before after own stand once passes fails fails' =
      let parts : (p : ℕ) → times_in p (before ++ own ∷ after) ≡ times_in p before + (times_at p own + times_in p after) = λ p. omega (arith, sum_by-append (times_at p) before (own ∷ after), sum_by-cons (times_at p) own after) in
      let back : All (StandsIn h) (own ∷ after) = back_of (StandsIn h) before (own ∷ after) stand in
      let front : All (StandsIn h) before = front_of (StandsIn h) before (own ∷ after) stand in
      let mine : StandsIn h own = All-head (StandsIn h) own after back in
      let rest : All (StandsIn h) after = All-tail (StandsIn h) own after back in
      sifts test h (drop opening h) opening own (get_past h opening) (stands_past h opening own mine (λ p lt. let z = once.below p lt in let e = parts p in omega arith)) passes
      (λ p e le at t.
      let within = slice_get_within h p e at in
      let one = once.inside p le within in
      let a = all_failing test h p e before front fails at t in
      let b = all_failing test h p e after rest fails' at t in
      let c = parts p in omega arith)
