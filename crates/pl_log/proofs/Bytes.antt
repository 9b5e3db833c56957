-- Numbers that were packed are unpacked again.
use Rattle.std.proofs.Common.{◌≡◌, ◌+◌, ◌-◌, ◌/◌, ◌<◌, ◌≤◌, ◌++◌, ◌∙◌, refl, ap, sym, subst, ℕ, suc, List, [], ◌∷◌, length, take, drop, get_or, ltb, true, false, Option, Some, None, IfSome, arith, append_assoc, append-nil}
use Rattle.std.proofs.lemmas.Bool.{cond_both, lt-ltb, le-ltb, ltb-true}
use Rattle.std.proofs.lemmas.Nat.{div-add-mod'}
use Rattle.std.proofs.lemmas.List.{length-append}
use Rattle.std.proofs.Math.Seq.{take-suc}
use Rattle.pl_log.specs.Numbers.{earlier, packed, unpacked, width, all_unpacked}

-- the bytes of a number begin with it
pub record Begins (ns : List ℕ) (n : ℕ) (rest bytes : List ℕ) : Type 0 where
  pub number : unpacked ns bytes ≡ n
  pub behind : drop (width bytes) bytes ≡ rest

pub begins : (ns : List ℕ) (n : ℕ) (again : Option ℕ) (rest : List ℕ) → IfSome again (λ back. back < 16) → IfSome again (λ back. earlier ns back ≡ n) → Begins ns n rest (packed again n ++ rest)
begins ns n (Some back) rest near same =
    let high : ltb (238 + back) 238 ≡ false = le-ltb (238 + back) 238 (omega arith) in
    let low : ltb (238 + back) 254 ≡ true = lt-ltb (238 + back) 254 (omega (arith, near)) in
    let far : (238 + back) - 238 ≡ back = omega arith in
    record {
      number = rw (high, low) (ap (λ (b : ℕ). earlier ns b) far ∙ same);
      behind = rw low refl;
    }
begins ns n None rest near same =
    let P : List ℕ → Type 0 = λ bytes. Begins ns n rest (bytes ++ rest) in
    cond_both (ltb n 238) _ _ P
    (λ small. record { number = rw small refl; behind = rw (lt-ltb n 254 (omega (arith, ltb-true n 238 small))) refl })
    (λ _. cond_both (ltb n 65536) _ _ P
    (λ _. record { number = div-add-mod' n 256; behind = refl })
    (λ _. record {
      number =
          let one = div-add-mod' n 256 in
          let two = div-add-mod' (n / 256) 256 in
          let three = div-add-mod' (n / 256 / 256) 256 in
          omega (arith, one, two, three);
      behind = refl;
    }))

-- the bytes tell these numbers, and what follows goes on behind them
abbrev pub Tell : List ℕ → List ℕ → Type 0
Tell ns bytes = (more : ℕ) (rest : List ℕ) → all_unpacked (length ns + more) [] (bytes ++ rest) ≡ ns ++ all_unpacked more ns rest

-- one number more
pub one_packed : (ns : List ℕ) (n : ℕ) (again : Option ℕ) (before after : List ℕ) → IfSome again (λ back. back < 16) → IfSome again (λ back. earlier ns back ≡ n) → after ≡ before ++ packed again n → Tell ns before → Tell (ns ++ n ∷ []) after
one_packed ns n again before after near same adds tell more rest =
    let word : List ℕ = packed again n in
    let first : Begins ns n rest (word ++ rest) = begins ns n again rest near same in
    let count : length (ns ++ n ∷ []) + more ≡ length ns + suc more = ap (λ (k : ℕ). k + more) (length-append ns (n ∷ [])) ∙ omega arith in
    ap (λ (k : ℕ). all_unpacked k [] (after ++ rest)) count
    ∙ ap (λ (bytes : List ℕ). all_unpacked (length ns + suc more) [] bytes) (ap (λ (bytes : List ℕ). bytes ++ rest) adds ∙ append_assoc before word rest)
    ∙ tell (suc more) (word ++ rest)
    ∙ ap (λ (m : ℕ). ns ++ m ∷ all_unpacked more (ns ++ m ∷ []) (drop (width (word ++ rest)) (word ++ rest))) first.number
    ∙ ap (λ (bytes : List ℕ). ns ++ n ∷ all_unpacked more (ns ++ n ∷ []) bytes) first.behind
    ∙ sym (append_assoc ns (n ∷ []) (all_unpacked more (ns ++ n ∷ []) rest))

-- the next of a list of numbers
pub next_packed : (ns : List ℕ) (i : ℕ) (again : Option ℕ) (before after : List ℕ) → i < length ns → IfSome again (λ back. back < 16) → IfSome again (λ back. earlier (take i ns) back ≡ get_or ns i 0)
    → after ≡ before ++ packed again (get_or ns i 0) → Tell (take i ns) before → Tell (take (i + 1) ns) after
next_packed ns i again before after inside near same adds tell =
    let one : i + 1 ≡ suc i = omega arith in
    let next : take (i + 1) ns ≡ take i ns ++ get_or ns i 0 ∷ [] = ap (λ (k : ℕ). take k ns) one ∙ take-suc ns i 0 inside in
    subst (λ (l : List ℕ). Tell l after) (sym next) (one_packed (take i ns) (get_or ns i 0) again before after near same adds tell)

-- once the bytes tell all numbers
pub all_back : (ns bytes : List ℕ) → Tell ns bytes → all_unpacked (length ns) [] bytes ≡ ns
all_back ns bytes tell =
    let count : length ns ≡ length ns + 0 = omega arith in
    ap (λ (k : ℕ). all_unpacked k [] bytes) count
    ∙ ap (λ (all : List ℕ). all_unpacked (length ns + 0) [] all) (sym (append-nil bytes))
    ∙ tell 0 []
    ∙ append-nil ns

-- one number further, the numbers that stand and those that are to come are the whole as before
pub one_unpacked : (count i number wide : ℕ) (rest next before after whole : List ℕ) → i < count → number ≡ unpacked before rest → wide ≡ width rest → next ≡ drop wide rest
    → after ≡ before ++ number ∷ [] → before ++ all_unpacked (count - i) before rest ≡ whole → after ++ all_unpacked (count - (i + 1)) after next ≡ whole
one_unpacked count i number wide rest next before after whole inside is has follows adds now =
    let left : ℕ = count - (i + 1) in
    let one : count - i ≡ suc left = omega arith in
    let n : ℕ = unpacked before rest in
    let all : after ≡ before ++ n ∷ [] = adds ∙ ap (λ (m : ℕ). before ++ m ∷ []) is in
    ap (λ (ns : List ℕ). ns ++ all_unpacked left ns next) all
    ∙ ap (λ (bytes : List ℕ). (before ++ n ∷ []) ++ all_unpacked left (before ++ n ∷ []) bytes) (follows ∙ ap (λ (k : ℕ). drop k rest) has)
    ∙ append_assoc before (n ∷ []) (all_unpacked left (before ++ n ∷ []) (drop (width rest) rest))
    ∙ ap (λ (k : ℕ). before ++ all_unpacked k before rest) (sym one)
    ∙ now

pub all_stand : (count i : ℕ) (rest stands whole : List ℕ) → count ≤ i → stands ++ all_unpacked (count - i) stands rest ≡ whole → stands ≡ whole
all_stand count i rest stands whole past now =
    let none : count - i ≡ 0 = omega arith in
    sym (append-nil stands) ∙ ap (λ (k : ℕ). stands ++ all_unpacked k stands rest) (sym none) ∙ now
