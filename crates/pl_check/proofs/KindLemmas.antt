-- How many of the drafts are kinds.
use Rattle.std.proofs.Common.{◌≡◌, ℕ, suc, ◌+◌, ◌<◌, List, [], ◌∷◌, ◌++◌, count_by, length, map, take, drop, get_or, cond, Ok, sym, ap, subst, ◌∙◌, arith}
use Rattle.std.proofs.Math.Seq.{drop-cons}
use Rattle.pl_check.specs.Judgements.{Judged}
use Rattle.pl_check.proofs.LoopLemmas.{each_made_from}
use Rattle.std.proofs.lemmas.List.{take_more, map-append}
use Rattle.std.proofs.lemmas.List.Sums.{sum_by-append}
use Rattle.pl_syntax.specs.declared.whole.Item.{Item}
use Rattle.pl_check.specs.declared.drafts.Draft.{Draft}
use Rattle.pl_check.specs.declared.drafts.Draft.TheVariants as draft
use Rattle.pl_check.specs.Finding.{is_kind}
use Rattle.pl_check.specs.Drafting.{kinds_in}

kinds_push : (ds : List Draft) (d : Draft) → length (kinds_in (ds ++ d ∷ [])) ≡ length (kinds_in ds) + length (kinds_in (d ∷ []))
kinds_push [] d = omega arith
kinds_push (draft.Timeline l ∷ ds) d = kinds_push ds d
kinds_push (draft.Kind k ∷ ds) d = omega (arith, kinds_push ds d)

-- one item more
pub kinds_step : (items : List Item) (i : ℕ) (x : Item) (all : List Draft) (d : Draft) → i < length items → get_or items i x ≡ x → length (kinds_in all) ≡ count_by is_kind (take i items) → length (kinds_in (d ∷ [])) ≡ cond (is_kind x) 1 0 → length (kinds_in (all ++ d ∷ [])) ≡ count_by is_kind (take (i + 1) items)
kinds_step items i x all d lt same before one =
    let more : take (i + 1) items ≡ take i items ++ x ∷ [] = take_more items i x lt ∙ ap (λ y. take i items ++ y ∷ []) same in
    let counted : count_by is_kind (take i items ++ x ∷ []) ≡ count_by is_kind (take i items) + count_by is_kind (x ∷ []) = sum_by-append (λ y. cond (is_kind y) 1 0) (take i items) (x ∷ []) in
    rw more (omega (arith, kinds_push all d, before, one, counted))

-- one item made more
pub each_step : {X Y : Type 0} (make : X → Judged Y) (xs : List X) (i : ℕ) (x : X) (all : List Y) (y : Y) (whole : Judged (List Y)) → i < length xs → get_or xs i x ≡ x → make x ≡ Ok y → each_made_from make all (drop i xs) ≡ whole → each_made_from make (all ++ y ∷ []) (drop (i + 1) xs) ≡ whole
each_step make xs i x all y whole lt same made before =
    let cons : drop i xs ≡ get_or xs i x ∷ drop (suc i) xs = drop-cons xs i x lt in
    let more : i + 1 ≡ suc i = omega arith in
    let here : drop i xs ≡ x ∷ drop (i + 1) xs = cons ∙ ap (λ z. z ∷ drop (suc i) xs) same ∙ ap (λ n. x ∷ drop n xs) (sym more) in
    let opened : each_made_from make all (x ∷ drop (i + 1) xs) ≡ whole = subst (λ l. each_made_from make all l ≡ whole) here before in
    rw made at opened

-- one item more under a map
pub map_step : {X Y : Type 0} (f : X → Y) (xs : List X) (i : ℕ) (x : X) (ys : List Y) (y : Y) → i < length xs → x ≡ get_or xs i x → y ≡ f x → ys ≡ map f (take i xs) → ys ++ y ∷ [] ≡ map f (take (i + 1) xs)
map_step f xs i x ys y lt same made before =
    let more : take (i + 1) xs ≡ take i xs ++ x ∷ [] = take_more xs i x lt ∙ ap (λ z. take i xs ++ z ∷ []) (sym same) in
    rw (more, map-append) (ap (λ l. l ++ y ∷ []) before ∙ ap (λ z. map f (take i xs) ++ z ∷ []) made)
