-- Packs of 256 entries, one after the other.
use Rattle.std.proofs.Common.{◌≡◌, ◌+◌, ◌-◌, ◌*◌, ◌/◌, ◌%◌, ◌<◌, ◌≤◌, ◌++◌, ◌∙◌, refl, ap, sym, subst, ℕ, zero, suc, List, [], ◌∷◌, length, get_or, drop, arith, append_assoc, append-nil, length-append, length-drop, drop_at, drop-drop}
use Rattle.std.proofs.lemmas.List.{drop-append-le, drop_more, drop_all, at_drop_all}
use Rattle.std.proofs.lemmas.List.Elements.{All-push, All-drop, All-tail}
use Rattle.std.proofs.lemmas.Grind.{flat_map-append}
use Rattle.std.proofs.lemmas.Nat.{div-add-mod'}
use Rattle.std.proofs.Math.Nat.{mod-lt}
use Rattle.pl_entry.specs.declared.entry.Entry.{Entry}
use Rattle.pl_log.specs.Logged.{joined, AreFull}

-- the first of full packs, and the others
full_first : (pack : List Entry) (packs : List (List Entry)) → AreFull (pack ∷ packs) → length pack ≡ 256
full_first pack packs full =
    let some : 0 < length (pack ∷ packs) = omega arith in
    full 0 pack some

full_others : (pack : List Entry) (packs : List (List Entry)) → AreFull (pack ∷ packs) → AreFull packs
full_others pack packs full = All-tail (λ (p : List Entry). length p ≡ 256) pack packs full

pub length_joined : (packs : List (List Entry)) → AreFull packs → length (joined packs) ≡ length packs * 256
length_joined [] full = refl
length_joined (p ∷ packs) full =
    let here : length (p ++ joined packs) ≡ length p + length (joined packs) = length-append p (joined packs) in
    let more = length_joined packs (full_others p packs full) in
    let one = full_first p packs full in
    omega (arith, here, more, one)

pub full_push : (packs : List (List Entry)) (pack : List Entry) → AreFull packs → length pack ≡ 256 → AreFull (packs ++ pack ∷ [])
full_push packs pack full long = All-push (λ (p : List Entry). length p ≡ 256) packs pack full long

pub joined_push : (packs : List (List Entry)) (pack : List Entry) → joined (packs ++ pack ∷ []) ≡ joined packs ++ pack
joined_push packs pack = flat_map-append (λ (p : List Entry). p) packs (pack ∷ []) ∙ ap (λ (es : List Entry). joined packs ++ es) (append-nil pack)

pub full_back : (n : ℕ) (packs : List (List Entry)) → AreFull packs → AreFull (drop n packs)
full_back n packs full = All-drop (λ (p : List Entry). length p ≡ 256) n packs full

pub joined_back : (n : ℕ) (packs : List (List Entry)) → AreFull packs → drop (n * 256) (joined packs) ≡ joined (drop n packs)
joined_back zero packs full = refl
joined_back (suc n) [] full = drop_all (suc n * 256) (joined []) (omega arith)
joined_back (suc n) (p ∷ packs) full =
    let further : suc n * 256 ≡ 256 + n * 256 = omega arith in
    rw further (rw (← drop-drop (n * 256) 256 (p ++ joined packs)) (rw (drop_at p (joined packs) 256 (full_first p packs full)) (joined_back n packs (full_others p packs full))))

pub next_pack : (packs : List (List Entry)) (i : ℕ) (pack : List Entry) → i < length packs → pack ≡ get_or packs i pack → drop i packs ≡ pack ∷ drop (i + 1) packs
next_pack packs i pack inside is = drop_more packs i pack inside ∙ ap (λ (p : List Entry). p ∷ drop (i + 1) packs) (sym is)

-- one pack further, the entries that stand and those that are to come are the whole as before
pub pack_unpacked : (packs : List (List Entry)) (i from : ℕ) (pack before after whole : List Entry) → i < length packs → pack ≡ get_or packs i pack → AreFull packs → from < 256
    → after ≡ before ++ drop from pack → before ++ drop from (joined (drop i packs)) ≡ whole → after ++ joined (drop (i + 1) packs) ≡ whole
pack_unpacked packs i from pack before after whole inside is full small adds now =
    let more : List Entry = joined (drop (i + 1) packs) in
    let next : drop i packs ≡ pack ∷ drop (i + 1) packs = next_pack packs i pack inside is in
    let here : AreFull (pack ∷ drop (i + 1) packs) = subst AreFull next (full_back i packs full) in
    let long : length pack ≡ 256 = full_first pack (drop (i + 1) packs) here in
    let within : from ≤ length pack = omega (arith, long, small) in
    ap (λ (es : List Entry). es ++ more) adds
    ∙ append_assoc before (drop from pack) more
    ∙ ap (λ (es : List Entry). before ++ es) (sym (drop-append-le from pack more within))
    ∙ ap (λ (ps : List (List Entry)). before ++ drop from (joined ps)) (sym next)
    ∙ now

pub all_packs_unpacked : (packs : List (List Entry)) (i from : ℕ) (stands whole : List Entry) → length packs ≤ i → stands ++ drop from (joined (drop i packs)) ≡ whole → stands ≡ whole
all_packs_unpacked packs i from stands whole past now =
    let none : List Entry = [] in
    let nothing : drop from none ≡ none = drop_all from none (omega arith) in
    sym (append-nil stands)
    ∙ ap (λ (es : List Entry). stands ++ es) (sym nothing)
    ∙ sym (at_drop_all (λ (ps : List (List Entry)). stands ++ drop from (joined ps)) packs i past)
    ∙ now

-- behind some entries of the packs
pub behind_packed : (from : ℕ) (packs : List (List Entry)) (newest : List Entry) → AreFull packs → from / 256 < length packs
    → drop from (joined packs ++ newest) ≡ drop (from % 256) (joined (drop (from / 256) packs)) ++ newest
behind_packed from packs newest full inside =
    let whole = from / 256 in
    let rest = from % 256 in
    let parts : whole * 256 + rest ≡ from = div-add-mod' from 256 in
    let some : 0 < 256 = omega arith in
    let small : rest < 256 = mod-lt from some in
    let long = length_joined packs full in
    let left = length_joined (drop whole packs) (full_back whole packs full) in
    let many = length-drop whole packs in
    let before : whole * 256 ≤ length (joined packs) = omega (arith, long, inside) in
    let within : rest ≤ length (joined (drop whole packs)) = omega (arith, left, many, inside, small) in
    ap (λ (n : ℕ). drop n (joined packs ++ newest)) (sym parts)
    ∙ sym (drop-drop rest (whole * 256) (joined packs ++ newest))
    ∙ ap (λ (es : List Entry). drop rest es) (drop-append-le (whole * 256) (joined packs) newest before ∙ ap (λ (es : List Entry). es ++ newest) (joined_back whole packs full))
    ∙ drop-append-le rest (joined (drop whole packs)) newest within

-- behind all entries of the packs
pub behind_newest : (from : ℕ) (packs : List (List Entry)) (newest : List Entry) → AreFull packs → length packs * 256 ≤ from
    → drop from (joined packs ++ newest) ≡ drop (from - length packs * 256) newest
behind_newest from packs newest full past =
    let packed = length packs * 256 in
    let parts : packed + (from - packed) ≡ from = omega (arith, past) in
    ap (λ (n : ℕ). drop n (joined packs ++ newest)) (sym parts)
    ∙ sym (drop-drop (from - packed) packed (joined packs ++ newest))
    ∙ ap (λ (es : List Entry). drop (from - packed) es) (drop_at (joined packs) newest packed (length_joined packs full))
