-- What is appended to a list.
use Rattle.std.proofs.Common.{◌≡◌, ◌+◌, ◌<◌, ◌≤◌, ◌++◌, ◌∙◌, sym, ap, ℕ, List, [], ◌∷◌, length, get_or, drop, append_assoc, append-nil}
use Rattle.std.specs.List.{flat_map}
use Rattle.std.proofs.lemmas.List.{at_drop_more, at_drop_all}
use Rattle.pl_conflict.specs.declared.conflict.Conflict.{Conflict}

pub nothing_added : {X : Type 0} (xs : List X) → xs ≡ xs ++ []
nothing_added xs = sym (append-nil xs)

pub numbers_added : (ns : List ℕ) (k : Conflict) (more : List ℕ) → ns ++ (k.from ∷ k.subject ∷ k.detail ∷ k.a ∷ k.b ∷ []) ++ more ≡ ns ++ (k.from ∷ k.subject ∷ k.detail ∷ k.a ∷ k.b ∷ more)
numbers_added ns k more = append_assoc ns (k.from ∷ k.subject ∷ k.detail ∷ k.a ∷ k.b ∷ []) more

-- ---- a loop appends what each element of a list gives

-- one element further, what stands and what is to come are the whole as before
pub next_added : {Y X : Type 0} (f : Y → List X) (ys : List Y) (i : ℕ) (d y : Y) (before after whole : List X) → i < length ys → y ≡ get_or ys i d → after ≡ before ++ f y
    → before ++ flat_map f (drop i ys) ≡ whole → after ++ flat_map f (drop (i + 1) ys) ≡ whole
next_added {Y} {X} f ys i d y before after whole inside is adds now =
    let more : List X = flat_map f (drop (i + 1) ys) in
    ap (λ (xs : List X). xs ++ more) adds
    ∙ append_assoc before (f y) more
    ∙ ap (λ (z : Y). before ++ (f z ++ more)) is
    ∙ sym (at_drop_more (λ (rest : List Y). before ++ flat_map f rest) ys i d inside)
    ∙ now

-- behind the last element the whole stands
pub all_added : {Y X : Type 0} (f : Y → List X) (ys : List Y) (i : ℕ) (stands whole : List X) → length ys ≤ i → stands ++ flat_map f (drop i ys) ≡ whole → stands ≡ whole
all_added {Y} f ys i stands whole past now = sym (append-nil stands) ∙ sym (at_drop_all (λ (rest : List Y). stands ++ flat_map f rest) ys i past) ∙ now
