-- Names that are new one after another differ.
use Rattle.std.proofs.Common.{◌≡◌, ◌≢◌, ℕ, suc, Bool, true, false, List, [], ◌∷◌, ◌++◌, Err, All, Contains, bytes_eq, map, refl, sym, cond, arith}
use Rattle.std.specs.List.{list_any}
use Rattle.std.specs.Cmp.Lexicographic.{bytes_decides}
use Rattle.std.proofs.lemmas.List.Elements.{All-nil, All-cons, All-weaker, All-map, All-contains, All-contains_itself, Contains-append_left, Contains-push}
use Rattle.std.proofs.lemmas.List.Kept.{AllPairs-cons}
use Rattle.std.proofs.lemmas.Bool.{or_parts}
use Rattle.pl_model.specs.Names.{Differ}
use Rattle.pl_check.specs.declared.fault.ModelFault.TheVariants as fault
use Rattle.pl_check.specs.Judgements.{Judgement, pass, ◌>>◌}
use Rattle.pl_check.specs.Names.{Name, is_among, is_new, distinct}
use Rattle.pl_lists.specs.Lists.{Pairwise}
use Rattle.pl_check.proofs.SizeLemmas.{then_passes}
use Rattle.pl_check.proofs.PairLemmas.{pair_all}

-- none of the names is this one
abbrev pub Lacks : List Name → Name → Type 0
Lacks before name = All (λ b. b ≢ name) before

unequal : (name b : Name) → bytes_eq name b ≡ false → b ≢ name
unequal name b h e = let t : bytes_eq name b ≡ true = (bytes_decides name b).1 (sym e) in absurd (cc)

pub differ_head : {X : Type 0} (x : X) (xs : List X) → Differ (x ∷ xs) → All (λ y. x ≢ y) xs
differ_head x xs d = λ k e lt. d 0 (suc k) e (omega arith) (omega (arith, lt))

pub differ_tail : {X : Type 0} (x : X) (xs : List X) → Differ (x ∷ xs) → Differ xs
differ_tail x xs d = λ i j e lt within. d (suc i) (suc j) e (omega (arith, lt)) (omega (arith, within))

lacks_front : (xs ys : List Name) (name : Name) → Lacks (xs ++ ys) name → Lacks xs name
lacks_front xs ys name l = All-from_contains xs (λ b c. All-contains (λ z. z ≢ name) (xs ++ ys) b l (Contains-append_left xs ys b c))
  where
    All-from_contains : (zs : List Name) → ((b : Name) → Contains zs b → b ≢ name) → All (λ b. b ≢ name) zs
    All-from_contains zs f = All-weaker (Contains zs) (λ b. b ≢ name) f zs (All-contains_itself zs)

lacks : (before : List Name) (name : Name) → is_among before name ≡ false → Lacks before name
lacks [] name h = All-nil (λ b. b ≢ name)
lacks (b ∷ before) name h =
    let both = or_parts (bytes_eq name b) (list_any (bytes_eq name) before) h in
    All-cons (λ c. c ≢ name) b before (unequal name b both.0) (lacks before name both.1)

new_lacks : (before : List Name) (name : Name) → is_new before name ≡ pass → Lacks before name
new_lacks before name h = lacks before name (untold (is_among before name) h)
  where
    untold : (b : Bool) → cond b (Err (fault.Twice name)) pass ≡ pass → b ≡ false
    untold true t = absurd (cc)
    untold false t = refl

module _ {X : Type 0} (name_of : X → Name) (inside : X → Judgement) where
  -- each name is new among those before the items, they differ, and what each item holds passes
  pub record AreDistinct (before : List Name) (xs : List X) : Type 0 where
    pub apart : All (λ x. Lacks before (name_of x)) xs
    pub differ : Differ (map name_of xs)
    pub passes : All (λ x. inside x ≡ pass) xs

  pub are_distinct : (before : List Name) (xs : List X) → distinct name_of inside before xs ≡ pass → AreDistinct before xs
  are_distinct before [] h = record { apart = All-nil (λ x. Lacks before (name_of x)); differ = λ i j d lt within. absurd (omega arith); passes = All-nil (λ x. inside x ≡ pass) }
  are_distinct before (x ∷ xs) h =
      let new = then_passes (is_new before (name_of x)) (inside x >> distinct name_of inside (before ++ name_of x ∷ []) xs) tt h in
      let within = then_passes (inside x) (distinct name_of inside (before ++ name_of x ∷ []) xs) tt new.1 in
      let rest = are_distinct (before ++ name_of x ∷ []) xs within.1 in
      let old : All (λ y. Lacks before (name_of y)) xs =
      All-weaker (λ y. Lacks (before ++ name_of x ∷ []) (name_of y)) (λ y. Lacks before (name_of y)) (λ y l. lacks_front before (name_of x ∷ []) (name_of y) l) xs rest.apart in
      let last : All (λ y. name_of x ≢ name_of y) xs =
      All-weaker (λ y. Lacks (before ++ name_of x ∷ []) (name_of y)) (λ y. name_of x ≢ name_of y) (λ y l. All-contains (λ b. b ≢ name_of y) (before ++ name_of x ∷ []) (name_of x) l (Contains-push before (name_of x))) xs rest.apart in
      record {
        apart = All-cons (λ y. Lacks before (name_of y)) x xs (new_lacks before (name_of x) new.0) old;
        differ = AllPairs-cons (λ a b. a ≢ b) (name_of x) (map name_of xs) (All-map (λ b. name_of x ≢ b) name_of xs last) rest.differ;
        passes = All-cons (λ y. inside y ≡ pass) x xs within.0 rest.passes;
      }

-- ---- numbers of names that differ

-- what maps to names that differ differs itself
pub differ_back : {X Y : Type 0} (R : X → Y → Type 0) (xs : List X) (ys : List Y) → ((x z : X) (y w : Y) → R x y → R z w → y ≡ w → x ≡ z) → Pairwise R xs ys → Differ xs → Differ ys
differ_back R [] [] f h d = λ i j e lt within. absurd (omega arith)
differ_back R [] (y ∷ ys) f h d = absurd h
differ_back R (x ∷ xs) [] f h d = absurd h
differ_back R (x ∷ xs) (y ∷ ys) f h d =
    AllPairs-cons (λ a b. a ≢ b) y ys
    (pair_all R (λ z. x ≢ z) (λ w. y ≢ w) (λ z w n r e. n (f x z y w h.0 r e)) xs ys (differ_head x xs d) h.1)
    (differ_back R xs ys f h.1 (differ_tail x xs d))
