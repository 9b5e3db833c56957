-- Two lists that are gone through side by side.
use Rattle.std.proofs.Common.{◌≡◌, ℕ, zero, suc, ◌+◌, ◌<◌, ◌≤◌, Bool, cond, List, [], ◌∷◌, ◌++◌, map, take, drop, length, get_or, sym, ap, ◌∙◌, subst, arith}
use Rattle.std.proofs.lemmas.Bool.{ne_eqb}
use Rattle.std.proofs.lemmas.List.{take_more, take_all, map-append}
use Rattle.pl_lists.specs.Lists.{Pairwise}
use Rattle.pl_plan.specs.declared.activity.Activity.{Activity}
use Rattle.pl_memo.specs.Renames.{renamed}

module _ {T : Type 0} where
  pub same_more : (xs ys : List T) (i : ℕ) (d e : T) → i < length xs → length xs ≡ length ys → take i xs ≡ take i ys → get_or xs i d ≡ get_or ys i e → take (i + 1) xs ≡ take (i + 1) ys
  same_more xs ys i d e lt long same one =
      take_more xs i d lt
      ∙ (ap (λ (l : List T). l ++ get_or xs i d ∷ []) same ∙ (ap (λ (x : T). take i ys ++ x ∷ []) one ∙ sym (take_more ys i e (omega (arith, lt, long)))))

  pub same_all : (xs ys : List T) (i : ℕ) → length xs ≤ i → length xs ≡ length ys → take i xs ≡ take i ys → xs ≡ ys
  same_all xs ys i ge long same = sym (take_all i xs ge) ∙ (same ∙ take_all i ys (omega (arith, ge, long)))

module _ {T U : Type 0} (f : T → U) where
  pub mapped_more : (xs : List T) (ys : List U) (i : ℕ) (d : T) (e : U) → i < length xs → length xs ≡ length ys → map f (take i xs) ≡ take i ys → f (get_or xs i d) ≡ get_or ys i e → map f (take (i + 1) xs) ≡ take (i + 1) ys
  mapped_more xs ys i d e lt long same one =
      ap (map f) (take_more xs i d lt)
      ∙ (map-append f (take i xs) (get_or xs i d ∷ [])
      ∙ (ap (λ (l : List U). l ++ f (get_or xs i d) ∷ []) same ∙ (ap (λ (x : U). take i ys ++ x ∷ []) one ∙ sym (take_more ys i e (omega (arith, lt, long))))))

  pub mapped_all : (xs : List T) (ys : List U) (i : ℕ) → length xs ≤ i → length xs ≡ length ys → map f (take i xs) ≡ take i ys → map f xs ≡ ys
  mapped_all xs ys i ge long same = sym (ap (map f) (take_all i xs ge)) ∙ (same ∙ take_all i ys (omega (arith, ge, long)))

module _ {T U : Type 0} (R : T → U → Type 0) where
  pair_push : (xs : List T) (ys : List U) (x : T) (y : U) → Pairwise R xs ys → R x y → Pairwise R (xs ++ x ∷ []) (ys ++ y ∷ [])
  pair_push [] [] x y pairs one = (one, tt)
  pair_push [] (b ∷ ys) x y pairs one = absurd pairs
  pair_push (a ∷ xs) [] x y pairs one = absurd pairs
  pair_push (a ∷ xs) (b ∷ ys) x y pairs one = (pairs.0, pair_push xs ys x y pairs.1 one)

  pub pairs_more : (xs : List T) (ys : List U) (i : ℕ) (d : T) (e : U) → i < length xs → length xs ≡ length ys → Pairwise R (take i xs) (take i ys) → R (get_or xs i d) (get_or ys i e) → Pairwise R (take (i + 1) xs) (take (i + 1) ys)
  pairs_more xs ys i d e lt long pairs one =
      subst (λ (l : List T). Pairwise R l (take (i + 1) ys)) (sym (take_more xs i d lt))
      (subst (λ (l : List U). Pairwise R (take i xs ++ get_or xs i d ∷ []) l) (sym (take_more ys i e (omega (arith, lt, long)))) (pair_push (take i xs) (take i ys) (get_or xs i d) (get_or ys i e) pairs one))

  pub pairs_all : (xs : List T) (ys : List U) (i : ℕ) → length xs ≤ i → length xs ≡ length ys → Pairwise R (take i xs) (take i ys) → Pairwise R xs ys
  pairs_all xs ys i ge long pairs =
      subst (λ (l : List T). Pairwise R l ys) (take_all i xs ge) (subst (λ (l : List U). Pairwise R (take i xs) l) (take_all i ys (omega (arith, ge, long))) pairs)

-- one that is not looked for is passed over
skipped : (gone placed : List Activity) (i : ℕ) (d : Activity) (id : ℕ) → i < length gone → length gone ≡ length placed → ((get_or gone i d).id ≡ id → ⊥) → renamed (drop (suc i) gone) (drop (suc i) placed) id ≡ renamed (drop i gone) (drop i placed) id
skipped [] placed i d id lt long other = absurd (omega (arith, lt))
skipped (g ∷ gone) [] i d id lt long other = absurd (omega (arith, long))
skipped (g ∷ gone) (p ∷ placed) zero d id lt long other = sym (ap (λ (b : Bool). cond b p.id (renamed gone placed id)) (ne_eqb g.id id other))
skipped (g ∷ gone) (p ∷ placed) (suc i) d id lt long other = skipped gone placed i d id (omega (arith, lt)) (omega (arith, long)) other

pub renamed_more : (gone placed : List Activity) (i : ℕ) (d : Activity) (id : ℕ) → i < length gone → length gone ≡ length placed → ((get_or gone i d).id ≡ id → ⊥) → renamed (drop (i + 1) gone) (drop (i + 1) placed) id ≡ renamed (drop i gone) (drop i placed) id
renamed_more gone placed i d id lt long other =
    let on : i + 1 ≡ suc i = omega arith in
    ap (λ (n : ℕ). renamed (drop n gone) (drop n placed) id) on ∙ skipped gone placed i d id lt long other
