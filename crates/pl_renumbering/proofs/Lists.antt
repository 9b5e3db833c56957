-- Tests, searches and lists over the images of a list's items.
use Rattle.std.proofs.Common.{◌≡◌, ℕ, zero, suc, Bool, true, false, cond, List, [], ◌∷◌, ◌++◌, length, Some, refl, sym, ap, ◌∙◌}
use Rattle.std.specs.Prelude.{map, filter, find, take}
use Rattle.std.specs.List.{list_any, flat_map, fold}
use Rattle.std.specs.Option.{option_map}
use Rattle.std.proofs.lemmas.List.{map-append}
use Rattle.pl_lists.specs.Lists.{front, back}

module _ {X Y : Type 0} (v : X → Y) where
  pub any_mapped : (p : Y → Bool) (q : X → Bool) → ((x : X) → p (v x) ≡ q x) → (xs : List X) → list_any p (map v xs) ≡ list_any q xs
  any_mapped p q same [] = refl
  any_mapped p q same (x ∷ xs) = rw (same x, any_mapped p q same xs) refl

  pub find_mapped : (p : Y → Bool) (q : X → Bool) → ((x : X) → p (v x) ≡ q x) → (xs : List X) → find p (map v xs) ≡ option_map v (find q xs)
  find_mapped p q same [] = refl
  find_mapped p q same (x ∷ xs) = rw (same x) (by (q x) (find_mapped p q same xs))
    where
      by : (b : Bool) → find p (map v xs) ≡ option_map v (find q xs) → cond b (Some (v x)) (find p (map v xs)) ≡ option_map v (cond b (Some x) (find q xs))
      by true e = refl
      by false e = e

  pub filter_mapped : (p : Y → Bool) (q : X → Bool) → ((x : X) → p (v x) ≡ q x) → (xs : List X) → filter p (map v xs) ≡ map v (filter q xs)
  filter_mapped p q same [] = refl
  filter_mapped p q same (x ∷ xs) = rw (same x) (by (q x) (filter_mapped p q same xs))
    where
      by : (b : Bool) → filter p (map v xs) ≡ map v (filter q xs) → cond b (v x ∷ filter p (map v xs)) (filter p (map v xs)) ≡ map v (cond b (x ∷ filter q xs) (filter q xs))
      by true e = ap (λ l. v x ∷ l) e
      by false e = e

  pub map_mapped : {A B : Type 0} (g : A → B) (h : Y → B) (k : X → A) → ((x : X) → h (v x) ≡ g (k x)) → (xs : List X) → map h (map v xs) ≡ map g (map k xs)
  map_mapped g h k same [] = refl
  map_mapped g h k same (x ∷ xs) = rw (same x) (ap (λ l. g (k x) ∷ l) (map_mapped g h k same xs))

  pub flat_mapped : {A B : Type 0} (g : A → B) (h : Y → List B) (k : X → List A) → ((x : X) → h (v x) ≡ map g (k x)) → (xs : List X) → flat_map h (map v xs) ≡ map g (flat_map k xs)
  flat_mapped g h k same [] = refl
  flat_mapped g h k same (x ∷ xs) =
      ap (λ l. l ++ flat_map h (map v xs)) (same x) ∙ (ap (λ l. map g (k x) ++ l) (flat_mapped g h k same xs) ∙ sym (map-append g (k x) (flat_map k xs)))

  pub flat_unchanged : {B : Type 0} (h : Y → List B) (k : X → List B) → ((x : X) → h (v x) ≡ k x) → (xs : List X) → flat_map h (map v xs) ≡ flat_map k xs
  flat_unchanged h k same [] = refl
  flat_unchanged h k same (x ∷ xs) = ap (λ l. l ++ flat_map h (map v xs)) (same x) ∙ ap (λ l. k x ++ l) (flat_unchanged h k same xs)

  pub front_mapped : (p : Y → Bool) (q : X → Bool) → ((x : X) → p (v x) ≡ q x) → (xs : List X) → front p (map v xs) ≡ map v (front q xs)
  front_mapped p q same [] = refl
  front_mapped p q same (x ∷ xs) = rw (same x) (by (q x) (front_mapped p q same xs))
    where
      by : (b : Bool) → front p (map v xs) ≡ map v (front q xs) → cond b (v x ∷ front p (map v xs)) [] ≡ map v (cond b (x ∷ front q xs) [])
      by true e = ap (λ l. v x ∷ l) e
      by false e = refl

  pub back_mapped : (p : Y → Bool) (q : X → Bool) → ((x : X) → p (v x) ≡ q x) → (xs : List X) → back p (map v xs) ≡ map v (back q xs)
  back_mapped p q same [] = refl
  back_mapped p q same (x ∷ xs) = rw (same x) (by (q x) (back_mapped p q same xs))
    where
      by : (b : Bool) → back p (map v xs) ≡ map v (back q xs) → cond b (back p (map v xs)) (v x ∷ map v xs) ≡ map v (cond b (back q xs) (x ∷ xs))
      by true e = e
      by false e = refl

  pub take_mapped : (n : ℕ) (xs : List X) → take n (map v xs) ≡ map v (take n xs)
  take_mapped zero xs = refl
  take_mapped (suc n) [] = refl
  take_mapped (suc n) (x ∷ xs) = ap (λ l. v x ∷ l) (take_mapped n xs)

  -- lists that grow alike
  pub fold_mapped : (put : List Y → Y → List Y) (put' : List X → X → List X) → ((ys : List X) (x : X) → put (map v ys) (v x) ≡ map v (put' ys x)) → (ys xs : List X)
      → fold put (map v ys) (map v xs) ≡ map v (fold put' ys xs)
  fold_mapped put put' same ys [] = refl
  fold_mapped put put' same ys (x ∷ xs) = ap (λ l. fold put l (map v xs)) (same ys x) ∙ fold_mapped put put' same (put' ys x) xs

module _ {X A B : Type 0} (g : A → B) where
  -- over one list
  pub map_along : (h : X → B) (k : X → A) → ((x : X) → h x ≡ g (k x)) → (xs : List X) → map h xs ≡ map g (map k xs)
  map_along h k same [] = refl
  map_along h k same (x ∷ xs) = rw (same x) (ap (λ l. g (k x) ∷ l) (map_along h k same xs))

  pub flat_along : (h : X → List B) (k : X → List A) → ((x : X) → h x ≡ map g (k x)) → (xs : List X) → flat_map h xs ≡ map g (flat_map k xs)
  flat_along h k same [] = refl
  flat_along h k same (x ∷ xs) =
      ap (λ l. l ++ flat_map h xs) (same x) ∙ (ap (λ l. map g (k x) ++ l) (flat_along h k same xs) ∙ sym (map-append g (k x) (flat_map k xs)))

pub both_mapped : {A B : Type 0} (g : A → B) (xs ys : List B) (us ws : List A) → xs ≡ map g us → ys ≡ map g ws → xs ++ ys ≡ map g (us ++ ws)
both_mapped g xs ys us ws e h = ap (λ l. l ++ ys) e ∙ (ap (λ l. map g us ++ l) h ∙ sym (map-append g us ws))

pub length-mapped : {A B : Type 0} (g : A → B) (xs : List A) → length (map g xs) ≡ length xs
length-mapped g [] = refl
length-mapped g (x ∷ xs) = ap suc (length-mapped g xs)
