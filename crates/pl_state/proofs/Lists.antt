-- Items that a list leaves out, and those that it has.
use Rattle.std.proofs.Common.{◌≡◌, Bool, true, false, ◌||◌, cond, List, [], ◌∷◌, ◌++◌, refl, ap, sym, ◌∙◌, subst}
use Rattle.std.proofs.lemmas.List.{append_assoc, append-nil}
use Rattle.std.proofs.Math.Bool.{or-true, or_assoc}
use Rattle.pl_lists.specs.Lists.{is_among, left_out}

-- each item is in the list
abbrev pub Held : {T : Type 0} → (T → T → Bool) → List T → List T → Type 0
Held same all [] = Unit {0}
Held same all (x ∷ xs) = (is_among same all x ≡ true) × Held same all xs

pub left_append : {T : Type 0} (same : T → T → Bool) (all xs ys : List T) → left_out same all (xs ++ ys) ≡ left_out same all xs ++ left_out same all ys
left_append same all [] ys = refl
left_append same all (x ∷ xs) ys = cases (is_among same all x) (left_append same all xs ys)
  where
    cases : (b : Bool) → left_out same all (xs ++ ys) ≡ left_out same all xs ++ left_out same all ys → cond b (left_out same all (xs ++ ys)) (x ∷ left_out same all (xs ++ ys)) ≡ cond b (left_out same all xs) (x ∷ left_out same all xs) ++ left_out same all ys
    cases true e = e
    cases false e = ap (λ l. x ∷ l) e

pub held_none : {T : Type 0} (same : T → T → Bool) (all xs : List T) → Held same all xs → left_out same all xs ≡ []
held_none same all [] held = refl
held_none same all (x ∷ xs) held = rw held.0 (held_none same all xs held.1)

pub in_append : {T : Type 0} (same : T → T → Bool) (xs ys : List T) (x : T) → is_among same (xs ++ ys) x ≡ (is_among same xs x || is_among same ys x)
in_append same [] ys x = refl
in_append same (z ∷ zs) ys x = ap (λ b. same z x || b) (in_append same zs ys x) ∙ sym (or_assoc (same z x) (is_among same zs x) (is_among same ys x))

pub held_wide : {T : Type 0} (same : T → T → Bool) (p all q xs : List T) → Held same all xs → Held same (p ++ (all ++ q)) xs
held_wide same p all q [] held = tt
held_wide same p all q (x ∷ xs) held = (
  in_append same p (all ++ q) x ∙ (ap (λ b. is_among same p x || b) (in_append same all q x ∙ ap (λ b. b || is_among same q x) held.0) ∙ or-true (is_among same p x)),
  held_wide same p all q xs held.1,
)

pub held_self : {T : Type 0} (same : T → T → Bool) → ((x : T) → same x x ≡ true) → (p xs : List T) → Held same (p ++ xs) xs
held_self same itself p [] = tt
held_self same itself p (x ∷ xs) = (
  in_append same p (x ∷ xs) x ∙ (ap (λ b. is_among same p x || (b || is_among same xs x)) (itself x) ∙ or-true (is_among same p x)),
  subst (λ l. Held same l xs) (append_assoc p (x ∷ []) xs) (held_self same itself (p ++ x ∷ []) xs),
)

-- with the same front and end, only what is between them can be left out
pub left_middle : {T : Type 0} (same : T → T → Bool) → ((x : T) → same x x ≡ true) → (a m n c : List T) → left_out same (a ++ (n ++ c)) (a ++ (m ++ c)) ≡ left_out same (a ++ (n ++ c)) m
left_middle same itself a m n c =
    let all = a ++ (n ++ c) in
    let of_front : left_out same all a ≡ [] = held_none same all a (held_wide same [] a (n ++ c) a (held_self same itself [] a)) in
    let of_end : left_out same all c ≡ [] = held_none same all c (subst (λ l. Held same l c) (append_assoc a n c) (held_self same itself (a ++ n) c)) in
    left_append same all a (m ++ c) ∙ (ap (λ l. l ++ left_out same all (m ++ c)) of_front ∙ (left_append same all m c ∙ (ap (λ l. left_out same all m ++ l) of_end ∙ append-nil (left_out same all m))))

-- a list leaves out none of its own
pub left_self : {T : Type 0} (same : T → T → Bool) → ((x : T) → same x x ≡ true) → (xs : List T) → left_out same xs xs ≡ []
left_self same itself xs = held_none same xs xs (held_self same itself [] xs)
