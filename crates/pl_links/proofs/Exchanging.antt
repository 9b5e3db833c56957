-- A list of what is broken, with some put in and some taken out.
use Rattle.std.proofs.Common.{◌≡◌, ℕ, ◌<◌, ◌+◌, Bool, true, false, cond, List, [], ◌∷◌, take, filter, get_or, length, Result, Ok, Err, refl, sym, ap, ◌∙◌, subst, arith}
use Rattle.std.specs.Prelude.{◌&&◌, ◌||◌, not, All, Contains, OnOk, OnErr, is_err}
use Rattle.std.specs.BTreeMap.{is_at}
use Rattle.std.specs.List.{list_any}
use Rattle.std.specs.List.Sorted.{IsStrictlySortedBy}
use Rattle.std.proofs.lemmas.Bool.{and_parts, and_from, not-true}
use Rattle.std.proofs.lemmas.List.Folds.{list_any_more}
use Rattle.std.proofs.lemmas.List.Elements.{All-contains, All-take, All-weaker, filter_passes}
use Rattle.std.proofs.Math.Bool.{and-true}
use Rattle.pl_lists.proofs.Tests.{same_test}
use Rattle.pl_links.specs.declared.broken.Broken.{Broken}
use Rattle.pl_links.specs.Sets.{broken_cmp, has}
use Rattle.pl_links.proofs.Anys.{any_filter, any_from, any_found}
use Rattle.pl_links.proofs.Marks.{itself, same_broken, held, has_held, only_list}

pub ok_at : {T E : Type 0} (r : Result T E) (P : Type 0) → is_err r ≡ false → OnOk r P → P
ok_at (Ok x) P e h = h
ok_at (Err x) P e h = absurd (let bad : true ≡ false = e in (cc))

pub err_at : {T E : Type 0} (r : Result T E) (P : Type 0) → is_err r ≡ true → OnErr r P → P
err_at (Ok x) P e h = absurd (let bad : false ≡ true = e in (cc))
err_at (Err x) P e h = h

flipped : (a b : Broken) → is_at (broken_cmp a) b ≡ is_at (broken_cmp b) a
flipped a b =
    same_test (is_at (broken_cmp a) b) (is_at (broken_cmp b) a)
    (λ e. subst (λ x. is_at (broken_cmp x) a ≡ true) (same_broken a b e) (itself a))
    (λ e. subst (λ x. is_at (broken_cmp x) b ≡ true) (same_broken b a e) (itself b))

has_more : (b : Broken) (xs : List Broken) (i : ℕ) (d : Broken) → i < length xs → has b (take (i + 1) xs) ≡ (has b (take i xs) || is_at (broken_cmp (get_or xs i d)) b)
has_more b xs i d lt = list_any_more (is_at (broken_cmp b)) xs i d lt ∙ ap (λ t. has b (take i xs) || t) (flipped b (get_or xs i d))

with_one : (o t k : Bool) → cond k true (o || t) ≡ (o || (t || k))
with_one true true true = refl
with_one true true false = refl
with_one true false true = refl
with_one true false false = refl
with_one false true true = refl
with_one false true false = refl
with_one false false true = refl
with_one false false false = refl

without_one : (o t k : Bool) → cond k false (o && not t) ≡ (o && not (t || k))
without_one true true true = refl
without_one true true false = refl
without_one true false true = refl
without_one true false false = refl
without_one false true true = refl
without_one false true false = refl
without_one false false true = refl
without_one false false false = refl

pub inserted_more : (old came : List Broken) (i : ℕ) (d b : Broken) (held : Bool) → i < length came → held ≡ (has b old || has b (take i came)) → cond (is_at (broken_cmp (get_or came i d)) b) true held ≡ (has b old || has b (take (i + 1) came))
inserted_more old came i d b held lt is = rw (is, has_more b came i d lt) (with_one (has b old) (has b (take i came)) (is_at (broken_cmp (get_or came i d)) b))

pub removed_more : (old went : List Broken) (i : ℕ) (d b : Broken) (held : Bool) → i < length went → held ≡ (has b old && not (has b (take i went))) → cond (is_at (broken_cmp (get_or went i d)) b) false held ≡ (has b old && not (has b (take (i + 1) went)))
removed_more old went i d b held lt is = rw (is, has_more b went i d lt) (without_one (has b old) (has b (take i went)) (is_at (broken_cmp (get_or went i d)) b))

put_back : (o t : Bool) → (t ≡ true → o ≡ false) → ((o || t) && not t) ≡ o
put_back true true apart = sym (apart refl)
put_back true false apart = refl
put_back false true apart = refl
put_back false false apart = refl

pub undone : (old came : List Broken) (i : ℕ) (b : Broken) (mid : Bool) → All (λ x. has x old ≡ false) came → mid ≡ (has b old || has b (take i came)) → (mid && not (has b (take i came))) ≡ has b old
undone old came i b mid absent is =
    rw is (put_back (has b old) (has b (take i came)) (λ e. All-contains (λ x. has x old ≡ false) (take i came) b (All-take (λ x. has x old ≡ false) i came absent) (held b (take i came) e)))

-- ---- what comes and what goes, among what is near

has_filter : (f : Broken → Bool) (b : Broken) (xs : List Broken) → has b (filter f xs) ≡ (f b && has b xs)
has_filter f b xs = any_filter f (is_at (broken_cmp b)) xs ∙ same_test (list_any (λ x. f x && is_at (broken_cmp b) x) xs) (f b && has b xs)
    (λ e. let found = any_found (λ x. f x && is_at (broken_cmp b) x) xs e in
    let parts = and_parts (f found.0) (is_at (broken_cmp b) found.0) found.2 in
    let is : found.0 ≡ b = sym (same_broken b found.0 parts.1) in
    and_from (f b) (has b xs) (sym (ap f is) ∙ parts.0) (has_held b xs (subst (λ x. Contains xs x) is found.1)))
    (λ e. let parts = and_parts (f b) (has b xs) e in
    any_from (λ x. f x && is_at (broken_cmp b) x) xs b (held b xs parts.1) (and_from (f b) (is_at (broken_cmp b) b) parts.0 (itself b)))

-- where only what is near may change, the exchange leaves what stands
module _ (f g : Broken → Bool) (old near : List Broken) (b : Broken) (is : has b old ≡ f b) (kept : has b near ≡ false → f b ≡ g b) where
  came_is : (o s n : Bool) → (n ≡ false → o ≡ s) → ((s && not o) && n) ≡ (s && not o)
  came_is o true true same = and-true (not o)
  came_is true true false same = refl
  came_is false true false same = same refl
  came_is o false n same = refl

  went_is : (o s n : Bool) → (n ≡ false → o ≡ s) → ((not s && o) && n) ≡ (o && not s)
  went_is true true n same = refl
  went_is true false true same = refl
  went_is true false false same = sym (same refl)
  went_is false true n same = refl
  went_is false false n same = refl

  left_is : (o s : Bool) → ((o || (s && not o)) && not (o && not s)) ≡ s
  left_is true true = refl
  left_is true false = refl
  left_is false true = refl
  left_is false false = refl

  pub came_tells : has b (filter (λ x. g x && not (has x old)) near) ≡ (g b && not (has b old))
  came_tells = has_filter (λ x. g x && not (has x old)) b near ∙ came_is (has b old) (g b) (has b near) (λ e. is ∙ kept e)

  pub went_tells : has b (filter (λ x. not (g x) && has x old) near) ≡ (has b old && not (g b))
  went_tells = has_filter (λ x. not (g x) && has x old) b near ∙ went_is (has b old) (g b) (has b near) (λ e. is ∙ kept e)

  pub mended : ((has b old || has b (filter (λ x. g x && not (has x old)) near)) && not (has b (filter (λ x. not (g x) && has x old) near))) ≡ g b
  mended = rw (came_tells, went_tells) (left_is (has b old) (g b))

pub absent_came : (g : Broken → Bool) (old near : List Broken) → All (λ b. has b old ≡ false) (filter (λ x. g x && not (has x old)) near)
absent_came g old near =
    All-weaker (λ x. (g x && not (has x old)) ≡ true) (λ b. has b old ≡ false) (λ b e. not-true (has b old) (and_parts (g b) (not (has b old)) e).1)
    (filter (λ x. g x && not (has x old)) near) (filter_passes (λ x. g x && not (has x old)) near)
