-- Keys in an index: what a change leaves, and what lies in a group.
use Rattle.std.proofs.Common.{◌≡◌, ℕ, ◌<◌, ◌≤◌, ◌^◌, eqb, leb, Bool, true, false, cond, List, [], ◌∷◌, Option, Some, None, refl, sym, ap, ◌∙◌, subst, ⊎_elim, arith, rules}
use Rattle.std.specs.Prelude.{◌&&◌, ◌||◌, not, filter, All, Contains}
use Rattle.std.specs.List.{list_any}
use Rattle.std.specs.declared.cmp.Ordering.TheVariants.{Less, Equal, Greater}
use Rattle.std.specs.declared.ops.Bound.TheVariants.{Included}
use Rattle.std.specs.Cmp.{IsTotalOrder, then_total, on_total, nat_cmp_total}
use Rattle.std.specs.Ordering.{nat_cmp, ordering_then, is_eq, is_le, is_lt}
use Rattle.std.specs.BTreeMap.{is_at}
use Rattle.std.specs.BTreeMap.Range.{range_contains}
use Rattle.std.proofs.lemmas.Grind.{common_steps}
use Rattle.std.proofs.lemmas.Bool.{and_parts, and_from, eqb-true, eq-eqb, ne_eqb, lt-ltb, le-ltb, leb-true, le-leb, cases_eq, cases_order}
use Rattle.std.proofs.lemmas.Bool.Decides.{nat_tests}
use Rattle.std.proofs.lemmas.Cmp.{tied_itself}
use Rattle.std.proofs.lemmas.List.Elements.{All-weaker, All-contains}
use Rattle.pl_lists.proofs.Tests.{same_test}
use Rattle.pl_lists.proofs.Orderings.{equal_from_test}
use Rattle.pl_links.specs.declared.keys.Key.{Key}
use Rattle.pl_links.specs.Keys.{key_cmp, has_key, is_key_of, lies, lies_in, IsShort, AreShort}
use Rattle.pl_links.specs.Windows.{in_window}
use Rattle.pl_links.proofs.Anys.{any_from, any_found, filter_alike, any_alike_in}

pub key_total : IsTotalOrder key_cmp
key_total = then_total (on_total (λ (k : Key). k.group) nat_cmp_total) (then_total (on_total (λ (k : Key). k.number) nat_cmp_total) (on_total (λ (k : Key). k.id) nat_cmp_total))

pub key_exact : (x y : Key) → key_cmp x y ≡ Equal → x ≡ y
key_exact x y e = grind (arith, common_steps)

abbrev pub key : ℕ → ℕ → ℕ → Key
key group number id = record { group = group; number = number; id = id }

pub same_key : (k q : Key) → is_at (key_cmp k) q ≡ true → k ≡ q
same_key k q e = key_exact k q (equal_from_test (key_cmp k q) e)

pub key_itself : (k : Key) → is_at (key_cmp k) k ≡ true
key_itself k = ap is_eq (tied_itself key_total k)

pub has_contained : (k : Key) (keys : List Key) → Contains keys k → has_key k keys ≡ true
has_contained k keys within = any_from (is_at (key_cmp k)) keys k within (key_itself k)

pub contained : (k : Key) (keys : List Key) → has_key k keys ≡ true → Contains keys k
contained k keys e =
    let found = any_found (is_at (key_cmp k)) keys e in
    let is : found.0 ≡ k = sym (same_key k found.0 found.2) in
    subst (λ q. Contains keys q) is found.1

is_of : (group number id : ℕ) (k : Key) → is_key_of (Some (group, number)) id k ≡ true → key group number id ≡ k
is_of group number id k e =
    let both = and_parts (eqb k.id id) (eqb group k.group && eqb number k.number) e in
    let place = and_parts (eqb group k.group) (eqb number k.number) both.1 in
    let i : k.id ≡ id = eqb-true k.id id both.0 in
    let g : group ≡ k.group = eqb-true group k.group place.0 in
    let n : number ≡ k.number = eqb-true number k.number place.1 in
    rw (g, n, ← i) refl

is_key : (group number id : ℕ) → is_key_of (Some (group, number)) id (key group number id) ≡ true
is_key group number id = and_from (eqb id id) (eqb group group && eqb number number) (eq-eqb id id refl) (and_from (eqb group group) (eqb number number) (eq-eqb group group refl) (eq-eqb number number refl))

pub at_key : (group number id : ℕ) (k : Key) → is_at (key_cmp (key group number id)) k ≡ is_key_of (Some (group, number)) id k
at_key group number id k =
    same_test (is_at (key_cmp (key group number id)) k) (is_key_of (Some (group, number)) id k)
    (λ e. subst (λ q. is_key_of (Some (group, number)) id q ≡ true) (same_key (key group number id) k e) (is_key group number id))
    (λ e. subst (λ q. is_at (key_cmp (key group number id)) q ≡ true) (is_of group number id k e) (key_itself (key group number id)))

with_test : (t b : Bool) → cond t true b ≡ (b || t)
with_test true true = refl
with_test true false = refl
with_test false true = refl
with_test false false = refl

without_test : (t b : Bool) → cond t false b ≡ (b && not t)
without_test true true = refl
without_test true false = refl
without_test false true = refl
without_test false false = refl

pub with_key : (group number id : ℕ) (k : Key) (b : Bool) → cond (is_at (key_cmp (key group number id)) k) true b ≡ (b || is_key_of (Some (group, number)) id k)
with_key group number id k b = ap (λ t. cond t true b) (at_key group number id k) ∙ with_test (is_key_of (Some (group, number)) id k) b

pub without_key : (group number id : ℕ) (k : Key) (b : Bool) → cond (is_at (key_cmp (key group number id)) k) false b ≡ (b && not (is_key_of (Some (group, number)) id k))
without_key group number id k b = ap (λ t. cond t false b) (at_key group number id k) ∙ without_test (is_key_of (Some (group, number)) id k) b

pub cmp_less : (a b : ℕ) → a < b → nat_cmp a b ≡ Less
cmp_less a b lt = rw (lt-ltb a b lt) refl

pub cmp_equal : (a : ℕ) → nat_cmp a a ≡ Equal
cmp_equal a = rw (le-ltb a a (omega arith), eq-eqb a a refl) refl

pub cmp_greater : (a b : ℕ) → b < a → nat_cmp a b ≡ Greater
cmp_greater a b lt = rw (le-ltb a b (omega (arith, lt)), ne_eqb a b (λ e. omega (arith, lt, e))) refl

-- a key at one number, by id
at_number : (id last : ℕ) → id ≤ last → (is_le (nat_cmp 0 id) && not (is_lt (nat_cmp last id))) ≡ true
at_number id last le = ⊎_elim
    (λ (e : id ≡ 0). subst (λ i. (is_le (nat_cmp 0 i) && not (is_lt (nat_cmp last i))) ≡ true) (sym e) (ends last))
    (λ (ne : id ≡ 0 → ⊥). rw (cmp_less 0 id (grind (arith, ne))) (below last id le))
    (cases_eq id 0)
  where
    below : (last id : ℕ) → id ≤ last → (true && not (is_lt (nat_cmp last id))) ≡ true
    below last id le = ⊎_elim
        (λ (e : last ≡ id). subst (λ i. (true && not (is_lt (nat_cmp i id))) ≡ true) (sym e) (rw (cmp_equal id) refl))
        (λ (ne : last ≡ id → ⊥). rw (cmp_greater last id (grind (arith, le, ne))) refl)
        (cases_eq last id)

    ends : (last : ℕ) → (is_le (nat_cmp 0 0) && not (is_lt (nat_cmp last 0))) ≡ true
    ends last = below last 0 (omega arith)

pub in_group : (group from to last : ℕ) (k : Key) → k.id ≤ last → range_contains key_cmp (Included (key group from 0)) (Included (key group to last)) k ≡ lies group from to k
in_group group from to last k le = grind (arith, common_steps, nat_tests, at_number k.id last le)

pub group_keys : (group from to last : ℕ) (keys : List Key) → (last ≡ 4294967295) → AreShort keys → filter (range_contains key_cmp (Included (key group from 0)) (Included (key group to last))) keys ≡ filter (lies group from to) keys
group_keys group from to last keys is short =
    filter_alike (range_contains key_cmp (Included (key group from 0)) (Included (key group to last))) (lies group from to) keys
    (All-weaker IsShort (λ k. range_contains key_cmp (Included (key group from 0)) (Included (key group to last)) k ≡ lies group from to k)
    (λ k s. in_group group from to last k (omega (arith, s.1, is))) keys short)

pub lies_at : (group number : ℕ) (k : Key) → lies group number number k ≡ true → key group number k.id ≡ k
lies_at group number k e =
    let both = and_parts (eqb k.group group) (leb number k.number && leb k.number number) e in
    let between = and_parts (leb number k.number) (leb k.number number) both.1 in
    let g : k.group ≡ group = eqb-true k.group group both.0 in
    let n : k.number ≡ number = omega (arith, leb-true number k.number between.0, leb-true k.number number between.1) in
    rw (← g, ← n) refl

pub at_lies : (group number id : ℕ) → lies group number number (key group number id) ≡ true
at_lies group number id = and_from (eqb group group) (leb number number && leb number number) (eq-eqb group group refl) (and_from (leb number number) (leb number number) (le-leb number number (omega arith)) (le-leb number number (omega arith)))

-- ---- what lies in a window

-- windows that are the same for the numbers of the type
pub any_within : (group : ℕ) (w : Option (ℕ × ℕ)) (lies : ℕ → Bool) (g : Key → Bool) (keys : List Key) → AreShort keys
    → ((m : ℕ) → m < 2 ^ 32 → in_window w m ≡ lies m)
    → list_any (λ k. lies_in group w k && g k) keys ≡ list_any (λ k. (eqb k.group group && lies k.number) && g k) keys
any_within group w lies g keys short within =
    any_alike_in (λ k. lies_in group w k && g k) (λ k. (eqb k.group group && lies k.number) && g k) keys
    (All-weaker IsShort (λ k. (lies_in group w k && g k) ≡ ((eqb k.group group && lies k.number) && g k))
    (λ k s. ap (λ b. (eqb k.group group && b) && g k) (within k.number s.0)) keys short)

pub none_within : (group : ℕ) (g : Key → Bool) (keys : List Key) → list_any (λ k. lies_in group None k && g k) keys ≡ false
none_within group g [] = refl
none_within group g (k ∷ keys) = rw (none_within group g keys) (none (eqb k.group group) (g k))
  where
    none : (a b : Bool) → (((a && false) && b) || false) ≡ false
    none true b = refl
    none false b = refl
