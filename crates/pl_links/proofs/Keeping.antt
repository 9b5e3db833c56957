-- A sorted list that holds what stands is the list of what is broken.
use Rattle.std.proofs.Common.{◌≡◌, ⊎_elim, eqb, ltb, ℕ, ◌<◌, ◌+◌, Bool, true, false, List, [], ◌∷◌, get_or, Option, Some, None, IfSome, refl, sym, ap, ◌∙◌, subst, arith}
use Rattle.std.specs.Prelude.{◌⊎◌, ◌&&◌, not}
use Rattle.std.specs.declared.cmp.Ordering.TheVariants.{Less}
use Rattle.std.specs.Ordering.{nat_cmp, bool_cmp, ordering_then}
use Rattle.std.specs.List.Sorted.{IsStrictlySortedBy}
use Rattle.std.proofs.lemmas.Bool.{eq-eqb}
use Rattle.std.proofs.lemmas.Map.Keys.{sorted_from_all_adjacent}
use Rattle.pl_lists.proofs.Tests.{same_test}
use Rattle.pl_model.specs.declared.whole.Model.{Model}
use Rattle.pl_links.specs.declared.placed.Placed.{Placed}
use Rattle.pl_links.specs.declared.broken.Broken.{Broken}
use Rattle.pl_links.specs.declared.changes.Changes.{Changes}
use Rattle.pl_links.specs.Changes.{Tells}
use Rattle.pl_links.specs.Items.{AreRising, item_of, with_item, without}
use Rattle.pl_links.specs.Broken.{broken_of}
use Rattle.pl_links.specs.Laws.{IsBefore, IsBroken}
use Rattle.pl_links.specs.Standing.{stands_at, stands}
use Rattle.pl_links.specs.Sets.{broken_cmp, has}
use Rattle.pl_links.specs.Filed.{left}
use Rattle.pl_links.specs.Kept.{Kept, before}
use Rattle.pl_links.proofs.BrokenLaws.{broken, exactly_the_broken}
use Rattle.pl_links.proofs.BrokenOrder.{broken_in_order}
use Rattle.pl_links.proofs.Keyed.{cmp_less, cmp_equal}
use Rattle.pl_links.proofs.Left.{item_is, item_here}
use Rattle.pl_links.proofs.Marks.{broken_total, held, has_held, only_list}

less_before : (x y : Broken) → IsBefore x y → broken_cmp x y ≡ Less
less_before x y is = ⊎_elim
    (λ (lt : x.id < y.id). rw (cmp_less x.id y.id lt) refl)
    (λ (same : (x.id ≡ y.id) × ((x.index < y.index) ⊎ ((x.index ≡ y.index) × (x.slots ≡ false) × (y.slots ≡ true)))).
    rw (same.0, cmp_equal y.id) (by_index same.1))
    is
  where
    by_index : (x.index < y.index) ⊎ ((x.index ≡ y.index) × (x.slots ≡ false) × (y.slots ≡ true)) → ordering_then (nat_cmp x.index y.index) (bool_cmp x.slots y.slots) ≡ Less
    by_index is = ⊎_elim
        (λ (lt : x.index < y.index). rw (cmp_less x.index y.index lt) refl)
        (λ (same : (x.index ≡ y.index) × (x.slots ≡ false) × (y.slots ≡ true)). rw (same.0, cmp_equal y.index, same.1, same.2) refl)
        is

sorted_of : (model : Model) (items : List Placed) → AreRising items → IsStrictlySortedBy broken_cmp (broken_of model items)
sorted_of model items rising =
    let bs = broken_of model items in
    let d = broken 0 0 false in
    sorted_from_all_adjacent broken_total bs d (λ k lt. less_before (get_or bs k d) (get_or bs (k + 1) d) (broken_in_order model items rising k (k + 1) d (omega arith) lt))

stands_from : (model : Model) (items : List Placed) (b : Broken) → AreRising items → IsBroken model items b → stands model items b ≡ true
stands_from model items b rising is =
    let here : item_of b.id items ≡ Some is.own = subst (λ i. item_of i items ≡ Some is.own) is.id (item_here items is.own rising is.placed) in
    ap (stands_at model items b) here ∙ is.failing

broken_from : (model : Model) (items : List Placed) (b : Broken) → stands model items b ≡ true → IsBroken model items b
broken_from model items b e = cases (item_of b.id items) refl
  where
    cases : (o : Option Placed) → item_of b.id items ≡ o → IsBroken model items b
    cases None at = let bad : false ≡ true = sym (ap (stands_at model items b) at) ∙ e in absurd (cc)
    cases (Some own) at =
        let is = item_is b.id items own at in
        record { own = own; placed = is.0; id = is.1; failing = sym (ap (stands_at model items b) at) ∙ e }

-- what is listed as broken is what stands
pub listed_stands : (model : Model) (items : List Placed) (b : Broken) → AreRising items → has b (broken_of model items) ≡ stands model items b
listed_stands model items b rising =
    same_test (has b (broken_of model items)) (stands model items b)
    (λ e. stands_from model items b rising ((exactly_the_broken model items b).0 (held b (broken_of model items) e)))
    (λ e. has_held b (broken_of model items) ((exactly_the_broken model items b).1 (broken_from model items b e)))

pub listed : (model : Model) (items : List Placed) (bs : List Broken) → AreRising items → IsStrictlySortedBy broken_cmp bs → ((b : Broken) → has b bs ≡ stands model items b) → bs ≡ broken_of model items
listed model items bs rising sorted holds = only_list bs (broken_of model items) sorted (sorted_of model items rising) (λ b. holds b ∙ sym (listed_stands model items b rising))

-- what changes nothing with an activity, changes nothing without it
pub either_way : (model : Model) (gone : Option ℕ) (id : ℕ) (items : List Placed) (b : Broken) → IfSome gone (λ g. g ≡ id) → stands model items b ≡ stands model (without id items) b → stands model (before gone id items) b ≡ stands model (left gone items) b
either_way model None id items b is same = sym same
either_way model (Some g) id items b is same = same ∙ ap (λ i. stands model (without i items) b) (sym is)

-- what is listed for a model stands by it
pub now_stands : (model : Model) (items : List Placed) (bs : List Broken) (b : Broken) → AreRising items → bs ≡ broken_of model items → has b bs ≡ stands model items b
now_stands model items bs b rising is = ap (has b) is ∙ listed_stands model items b rising

pub without-with : (p : Placed) (items : List Placed) → item_of p.id items ≡ None → without p.id (with_item p items) ≡ items
without-with p [] none = rw (eq-eqb p.id p.id refl) refl
without-with p (x ∷ items) none = cases (eqb x.id p.id) refl (ltb x.id p.id) refl (without-with p items)
  where
    cases : (t : Bool) → eqb x.id p.id ≡ t → (u : Bool) → ltb x.id p.id ≡ u → (item_of p.id items ≡ None → without p.id (with_item p items) ≡ items) → without p.id (with_item p (x ∷ items)) ≡ x ∷ items
    cases true t u v more = let found : Some x ≡ None = rw t at none in absurd (cc)
    cases false t true v more = let rest : item_of p.id items ≡ None = rw t at none in rw (v, t, more rest) refl
    cases false t false v more = rw (v, eq-eqb p.id p.id refl) refl

pub same_kept : (a c : List Placed) (b d : List Broken) → a ≡ c → b ≡ d → ◌≡◌ {A = Kept} (record { items = a; broken = b }) (record { items = c; broken = d })
same_kept a c b d e f = rw (e, f) refl

-- what is not placed stays out
pub absent_stays : (id : ℕ) (items : List Placed) → item_of id items ≡ None → items ≡ without id items
absent_stays id [] none = refl
absent_stays id (x ∷ items) none = cases (eqb x.id id) refl (absent_stays id items)
  where
    cases : (b : Bool) → eqb x.id id ≡ b → (item_of id items ≡ None → items ≡ without id items) → x ∷ items ≡ without id (x ∷ items)
    cases true e more = absurd (let bad : Some x ≡ None = rw e at none in cc)
    cases false e more = let rest : item_of id items ≡ None = rw e at none in rw e (ap (λ l. x ∷ l) (more rest))

pub tells_nothing : (bs : List Broken) (changes : Changes) → changes.came.items ≡ [] → changes.went.items ≡ [] → Tells bs bs changes
unfolding IsStrictlySortedBy
tells_nothing bs changes none none_too = record {
  came = λ b. ap (has b) none ∙ sym (never (has b bs));
  went = λ b. ap (has b) none_too ∙ sym (never (has b bs));
  came_once = subst (IsStrictlySortedBy broken_cmp) (sym none) tt;
  went_once = subst (IsStrictlySortedBy broken_cmp) (sym none_too) tt;
}
  where
    never : (t : Bool) → (t && not t) ≡ false
    never true = refl
    never false = refl
