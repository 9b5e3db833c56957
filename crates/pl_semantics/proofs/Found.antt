-- What is found by an id.
use Rattle.std.proofs.Common.{◌≡◌, ℕ, ◌<◌, eqb, Bool, true, false, List, [], ◌∷◌, length, get_or, Option, Some, None, IfSome, refl, sym, ap, ◌∙◌, subst}
use Rattle.std.specs.Prelude.{All}
use Rattle.std.specs.Option.{option_map}
use Rattle.std.proofs.lemmas.Bool.{eqb-true}
use Rattle.std.proofs.lemmas.List.Elements.{All-head, All-tail}
use Rattle.std.proofs.lemmas.Option.{slice_get_read}
use Rattle.pl_model.specs.declared.kinds.Kind.{Kind}
use Rattle.pl_plan.specs.declared.activity.Activity.{Activity}
use Rattle.pl_plan.specs.Activities.{AreRising, IsLive, activity_of}
use Rattle.pl_plan.specs.Trees.{IsParented}
use Rattle.pl_plan.specs.Fitting.{FitsAlone, kind_of}
use Rattle.pl_plan.proofs.Ids.{found_at}
use Rattle.pl_semantics.specs.declared.plan_state.PlanState.{PlanState}
use Rattle.pl_semantics.specs.Whole.{IsWhole}

-- what holds of what is looked up holds behind the reference to it
pub known_by : {A B : Type 0} (f : A → B) (P : B → Type 0) (o : Option A) (r : Option B) → option_map f o ≡ r → ((x : B) → r ≡ Some x → P x) → IfSome o (λ a. P (f a))
known_by f P None r e each = tt
known_by f P (Some a) r e each = each (f a) (sym e)

-- the activity at a place is found by its id
pub found_here : (xs ys : List Activity) → xs ≡ ys → AreRising ys → (i : ℕ) (x : Activity) → i < length xs → x ≡ get_or xs i x → activity_of x.id ys ≡ Some x
found_here xs ys same rising i x lt is =
    let lt' : i < length ys = subst (λ l. i < length l) same lt in
    let here : x ≡ get_or ys i x = is ∙ ap (λ l. get_or l i x) same in
    found_at ys 0 i x.id x rising lt' (ap (λ (a : Activity). a.id) (sym here)) ∙ ap Some (sym here)

-- what is found has the id
pub found_id : (id : ℕ) (xs : List Activity) (a : Activity) → activity_of id xs ≡ Some a → a.id ≡ id
found_id id [] a e = absurd (cc)
found_id id (x ∷ xs) a e = cases (eqb x.id id) refl (found_id id xs a)
  where
    cases : (b : Bool) → eqb x.id id ≡ b → (activity_of id xs ≡ Some a → a.id ≡ id) → a.id ≡ id
    cases true is more = let here : Some x ≡ Some a = rw is at e in let same : x ≡ a = cc in subst (λ (y : Activity). y.id ≡ id) same (eqb-true x.id id is)
    cases false is more = more (rw is at e)

pub found_live : (id : ℕ) (xs : List Activity) (a : Activity) → activity_of id xs ≡ Some a → activity_of a.id xs ≡ Some a
found_live id xs a e = ap (λ n. activity_of n xs) (found_id id xs a e) ∙ e

-- what holds of all holds of what is found
pub all_found : (P : Activity → Type 0) (id : ℕ) (xs : List Activity) (a : Activity) → All P xs → activity_of id xs ≡ Some a → P a
all_found P id [] a all e = absurd (cc)
all_found P id (x ∷ xs) a all e = cases (eqb x.id id) refl (all_found P id xs a (All-tail P x xs all))
  where
    cases : (b : Bool) → eqb x.id id ≡ b → (activity_of id xs ≡ Some a → P a) → P a
    cases true is more = let here : Some x ≡ Some a = rw is at e in let same : x ≡ a = cc in subst P same (All-head P x xs all)
    cases false is more = more (rw is at e)

pub fits_alone : (s : PlanState) → IsWhole s → (a : Activity) → activity_of a.id s.plan.activities ≡ Some a → FitsAlone s.model a
fits_alone s whole a live = all_found (FitsAlone s.model) a.id s.plan.activities a whole.fits.each live

pub parent_live : (s : PlanState) → IsWhole s → (a : Activity) → activity_of a.id s.plan.activities ≡ Some a → (p : ℕ × ℕ) → a.parent ≡ Some p → IsLive p.0 s.plan.activities
parent_live s whole a live p is =
    let parented : IsParented s.plan.activities a = all_found (IsParented s.plan.activities) a.id s.plan.activities a whole.fits.rooted.parents live in
    let h = rw is at parented in h.0

-- the kind at its number
pub kind_here : (s : PlanState) → IsWhole s → (a : Activity) → activity_of a.id s.plan.activities ≡ Some a → (ks : List Kind) → ks ≡ s.model.kinds → (k : Kind) → k ≡ get_or ks a.kind k → kind_of s.model a ≡ Some k
kind_here s whole a live ks all k is = slice_get_read s.model.kinds (length s.model.kinds) a.kind k refl (fits_alone s whole a live).kind (is ∙ ap (λ l. get_or l a.kind k) all)

pub kind_within : (s : PlanState) → IsWhole s → (a : Activity) → activity_of a.id s.plan.activities ≡ Some a → (ks : List Kind) → ks ≡ s.model.kinds → a.kind < length ks
kind_within s whole a live ks all = subst (λ l. a.kind < length l) (sym all) (fits_alone s whole a live).kind
