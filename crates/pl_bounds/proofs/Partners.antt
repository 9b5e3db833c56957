-- A shift of an activity from which no other descends: no other one changes, and its links that find no partner are conflicts then.
use Rattle.std.proofs.Common.{◌≡◌, ℕ, ◌≤◌, Bool, true, false, cond, eqb, List, [], ◌∷◌, map, filter, length, Option, Some, None, refl, sym, ap, ◌∙◌, subst, arith, leb}
use Rattle.std.specs.Prelude.{◌&&◌, ◌||◌, not, All, is_some}
use Rattle.std.specs.List.{list_any}
use Rattle.std.specs.Option.{option_map}
use Rattle.std.proofs.lemmas.Bool.{eq-eqb, eqb-true, eqb-false, leb-true}
use Rattle.std.proofs.lemmas.List.Elements.{All-nil, All-cons, All-head, All-tail}
use Rattle.std.proofs.Math.Bool.{or-true}
use Rattle.pl_conflict.specs.declared.conflict.Conflict.{Conflict}
use Rattle.pl_model.specs.declared.links.Link.{Link}
use Rattle.pl_links.specs.declared.placed.Placed.{Placed}
use Rattle.pl_links.specs.Broken.{moment_of, are_apart, is_partner, lacks_partner, links_of}
use Rattle.pl_plan.specs.declared.activity.Activity.{Activity}
use Rattle.pl_plan.specs.declared.repair.RepairMove.TheVariants.{Shift}
use Rattle.pl_plan.specs.Activities.{activity_of}
use Rattle.pl_plan.specs.Firm.{end_in, end_of}
use Rattle.pl_plan.specs.Trees.{descends, id_of, subtree_of}
use Rattle.pl_plan.specs.Trees.Descends.{itself}
use Rattle.pl_plan.specs.Values.{Row, values_of}
use Rattle.pl_plan.proofs.Climbs.{all_at}
use Rattle.pl_plan.proofs.Kept.{each_found}
use Rattle.pl_plan.proofs.TreeLaws.{descends_complete}
use Rattle.pl_semantics.specs.declared.plan_state.PlanState.{PlanState}
use Rattle.pl_semantics.specs.Legal.{MayBeMade}
use Rattle.pl_semantics.specs.Links.{placed_of, placed_in}
use Rattle.pl_semantics.specs.Moves.{applied, moved, moved_with}
use Rattle.pl_semantics.specs.PlanStates.{found, end_at, is_ahead, is_committed, floor_of}
use Rattle.pl_semantics.specs.Whole.{IsWhole}
use Rattle.pl_semantics.proofs.Refusing.{may}
use Rattle.pl_update.specs.Changes.Replaced.{with_plan}
use Rattle.pl_update.proofs.AboutChanges.Keeping.{whole_replaced}
use Rattle.pl_moves.specs.Runs.{CanBeMade}
use Rattle.pl_bounds.specs.Moved.{moved_to}
use Rattle.pl_bounds.specs.Ties.{placed_at, count_of_lone, lone_then}
use Rattle.pl_bounds.proofs.Gathered.{AreLone, gathered, none_lone}
use Rattle.pl_bounds.proofs.Lonely.{lones_from}
use Rattle.pl_bounds.proofs.Moving.{end_is}
use Rattle.pl_bounds.proofs.Shifting.{activities_then, found_then, rows_same, is_id, may_replace, by_replacing, unmeasured_under}

-- ---- lists

singles : (p : ℕ → Bool) (id : ℕ) (ys : List Activity) → All (λ (i : ℕ). i ≡ id) (filter p (map id_of ys)) → All (λ (y : Activity). p y.id ≡ true → y.id ≡ id) ys
singles p id [] all = All-nil (λ (y : Activity). p y.id ≡ true → y.id ≡ id)
singles p id (y ∷ ys) all = by (p y.id) refl (singles p id ys)
  where
    by : (b : Bool) → p y.id ≡ b → (All (λ (i : ℕ). i ≡ id) (filter p (map id_of ys)) → All (λ (z : Activity). p z.id ≡ true → z.id ≡ id) ys) → All (λ (z : Activity). p z.id ≡ true → z.id ≡ id) (y ∷ ys)
    by true e more =
        let both : All (λ (i : ℕ). i ≡ id) (y.id ∷ filter p (map id_of ys)) = rw e at all in
        All-cons (λ (z : Activity). p z.id ≡ true → z.id ≡ id) y ys (λ h. All-head (λ (i : ℕ). i ≡ id) y.id (filter p (map id_of ys)) both) (more (All-tail (λ (i : ℕ). i ≡ id) y.id (filter p (map id_of ys)) both))
    by false e more =
        let rest : All (λ (i : ℕ). i ≡ id) (filter p (map id_of ys)) = rw e at all in
        All-cons (λ (z : Activity). p z.id ≡ true → z.id ≡ id) y ys (λ h. absurd (let bad : false ≡ true = sym e ∙ h in cc)) (more rest)

late : (p : Activity → Bool) (change : Activity → Activity) (n : ℕ) (ys : List Activity) → All (λ (b : Activity). n ≤ b.start) (map change (filter p ys)) → All (λ (y : Activity). p y ≡ true → n ≤ (change y).start) ys
late p change n [] all = All-nil (λ (y : Activity). p y ≡ true → n ≤ (change y).start)
late p change n (y ∷ ys) all = by (p y) refl (late p change n ys)
  where
    by : (b : Bool) → p y ≡ b → (All (λ (x : Activity). n ≤ x.start) (map change (filter p ys)) → All (λ (z : Activity). p z ≡ true → n ≤ (change z).start) ys) → All (λ (z : Activity). p z ≡ true → n ≤ (change z).start) (y ∷ ys)
    by true e more =
        let both : All (λ (x : Activity). n ≤ x.start) (change y ∷ map change (filter p ys)) = rw e at all in
        All-cons (λ (z : Activity). p z ≡ true → n ≤ (change z).start) y ys (λ h. All-head (λ (x : Activity). n ≤ x.start) (change y) (map change (filter p ys)) both) (more (All-tail (λ (x : Activity). n ≤ x.start) (change y) (map change (filter p ys)) both))
    by false e more =
        let rest : All (λ (x : Activity). n ≤ x.start) (map change (filter p ys)) = rw e at all in
        All-cons (λ (z : Activity). p z ≡ true → n ≤ (change z).start) y ys (λ h. absurd (let bad : false ≡ true = sym e ∙ h in cc)) (more rest)

-- ---- one from which no other descends

here_too : (p : ℕ → Bool) (id : ℕ) (top : Activity) (ys : List Activity) → p id ≡ true → activity_of id ys ≡ Some top → list_any (eqb id) (filter p (map id_of ys)) ≡ true
here_too p id top [] passes is = absurd (cc)
here_too p id top (y ∷ ys) passes is = by (eqb y.id id) refl is (here_too p id top ys passes)
  where
    by : (b : Bool) → eqb y.id id ≡ b → cond b (Some y) (activity_of id ys) ≡ Some top → (activity_of id ys ≡ Some top → list_any (eqb id) (filter p (map id_of ys)) ≡ true) → list_any (eqb id) (filter p (map id_of (y ∷ ys))) ≡ true
    by true e h more =
        let it : y.id ≡ id = eqb-true y.id id e in
        let same : eqb id y.id ≡ true = eq-eqb id y.id (sym it) in
        rw (ap p it ∙ passes, same) refl
    by false e h more = kept (p y.id) refl (more h)
      where
        kept : (b : Bool) → p y.id ≡ b → list_any (eqb id) (filter p (map id_of ys)) ≡ true → list_any (eqb id) (filter p (map id_of (y ∷ ys))) ≡ true
        kept true f rest = rw f (rw rest (or-true (eqb id y.id)))
        kept false f rest = rw f rest

one_of : (id : ℕ) (is : List ℕ) → list_any (eqb id) is ≡ true → length is ≡ 1 → is ≡ id ∷ []
one_of id [] any one = absurd (cc)
one_of id (i ∷ []) any one = by (eqb id i) refl any
  where
    by : (b : Bool) → eqb id i ≡ b → (b || false) ≡ true → i ∷ [] ≡ id ∷ []
    by true e h = ap (λ (n : ℕ). n ∷ []) (sym (eqb-true id i e))
    by false e h = absurd (cc)
one_of id (i ∷ j ∷ is) any one = absurd (omega (arith, one))

pub leaf_by_length : (s : PlanState) → IsWhole s → (id : ℕ) (a : Activity) → found s id ≡ Some a → length (subtree_of id s.plan.activities) ≡ 1 → subtree_of id s.plan.activities ≡ id ∷ []
unfolding subtree_of
leaf_by_length s whole id a here one =
    one_of id (subtree_of id s.plan.activities) (here_too (descends s.plan.activities id) id a s.plan.activities (descends_complete s.plan.activities whole.fits.rooted id id itself) here) one

-- ---- one that does not stay

module _ (s : PlanState) (whole : IsWhole s) (next : s.next_id ≤ 3999999000) (id to : ℕ) (top : Activity) (here : found s id ≡ Some top) (can : CanBeMade s (Shift id to)) (leaf : subtree_of id s.plan.activities ≡ id ∷ []) where
  abbrev pub xs : List Activity
  xs = s.plan.activities

  abbrev pub t : PlanState
  t = with_plan (subtree_of id xs) (moved_with s to (found s id)) s

  abbrev pub under : Activity → Bool
  under a = descends xs top.id a.id

  abbrev pub one : Activity → Activity
  one a = cond (under a) (moved top.start to a) a

  pub own_id : top.id ≡ id
  own_id = is_id s whole next id to top here can

  pub acts : t.plan.activities ≡ map one xs
  acts = activities_then s whole next id to top here can

  pub finds : (q : ℕ) → found t q ≡ option_map one (found s q)
  finds q = found_then s whole next id to top here can q

  rows : (i : ℕ) → values_of s.model xs i ≡ values_of s.model t.plan.activities i
  rows i = rows_same s whole next id to top here can i

  pub only_it : All (λ (y : Activity). under y ≡ true → y.id ≡ id) xs
  unfolding subtree_of
  only_it =
      let it : All (λ (i : ℕ). i ≡ id) (subtree_of id xs) = subst (λ (l : List ℕ). All (λ (i : ℕ). i ≡ id) l) (sym leaf) (All-cons (λ (i : ℕ). i ≡ id) id [] refl (All-nil (λ (i : ℕ). i ≡ id))) in
      singles (descends xs top.id) id xs (subst (λ (n : ℕ). All (λ (i : ℕ). i ≡ id) (filter (descends xs n) (map id_of xs))) (sym own_id) it)

  pub one_id : (y : Activity) → (one y).id ≡ y.id
  one_id y = by (under y)
    where
      by : (b : Bool) → (cond b (moved top.start to y) y).id ≡ y.id
      by true = refl
      by false = refl

  pub same_one : (y : Activity) → (under y ≡ true → y.id ≡ id) → (y.id ≡ id → ⊥) → one y ≡ y
  same_one y only other = by (under y) refl
    where
      by : (b : Bool) → under y ≡ b → cond b (moved top.start to y) y ≡ y
      by true e = absurd (other (only e))
      by false e = refl

  pub end_same : (y : Activity) → found s y.id ≡ Some y → one y ≡ y → end_at t y ≡ end_at s y
  unfolding end_of
  end_same y live same =
      ap (λ (o : Option Activity). end_in s.model o (values_of s.model t.plan.activities y.id)) (finds y.id ∙ (ap (option_map one) live ∙ ap (λ (z : Activity). Some z) same))
      ∙ (ap (λ (r : Row). end_in s.model (Some y) r) (sym (rows y.id)) ∙ ap (λ (o : Option Activity). end_in s.model o (values_of s.model xs y.id)) (sym live))

  abbrev pub placed_with : Activity → Option ℕ → Placed
  placed_with y end = record { id = y.id; kind = y.kind; start = y.start; end = end; parent = y.parent; detail = y.detail }

  pub placed_same : (y : Activity) → found s y.id ≡ Some y → one y ≡ y → placed_of t y ≡ placed_of s y
  placed_same y live same = ap (placed_with y) (end_same y live same)

  -- ---- itself

  abbrev pub own : Activity
  own = moved top.start to top

  pub live_then : found t top.id ≡ Some own
  live_then =
      let goes : under top ≡ true = descends_complete xs whole.fits.rooted top.id top.id itself in
      finds top.id ∙ (ap (option_map one) (ap (found s) own_id ∙ here) ∙ ap (λ (b : Bool). Some (cond b (moved top.start to top) top)) goes)

  pub start_is : own.start ≡ to
  start_is = omega arith

  -- moved to that start it is placed as after the shift
  pub placed_own : placed_at to (placed_of s top) ≡ placed_of t own
  placed_own =
      let none : top.measured ≡ None = (all_at (λ (y : Activity). under y ≡ true → y.measured ≡ None) xs id top (unmeasured_under s whole next id to top here can) here).0 (descends_complete xs whole.fits.rooted top.id top.id itself) in
      let firm : end_at t own ≡ option_map (moved_to top.start to) (end_at s top) = end_is top.start to s (subtree_of id xs) (moved_with s to (found s id)) top (ap (found s) own_id ∙ here) live_then (sym (rows top.id)) none (omega arith) in
      ap (λ (n : ℕ). record (placed_of s top) { start = n; end = option_map (moved_to top.start to) (end_at s top) }) (sym start_is)
      ∙ ap (λ (o : Option ℕ). record (placed_of s top) { start = own.start; end = o }) (sym firm)

  pub ahead : is_ahead t own ≡ true
  ahead =
      let keeps : MayBeMade s (Shift id to) = may s (Shift id to) can.allowed in
      let above : All (λ (b : Activity). floor_of s ≤ b.start) (map (moved top.start to) (filter under xs)) = rw here at keeps.above in
      let all : All (λ (y : Activity). under y ≡ true → floor_of s ≤ (moved top.start to y).start) xs = late under (moved top.start to) (floor_of s) xs above in
      let low : floor_of s ≤ own.start = (all_at (λ (y : Activity). under y ≡ true → floor_of s ≤ (moved top.start to y).start) xs id top all here).0 (descends_complete xs whole.fits.rooted top.id top.id itself) in
      by (leb own.start s.moment) (leb-true own.start s.moment) low
    where
      by : (b : Bool) → (b ≡ true → own.start ≤ s.moment) → floor_of s ≤ own.start → not (is_committed t own && b) ≡ true
      by true less low = absurd (let le : own.start ≤ s.moment = less refl in omega (arith, le, low))
      by false less low = none (is_committed t own)
        where
          none : (c : Bool) → not (c && false) ≡ true
          none true = refl
          none false = refl

  -- ---- the others

  module _ (l : Link) where
    no_more : (y : Activity) → found s y.id ≡ Some y → (under y ≡ true → y.id ≡ id) → is_partner l (placed_of t own) (placed_of t (one y)) ≡ is_partner l (placed_of t own) (placed_of s y)
    no_more y live only = by (eqb y.id id) refl
      where
        by : (b : Bool) → eqb y.id id ≡ b → is_partner l (placed_of t own) (placed_of t (one y)) ≡ is_partner l (placed_of t own) (placed_of s y)
        by true e =
            let before : eqb y.id top.id ≡ true = ap (λ (n : ℕ). eqb y.id n) own_id ∙ e in
            let after : eqb (one y).id top.id ≡ true = ap (λ (n : ℕ). eqb n top.id) (one_id y) ∙ before in
            ap (λ (c : Bool). not c && ((eqb (one y).kind l.kind) && are_apart l.low l.high (moment_of l.mine (placed_of t own)) (moment_of l.theirs (placed_of t (one y))))) after
            ∙ sym (ap (λ (c : Bool). not c && ((eqb y.kind l.kind) && are_apart l.low l.high (moment_of l.mine (placed_of t own)) (moment_of l.theirs (placed_of s y)))) before)
        by false e =
            let other : y.id ≡ id → ⊥ = eqb-false y.id id e in
            let same : one y ≡ y = same_one y only other in
            ap (is_partner l (placed_of t own)) (ap (placed_of t) same ∙ placed_same y live same)

    same_partners : (zs : List Activity) → All (λ (y : Activity). found s y.id ≡ Some y) zs → All (λ (y : Activity). under y ≡ true → y.id ≡ id) zs
        → list_any (is_partner l (placed_of t own)) (map (placed_of t) (map one zs)) ≡ list_any (is_partner l (placed_of t own)) (map (placed_of s) zs)
    same_partners [] live only = refl
    same_partners (y ∷ zs) live only =
        ap (λ (b : Bool). b || list_any (is_partner l (placed_of t own)) (map (placed_of t) (map one zs))) (no_more y (All-head (λ (z : Activity). found s z.id ≡ Some z) y zs live) (All-head (λ (z : Activity). under z ≡ true → z.id ≡ id) y zs only))
        ∙ ap (λ (b : Bool). is_partner l (placed_of t own) (placed_of s y) || b) (same_partners zs (All-tail (λ (z : Activity). found s z.id ≡ Some z) y zs live) (All-tail (λ (z : Activity). under z ≡ true → z.id ≡ id) y zs only))

  -- ---- its links

  lacks : (l : Link) → lacks_partner (placed_in s) (placed_at to (placed_of s top)) l ≡ true → lacks_partner (placed_in t) (placed_of t own) l ≡ true
  lacks l lonely =
      let before : lacks_partner (placed_in s) (placed_of t own) l ≡ true = subst (λ (p : Placed). lacks_partner (placed_in s) p l ≡ true) placed_own lonely in
      let same : list_any (is_partner l (placed_of t own)) (placed_in t) ≡ list_any (is_partner l (placed_of t own)) (placed_in s) =
      ap (λ (zs : List Activity). list_any (is_partner l (placed_of t own)) (map (placed_of t) zs)) acts ∙ same_partners l xs (each_found xs whole.rising) only_it in
      ap (λ (b : Bool). is_some (end_at t own) && not b) same ∙ before

  -- ---- together

  whole_then : IsWhole t
  whole_then = whole_replaced s (subtree_of id xs) (moved_with s to (found s id)) whole (may_replace s whole next id to top here can)

  abbrev is_lone : Link → Bool
  is_lone l = lacks_partner (placed_in s) (placed_at to (placed_of s top)) l

  lone_ones : AreLone (applied s (Shift id to)) id (count_of_lone s to (placed_of s top)) (lones_from own is_lone 0 (links_of s.model (placed_of s top)))
  lone_ones =
      let then_ : AreLone t top.id (count_of_lone s to (placed_of s top)) (lones_from own is_lone 0 (links_of s.model (placed_of s top))) = gathered t whole_then.rising own ahead live_then is_lone lacks in
      subst (λ (n : ℕ). AreLone (applied s (Shift id to)) n (count_of_lone s to (placed_of s top)) (lones_from own is_lone 0 (links_of s.model (placed_of s top)))) own_id
      (subst (λ (w : PlanState). AreLone w top.id (count_of_lone s to (placed_of s top)) (lones_from own is_lone 0 (links_of s.model (placed_of s top)))) (by_replacing s whole next id to top here can).is then_)

  lone_some : (alone : Option Placed) → alone ≡ Some (placed_of s top) → (ks : List Conflict) × AreLone (applied s (Shift id to)) id (lone_then s to alone) ks
  lone_some alone is = (
    lones_from own is_lone 0 (links_of s.model (placed_of s top)),
    subst (λ (o : Option Placed). AreLone (applied s (Shift id to)) id (lone_then s to o) (lones_from own is_lone 0 (links_of s.model (placed_of s top)))) (sym is) lone_ones,
  )

pub lone_left : (s : PlanState) → IsWhole s → s.next_id ≤ 3999999000 → (id to : ℕ) → CanBeMade s (Shift id to) → length (subtree_of id s.plan.activities) ≡ 1 → (alone : Option Placed) → alone ≡ option_map (placed_of s) (found s id)
    → (ks : List Conflict) × AreLone (applied s (Shift id to)) id (lone_then s to alone) ks
lone_left s whole next id to can one alone is = by (found s id) refl
  where
    by : (o : Option Activity) → found s id ≡ o → (ks : List Conflict) × AreLone (applied s (Shift id to)) id (lone_then s to alone) ks
    by None none = let nothing : alone ≡ None = is ∙ ap (option_map (placed_of s)) none in ([], none_lone (applied s (Shift id to)) id (lone_then s to alone) (ap (lone_then s to) nothing))
    by (Some top) here =
        lone_some s whole next id to top here can (leaf_by_length s whole id top here one) alone (is ∙ ap (option_map (placed_of s)) here)
