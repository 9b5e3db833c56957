-- Two lists by rising id with the same front, behind which stand twins: ranks, and the activities with ranks in the place of ids.
use Rattle.std.proofs.Common.{◌≡◌, ℕ, suc, ◌≤◌, eqb, ltb, Bool, true, false, cond, List, [], ◌∷◌, ◌++◌, map, length, Option, Some, None, IfSome, refl, sym, ap, ◌∙◌, subst, arith}
use Rattle.std.specs.Prelude.{All}
use Rattle.std.specs.Option.{option_or}
use Rattle.std.proofs.lemmas.Bool.{eqb-true, lt-ltb, le-ltb}
use Rattle.std.proofs.lemmas.List.{append_assoc, length-append}
use Rattle.std.proofs.lemmas.List.Elements.{All-nil, All-cons, All-head, All-tail}
use Rattle.pl_lists.specs.Lists.{front, Pairwise}
use Rattle.pl_plan.specs.declared.activity.Activity.{Activity}
use Rattle.pl_plan.specs.Activities.{RiseFrom, AreRising, activity_of}
use Rattle.pl_plan.proofs.Lookups.{none_below}
use Rattle.pl_renumbering.specs.Renumbered.{renumbered_place, renumbered}
use Rattle.pl_renumbering.specs.Normal.{rank}
use Rattle.pl_memo.specs.Renames.{AreTwins, renamed}

-- ---- lists by rising id

weaker : (b c : ℕ) (xs : List Activity) → b ≤ c → RiseFrom c xs → RiseFrom b xs
weaker b c [] le rises = tt
weaker b c (x ∷ xs) le rises = (omega (arith, le, rises.0), rises.1)

pub behind : (c : ℕ) (xs ys : List Activity) → RiseFrom c (xs ++ ys) → RiseFrom c ys
behind c [] ys rises = rises
behind c (x ∷ xs) ys rises = weaker c (suc x.id) ys (omega (arith, rises.0)) (behind (suc x.id) xs ys rises.1)

pub before_rises : (c : ℕ) (xs ys : List Activity) → RiseFrom c (xs ++ ys) → RiseFrom c xs
before_rises c [] ys rises = tt
before_rises c (x ∷ xs) ys rises = (rises.0, before_rises (suc x.id) xs ys rises.1)

pub found_either : (id : ℕ) (xs ys : List Activity) → activity_of id (xs ++ ys) ≡ option_or (activity_of id xs) (activity_of id ys)
found_either id [] ys = refl
found_either id (x ∷ xs) ys = by (eqb x.id id) (found_either id xs ys)
  where
    by : (b : Bool) → activity_of id (xs ++ ys) ≡ option_or (activity_of id xs) (activity_of id ys) → cond b (Some x) (activity_of id (xs ++ ys)) ≡ option_or (cond b (Some x) (activity_of id xs)) (activity_of id ys)
    by true e = refl
    by false e = e

-- what is found behind is not found before
pub none_before : (c id : ℕ) (a : Activity) (xs ys : List Activity) → RiseFrom c (xs ++ ys) → activity_of id ys ≡ Some a → activity_of id xs ≡ None
none_before c id a [] ys rises is = refl
none_before c id a (x ∷ xs) ys rises is = by (eqb x.id id) refl (none_before (suc x.id) id a xs ys rises.1 is)
  where
    by : (b : Bool) → eqb x.id id ≡ b → activity_of id xs ≡ None → cond b (Some x) (activity_of id xs) ≡ None
    by true e more =
        let same = eqb-true x.id id e in
        let none : activity_of id ys ≡ None = none_below ys (suc x.id) id (behind (suc x.id) xs ys rises.1) (omega (arith, same)) in
        absurd (let bad : None ≡ Some a = sym none ∙ is in cc)
    by false e more = more

-- all that stand behind an activity have ids that are no smaller
pub above : (c id : ℕ) (a : Activity) (xs ys : List Activity) → RiseFrom c (xs ++ ys) → activity_of id xs ≡ Some a → RiseFrom id ys
above c id a [] ys rises is = absurd (let bad : None ≡ Some a = is in cc)
above c id a (x ∷ xs) ys rises is = by (eqb x.id id) refl (λ there. above (suc x.id) id a xs ys rises.1 there)
  where
    by : (b : Bool) → eqb x.id id ≡ b → (activity_of id xs ≡ Some a → RiseFrom id ys) → RiseFrom id ys
    by true e more = let same = eqb-true x.id id e in weaker id (suc x.id) ys (omega (arith, same)) (behind (suc x.id) xs ys rises.1)
    by false e more = more (rw e at is)

pub all_above : (c : ℕ) (xs ys : List Activity) → RiseFrom c (xs ++ ys) → All (λ (a : Activity). RiseFrom a.id ys) xs
all_above c [] ys rises = All-nil (λ (a : Activity). RiseFrom a.id ys)
all_above c (x ∷ xs) ys rises =
    All-cons (λ (a : Activity). RiseFrom a.id ys) x xs (weaker x.id (suc x.id) ys (omega arith) (behind (suc x.id) xs ys rises.1)) (all_above (suc x.id) xs ys rises.1)

-- ---- ranks

-- no activity behind has a smaller id
pub rank_before : (id : ℕ) (xs ys : List Activity) → RiseFrom id ys → rank (xs ++ ys) id ≡ rank xs id
rank_before id [] [] rises = refl
rank_before id [] (y ∷ ys) rises = rw (le-ltb y.id id rises.0) refl
rank_before id (x ∷ xs) ys rises = by (ltb x.id id) (rank_before id xs ys rises)
  where
    by : (b : Bool) → rank (xs ++ ys) id ≡ rank xs id → length (cond b (x ∷ front (λ (a : Activity). ltb a.id id) (xs ++ ys)) []) ≡ length (cond b (x ∷ front (λ (a : Activity). ltb a.id id) xs) [])
    by true e = ap suc e
    by false e = refl

pub rank_of : (c : ℕ) (xs : List Activity) (a : Activity) (more : List Activity) → RiseFrom c (xs ++ a ∷ more) → rank (xs ++ a ∷ more) a.id ≡ length xs
rank_of c [] a more rises = rw (le-ltb a.id a.id (omega arith)) refl
rank_of c (x ∷ xs) a more rises =
    let later : suc x.id ≤ a.id = (behind (suc x.id) xs (a ∷ more) rises.1).0 in
    rw (lt-ltb x.id a.id (omega (arith, later))) (ap suc (rank_of (suc x.id) xs a more rises.1))

-- ---- the front

abbrev pub IsBefore : List Activity → List Activity → Activity → Type 0
IsBefore gone placed a = RiseFrom a.id gone × RiseFrom a.id placed × IfSome a.parent (λ p. p.0 ≤ a.id)

-- it is the same with either list behind it
pub front_same : (rest gone placed : List Activity) (zs : List Activity) → All (IsBefore gone placed) zs → map (renumbered (rank (rest ++ gone))) zs ≡ map (renumbered (rank (rest ++ placed))) zs
front_same rest gone placed [] all = refl
front_same rest gone placed (a ∷ zs) all =
    ap (λ (x : Activity). x ∷ map (renumbered (rank (rest ++ gone))) zs) same_one
    ∙ ap (λ (l : List Activity). renumbered (rank (rest ++ placed)) a ∷ l) (front_same rest gone placed zs (All-tail (IsBefore gone placed) a zs all))
  where
    is : IsBefore gone placed a
    is = All-head (IsBefore gone placed) a zs all

    at : (id : ℕ) → id ≤ a.id → rank (rest ++ gone) id ≡ rank (rest ++ placed) id
    at id le = rank_before id rest gone (weaker id a.id gone le is.0) ∙ sym (rank_before id rest placed (weaker id a.id placed le is.1))

    same_parent : (o : Option (ℕ × ℕ)) → IfSome o (λ p. p.0 ≤ a.id) → renumbered_place (rank (rest ++ gone)) o ≡ renumbered_place (rank (rest ++ placed)) o
    same_parent None le = refl
    same_parent (Some p) le = ap (λ (n : ℕ). Some (n, p.1)) (at p.0 le)

    same_one : renumbered (rank (rest ++ gone)) a ≡ renumbered (rank (rest ++ placed)) a
    same_one =
        ap (λ (n : ℕ). record a { id = n; parent = renumbered_place (rank (rest ++ gone)) a.parent }) (at a.id (omega arith))
        ∙ ap (λ (o : Option (ℕ × ℕ)). record a { id = rank (rest ++ placed) a.id; parent = o }) (same_parent a.parent is.2)

-- ---- behind it

module _ (xs ys : List Activity) (rises : AreRising xs) (rises_too : AreRising ys) where
  rank_at : (pre : List Activity) (g : Activity) (more : List Activity) → xs ≡ pre ++ g ∷ more → rank xs g.id ≡ length pre
  rank_at pre g more is = subst (λ (l : List Activity). rank l g.id ≡ length pre) (sym is) (rank_of 0 pre g more (subst AreRising is rises))

  rank_at_too : (pre : List Activity) (p : Activity) (more : List Activity) → ys ≡ pre ++ p ∷ more → rank ys p.id ≡ length pre
  rank_at_too pre p more is = subst (λ (l : List Activity). rank l p.id ≡ length pre) (sym is) (rank_of 0 pre p more (subst AreRising is rises_too))

  one_on : (pre : List Activity) (g : Activity) (more all : List Activity) → all ≡ pre ++ g ∷ more → all ≡ (pre ++ g ∷ []) ++ more
  one_on pre g more all is = is ∙ sym (append_assoc pre (g ∷ []) more)

  longer : (pre pre_too : List Activity) (g p : Activity) → length pre ≡ length pre_too → length (pre ++ g ∷ []) ≡ length (pre_too ++ p ∷ [])
  longer pre pre_too g p same = omega (arith, same, length-append pre (g ∷ []), length-append pre_too (p ∷ []))

  pub tails_same : (pre gone pre_too placed : List Activity) → xs ≡ pre ++ gone → ys ≡ pre_too ++ placed → length pre ≡ length pre_too → Pairwise AreTwins gone placed
      → map (renumbered (rank xs)) gone ≡ map (renumbered (rank ys)) placed
  tails_same pre [] pre_too [] is is_too same twins = refl
  tails_same pre [] pre_too (p ∷ placed) is is_too same twins = absurd twins
  tails_same pre (g ∷ gone) pre_too [] is is_too same twins = absurd twins
  tails_same pre (g ∷ gone) pre_too (p ∷ placed) is is_too same twins =
      let n : ℕ = length pre_too in
      let at : rank xs g.id ≡ n = rank_at pre g gone is ∙ same in
      let at_too : rank ys p.id ≡ n = rank_at_too pre_too p placed is_too in
      let root : g.parent ≡ None = twins.0.root in
      let root_too : p.parent ≡ None = sym (ap (λ (a : Activity). a.parent) twins.0.same) ∙ root in
      let here : record g { id = n; parent = None } ≡ record p { id = n; parent = None } = ap (λ (a : Activity). record a { id = n; parent = None }) twins.0.same in
      let more : map (renumbered (rank xs)) gone ≡ map (renumbered (rank ys)) placed =
      tails_same (pre ++ g ∷ []) gone (pre_too ++ p ∷ []) placed (one_on pre g gone xs is) (one_on pre_too p placed ys is_too) (longer pre pre_too g p same) twins.1 in
      let one : renumbered (rank xs) g ≡ record g { id = n; parent = None } =
      ap (λ (k : ℕ). record g { id = k; parent = renumbered_place (rank xs) g.parent }) at ∙ ap (λ (o : Option (ℕ × ℕ)). record g { id = n; parent = renumbered_place (rank xs) o }) root in
      let one_too : renumbered (rank ys) p ≡ record p { id = n; parent = None } =
      ap (λ (k : ℕ). record p { id = k; parent = renumbered_place (rank ys) p.parent }) at_too ∙ ap (λ (o : Option (ℕ × ℕ)). record p { id = n; parent = renumbered_place (rank ys) o }) root_too in
      ap (λ (x : Activity). x ∷ map (renumbered (rank xs)) gone) (one ∙ (here ∙ sym one_too)) ∙ ap (λ (l : List Activity). renumbered (rank ys) p ∷ l) more

  -- the id that stands for one of these has its rank
  pub renamed_rank : (pre gone pre_too placed : List Activity) (id : ℕ) (a : Activity) → xs ≡ pre ++ gone → ys ≡ pre_too ++ placed → length pre ≡ length pre_too → Pairwise AreTwins gone placed → activity_of id gone ≡ Some a
      → rank xs id ≡ rank ys (renamed gone placed id)
  renamed_rank pre [] pre_too placed id a is is_too same twins here = absurd (let bad : None ≡ Some a = here in cc)
  renamed_rank pre (g ∷ gone) pre_too [] id a is is_too same twins here = absurd twins
  renamed_rank pre (g ∷ gone) pre_too (p ∷ placed) id a is is_too same twins here =
      by (eqb g.id id) refl
      (λ there. renamed_rank (pre ++ g ∷ []) gone (pre_too ++ p ∷ []) placed id a (one_on pre g gone xs is) (one_on pre_too p placed ys is_too) (longer pre pre_too g p same) twins.1 there)
    where
      by : (b : Bool) → eqb g.id id ≡ b → (activity_of id gone ≡ Some a → rank xs id ≡ rank ys (renamed gone placed id)) → rank xs id ≡ rank ys (cond b p.id (renamed gone placed id))
      by true e more = ap (rank xs) (sym (eqb-true g.id id e)) ∙ (rank_at pre g gone is ∙ (same ∙ sym (rank_at_too pre_too p placed is_too)))
      by false e more = more (rw e at here)

-- an id that is not among them stands for itself
pub renamed_other : (id : ℕ) (gone placed : List Activity) → activity_of id gone ≡ None → renamed gone placed id ≡ id
renamed_other id [] placed none = refl
renamed_other id (g ∷ gone) [] none = refl
renamed_other id (g ∷ gone) (p ∷ placed) none = by (eqb g.id id) refl (λ there. renamed_other id gone placed there)
  where
    by : (b : Bool) → eqb g.id id ≡ b → (activity_of id gone ≡ None → renamed gone placed id ≡ id) → cond b p.id (renamed gone placed id) ≡ id
    by true e more = absurd (let bad : Some g ≡ None = sym (ap (λ (c : Bool). cond c (Some g) (activity_of id gone)) e) ∙ none in cc)
    by false e more = more (rw e at none)
