-- Activities of which some go and others change still fit the model.
use Rattle.std.proofs.Common.{◌≡◌, ℕ, ◌<◌, eqb, Bool, true, false, cond, List, [], ◌∷◌, length, get_or, map, Option, Some, None, IsSome, is_some, IfSome, refl, sym, ap, ◌∙◌, arith, ◌⊎◌, ⊎_elim}
use Rattle.std.specs.Prelude.{All, filter}
use Rattle.std.specs.Option.{option_map}
use Rattle.std.proofs.lemmas.Bool.{eqb-true}
use Rattle.std.proofs.lemmas.List.Elements.{All-nil, All-cons, All-head, All-tail, All-map}
use Rattle.pl_model.specs.declared.whole.Model.{Model}
use Rattle.pl_plan.specs.declared.activity.Activity.{Activity}
use Rattle.pl_plan.specs.Activities.{AreRising, activity_of, IsLive}
use Rattle.pl_plan.specs.Trees.{IsParented, parent_id, parent_of}
use Rattle.pl_plan.specs.Fitting.{Fits, FitsAlone, AreFilled, IsInSlot, IsSingle, fills, is_slot, chosen_slots, chosen_slots_of}
use Rattle.pl_plan.specs.Moves.{KeepsTree, kept}
use Rattle.pl_plan.proofs.Ids.{found_at}

-- ---- lists

pub all_kept : {X : Type 0} (p : X → Bool) (Q : X → Type 0) (xs : List X) → All (λ x. p x ≡ true → Q x) xs → All Q (filter p xs)
all_kept p Q [] all = All-nil Q
all_kept p Q (x ∷ xs) all = cases (p x) refl (all_kept p Q xs (All-tail (λ y. p y ≡ true → Q y) x xs all))
  where
    cases : (b : Bool) → p x ≡ b → All Q (filter p xs) → All Q (filter p (x ∷ xs))
    cases true e more = rw e (All-cons Q x (filter p xs) (All-head (λ y. p y ≡ true → Q y) x xs all e) more)
    cases false e more = rw e more

filter_filter : {X : Type 0} (g s : X → Bool) (xs : List X) → All (λ x. g x ≡ true → s x ≡ true) xs → filter g (filter s xs) ≡ filter g xs
filter_filter g s [] all = refl
filter_filter g s (x ∷ xs) all = cases (s x) refl (g x) refl (filter_filter g s xs (All-tail (λ y. g y ≡ true → s y ≡ true) x xs all))
  where
    cases : (b : Bool) → s x ≡ b → (d : Bool) → g x ≡ d → filter g (filter s xs) ≡ filter g xs → filter g (filter s (x ∷ xs)) ≡ filter g (x ∷ xs)
    cases true e true f more = rw (e, f) (ap (λ l. x ∷ l) more)
    cases true e false f more = rw (e, f) more
    cases false e true f more = absurd (let bad : false ≡ true = sym e ∙ All-head (λ y. g y ≡ true → s y ≡ true) x xs all f in cc)
    cases false e false f more = rw (e, f) more

filter_map_same : {X : Type 0} (g : X → Bool) (change : X → X) → ((x : X) → g (change x) ≡ g x) → (xs : List X) → filter g (map change xs) ≡ map change (filter g xs)
filter_map_same g change same [] = refl
filter_map_same g change same (x ∷ xs) = cases (g x) refl (filter_map_same g change same xs)
  where
    cases : (b : Bool) → g x ≡ b → filter g (map change xs) ≡ map change (filter g xs) → filter g (map change (x ∷ xs)) ≡ map change (filter g (x ∷ xs))
    cases true e more = rw (same x, e) (ap (λ l. change x ∷ l) more)
    cases false e more = rw (same x, e) more

-- ---- what is found

pub found-kept : (stays : ℕ → Bool) (xs : List Activity) (q : ℕ) → activity_of q (kept stays xs) ≡ cond (stays q) (activity_of q xs) None
found-kept stays [] q = none (stays q)
  where
    nobody : Option Activity
    nobody = None

    none : (b : Bool) → nobody ≡ cond b nobody nobody
    none true = refl
    none false = refl
found-kept stays (x ∷ xs) q = cases (stays x.id) refl (eqb x.id q) refl (found-kept stays xs q)
  where
    cases : (b : Bool) → stays x.id ≡ b → (d : Bool) → eqb x.id q ≡ d → activity_of q (kept stays xs) ≡ cond (stays q) (activity_of q xs) None → activity_of q (kept stays (x ∷ xs)) ≡ cond (stays q) (activity_of q (x ∷ xs)) None
    cases true e true f more = let is : stays q ≡ true = ap stays (sym (eqb-true x.id q f)) ∙ e in rw (e, f, is) refl
    cases true e false f more = rw (e, f) more
    cases false e true f more = let is : stays q ≡ false = ap stays (sym (eqb-true x.id q f)) ∙ e in rw (e, is) (rw is at more)
    cases false e false f more = rw (e, f) more

pub found-changed : (change : Activity → Activity) → KeepsTree change → (xs : List Activity) (q : ℕ) → activity_of q (map change xs) ≡ option_map change (activity_of q xs)
found-changed change keeps [] q = refl
found-changed change keeps (x ∷ xs) q = cases (eqb x.id q) refl (found-changed change keeps xs q)
  where
    cases : (b : Bool) → eqb x.id q ≡ b → activity_of q (map change xs) ≡ option_map change (activity_of q xs) → activity_of q (map change (x ∷ xs)) ≡ option_map change (activity_of q (x ∷ xs))
    cases true e more = let test : eqb (change x).id q ≡ true = ap (λ n. eqb n q) (keeps.id x) ∙ e in rw (test, e) refl
    cases false e more = let test : eqb (change x).id q ≡ false = ap (λ n. eqb n q) (keeps.id x) ∙ e in rw (test, e) more

-- each is found by its id
pub each_found : (xs : List Activity) → AreRising xs → All (λ x. activity_of x.id xs ≡ Some x) xs
each_found xs rising k d lt = found_at xs 0 k (get_or xs k d).id d rising lt refl

pub fills_parent : (id slot : ℕ) (o : Option (ℕ × ℕ)) → is_slot id slot o ≡ true → parent_id o ≡ Some id
fills_parent id slot None e = absurd (cc)
fills_parent id slot (Some p) e = by_id (eqb p.0 id) refl
  where
    by_id : (b : Bool) → eqb p.0 id ≡ b → Some p.0 ≡ Some id
    by_id true f = ap Some (eqb-true p.0 id f)
    by_id false f = absurd (let bad : false ≡ true = rw f at e in cc)

single_changed : (change : Activity → Activity) → KeepsTree change → (kind : ℕ) (xs : List Activity) → IsSingle kind xs → IsSingle kind (map change xs)
single_changed change keeps kind [] single = single
single_changed change keeps kind (x ∷ []) single = keeps.kind x ∙ single
single_changed change keeps kind (x ∷ y ∷ xs) single = single

-- ---- the whole

module _ (model : Model) (xs : List Activity) (rising : AreRising xs) (fits : Fits model xs) (stays : ℕ → Bool) (change : Activity → Activity) (keeps : KeepsTree change) where
  -- all slots and all children stay, or none
  abbrev pub KeepsSlots : ℕ → Activity → Type 0
  KeepsSlots id a = ((chosen_slots model (change a) ≡ chosen_slots model a) × ((q : ℕ) → parent_of q xs ≡ Some id → stays q ≡ true)) ⊎ ((chosen_slots model (change a) ≡ []) × ((q : ℕ) → parent_of q xs ≡ Some id → stays q ≡ false))

  abbrev left : List Activity
  left = map change (kept stays xs)

  module _ (closed : (q p : ℕ) → parent_of q xs ≡ Some p → stays q ≡ true → stays p ≡ true) (slots : (id : ℕ) (a : Activity) → activity_of id xs ≡ Some a → stays id ≡ true → KeepsSlots id a) (alone : All (λ a. FitsAlone model (change a)) xs) where
    found : (q : ℕ) → activity_of q left ≡ option_map change (cond (stays q) (activity_of q xs) None)
    found q = found-changed change keeps (kept stays xs) q ∙ ap (option_map change) (found-kept stays xs q)

    named : (x : Activity) (p : ℕ × ℕ) → activity_of x.id xs ≡ Some x → x.parent ≡ Some p → parent_of x.id xs ≡ Some p.0
    named x p here e = rw here (ap parent_id e)

    live_left : (p : ℕ) → IsLive p xs → stays p ≡ true → IsLive p left
    live_left p live stay = by_found (activity_of p xs) refl
      where
        by_found : (o : Option Activity) → activity_of p xs ≡ o → is_some (activity_of p left) ≡ true
        by_found None e = absurd (let bad : IsSome {T = Activity} None = rw e at live in cc)
        by_found (Some b) e = rw (found p, stay, e) refl

    parented : (x : Activity) → activity_of x.id xs ≡ Some x → IsParented xs x → stays x.id ≡ true → IsParented left (change x)
    parented x here holds stay = rw (keeps.parent x, keeps.id x) (by_parent x.parent refl holds)
      where
        by_parent : (o : Option (ℕ × ℕ)) → x.parent ≡ o → IfSome o (λ p. IsLive p.0 xs × (p.0 < x.id)) → IfSome o (λ p. IsLive p.0 left × (p.0 < x.id))
        by_parent None e h = tt
        by_parent (Some p) e h = (live_left p.0 h.0 (closed x.id p.0 (named x p here e) stay), h.1)

    in_slot : (x : Activity) → activity_of x.id xs ≡ Some x → IsParented xs x → IsInSlot model xs x → stays x.id ≡ true → IsInSlot model left (change x)
    in_slot x here holds inside stay = rw (keeps.parent x) (by_parent x.parent refl holds inside)
      where
        bounded : (p : ℕ × ℕ) → x.parent ≡ Some p → (b : Activity) → activity_of p.0 xs ≡ Some b → p.1 < length (chosen_slots model b) → p.1 < length (chosen_slots model (change b))
        bounded p e b f lt = ⊎_elim
            (λ whole. rw whole.0 lt)
            (λ bare. absurd (let bad : true ≡ false = sym stay ∙ bare.1 x.id (named x p here e) in cc))
            (slots p.0 b f (closed x.id p.0 (named x p here e) stay))

        by_parent : (o : Option (ℕ × ℕ)) → x.parent ≡ o → IfSome o (λ p. IsLive p.0 xs × (p.0 < x.id)) → IfSome o (λ p. p.1 < length (chosen_slots_of model (activity_of p.0 xs))) → IfSome o (λ p. p.1 < length (chosen_slots_of model (activity_of p.0 left)))
        by_parent None e h lt = tt
        by_parent (Some p) e h lt = by_found (activity_of p.0 xs) refl
          where
            by_found : (o : Option Activity) → activity_of p.0 xs ≡ o → p.1 < length (chosen_slots_of model (activity_of p.0 left))
            by_found None f = absurd (let bad : IsSome {T = Activity} None = rw f at h.0 in cc)
            by_found (Some b) f = rw (found p.0, closed x.id p.0 (named x p here e) stay, f) (bounded p e b f (rw f at lt))

    filled : (x : Activity) → activity_of x.id xs ≡ Some x → AreFilled model xs x → stays x.id ≡ true → AreFilled model left (change x)
    filled x here holds stay slot d lt = ⊎_elim whole bare (slots x.id x here stay)
      where
        whole : (chosen_slots model (change x) ≡ chosen_slots model x) × ((q : ℕ) → parent_of q xs ≡ Some x.id → stays q ≡ true) → IsSingle (get_or (chosen_slots model (change x)) slot d).kind (filter (fills (change x).id slot) left)
        whole w =
            let same : filter (fills (change x).id slot) left ≡ map change (filter (fills x.id slot) xs) =
            ap (λ n. filter (fills n slot) left) (keeps.id x)
            ∙ (filter_map_same (fills x.id slot) change (λ a. ap (is_slot x.id slot) (keeps.parent a)) (kept stays xs)
            ∙ ap (map change) (filter_filter (fills x.id slot) (λ a. stays a.id) xs (λ k e in_range fill.
            w.1 (get_or xs k e).id (rw (each_found xs rising k e in_range) (fills_parent x.id slot (get_or xs k e).parent fill))))) in
            let lt' : slot < length (chosen_slots model x) = rw w.0 at lt in
            rw (same, w.0) (single_changed change keeps (get_or (chosen_slots model x) slot d).kind (filter (fills x.id slot) xs) (holds slot d lt'))

        bare : (chosen_slots model (change x) ≡ []) × ((q : ℕ) → parent_of q xs ≡ Some x.id → stays q ≡ false) → IsSingle (get_or (chosen_slots model (change x)) slot d).kind (filter (fills (change x).id slot) left)
        bare b = absurd (omega (arith, lt, ap length b.0))

    pub fits_left : Fits model left
    fits_left = record {
      rooted = record { parents = All-map (IsParented left) change (kept stays xs) (all_kept (λ a. stays a.id) (λ a. IsParented left (change a)) xs (λ k d lt. parented (get_or xs k d) (each_found xs rising k d lt) (fits.rooted.parents k d lt))) };
      each = All-map (FitsAlone model) change (kept stays xs) (all_kept (λ a. stays a.id) (λ a. FitsAlone model (change a)) xs (λ k d lt stay. alone k d lt));
      filled = All-map (AreFilled model left) change (kept stays xs) (all_kept (λ a. stays a.id) (λ a. AreFilled model left (change a)) xs (λ k d lt. filled (get_or xs k d) (each_found xs rising k d lt) (fits.filled k d lt)));
      no_other = All-map (IsInSlot model left) change (kept stays xs) (all_kept (λ a. stays a.id) (λ a. IsInSlot model left (change a)) xs (λ k d lt. in_slot (get_or xs k d) (each_found xs rising k d lt) (fits.rooted.parents k d lt) (fits.no_other k d lt)));
    }
