-- An alternative that is chosen, with a child for each of its slots, is a replacement.
use Rattle.std.proofs.Common.{◌≡◌, ℕ, zero, suc, ◌+◌, ◌<◌, ◌≤◌, eqb, Bool, true, false, cond, List, [], ◌∷◌, ◌++◌, map, length, get_or, refl, sym, ap, ◌∙◌, subst, arith}
use Rattle.std.specs.Prelude.{◌||◌, All, Option, Some, None, IfSome, is_some, if◌then◌else◌, slice_get}
use Rattle.std.specs.Option.{option_or, option_map}
use Rattle.std.proofs.lemmas.Bool.{eqb-true, eqb-false, eq-eqb, ne_eqb}
use Rattle.std.proofs.lemmas.List.{length-map, length-append, length-replicate}
use Rattle.std.proofs.lemmas.List.Elements.{All-cons, All-nil, All-map}
use Rattle.pl_model.specs.declared.alternatives.Slot.{Slot}
use Rattle.pl_model.specs.declared.alternatives.Alternative.{Alternative}
use Rattle.pl_model.specs.Checked.{params_of}
use Rattle.pl_plan.specs.declared.activity.Activity.{Activity}
use Rattle.pl_plan.specs.Activities.{RiseFrom, AreRising, IsLive, activity_of}
use Rattle.pl_plan.specs.Trees.{id_of, Descends, itself, child, parent_of, parent_id}
use Rattle.pl_plan.specs.Fitting.{FitsAlone, IsInSlot, chosen_slots, chosen_slots_of, kind_of, slots_of}
use Rattle.pl_plan.specs.Laws.{AreSameAbove}
use Rattle.pl_plan.specs.LookUps.{AreNewChildren, detailed_at}
use Rattle.pl_plan.specs.Moves.{KeepsTree}
use Rattle.pl_plan.proofs.Climbs.{all_at}
use Rattle.pl_plan.proofs.Detailing.{fits_detailed}
use Rattle.pl_plan.proofs.Kept.{found-changed}
use Rattle.pl_plan.proofs.Lookups.{none_below, found-exchanged, swapped}
use Rattle.pl_semantics.specs.declared.plan_state.PlanState.{PlanState}
use Rattle.pl_semantics.specs.PlanStates.{among}
use Rattle.pl_semantics.specs.Whole.{IsWhole, IsCarried, IsIdBelow, HasBegun}
use Rattle.pl_semantics.specs.Moves.{alternatives_at, child_for, children_from, detailed, has_id}
use Rattle.pl_moves.proofs.Swaps.{MayCome, IsSwap, swapped_at}
use Rattle.pl_moves.proofs.Subtrees.{among_ids, rising_map}
use Rattle.pl_moves.proofs.Grown.{found_append, rising_append, below, unused, alone_below}

-- ---- the children

module _ (s : PlanState) (parent : Activity) where
  pub children_rise : (n c : ℕ) (slots : List Slot) (offsets : List ℕ) → c ≤ s.next_id + n → RiseFrom c (children_from s parent n slots offsets)
  children_rise n c [] offsets le = tt
  children_rise n c (at ∷ slots) [] le = tt
  children_rise n c (at ∷ slots) (offset ∷ offsets) le = (le, children_rise (suc n) (suc (s.next_id + n)) slots offsets (omega arith))

  pub children_count : (n : ℕ) (slots : List Slot) (offsets : List ℕ) → length offsets ≡ length slots → length (children_from s parent n slots offsets) ≡ length slots
  children_count n [] offsets each = refl
  children_count n (at ∷ slots) [] each = absurd (omega (arith, each))
  children_count n (at ∷ slots) (offset ∷ offsets) each = ap suc (children_count (suc n) slots offsets (omega (arith, each)))

  -- what holds of the child of each slot
  pub children_all : (P : Activity → Type 0) (n : ℕ) (slots : List Slot) (offsets : List ℕ) → ((k : ℕ) (d : Slot) (at : ℕ) → k < length slots → P (child_for s parent.id (n + k) (s.next_id + (n + k)) (get_or slots k d) at)) → All P (children_from s parent n slots offsets)
  children_all P n [] offsets each = All-nil P
  children_all P n (at ∷ slots) [] each = All-nil P
  children_all P n (at ∷ slots) (offset ∷ offsets) each =
      All-cons P (child_for s parent.id n (s.next_id + n) at (parent.start + offset)) (children_from s parent (suc n) slots offsets)
      (subst (λ k. P (child_for s parent.id k (s.next_id + k) at (parent.start + offset))) (omega arith) (each 0 at (parent.start + offset) (omega arith)))
      (children_all P (suc n) slots offsets (λ k d start lt. subst (λ j. P (child_for s parent.id j (s.next_id + j) (get_or slots k d) start)) (omega arith) (each (suc k) d start (omega (arith, lt)))))

  -- the child of a slot is found under its id
  pub child_found : (n k : ℕ) (d : Slot) (slots : List Slot) (offsets : List ℕ) → length offsets ≡ length slots → k < length slots → record { start : ℕ; is : activity_of (s.next_id + (n + k)) (children_from s parent n slots offsets) ≡ Some (child_for s parent.id (n + k) (s.next_id + (n + k)) (get_or slots k d) start) }
  child_found n k d [] offsets each lt = absurd (omega (arith, lt))
  child_found n k d (at ∷ slots) [] each lt = absurd (omega (arith, each))
  child_found n zero d (at ∷ slots) (offset ∷ offsets) each lt =
      let same : n + 0 ≡ n = omega arith in
      record { start = parent.start + offset; is = rw (same, eq-eqb (s.next_id + n) (s.next_id + n) refl) refl }
  child_found n (suc k) d (at ∷ slots) (offset ∷ offsets) each lt =
      let rest = child_found (suc n) k d slots offsets (omega (arith, each)) (omega (arith, lt)) in
      let same : n + suc k ≡ suc n + k = omega arith in
      let other : eqb (s.next_id + n) (s.next_id + (suc n + k)) ≡ false = ne_eqb _ _ (λ e. omega (arith, e)) in
      record { start = rest.start; is = subst (λ m. activity_of (s.next_id + m) (children_from s parent n (at ∷ slots) (offset ∷ offsets)) ≡ Some (child_for s parent.id m (s.next_id + m) (get_or slots k d) rest.start)) (sym same) (rw other rest.is) }

  pub child_of_slot : (k : ℕ) (d : Slot) (slots : List Slot) (offsets : List ℕ) → length offsets ≡ length slots → k < length slots → record { start : ℕ; is : activity_of (s.next_id + k) (children_from s parent 0 slots offsets) ≡ Some (child_for s parent.id k (s.next_id + k) (get_or slots k d) start) }
  child_of_slot k d slots offsets each lt =
      let there = child_found 0 k d slots offsets each lt in
      let same : 0 + k ≡ k = omega arith in
      record { start = there.start; is = subst (λ m. activity_of (s.next_id + m) (children_from s parent 0 slots offsets) ≡ Some (child_for s parent.id m (s.next_id + m) (get_or slots k d) there.start)) same there.is }

abbrev slot_of : Option (ℕ × ℕ) → ℕ
slot_of None = 0
slot_of (Some at) = at.1

slot_same : (p m n : ℕ) → ◌≡◌ {A = Option (ℕ × ℕ)} (Some (p, m)) (Some (p, n)) → m ≡ n
slot_same p m n same = ap slot_of same

-- ---- the move

module _ (s : PlanState) (whole : IsWhole s) (a : Activity) (here : activity_of a.id s.plan.activities ≡ Some a) (undone : a.detail ≡ None) (alternative : ℕ) (of : Alternative) (chosen : slice_get (alternatives_at s a) alternative ≡ Some of) (few_slots : length of.slots ≤ 16) (each : length of.offsets ≡ length of.slots) (kinds : All (λ (d : Slot). d.kind < length s.model.kinds) of.slots) where
  abbrev xs : List Activity
  xs = s.plan.activities

  abbrev children : List Activity
  children = children_from s a 0 of.slots of.offsets

  abbrev parent : Activity
  parent = detailed alternative a

  abbrev one : Activity → Activity
  one x = if has_id a.id x then detailed alternative x else x

  abbrev ys : List Activity
  ys = map one xs ++ children

  one_keeps : KeepsTree one
  one_keeps = record { id = λ x. id (eqb x.id a.id) x; kind = λ x. kind (eqb x.id a.id) x; parent = λ x. up (eqb x.id a.id) x }
    where
      id : (b : Bool) (x : Activity) → (if b then detailed alternative x else x).id ≡ x.id
      id true x = refl
      id false x = refl

      kind : (b : Bool) (x : Activity) → (if b then detailed alternative x else x).kind ≡ x.kind
      kind true x = refl
      kind false x = refl

      up : (b : Bool) (x : Activity) → (if b then detailed alternative x else x).parent ≡ x.parent
      up true x = refl
      up false x = refl

  id_below : a.id < s.next_id
  id_below = (all_at (IsIdBelow s.next_id) xs a.id a whole.ids here).0.1

  new_ids : All (λ b. (s.next_id ≤ b.id) × (b.id < s.next_id + 17)) children
  new_ids = children_all s a (λ b. (s.next_id ≤ b.id) × (b.id < s.next_id + 17)) 0 of.slots of.offsets (λ k d at lt. (omega arith, omega (arith, lt, few_slots)))

  -- no child has an id that is given
  no_child : (q : ℕ) → q < s.next_id → activity_of q children ≡ None
  no_child q lt = none_below children s.next_id q (children_rise s a 0 s.next_id of.slots of.offsets (omega arith)) lt

  live_below : (q : ℕ) (b : Activity) → activity_of q xs ≡ Some b → (b.id ≡ q) × (q < s.next_id)
  live_below q b is =
      let all = all_at (IsIdBelow s.next_id) xs q b whole.ids is in
      (all.1, subst (λ n. n < s.next_id) all.1 all.0.1)

  found_branched : (q : ℕ) → activity_of q ys ≡ swapped_at xs (a.id ∷ []) (parent ∷ children) q
  found_branched q = found_append (map one xs) children q ∙ (ap (λ o. option_or o (activity_of q children)) (found-changed one one_keeps xs q) ∙ by_id (eqb a.id q) refl)
    where
      by_old : (o : Option Activity) → activity_of q xs ≡ o → eqb q a.id ≡ false → option_or (option_map one o) (activity_of q children) ≡ option_or (activity_of q children) o
      by_old None e other = by (activity_of q children)
        where
          by : (o : Option Activity) → option_or None o ≡ option_or o None
          by None = refl
          by (Some b) = refl
      by_old (Some b) e other =
          let at = live_below q b e in
          let apart : eqb b.id a.id ≡ false = ap (λ n. eqb n a.id) at.0 ∙ other in
          rw (no_child q at.1, apart) refl

      by_id : (t : Bool) → eqb a.id q ≡ t → option_or (option_map one (activity_of q xs)) (activity_of q children) ≡ option_or (cond (eqb a.id q) (Some parent) (activity_of q children)) (cond (eqb a.id q || false) None (activity_of q xs))
      by_id true e =
          let is : activity_of q xs ≡ Some a = ap (λ n. activity_of n xs) (sym (eqb-true a.id q e)) ∙ here in
          rw (e, is, eq-eqb a.id a.id refl) refl
      by_id false e = rw e (by_old (activity_of q xs) refl (ne_eqb q a.id (λ is. eqb-false a.id q e (sym is))))

  -- nothing descends from it yet
  childless : (id : ℕ) → Descends xs a.id id → id ≡ a.id
  childless id itself = refl
  childless id (child n p is above) =
      let same : p ≡ a.id = childless p above in
      absurd (by (activity_of n xs) refl (subst (λ k. parent_of n xs ≡ Some k) same is))
    where
      slotless : chosen_slots s.model a ≡ []
      slotless = rw undone refl

      in_slot : (o : Option (ℕ × ℕ)) → IfSome o (λ p. p.1 < length (chosen_slots_of s.model (activity_of p.0 xs))) → parent_id o ≡ Some a.id → ⊥
      in_slot None h e = absurd (cc)
      in_slot (Some p) h e =
          let at : p.0 ≡ a.id = cc in
          let none : length (chosen_slots_of s.model (activity_of p.0 xs)) ≡ 0 = ap (λ k. length (chosen_slots_of s.model (activity_of k xs))) at ∙ (ap (λ o. length (chosen_slots_of s.model o)) here ∙ ap length slotless) in
          omega (arith, h, none)

      by : (o : Option Activity) → activity_of n xs ≡ o → parent_of n xs ≡ Some a.id → ⊥
      by None e f = let bad : None ≡ Some a.id = rw e at f in absurd (cc)
      by (Some b) e f = let up : parent_id b.parent ≡ Some a.id = rw e at f in in_slot b.parent (all_at (IsInSlot s.model xs) xs n b whole.fits.no_other e).0 up

  same_above : (id : ℕ) → among id ((a.id ∷ []) ++ map id_of (parent ∷ children)) ≡ false → AreSameAbove xs ys id
  same_above id apart q above = sym (found_branched q ∙ by_id (eqb a.id q) refl)
    where
      here_apart : eqb a.id id ≡ false
      here_apart = by (eqb a.id id) refl
        where
          by : (b : Bool) → eqb a.id id ≡ b → eqb a.id id ≡ false
          by true e = absurd (let bad : true ≡ false = rw e at apart in cc)
          by false e = e

      children_apart : is_some (activity_of id children) ≡ false
      children_apart = sym (among_ids children id) ∙ (let rest : (false || (false || among id (map id_of children))) ≡ false = rw here_apart at apart in rest)

      by_child : (o : Option Activity) → activity_of q children ≡ o → option_or o (activity_of q xs) ≡ activity_of q xs
      by_child None e = refl
      by_child (Some b) e =
          let all = all_at (λ c. (s.next_id ≤ c.id) × (c.id < s.next_id + 17)) children q b new_ids e in
          let none : activity_of q xs ≡ None = unused s whole q (subst (λ n. s.next_id ≤ n) all.1 all.0.0) in
          let same : id ≡ q = alone_below s whole q id none above in
          absurd (let bad : true ≡ false = sym (rw (same, e) refl) ∙ children_apart in cc)

      by_id : (t : Bool) → eqb a.id q ≡ t → option_or (cond (eqb a.id q) (Some parent) (activity_of q children)) (cond (eqb a.id q || false) None (activity_of q xs)) ≡ activity_of q xs
      by_id true e =
          let same : id ≡ a.id = childless id (subst (λ n. Descends xs n id) (sym (eqb-true a.id q e)) above) in
          absurd (let bad : true ≡ false = sym (eq-eqb a.id id (sym same)) ∙ here_apart in cc)
      by_id false e = rw e (by_child (activity_of q children) refl)

  -- ---- it fits

  module _ (above : All (λ b. 1 ≤ b.start) children) (within : All (λ b. b.start < s.model.horizon) children) (choice : alternative < length (alternatives_at s a)) where
    kind_fits : All (λ b. b.kind < length s.model.kinds) children
    kind_fits = children_all s a (λ b. b.kind < length s.model.kinds) 0 of.slots of.offsets (λ k d at lt. kinds k d lt)

    set_fits : All (λ b. length b.set ≡ length (params_of (kind_of s.model b))) children
    set_fits = children_all s a (λ b. length b.set ≡ length (params_of (kind_of s.model b))) 0 of.slots of.offsets (λ k d at lt. length-replicate (length (params_of (slice_get s.model.kinds (get_or of.slots k d).kind))) None)

    bare : All (λ b. b.detail ≡ None) children
    bare = children_all s a (λ b. b.detail ≡ None) 0 of.slots of.offsets (λ k d at lt. refl)

    unmeasured : All (λ b. b.measured ≡ None) children
    unmeasured = children_all s a (λ b. b.measured ≡ None) 0 of.slots of.offsets (λ k d at lt. refl)

    children_alone : All (FitsAlone s.model) children
    children_alone i d lt = record { kind = kind_fits i d lt; start = (above i d lt, within i d lt); set = set_fits i d lt; choice = rw (bare i d lt) tt; measured = rw (unmeasured i d lt) tt }

    record IsPlaced (b : Activity) : Type 0 where
      slot : ℕ
      up : b.parent ≡ Some (a.id, slot)
      in_range : slot < length of.slots
      is : b.id ≡ s.next_id + slot

    children_placed : All IsPlaced children
    children_placed = children_all s a IsPlaced 0 of.slots of.offsets (λ k d at lt. let same : k ≡ 0 + k = omega arith in subst (λ m. IsPlaced (child_for s a.id m (s.next_id + m) (get_or of.slots k d) at)) same (record { slot = k; up = refl; in_range = lt; is = refl }))

    parent_slots : chosen_slots s.model parent ≡ of.slots
    parent_slots = ap slots_of chosen

    come : AreNewChildren s.model xs parent children
    come = record {
      fresh = λ id b is. let all = all_at (λ c. (s.next_id ≤ c.id) × (c.id < s.next_id + 17)) children id b new_ids is in unused s whole id (subst (λ n. s.next_id ≤ n) all.1 all.0.0);
      alone = λ id b is. (all_at (FitsAlone s.model) children id b children_alone is).0;
      bare = λ id b is. let none : b.detail ≡ None = (all_at (λ c. c.detail ≡ None) children id b bare is).0 in rw none refl;
      larger = λ id b is. let all = all_at (λ c. (s.next_id ≤ c.id) × (c.id < s.next_id + 17)) children id b new_ids is in let least : s.next_id ≤ id = subst (λ n. s.next_id ≤ n) all.1 all.0.0 in omega (arith, least, id_below);
      place = λ id b is. let at = (all_at IsPlaced children id b children_placed is).0 in (at.slot, at.up, rw parent_slots at.in_range);
      filled = λ slot d lt.
          let within_slots : slot < length of.slots = rw parent_slots at lt in
          let there = child_of_slot s a slot d of.slots of.offsets each within_slots in
          record {
            id = s.next_id + slot;
            a = child_for s a.id slot (s.next_id + slot) (get_or of.slots slot d) there.start;
            found = there.is;
            place = refl;
            is_of = rw parent_slots refl;
            only = λ other b is up.
                let all = all_at IsPlaced children other b children_placed is in
                let same : Some (a.id, all.0.slot) ≡ Some (a.id, slot) = sym all.0.up ∙ up in
                let same_slot : all.0.slot ≡ slot = slot_same a.id all.0.slot slot same in
                sym all.1 ∙ (all.0.is ∙ ap (λ n. s.next_id + n) same_slot);
          };
    }

    parent_alone : FitsAlone s.model parent
    parent_alone = let fits = (all_at (FitsAlone s.model) xs a.id a whole.fits.each here).0 in record { kind = fits.kind; start = fits.start; set = fits.set; choice = choice; measured = fits.measured }

    rising_ys : AreRising ys
    rising_ys = rising_append 0 s.next_id (map one xs) children (omega arith) (rising_map one one_keeps 0 xs whole.rising) (All-map (λ x. x.id < s.next_id) one xs (λ i d lt. rw (one_keeps.id (get_or xs i d)) (below s whole i d lt))) (children_rise s a 0 s.next_id of.slots of.offsets (omega arith))

    found_detailed : (q : ℕ) → activity_of q ys ≡ detailed_at parent children xs q
    found_detailed q = found_branched q ∙ (by_id (eqb a.id q) refl ∙ ap (λ o. option_or (activity_of q children) o) (sym (found-exchanged parent xs q)))
      where
        by_id : (t : Bool) → eqb a.id q ≡ t → option_or (cond (eqb a.id q) (Some parent) (activity_of q children)) (cond (eqb a.id q || false) None (activity_of q xs)) ≡ option_or (activity_of q children) (cond (eqb a.id q) (swapped parent (activity_of q xs)) (activity_of q xs))
        by_id true e =
            let is : a.id ≡ q = eqb-true a.id q e in
            let found_it : activity_of q xs ≡ Some a = ap (λ n. activity_of n xs) (sym is) ∙ here in
            rw (e, found_it, no_child q (subst (λ n. n < s.next_id) is id_below)) refl
        by_id false e = rw e refl

    pub detail_swap : length xs + length children ≤ s.live_limit → IsSwap s (a.id ∷ []) (parent ∷ children) ys
    detail_swap room = record {
      live = All-cons (λ id. IsLive id xs) a.id [] (rw here refl) (All-nil (λ id. IsLive id xs));
      rises = (omega arith, children_rise s a 0 (suc a.id) of.slots of.offsets (omega (arith, id_below)));
      may = All-cons (MayCome xs (a.id ∷ [])) parent children (λ live. rw (eq-eqb a.id a.id refl) refl) (λ i d lt live. absurd (let none = unused s whole (get_or children i d).id (new_ids i d lt).0 in let bad : false ≡ true = rw none at live in cc));
      ids = All-cons (λ b. (1 ≤ b.id) × (b.id < s.next_id + 17)) parent children ((all_at (IsIdBelow s.next_id) xs a.id a whole.ids here).0.0, omega (arith, id_below)) (λ i d lt. let ids = new_ids i d lt in (omega (arith, ids.0, whole.next.0), ids.1));
      carried = All-cons (IsCarried s.goals) parent children (all_at (IsCarried s.goals) xs a.id a whole.carried here).0 (children_all s a (IsCarried s.goals) 0 of.slots of.offsets (λ k d at lt. tt));
      begun = All-cons (HasBegun s.moment s.committed) parent children (all_at (HasBegun s.moment s.committed) xs a.id a whole.begun here).0 (children_all s a (HasBegun s.moment s.committed) 0 of.slots of.offsets (λ k d at lt. tt));
      rising = rising_ys;
      found = found_branched;
      above = same_above;
      fits = fits_detailed s.model xs whole.rising whole.fits a parent here refl refl (rw undone refl) parent_alone children ys rising_ys come found_detailed;
      few = let len = length-append (map one xs) children in let same = length-map xs one in omega (arith, len, same, room);
    }
