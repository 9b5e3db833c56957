-- Each conflict of a link or an order is found by what it is about.
use Rattle.std.proofs.Common.{◌≡◌, ℕ, eqb, Bool, true, false, List, [], ◌∷◌, filter, Option, Some, None, refl, sym, ap, ◌∙◌, subst, flat_map, ⊎_elim}
use Rattle.std.specs.Prelude.{◌||◌, ◌&&◌}
use Rattle.std.specs.List.{list_any}
use Rattle.std.specs.BTreeMap.{is_at}
use Rattle.std.proofs.lemmas.Bool.{cases_eq, eq-eqb, ne_eqb}
use Rattle.std.proofs.Math.Bool.{and-false, and-or_distrib_right}
use Rattle.pl_conflict.specs.declared.conflict.Conflict.{Conflict}
use Rattle.pl_conflict.specs.Order as conflicts
use Rattle.pl_conflict.proofs.Sorting.{has-append}
use Rattle.pl_plan.specs.declared.activity.Activity.{Activity}
use Rattle.pl_plan.specs.Activities.{AreRising, activity_of}
use Rattle.pl_links.specs.declared.broken.Broken.{Broken}
use Rattle.pl_links.specs.Broken.{broken_of}
use Rattle.pl_links.specs.Sets.{broken_cmp, has, is_of}
use Rattle.pl_links.proofs.Marks.{itself, same_broken}
use Rattle.pl_semantics.specs.declared.plan_state.PlanState.{PlanState}
use Rattle.pl_semantics.specs.PlanStates.{found, of_found, among, is_ahead}
use Rattle.pl_semantics.specs.Parts.{part_of, of_links}
use Rattle.pl_semantics.specs.Links.{placed_in, lone, place_in, order_at, unmet_from, unmet_order, link_conflict, link_conflicts}
use Rattle.pl_semantics.proofs.Owning.{Each, each_none, each_when, each_found, each_flat}
use Rattle.pl_detect.specs.Broken.{conflict_by, broken_conflict}
use Rattle.pl_detect.proofs.Found.{found_id}
use Rattle.pl_detect.proofs.BrokenConflicts.{broken_conflicts}
use Rattle.pl_update.specs.Links.Near.{broken_near}
use Rattle.pl_update.specs.Links.Owned.{owner_of}
use Rattle.pl_update.proofs.AboutLinks.Telling as telling

-- a conflict of the part, about this link or order
abbrev pub IsAbout : Broken → Conflict → Type 0
IsAbout b q = (owner_of q ≡ b) × (part_of q.code ≡ of_links)

abbrev at_index : Activity → ℕ → Bool → Broken
at_index a index slots = record { id = a.id; index = index; slots = slots }

unmet_about : (s : PlanState) (a : Activity) (index : ℕ) (first second : Option Activity) → Each (IsAbout (at_index a index true)) (unmet_from s a index first second)
unmet_about s a index (Some first) (Some second) = each_when (IsAbout (at_index a index true)) (is_ahead s a || (is_ahead s first || is_ahead s second)) _ (refl, refl)
unmet_about s a index (Some first) None = each_none (IsAbout (at_index a index true))
unmet_about s a index None second = each_none (IsAbout (at_index a index true))

link_about : (s : PlanState) (a : Activity) (index : ℕ) (slots : Bool) → Each (IsAbout (at_index a index slots)) (link_conflict s a slots index)
link_about s a index false = each_when (IsAbout (at_index a index false)) (is_ahead s a) (lone a index) (refl, refl)
link_about s a index true = each_found (IsAbout (at_index a index true)) (unmet_order s a index) (order_at s a index) (λ o. unmet_about s a index (place_in s a o.first) (place_in s a o.second))

module _ (s : PlanState) where
  found_about : (b : Broken) (o : Option Activity) → activity_of b.id s.plan.activities ≡ o → Each (IsAbout b) (of_found (conflict_by s b) o)
  found_about b None is = each_none (IsAbout b)
  found_about b (Some a) is = subst (λ n. Each (IsAbout (record { id = n; index = b.index; slots = b.slots })) (link_conflict s a b.slots b.index)) (found_id b.id s.plan.activities a is) (link_about s a b.index b.slots)

  pub about : (b : Broken) → Each (IsAbout b) (broken_conflict s b)
  about b = found_about b (found s b.id) refl

  again : (h x : Bool) → (x || (h && x)) ≡ x
  again true true = refl
  again true false = refl
  again false true = refl
  again false false = refl

  not_about : (q : Conflict) (b : Broken) → is_at (broken_cmp (owner_of q)) b ≡ false → conflicts.has q (broken_conflict s b) ≡ false
  not_about q b e = by (conflicts.has q (broken_conflict s b)) refl
    where
      by : (h : Bool) → conflicts.has q (broken_conflict s b) ≡ h → conflicts.has q (broken_conflict s b) ≡ false
      by true here = absurd (let is : owner_of q ≡ b = (about b q here).0 in let at : is_at (broken_cmp (owner_of q)) b ≡ true = subst (λ (x : Broken). is_at (broken_cmp x) b ≡ true) (sym is) (itself b) in let bad : true ≡ false = sym at ∙ e in cc)
      by false here = here

  -- it stands where what it is about is listed and has it
  pub has-flat : (bs : List Broken) (q : Conflict) → conflicts.has q (flat_map (broken_conflict s) bs) ≡ (has (owner_of q) bs && conflicts.has q (broken_conflict s (owner_of q)))
  has-flat [] q = refl
  has-flat (b ∷ bs) q = has-append (broken_conflict s b) (flat_map (broken_conflict s) bs) q ∙ (ap (λ h. conflicts.has q (broken_conflict s b) || h) (has-flat bs q) ∙ cases (is_at (broken_cmp (owner_of q)) b) refl)
    where
      cases : (t : Bool) → is_at (broken_cmp (owner_of q)) b ≡ t → (conflicts.has q (broken_conflict s b) || (has (owner_of q) bs && conflicts.has q (broken_conflict s (owner_of q)))) ≡ ((is_at (broken_cmp (owner_of q)) b || has (owner_of q) bs) && conflicts.has q (broken_conflict s (owner_of q)))
      cases true e =
          let is : owner_of q ≡ b = same_broken (owner_of q) b e in
          ap (λ x. conflicts.has q (broken_conflict s x) || (has (owner_of q) bs && conflicts.has q (broken_conflict s (owner_of q)))) (sym is)
          ∙ (again (has (owner_of q) bs) (conflicts.has q (broken_conflict s (owner_of q)))
          ∙ ap (λ t. (t || has (owner_of q) bs) && conflicts.has q (broken_conflict s (owner_of q))) (sym e))
      cases false e =
          ap (λ h. h || (has (owner_of q) bs && conflicts.has q (broken_conflict s (owner_of q)))) (not_about q b e)
          ∙ ap (λ t. (t || has (owner_of q) bs) && conflicts.has q (broken_conflict s (owner_of q))) (sym e)

  -- all are of the part
  pub flat_of_links : (bs : List Broken) (q : Conflict) → conflicts.has q (flat_map (broken_conflict s) bs) ≡ true → part_of q.code ≡ of_links
  flat_of_links bs = each_flat (λ q. part_of q.code ≡ of_links) (broken_conflict s) bs (λ b q h. (about b q h).1)

  -- the conflicts of the part
  pub has-links : AreRising s.plan.activities → (q : Conflict) → conflicts.has q (link_conflicts s) ≡ (has (owner_of q) (broken_of s.model (placed_in s)) && conflicts.has q (broken_conflict s (owner_of q)))
  has-links rising q = ap (λ ks. conflicts.has q ks) (sym (broken_conflicts s rising)) ∙ has-flat (broken_of s.model (placed_in s)) q

-- ---- what is listed of it

module _ {X : Type 0} (same : X → X → Bool) (exact : (b x : X) → same b x ≡ true → b ≡ x) where
  pub any-filter : (p : X → Bool) (xs : List X) (b : X) → list_any (same b) (filter p xs) ≡ (p b && list_any (same b) xs)
  any-filter p [] b = sym (and-false (p b))
  any-filter p (x ∷ xs) b = cases (p x) refl (same b x) refl (any-filter p xs b)
    where
      late : (i t h f : Bool) → i ≡ false → f ≡ (t && h) → (i || f) ≡ (t && (i || h))
      late true t h f e is = absurd (cc)
      late false t h f e is = is

      gone : (i t h f : Bool) → i ≡ false → f ≡ (t && h) → f ≡ (t && (i || h))
      gone true t h f e is = absurd (cc)
      gone false t h f e is = is

      no : (t h f : Bool) → t ≡ false → f ≡ (t && h) → f ≡ (t && true)
      no true h f e is = absurd (cc)
      no false h f e is = is

      cases : (t : Bool) → p x ≡ t → (i : Bool) → same b x ≡ i → list_any (same b) (filter p xs) ≡ (p b && list_any (same b) xs) → list_any (same b) (filter p (x ∷ xs)) ≡ (p b && (same b x || list_any (same b) xs))
      cases true e true i more = let is : p b ≡ true = ap p (exact b x i) ∙ e in rw (e, i, is) refl
      cases true e false i more = rw e (late (same b x) (p b) (list_any (same b) xs) (list_any (same b) (filter p xs)) i more)
      cases false e true i more = let is : p b ≡ false = ap p (exact b x i) ∙ e in rw (e, i) (no (p b) (list_any (same b) xs) (list_any (same b) (filter p xs)) is more)
      cases false e false i more = rw e (gone (same b x) (p b) (list_any (same b) xs) (list_any (same b) (filter p xs)) i more)

pub has-filter : (p : Broken → Bool) (bs : List Broken) (b : Broken) → has b (filter p bs) ≡ (p b && has b bs)
has-filter p bs b = any-filter (λ b x. is_at (broken_cmp b) x) same_broken p bs b

eqb-sym : (a b : ℕ) → eqb a b ≡ eqb b a
eqb-sym a b = ⊎_elim
    (λ (e : a ≡ b). eq-eqb a b e ∙ sym (eq-eqb b a (sym e)))
    (λ (ne : a ≡ b → ⊥). ne_eqb a b ne ∙ sym (ne_eqb b a (λ e. ne (sym e))))
    (cases_eq a b)

pub has-near : (broken : List Broken) (ids : List ℕ) (b : Broken) → has b (broken_near broken ids) ≡ (among b.id ids && has b broken)
unfolding broken_near
has-near broken [] b = refl
has-near broken (i ∷ ids) b =
    telling.has-append (filter (is_of i) broken) (broken_near broken ids) b
    ∙ (ap (λ h. h || has b (broken_near broken ids)) (has-filter (is_of i) broken b)
    ∙ (ap (λ h. (eqb b.id i && has b broken) || h) (has-near broken ids b)
    ∙ (ap (λ t. (t && has b broken) || (among b.id ids && has b broken)) (eqb-sym b.id i)
    ∙ sym (and-or_distrib_right (eqb i b.id) (among b.id ids) (has b broken)))))
