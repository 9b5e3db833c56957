-- What went and what came near a replacement mends the conflicts of links and orders.
use Rattle.std.proofs.Common.{◌≡◌, ℕ, Bool, true, false, List, ◌++◌, filter, refl, sym, ap, ◌∙◌, subst, flat_map}
use Rattle.std.specs.Prelude.{◌||◌, ◌&&◌, not}
use Rattle.pl_conflict.specs.declared.conflict.Conflict.{Conflict}
use Rattle.pl_conflict.specs.Order as conflicts
use Rattle.pl_conflict.proofs.Sorting.{has-append}
use Rattle.pl_plan.specs.declared.activity.Activity.{Activity}
use Rattle.pl_plan.specs.Activities.{AreRising}
use Rattle.pl_links.specs.declared.broken.Broken.{Broken}
use Rattle.pl_links.specs.Broken.{broken_of}
use Rattle.pl_links.specs.Kept.{Kept, kept_of}
use Rattle.pl_links.specs.Sets.{has}
use Rattle.pl_semantics.specs.declared.plan_state.PlanState.{PlanState}
use Rattle.pl_semantics.specs.PlanStates.{among}
use Rattle.pl_semantics.specs.Parts.{part_of, of_links}
use Rattle.pl_semantics.specs.Links.{placed_in, link_conflicts}
use Rattle.pl_semantics.proofs.Owning.{each_append}
use Rattle.pl_semantics.specs.Whole.{IsWhole}
use Rattle.pl_detect.specs.Broken.{broken_conflict}
use Rattle.pl_update.specs.Changes.Replaced.{with_plan}
use Rattle.pl_update.specs.GoalsAndActivities.Near.{HoldSame}
use Rattle.pl_update.specs.Links.Near.{near, broken_near}
use Rattle.pl_update.specs.Links.Owned.{owner_of}
use Rattle.pl_update.specs.Links.Mended.{MendsLinks}
use Rattle.pl_update.proofs.AboutLinks.Telling as telling
use Rattle.pl_update.proofs.AboutLinks.Nearby.{same_far}
use Rattle.pl_update.proofs.AboutLinks.Owning.{has-flat, flat_of_links, has-links, has-filter, has-near}

-- Of what is near all goes and what is broken comes. Of the rest what is told goes, and comes where it is broken.
mends_one : (n c bs bt ds dt : Bool) → (n ≡ false → dt ≡ ds) → (c ≡ false → bt ≡ bs) → (bt && dt) ≡ (((bs && ds) && not (((n && bs) && ds) || (c && dt))) || (((n && bt) || (bt && c)) && dt))
mends_one true c bs bt ds dt far untold = near c bs bt ds dt
  where
    near : (c bs bt ds dt : Bool) → (bt && dt) ≡ (((bs && ds) && not ((bs && ds) || (c && dt))) || ((bt || (bt && c)) && dt))
    near c true true true dt = refl
    near true true true false true = refl
    near true true true false false = refl
    near false true true false true = refl
    near false true true false false = refl
    near c true false true dt = refl
    near c true false false dt = refl
    near c false true ds dt = refl
    near c false false ds dt = refl
mends_one false true bs bt ds dt far untold = rw (← far refl) (told bs bt dt)
  where
    told : (bs bt d : Bool) → (bt && d) ≡ (((bs && d) && not d) || ((bt && true) && d))
    told true true true = refl
    told true true false = refl
    told true false true = refl
    told true false false = refl
    told false true true = refl
    told false true false = refl
    told false false d = refl
mends_one false false bs bt ds dt far untold = rw (← far refl, ← untold refl) (same bt dt)
  where
    same : (b d : Bool) → (b && d) ≡ (((b && d) && true) || ((b && false) && d))
    same true true = refl
    same true false = refl
    same false d = refl

module _ (s t : PlanState) (rising : AreRising s.plan.activities) (rising_after : AreRising t.plan.activities) (ids : List ℕ) (old new told : List Broken)
    (old_is : old ≡ broken_of s.model (placed_in s)) (new_is : new ≡ broken_of t.model (placed_in t))
    (far : (b : Broken) → among b.id ids ≡ false → broken_conflict t b ≡ broken_conflict s b)
    (untold : (b : Broken) → has b told ≡ false → has b new ≡ has b old) where
  abbrev went : List Conflict
  went = flat_map (broken_conflict s) (broken_near old ids) ++ flat_map (broken_conflict t) told

  abbrev came : List Conflict
  came = flat_map (broken_conflict t) (broken_near new ids ++ filter (λ b. has b new) told)

  has-went : (q : Conflict) → conflicts.has q went ≡ (((among q.subject ids && has (owner_of q) old) && conflicts.has q (broken_conflict s (owner_of q))) || (has (owner_of q) told && conflicts.has q (broken_conflict t (owner_of q))))
  has-went q =
      has-append (flat_map (broken_conflict s) (broken_near old ids)) (flat_map (broken_conflict t) told) q
      ∙ (ap (λ h. h || conflicts.has q (flat_map (broken_conflict t) told)) (has-flat s (broken_near old ids) q ∙ ap (λ h. h && conflicts.has q (broken_conflict s (owner_of q))) (has-near old ids (owner_of q)))
      ∙ ap (λ h. ((among q.subject ids && has (owner_of q) old) && conflicts.has q (broken_conflict s (owner_of q))) || h) (has-flat t told q))

  has-came : (q : Conflict) → conflicts.has q came ≡ (((among q.subject ids && has (owner_of q) new) || (has (owner_of q) new && has (owner_of q) told)) && conflicts.has q (broken_conflict t (owner_of q)))
  has-came q =
      has-flat t (broken_near new ids ++ filter (λ b. has b new) told) q
      ∙ ap (λ h. h && conflicts.has q (broken_conflict t (owner_of q)))
      (telling.has-append (broken_near new ids) (filter (λ b. has b new) told) (owner_of q)
      ∙ (ap (λ h. h || has (owner_of q) (filter (λ b. has b new) told)) (has-near new ids (owner_of q))
      ∙ ap (λ h. (among q.subject ids && has (owner_of q) new) || h) (has-filter (λ b. has b new) told (owner_of q))))

  has-old : (q : Conflict) → conflicts.has q (link_conflicts s) ≡ (has (owner_of q) old && conflicts.has q (broken_conflict s (owner_of q)))
  has-old q = has-links s rising q ∙ ap (λ bs. has (owner_of q) bs && conflicts.has q (broken_conflict s (owner_of q))) (sym old_is)

  has-new : (q : Conflict) → conflicts.has q (link_conflicts t) ≡ (has (owner_of q) new && conflicts.has q (broken_conflict t (owner_of q)))
  has-new q = has-links t rising_after q ∙ ap (λ bs. has (owner_of q) bs && conflicts.has q (broken_conflict t (owner_of q))) (sym new_is)

  law : (q : Conflict) → conflicts.has q (link_conflicts t) ≡ ((conflicts.has q (link_conflicts s) && not (conflicts.has q went)) || conflicts.has q came)
  law q =
      let one = mends_one (among q.subject ids) (has (owner_of q) told) (has (owner_of q) old) (has (owner_of q) new) (conflicts.has q (broken_conflict s (owner_of q))) (conflicts.has q (broken_conflict t (owner_of q)))
      (λ e. ap (λ ks. conflicts.has q ks) (far (owner_of q) e)) (untold (owner_of q)) in
      has-new q
      ∙ (one
      ∙ (ap (λ h. (h && not (((among q.subject ids && has (owner_of q) old) && conflicts.has q (broken_conflict s (owner_of q))) || (has (owner_of q) told && conflicts.has q (broken_conflict t (owner_of q))))) || (((among q.subject ids && has (owner_of q) new) || (has (owner_of q) new && has (owner_of q) told)) && conflicts.has q (broken_conflict t (owner_of q)))) (sym (has-old q))
      ∙ (ap (λ w. (conflicts.has q (link_conflicts s) && not w) || (((among q.subject ids && has (owner_of q) new) || (has (owner_of q) new && has (owner_of q) told)) && conflicts.has q (broken_conflict t (owner_of q)))) (sym (has-went q))
      ∙ ap (λ k. (conflicts.has q (link_conflicts s) && not (conflicts.has q went)) || k) (sym (has-came q)))))

  pub mends : MendsLinks s t went came
  mends = record {
    went_of_links = each_append (λ q. part_of q.code ≡ of_links) (flat_map (broken_conflict s) (broken_near old ids)) (flat_map (broken_conflict t) told) (flat_of_links s (broken_near old ids)) (flat_of_links t told);
    came_of_links = flat_of_links t (broken_near new ids ++ filter (λ b. has b new) told);
    mended = law;
  }

-- by what the code knows after a replacement
pub mends_replaced : (s t : PlanState) (gone : List ℕ) (more : List Activity) (kept new : Kept) (ids : List ℕ) (told : List Broken) (left arrived : List Conflict)
    → IsWhole s → IsWhole t → t ≡ with_plan gone more s → kept ≡ kept_of s.model (placed_in s) → new ≡ kept_of t.model (placed_in t) → HoldSame ids (near s gone more)
    → ((b : Broken) → has b told ≡ false → has b new.broken ≡ has b kept.broken)
    → left ≡ flat_map (broken_conflict s) (broken_near kept.broken ids) ++ flat_map (broken_conflict t) told
    → arrived ≡ flat_map (broken_conflict t) (broken_near new.broken ids ++ filter (λ b. has b new.broken) told)
    → MendsLinks s t left arrived
mends_replaced s t gone more kept new ids told left arrived whole whole_after now kept_is new_is same_ids untold left_is arrived_is =
    let all : MendsLinks s t (flat_map (broken_conflict s) (broken_near kept.broken ids) ++ flat_map (broken_conflict t) told) (flat_map (broken_conflict t) (broken_near new.broken ids ++ filter (λ b. has b new.broken) told)) =
    mends s t whole.rising whole_after.rising ids kept.broken new.broken told (ap (λ (l : Kept). l.broken) kept_is) (ap (λ (l : Kept). l.broken) new_is)
    (λ b e. ap (λ (x : PlanState). broken_conflict x b) now ∙ same_far s gone more whole.rising b (sym (same_ids b.id) ∙ e))
    untold in
    subst (λ l. MendsLinks s t l arrived) (sym left_is) (subst (λ a. MendsLinks s t (flat_map (broken_conflict s) (broken_near kept.broken ids) ++ flat_map (broken_conflict t) told) a) (sym arrived_is) all)
