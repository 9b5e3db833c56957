-- What is kept after each step, and after a replacement.
use Rattle.std.proofs.Common.{◌≡◌, ℕ, eqb, Bool, true, false, List, [], ◌∷◌, ◌++◌, map, refl, sym, ap, ◌∙◌, subst}
use Rattle.std.specs.Prelude.{◌||◌, Option, Some, None, if◌then◌else◌}
use Rattle.std.specs.Option.{option_or, option_map}
use Rattle.std.proofs.lemmas.List.Folds.{list_any-append}
use Rattle.std.proofs.lemmas.List.{map-append}
use Rattle.pl_lists.proofs.Tests.{or_first_false, or_second_false}
use Rattle.pl_plan.specs.declared.activity.Activity.{Activity}
use Rattle.pl_plan.specs.Activities.{activity_of}
use Rattle.pl_plan.specs.Trees.{id_of}
use Rattle.pl_plan.specs.Values.{values_of}
use Rattle.pl_plan.specs.Firm.{amounts_of, end_of}
use Rattle.pl_semantics.specs.declared.plan_state.PlanState.{PlanState}
use Rattle.pl_semantics.specs.PlanStates.{among}
use Rattle.pl_semantics.specs.Whole.{IsWhole}
use Rattle.pl_semantics.proofs.Found.{found_id}
use Rattle.pl_update.specs.Changes.Renewed.{ComeAgain}
use Rattle.pl_update.specs.Changes.Replaced.{replaced, CanReplace}
use Rattle.pl_update.proofs.AboutChanges.Putting.{puttable}
use Rattle.pl_update.proofs.AboutChanges.Finding.{found-replaced}
use Rattle.pl_update.specs.Evaluations.Kept.{Entries, kept_at, comes_to, come_to, AreOf, KeepsUp}

-- ---- numbers among others

pub among_neither : (n : ℕ) (xs ys : List ℕ) → among n xs ≡ false → among n ys ≡ false → among n (xs ++ ys) ≡ false
among_neither n xs ys e f = list_any-append (λ i. eqb i n) xs ys ∙ rw e f

-- ---- a replacement

pub not_there : (q : ℕ) (more : List Activity) → among q (map id_of more) ≡ false → activity_of q more ≡ None
not_there q [] none = refl
not_there q (x ∷ more) none = rw (or_first_false (eqb x.id q) (among q (map id_of more)) none) (not_there q more (or_second_false (eqb x.id q) (among q (map id_of more)) none))

module _ (s : PlanState) (gone : List ℕ) (more : List Activity) (whole : IsWhole s) (can : CanReplace s gone more) where
  abbrev now : List Activity
  now = replaced s.plan.activities gone more

  found_now : (id : ℕ) → activity_of id now ≡ option_or (activity_of id more) (if among id gone then None else activity_of id s.plan.activities)
  found_now id = found-replaced s.plan.activities gone more id whole.rising (puttable s.plan.activities gone more whole.rising can.once can.free)

  -- with what goes and does not come again nothing is found
  goes : (id : ℕ) → among id gone ≡ true → among id (map id_of more) ≡ false → come_to s.model now id ≡ None
  goes id out away = let none : activity_of id now ≡ None = found_now id ∙ rw (not_there id more away, out) refl in rw none refl

  same_there : (id : ℕ) → among id gone ≡ false → among id (map id_of more) ≡ false → activity_of id now ≡ activity_of id s.plan.activities
  same_there id in_place away = found_now id ∙ rw (not_there id more away, in_place) refl

  same_end : (id : ℕ) → among id gone ≡ false → among id (map id_of more) ≡ false → end_of s.model now id ≡ end_of s.model s.plan.activities id
  unfolding end_of
  same_end id in_place away = rw (same_there id in_place away, can.kept id (among_neither id gone (map id_of more) in_place away)) refl

  same_amounts : (id : ℕ) → among id gone ≡ false → among id (map id_of more) ≡ false → amounts_of s.model now id ≡ amounts_of s.model s.plan.activities id
  unfolding amounts_of
  same_amounts id in_place away = rw (same_there id in_place away, can.kept id (among_neither id gone (map id_of more) in_place away)) refl

  -- what stays comes to the same
  stays : (id : ℕ) → among id gone ≡ false → among id (map id_of more) ≡ false → come_to s.model now id ≡ come_to s.model s.plan.activities id
  stays id in_place away = rw (same_there id in_place away) (by (activity_of id s.plan.activities) refl)
    where
      by : (o : Option Activity) → activity_of id s.plan.activities ≡ o → option_map (comes_to s.model now) o ≡ option_map (comes_to s.model s.plan.activities) o
      by None e = refl
      by (Some a) e =
          let is : a.id ≡ id = found_id id s.plan.activities a e in
          ap (λ n. Some (record { values = values_of s.model now n; amounts = amounts_of s.model now n; end = end_of s.model now n })) is
          ∙ ap (λ row. Some (record { values = row; amounts = amounts_of s.model now id; end = end_of s.model now id })) (can.kept id (among_neither id gone (map id_of more) in_place away))
          ∙ ap (λ row. Some (record { values = values_of s.model s.plan.activities id; amounts = row; end = end_of s.model now id })) (same_amounts id in_place away)
          ∙ ap (λ end. Some (record { values = values_of s.model s.plan.activities id; amounts = amounts_of s.model s.plan.activities id; end = end })) (same_end id in_place away)
          ∙ ap (λ n. Some (record { values = values_of s.model s.plan.activities n; amounts = amounts_of s.model s.plan.activities n; end = end_of s.model s.plan.activities n })) (sym is)

  -- by what is kept of those that come, of those that go alone, and of the others
  kept_after : (old new : Entries) → AreOf s old
      → ((q : ℕ) → kept_at q new ≡ (if among q (map id_of more) then come_to s.model now q else (if among q gone then None else kept_at q old)))
      → (q : ℕ) → kept_at q new ≡ come_to s.model now q
  kept_after old new are is q = is q ∙ by (among q (map id_of more)) refl (among q gone) refl
    where
      by : (b : Bool) → among q (map id_of more) ≡ b → (d : Bool) → among q gone ≡ d → (if b then come_to s.model now q else (if d then None else kept_at q old)) ≡ come_to s.model now q
      by true e d f = refl
      by false e true f = sym (goes q f e)
      by false e false f = are.each q ∙ sym (stays q f e)

-- those that go and come again are among those that come
pub away_from_gone : (gone : List ℕ) (more first rest : List Activity) → ComeAgain gone more first rest → (q : ℕ) → among q (map id_of more) ≡ false → among q gone ≡ false
away_from_gone gone more first rest come q away =
    let apart : (among q (map id_of first) || among q (map id_of rest)) ≡ false =
    sym (list_any-append (λ i. eqb i q) (map id_of first) (map id_of rest)) ∙ ap (λ l. among q l) (sym (map-append id_of first rest)) ∙ ap (λ l. among q (map id_of l)) (sym come.whole) ∙ away in
    ap (λ l. among q l) come.ids ∙ or_first_false (among q (map id_of first)) (among q (map id_of rest)) apart

pub keeps_up : (t : PlanState) (gone : List ℕ) (more : List Activity) (old rest new : Entries)
    → ((q : ℕ) → among q (map id_of more) ≡ false → kept_at q rest ≡ (if among q gone then None else kept_at q old))
    → ((q : ℕ) → kept_at q new ≡ (if among q (map id_of more) then come_to t.model t.plan.activities q else kept_at q rest))
    → KeepsUp t gone more old new
keeps_up t gone more old rest new left kept s whole can is are =
    subst (λ (u : PlanState). ((q : ℕ) → kept_at q new ≡ (if among q (map id_of more) then come_to u.model u.plan.activities q else kept_at q rest)) → AreOf u new) (sym is)
    (λ here. record { each = kept_after s gone more whole can old new are (λ q. here q ∙ by q (among q (map id_of more)) refl) }) kept
  where
    by : (q : ℕ) (b : Bool) → among q (map id_of more) ≡ b
        → (if b then come_to s.model (replaced s.plan.activities gone more) q else kept_at q rest) ≡ (if b then come_to s.model (replaced s.plan.activities gone more) q else (if among q gone then None else kept_at q old))
    by q true e = refl
    by q false e = left q e

-- nothing is kept where nothing is planned
pub are_none : (s : PlanState) → s.plan.activities ≡ [] → AreOf s []
are_none s none = record { each = λ id. rw none refl }
