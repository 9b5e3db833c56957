-- The set of conflicts is mended as one timeline changes.
use Rattle.std.proofs.Common.{◌≡◌, ℕ, set, eqb, Bool, true, false, cond, List, refl, ap, sym, ◌∙◌, subst}
use Rattle.std.specs.Prelude.{map, not, ◌&&◌, ◌||◌, slice_get, Option, Some, None}
use Rattle.std.proofs.lemmas.Bool.{eqb-true, eq-eqb, true≢false, false_from_ne_true}
use Rattle.std.proofs.lemmas.List.Elements.{All-weaker}
use Rattle.std.proofs.lemmas.Option.{same_Some}
use Rattle.pl_conflict.specs.declared.conflict.Conflict.{Conflict}
use Rattle.pl_conflict.specs.declared.conflict.Code.TheVariants as code
use Rattle.pl_conflict.specs.Order.{has}
use Rattle.pl_conflict.specs.Sorting.{AreInOrder}
use Rattle.pl_capacity.specs.Uses.{spans_now}
use Rattle.pl_level.specs.Effects.{low_now, high_now}
use Rattle.pl_state.specs.Sets.{is_allowed}
use Rattle.pl_state.specs.Timelines.{state_at, broken_now, bad_now}
use Rattle.pl_semantics.specs.declared.plan_state.PlanState.{PlanState}
use Rattle.pl_semantics.specs.PlanStates.{of_found}
use Rattle.pl_semantics.specs.Parts.{part_of, of_timelines}
use Rattle.pl_semantics.specs.Owners.{owner_of}
use Rattle.pl_semantics.specs.Timelines.{outside, unmet_must, bad_step}
use Rattle.pl_semantics.proofs.Owning.{Each, each_append, each_map, each_made}
use Rattle.pl_semantics.proofs.Naming.{IsBrokenOf, IsBadOf, all_broken, all_bad}
use Rattle.pl_update.specs.declared.timelines.line.Line.{Line}
use Rattle.pl_update.specs.declared.timelines.line.Line.TheVariants.{Capacity, Level, States}
use Rattle.pl_update.specs.Timelines.Told.{wrong_with, wrong_at, IsTold}
use Rattle.pl_update.specs.Timelines.Named.{HoldsNamed, AreNamed}
use Rattle.pl_update.specs.Timelines.Mending.{IsMended}
use Rattle.pl_update.specs.Timelines.Changed.{IsExchanged}
use Rattle.pl_update.proofs.AboutTimelines.Moving.{get_set}

-- a conflict of this timeline
abbrev pub IsAbout : PlanState → ℕ → Conflict → Type 0
IsAbout s line q = (owner_of s q ≡ Some line) × (part_of q.code ≡ of_timelines)

pub wrong_about : (s : PlanState) (line : ℕ) (l : Line) → HoldsNamed s line l → Each (IsAbout s line) (wrong_with s line l)
wrong_about s line (Capacity c) named = each_map (IsAbout s line) (outside code.Over line) (spans_now c) (λ p. (refl, refl))
wrong_about s line (Level l) named = each_append (IsAbout s line) (map (outside code.Low line) (low_now l)) (map (outside code.High line) (high_now l))
    (each_map (IsAbout s line) (outside code.Low line) (low_now l) (λ p. (refl, refl))) (each_map (IsAbout s line) (outside code.High line) (high_now l) (λ p. (refl, refl)))
wrong_about s line (States x) named = each_append (IsAbout s line) (map (unmet_must s) (broken_now x)) (map (bad_step s) (bad_now x))
    (each_made (IsAbout s line) (unmet_must s) (broken_now x) (All-weaker (IsBrokenOf s line) (λ m. IsAbout s line (unmet_must s m)) (λ m h. (h, refl)) (broken_now x) (all_broken s line (state_at x) x.moment x.horizon x.musts named.1)))
    (each_made (IsAbout s line) (bad_step s) (bad_now x) (All-weaker (IsBadOf s line) (λ y. IsAbout s line (bad_step s y)) (λ y h. (h, refl)) (bad_now x) (all_bad s line (is_allowed x.any x.steps) x.base x.horizon x.moment x.value x.sets named.0)))

unchanged : (o w c n : Bool) → n ≡ ((o && not w) || c) → w ≡ false → c ≡ false → n ≡ o
unchanged o w c n is no_went no_came = is ∙ rw (no_went, no_came) (kept o)
  where
    kept : (b : Bool) → ((b && true) || false) ≡ b
    kept true = refl
    kept false = refl

module _ (s : PlanState) (lines : List Line) (i : ℕ) (l l' : Line) (went came all all' : List Conflict) where
  pub mended_line : slice_get lines i ≡ Some l → HoldsNamed s i l → HoldsNamed s i l' → IsExchanged (wrong_with s i l) (wrong_with s i l') went came
      → ((q : Conflict) → has q all' ≡ ((has q all && not (has q went)) || has q came)) → (AreInOrder all → AreInOrder all') → IsMended s lines (set lines i l') all all'
  mended_line at named named' told members ordered = record {
    told = λ t q own. by t q own (owner_of s q) refl;
    others = λ q other. unchanged (has q all) (has q went) (has q came) (has q all') (members q) (false_from_ne_true (has q went) (λ e. other (went_about q e).1)) (false_from_ne_true (has q came) (λ e. other (came_about q e).1));
    sorted = ordered;
  }
    where
      went_about : (q : Conflict) → has q went ≡ true → IsAbout s i q
      went_about q e = wrong_about s i l named q (told.left q e)

      came_about : (q : Conflict) → has q came ≡ true → IsAbout s i q
      came_about q e = wrong_about s i l' named' q (told.arrived q e)

      -- of another timeline, or of none
      elsewhere : (q : Conflict) → (owner_of s q ≡ Some i → ⊥) → has q all' ≡ has q all
      elsewhere q other = unchanged (has q all) (has q went) (has q came) (has q all') (members q) (false_from_ne_true (has q went) (λ e. other (went_about q e).0)) (false_from_ne_true (has q came) (λ e. other (came_about q e).0))

      by : IsTold s lines all → (q : Conflict) → part_of q.code ≡ of_timelines → (o : Option ℕ) → owner_of s q ≡ o → has q all' ≡ has q (of_found (wrong_at s (set lines i l')) o)
      by t q own None e = elsewhere q (λ f. none_is (sym e ∙ f)) ∙ (t q own ∙ ap (λ o. has q (of_found (wrong_at s lines) o)) e)
        where
          none_is : ◌≡◌ {A = Option ℕ} None (Some i) → ⊥
          none_is f = cc
      by t q own (Some j) e = cases (eqb i j) refl
        where
          old : has q all ≡ has q (wrong_at s lines j)
          old = t q own ∙ ap (λ o. has q (of_found (wrong_at s lines) o)) e

          cases : (b : Bool) → eqb i j ≡ b → has q all' ≡ has q (wrong_at s (set lines i l') j)
          cases true h =
              let is : i ≡ j = eqb-true i j h in
              let old_here : has q all ≡ has q (wrong_with s i l) = subst (λ n. has q all ≡ has q (wrong_at s lines n)) (sym is) old ∙ ap (λ o. has q (of_found (wrong_with s i) o)) at in
              let now_here : slice_get (set lines i l') i ≡ Some l' = get_set lines i i l l' at ∙ ap (λ b. cond b (Some l') (slice_get lines i)) (eq-eqb i i refl) in
              let here : has q all' ≡ has q (wrong_at s (set lines i l') i) =
              members q ∙ (ap (λ b. (b && not (has q went)) || has q came) old_here ∙ (sym (told.members q) ∙ ap (λ o. has q (of_found (wrong_with s i) o)) (sym now_here))) in
              subst (λ n. has q all' ≡ has q (wrong_at s (set lines i l') n)) is here
          cases false h =
              let apart : owner_of s q ≡ Some i → ⊥ = λ f. true≢false (sym (eq-eqb i j (sym (same_Some j i (sym e ∙ f)))) ∙ h) in
              let stays : slice_get (set lines i l') j ≡ slice_get lines j = get_set lines i j l l' at ∙ ap (λ b. cond b (Some l') (slice_get lines j)) h in
              elsewhere q apart ∙ (old ∙ ap (λ o. has q (of_found (wrong_with s j) o)) (sym stays))

  pub named_line : AreNamed s lines → slice_get lines i ≡ Some l → HoldsNamed s i l' → AreNamed s (set lines i l')
  named_line named at here n k is = cases (eqb i n) refl (sym (get_set lines i n l l' at) ∙ is)
    where
      cases : (b : Bool) → eqb i n ≡ b → cond b (Some l') (slice_get lines n) ≡ Some k → HoldsNamed s n k
      cases true e f =
          let same : l' ≡ k = cc in
          subst (λ m. HoldsNamed s m k) (eqb-true i n e) (subst (λ v. HoldsNamed s i v) same here)
      cases false e f = named n k f

pub mended_none : (s : PlanState) (lines : List Line) (all : List Conflict) → IsMended s lines lines all all
mended_none s lines all = record { told = λ t. t; others = λ q other. refl; sorted = λ o. o }

pub mended_then : (s : PlanState) (lines lines' lines'' : List Line) (all all' all'' : List Conflict) → IsMended s lines lines' all all' → IsMended s lines' lines'' all' all'' → IsMended s lines lines'' all all''
mended_then s lines lines' lines'' all all' all'' first second =
    record { told = λ t. second.told (first.told t); others = λ q other. second.others q other ∙ first.others q other; sorted = λ o. second.sorted (first.sorted o) }
