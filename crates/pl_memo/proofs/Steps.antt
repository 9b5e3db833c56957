-- A difference after one activity has left the plan, or has come into it.
use Rattle.std.proofs.Common.{◌≡◌, ⊎_elim, ℕ, eqb, Bool, true, false, cond, List, Option, Some, None, refl, sym, ap, ◌∙◌, subst, arith}
use Rattle.std.specs.Prelude.{is_some}
use Rattle.std.specs.Option.{option_or}
use Rattle.std.proofs.lemmas.Bool.{eqb-true}
use Rattle.pl_plan.specs.declared.activity.Activity.{Activity}
use Rattle.pl_plan.specs.Activities.{AreRising, activity_of, placed, without}
use Rattle.pl_plan.proofs.Ids.{rising-without, rising-placed}
use Rattle.pl_plan.proofs.Lookups.{found-placed, found-without}
use Rattle.pl_memo.specs.declared.difference.Difference.{Difference}
use Rattle.pl_memo.specs.Differences.{IsDifference, leaving, Comes}

-- ---- what is found, by its parts

hidden : (g o : Option Activity) → ((b : Activity) → o ≡ Some b → is_some g ≡ true) → cond (is_some g) None o ≡ None
hidden g (Some b) covers = rw (covers b refl) refl
hidden None None covers = refl
hidden (Some a) None covers = refl

open_base : (a : Activity) (g o : Option Activity) → Some a ≡ cond (is_some g) None o → (g ≡ None) × (o ≡ Some a)
open_base a None o e = (refl, sym e)
open_base a (Some b) o e = absurd (let bad : Some a ≡ None = e in (cc))

covered : (g : Option Activity) (b : Activity) → None ≡ cond (is_some g) None (Some b) → is_some g ≡ true
covered None b e = absurd (let bad : None ≡ Some b = e in (cc))
covered (Some a) b e = refl

none_placed : (p o : Option Activity) → None ≡ option_or p o → p ≡ None
none_placed None o e = refl
none_placed (Some a) o e = absurd (let bad : None ≡ Some a = e in (cc))

module _ (base xs : List Activity) (d : Difference) (rises : AreRising xs) (is : IsDifference base xs d) (a : Activity) where
  -- ---- one that was placed leaves

  leave_placed : (b : Activity) → activity_of a.id d.placed ≡ Some b → IsDifference base (without a.id xs) (record d { placed = without a.id d.placed })
  leave_placed b here = record {
    gone_rises = is.gone_rises;
    placed_rises = rising-without a.id 0 d.placed is.placed_rises;
    was = is.was;
    instead = λ id p q there stood. by_instead id p q (eqb a.id id) refl there stood;
    shows = λ id. rw (found-without a.id 0 xs id rises, found-without a.id 0 d.placed id is.placed_rises) (by_shows id (eqb a.id id) refl);
  }
    where
      by_instead : (id : ℕ) (p q : Activity) (c : Bool) → eqb a.id id ≡ c → activity_of id (without a.id d.placed) ≡ Some p → activity_of id base ≡ Some q → is_some (activity_of id d.gone) ≡ true
      by_instead id p q true e there stood =
          let bad : None ≡ Some p = sym (found-without a.id 0 d.placed id is.placed_rises ∙ ap (λ c. cond c None (activity_of id d.placed)) e) ∙ there in absurd (cc)
      by_instead id p q false e there stood = is.instead id p q (sym (found-without a.id 0 d.placed id is.placed_rises ∙ ap (λ c. cond c None (activity_of id d.placed)) e) ∙ there) stood

      by_shows : (id : ℕ) (c : Bool) → eqb a.id id ≡ c → cond c None (activity_of id xs) ≡ option_or (cond c None (activity_of id d.placed)) (cond (is_some (activity_of id d.gone)) None (activity_of id base))
      by_shows id true e = sym (hidden (activity_of id d.gone) (activity_of id base) (λ q stood. is.instead id b q (subst (λ n. activity_of n d.placed ≡ Some b) (eqb-true a.id id e) here) stood))
      by_shows id false e = is.shows id

  -- ---- one of the base leaves

  leave_base : activity_of a.id d.placed ≡ None → activity_of a.id xs ≡ Some a → IsDifference base (without a.id xs) (record d { gone = placed a d.gone })
  leave_base none here = record {
    gone_rises = rising-placed a 0 d.gone parts.0 (omega arith) is.gone_rises;
    placed_rises = is.placed_rises;
    was = λ id p there. by_was id p (eqb a.id id) refl (sym (found-placed a d.gone id parts.0) ∙ there);
    instead = λ id p q there stood. rw (found-placed a d.gone id parts.0) (by_instead id p q (eqb a.id id) there stood);
    shows = λ id. rw (found-without a.id 0 xs id rises, found-placed a d.gone id parts.0) (by_shows id (eqb a.id id) refl);
  }
    where
      parts : (activity_of a.id d.gone ≡ None) × (activity_of a.id base ≡ Some a)
      parts = open_base a (activity_of a.id d.gone) (activity_of a.id base) (sym here ∙ (is.shows a.id ∙ ap (λ o. option_or o (cond (is_some (activity_of a.id d.gone)) None (activity_of a.id base))) none))

      by_was : (id : ℕ) (p : Activity) (c : Bool) → eqb a.id id ≡ c → cond c (Some a) (activity_of id d.gone) ≡ Some p → activity_of id base ≡ Some p
      by_was id p true e there = sym (ap (λ n. activity_of n base) (eqb-true a.id id e)) ∙ (parts.1 ∙ there)
      by_was id p false e there = is.was id p there

      by_instead : (id : ℕ) (p q : Activity) (c : Bool) → activity_of id d.placed ≡ Some p → activity_of id base ≡ Some q → is_some (cond c (Some a) (activity_of id d.gone)) ≡ true
      by_instead id p q true there stood = refl
      by_instead id p q false there stood = is.instead id p q there stood

      by_shows : (id : ℕ) (c : Bool) → eqb a.id id ≡ c → cond c None (activity_of id xs) ≡ option_or (activity_of id d.placed) (cond (is_some (cond c (Some a) (activity_of id d.gone))) None (activity_of id base))
      by_shows id true e = sym (ap (λ o. option_or o None) (sym (ap (λ n. activity_of n d.placed) (eqb-true a.id id e)) ∙ none))
      by_shows id false e = is.shows id

  pub after_leaving : activity_of a.id xs ≡ Some a → IsDifference base (without a.id xs) (leaving d a)
  after_leaving here = by (activity_of a.id d.placed) refl
    where
      by : (o : Option Activity) → activity_of a.id d.placed ≡ o → IsDifference base (without a.id xs) (cond (is_some (activity_of a.id d.placed)) (record d { placed = without a.id d.placed }) (record d { gone = placed a d.gone }))
      by None e = rw e (leave_base e here)
      by (Some b) e = rw e (leave_placed b e)

  -- ---- one that is gone comes back

  come_back : activity_of a.id xs ≡ None → activity_of a.id d.gone ≡ Some a → IsDifference base (placed a xs) (record d { gone = without a.id d.gone })
  come_back free away = record {
    gone_rises = rising-without a.id 0 d.gone is.gone_rises;
    placed_rises = is.placed_rises;
    was = λ id p there. by_was id p (eqb a.id id) (sym (found-without a.id 0 d.gone id is.gone_rises) ∙ there);
    instead = λ id p q there stood. rw (found-without a.id 0 d.gone id is.gone_rises) (by_instead id p q (eqb a.id id) refl there stood);
    shows = λ id. rw (found-placed a xs id free, found-without a.id 0 d.gone id is.gone_rises) (by_shows id (eqb a.id id) refl);
  }
    where
      none : activity_of a.id d.placed ≡ None
      none = none_placed (activity_of a.id d.placed) _ (sym free ∙ is.shows a.id)

      none_at : (id : ℕ) → eqb a.id id ≡ true → activity_of id d.placed ≡ None
      none_at id e = sym (ap (λ n. activity_of n d.placed) (eqb-true a.id id e)) ∙ none

      by_was : (id : ℕ) (p : Activity) (c : Bool) → cond c None (activity_of id d.gone) ≡ Some p → activity_of id base ≡ Some p
      by_was id p true there = absurd (cc)
      by_was id p false there = is.was id p there

      by_instead : (id : ℕ) (p q : Activity) (c : Bool) → eqb a.id id ≡ c → activity_of id d.placed ≡ Some p → activity_of id base ≡ Some q → is_some (cond c None (activity_of id d.gone)) ≡ true
      by_instead id p q true e there stood = let bad : None ≡ Some p = sym (none_at id e) ∙ there in absurd (cc)
      by_instead id p q false e there stood = is.instead id p q there stood

      by_shows : (id : ℕ) (c : Bool) → eqb a.id id ≡ c → cond c (Some a) (activity_of id xs) ≡ option_or (activity_of id d.placed) (cond (is_some (cond c None (activity_of id d.gone))) None (activity_of id base))
      by_shows id true e = sym (ap (λ o. option_or o (activity_of id base)) (none_at id e) ∙ (sym (ap (λ n. activity_of n base) (eqb-true a.id id e)) ∙ is.was a.id a away))
      by_shows id false e = is.shows id

  -- ---- another one comes

  come_new : activity_of a.id xs ≡ None → IsDifference base (placed a xs) (record d { placed = placed a d.placed })
  come_new free = record {
    gone_rises = is.gone_rises;
    placed_rises = rising-placed a 0 d.placed none (omega arith) is.placed_rises;
    was = is.was;
    instead = λ id p q there stood. by_instead id p q (eqb a.id id) refl (sym (found-placed a d.placed id none) ∙ there) stood;
    shows = λ id. rw (found-placed a xs id free, found-placed a d.placed id none) (by_shows id (eqb a.id id));
  }
    where
      none : activity_of a.id d.placed ≡ None
      none = none_placed (activity_of a.id d.placed) _ (sym free ∙ is.shows a.id)

      at_base : None ≡ cond (is_some (activity_of a.id d.gone)) None (activity_of a.id base)
      at_base = sym free ∙ (is.shows a.id ∙ ap (λ o. option_or o (cond (is_some (activity_of a.id d.gone)) None (activity_of a.id base))) none)

      by_instead : (id : ℕ) (p q : Activity) (c : Bool) → eqb a.id id ≡ c → cond c (Some a) (activity_of id d.placed) ≡ Some p → activity_of id base ≡ Some q → is_some (activity_of id d.gone) ≡ true
      by_instead id p q true e there stood =
          let same : a.id ≡ id = eqb-true a.id id e in
          let stood_here : activity_of a.id base ≡ Some q = ap (λ n. activity_of n base) same ∙ stood in
          subst (λ n. is_some (activity_of n d.gone) ≡ true) same (covered (activity_of a.id d.gone) q (at_base ∙ ap (cond (is_some (activity_of a.id d.gone)) None) stood_here))
      by_instead id p q false e there stood = is.instead id p q there stood

      by_shows : (id : ℕ) (c : Bool) → cond c (Some a) (activity_of id xs) ≡ option_or (cond c (Some a) (activity_of id d.placed)) (cond (is_some (activity_of id d.gone)) None (activity_of id base))
      by_shows id true = refl
      by_shows id false = is.shows id

  pub after_coming : (e : Difference) → activity_of a.id xs ≡ None → Comes d a e → IsDifference base (placed a xs) e
  after_coming e free comes = ⊎_elim
      (λ (back : (activity_of a.id d.gone ≡ Some a) × (e ≡ record d { gone = without a.id d.gone })). subst (IsDifference base (placed a xs)) (sym back.1) (come_back free back.0))
      (λ (new : e ≡ record d { placed = placed a d.placed }). subst (IsDifference base (placed a xs)) (sym new) (come_new free))
      comes
