-- Conflicts of links that differ and that stand are no more than there are.
use Rattle.std.proofs.Common.{◌≡◌, ℕ, ◌+◌, ◌≤◌, Bool, true, false, List, [], ◌++◌, filter, length, Some, refl, sym, ap, ◌∙◌, subst, arith, length-append}
use Rattle.std.specs.Prelude.{◌||◌, slice_get}
use Rattle.std.proofs.lemmas.Bool.{or_from}
use Rattle.std.proofs.lemmas.Option.{slice_get_within}
use Rattle.std.proofs.lemmas.List.Kept.{IsStrictlySortedBy-filter}
use Rattle.std.proofs.Math.Bool.{or-true}
use Rattle.pl_conflict.specs.declared.conflict.Conflict.{Conflict}
use Rattle.pl_conflict.specs.Order.{conflict_cmp, has}
use Rattle.pl_conflict.specs.declared.conflict.Code.TheVariants.{Temporal}
use Rattle.pl_conflict.proofs.Sorting.{has-append}
use Rattle.pl_links.specs.Broken.{lacks_partner, links_of}
use Rattle.pl_model.specs.declared.links.Link.{Link}
use Rattle.pl_plan.specs.declared.activity.Activity.{Activity}
use Rattle.pl_plan.specs.Activities.{AreRising}
use Rattle.pl_semantics.specs.declared.plan_state.PlanState.{PlanState}
use Rattle.pl_semantics.specs.Conflicts.{conflicts_of}
use Rattle.pl_semantics.specs.Goals.{goal_conflicts}
use Rattle.pl_semantics.specs.Activities.{activity_conflicts}
use Rattle.pl_semantics.specs.Links.{placed_of, placed_in, lone, link_conflicts}
use Rattle.pl_semantics.specs.PlanStates.{found, is_ahead}
use Rattle.pl_semantics.specs.Parts.{Part}
use Rattle.pl_semantics.specs.Timelines.{timeline_conflicts}
use Rattle.pl_semantics.proofs.Standing.{ordered, members, of_links_alone}
use Rattle.pl_bounds.specs.Counts.{AreApart}
use Rattle.pl_bounds.specs.Ties.{is_link, is_link_part, count_of_links}
use Rattle.pl_bounds.proofs.Counted.{held_are_few}
use Rattle.pl_bounds.proofs.Differing.{apart_both}
use Rattle.pl_bounds.proofs.Indexed.{all_apart, as_many, each_from}
use Rattle.pl_bounds.proofs.Lonely.{lone_one, lone_stands, lones_from}
use Rattle.pl_bounds.proofs.Parts.{has_kept}

-- they differ, and each stands
pub record AreLinks (t : PlanState) (ks : List Conflict) : Type 0 where
  pub apart : AreApart ks
  pub stand : (q : Conflict) → has q ks ≡ true → has q (link_conflicts t) ≡ true

-- a conflict of links is one of all
among_links : (t : PlanState) (q : Conflict) → has q (link_conflicts t) ≡ true → has q (filter is_link (conflicts_of t)) ≡ true
among_links t q e =
    let stands : has q (conflicts_of t) ≡ true =
    members t q ∙ ap (λ (b : Bool). has q (goal_conflicts t) || (has q (activity_conflicts t) || (b || has q (timeline_conflicts t)))) e
    ∙ rw (or-true (has q (activity_conflicts t)), or-true (has q (goal_conflicts t))) refl in
    has_kept is_link (conflicts_of t) q (ap (λ (p : Part). is_link_part p) (of_links_alone t q e)) stands

pub links_few : (t : PlanState) (ks : List Conflict) → AreLinks t ks → length ks ≤ count_of_links t
links_few t ks are =
    held_are_few ks (filter is_link (conflicts_of t)) are.apart (IsStrictlySortedBy-filter conflict_cmp is_link (conflicts_of t) (ordered t))
    (λ q e. among_links t q (are.stand q e))

-- those of two lists that do not meet
pub with_others : (t : PlanState) (ks ls : List Conflict) → AreLinks t ks → AreLinks t ls → ((q : Conflict) → has q ks ≡ true → has q ls ≡ false) → AreLinks t (ks ++ ls)
with_others t ks ls ones others meet = record { apart = apart_both ks ls ones.apart others.apart meet; stand = λ q e. by q (has q ks) refl (sym (has-append ks ls q) ∙ e) }
  where
    by : (q : Conflict) (b : Bool) → has q ks ≡ b → (has q ks || has q ls) ≡ true → has q (link_conflicts t) ≡ true
    by q true there e = ones.stand q there
    by q false there e = others.stand q (sym (ap (λ b. b || has q ls) there) ∙ e)

-- of three lists, no two of which meet
pub all_few : (t : PlanState) (ks ls ms : List Conflict) → AreLinks t ks → AreLinks t ls → AreLinks t ms
    → ((q : Conflict) → has q ks ≡ true → has q ls ≡ false) → ((q : Conflict) → has q ks ≡ true → has q ms ≡ false) → ((q : Conflict) → has q ls ≡ true → has q ms ≡ false)
    → length ks + length ls + length ms ≤ count_of_links t
all_few t ks ls ms ones twos threes first second third =
    let few = links_few t (ks ++ (ls ++ ms)) (with_others t ks (ls ++ ms) ones (with_others t ls ms twos threes third) (λ q e. has-append ls ms q ∙ or_from (has q ls) (has q ms) (first q e) (second q e))) in
    omega (arith, few, length-append ks (ls ++ ms), length-append ls ms)

-- ---- links of one activity

-- So many links of the activity of this id find no partner, and each is one of these conflicts.
pub record AreLone (t : PlanState) (id n : ℕ) (ks : List Conflict) : Type 0 where
  pub are : AreLinks t ks
  pub many : length ks ≡ n
  pub own : (q : Conflict) → has q ks ≡ true → (q.subject ≡ id) × (q.code ≡ Temporal)

pub none_lone : (t : PlanState) (id n : ℕ) → n ≡ 0 → AreLone t id n []
none_lone t id n none = record {
  are = record { apart = tt; stand = λ q e. absurd (cc) };
  many = sym none;
  own = λ q e. absurd (cc);
}

module _ (t : PlanState) (rising : AreRising t.plan.activities) (a : Activity) (ahead : is_ahead t a ≡ true) (live : found t a.id ≡ Some a)
    (is_lone : Link → Bool) (lacks : (l : Link) → is_lone l ≡ true → lacks_partner (placed_in t) (placed_of t a) l ≡ true) where
  abbrev links : List Link
  links = links_of t.model (placed_of t a)

  pub gathered : AreLone t a.id (length (filter is_lone links)) (lones_from a is_lone 0 links)
  gathered = record {
    are = record { apart = all_apart is_lone (lone_one a) (λ i l. refl) 0 links; stand = each_from is_lone (lone_one a) (λ (q : Conflict). has q (link_conflicts t) ≡ true) 0 links each };
    many = as_many is_lone (lone_one a) 0 links;
    own = each_from is_lone (lone_one a) (λ (q : Conflict). (q.subject ≡ a.id) × (q.code ≡ Temporal)) 0 links (λ j l is lonely. (refl, refl));
  }
    where
      each : (j : ℕ) (l : Link) → slice_get links j ≡ Some l → is_lone l ≡ true → has (lone a (0 + j)) (link_conflicts t) ≡ true
      each j l is lonely =
          let zero : 0 + j ≡ j = omega arith in
          subst (λ (n : ℕ). has (lone a n) (link_conflicts t) ≡ true) (sym zero) (lone_stands t a ahead rising live j l (slice_get_within links j l is) is (lacks l lonely))
