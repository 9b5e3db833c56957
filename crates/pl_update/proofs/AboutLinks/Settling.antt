-- As time passes conflicts of links and orders fall, and none comes.
use Rattle.std.proofs.Common.{◌≡◌, ℕ, ◌≤◌, leb, ltb, Bool, true, false, cond, List, [], ◌∷◌, map, min, Option, Some, None, refl, sym, ap, ◌∙◌, subst, arith, flat_map}
use Rattle.std.specs.Prelude.{◌||◌, ◌&&◌, not, All, take_while}
use Rattle.std.specs.List.Sorted.{IsStrictlySortedBy}
use Rattle.std.specs.BTreeMap.{is_at}
use Rattle.std.specs.declared.cmp.Ordering.TheVariants.{Less}
use Rattle.std.proofs.lemmas.Bool.{and_parts, leb-true, le-leb, ltb-true, lt-ltb, or_left, or_right}
use Rattle.std.proofs.lemmas.List.Sums.{take_while-cons}
use Rattle.std.proofs.lemmas.List.Elements.{All-head, All-tail}
use Rattle.std.proofs.lemmas.Map.Views.{All-after_first}
use Rattle.std.proofs.Math.Bool.{and-true, and-false}
use Rattle.pl_lists.proofs.Tests.{and_second}
use Rattle.pl_conflict.specs.declared.conflict.Conflict.{Conflict}
use Rattle.pl_conflict.specs.declared.conflict.Code.{Code}
use Rattle.pl_conflict.specs.declared.conflict.Code.TheVariants as code
use Rattle.pl_conflict.specs.Order.{conflict_cmp, has}
use Rattle.pl_conflict.specs.Sorting.{AreInOrder}
use Rattle.pl_conflict.proofs.OrderLaws.{from_rises}
use Rattle.pl_conflict.proofs.Sorting.{same, same_is, same_itself}
use Rattle.pl_plan.specs.declared.activity.Activity.{Activity}
use Rattle.pl_plan.specs.Activities.{AreRising}
use Rattle.pl_links.specs.declared.broken.Broken.{Broken}
use Rattle.pl_links.specs.Broken.{broken_of}
use Rattle.pl_links.specs.Sets as sets
use Rattle.pl_links.proofs.Marks.{itself, same_broken}
use Rattle.pl_model.specs.declared.alternatives.Order.{Order}
use Rattle.pl_semantics.specs.declared.plan_state.PlanState.{PlanState}
use Rattle.pl_semantics.specs.PlanStates.{found, of_found, when, is_ahead}
use Rattle.pl_semantics.specs.Parts.{part_of, of_links}
use Rattle.pl_semantics.specs.Links.{placed_in, lone, place_in, order_at, unmet_by, unmet_from, unmet_order, link_conflict, link_conflicts}
use Rattle.pl_semantics.proofs.Standing.{of_links_alone}
use Rattle.pl_detect.specs.Broken.{conflict_by, broken_conflict}
use Rattle.pl_update.specs.Links.Owned.{owner_of, is_of_links}
use Rattle.pl_update.specs.Links.Mended.{MendsLinks}
use Rattle.pl_update.specs.Links.Passing.{IsBefore, ShowsLinks, is_settled, is_of_part, passed}
use Rattle.pl_update.proofs.AboutLinks.Owning.{has-flat, flat_of_links, has-links, any-filter}

-- the state at another present, with another horizon of what is committed
abbrev later : ℕ → ℕ → PlanState → PlanState
later m c s = record s { moment = m; committed = c }

-- ---- what is settled

settled_before : (m c from to : ℕ) → from ≤ to → (leb from m && ltb from c) ≡ false → (leb to m && ltb to c) ≡ false
settled_before m c from to le e = by (leb to m && ltb to c) refl
  where
    by : (b : Bool) → (leb to m && ltb to c) ≡ b → (leb to m && ltb to c) ≡ false
    by true h =
        let both = and_parts (leb to m) (ltb to c) h in
        let one : leb from m ≡ true = le-leb from m (omega (arith, leb-true to m both.0, le)) in
        let two : ltb from c ≡ true = lt-ltb from c (omega (arith, ltb-true to c both.1, le)) in
        absurd (let bad : true ≡ false = (rw (one, two) at e) in cc)
    by false h = h

ahead_unless : (a b : Bool) → (b && a) ≡ false → not (a && b) ≡ true
ahead_unless true true e = absurd (cc)
ahead_unless true false e = refl
ahead_unless false b e = refl

no_longer : (a b c d : Bool) → (c ≡ true → a ≡ true) → (d ≡ true → b ≡ true) → not (a && b) ≡ true → not (c && d) ≡ true
no_longer a b true true f g e = absurd (let x : a ≡ true = f refl in let y : b ≡ true = g refl in let bad : false ≡ true = (rw (x, y) at e) in cc)
no_longer a b true false f g e = refl
no_longer a b false d f g e = refl

either : (a b c d e f : Bool) → (a ≡ true → b ≡ true) → (c ≡ true → d ≡ true) → (e ≡ true → f ≡ true) → (a || (c || e)) ≡ true → (b || (d || f)) ≡ true
either true b c d e f x y z h = rw (x refl) refl
either false true c d e f x y z h = refl
either false false true d e f x y z h = rw (y refl) refl
either false false false true e f x y z h = refl
either false false false false true f x y z h = z refl
either false false false false false f x y z h = absurd (cc)

module _ (s : PlanState) (m c : ℕ) (present : s.moment ≤ m) (horizon : s.committed ≤ c) where
  was_ahead : (a : Activity) → is_ahead (later m c s) a ≡ true → is_ahead s a ≡ true
  was_ahead a e = no_longer (ltb a.start c) (leb a.start m) (ltb a.start s.committed) (leb a.start s.moment)
      (λ h. lt-ltb a.start c (omega (arith, ltb-true a.start s.committed h, horizon)))
      (λ h. le-leb a.start m (omega (arith, leb-true a.start s.moment h, present))) e

  still_ahead : (a : Activity) → is_settled (later m c s) a.start ≡ false → is_ahead (later m c s) a ≡ true
  still_ahead a e = ahead_unless (ltb a.start c) (leb a.start m) e

  -- what stands later stood before, and what stood and is not settled stands
  abbrev Fades : List Conflict → List Conflict → Type 0
  Fades now before = (q : Conflict) → (has q now ≡ true → has q before ≡ true) × (has q before ≡ true → is_settled (later m c s) q.from ≡ false → has q now ≡ true)

  same_fades : (ks : List Conflict) → Fades ks ks
  same_fades ks q = (λ h. h, λ h e. h)

  when_fades : (now before : Bool) (k : Conflict) → (now ≡ true → before ≡ true) → (is_settled (later m c s) k.from ≡ false → now ≡ true) → Fades (when now k) (when before k)
  when_fades true before k was stands q = (λ h. rw (was refl) h, λ h e. by before h)
    where
      by : (b : Bool) → has q (when b k) ≡ true → has q (k ∷ []) ≡ true
      by true h = h
      by false h = absurd (cc)
  when_fades false true k was stands q = (λ h. absurd (cc), λ h e. absurd (let is : q ≡ k = same_is q k (one (same q k) h) in let bad : false ≡ true = stands (subst (λ (x : Conflict). is_settled (later m c s) x.from ≡ false) is e) in cc))
    where
      one : (b : Bool) → (b || false) ≡ true → b ≡ true
      one true h = refl
      one false h = absurd (cc)
  when_fades false false k was stands q = (λ h. h, λ h e. h)

  unmet_fades : (p first second : Activity) (index : ℕ) → Fades (unmet_by (later m c s) p index first second) (unmet_by s p index first second)
  unmet_fades p first second index =
      when_fades (is_ahead (later m c s) p || (is_ahead (later m c s) first || is_ahead (later m c s) second)) (is_ahead s p || (is_ahead s first || is_ahead s second)) _
      (either (is_ahead (later m c s) p) (is_ahead s p) (is_ahead (later m c s) first) (is_ahead s first) (is_ahead (later m c s) second) (is_ahead s second) (was_ahead p) (was_ahead first) (was_ahead second))
      (λ e. let here : is_ahead (later m c s) p ≡ true = still_ahead p (settled_before m c (min p.start (min first.start second.start)) p.start (omega arith) e) in rw here refl)

  from_fades : (a : Activity) (index : ℕ) (first second : Option Activity) → Fades (unmet_from (later m c s) a index first second) (unmet_from s a index first second)
  from_fades a index (Some first) (Some second) = unmet_fades a first second index
  from_fades a index (Some first) None = same_fades []
  from_fades a index None second = same_fades []

  order_fades : (a : Activity) (index : ℕ) (o : Option Order) → Fades (of_found (unmet_order (later m c s) a index) o) (of_found (unmet_order s a index) o)
  order_fades a index None = same_fades []
  order_fades a index (Some o) = from_fades a index (place_in s a o.first) (place_in s a o.second)

  link_fades : (a : Activity) (index : ℕ) (slots : Bool) → Fades (link_conflict (later m c s) a slots index) (link_conflict s a slots index)
  link_fades a index false = when_fades (is_ahead (later m c s) a) (is_ahead s a) (lone a index) (was_ahead a) (still_ahead a)
  link_fades a index true = order_fades a index (order_at s a index)

  found_fades : (b : Broken) (o : Option Activity) → Fades (of_found (conflict_by (later m c s) b) o) (of_found (conflict_by s b) o)
  found_fades b None = same_fades []
  found_fades b (Some a) = link_fades a b.index b.slots

  fades : (b : Broken) → Fades (broken_conflict (later m c s) b) (broken_conflict s b)
  fades b = found_fades b (found s b.id)

-- ---- what passed

of_part : (k : Code) → is_of_links k ≡ true → part_of k ≡ of_links
of_part code.Temporal e = refl
of_part code.Linked e = refl
of_part code.OpenGoal e = absurd (cc)
of_part code.OffGoal e = absurd (cc)
of_part code.Late e = absurd (cc)
of_part code.Unset e = absurd (cc)
of_part code.BadValue e = absurd (cc)
of_part code.Undetailed e = absurd (cc)
of_part code.Overrun e = absurd (cc)
of_part code.Over e = absurd (cc)
of_part code.Low e = absurd (cc)
of_part code.High e = absurd (cc)
of_part code.Must e = absurd (cc)
of_part code.BadStep e = absurd (cc)

is_part : (k : Code) → part_of k ≡ of_links → is_of_links k ≡ true
is_part code.Temporal e = refl
is_part code.Linked e = refl
is_part code.OpenGoal e = absurd (cc)
is_part code.OffGoal e = absurd (cc)
is_part code.Late e = absurd (cc)
is_part code.Unset e = absurd (cc)
is_part code.BadValue e = absurd (cc)
is_part code.Undetailed e = absurd (cc)
is_part code.Overrun e = absurd (cc)
is_part code.Over e = absurd (cc)
is_part code.Low e = absurd (cc)
is_part code.High e = absurd (cc)
is_part code.Must e = absurd (cc)
is_part code.BadStep e = absurd (cc)

-- none of these is in the list
none_has : (Q : Conflict → Type 0) (q : Conflict) → (Q q → ⊥) → (ks : List Conflict) → All Q ks → has q ks ≡ false
none_has Q q never [] all = refl
none_has Q q never (k ∷ ks) all = by (same q k) refl (none_has Q q never ks (All-tail Q k ks all))
  where
    by : (b : Bool) → same q k ≡ b → has q ks ≡ false → (same q k || has q ks) ≡ false
    by true e more = absurd (never (subst Q (sym (same_is q k e)) (All-head Q k ks all)))
    by false e more = rw e more

-- the front goes on past one that passes, and ends at one that does not
front_on : (p : Conflict → Bool) (k : Conflict) (ks : List Conflict) → p k ≡ true → take_while p (k ∷ ks) ≡ k ∷ take_while p ks
front_on p k ks e = take_while-cons p k ks ∙ ap (λ b. cond b (k ∷ take_while p ks) []) e

front_ends : (p : Conflict → Bool) (k : Conflict) (ks : List Conflict) → p k ≡ false → take_while p (k ∷ ks) ≡ []
front_ends p k ks e = take_while-cons p k ks ∙ ap (λ b. cond b (k ∷ take_while p ks) []) e

has-front : (m c : ℕ) (ks : List Conflict) (q : Conflict) → AreInOrder ks → has q (take_while (λ (k : Conflict). leb k.from m && ltb k.from c) ks) ≡ ((leb q.from m && ltb q.from c) && has q ks)
unfolding IsStrictlySortedBy
has-front m c [] q ordered = sym (and-false (leb q.from m && ltb q.from c))
has-front m c (k ∷ ks) q ordered = cases (leb k.from m && ltb k.from c) refl (same q k) refl (has-front m c ks q ordered.1)
  where
    cases : (b : Bool) → (leb k.from m && ltb k.from c) ≡ b → (h : Bool) → same q k ≡ h → has q (take_while (λ (k : Conflict). leb k.from m && ltb k.from c) ks) ≡ ((leb q.from m && ltb q.from c) && has q ks) → has q (take_while (λ (k : Conflict). leb k.from m && ltb k.from c) (k ∷ ks)) ≡ ((leb q.from m && ltb q.from c) && (same q k || has q ks))
    cases true e true h more = let here : (leb q.from m && ltb q.from c) ≡ true = ap (λ (x : Conflict). leb x.from m && ltb x.from c) (same_is q k h) ∙ e in ap (λ l. has q l) (front_on (λ (k : Conflict). leb k.from m && ltb k.from c) k ks e) ∙ rw (h, here) refl
    cases true e false h more = ap (λ l. has q l) (front_on (λ (k : Conflict). leb k.from m && ltb k.from c) k ks e) ∙ rw h more
    cases false e true h more = let here : (leb q.from m && ltb q.from c) ≡ false = ap (λ (x : Conflict). leb x.from m && ltb x.from c) (same_is q k h) ∙ e in ap (λ l. has q l) (front_ends (λ (k : Conflict). leb k.from m && ltb k.from c) k ks e) ∙ rw here refl
    cases false e false h more = ap (λ l. has q l) (front_ends (λ (k : Conflict). leb k.from m && ltb k.from c) k ks e) ∙ rw h (rest (leb q.from m && ltb q.from c) refl)
      where
        rest : (b : Bool) → (leb q.from m && ltb q.from c) ≡ b → false ≡ (b && has q ks)
        rest true g = sym (none_has (λ (x : Conflict). conflict_cmp k x ≡ Less) q (λ less. let bad : (leb q.from m && ltb q.from c) ≡ false = settled_before m c k.from q.from (from_rises k q less) e in absurd (let worse : true ≡ false = sym g ∙ bad in cc)) ks (All-after_first conflict_cmp k ks ordered))
        rest false g = refl

has-passed : (t : PlanState) (ks : List Conflict) (q : Conflict) → AreInOrder ks → has q (passed t ks) ≡ (is_of_part q && (is_settled t q.from && has q ks))
unfolding passed
has-passed t ks q ordered =
    any-filter same same_is is_of_part (take_while (λ (k : Conflict). is_settled t k.from) ks) q
    ∙ ap (λ h. is_of_part q && h) (has-front t.moment t.committed ks q ordered)

-- ---- what they are about

owners_has : (ks : List Conflict) (q : Conflict) → has q ks ≡ true → sets.has (owner_of q) (map owner_of ks) ≡ true
owners_has [] q h = absurd (cc)
owners_has (k ∷ ks) q h = cases (same q k) refl (owners_has ks q)
  where
    cases : (b : Bool) → same q k ≡ b → (has q ks ≡ true → sets.has (owner_of q) (map owner_of ks) ≡ true) → (is_at (sets.broken_cmp (owner_of q)) (owner_of k) || sets.has (owner_of q) (map owner_of ks)) ≡ true
    cases true e more = or_left (is_at (sets.broken_cmp (owner_of q)) (owner_of k)) (sets.has (owner_of q) (map owner_of ks)) (subst (λ (x : Conflict). is_at (sets.broken_cmp (owner_of q)) (owner_of x) ≡ true) (same_is q k e) (itself (owner_of q)))
    cases false e more = or_right (is_at (sets.broken_cmp (owner_of q)) (owner_of k)) (sets.has (owner_of q) (map owner_of ks)) (more (rw e at h))

owners_pass : (p : Broken → Bool) (b : Broken) (ks : List Conflict) → ((k : Conflict) → has k ks ≡ true → p (owner_of k) ≡ true) → sets.has b (map owner_of ks) ≡ true → p b ≡ true
owners_pass p b [] all h = absurd (cc)
owners_pass p b (k ∷ ks) all h = cases (is_at (sets.broken_cmp b) (owner_of k)) refl (owners_pass p b ks (λ q here. all q (or_right (same q k) (has q ks) here)))
  where
    cases : (t : Bool) → is_at (sets.broken_cmp b) (owner_of k) ≡ t → (sets.has b (map owner_of ks) ≡ true → p b ≡ true) → p b ≡ true
    cases true e more = ap p (same_broken b (owner_of k) e) ∙ all k (or_left (same k k) (has k ks) (same_itself k))
    cases false e more = more (rw e at h)

-- ---- the law

mends_one : (b du ds w st o : Bool) → (du ≡ true → ds ≡ true) → (ds ≡ true → st ≡ false → du ≡ true) → ((b && ds) ≡ true → w ≡ st) → (w ≡ true → o ≡ true) → (o ≡ true → b ≡ true) → (b && du) ≡ (((b && ds) && not w) || (o && du))
mends_one true true ds w st o was stands goes named broken = rw (was refl) (by st w o (goes (rw (was refl) refl)) named)
  where
    by : (st w o : Bool) → w ≡ st → (w ≡ true → o ≡ true) → true ≡ (not w || (o && true))
    by true w o e n = rw (e, n e) refl
    by false w o e n = rw e refl
mends_one true false true w true o was stands goes named broken = rw (goes refl) (none o)
  where
    none : (o : Bool) → false ≡ (false || (o && false))
    none true = refl
    none false = refl
mends_one true false true w false o was stands goes named broken = absurd (let bad : false ≡ true = stands refl refl in cc)
mends_one true false false w st true was stands goes named broken = refl
mends_one true false false w st false was stands goes named broken = refl
mends_one false du ds w st true was stands goes named broken = absurd (let bad : false ≡ true = broken refl in cc)
mends_one false du ds w st false was stands goes named broken = refl

module _ (s : PlanState) (m c : ℕ) (present : s.moment ≤ m) (horizon : s.committed ≤ c) (rising : AreRising s.plan.activities) (ks : List Conflict) (ordered : AreInOrder ks) (shows : ShowsLinks s ks) where
  abbrev went : List Conflict
  went = passed (later m c s) ks

  abbrev broken : List Broken
  broken = broken_of s.model (placed_in s)

  -- what passed stood
  stood : (k : Conflict) → has k went ≡ true → has k (link_conflicts s) ≡ true
  stood k h =
      let both = and_parts (is_of_part k) (is_settled (later m c s) k.from && has k ks) (sym (has-passed (later m c s) ks k ordered) ∙ h) in
      sym (shows k (of_part k.code both.0)) ∙ and_second (is_settled (later m c s) k.from) (has k ks) both.1

  goes : (q : Conflict) → has q (link_conflicts s) ≡ true → has q went ≡ is_settled (later m c s) q.from
  goes q h =
      let of : part_of q.code ≡ of_links = of_links_alone s q h in
      let listed : has q ks ≡ true = shows q of ∙ h in
      has-passed (later m c s) ks q ordered ∙ (ap (λ b. b && (is_settled (later m c s) q.from && has q ks)) (is_part q.code of) ∙ (ap (λ b. is_settled (later m c s) q.from && b) listed ∙ and-true (is_settled (later m c s) q.from)))

  law : (q : Conflict) → has q (link_conflicts (later m c s)) ≡ ((has q (link_conflicts s) && not (has q went)) || has q (flat_map (broken_conflict (later m c s)) (map owner_of went)))
  law q =
      let old : has q (link_conflicts s) ≡ (sets.has (owner_of q) broken && has q (broken_conflict s (owner_of q))) = has-links s rising q in
      let new : has q (link_conflicts (later m c s)) ≡ (sets.has (owner_of q) broken && has q (broken_conflict (later m c s) (owner_of q))) = has-links (later m c s) rising q in
      let came : has q (flat_map (broken_conflict (later m c s)) (map owner_of went)) ≡ (sets.has (owner_of q) (map owner_of went) && has q (broken_conflict (later m c s) (owner_of q))) = has-flat (later m c s) (map owner_of went) q in
      let one = mends_one (sets.has (owner_of q) broken) (has q (broken_conflict (later m c s) (owner_of q))) (has q (broken_conflict s (owner_of q))) (has q went) (is_settled (later m c s) q.from) (sets.has (owner_of q) (map owner_of went))
      (fades s m c present horizon (owner_of q) q).0
      (fades s m c present horizon (owner_of q) q).1
      (λ e. goes q (old ∙ e))
      (owners_has went q)
      (owners_pass (λ b. sets.has b broken) (owner_of q) went (λ k h. (and_parts (sets.has (owner_of k) broken) (has k (broken_conflict s (owner_of k))) (sym (has-links s rising k) ∙ stood k h)).0)) in
      new ∙ (one ∙ (ap (λ h. (h && not (has q went)) || (sets.has (owner_of q) (map owner_of went) && has q (broken_conflict (later m c s) (owner_of q)))) (sym old)
      ∙ ap (λ h. (has q (link_conflicts s) && not (has q went)) || h) (sym came)))

  settles : MendsLinks s (later m c s) went (flat_map (broken_conflict (later m c s)) (map owner_of went))
  settles = record {
    went_of_links = λ q h. of_links_alone s q (stood q h);
    came_of_links = flat_of_links (later m c s) (map owner_of went);
    mended = law;
  }

-- by what a caller knows of the later state
pub settled_after : (s t : PlanState) (ks went came : List Conflict) (owners : List Broken) → IsBefore s t → AreRising t.plan.activities → AreInOrder ks → ShowsLinks s ks → went ≡ passed t ks → owners ≡ map owner_of went → came ≡ flat_map (broken_conflict t) owners → MendsLinks s t went came
settled_after s t ks went came owners before rising ordered shows is named is_came =
    let rising_before : AreRising s.plan.activities = subst (λ (x : PlanState). AreRising x.plan.activities) before.same rising in
    let all : MendsLinks s t (passed t ks) (flat_map (broken_conflict t) (map owner_of (passed t ks))) =
    subst (λ (x : PlanState). MendsLinks s x (passed x ks) (flat_map (broken_conflict x) (map owner_of (passed x ks)))) (sym before.same) (settles s t.moment t.committed before.present before.horizon rising_before ks ordered shows) in
    rw (is_came, named, is) all
