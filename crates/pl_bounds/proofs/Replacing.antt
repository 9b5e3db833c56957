-- What a replacement leaves of other activities: their ends, that their links find no partner, and the orders of their children.
use Rattle.std.proofs.Common.{◌≡◌, ℕ, eqb, ltb, Bool, true, false, List, [], ◌∷◌, map, find, Option, Some, None, refl, sym, ap, ◌∙◌, subst}
use Rattle.std.specs.Prelude.{◌&&◌, All, not, is_some, option_and_then}
use Rattle.std.specs.List.{list_any}
use Rattle.std.specs.Option.{option_map}
use Rattle.std.proofs.lemmas.Bool.{eqb-true, false_from_ne_true, or_from}
use Rattle.std.proofs.lemmas.List.Elements.{All-head, All-tail, All-weaker}
use Rattle.std.proofs.Math.Bool.{and-false}
use Rattle.pl_lists.proofs.Tests.{or_first_false, or_second_false}
use Rattle.pl_links.specs.declared.placed.Placed.{Placed}
use Rattle.pl_links.specs.Broken.{moment_of, are_apart, is_partner, lacks_partner, moment_in, are_misplaced, is_unmet}
use Rattle.pl_links.specs.Items as links
use Rattle.pl_model.specs.declared.alternatives.Order.{Order}
use Rattle.pl_model.specs.declared.links.Link.{Link}
use Rattle.pl_model.specs.declared.reservations.Point.{Point}
use Rattle.pl_plan.specs.declared.activity.Activity.{Activity}
use Rattle.pl_plan.specs.Activities.{activity_of, IsLive}
use Rattle.pl_plan.specs.Firm.{end_in, end_of}
use Rattle.pl_plan.specs.Fitting.{fills}
use Rattle.pl_plan.specs.Trees.{id_of}
use Rattle.pl_plan.specs.Values.{Row, values_of}
use Rattle.pl_plan.proofs.Kept.{each_found}
use Rattle.pl_semantics.specs.declared.plan_state.PlanState.{PlanState}
use Rattle.pl_semantics.specs.PlanStates.{among, end_at, found, of_found}
use Rattle.pl_semantics.specs.Whole.{IsWhole}
use Rattle.pl_semantics.specs.Links.{placed_of, placed_in, place_in, order_at, unmet_from, unmet_order}
use Rattle.pl_detect.proofs.Stored.{child_is}
use Rattle.pl_update.specs.Changes.Replaced.{CanReplace, touched, with_plan}
use Rattle.pl_update.specs.Links.Telling.{all_without}
use Rattle.pl_update.specs.Links.Placing.{all_with}
use Rattle.pl_update.proofs.AboutChanges.Finding.{found-replaced}
use Rattle.pl_update.proofs.AboutChanges.Putting.{puttable}
use Rattle.pl_update.proofs.AboutEvaluations.Keeping.{among_neither, not_there}
use Rattle.pl_update.proofs.AboutLinks.Lookups.{Fails, find-replaced}
use Rattle.pl_update.proofs.AboutLinks.Storing.{put_placed}
use Rattle.pl_bounds.proofs.Breaking.{StayUnmet}

-- ---- lists of placed activities of which none passes a test

module _ (f : Placed → Bool) where
  none_with : (p : Placed) (xs : List Placed) → f p ≡ false → list_any f xs ≡ false → list_any f (links.with_item p xs) ≡ false
  none_with p [] fails none = or_from (f p) false fails refl
  none_with p (x ∷ xs) fails none = by (ltb x.id p.id) refl (none_with p xs fails (or_second_false (f x) (list_any f xs) none))
    where
      by : (b : Bool) → ltb x.id p.id ≡ b → list_any f (links.with_item p xs) ≡ false → list_any f (links.with_item p (x ∷ xs)) ≡ false
      by true lt more = rw lt (or_from (f x) (list_any f (links.with_item p xs)) (or_first_false (f x) (list_any f xs) none) more)
      by false lt more = rw lt (or_from (f p) (list_any f (x ∷ xs)) fails none)

  none_without : (id : ℕ) (xs : List Placed) → list_any f xs ≡ false → list_any f (links.without id xs) ≡ false
  none_without id [] none = refl
  none_without id (x ∷ xs) none = by (eqb x.id id) refl (none_without id xs (or_second_false (f x) (list_any f xs) none))
    where
      by : (b : Bool) → eqb x.id id ≡ b → list_any f (links.without id xs) ≡ false → list_any f (links.without id (x ∷ xs)) ≡ false
      by true e more = rw e (or_second_false (f x) (list_any f xs) none)
      by false e more = rw e (or_from (f x) (list_any f (links.without id xs)) (or_first_false (f x) (list_any f xs) none) more)

  none_taken : (gone : List ℕ) (xs : List Placed) → list_any f xs ≡ false → list_any f (all_without gone xs) ≡ false
  none_taken [] xs none = none
  none_taken (g ∷ gone) xs none = none_taken gone (links.without g xs) (none_without g xs none)

  none_put : (t : PlanState) (more : List Activity) (xs : List Placed) → All (λ (m : Activity). f (placed_of t m) ≡ false) more → list_any f xs ≡ false → list_any f (all_with t more xs) ≡ false
  none_put t [] xs fail none = none
  none_put t (m ∷ more) xs fail none =
      none_put t more (links.with_item (placed_of t m) xs) (All-tail (λ (a : Activity). f (placed_of t a) ≡ false) m more fail)
      (none_with (placed_of t m) xs (All-head (λ (a : Activity). f (placed_of t a) ≡ false) m more fail) none)

-- ---- what is found passes

found_passes : (f : Activity → Bool) (P : Activity → Type 0) (xs : List Activity) → All P xs → (y : Activity) → find f xs ≡ Some y → P y × (f y ≡ true)
found_passes f P [] all y e = absurd (cc)
found_passes f P (x ∷ xs) all y e = by (f x) refl (found_passes f P xs (All-tail P x xs all) y)
  where
    by : (b : Bool) → f x ≡ b → (find f xs ≡ Some y → P y × (f y ≡ true)) → P y × (f y ≡ true)
    by true passes more = let here : Some x ≡ Some y = rw passes at e in let is : x ≡ y = cc in (subst P is (All-head P x xs all), ap f (sym is) ∙ passes)
    by false fails more = more (rw fails at e)

-- ---- a replacement

module _ (s : PlanState) (gone : List ℕ) (more : List Activity) (whole : IsWhole s) (can : CanReplace s gone more) where
  abbrev xs : List Activity
  xs = s.plan.activities

  abbrev t : PlanState
  t = with_plan gone more s

  apart_parts : (id : ℕ) → among id gone ≡ false → among id (map id_of more) ≡ false → among id (touched gone more) ≡ false
  apart_parts id left away = among_neither id gone (map id_of more) left away

  pub found_same : (id : ℕ) → among id gone ≡ false → among id (map id_of more) ≡ false → found t id ≡ found s id
  found_same id left away = found-replaced xs gone more id whole.rising (puttable xs gone more whole.rising can.once can.free) ∙ rw (not_there id more away, left) refl

  end_same : (id : ℕ) → among id gone ≡ false → among id (map id_of more) ≡ false → end_of s.model t.plan.activities id ≡ end_of s.model xs id
  unfolding end_of
  end_same id left away =
      ap (λ (o : Option Activity). end_in s.model o (values_of s.model t.plan.activities id)) (found_same id left away)
      ∙ ap (λ (r : Row). end_in s.model (found s id) r) (can.kept id (apart_parts id left away))

  pub placed_same : (a : Activity) → among a.id gone ≡ false → among a.id (map id_of more) ≡ false → placed_of t a ≡ placed_of s a
  placed_same a left away = ap (λ (end : Option ℕ). record { id = a.id; kind = a.kind; start = a.start; end = end; parent = a.parent; detail = a.detail }) (end_same a.id left away)

  -- ---- partners

  -- one of another kind is no partner
  no_partner : (l : Link) (own : Placed) (m : Activity) → eqb m.kind l.kind ≡ false → is_partner l own (placed_of t m) ≡ false
  no_partner l own m other =
      ap (λ (b : Bool). not (eqb m.id own.id) && (b && are_apart l.low l.high (moment_of l.mine own) (moment_of l.theirs (placed_of t m)))) other
      ∙ and-false (not (eqb m.id own.id))

  no_partners : (l : Link) (own : Placed) → All (λ (m : Activity). eqb m.kind l.kind ≡ false) more → list_any (is_partner l own) (placed_in s) ≡ false → list_any (is_partner l own) (placed_in t) ≡ false
  no_partners l own others none =
      subst (λ (ps : List Placed). list_any (is_partner l own) ps ≡ false) (put_placed s gone more whole can)
      (none_put (is_partner l own) t more (all_without gone (placed_in s)) (All-weaker (λ (m : Activity). eqb m.kind l.kind ≡ false) (λ (m : Activity). is_partner l own (placed_of t m) ≡ false) (no_partner l own) more others)
      (none_taken (is_partner l own) gone (placed_in s) none))

  lonely_parts : (a b : Bool) → (a && not b) ≡ true → (a ≡ true) × (b ≡ false)
  lonely_parts true false e = (refl, refl)
  lonely_parts true true e = absurd (cc)
  lonely_parts false b e = absurd (cc)

  pub lacks_still : (a : Activity) (l : Link) → among a.id gone ≡ false → among a.id (map id_of more) ≡ false → All (λ (m : Activity). eqb m.kind l.kind ≡ false) more → lacks_partner (placed_in s) (placed_of s a) l ≡ true → lacks_partner (placed_in t) (placed_of t a) l ≡ true
  lacks_still a l left away others lacks =
      let both = lonely_parts (is_some (end_at s a)) (list_any (is_partner l (placed_of s a)) (placed_in s)) lacks in
      let none : list_any (is_partner l (placed_of s a)) (placed_in t) ≡ false = no_partners l (placed_of s a) others both.1 in
      subst (λ (own : Placed). lacks_partner (placed_in t) own l ≡ true) (sym (placed_same a left away))
      (ap (λ (b : Bool). is_some (end_at s a) && not b) none ∙ ap (λ (b : Bool). b && true) both.0)

  -- ---- children of one activity, of which none goes or comes

  module _ (a : Activity) (left : among a.id gone ≡ false) (away : among a.id (map id_of more) ≡ false)
      (stay : (slot : ℕ) → All (Fails (fills a.id slot) xs) gone) (come : (slot : ℕ) → All (λ (m : Activity). fills a.id slot m ≡ false) more) where
    child_found : (slot : ℕ) → find (fills a.id slot) t.plan.activities ≡ find (fills a.id slot) xs
    child_found slot = find-replaced (fills a.id slot) xs gone more whole.rising (stay slot) (come slot)

    -- one that is in a slot goes neither away nor comes
    child_left : (slot : ℕ) (y : Activity) → found s y.id ≡ Some y → fills a.id slot y ≡ true → among y.id gone ≡ false
    child_left slot y live in_slot = false_from_ne_true (among y.id gone) (λ h. absurd (let no : fills a.id slot y ≡ false = fails gone (stay slot) h in let bad : true ≡ false = sym in_slot ∙ no in cc))
      where
        fails : (ids : List ℕ) → All (Fails (fills a.id slot) xs) ids → among y.id ids ≡ true → fills a.id slot y ≡ false
        fails [] all h = absurd (cc)
        fails (i ∷ ids) all h = by (eqb i y.id) refl (fails ids (All-tail (Fails (fills a.id slot) xs) i ids all))
          where
            by : (b : Bool) → eqb i y.id ≡ b → (among y.id ids ≡ true → fills a.id slot y ≡ false) → fills a.id slot y ≡ false
            by true e rest = All-head (Fails (fills a.id slot) xs) i ids all y (ap (λ (n : ℕ). activity_of n xs) (eqb-true i y.id e) ∙ live)
            by false e rest = rest (rw e at h)

    live_by : (y : Activity) → found s y.id ≡ Some y → IsLive y.id xs
    live_by y live = rw live refl

    child_away : (y : Activity) → found s y.id ≡ Some y → among y.id gone ≡ false → among y.id (map id_of more) ≡ false
    child_away y live left_there = false_from_ne_true (among y.id (map id_of more)) (λ h. absurd (let goes : among y.id gone ≡ true = comes more can.free h in let bad : true ≡ false = sym goes ∙ left_there in cc))
      where
        comes : (ms : List Activity) → All (λ (m : Activity). IsLive m.id xs → among m.id gone ≡ true) ms → among y.id (map id_of ms) ≡ true → among y.id gone ≡ true
        comes [] all h = absurd (cc)
        comes (m ∷ ms) all h = by (eqb m.id y.id) refl (comes ms (All-tail (λ (x : Activity). IsLive x.id xs → among x.id gone ≡ true) m ms all))
          where
            by : (b : Bool) → eqb m.id y.id ≡ b → (among y.id (map id_of ms) ≡ true → among y.id gone ≡ true) → among y.id gone ≡ true
            by true e rest =
                let is : m.id ≡ y.id = eqb-true m.id y.id e in
                subst (λ (n : ℕ). among n gone ≡ true) is (All-head (λ (x : Activity). IsLive x.id xs → among x.id gone ≡ true) m ms all (subst (λ (n : ℕ). IsLive n xs) (sym is) (live_by y live)))
            by false e rest = rest (rw e at h)

    child_same : (slot : ℕ) → links.child_of a.id slot (placed_in t) ≡ links.child_of a.id slot (placed_in s)
    child_same slot = child_is t a.id slot t.plan.activities ∙ (ap (option_map (placed_of t)) (child_found slot) ∙ (by (find (fills a.id slot) xs) refl ∙ sym (child_is s a.id slot xs)))
      where
        by : (o : Option Activity) → find (fills a.id slot) xs ≡ o → option_map (placed_of t) o ≡ option_map (placed_of s) o
        by None e = refl
        by (Some y) e =
            let is = found_passes (fills a.id slot) (λ (z : Activity). found s z.id ≡ Some z) xs (each_found xs whole.rising) y e in
            let left_there = child_left slot y is.0 is.1 in
            ap (λ (p : Placed). Some p) (placed_same y left_there (child_away y is.0 left_there))

    moment_same : (o : Option ℕ) (point : Point) → moment_in (placed_in t) (placed_of t a) o point ≡ moment_in (placed_in s) (placed_of s a) o point
    moment_same None point = ap (moment_of point) (placed_same a left away)
    moment_same (Some slot) point = ap (option_and_then (moment_of point)) (child_same slot)

    unmet_same : (o : Order) → is_unmet (placed_in t) (placed_of t a) o ≡ is_unmet (placed_in s) (placed_of s a) o
    unmet_same o =
        ap (λ (m : Option ℕ). are_misplaced o.low o.high m (moment_in (placed_in t) (placed_of t a) o.second o.second_end)) (moment_same o.first o.first_end)
        ∙ ap (are_misplaced o.low o.high (moment_in (placed_in s) (placed_of s a) o.first o.first_end)) (moment_same o.second o.second_end)

    place_same : (o : Option ℕ) → place_in t a o ≡ place_in s a o
    place_same None = refl
    place_same (Some slot) = child_found slot

    told_by : (j : ℕ) (o : Option Order) → of_found (unmet_order t a j) o ≡ of_found (unmet_order s a j) o
    told_by j None = refl
    told_by j (Some o) =
        ap (λ (first : Option Activity). unmet_from t a j first (place_in t a o.second)) (place_same o.first)
        ∙ ap (unmet_from s a j (place_in s a o.first)) (place_same o.second)

    pub unmet_still : StayUnmet s t a
    unmet_still = record {
      unmet = λ o e. unmet_same o ∙ e;
      told = λ j. told_by j (order_at s a j);
    }
