-- A look at the activities of a plan: what is passed over is settled, and what is looked at is told.
use Rattle.std.proofs.Common.{◌≡◌, ℕ, ◌+◌, ◌<◌, ◌≤◌, leb, ltb, Bool, true, false, ◌&&◌, List, [], ◌∷◌, ◌++◌, length, get_or, take, drop, map, ◌⊎◌, inl, inr, refl, sym, ◌∙◌, ap, subst, arith, append-nil}
use Rattle.std.specs.Prelude.{All, filter}
use Rattle.std.proofs.Math.Seq.{take-add}
use Rattle.std.proofs.lemmas.Bool.{and_parts, leb-true, le-ltb}
use Rattle.std.proofs.lemmas.List.{map-append, drop-drop, length-drop, take-append-drop}
use Rattle.std.proofs.lemmas.List.Elements.{All-nil, All-head, All-tail, All-weaker, All-append, All-take, All-drop, filter-append}
use Rattle.pl_model.specs.declared.whole.Model.{Model}
use Rattle.pl_plan.specs.declared.activity.Activity.{Activity}
use Rattle.pl_entry.specs.Due.{is_due, is_due_since, start_of}
use Rattle.pl_machine.specs.declared.id_range.IdRange.{IdRange}
use Rattle.pl_machine.specs.declared.period.Period.{Period}
use Rattle.pl_machine.specs.Calm.{StartsNone, next_start, is_settled, IsIn, AreRanges, IsKnown}
use Rattle.pl_machine.specs.Looking.{starts_in, AreBelow, AddsRanges, HasLooked, SeesTo}
use Rattle.pl_machine.proofs.Calm.{next_low, next_calm}
use Rattle.pl_machine.proofs.IdRanges.{in_left, in_right, none_before, ranges_end, ranges_append}
use Rattle.pl_machine.proofs.Settled.{later_settled}

started_before : (model : Model) (p : Period) (a : Activity) → is_settled p.before p.committed a ≡ true → is_due_since model p.before p.moment p.committed a ≡ false
started_before model p a settled =
    let started = leb-true a.start p.before (and_parts (leb a.start p.before) (ltb a.start p.committed) settled).0 in
    let not_later : ltb p.before a.start ≡ false = le-ltb p.before a.start started in
    ap (λ (b : Bool). b && is_due model p.moment p.committed a) not_later

none_starts : (model : Model) (p : Period) (xs : List Activity) → All (λ a. is_settled p.before p.committed a ≡ true) xs → starts_in model p xs ≡ []
none_starts model p [] settled = refl
none_starts model p (a ∷ xs) settled = rw (started_before model p a (All-head (λ (x : Activity). is_settled p.before p.committed x ≡ true) a xs settled)) (none_starts model p xs (All-tail (λ (x : Activity). is_settled p.before p.committed x ≡ true) a xs settled))

starts_append : (model : Model) (p : Period) (xs ys : List Activity) → starts_in model p (xs ++ ys) ≡ starts_in model p xs ++ starts_in model p ys
starts_append model p xs ys =
    ap (map start_of) (filter-append (is_due_since model p.before p.moment p.committed) xs ys)
    ∙ map-append start_of (filter (is_due_since model p.before p.moment p.committed) xs) (filter (is_due_since model p.before p.moment p.committed) ys)

-- what a look has found once all activities are looked at
pub record HasSeen (model : Model) (p : Period) (xs : List Activity) (end : ℕ) (starts : List (ℕ × ℕ)) (ranges : List IdRange) (next : ℕ) : Type 0 where
  pub begun : starts ≡ starts_in model p xs
  pub calm : StartsNone p.moment next xs
  pub known : All (IsKnown p.moment p.committed end ranges) xs
  pub order : AreRanges 0 ranges end

-- nothing starts in a longer list before an earlier moment
calm_weaker : (moment next low : ℕ) (xs : List Activity) → low ≤ next → StartsNone moment next xs → StartsNone moment low xs
calm_weaker moment next low xs le calm = All-weaker (λ (a : Activity). (a.start ≤ moment) ⊎ (next ≤ a.start)) (λ (a : Activity). (a.start ≤ moment) ⊎ (low ≤ a.start)) by xs calm
  where
    by : (a : Activity) → (a.start ≤ moment) ⊎ (next ≤ a.start) → (a.start ≤ moment) ⊎ (low ≤ a.start)
    by a (inl early) = inl early
    by a (inr late) = inr (omega (arith, le, late))

module _ (model : Model) (p : Period) (xs : List Activity) (seen : ℕ) (later : p.before ≤ p.moment) where
  abbrev Settled : Activity → Type 0
  Settled a = is_settled p.before p.committed a ≡ true

  abbrev Told : List IdRange → Activity → Type 0
  Told ranges a = (is_settled p.moment p.committed a ≡ true) ⊎ IsIn ranges a.id

  calm_settled : (next : ℕ) (ys : List Activity) → All Settled ys → StartsNone p.moment next ys
  calm_settled next ys settled =
      All-weaker Settled (λ (a : Activity). (a.start ≤ p.moment) ⊎ (next ≤ a.start))
      (λ a is. inl (let early = leb-true a.start p.before (and_parts (leb a.start p.before) (ltb a.start p.committed) is).0 in omega (arith, early, later))) ys settled

  told_settled : (ranges : List IdRange) (ys : List Activity) → All Settled ys → All (Told ranges) ys
  told_settled ranges ys settled = All-weaker Settled (Told ranges) (λ a is. inl (later_settled p.before p.moment p.committed p.committed a later (omega arith) is)) ys settled

  told_wider : (ranges more : List IdRange) (ys : List Activity) → All (Told ranges) ys → All (Told (ranges ++ more)) ys
  told_wider ranges more ys told = All-weaker (Told ranges) (Told (ranges ++ more)) by ys told
    where
      by : (a : Activity) → Told ranges a → Told (ranges ++ more) a
      by a (inl settled) = inl settled
      by a (inr is) = inr (in_left ranges more a.id is)

  told_further : (ranges more : List IdRange) (ys : List Activity) → All (Told more) ys → All (Told (ranges ++ more)) ys
  told_further ranges more ys told = All-weaker (Told more) (Told (ranges ++ more)) by ys told
    where
      by : (a : Activity) → Told more a → Told (ranges ++ more) a
      by a (inl settled) = inl settled
      by a (inr is) = inr (in_right ranges more a.id is)

  -- nothing is looked at yet
  pub looks_first : (ranges : List IdRange) (next : ℕ) → All (IsKnown p.before p.committed seen ranges) xs → AreRanges 0 ranges seen → HasLooked model p xs seen 0 ranges [] [] next
  looks_first ranges next known order = record {
    within = omega arith;
    begun = refl;
    calm = All-nil (λ (a : Activity). (a.start ≤ p.moment) ⊎ (next ≤ a.start));
    each = All-nil (Told []);
    bound = 0;
    order = omega arith;
    order_left = order;
    known = known;
  }

  module _ (place : ℕ) (left : List IdRange) (starts : List (ℕ × ℕ)) (ranges : List IdRange) (next : ℕ) (looked : HasLooked model p xs seen place left starts ranges next) where
    abbrev done : List Activity
    done = take place xs

    abbrev rest : List Activity
    rest = drop place xs

    further : (n : ℕ) → take (place + n) xs ≡ done ++ take n rest
    further n = take-add place n xs

    behind : (n : ℕ) → drop (place + n) xs ≡ drop n rest
    behind n = sym (drop-drop n place xs)

    within_both : (n : ℕ) → n ≤ length rest → place + n ≤ length xs
    within_both n le = let first = looked.within in omega (arith, le, first, length-drop place xs)

    -- those that are settled are passed over
    pub looks_past : (n : ℕ) → n ≤ length rest → All Settled (take n rest) → HasLooked model p xs seen (place + n) left starts ranges next
    looks_past n le settled = record {
      within = within_both n le;
      begun = looked.begun ∙ sym (append-nil (starts_in model p done)) ∙ ap (λ (l : List (ℕ × ℕ)). starts_in model p done ++ l) (sym (none_starts model p (take n rest) settled)) ∙ sym (starts_append model p done (take n rest)) ∙ ap (starts_in model p) (sym (further n));
      calm = subst (StartsNone p.moment next) (sym (further n)) (All-append (λ (a : Activity). (a.start ≤ p.moment) ⊎ (next ≤ a.start)) done (take n rest) looked.calm (calm_settled next (take n rest) settled));
      each = subst (All (Told ranges)) (sym (further n)) (All-append (Told ranges) done (take n rest) looked.each (told_settled ranges (take n rest) settled));
      bound = looked.bound;
      order = looked.order;
      order_left = looked.order_left;
      known = subst (All (IsKnown p.before p.committed seen left)) (sym (behind n)) (All-drop (IsKnown p.before p.committed seen left) n rest looked.known);
    }

  -- those before the next range are settled
  before_range : (r : IdRange) (left : List IdRange) (bound : ℕ) (ys : List Activity) → AreRanges bound (r ∷ left) seen → All (IsKnown p.before p.committed seen (r ∷ left)) ys → All (λ a. a.id < r.from) ys → All Settled ys
  before_range r left bound ys (le, within, more) known below = λ k d lt. by (get_or ys k d) (known k d lt) (below k d lt)
    where
      by : (a : Activity) → IsKnown p.before p.committed seen (r ∷ left) a → a.id < r.from → Settled a
      by a (inl settled) low = settled
      by a (inr (inl unseen)) low = absurd (let end = ranges_end r.to seen left more in omega (arith, unseen, low, within, end))
      by a (inr (inr is)) low = absurd (none_before r.from seen a.id (r ∷ left) (omega arith, within, more) low is)

  -- those that are seen are settled, once no range is left
  before_seen : (ys : List Activity) → All (IsKnown p.before p.committed seen []) ys → All (λ a. a.id < seen) ys → All Settled ys
  before_seen ys known below = λ k d lt. by (get_or ys k d) (known k d lt) (below k d lt)
    where
      by : (a : Activity) → IsKnown p.before p.committed seen [] a → a.id < seen → Settled a
      by a (inl settled) low = settled
      by a (inr (inl unseen)) low = absurd (omega (arith, unseen, low))
      by a (inr (inr is)) low = absurd is

  pub looks_to_range : (place : ℕ) (r : IdRange) (left : List IdRange) (starts : List (ℕ × ℕ)) (ranges : List IdRange) (next n : ℕ) → HasLooked model p xs seen place (r ∷ left) starts ranges next → AreBelow r.from n (drop place xs)
      → HasLooked model p xs seen (place + n) (r ∷ left) starts ranges next
  looks_to_range place r left starts ranges next n looked below =
      looks_past place (r ∷ left) starts ranges next looked n below.few
      (before_range r left looked.bound (take n (drop place xs)) looked.order_left (All-take (IsKnown p.before p.committed seen (r ∷ left)) n (drop place xs) looked.known) below.front)

  pub looks_to_seen : (place : ℕ) (starts : List (ℕ × ℕ)) (ranges : List IdRange) (next n : ℕ) → HasLooked model p xs seen place [] starts ranges next → AreBelow seen n (drop place xs)
      → HasLooked model p xs seen (place + n) [] starts ranges next
  looks_to_seen place starts ranges next n looked below =
      looks_past place [] starts ranges next looked n below.few (before_seen (take n (drop place xs)) (All-take (IsKnown p.before p.committed seen []) n (drop place xs) looked.known) below.front)

  -- the activities of a range are looked at
  pub looks_in_range : (place : ℕ) (r : IdRange) (left : List IdRange) (starts : List (ℕ × ℕ)) (ranges ranges2 : List IdRange) (next n : ℕ) → HasLooked model p xs seen place (r ∷ left) starts ranges next → AreBelow r.to n (drop place xs)
      → AddsRanges p r.from (take n (drop place xs)) ranges ranges2
      → HasLooked model p xs seen (place + n) left (starts ++ starts_in model p (take n (drop place xs))) ranges2 (next_start p.moment next (take n (drop place xs)))
  looks_in_range place r left starts ranges ranges2 next n looked below adds =
      let first = looked.order_left in
      let within = first.1 in
      let next2 = next_start p.moment next part in
      record {
        within = within_both place (r ∷ left) starts ranges next looked n below.few;
        begun = ap (λ (l : List (ℕ × ℕ)). l ++ starts_in model p part) looked.begun ∙ sym (starts_append model p (take place xs) part) ∙ ap (starts_in model p) (sym there);
        calm = subst (StartsNone p.moment next2) (sym there)
            (All-append (λ (a : Activity). (a.start ≤ p.moment) ⊎ (next2 ≤ a.start)) (take place xs) part (calm_weaker p.moment next next2 (take place xs) (next_low p.moment next part) looked.calm) (next_calm p.moment next part));
        each = subst (All (Told ranges2)) (sym there)
            (All-append (Told ranges2) (take place xs) part
            (subst (λ l. All (Told l) (take place xs)) (sym adds.is) (told_wider ranges adds.more (take place xs) looked.each))
            (subst (λ l. All (Told l) part) (sym adds.is) (told_further ranges adds.more part adds.each)));
        bound = r.to;
        order = subst (λ l. AreRanges 0 l r.to) (sym adds.is) (ranges_append 0 looked.bound r.from r.to ranges adds.more looked.order first.0 (adds.order r.to within below.front));
        order_left = first.2;
        known = subst (All (IsKnown p.before p.committed seen left)) (sym (behind place (r ∷ left) starts ranges next looked n)) left_known;
      }
    where
      part : List Activity
      part = take n (drop place xs)

      there : take (place + n) xs ≡ take place xs ++ part
      there = further place (r ∷ left) starts ranges next looked n

      by : (a : Activity) → IsKnown p.before p.committed seen (r ∷ left) a → r.to ≤ a.id → IsKnown p.before p.committed seen left a
      by a (inl settled) high = inl settled
      by a (inr (inl unseen)) high = inr (inl unseen)
      by a (inr (inr (inl here))) high = absurd (let low = here.1 in omega (arith, low, high))
      by a (inr (inr (inr more))) high = inr (inr more)

      left_known : All (IsKnown p.before p.committed seen left) (drop n (drop place xs))
      left_known = λ k d lt. by (get_or (drop n (drop place xs)) k d) (All-drop (IsKnown p.before p.committed seen (r ∷ left)) n (drop place xs) looked.known k d lt) (below.rest k d lt)

  -- ---- the activities behind what was seen

  module _ (place end next_id : ℕ) (starts starts2 : List (ℕ × ℕ)) (ranges ranges2 : List IdRange) (next next2 : ℕ) (looked : HasLooked model p xs seen place [] starts ranges next)
      (begun : starts2 ≡ starts ++ starts_in model p (drop place xs)) (nearest : next2 ≡ next_start p.moment next (drop place xs)) (sees : SeesTo p seen next_id end (drop place xs) ranges ranges2) where
    all : take place xs ++ drop place xs ≡ xs
    all = take-append-drop place xs

    whole_starts : starts2 ≡ starts_in model p xs
    whole_starts = begun ∙ ap (λ (l : List (ℕ × ℕ)). l ++ starts_in model p (drop place xs)) looked.begun ∙ sym (starts_append model p (take place xs) (drop place xs)) ∙ ap (starts_in model p) all

    whole_calm : StartsNone p.moment next2 xs
    whole_calm =
        subst (λ n. StartsNone p.moment n xs) (sym nearest)
        (subst (StartsNone p.moment (next_start p.moment next (drop place xs))) all
        (All-append (λ (a : Activity). (a.start ≤ p.moment) ⊎ (next_start p.moment next (drop place xs) ≤ a.start)) (take place xs) (drop place xs)
        (calm_weaker p.moment next (next_start p.moment next (drop place xs)) (take place xs) (next_low p.moment next (drop place xs)) looked.calm) (next_calm p.moment next (drop place xs))))

    whole_order : AreRanges 0 ranges2 end
    whole_order = subst (λ l. AreRanges 0 l end) (sym sees.is) (ranges_append 0 looked.bound seen end ranges sees.more looked.order looked.order_left sees.order)

    front : (a : Activity) → Told ranges a → IsKnown p.moment p.committed end (ranges ++ sees.more) a
    front a (inl settled) = inl settled
    front a (inr is) = inr (inr (in_left ranges sees.more a.id is))

    back : (a : Activity) → IsKnown p.moment p.committed end sees.more a → IsKnown p.moment p.committed end (ranges ++ sees.more) a
    back a (inl settled) = inl settled
    back a (inr (inl unseen)) = inr (inl unseen)
    back a (inr (inr is)) = inr (inr (in_right ranges sees.more a.id is))

    whole_known : All (IsKnown p.moment p.committed end ranges2) xs
    whole_known =
        subst (λ l. All (IsKnown p.moment p.committed end l) xs) (sym sees.is)
        (subst (All (IsKnown p.moment p.committed end (ranges ++ sees.more))) all
        (All-append (IsKnown p.moment p.committed end (ranges ++ sees.more)) (take place xs) (drop place xs)
        (All-weaker (Told ranges) (IsKnown p.moment p.committed end (ranges ++ sees.more)) front (take place xs) looked.each)
        (All-weaker (IsKnown p.moment p.committed end sees.more) (IsKnown p.moment p.committed end (ranges ++ sees.more)) back (drop place xs) sees.each)))

    looks_all : HasSeen model p xs end starts2 ranges2 next2
    looks_all = record { begun = whole_starts; calm = whole_calm; known = whole_known; order = whole_order }

  -- what is seen is passed over, and the others are looked at
  pub seen_all : (place k end next_id : ℕ) (others rest : List Activity) (starts starts2 : List (ℕ × ℕ)) (ranges ranges2 : List IdRange) (next next2 : ℕ) → HasLooked model p xs seen place [] starts ranges next
      → others ≡ drop place xs → AreBelow seen k others → rest ≡ drop k others → starts2 ≡ starts ++ starts_in model p rest → next2 ≡ next_start p.moment next rest → SeesTo p seen next_id end rest ranges ranges2
      → HasSeen model p xs end starts2 ranges2 next2
  seen_all place k end next_id others rest starts starts2 ranges ranges2 next next2 looked first below second begun nearest sees =
      let there : rest ≡ drop (place + k) xs = second ∙ ap (drop k) first ∙ drop-drop k place xs in
      looks_all (place + k) end next_id starts starts2 ranges ranges2 next next2 (looks_to_seen place starts ranges next k looked (subst (AreBelow seen k) first below))
      (begun ∙ ap (λ (l : List Activity). starts ++ starts_in model p l) there) (nearest ∙ ap (next_start p.moment next) there) (subst (λ l. SeesTo p seen next_id end l ranges ranges2) there sees)
