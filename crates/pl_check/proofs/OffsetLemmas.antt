-- The least solution of an alternative's network is the least schedule of the alternative.
use Rattle.std.proofs.Common.{◌≡◌, ℕ, zero, suc, ◌+◌, ◌*◌, ◌-◌, ◌<◌, ◌≤◌, ℤ, pos, neg_ℤ, ◌-ℤ◌, ◌≤ℤ◌, ◌⊎◌, inl, inr, List, [], ◌∷◌, ◌++◌, Option, Some, None, All, Contains, length, get_or, slice_get, refl, sym, ap, subst, ◌∙◌, arith}
use Rattle.std.proofs.lemmas.Int.{ints}
use Rattle.std.proofs.lemmas.Bool.{cases_lt}
use Rattle.std.proofs.lemmas.List.Elements.{All-nil, All-cons, All-head, All-tail, All-append, All-weaker, All-contains, All-contains_itself, Contains-append_left, Contains-append_right}
use Rattle.std.proofs.lemmas.Option.{slice_get_within}
use Rattle.pl_model.specs.declared.reservations.Point.{Point}
use Rattle.pl_model.specs.declared.reservations.Point.TheVariants as point
use Rattle.pl_model.specs.declared.alternatives.Slot.{Slot}
use Rattle.pl_model.specs.declared.alternatives.Order.{Order}
use Rattle.pl_model.specs.declared.alternatives.Alternative.{Alternative}
use Rattle.pl_model.specs.Schedules.{Moments, IsPlace, IsApart, IsInOrder, IsSchedule, HasLeastOffsets}
use Rattle.pl_stn.specs.declared.net.Edge.{Edge}
use Rattle.pl_stn.specs.Nets.{edges_to_origin, time_of, Meets, IsSolution, IsLeast}
use Rattle.pl_check.specs.declared.drafts.DraftAlternative.{DraftAlternative}
use Rattle.pl_check.specs.Networks.{slot_span, apart, point_of, distance_edges, slots_edges, order_edges, orders_edges, parent_edges, net_of, FinishesAlternative}
use Rattle.pl_check.proofs.PairLemmas.{all_both}

module _ {X : Type 0} (P : X → Type 0) (xs ys : List X) where
  all_left : All P (xs ++ ys) → All P xs
  all_left l = All-weaker (Contains xs) P (λ b c. All-contains P (xs ++ ys) b l (Contains-append_left xs ys b c)) xs (All-contains_itself xs)

  all_right : All P (xs ++ ys) → All P ys
  all_right l = All-weaker (Contains ys) P (λ b c. All-contains P (xs ++ ys) b l (Contains-append_right xs ys b c)) ys (All-contains_itself ys)

-- when a network's points lie
abbrev at : List ℤ → Moments
at times p end = time_of times (point_of p end)

module _ (times : List ℤ) where
  abbrev AreMet : List Edge → Type 0
  AreMet edges = All (Meets times) edges

  -- ---- one distance

  distance_met : (from to : ℕ) (low high : ℤ) → AreMet (distance_edges from to low high) → IsApart (low, high) (time_of times from) (time_of times to)
  distance_met from to low high h =
      let most = All-head (Meets times) (apart from to high) (apart to from (neg_ℤ low) ∷ []) h in
      let least = All-head (Meets times) (apart to from (neg_ℤ low)) [] (All-tail (Meets times) (apart from to high) (apart to from (neg_ℤ low) ∷ []) h) in
      (omega (arith, ints, least), omega (arith, ints, most))

  met_distance : (from to : ℕ) (low high : ℤ) → IsApart (low, high) (time_of times from) (time_of times to) → AreMet (distance_edges from to low high)
  met_distance from to low high h =
      let most : Meets times (apart from to high) = omega (arith, ints, h.1) in
      let least : Meets times (apart to from (neg_ℤ low)) = omega (arith, ints, h.0) in
      All-cons (Meets times) (apart from to high) (apart to from (neg_ℤ low) ∷ []) most (All-cons (Meets times) (apart to from (neg_ℤ low)) [] least (All-nil (Meets times)))

  -- ---- nothing before the origin

  after_met : (m : ℕ) → time_of times 0 ≡ pos 0 → AreMet (edges_to_origin m) → (q : ℕ) → q ≤ m → pos 0 ≤ℤ time_of times q
  after_met zero origin h q le = let same : q ≡ 0 = omega (arith, le) in subst (λ p. pos 0 ≤ℤ time_of times p) (sym same) (omega (arith, ints, origin))
  after_met (suc m) origin h q le =
      let last : Edge = record { from = suc m; to = 0; most = pos 0 } in
      let met : Meets times last = All-head (Meets times) last [] (all_right (Meets times) (edges_to_origin m) (last ∷ []) h) in
      by (cases_lt q (suc m)) (λ below. after_met m origin (all_left (Meets times) (edges_to_origin m) (last ∷ []) h) q (omega (arith, below)))
      (λ above. let same : q ≡ suc m = omega (arith, le, above) in subst (λ p. pos 0 ≤ℤ time_of times p) (sym same) (omega (arith, ints, origin, met)))
    where
      by : (q < suc m) ⊎ (suc m ≤ q) → (q < suc m → pos 0 ≤ℤ time_of times q) → (suc m ≤ q → pos 0 ≤ℤ time_of times q) → pos 0 ≤ℤ time_of times q
      by (inl x) f g = f x
      by (inr x) f g = g x

  met_after : (m : ℕ) → time_of times 0 ≡ pos 0 → ((q : ℕ) → q ≤ m → pos 0 ≤ℤ time_of times q) → AreMet (edges_to_origin m)
  met_after zero origin f = All-nil (Meets times)
  met_after (suc m) origin f =
      let last : Meets times (record { from = suc m; to = 0; most = pos 0 }) = omega (arith, ints, origin, f (suc m) (omega arith)) in
      All-append (Meets times) (edges_to_origin m) (record { from = suc m; to = 0; most = pos 0 } ∷ []) (met_after m origin (λ q le. f q (omega (arith, le)))) (All-cons (Meets times) (record { from = suc m; to = 0; most = pos 0 }) [] last (All-nil (Meets times)))

  -- ---- slots

  abbrev LastsAt : List (ℤ × ℤ) → ℕ → ℕ → Slot → Type 0
  LastsAt spans start i s = IsApart (slot_span spans s) (time_of times (start + 2 * i)) (time_of times (start + 2 * i + 1))

  slots_met : (spans : List (ℤ × ℤ)) (start : ℕ) (slots : List Slot) → AreMet (slots_edges spans start slots) → (i : ℕ) (s : Slot) → slice_get slots i ≡ Some s → LastsAt spans start i s
  slots_met spans start [] h i s e = absurd (cc)
  slots_met spans start (x ∷ slots) h zero s e =
      let same : x ≡ s = cc in
      let mine = distance_met start (start + 1) (slot_span spans x).0 (slot_span spans x).1 (all_left (Meets times) (distance_edges start (start + 1) (slot_span spans x).0 (slot_span spans x).1) (slots_edges spans (start + 2) slots) h) in
      subst (LastsAt spans start 0) same (subst (λ p. IsApart (slot_span spans x) (time_of times p) (time_of times (p + 1))) (omega arith) mine)
  slots_met spans start (x ∷ slots) h (suc i) s e =
      let rest = slots_met spans (start + 2) slots (all_right (Meets times) (distance_edges start (start + 1) (slot_span spans x).0 (slot_span spans x).1) (slots_edges spans (start + 2) slots) h) i s e in
      subst (λ p. IsApart (slot_span spans s) (time_of times p) (time_of times (p + 1))) (omega arith) rest

  met_slots : (spans : List (ℤ × ℤ)) (start : ℕ) (slots : List Slot) → ((i : ℕ) (s : Slot) → slice_get slots i ≡ Some s → LastsAt spans start i s) → AreMet (slots_edges spans start slots)
  met_slots spans start [] f = All-nil (Meets times)
  met_slots spans start (x ∷ slots) f =
      let mine : IsApart (slot_span spans x) (time_of times start) (time_of times (start + 1)) = subst (λ p. IsApart (slot_span spans x) (time_of times p) (time_of times (p + 1))) (omega arith) (f 0 x refl) in
      All-append (Meets times) (distance_edges start (start + 1) (slot_span spans x).0 (slot_span spans x).1) (slots_edges spans (start + 2) slots)
      (met_distance start (start + 1) (slot_span spans x).0 (slot_span spans x).1 mine)
      (met_slots spans (start + 2) slots (λ i s e. subst (λ p. IsApart (slot_span spans s) (time_of times p) (time_of times (p + 1))) (omega arith) (f (suc i) s e)))

  -- ---- orders

  orders_met : (orders : List Order) → AreMet (orders_edges orders) → All (IsInOrder (at times)) orders
  orders_met [] h = All-nil (IsInOrder (at times))
  orders_met (o ∷ orders) h =
      All-cons (IsInOrder (at times)) o orders
      (distance_met (point_of o.first o.first_end) (point_of o.second o.second_end) o.low o.high (all_left (Meets times) (order_edges o) (orders_edges orders) h))
      (orders_met orders (all_right (Meets times) (order_edges o) (orders_edges orders) h))

  met_orders : (orders : List Order) → All (IsInOrder (at times)) orders → AreMet (orders_edges orders)
  met_orders [] h = All-nil (Meets times)
  met_orders (o ∷ orders) h =
      All-append (Meets times) (order_edges o) (orders_edges orders)
      (met_distance (point_of o.first o.first_end) (point_of o.second o.second_end) o.low o.high (All-head (IsInOrder (at times)) o orders h))
      (met_orders orders (All-tail (IsInOrder (at times)) o orders h))

-- ---- the times of a schedule

-- of so many slots from this one on
abbrev slot_times : Moments → ℕ → ℕ → List ℤ
slot_times m i zero = []
slot_times m i (suc n) = m (Some i) point.Start ∷ m (Some i) point.End ∷ slot_times m (suc i) n

abbrev times_in : Moments → ℕ → List ℤ
times_in m n = m None point.Start ∷ m None point.End ∷ slot_times m 0 n

slot_times_many : (m : Moments) (i n : ℕ) → length (slot_times m i n) ≡ 2 * n
slot_times_many m i zero = omega arith
slot_times_many m i (suc n) = omega (arith, slot_times_many m (suc i) n)

slot_start : (m : Moments) (i n j : ℕ) → j < n → get_or (slot_times m i n) (2 * j) (pos 0) ≡ m (Some (i + j)) point.Start
slot_start m i zero j lt = absurd (omega (arith, lt))
slot_start m i (suc n) zero lt = ap (λ k. m (Some k) point.Start) (let e : i ≡ i + 0 = omega arith in e)
slot_start m i (suc n) (suc j) lt =
    let place : 2 * suc j ≡ suc (suc (2 * j)) = omega arith in
    let number : suc i + j ≡ i + suc j = omega arith in
    ap (λ p. get_or (slot_times m i (suc n)) p (pos 0)) place ∙ slot_start m (suc i) n j (omega (arith, lt)) ∙ ap (λ k. m (Some k) point.Start) number

slot_end : (m : Moments) (i n j : ℕ) → j < n → get_or (slot_times m i n) (2 * j + 1) (pos 0) ≡ m (Some (i + j)) point.End
slot_end m i zero j lt = absurd (omega (arith, lt))
slot_end m i (suc n) zero lt = ap (λ k. m (Some k) point.End) (let e : i ≡ i + 0 = omega arith in e)
slot_end m i (suc n) (suc j) lt =
    let place : 2 * suc j + 1 ≡ suc (suc (2 * j + 1)) = omega arith in
    let number : suc i + j ≡ i + suc j = omega arith in
    ap (λ p. get_or (slot_times m i (suc n)) p (pos 0)) place ∙ slot_end m (suc i) n j (omega (arith, lt)) ∙ ap (λ k. m (Some k) point.End) number

times_at : (m : Moments) (n : ℕ) (p : Option ℕ) (end : Point) → IsPlace n p → at (times_in m n) p end ≡ m p end
times_at m n None point.Start h = refl
times_at m n None point.End h = refl
times_at m n (Some j) point.Start h =
    let place : 2 * j + 2 ≡ suc (suc (2 * j)) = omega arith in
    let number : 0 + j ≡ j = omega arith in
    let whole : get_or (times_in m n) (2 * j + 2) (pos 0) ≡ m (Some j) point.Start = ap (λ p. get_or (times_in m n) p (pos 0)) place ∙ slot_start m 0 n j h ∙ ap (λ k. m (Some k) point.Start) number in
    whole
times_at m n (Some j) point.End h =
    let place : 2 * j + 3 ≡ suc (suc (2 * j + 1)) = omega arith in
    let number : 0 + j ≡ j = omega arith in
    let whole : get_or (times_in m n) (2 * j + 3) (pos 0) ≡ m (Some j) point.End = ap (λ p. get_or (times_in m n) p (pos 0)) place ∙ slot_end m 0 n j h ∙ ap (λ k. m (Some k) point.End) number in
    whole

point_below : (n : ℕ) (p : Option ℕ) (end : Point) → IsPlace n p → point_of p end < 2 * n + 2
point_below n None point.Start h = omega arith
point_below n None point.End h = omega arith
point_below n (Some j) point.Start h = omega (arith, h)
point_below n (Some j) point.End h = omega (arith, h)

slot_times_after : (m : Moments) (i n : ℕ) → ((j : ℕ) (end : Point) → j < i + n → pos 0 ≤ℤ m (Some j) end) → All (λ t. pos 0 ≤ℤ t) (slot_times m i n)
slot_times_after m i zero f = All-nil (λ t. pos 0 ≤ℤ t)
slot_times_after m i (suc n) f =
    All-cons (λ t. pos 0 ≤ℤ t) (m (Some i) point.Start) (m (Some i) point.End ∷ slot_times m (suc i) n) (f i point.Start (omega arith))
    (All-cons (λ t. pos 0 ≤ℤ t) (m (Some i) point.End) (slot_times m (suc i) n) (f i point.End (omega arith)) (slot_times_after m (suc i) n (λ j end lt. f j end (omega (arith, lt)))))

-- ---- networks and schedules

abbrev pub HasPlaces : ℕ → Order → Type 0
HasPlaces slots o = IsPlace slots o.first × IsPlace slots o.second

module _ (spans : List (ℤ × ℤ)) (own : ℤ × ℤ) (a : Alternative) (d : DraftAlternative) (same_slots : a.slots ≡ d.slots) (same_orders : a.orders ≡ d.orders) where
  abbrev many : ℕ
  many = length d.slots

  same_many : length a.slots ≡ length d.slots
  same_many = ap length same_slots

  -- a solution of the network is a schedule
  solution_schedule : (times : List ℤ) → IsSolution (net_of spans own d) times → IsSchedule spans own a (at times)
  solution_schedule times sol =
      let front = all_left (Meets times) (parent_edges many own ++ slots_edges spans 2 d.slots) (orders_edges d.orders) sol.meets in
      let orders = all_right (Meets times) (parent_edges many own ++ slots_edges spans 2 d.slots) (orders_edges d.orders) sol.meets in
      let parent = all_left (Meets times) (parent_edges many own) (slots_edges spans 2 d.slots) front in
      let slots = all_right (Meets times) (parent_edges many own) (slots_edges spans 2 d.slots) front in
      let origins = all_left (Meets times) (edges_to_origin (2 * many + 2 - 1)) (distance_edges 0 1 own.0 own.1) parent in
      let ends = all_right (Meets times) (edges_to_origin (2 * many + 2 - 1)) (distance_edges 0 1 own.0 own.1) parent in
      record {
        origin = sol.origin;
        after = λ p end within. after_met times (2 * many + 2 - 1) sol.origin origins (point_of p end) (omega (arith, point_below many p end (subst (λ n. IsPlace n p) same_many within)));
        parent = distance_met times 0 1 own.0 own.1 ends;
        slots = λ i s e.
            let met = slots_met times spans 2 d.slots slots i s (subst (λ ss. slice_get ss i ≡ Some s) same_slots e) in
            let lasts : IsApart (slot_span spans s) (time_of times (2 * i + 2)) (time_of times (2 * i + 2 + 1)) = subst (λ p. IsApart (slot_span spans s) (time_of times p) (time_of times (p + 1))) (omega arith) met in
            subst (λ p. IsApart (slot_span spans s) (time_of times (2 * i + 2)) (time_of times p)) (omega arith) lasts;
        orders = subst (All (IsInOrder (at times))) (sym same_orders) (orders_met times d.orders orders);
      }

  -- the times of a schedule are a solution
  schedule_solution : (m : Moments) → All (HasPlaces (length d.slots)) d.orders → IsSchedule spans own a m → IsSolution (net_of spans own d) (times_in m many)
  schedule_solution m places s =
      let times = times_in m many in
      let after : (p : Option ℕ) (end : Point) → IsPlace many p → pos 0 ≤ℤ m p end = λ p end within. s.after p end (subst (λ n. IsPlace n p) (sym same_many) within) in
      let all_after : All (λ t. pos 0 ≤ℤ t) times =
      All-cons (λ t. pos 0 ≤ℤ t) (m None point.Start) (m None point.End ∷ slot_times m 0 many) (after None point.Start tt)
      (All-cons (λ t. pos 0 ≤ℤ t) (m None point.End) (slot_times m 0 many) (after None point.End tt) (slot_times_after m 0 many (λ j end lt. after (Some j) end (omega (arith, lt))))) in
      let length_is : length times ≡ 2 * many + 2 = omega (arith, slot_times_many m 0 many) in
      let origins = met_after times (2 * many + 2 - 1) s.origin (λ q le. all_after q (pos 0) (omega (arith, le, length_is))) in
      let ends = met_distance times 0 1 own.0 own.1 s.parent in
      let slots : AreMet times (slots_edges spans 2 d.slots) = met_slots times spans 2 d.slots (λ i x e.
      let within : i < many = slice_get_within d.slots i x e in
      let lasts = s.slots i x (subst (λ ss. slice_get ss i ≡ Some x) (sym same_slots) e) in
      let start : m (Some i) point.Start ≡ time_of times (2 + 2 * i) = sym (times_at m many (Some i) point.Start within) ∙ ap (time_of times) (let e : 2 * i + 2 ≡ 2 + 2 * i = omega arith in e) in
      let end : m (Some i) point.End ≡ time_of times (2 + 2 * i + 1) = sym (times_at m many (Some i) point.End within) ∙ ap (time_of times) (let e : 2 * i + 3 ≡ 2 + 2 * i + 1 = omega arith in e) in
      subst (λ t. IsApart (slot_span spans x) t (time_of times (2 + 2 * i + 1))) start (subst (λ t. IsApart (slot_span spans x) (m (Some i) point.Start) t) end lasts)) in
      let in_order : All (IsInOrder m) d.orders = subst (All (IsInOrder m)) same_orders s.orders in
      let orders : AreMet times (orders_edges d.orders) = met_orders times d.orders (All-weaker (λ o. IsInOrder m o × HasPlaces many o) (IsInOrder (at times)) (λ o both.
      let first = sym (times_at m many o.first o.first_end both.1.0) in
      let second = sym (times_at m many o.second o.second_end both.1.1) in
      subst (λ t. IsApart (o.low, o.high) t (at times o.second o.second_end)) first (subst (λ t. IsApart (o.low, o.high) (m o.first o.first_end) t) second both.0)) d.orders (all_both (IsInOrder m) (HasPlaces many) d.orders in_order places)) in
      record {
        each_point = length_is;
        origin = s.origin;
        meets = All-append (Meets times) (parent_edges many own ++ slots_edges spans 2 d.slots) (orders_edges d.orders)
            (All-append (Meets times) (parent_edges many own) (slots_edges spans 2 d.slots) (All-append (Meets times) (edges_to_origin (2 * many + 2 - 1)) (distance_edges 0 1 own.0 own.1) origins ends) slots) orders;
      }

pub least_offsets : (spans : List (ℤ × ℤ)) (own : ℤ × ℤ) (d : DraftAlternative) (a : Alternative) → All (HasPlaces (length a.slots)) a.orders → FinishesAlternative spans own d a → HasLeastOffsets spans own a
least_offsets spans own d a places f =
    let times = f.offsets.times in
    let many : length a.slots ≡ length d.slots = ap length f.slots in
    let own_places : All (HasPlaces (length d.slots)) d.orders = subst (λ n. All (HasPlaces n) d.orders) many (subst (All (HasPlaces (length a.slots))) f.orders places) in
    record {
      moments = at times;
      schedule = solution_schedule spans own a d f.slots f.orders times f.offsets.solution;
      least = λ others s p end within.
          let place : IsPlace (length d.slots) p = subst (λ n. IsPlace n p) many within in
          let low = f.offsets.least (times_in others (length d.slots)) (schedule_solution spans own a d f.slots f.orders others own_places s) (point_of p end) (point_below (length d.slots) p end place) in
          subst (λ t. time_of times (point_of p end) ≤ℤ t) (times_at others (length d.slots) p end place) low;
      starts = λ i lt. f.offsets.starts i (omega (arith, lt, many));
    }
