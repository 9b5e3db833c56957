-- Ranges of ids: what stands in them, in which order, and which activities they take in.
use Rattle.std.proofs.Common.{◌≡◌, ℕ, suc, ◌+◌, ◌<◌, ◌≤◌, ltb, Bool, true, false, List, [], ◌∷◌, ◌++◌, ◌⊎◌, inl, inr, if◌then◌else◌, refl, arith}
use Rattle.std.specs.Prelude.{All}
use Rattle.std.proofs.lemmas.Bool.{ltb-false}
use Rattle.std.proofs.lemmas.List.Elements.{All-nil, All-cons, All-head, All-tail, All-weaker}
use Rattle.pl_plan.specs.declared.activity.Activity.{Activity}
use Rattle.pl_plan.specs.Activities.{RiseFrom}
use Rattle.pl_machine.specs.declared.id_range.IdRange.{IdRange}
use Rattle.pl_machine.specs.declared.period.Period.{Period}
use Rattle.pl_machine.specs.Calm.{is_settled, IsIn, AreRanges}
use Rattle.pl_machine.specs.IdRanges.{as_list, is_near, last_after, ranges_from}
use Rattle.pl_machine.specs.Looking.{AddsRanges}

-- ---- what stands in ranges

pub in_left : (xs ys : List IdRange) (id : ℕ) → IsIn xs id → IsIn (xs ++ ys) id
in_left [] ys id is = absurd is
in_left (r ∷ xs) ys id (inl here) = inl here
in_left (r ∷ xs) ys id (inr more) = inr (in_left xs ys id more)

pub in_right : (xs ys : List IdRange) (id : ℕ) → IsIn ys id → IsIn (xs ++ ys) id
in_right [] ys id is = is
in_right (r ∷ xs) ys id is = inr (in_right xs ys id is)

-- no id below their beginning
pub none_before : (from to id : ℕ) (xs : List IdRange) → AreRanges from xs to → id < from → IsIn xs id → ⊥
none_before from to id [] order lt is = is
none_before from to id (r ∷ xs) (le, within, rest) lt (inl (low, high)) = omega (arith, le, low, lt)
none_before from to id (r ∷ xs) (le, within, rest) lt (inr more) = none_before r.to to id xs rest (omega (arith, le, within, lt)) more

-- ---- in which order

pub ranges_end : (from to : ℕ) (xs : List IdRange) → AreRanges from xs to → from ≤ to
ranges_end from to [] le = le
ranges_end from to (r ∷ xs) (le, within, rest) = let more = ranges_end r.to to xs rest in omega (arith, le, within, more)

pub ranges_weaker : (low from to : ℕ) (xs : List IdRange) → low ≤ from → AreRanges from xs to → AreRanges low xs to
ranges_weaker low from to [] lower le = omega (arith, lower, le)
ranges_weaker low from to (r ∷ xs) lower (le, within, rest) = (omega (arith, lower, le), within, rest)

pub ranges_append : (from mid between to : ℕ) (xs ys : List IdRange) → AreRanges from xs mid → mid ≤ between → AreRanges between ys to → AreRanges from (xs ++ ys) to
ranges_append from mid between to [] ys le gap rest = ranges_weaker from between to ys (omega (arith, le, gap)) rest
ranges_append from mid between to (r ∷ xs) ys (le, within, more) gap rest = (le, within, ranges_append r.to mid between to xs ys more gap rest)

-- ---- the ranges of a list of activities

one_range : (r : IdRange) (b : Bool) → r.from ≤ r.to → AreRanges r.from (if b then r ∷ [] else []) r.to
one_range r true le = (omega arith, le, omega arith)
one_range r false le = le

one_has : (r : IdRange) (id : ℕ) (b : Bool) → ltb r.from r.to ≡ b → r.from ≤ id → id < r.to → IsIn (if b then r ∷ [] else []) id
one_has r id true e low high = inl (low, high)
one_has r id false e low high = absurd (let le = ltb-false r.from r.to e in omega (arith, le, low, high))

list_order : (r : IdRange) → r.from ≤ r.to → AreRanges r.from (as_list r) r.to
list_order r le = one_range r (ltb r.from r.to) le

list_has : (r : IdRange) (id : ℕ) → r.from ≤ id → id < r.to → IsIn (as_list r) id
list_has r id low high = one_has r id (ltb r.from r.to) refl low high

pub rises_later : (low from : ℕ) (xs : List Activity) → low ≤ from → RiseFrom from xs → RiseFrom low xs
rises_later low from [] le rising = tt
rises_later low from (x ∷ xs) le rising = (omega (arith, le, rising.0), rising.1)

-- what follows an activity
later_rest : (a : Activity) (xs : List Activity) → RiseFrom (suc a.id) xs → RiseFrom (a.id + 1) xs
later_rest a xs rising = rises_later (a.id + 1) (suc a.id) xs (omega arith) rising

module _ (moment c : ℕ) where
  -- settled, or in one of the ranges
  abbrev Joined : List IdRange → Activity → Type 0
  Joined ranges a = (is_settled moment c a ≡ true) ⊎ IsIn ranges a.id

  -- the range of one activity
  abbrev one_of : Activity → IdRange
  one_of a = record { from = a.id; to = a.id + 1 }

  -- the last range, with this activity in it
  abbrev wide : IdRange → Activity → IdRange
  wide last a = record { from = last.from; to = a.id + 1 }

  -- where the last range is, if an activity is settled, or near to it, or neither
  abbrev last_if : Bool → Bool → IdRange → Activity → IdRange
  last_if settled near last a = if settled then last else (if near then wide last a else one_of a)

  abbrev ranges_if : Bool → Bool → IdRange → Activity → List Activity → List IdRange
  ranges_if settled near last a more = (if settled then [] else (if near then [] else as_list last)) ++ ranges_from moment c (last_if settled near last a) more

  later_from : (low : ℕ) (a : Activity) (xs : List Activity) → low ≤ a.id → RiseFrom (a.id + 1) xs → RiseFrom low xs
  later_from low a xs le rising = rises_later low (a.id + 1) xs (omega (arith, le)) rising

  order_if : (settled near : Bool) (last : IdRange) (to : ℕ) (a : Activity) (more : List Activity) → last.from ≤ last.to → last.to ≤ a.id → AreRanges last.from (ranges_from moment c last more) to
      → AreRanges last.from (ranges_from moment c (wide last a) more) to → AreRanges a.id (ranges_from moment c (one_of a) more) to → AreRanges last.from (ranges_if settled near last a more) to
  order_if true near last to a more le low same near_one apart_one = same
  order_if false true last to a more le low same near_one apart_one = near_one
  order_if false false last to a more le low same near_one apart_one = ranges_append last.from last.to a.id to (as_list last) (ranges_from moment c (one_of a) more) (list_order last le) low apart_one

  ends : (from mid to : ℕ) (ys : List IdRange) → mid ≤ to → AreRanges from ys mid → AreRanges from ys to
  ends from mid to [] high order = omega (arith, high, order)
  ends from mid to (r ∷ ys) high (low, within, rest) = (low, within, ends r.to mid to ys high rest)

  -- the ranges behind the last one stand behind it
  from_order : (last : IdRange) (to : ℕ) (xs : List Activity) → last.from ≤ last.to → RiseFrom last.to xs → last.to ≤ to → All (λ a. a.id < to) xs → AreRanges last.from (ranges_from moment c last xs) to
  from_order last to [] le rising end below = ends last.from last.to to (as_list last) end (list_order last le)
  from_order last to (a ∷ more) le rising end below =
      let behind : All (λ (x : Activity). x.id < to) more = All-tail (λ (x : Activity). x.id < to) a more below in
      let here : a.id < to = All-head (λ (x : Activity). x.id < to) a more below in
      let low : last.to ≤ a.id = rising.0 in
      let rest : RiseFrom (a.id + 1) more = later_rest a more rising.1 in
      order_if (is_settled moment c a) (is_near last a.id) last to a more le low
      (from_order last to more le (later_from last.to a more low rest) end behind)
      (from_order (wide last a) to more (omega (arith, le, low)) rest (omega (arith, here)) behind)
      (from_order (one_of a) to more (omega arith) rest (omega (arith, here)) behind)

  keeps_if : (settled near : Bool) (last : IdRange) (id : ℕ) (a : Activity) (more : List Activity) → last.from ≤ id → id < last.to → IsIn (ranges_from moment c last more) id → IsIn (ranges_from moment c (wide last a) more) id
      → IsIn (ranges_if settled near last a more) id
  keeps_if true near last id a more low high same near_one = same
  keeps_if false true last id a more low high same near_one = near_one
  keeps_if false false last id a more low high same near_one = in_left (as_list last) (ranges_from moment c (one_of a) more) id (list_has last id low high)

  -- what is in the last one stays in one
  from_keeps : (last : IdRange) (id : ℕ) (xs : List Activity) → RiseFrom last.to xs → last.from ≤ id → id < last.to → IsIn (ranges_from moment c last xs) id
  from_keeps last id [] rising low high = list_has last id low high
  from_keeps last id (a ∷ more) rising low high =
      let later : last.to ≤ a.id = rising.0 in
      let rest : RiseFrom (a.id + 1) more = later_rest a more rising.1 in
      keeps_if (is_settled moment c a) (is_near last a.id) last id a more low high
      (from_keeps last id more (later_from last.to a more later rest) low high)
      (from_keeps (wide last a) id more rest low (omega (arith, high, later)))

  wider : (xs ys : List IdRange) (a : Activity) → Joined ys a → Joined (xs ++ ys) a
  wider xs ys a (inl settled) = inl settled
  wider xs ys a (inr is) = inr (in_right xs ys a.id is)

  each_if : (settled near : Bool) (last : IdRange) (a : Activity) (more : List Activity) → is_settled moment c a ≡ settled → All (Joined (ranges_from moment c last more)) more
      → All (Joined (ranges_from moment c (wide last a) more)) (a ∷ more) → All (Joined (ranges_from moment c (one_of a) more)) (a ∷ more) → All (Joined (ranges_if settled near last a more)) (a ∷ more)
  each_if true near last a more e same near_one apart_one = All-cons (Joined (ranges_from moment c last more)) a more (inl e) same
  each_if false true last a more e same near_one apart_one = near_one
  each_if false false last a more e same near_one apart_one =
      All-weaker (Joined (ranges_from moment c (one_of a) more)) (Joined (as_list last ++ ranges_from moment c (one_of a) more)) (wider (as_list last) (ranges_from moment c (one_of a) more)) (a ∷ more) apart_one

  -- each one that is not settled is in one
  from_each : (last : IdRange) (xs : List Activity) → last.from ≤ last.to → RiseFrom last.to xs → All (Joined (ranges_from moment c last xs)) xs
  from_each last [] le rising = All-nil (Joined (ranges_from moment c last []))
  from_each last (a ∷ more) le rising =
      let later : last.to ≤ a.id = rising.0 in
      let low : last.from ≤ a.id = omega (arith, le, later) in
      let rest : RiseFrom (a.id + 1) more = later_rest a more rising.1 in
      each_if (is_settled moment c a) (is_near last a.id) last a more refl
      (from_each last more le (later_from last.to a more later rest))
      (All-cons (Joined (ranges_from moment c (wide last a) more)) a more (inr (from_keeps (wide last a) a.id more rest low (omega arith))) (from_each (wide last a) more (omega (arith, low)) rest))
      (All-cons (Joined (ranges_from moment c (one_of a) more)) a more (inr (from_keeps (one_of a) a.id more rest (omega arith) (omega arith))) (from_each (one_of a) more (omega arith) rest))

  -- ---- one activity after the other

  rises_if : (settled near : Bool) (last : IdRange) (a : Activity) (xs : List Activity) → RiseFrom last.to (a ∷ xs) → RiseFrom (last_if settled near last a).to xs
  rises_if true near last a xs rising = later_from last.to a xs rising.0 (later_rest a xs rising.1)
  rises_if false true last a xs rising = later_rest a xs rising.1
  rises_if false false last a xs rising = later_rest a xs rising.1

  pub rises_behind : (last : IdRange) (a : Activity) (xs : List Activity) → RiseFrom last.to (a ∷ xs) → RiseFrom (last_after moment c last a).to xs
  rises_behind last a xs rising = rises_if (is_settled moment c a) (is_near last a.id) last a xs rising

-- the ranges of the activities from an id on
pub adds_from : (p : Period) (from : ℕ) (xs : List Activity) (old new : List IdRange) → RiseFrom from xs → new ≡ old ++ ranges_from p.moment p.committed (record { from = from; to = from }) xs → AddsRanges p from xs old new
adds_from p from xs old new rising is = record {
  more = ranges_from p.moment p.committed (record { from = from; to = from }) xs;
  is = is;
  order = λ to le below. from_order p.moment p.committed (record { from = from; to = from }) to xs (omega arith) rising le below;
  each = from_each p.moment p.committed (record { from = from; to = from }) xs (omega arith) rising;
}
