-- What the drafts' ranges say of their numbers, where they pass.
use Rattle.std.proofs.Common.{◌≡◌, ℕ, ℤ, pos, neg_ℤ, ◌≤ℤ◌, Bool, true, false, List, [], ◌∷◌, All, refl, arith}
use Rattle.std.specs.Prelude.{int_le, ◌&&◌}
use Rattle.std.proofs.lemmas.Int.{ints}
use Rattle.std.proofs.lemmas.List.Elements.{All-nil, All-cons, All-head, All-tail, All-weaker}
use Rattle.std.proofs.lemmas.Bool.{and_parts}
use Rattle.pl_lists.proofs.Numbers.{le_from_test}
use Rattle.pl_model.specs.declared.alternatives.Order.{Order}
use Rattle.pl_check.specs.declared.fault.ModelFault.{ModelFault}
use Rattle.pl_check.specs.declared.fault.ModelFault.TheVariants as fault
use Rattle.pl_check.specs.declared.fault.What.TheVariants as what
use Rattle.pl_check.specs.declared.drafts.DraftAlternative.{DraftAlternative}
use Rattle.pl_check.specs.declared.drafts.DraftKind.{DraftKind}
use Rattle.pl_check.specs.declared.drafts.Draft.{Draft}
use Rattle.pl_check.specs.declared.drafts.Draft.TheVariants as draft
use Rattle.pl_check.specs.Judgements.{Judgement, pass, unless, each}
use Rattle.pl_check.specs.Ranges.{is_between, is_distance, range_in_param, range_in_duration, range_in_reservation, range_in_link, range_in_slot, range_in_order, range_in_alternative, range_in_kind, range_in_draft, range_in, NamesOwn, NamesOwnIn}
use Rattle.pl_check.specs.Sound.{IsSoundKind, IsSoundDraft}
use Rattle.pl_check.specs.Drafting.{kinds_in}
use Rattle.pl_check.specs.Networks.{IsHorizon, IsNear, IsNearOrder, IsNearAlternative, IsNearKind}
use Rattle.pl_check.proofs.SizeLemmas.{then_passes}

pub test_passes : (b : Bool) (e : ModelFault) → unless b e ≡ pass → b ≡ true
test_passes true e h = refl
test_passes false e h = absurd (cc)

pub each_passes : {X : Type 0} (judge : X → Judgement) (xs : List X) → each judge xs ≡ pass → All (λ x. judge x ≡ pass) xs
each_passes judge [] h = All-nil (λ x. judge x ≡ pass)
each_passes judge (x ∷ xs) h = let both = then_passes (judge x) (each judge xs) tt h in All-cons (λ y. judge y ≡ pass) x xs both.0 (each_passes judge xs both.1)

pub between : (low high n : ℤ) → is_between low high n ≡ true → (low ≤ℤ n) × (n ≤ℤ high)
unfolding is_between
between low high n h = let both = and_parts (int_le low n) (int_le n high) h in (le_from_test low n both.0, le_from_test n high both.1)

near_number : (horizon n : ℤ) → IsHorizon horizon → (neg_ℤ horizon ≤ℤ n) × (n ≤ℤ horizon) → IsNear n
near_number horizon n h b = (omega (arith, ints, h.0, h.1, b.0), omega (arith, ints, h.1, b.1))

near_order : (horizon : ℤ) → IsHorizon horizon → (o : Order) → range_in_order horizon o ≡ pass → IsNearOrder o
unfolding range_in_order
near_order horizon h o p =
    let test = test_passes (is_distance horizon o.low o.high) (fault.Range what.Order) p in
    let two = and_parts (is_between (neg_ℤ horizon) horizon o.low && is_between (neg_ℤ horizon) horizon o.high) (int_le o.low o.high) test in
    let ends = and_parts (is_between (neg_ℤ horizon) horizon o.low) (is_between (neg_ℤ horizon) horizon o.high) two.0 in
    (near_number horizon o.low h (between (neg_ℤ horizon) horizon o.low ends.0), near_number horizon o.high h (between (neg_ℤ horizon) horizon o.high ends.1))

near_alternative : (horizon : ℤ) → IsHorizon horizon → (a : DraftAlternative) → range_in_alternative horizon a ≡ pass → IsNearAlternative a
near_alternative horizon h a p =
    let both = then_passes (each range_in_slot a.slots) (each (range_in_order horizon) a.orders) tt p in
    All-weaker (λ o. range_in_order horizon o ≡ pass) IsNearOrder (near_order horizon h) a.orders (each_passes (range_in_order horizon) a.orders both.1)

near_kind : (horizon : ℤ) → IsHorizon horizon → (k : DraftKind) → range_in_kind horizon k ≡ pass → IsNearKind k
near_kind horizon h k p =
    let params = then_passes (each range_in_param k.params) _ tt p in
    let duration = then_passes (range_in_duration horizon k) _ tt params.1 in
    let reservations = then_passes (each range_in_reservation k.reservations) _ tt duration.1 in
    let links = then_passes (each (range_in_link horizon) k.links) (each (range_in_alternative horizon) k.alternatives) tt reservations.1 in
    All-weaker (λ a. range_in_alternative horizon a ≡ pass) IsNearAlternative (near_alternative horizon h) k.alternatives (each_passes (range_in_alternative horizon) k.alternatives links.1)

-- what holds of each draft holds of the kinds among them
pub of_kinds : (P : DraftKind → Type 0) (Q : Draft → Type 0) → ((k : DraftKind) → Q (draft.Kind k) → P k) → (drafts : List Draft) → All Q drafts → All P (kinds_in drafts)
of_kinds P Q f [] h = All-nil P
of_kinds P Q f (draft.Timeline l ∷ ds) h = of_kinds P Q f ds (All-tail Q (draft.Timeline l) ds h)
of_kinds P Q f (draft.Kind k ∷ ds) h = All-cons P k (kinds_in ds) (f k (All-head Q (draft.Kind k) ds h)) (of_kinds P Q f ds (All-tail Q (draft.Kind k) ds h))

pub sound_kinds : (n : ℕ) (drafts : List Draft) → All (IsSoundDraft n) drafts → All (IsSoundKind n) (kinds_in drafts)
sound_kinds n drafts h = of_kinds (IsSoundKind n) (IsSoundDraft n) (λ k s. s) drafts h

pub sound_names : (n : ℕ) (drafts : List Draft) → All (IsSoundDraft n) drafts → All NamesOwnIn drafts
sound_names n drafts h = All-weaker (IsSoundDraft n) NamesOwnIn own drafts h
  where
    own : (d : Draft) → IsSoundDraft n d → NamesOwnIn d
    own (draft.Timeline l) s = tt
    own (draft.Kind k) s = s.duration

pub kind_names : (n : ℕ) (kinds : List DraftKind) → All (IsSoundKind n) kinds → All NamesOwn kinds
kind_names n kinds h = All-weaker (IsSoundKind n) NamesOwn (λ k s. s.duration) kinds h

pub horizon_passes : (horizon lead : ℤ) (drafts : List Draft) → range_in horizon lead drafts ≡ pass → IsHorizon horizon
horizon_passes horizon lead drafts h =
    let both = then_passes (unless (is_between (pos 2) (pos 10000000) horizon) (fault.Range what.Horizon)) _ tt h in
    between (pos 2) (pos 10000000) horizon (test_passes _ _ both.0)

pub lead_passes : (horizon lead : ℤ) (drafts : List Draft) → range_in horizon lead drafts ≡ pass → (pos 1 ≤ℤ lead) × (lead ≤ℤ horizon)
lead_passes horizon lead drafts h =
    let both = then_passes (unless (is_between (pos 2) (pos 10000000) horizon) (fault.Range what.Horizon)) _ tt h in
    let rest = then_passes (unless (is_between (pos 1) horizon lead) (fault.Range what.Lead)) (each (range_in_draft horizon) drafts) tt both.1 in
    between (pos 1) horizon lead (test_passes _ _ rest.0)

pub near_kinds : (horizon lead : ℤ) (drafts : List Draft) → range_in horizon lead drafts ≡ pass → All IsNearKind (kinds_in drafts)
unfolding range_in_draft
near_kinds horizon lead drafts h =
    let both = then_passes (unless (is_between (pos 2) (pos 10000000) horizon) (fault.Range what.Horizon)) _ tt h in
    let rest = then_passes (unless (is_between (pos 1) horizon lead) (fault.Range what.Lead)) (each (range_in_draft horizon) drafts) tt both.1 in
    of_kinds IsNearKind (λ d. range_in_draft horizon d ≡ pass) (near_kind horizon (horizon_passes horizon lead drafts h)) drafts (each_passes (range_in_draft horizon) drafts rest.1)
