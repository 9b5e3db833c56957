-- Lists place by place, and which alternatives have a schedule.
use Rattle.std.proofs.Common.{◌≡◌, ℕ, ◌+◌, ◌*◌, ◌<◌, ◌≤◌, ℤ, pos, ◌≤ℤ◌, arith, List, [], ◌∷◌, ◌++◌, All, length, get_or, map, refl, sym, ap, ◌∙◌, take}
use Rattle.std.proofs.lemmas.Int.{ints, clamps}
use Rattle.std.specs.Prelude.{slice_index}
use Rattle.pl_stn.specs.declared.net.Net.{Net}
use Rattle.pl_stn.specs.Nets.{AreBounded, IsSolution, IsLeast, time_of}
use Rattle.std.proofs.lemmas.List.Elements.{All-nil, All-cons, All-map, All-from_get_or}
use Rattle.std.proofs.lemmas.List.{take_more}
use Rattle.pl_check.specs.declared.fault.ModelFault.{ModelFault}
use Rattle.pl_check.specs.declared.fault.ModelFault.TheVariants as fault
use Rattle.pl_check.specs.declared.drafts.DraftAlternative.{DraftAlternative}
use Rattle.pl_check.specs.declared.drafts.DraftKind.{DraftKind}
use Rattle.pl_model.specs.declared.alternatives.Alternative.{Alternative}
use Rattle.pl_model.specs.declared.kinds.Kind.{Kind}
use Rattle.pl_model.specs.Schedules.{IsOffset}
use Rattle.pl_check.specs.Ranges.{duration_bounds}
use Rattle.pl_lists.specs.Lists.{Pairwise}
use Rattle.pl_lists.proofs.Listing.{pairwise_push}
use Rattle.pl_check.specs.Networks.{FinishesAlternative, FinishesKind, IsSpan, IsHorizon, cut_to, span_of, net_of, HasOffsets}
use Rattle.pl_check.specs.Schedules.{HasSchedule, IsScheduled, IsConflict, IsFirstConflict, IsUnscheduledIn, IsUnscheduledFault}
use Rattle.pl_check.proofs.DependencyLemmas.{read_at}

module _ {X Y : Type 0} (R : X → Y → Type 0) where
  -- one more, at its place
  pub pairwise_step : (xs : List X) (ys : List Y) (i : ℕ) (x : X) (y : Y) → i < length xs → x ≡ get_or xs i x → Pairwise R (take i xs) ys → R x y → Pairwise R (take (i + 1) xs) (ys ++ y ∷ [])
  pairwise_step xs ys i x y lt same h r =
      let more : take (i + 1) xs ≡ take i xs ++ x ∷ [] = take_more xs i x lt ∙ ap (λ z. take i xs ++ z ∷ []) (sym same) in
      rw more (pairwise_push R (take i xs) ys x y h r)

  -- what holds of each that has a partner
  pub pairwise_all : (P : X → Type 0) → ((x : X) (y : Y) → R x y → P x) → (xs : List X) (ys : List Y) → Pairwise R xs ys → All P xs
  pairwise_all P f [] ys h = All-nil P
  pairwise_all P f (x ∷ xs) [] h = absurd h
  pairwise_all P f (x ∷ xs) (y ∷ ys) h = All-cons P x xs (f x y h.0) (pairwise_all P f xs ys h.1)

pub finished_alternative : (spans : List (ℤ × ℤ)) (own : ℤ × ℤ) (d : DraftAlternative) (offsets : List ℕ) → HasOffsets (net_of spans own d) (length d.slots) offsets → FinishesAlternative spans own d (record { slots = d.slots; orders = d.orders; offsets = offsets })
finished_alternative spans own d offsets h = record { slots = refl; orders = refl; offsets = h }

pub all_scheduled : (spans : List (ℤ × ℤ)) (own : ℤ × ℤ) (ds : List DraftAlternative) (made : List Alternative) → Pairwise (FinishesAlternative spans own) ds made → All (HasSchedule spans own) ds
all_scheduled spans own ds made h = pairwise_all (FinishesAlternative spans own) (HasSchedule spans own) (λ d a f. (f.offsets.times, f.offsets.solution)) ds made h

pub kinds_scheduled : (horizon : ℤ) (spans : List (ℤ × ℤ)) (ds : List DraftKind) (ks : List Kind) → Pairwise (FinishesKind horizon spans) ds ks → All (IsScheduled horizon spans) ds
kinds_scheduled horizon spans ds ks h = pairwise_all (FinishesKind horizon spans) (IsScheduled horizon spans) (λ d k f. all_scheduled spans (span_of horizon d) d.alternatives k.alternatives f.alternatives) ds ks h

pub conflict_at : (spans : List (ℤ × ℤ)) (own : ℤ × ℤ) (kind : DraftKind) (number : ℕ) (alternative : DraftAlternative) (finished : List Alternative) (cycle : List ℕ) → number < length kind.alternatives → alternative ≡ get_or kind.alternatives number alternative → Pairwise (FinishesAlternative spans own) (take number kind.alternatives) finished → IsConflict (net_of spans own alternative) cycle → IsFirstConflict spans own kind kind.name number cycle
conflict_at spans own kind number alternative finished cycle lt same earlier conflict = record {
  alternative = alternative;
  found = read_at kind.alternatives number alternative lt same;
  earlier = all_scheduled spans own (take number kind.alternatives) finished earlier;
  conflict = conflict;
  named = refl;
}

-- the fault of a kind is that of the kinds, where those before it were finished
pub first_unscheduled : (horizon : ℤ) (spans : List (ℤ × ℤ)) (kinds : List DraftKind) (finished : List Kind) (place : ℕ) (kind : DraftKind) (e : ModelFault) → place < length kinds → kind ≡ get_or kinds place kind → Pairwise (FinishesKind horizon spans) (take place kinds) finished → IsUnscheduledIn spans (span_of horizon kind) kind e → IsUnscheduledFault horizon spans kinds e
first_unscheduled horizon spans kinds finished place kind (fault.NoSchedule name number cycle) lt same earlier h = record {
  place = place;
  kind = kind;
  found = read_at kinds place kind lt same;
  earlier = kinds_scheduled horizon spans (take place kinds) finished earlier;
  first = h;
}
first_unscheduled horizon spans kinds finished place kind fault.Memory lt same earlier h = tt
first_unscheduled horizon spans kinds finished place kind (fault.Twice n) lt same earlier h = absurd h
first_unscheduled horizon spans kinds finished place kind (fault.TooMany w) lt same earlier h = absurd h
first_unscheduled horizon spans kinds finished place kind (fault.Unknown n) lt same earlier h = absurd h
first_unscheduled horizon spans kinds finished place kind (fault.Range w) lt same earlier h = absurd h
first_unscheduled horizon spans kinds finished place kind (fault.Circular n p) lt same earlier h = absurd h
first_unscheduled horizon spans kinds finished place kind (fault.Recursive n) lt same earlier h = absurd h

-- ---- numbers

pub cut_least : (horizon n : ℤ) → IsHorizon horizon → pos 1 ≤ℤ cut_to horizon n
cut_least horizon n h = omega (arith, ints, clamps, h.0, h.1)

pub cut_most : (horizon n : ℤ) → IsHorizon horizon → cut_to horizon n ≤ℤ pos 10000000
cut_most horizon n h = omega (arith, ints, clamps, h.0, h.1)

span_near : (horizon : ℤ) (k : DraftKind) → IsHorizon horizon → IsSpan (span_of horizon k)
span_near horizon k h =
    (cut_least horizon (duration_bounds k).0 h, cut_most horizon (duration_bounds k).0 h, cut_least horizon (duration_bounds k).1 h, cut_most horizon (duration_bounds k).1 h)

-- the spans of kinds
pub spans_near : (horizon : ℤ) (kinds : List DraftKind) (spans : List (ℤ × ℤ)) → IsHorizon horizon → spans ≡ map (span_of horizon) kinds → All IsSpan spans
spans_near horizon kinds spans h e = rw e (All-map IsSpan (span_of horizon) kinds (λ k d lt. span_near horizon (get_or kinds k d) h))

pub times_from : (net : Net) (times : List ℤ) → AreBounded net times → (p : ℕ) → pos 0 ≤ℤ time_of times p
times_from net times h p = (h p).0

pub times_to : (net : Net) (times : List ℤ) → AreBounded net times → net.points ≤ 34 → (p : ℕ) → time_of times p ≤ℤ pos 3400000000
times_to net times h few p = let le : net.points * 100000000 ≤ 3400000000 = omega (arith, few) in omega (arith, ints, (h p).1, le)

pub offsets_of : (net : Net) (times : List ℤ) (slots : ℕ) (starts : List ℕ) → IsSolution net times → IsLeast net times → ((p : ℕ) → time_of times p ≤ℤ pos 3400000000) → length starts ≡ slots → ((i : ℕ) → i < slots → pos (slice_index starts i) ≡ time_of times (2 * i + 2)) → HasOffsets net slots starts
offsets_of net times slots starts solution least near each at = record {
  times = times;
  solution = solution;
  least = least;
  each_slot = each;
  near = All-from_get_or IsOffset starts 0 (λ i lt. let e = at i (omega (arith, lt, each)) in omega (arith, ints, e, near (2 * i + 2)));
  starts = at;
}
