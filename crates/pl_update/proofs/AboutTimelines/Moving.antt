-- What timelines hold as one of them changes, and then the next.
use Rattle.std.proofs.Common.{◌≡◌, ◌<◌, ◌+◌, ℕ, zero, suc, length, get_or, set, take, eqb, Bool, true, false, cond, List, [], ◌∷◌, refl, ap, sym, ◌∙◌, subst, arith, ℤ, pos, ◌+ℤ◌, ◌≤ℤ◌, neg_ℤ}
use Rattle.std.specs.Prelude.{map, slice_get, Option, Some, None}
use Rattle.std.specs.Option.{option_map}
use Rattle.std.proofs.lemmas.Int.{ints}
use Rattle.std.proofs.lemmas.Bool.{eqb-true}
use Rattle.std.proofs.lemmas.Bool.Decides.{nat_tests}
use Rattle.std.proofs.lemmas.Option.{slice_get-map, slice_get_within, slice_get-get_or, get_or_from_slice_get}
use Rattle.std.proofs.lemmas.List.{take_more}
use Rattle.std.proofs.lemmas.List.Elements.{All-set}
use Rattle.std.proofs.Math.Seq.{map-set_same}
use Rattle.pl_points.specs.Sums.{total}
use Rattle.pl_points.proofs.Totals.{total-push}
use Rattle.pl_semantics.specs.declared.plan_state.PlanState.{PlanState}
use Rattle.pl_semantics.specs.declared.demand.Demand.{Demand}
use Rattle.pl_semantics.specs.declared.demand.Asked.{Asked}
use Rattle.pl_update.specs.declared.timelines.line.Line.{Line}
use Rattle.pl_update.specs.declared.timelines.line.Line.TheVariants.{Capacity, Level, States}
use Rattle.pl_update.specs.Timelines.Held.{held, held_in, held_at, part_at, asked_at, alike, one, HoldAll, HaveRoom}
use Rattle.pl_update.specs.Timelines.Framed.{bare, IsOrdered}
use Rattle.pl_update.specs.Timelines.Mending.{IsMoved, less, IsOfSort, CanAsk}
use Rattle.pl_update.specs.Timelines.Changed.{just, less_just, HasRoomFor, HoldsOne}
use Rattle.pl_update.proofs.AboutTimelines.MovingOne.{one_alike, alike_nonneg}
use Rattle.pl_update.proofs.AboutTimelines.Listing.{total_least}

-- ---- one of several

pub get_set : {T : Type 0} (xs : List T) (i j : ℕ) (x y : T) → slice_get xs i ≡ Some x → slice_get (set xs i y) j ≡ cond (eqb i j) (Some y) (slice_get xs j)
get_set [] i j x y e = absurd (cc)
get_set (z ∷ xs) zero zero x y e = refl
get_set (z ∷ xs) zero (suc j) x y e = let h : eqb 0 (suc j) ≡ false = grind (arith, nat_tests) in rw h refl
get_set (z ∷ xs) (suc i) zero x y e = let h : eqb (suc i) 0 ≡ false = grind (arith, nat_tests) in rw h refl
get_set (z ∷ xs) (suc i) (suc j) x y e = let h : eqb (suc i) (suc j) ≡ eqb i j = grind (arith, nat_tests) in rw h (get_set xs i j x y e)

-- a timeline that changed among the others
pub moved_line : (lines : List Line) (i : ℕ) (l l' : Line) (by : (Asked → ℤ) → ℤ) → slice_get lines i ≡ Some l → bare l' ≡ bare l → (IsOrdered l → IsOrdered l') → ((f : Asked → ℤ) → held f l' ≡ held f l +ℤ by f) → IsMoved lines (set lines i l') (λ line f. cond (eqb i line) (by f) (pos 0))
moved_line lines i l l' by at same order adds = record {
  frames = map-set_same bare lines i l' l (same ∙ ap bare (sym here));
  ordered = λ all. All-set IsOrdered lines i l' (order (subst IsOrdered here (all i l (slice_get_within lines i l at)))) all;
  held = λ line f. ap (held_in f) (get_set lines i line l l' at) ∙ counts line f (eqb i line) refl;
}
  where
    here : get_or lines i l ≡ l
    here = get_or_from_slice_get lines i l l at

    counts : (line : ℕ) (f : Asked → ℤ) (b : Bool) → eqb i line ≡ b → held_in f (cond b (Some l') (slice_get lines line)) ≡ held_at lines line f +ℤ cond b (by f) (pos 0)
    counts line f true e = adds f ∙ ap (λ o. held_in f o +ℤ by f) (sym (subst (λ n. slice_get lines n ≡ Some l) (eqb-true i line e) at))
    counts line f false e = omega (arith, ints)

pub moved_just : (lines : List Line) (d : Demand) (l l' : Line) → slice_get lines d.line ≡ Some l → bare l' ≡ bare l → (IsOrdered l → IsOrdered l') → ((f : Asked → ℤ) → held f l' ≡ held f l +ℤ f d.asked) → IsMoved lines (set lines d.line l') (just d)
moved_just lines d l l' at same order adds = moved_line lines d.line l l' (λ f. f d.asked) at same order adds

pub moved_less_just : (lines : List Line) (d : Demand) (l l' : Line) → slice_get lines d.line ≡ Some l → bare l' ≡ bare l → (IsOrdered l → IsOrdered l') → ((f : Asked → ℤ) → held f l' ≡ held f l +ℤ neg_ℤ (f d.asked)) → IsMoved lines (set lines d.line l') (less_just d)
moved_less_just lines d l l' at same order adds =
    let m = moved_line lines d.line l l' (λ f. neg_ℤ (f d.asked)) at same order adds in
    record { frames = m.frames; ordered = m.ordered; held = λ line f. m.held line f ∙ ap (λ z. held_at lines line f +ℤ z) (turned (eqb d.line line) (f d.asked)) }
  where
    turned : (b : Bool) (z : ℤ) → cond b (neg_ℤ z) (pos 0) ≡ neg_ℤ (cond b z (pos 0))
    turned true z = refl
    turned false z = omega (arith, ints)

-- ---- none, and one after the other

pub moved_none : (lines : List Line) (by : ℕ → (Asked → ℤ) → ℤ) → ((line : ℕ) (f : Asked → ℤ) → by line f ≡ pos 0) → IsMoved lines lines by
moved_none lines by none = record { frames = refl; ordered = λ o. o; held = λ line f. omega (arith, ints, none line f) }

pub moved_then : (lines lines' lines'' : List Line) (by by' by'' : ℕ → (Asked → ℤ) → ℤ) → IsMoved lines lines' by → IsMoved lines' lines'' by' → ((line : ℕ) (f : Asked → ℤ) → by'' line f ≡ by line f +ℤ by' line f) → IsMoved lines lines'' by''
moved_then lines lines' lines'' by by' by'' first second sums =
    record { frames = second.frames ∙ first.frames; ordered = λ o. second.ordered (first.ordered o); held = λ line f. omega (arith, ints, first.held line f, second.held line f, sums line f) }

-- ---- sums over demands that come one after another

total_front : {T : Type 0} (g : T → ℤ) → ((x : T) → pos 0 ≤ℤ g x) → (xs : List T) (i : ℕ) (d : T) → i < length xs → (total g (take i xs) +ℤ g (get_or xs i d)) ≤ℤ total g xs
total_front g least [] i d lt = absurd (omega (arith, lt))
total_front g least (x ∷ xs) zero d lt = omega (arith, ints, total_least g least xs)
total_front g least (x ∷ xs) (suc i) d lt = omega (arith, ints, total_front g least xs i d (omega (arith, lt)))

total_more : {T : Type 0} (g : T → ℤ) (xs : List T) (i : ℕ) (d : T) → i < length xs → total g (take (i + 1) xs) ≡ total g (take i xs) +ℤ g (get_or xs i d)
total_more g xs i d lt = ap (total g) (take_more xs i d lt) ∙ total-push g (take i xs) (get_or xs i d)

pub part_nonneg : (line : ℕ) (f : Asked → ℤ) → ((x : Asked) → pos 0 ≤ℤ f x) → (d : Demand) → pos 0 ≤ℤ part_at line f d
part_nonneg line f least d = by (eqb d.line line)
  where
    by : (b : Bool) → pos 0 ≤ℤ cond b (f d.asked) (pos 0)
    by true = least d.asked
    by false = omega (arith, ints)

part_here : (f : Asked → ℤ) (d : Demand) → part_at d.line f d ≡ f d.asked
part_here f d = let e : eqb d.line d.line ≡ true = grind (arith, nat_tests) in rw e refl

pub moved_more : (ds : List Demand) (i : ℕ) (d : Demand) (lines now next : List Line) → i < length ds → IsMoved lines now (asked_at (take i ds)) → IsMoved now next (just (get_or ds i d)) → IsMoved lines next (asked_at (take (i + 1) ds))
moved_more ds i d lines now next lt first second = moved_then lines now next (asked_at (take i ds)) (just (get_or ds i d)) (asked_at (take (i + 1) ds)) first second (λ line f. total_more (part_at line f) ds i d lt)

pub moved_more_less : (ds : List Demand) (i : ℕ) (d : Demand) (lines now next : List Line) → i < length ds → IsMoved lines now (less (take i ds)) → IsMoved now next (less_just (get_or ds i d)) → IsMoved lines next (less (take (i + 1) ds))
moved_more_less ds i d lines now next lt first second = moved_then lines now next (less (take i ds)) (less_just (get_or ds i d)) (less (take (i + 1) ds)) first second (λ line f. omega (arith, ints, total_more (part_at line f) ds i d lt))

pub room_part : (ds : List Demand) (i : ℕ) (d : Demand) (lines now : List Line) → i < length ds → HaveRoom lines ds → IsMoved lines now (asked_at (take i ds)) → HasRoomFor now (get_or ds i d)
room_part ds i d lines now lt room moved =
    let x : Demand = get_or ds i d in
    let here : part_at x.line one x ≡ pos 1 = part_here one x in
    let sums : (total (part_at x.line one) (take i ds) +ℤ part_at x.line one x) ≤ℤ total (part_at x.line one) ds = total_front (part_at x.line one) (part_nonneg x.line one one_nonneg) ds i d lt in
    omega (arith, ints, room x.line, moved.held x.line one, sums, here)
  where
    one_nonneg : (x : Asked) → pos 0 ≤ℤ one x
    one_nonneg x = omega (arith, ints)

pub hold_part : (ds : List Demand) (i : ℕ) (d : Demand) (lines now : List Line) → i < length ds → HoldAll lines ds → IsMoved lines now (less (take i ds)) → HoldsOne now (get_or ds i d)
hold_part ds i d lines now lt hold moved =
    let x : Demand = get_or ds i d in
    let f : Asked → ℤ = alike x.asked in
    let here : part_at x.line f x ≡ pos 1 = part_here f x ∙ one_alike x.asked in
    let sums : (total (part_at x.line f) (take i ds) +ℤ part_at x.line f x) ≤ℤ total (part_at x.line f) ds = total_front (part_at x.line f) (part_nonneg x.line f (alike_nonneg x.asked)) ds i d lt in
    omega (arith, ints, hold x.line x.asked, moved.held x.line f, sums, here)

-- ---- what is asked stays of its timeline's sort

to_bare : (o : Option Line) (x : Asked) → IsOfSort o x → IsOfSort (option_map bare o) x
to_bare None x h = h
to_bare (Some (Capacity c)) x h = h
to_bare (Some (Level l)) x h = h
to_bare (Some (States y)) x h = h

from_bare : (o : Option Line) (x : Asked) → IsOfSort (option_map bare o) x → IsOfSort o x
from_bare None x h = h
from_bare (Some (Capacity c)) x h = h
from_bare (Some (Level l)) x h = h
from_bare (Some (States y)) x h = h

pub can_ask_still : (s : PlanState) (lines lines' : List Line) (d : Demand) → map bare lines' ≡ map bare lines → CanAsk s lines d → CanAsk s lines' d
can_ask_still s lines lines' d frames can =
    let same : option_map bare (slice_get lines d.line) ≡ option_map bare (slice_get lines' d.line) = sym (slice_get-map bare lines d.line) ∙ (ap (λ l. slice_get l d.line) (sym frames) ∙ slice_get-map bare lines' d.line) in
    record {
      bounded = can.bounded;
      sort = from_bare (slice_get lines' d.line) d.asked (subst (λ o. IsOfSort o d.asked) same (to_bare (slice_get lines d.line) d.asked can.sort));
      named = can.named;
    }

-- ---- the timeline itself

some_get : (lines : List Line) (i : ℕ) (l : Line) → i < length lines → l ≡ get_or lines i l → slice_get lines i ≡ Some l
some_get lines i l lt e = slice_get-get_or lines i l lt ∙ ap Some (sym e)

in_range : (lines : List Line) (i : ℕ) (x : Asked) → IsOfSort (slice_get lines i) x → i < length lines
in_range lines i x sort = by (slice_get lines i) refl sort
  where
    by : (o : Option Line) → slice_get lines i ≡ o → IsOfSort o x → i < length lines
    by None e h = absurd (none x h)
      where
        none : (y : Asked) → IsOfSort None y → ⊥
        none y k = k
    by (Some l) e h = slice_get_within lines i l e

-- a timeline that was read is the one of this number
pub line_here : (all lines : List Line) (d : Demand) (l : Line) → all ≡ lines → IsOfSort (slice_get lines d.line) d.asked → l ≡ get_or all d.line l → slice_get lines d.line ≡ Some l
line_here all lines d l same sort e = some_get lines d.line l (in_range lines d.line d.asked sort) (e ∙ ap (λ xs. get_or xs d.line l) same)
