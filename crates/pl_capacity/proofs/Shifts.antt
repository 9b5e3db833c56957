-- What a shift of the sums leaves of a sound capacity.
use Rattle.std.proofs.Common.{◌≡◌, ℕ, ◌+◌, ◌^◌, ◌≤◌, Bool, true, false, ◌&&◌, cond, List, [], ◌∷◌, ◌++◌, length, refl, ap, sym, ◌∙◌, subst, arith, eqb, leb, min, max, ℤ, pos, ◌+ℤ◌, ◌-ℤ◌, ◌≤ℤ◌, neg_ℤ}
use Rattle.std.specs.Ordering.{int_eq}
use Rattle.std.proofs.lemmas.Bool.{cond_both, eqb-true, true≢false, and_parts, leb-true, leb-false}
use Rattle.std.proofs.lemmas.Bool.Decides.{nat_tests, Decides-int_eq}
use Rattle.std.proofs.lemmas.Int.{ints, to_z-of_z}
use mir.Val.{to_z, of_z, SFits}
use mir.Syntax.{w64}
use Rattle.std.specs.Prelude.{int_lt}
use Rattle.std.proofs.lemmas.List.{length-append}
use Rattle.pl_points.specs.declared.span.Span.{Span}
use Rattle.pl_points.specs.declared.span.Change.{Change}
use Rattle.pl_points.specs.declared.noted.Noted.{Noted}
use Rattle.pl_points.specs.declared.noted.Noted.TheVariants.{Came, Went}
use Rattle.pl_points.specs.declared.limit.Limit.TheVariants.{Above}
use Rattle.pl_points.specs.Points.{Point, sum_to, merged, AreSmall, RiseFrom}
use Rattle.pl_points.specs.Limits.{is_outside}
use Rattle.pl_points.specs.Counting.{shift_steps}
use Rattle.pl_points.specs.Spans.{within, covers, AreSpans, AreMaximal}
use Rattle.pl_points.specs.Mending.{mended}
use Rattle.pl_points.specs.Changes.{IsChange}
use Rattle.pl_points.specs.Standing.{Each, stands, without, noted, standing}
use Rattle.pl_points.proofs.PointLists.{sum_to-merged, rising-merged, same_points}
use Rattle.pl_points.proofs.Spanning.{within_true}
use Rattle.pl_points.proofs.Cuts.{within_yes}
use Rattle.pl_points.proofs.Maximal.{is_spans_of, remaximal, later_maximal, maximal_apart}
use Rattle.pl_points.proofs.Totals.{total_bounds, each-all, each-push, each-stands, each-without, length-without, IsAmount, standing-push, total-push, total-without}
use Rattle.pl_capacity.specs.declared.reservation.Use.{Use}
use Rattle.pl_capacity.specs.Uses.{Standing, IsUse, use_of, same_use, taken_at, used, is_over, spans_now, points_of, use_steps}
use Rattle.pl_capacity.specs.Soundness.{IsSound, IsShift}

amount_taken : (t : ℕ) (u : Use) → IsUse u → IsAmount (taken_at t u)
amount_taken t u is = cond_both (within u.from u.to t) u.amount (pos 0) (λ z. IsAmount z) (λ e. (omega (arith, ints, is.1), is.2)) (λ e. (omega (arith, ints), omega (arith, ints)))

used_small : (uses : List Use) (t : ℕ) → length uses ≤ 320000 → Each IsUse uses → (neg_ℤ (pos 320000000000000) ≤ℤ used uses t) × (used uses t ≤ℤ pos 320000000000000)
used_small uses t few bounded =
    let h = total_bounds (taken_at t) uses (each-all IsUse (λ u. IsAmount (taken_at t u)) uses (amount_taken t) bounded) in
    (omega (arith, ints, few, h.0), omega (arith, ints, few, h.1))

pub small_one : (s : Standing) (ps : List Point) (spans : List Span) (from : ℕ) (d : ℤ) → IsSound s ps spans → IsAmount d → AreSmall (merged from d ps)
small_one s ps spans from d sound amount t =
    let u = used_small s.uses t sound.few sound.bounded in
    let e = sound.tied t in
    cases (leb from t) (sum_to-merged from d ps t) u e
  where
    cases : (v : Bool) → sum_to (merged from d ps) t ≡ sum_to ps t +ℤ cond v d (pos 0) → (neg_ℤ (pos 320000000000000) ≤ℤ used s.uses t) × (used s.uses t ≤ℤ pos 320000000000000) → sum_to ps t ≡ used s.uses t
        → (neg_ℤ (pos (10 ^ 15)) ≤ℤ sum_to (merged from d ps) t) × (sum_to (merged from d ps) t ≤ℤ pos (10 ^ 15))
    cases true m u e = (omega (arith, ints, m, u.0, u.1, e, amount.0, amount.1), omega (arith, ints, m, u.0, u.1, e, amount.0, amount.1))
    cases false m u e = (omega (arith, ints, m, u.0, u.1, e), omega (arith, ints, m, u.0, u.1, e))

-- the sums after a shift
pub shifted_sum : (ps : List Point) (from to : ℕ) (d : ℤ) (t : ℕ) → from ≤ to → sum_to (merged to (neg_ℤ d) (merged from d ps)) t ≡ sum_to ps t +ℤ cond (within from to t) d (pos 0)
shifted_sum ps from to d t le =
    cases (leb from t) (leb to t) refl refl (sum_to-merged to (neg_ℤ d) (merged from d ps) t) (sum_to-merged from d ps t)
  where
    cases : (v w : Bool) → leb from t ≡ v → leb to t ≡ w → sum_to (merged to (neg_ℤ d) (merged from d ps)) t ≡ sum_to (merged from d ps) t +ℤ cond w (neg_ℤ d) (pos 0) → sum_to (merged from d ps) t ≡ sum_to ps t +ℤ cond v d (pos 0)
        → sum_to (merged to (neg_ℤ d) (merged from d ps)) t ≡ sum_to ps t +ℤ cond (within from to t) d (pos 0)
    cases true true f g m n =
        let w : within from to t ≡ false = grind (arith, nat_tests) in
        rw w (omega (arith, ints, m, n))
    cases true false f g m n =
        let w : within from to t ≡ true = grind (arith, nat_tests) in
        rw w (omega (arith, ints, m, n))
    cases false true f g m n = absurd (omega (arith, le, leb-false from t f, leb-true to t g))
    cases false false f g m n =
        let w : within from to t ≡ false = grind (arith, nat_tests) in
        rw w (omega (arith, ints, m, n))

pub small_both : (s : Standing) (ps : List Point) (spans : List Span) (from to : ℕ) (d : ℤ) → IsSound s ps spans → IsAmount d → from ≤ to → AreSmall (merged to (neg_ℤ d) (merged from d ps))
small_both s ps spans from to d sound amount le t =
    cases (within from to t) (shifted_sum ps from to d t le) (used_small s.uses t sound.few sound.bounded) (sound.tied t)
  where
    cases : (v : Bool) → sum_to (merged to (neg_ℤ d) (merged from d ps)) t ≡ sum_to ps t +ℤ cond v d (pos 0) → (neg_ℤ (pos 320000000000000) ≤ℤ used s.uses t) × (used s.uses t ≤ℤ pos 320000000000000) → sum_to ps t ≡ used s.uses t
        → (neg_ℤ (pos (10 ^ 15)) ≤ℤ sum_to (merged to (neg_ℤ d) (merged from d ps)) t) × (sum_to (merged to (neg_ℤ d) (merged from d ps)) t ≤ℤ pos (10 ^ 15))
    cases true m u e = (omega (arith, ints, m, u.0, u.1, e, amount.0, amount.1), omega (arith, ints, m, u.0, u.1, e, amount.0, amount.1))
    cases false m u e = (omega (arith, ints, m, u.0, u.1, e), omega (arith, ints, m, u.0, u.1, e))

pub sound_apart : (s : Standing) (ps : List Point) (spans : List Span) → IsSound s ps spans → AreSpans spans
sound_apart s ps spans sound = maximal_apart (is_over s.most s.uses) s.moment s.horizon spans (omega (arith, sound.fits)) sound.maximal

pub sound_spans : (s : Standing) (ps : List Point) (spans : List Span) → IsSound s ps spans → spans ≡ spans_now s
sound_spans s ps spans sound = is_spans_of (is_over s.most s.uses) s.moment s.horizon spans sound.in_time sound.maximal

pub sound_change : (s s' : Standing) (ps ps' : List Point) (spans spans' : List Span) (change : Change) → IsSound s ps spans → IsSound s' ps' spans' → IsChange spans spans' change → IsChange (spans_now s) (spans_now s') change
sound_change s s' ps ps' spans spans' change one other is =
    subst (λ l. IsChange (spans_now s) l change) (sound_spans s' ps' spans' other) (subst (λ l. IsChange l spans' change) (sound_spans s ps spans one) is)

abbrev pub make : Bool → ℕ → ℤ → ℕ → List Use → Standing
make spoiled horizon most moment uses = record { spoiled = spoiled; horizon = horizon; most = most; moment = moment; uses = uses }

-- with other uses, which the shift of the sums fits
pub sound_shifted : (s : Standing) (uses : List Use) (ps ps' : List Point) (spans spans' : List Span) (from to : ℕ) (d : ℤ) → IsSound s ps spans → IsShift from to d s.uses uses
    → ps' ≡ merged to (neg_ℤ d) (merged from d ps) → AreSpans spans'
    → ((t : ℕ) → covers spans' t ≡ mended (max s.moment from) (max (max s.moment from) (min to s.horizon)) (λ x. is_outside (Above s.most) (sum_to ps' x)) spans t) → IsSound (make false s.horizon s.most s.moment uses) ps' spans'
sound_shifted s uses ps ps' spans spans' from to d sound shift points apart says =
    record {
      in_time = sound.in_time;
      fits = sound.fits;
      few = shift.few;
      bounded = shift.bounded;
      rising = subst (λ l. RiseFrom 0 l) (sym points) (rising-merged 0 to (neg_ℤ d) (merged from d ps) (omega arith) (rising-merged 0 from d ps (omega arith) sound.rising));
      tied = tied;
      maximal = remaximal (is_over s.most s.uses) (is_over s.most uses) (λ x. is_outside (Above s.most) (sum_to ps' x)) s.moment s.horizon (max s.moment from) (max (max s.moment from) (min to s.horizon)) spans spans'
          sound.maximal apart says inside outside;
    }
  where
    tied : (t : ℕ) → sum_to ps' t ≡ used uses t
    tied t = ap (λ l. sum_to l t) points ∙ (shifted_sum ps from to d t shift.rising ∙ (ap (λ z. z +ℤ cond (within from to t) d (pos 0)) (sound.tied t) ∙ sym (shift.adds t)))

    inside : (t : ℕ) → within (max s.moment from) (max (max s.moment from) (min to s.horizon)) t ≡ true → within s.moment s.horizon t ≡ true × is_outside (Above s.most) (sum_to ps' t) ≡ is_over s.most uses t
    inside t e =
        let h = within_true (max s.moment from) (max (max s.moment from) (min to s.horizon)) t e in
        (within_yes s.moment s.horizon t (omega (arith, h.0)) (omega (arith, h.0, h.1)), ap (int_lt s.most) (tied t))

    outside : (t : ℕ) → within (max s.moment from) (max (max s.moment from) (min to s.horizon)) t ≡ false → within s.moment s.horizon t ≡ true → is_over s.most s.uses t ≡ is_over s.most uses t
    outside t apart_there in_time =
        let w : within from to t ≡ false = cases (within from to t) refl in
        let same : used s.uses t ≡ used uses t = omega (arith, ints, shift.adds t, ap (λ v. cond v d (pos 0)) w) in
        ap (int_lt s.most) same
      where
        cases : (v : Bool) → within from to t ≡ v → v ≡ false
        cases false e = refl
        cases true e =
            let h = within_true from to t e in
            let k = within_true s.moment s.horizon t in_time in
            absurd (true≢false (sym (within_yes (max s.moment from) (max (max s.moment from) (min to s.horizon)) t (omega (arith, h.0, k.0)) (omega (arith, h.1, k.1))) ∙ apart_there))

pub same_exact : (u v : Use) → same_use u v ≡ true → u ≡ v
same_exact u v e =
    let h = and_parts (eqb u.from v.from) (eqb u.to v.to && int_eq u.amount v.amount) e in
    let k = and_parts (eqb u.to v.to) (int_eq u.amount v.amount) h.1 in
    let from : u.from ≡ v.from = eqb-true u.from v.from h.0 in
    let to : u.to ≡ v.to = eqb-true u.to v.to k.0 in
    let amount : u.amount ≡ v.amount = (Decides-int_eq u.amount v.amount).0 k.1 in
    ap (λ n. use_of n u.to u.amount) from ∙ ap (λ n. use_of v.from n u.amount) to ∙ ap (use_of v.from v.to) amount

-- a use more
pub shift_more : (uses : List Use) (u : Use) → IsUse u → length uses ≤ 319999 → Each IsUse uses → IsShift u.from u.to u.amount uses (uses ++ u ∷ [])
shift_more uses u is few bounded = record {
  rising = omega (arith, is.0);
  low = omega (arith, ints, is.1);
  high = is.2;
  few = omega (arith, few, length-append uses (u ∷ []));
  bounded = each-push IsUse uses u bounded is;
  adds = λ t. total-push (taken_at t) uses u;
}

used_less : (uses : List Use) (u : Use) (t : ℕ) → stands same_use u uses ≡ true → used (without same_use u uses) t ≡ used uses t +ℤ cond (within u.from u.to t) (neg_ℤ u.amount) (pos 0)
used_less uses u t has = cases (within u.from u.to t) (total-without same_use same_exact (taken_at t) uses u has) refl
  where
    cases : (v : Bool) → used (without same_use u uses) t +ℤ taken_at t u ≡ used uses t → within u.from u.to t ≡ v → used (without same_use u uses) t ≡ used uses t +ℤ cond v (neg_ℤ u.amount) (pos 0)
    cases true m e = let f : taken_at t u ≡ u.amount = rw e refl in omega (arith, ints, m, f)
    cases false m e = let f : taken_at t u ≡ pos 0 = rw e refl in omega (arith, ints, m, f)

-- a use less
pub shift_less : (uses : List Use) (u : Use) → stands same_use u uses ≡ true → length uses ≤ 320000 → Each IsUse uses → IsShift u.from u.to (neg_ℤ u.amount) uses (without same_use u uses)
shift_less uses u has few bounded =
    let is : IsUse u = each-stands IsUse same_use same_exact uses u bounded has in
    record {
      rising = omega (arith, is.0);
      low = omega (arith, ints, is.2);
      high = omega (arith, ints, is.1);
      few = omega (arith, few, length-without same_use uses u);
      bounded = each-without IsUse same_use uses u bounded;
      adds = λ t. used_less uses u t has;
    }

-- the present moment moved on
pub sound_later : (s s' : Standing) (ps : List Point) (spans spans' : List Span) → IsSound s ps spans → s'.horizon ≡ s.horizon → s'.most ≡ s.most → s'.uses ≡ s.uses → s.moment ≤ s'.moment → s'.moment ≤ s.horizon
    → AreSpans spans' → ((t : ℕ) → covers spans' t ≡ mended 0 s'.moment (λ _. false) spans t) → IsSound s' ps spans'
sound_later s s' ps spans spans' sound same_horizon same_most same_uses later bound apart says =
    record {
      in_time = omega (arith, bound, same_horizon);
      fits = omega (arith, sound.fits, same_horizon);
      few = subst (λ l. length l ≤ 320000) (sym same_uses) sound.few;
      bounded = subst (λ l. Each IsUse l) (sym same_uses) sound.bounded;
      rising = sound.rising;
      tied = λ t. sound.tied t ∙ ap (λ l. used l t) (sym same_uses);
      maximal = subst (λ n. AreMaximal (is_over s'.most s'.uses) s'.moment n spans') (sym same_horizon) (subst (λ l. AreMaximal (is_over s'.most l) s'.moment s.horizon spans') (sym same_uses)
          (subst (λ m. AreMaximal (is_over m s.uses) s'.moment s.horizon spans') (sym same_most) (later_maximal (is_over s.most s.uses) s.moment s.horizon s'.moment spans spans' later sound.maximal apart says)));
    }

-- amounts as a program holds them
pub raw : (a : ℤ) → IsAmount a → to_z w64 (of_z w64 a) ≡ a
raw a am = let fits : SFits w64 a = omega (arith, ints, am.0, am.1) in to_z-of_z w64 a fits

pub raw_back : (a : ℤ) → IsAmount a → to_z w64 (of_z w64 (pos 0 -ℤ to_z w64 (of_z w64 a))) ≡ neg_ℤ a
raw_back a am =
    let fits : SFits w64 (pos 0 -ℤ a) = omega (arith, ints, am.0, am.1) in
    let e : pos 0 -ℤ a ≡ neg_ℤ a = omega (arith, ints) in
    rw (raw a am) (to_z-of_z w64 (pos 0 -ℤ a) fits ∙ e)

pub neg_fits : (a : ℤ) → IsAmount a → SFits w64 (pos 0 -ℤ to_z w64 (of_z w64 a))
neg_fits a am = rw (raw a am) (omega (arith, ints, am.0, am.1))

pub same_state : (b : Bool) (h : ℕ) (m : ℤ) (n : ℕ) (l k : List Use) → b ≡ false → l ≡ k → make false h m n l ≡ make b h m n k
same_state b h m n l k e f = ap (make false h m n) f ∙ ap (λ v. make v h m n k) (sym e)

pub amount_of : (u : Use) → IsUse u → IsAmount u.amount
amount_of u is = (omega (arith, ints, is.1), is.2)

rising_points : (uses : List Use) → RiseFrom 0 (points_of uses)
rising_points [] = tt
rising_points (u ∷ us) = rising-merged 0 u.to (neg_ℤ u.amount) (merged u.from u.amount (points_of us)) (omega arith) (rising-merged 0 u.from u.amount (points_of us) (omega arith) (rising_points us))

sum_points : (uses : List Use) (t : ℕ) → Each IsUse uses → sum_to (points_of uses) t ≡ used uses t
sum_points [] t all = refl
sum_points (u ∷ us) t all = omega (arith, ints, shifted_sum (points_of us) u.from u.to u.amount t (omega (arith, all.0.0)), sum_points us t all.1)

-- the points of a sound capacity are those of its uses
pub points_are : (s : Standing) (ps : List Point) (spans : List Span) → IsSound s ps spans → ps ≡ points_of s.uses
points_are s ps spans sound = same_points 0 0 ps (points_of s.uses) sound.rising (rising_points s.uses) (λ t. sound.tied t ∙ sym (sum_points s.uses t sound.bounded))

-- what a shift takes, in terms of the uses
pub use_cost : (parts : ℕ → ℕ) (change look search before after from to : ℕ) (s v : Standing) (ps : List Point) (spans : List Span) (d back D B M : ℤ) → IsSound s ps spans → s ≡ v → M ≡ s.most → D ≡ d → B ≡ back
    → after ≤ before + shift_steps parts change look search (Above M) from to D B ps → after ≤ before + use_steps parts change look search v from to d back
use_cost parts change look search before after from to s v ps spans d back D B M sound same most one two cost =
    let e : shift_steps parts change look search (Above M) from to D B ps ≡ use_steps parts change look search v from to d back =
    ap (λ l. shift_steps parts change look search (Above M) from to D B l) (points_are s ps spans sound)
    ∙ ap (λ m. shift_steps parts change look search (Above m) from to D B (points_of s.uses)) most
    ∙ ap (λ x. shift_steps parts change look search (Above s.most) from to x B (points_of s.uses)) one
    ∙ ap (λ x. shift_steps parts change look search (Above s.most) from to d x (points_of s.uses)) two
    ∙ ap (λ w. use_steps parts change look search w from to d back) same in
    subst (λ n. after ≤ before + n) e cost

-- a number as the program holds it
abbrev pub held : ℤ → ℤ
held z = to_z w64 (of_z w64 z)

-- what is known where a change begins
pub record IsReady (s : Standing) (ps : List Point) (spans : List Span) (from to : ℕ) (d : ℤ) (note : Noted Use) : Type 0 where
  pub unspoiled : s.spoiled ≡ false
  pub sound : IsSound s ps spans
  pub shift : IsShift from to d s.uses (noted same_use s.uses note)

pub ready : {s : Standing} {ps : List Point} {spans : List Span} (v : Standing) (from to : ℕ) (d : ℤ) (note : Noted Use) → s ≡ v → (s.spoiled ≡ false → IsSound s ps spans) → v.spoiled ≡ false
    → IsShift from to d v.uses (noted same_use v.uses note) → IsReady s ps spans from to d note
ready {s} v from to d note is sound unspoiled shift =
    let e : s.spoiled ≡ false = ap (λ (w : Standing). w.spoiled) is ∙ unspoiled in
    record { unspoiled = e; sound = sound e; shift = subst (λ (w : Standing). IsShift from to d w.uses (noted same_use w.uses note)) (sym is) shift }

module _ {s : Standing} {ps : List Point} {spans : List Span} {from to : ℕ} {d : ℤ} {note : Noted Use} (is : IsReady s ps spans from to d note) where
  amount : IsAmount d
  amount = (is.shift.low, is.shift.high)

  exact : held d ≡ d
  exact = raw d amount

  back : held (pos 0 -ℤ held d) ≡ neg_ℤ d
  back = raw_back d amount

  pub fits_back : SFits w64 (pos 0 -ℤ held d)
  fits_back = neg_fits d amount

  pub is_back : held (pos 0 -ℤ held d) ≡ neg_ℤ (held d)
  is_back = back ∙ ap neg_ℤ (sym exact)

  pub small_from : AreSmall (merged from (held d) ps)
  small_from = subst (λ z. AreSmall (merged from z ps)) (sym exact) (small_one s ps spans from d is.sound amount)

  pub small_to : AreSmall (merged to (held (pos 0 -ℤ held d)) (merged from (held d) ps))
  small_to = subst (λ z. AreSmall (merged to z (merged from (held d) ps))) (sym is_back) (subst (λ z. AreSmall (merged to (neg_ℤ z) (merged from z ps))) (sym exact) (small_both s ps spans from to d is.sound amount is.shift.rising))

  pub sound_after : (m : ℤ) (ps' : List Point) (spans' : List Span) → m ≡ s.most → ps' ≡ merged to (held (pos 0 -ℤ held d)) (merged from (held d) ps) → AreSpans spans'
      → ((t : ℕ) → covers spans' t ≡ mended (max s.moment from) (max (max s.moment from) (min to s.horizon)) (λ x. is_outside (Above m) (sum_to ps' x)) spans t)
      → IsSound (make false s.horizon s.most s.moment (noted same_use s.uses note)) ps' spans'
  sound_after m ps' spans' most points apart says =
      sound_shifted s (noted same_use s.uses note) ps ps' spans spans' from to d is.sound is.shift (points ∙ (ap (λ z. merged to z (merged from (held d) ps)) is_back ∙ ap (λ z. merged to (neg_ℤ z) (merged from z ps)) exact)) apart
      (λ t. subst (λ n. covers spans' t ≡ mended (max s.moment from) (max (max s.moment from) (min to s.horizon)) (λ x. is_outside (Above n) (sum_to ps' x)) spans t) most (says t))

  pub cost_after : (parts : ℕ → ℕ) (change look search before last : ℕ) (m : ℤ) (v : Standing) → m ≡ s.most → s ≡ v
      → last ≤ before + shift_steps parts change look search (Above m) from to (held d) (held (pos 0 -ℤ held d)) ps → last ≤ before + use_steps parts change look search v from to d (neg_ℤ d)
  cost_after parts change look search before last m v most same cost =
      use_cost parts change look search before last from to s v ps spans d (neg_ℤ d) (held d) (held (pos 0 -ℤ held d)) m is.sound same most exact back cost

-- what stands after one more note
pub noted_is : (notes notes' : List (Noted Use)) (note : Noted Use) → notes' ≡ notes ++ note ∷ [] → standing same_use notes' ≡ noted same_use (standing same_use notes) note
noted_is notes notes' note is = ap (standing same_use) is ∙ standing-push same_use [] notes note

-- a use that comes
pub came : (xs : List Use) (from to : ℕ) (d : ℤ) → IsUse (use_of from to d) → length xs ≤ 319999 → Each IsUse xs → IsShift from to (held d) xs (noted same_use xs (Came (use_of from to (held d))))
came xs from to d is few bounded =
    let u = use_of from to d in
    subst (λ z. IsShift from to z xs (xs ++ use_of from to z ∷ [])) (sym (raw d (amount_of u is))) (shift_more xs u is few bounded)

-- a use that goes
pub amount_went : (xs : List Use) (from to : ℕ) (d : ℤ) → stands same_use (use_of from to d) xs ≡ true → Each IsUse xs → IsAmount d
amount_went xs from to d has bounded = let u = use_of from to d in amount_of u (each-stands IsUse same_use same_exact xs u bounded has)

pub went : (xs : List Use) (from to : ℕ) (d : ℤ) → stands same_use (use_of from to d) xs ≡ true → length xs ≤ 320000 → Each IsUse xs
    → IsShift from to (held (pos 0 -ℤ held d)) xs (noted same_use xs (Went (use_of from to (held d))))
went xs from to d has few bounded =
    let am = amount_went xs from to d has bounded in
    subst (λ z. IsShift from to z xs (without same_use (use_of from to (held d)) xs)) (sym (raw_back d am))
    (subst (λ z. IsShift from to (neg_ℤ d) xs (without same_use (use_of from to z) xs)) (sym (raw d am)) (shift_less xs (use_of from to d) has few bounded))
