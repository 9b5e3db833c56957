-- Between two points that follow each other a sum stays as it is.
use Rattle.std.proofs.Common.{◌≡◌, ℕ, suc, ◌+◌, ◌<◌, ◌≤◌, Bool, true, false, List, [], ◌∷◌, refl, ap, arith, cond, ◌+ℤ◌, leb, Some, None, Option}
use Rattle.std.proofs.lemmas.Bool.{leb-true, leb-false, le-leb, lt-leb}
use Rattle.std.proofs.lemmas.Int.{ints}
use Rattle.pl_points.specs.Points.{Point, sum_to, first_from, RiseFrom}
use Rattle.pl_points.proofs.PointLists.{sum_before}

-- what the first point after a moment says of the sums
abbrev pub Stays : List Point → ℕ → Option Point → Type 0
Stays ps at None = (t : ℕ) → at ≤ t → sum_to ps t ≡ sum_to ps at
Stays ps at (Some p) = (at < p.0) × ((t : ℕ) → at ≤ t → t < p.0 → sum_to ps t ≡ sum_to ps at) × (sum_to ps p.0 ≡ sum_to ps at +ℤ p.1)

-- a point before it changes both sides alike
stays_more : (p : Point) (ps : List Point) (at : ℕ) (r : Option Point) → p.0 ≤ at → Stays ps at r → Stays (p ∷ ps) at r
stays_more p ps at None le stays = λ t low.
    let e : leb p.0 t ≡ true = le-leb p.0 t (omega (arith, le, low)) in
    let f : leb p.0 at ≡ true = le-leb p.0 at le in
    rw e (rw f (ap (λ z. p.1 +ℤ z) (stays t low)))
stays_more p ps at (Some q) le stays = (
  stays.0,
  (λ t low high.
      let e : leb p.0 t ≡ true = le-leb p.0 t (omega (arith, le, low)) in
      let f : leb p.0 at ≡ true = le-leb p.0 at le in
      rw e (rw f (ap (λ z. p.1 +ℤ z) (stays.1 t low high)))),
  (let e : leb p.0 q.0 ≡ true = le-leb p.0 q.0 (omega (arith, le, stays.0)) in
      let f : leb p.0 at ≡ true = le-leb p.0 at le in
      rw e (rw f (omega (arith, ints, stays.2)))),
)

-- a point after it is the first
stays_here : (p : Point) (ps : List Point) (at : ℕ) → at < p.0 → RiseFrom (suc p.0) ps → Stays (p ∷ ps) at (Some p)
stays_here p ps at lt rising = (
  lt,
  (λ t low high.
      let e : leb p.0 t ≡ false = lt-leb p.0 t high in
      let f : leb p.0 at ≡ false = lt-leb p.0 at lt in
      rw e (rw f (omega (arith, ints, sum_before (suc p.0) ps t rising (omega (arith, high)), sum_before (suc p.0) ps at rising (omega (arith, lt)))))),
  (let e : leb p.0 p.0 ≡ true = le-leb p.0 p.0 (omega arith) in
      let f : leb p.0 at ≡ false = lt-leb p.0 at lt in
      rw e (rw f (omega (arith, ints, sum_before (suc p.0) ps p.0 rising (omega arith), sum_before (suc p.0) ps at rising (omega (arith, lt)))))),
)

pub stays : (c at : ℕ) (ps : List Point) → RiseFrom c ps → Stays ps at (first_from ps (at + 1))
stays c at [] rising = λ t low. refl
stays c at (p ∷ ps) rising = cases (leb (at + 1) p.0) refl (stays (suc p.0) at ps rising.2)
  where
    cases : (b : Bool) → leb (at + 1) p.0 ≡ b → Stays ps at (first_from ps (at + 1)) → Stays (p ∷ ps) at (cond b (Some p) (first_from ps (at + 1)))
    cases true e more = stays_here p ps at (omega (arith, leb-true (at + 1) p.0 e)) rising.2
    cases false e more = stays_more p ps at (first_from ps (at + 1)) (omega (arith, leb-false (at + 1) p.0 e)) more
