-- Rows of blocks of points.
use Rattle.std.specs.Prelude.{◌≡◌, ℕ, ◌+◌, ◌-◌, get_or, ◌<◌, ◌≤◌, ◌^◌, Bool, true, ◌&&◌, List, [], ◌∷◌, ◌++◌, length, take, drop, ℤ, pos, ◌+ℤ◌}
use Rattle.std.specs.Int.{int_min, int_max}
use Rattle.pl_lists.specs.Lists.{front, back}
use Rattle.pl_points.specs.Sums.{total}
use Rattle.pl_points.specs.Points.{Point, is_before, RiseFrom, AreNear, ArePoints}

-- all points of the blocks, in order
abbrev pub together : List (List Point) → List Point
together [] = []
together (b ∷ bs) = b ++ together bs

-- whether all points lie before the moment
abbrev pub is_past : ℕ → List Point → Bool
is_past at [] = true
is_past at (p ∷ ps) = is_before at p && is_past at ps

-- how many blocks reach to the moment or behind it
abbrev pub blocks_from : List (List Point) → ℕ → ℕ
blocks_from bs at = length (back (is_past at) bs)

-- so many blocks lie whole before the moment, and those behind them do not
pub record ArePast (at : ℕ) (bs : List (List Point)) (count : ℕ) : Type 0 where
  pub bound : count ≤ length bs
  pub before : take count bs ≡ front (is_past at) bs
  pub rest : drop count bs ≡ back (is_past at) bs

abbrev pub delta_of : Point → ℤ
delta_of p = p.1

-- what the deltas add up to
abbrev pub change_of : List Point → ℤ
change_of ps = total delta_of ps

-- the least of a number and the sums along points that follow a sum
abbrev pub least_along : ℤ → ℤ → List Point → ℤ
least_along low s [] = low
least_along low s (p ∷ ps) = least_along (int_min low (s +ℤ p.1)) (s +ℤ p.1) ps

-- and the greatest
abbrev pub greatest_along : ℤ → ℤ → List Point → ℤ
greatest_along high s [] = high
greatest_along high s (p ∷ ps) = greatest_along (int_max high (s +ℤ p.1)) (s +ℤ p.1) ps

abbrev pub first_delta : List Point → ℤ
first_delta [] = pos 0
first_delta (p ∷ ps) = p.1

-- the least of the sums of the first point, of the first two, and so on
abbrev pub least_sum : List Point → ℤ
least_sum ps = least_along (first_delta ps) (pos 0) ps

-- the greatest of them
abbrev pub greatest_sum : List Point → ℤ
greatest_sum ps = greatest_along (first_delta ps) (pos 0) ps

-- of the first `count` points, at least one: their sum, and the least and greatest sum of their fronts
pub record AreSums (ps : List Point) (count : ℕ) (sum least greatest : ℤ) : Type 0 where
  pub one : 0 < count
  pub bound : count ≤ length ps
  pub adds_up : sum ≡ change_of (take count ps)
  pub lowest : least ≡ least_sum (take count ps)
  pub highest : greatest ≡ greatest_sum (take count ps)

-- a block of 1 to 64 points, with its last moment, its sum and the least and greatest sum of its fronts, and with the three sums of its first `count` points
pub record IsBlock (ps : List Point) (last : ℕ) (sum least greatest : ℤ) (count : ℕ) (sum' least' greatest' : ℤ) : Type 0 where
  pub some : 0 < length ps
  pub few : length ps ≤ 64
  pub rising : RiseFrom 0 ps
  pub near : AreNear (pos 0) ps
  pub final : last ≡ (get_or ps (length ps - 1) (0, pos 0)).0
  pub adds_up : sum ≡ change_of ps
  pub lowest : least ≡ least_sum ps
  pub highest : greatest ≡ greatest_sum ps
  pub early : AreSums ps count sum' least' greatest'

-- each block holds 1 to 64 points
abbrev pub AreSized : List (List Point) → Type 0
AreSized [] = Unit {0}
AreSized (b ∷ bs) = (0 < length b) × (length b ≤ 64) × AreSized bs

-- behind a block of so many points, each two neighbours hold more than 32 together
abbrev pub AreFull : ℕ → List (List Point) → Type 0
AreFull before [] = Unit {0}
AreFull before (b ∷ bs) = (32 < before + length b) × AreFull (length b) bs

-- a row of blocks and what all deltas add up to; the first block has no neighbour before it, so any number of points
pub record AreBlocks (bs : List (List Point)) (sum : ℤ) : Type 0 where
  pub sized : AreSized bs
  pub full : AreFull 33 bs
  pub points : ArePoints (together bs)
  pub few : length bs < 2 ^ 26
  pub adds_up : sum ≡ change_of (together bs)
