-- Rows of blocks with other points in the place of one block.
use Rattle.std.specs.Prelude.{◌≡◌, ℕ, suc, ◌<◌, ◌≤◌, List, [], ◌++◌, length, take, drop, slice_index_or}
use Rattle.pl_points.specs.Points.{Point, ArePoints}
use Rattle.pl_blocks.specs.Blocks.{together, AreSized, AreFull}

-- all points with others in the place of a block
abbrev pub with_points : List (List Point) → ℕ → List Point → List Point
with_points bs place ps = together (take place bs) ++ (ps ++ together (drop (suc place) bs))

-- points that can come into the place of a block: at most one less than it has, and few enough for two blocks
pub record Fit (bs : List (List Point)) (place : ℕ) (ps : List Point) : Type 0 where
  pub sized : AreSized bs
  pub full : AreFull 33 bs
  pub there : place < length bs
  pub least : length (slice_index_or bs place []) ≤ suc (length ps)
  pub most : length ps ≤ 65
  pub points : ArePoints (with_points bs place ps)

-- the row after that
pub record IsMended (bs : List (List Point)) (place : ℕ) (ps : List Point) (new : List (List Point)) : Type 0 where
  pub sized : AreSized new
  pub full : AreFull 33 new
  pub whole : together new ≡ with_points bs place ps
  pub more : length new ≤ suc (length bs)
