-- How large a trial of a timeline may be.
use Rattle.std.specs.Prelude.{ℕ, ◌≤◌}

-- So many things are on the timeline, from 40 to the most, and one more comes and goes at no more than so many places.
pub record CanTry (most count places changes : ℕ) : Type 0 where
  pub some : 40 ≤ count
  pub few : count ≤ most
  pub in_place : changes ≤ places
