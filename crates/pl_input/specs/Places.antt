-- Where a reader stands.
use Rattle.std.specs.Prelude.{ℕ, List, Option}
use Rattle.pl_io.specs.Lines.{ahead}
use Rattle.pl_io.specs.Reader.{Reader}

-- a reader with the bytes that are ahead of it
pub record Place : Type 0 where
  pub reader : Reader
  pub ahead : Option (List ℕ)

abbrev pub place_of : Reader → Option (List ℕ) → Place
place_of r left = record { reader = r; ahead = ahead r.held left }
