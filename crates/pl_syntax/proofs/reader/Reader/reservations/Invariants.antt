use Rattle.std.proofs.Common.{◌≡◌, ◌-◌, length, []}
use Rattle.pl_syntax.specs.Parsing.{many_by}
use Rattle.pl_syntax.specs.Reading.{reservation_at, is_reservation}
use Rattle.pl_syntax.proofs.reader.Reader.reservations.Given as goal

-- the rest gives what the whole gives
abbrev pub invariant-reservations : goal.invariant-reservations
invariant-reservations l =
    many_by is_reservation (reservation_at 32 32) (l.end - l.counter) l.reservations l.self.rest.now
    ≡ many_by is_reservation (reservation_at 32 32) (length l.fn.self.rest.now) [] l.fn.self.rest.now
