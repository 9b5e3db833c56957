use Rattle.pl_points.proofs.Alike.{total_alike, stands_alike}
use Rattle.pl_points.proofs.Totals.{total-without}
use Rattle.pl_points.proofs.laws.laws_of_standing.Goals as goal

pub returns-clause-totals : goal.returns-clause-totals
returns-clause-totals g c = λ f xs ys alike. total_alike f xs ys alike

pub returns-clause-alike : goal.returns-clause-alike
returns-clause-alike g c = λ same item xs ys alike. stands_alike same item xs ys alike

pub returns-clause-others : goal.returns-clause-others
returns-clause-others g c = λ same exact f xs item has. total-without same exact f xs item has
