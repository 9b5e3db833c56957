use Rattle.std.proofs.Common.{refl}
use Rattle.pl_points.proofs.Alike.{exchange}
use Rattle.pl_points.proofs.laws.laws_of_exchanges.Goals as goal

pub returns : goal.returns
returns g c = λ same exact old new. exchange same exact old new _ _ refl refl
