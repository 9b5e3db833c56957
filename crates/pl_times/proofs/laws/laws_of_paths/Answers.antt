use Rattle.pl_times.proofs.PathLaws.{path_meets}
use Rattle.pl_times.proofs.laws.laws_of_paths.Goals as goal

pub returns : goal.returns
returns c = λ net from to most es path times solution. path_meets net times solution from to most es path
