use Rattle.std.proofs.Common.{◌∷◌, refl}
use Rattle.pl_text.specs.declared.fault.TextFault.TheVariants.{BadByte}
use Rattle.pl_text.specs.Pieces.{end_of}
use Rattle.pl_text.proofs.PieceLemmas.{stops_at, stops_at_number, stops_at_name}
use Rattle.pl_text.proofs.laws.faults_are_complete.Goals as goal

pub returns : goal.returns
returns c = record {
  fault = λ pieces rest bad are is. stops_at pieces rest bad are is;
  byte = λ pieces b more are is. stops_at pieces (b ∷ more) (BadByte (end_of 0 pieces)) are (refl, is);
  number = λ pieces digits more are all long. stops_at_number pieces digits more are all long;
  name = λ pieces b bs more are is all long. stops_at_name pieces b bs more are is all long;
}
