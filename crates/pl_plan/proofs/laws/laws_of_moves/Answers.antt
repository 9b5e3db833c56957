use Rattle.pl_plan.proofs.MoveLaws.{put_back, rooted_outside, fits_changed, fits_deleted, fits_abstracted}
use Rattle.pl_plan.proofs.ByLookUps.{fits_by_look_ups}
use Rattle.pl_plan.proofs.LookUpLaws.{owes_by_fits, fits_added}
use Rattle.pl_plan.proofs.Detailing.{fits_detailed}
use Rattle.pl_plan.proofs.laws.laws_of_moves.Goals as goal

pub returns : goal.returns
returns c = record { back = put_back; rooted = rooted_outside; look_ups = fits_by_look_ups; owes = owes_by_fits; added = fits_added; changed = fits_changed; detailed = fits_detailed; deleted = fits_deleted; abstracted = fits_abstracted }
