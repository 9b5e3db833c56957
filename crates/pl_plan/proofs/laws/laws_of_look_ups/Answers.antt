use Rattle.std.proofs.Common.{arith}
use Rattle.pl_plan.proofs.Ids.{rising-placed, rising-without, rising-exchanged}
use Rattle.pl_plan.proofs.Lookups.{found-placed, found-without, found-exchanged}
use Rattle.pl_plan.proofs.Kept.{found-kept}
use Rattle.pl_plan.proofs.Ends.{end_exchanged}
use Rattle.pl_plan.proofs.ByLookUps.{filter_rising}
use Rattle.pl_plan.proofs.LookUpLaws.{same_activities}
use Rattle.pl_plan.proofs.laws.laws_of_look_ups.Goals as goal

pub returns : goal.returns
returns c = record {
  same = same_activities;
  placed = found-placed;
  without = λ xs rising id q. found-without id 0 xs q rising;
  exchanged = found-exchanged;
  ended = λ xs rising id moment a here. end_exchanged id moment xs 0 a rising here;
  kept = found-kept;
  rising_placed = λ a xs rising none. rising-placed a 0 xs none (omega arith) rising;
  rising_without = λ id xs rising. rising-without id 0 xs rising;
  rising_exchanged = λ a xs rising. rising-exchanged a 0 xs rising;
  rising_kept = λ stays xs rising. filter_rising (λ a. stays a.id) 0 xs rising;
}
