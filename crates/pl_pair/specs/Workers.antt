-- How the feeder holds its workers.
use Rattle.std.specs.Prelude.{◌≡◌, List, map}
use Rattle.std.specs.List.{All}
use Rattle.pl_locked.specs.declared.plan.SharedPlan.{SharedPlan}
use Rattle.pl_pair.specs.declared.duty.Duty.{Duty}
use Rattle.pl_pair.specs.declared.hands.Hand.{Hand}
use Rattle.pl_pair.specs.declared.hands.Hand.TheVariants.{Away, Here}
use Rattle.pl_pair.specs.declared.hands.Hands.{Hands}
use Rattle.pl_pair.specs.Served.{IsServed}

-- a worker in a thread of its own, which promises that it is one of the plan, or that worker
abbrev pub IsHand : SharedPlan → Hand → Type 0
IsHand plan (Away child) = child.promise.plan.now ≡ plan
IsHand plan (Here w) = IsServed plan w

-- what the worker was hired for
abbrev pub duty_of : Hand → Duty
duty_of (Away child) = child.promise.duty
duty_of (Here w) = w.duty

-- each is a worker of the plan
abbrev pub AreHands : SharedPlan → Hands → Type 0
AreHands plan hands = All (IsHand plan) hands.all.items

-- what the workers were hired for, in order
abbrev pub duties_of : Hands → List Duty
duties_of hands = map duty_of hands.all.items

-- each is hired for what it was hired for
abbrev pub SameDuties : Hands → Hands → Type 0
SameDuties old new = duties_of new ≡ duties_of old
