-- In what order commands are sent.
use Rattle.std.specs.Prelude.{◌≡◌, ℕ, ◌≤◌, Contains, Some}
use Rattle.pl_plan.specs.declared.activity.Activity.{Activity}
use Rattle.pl_entry.specs.declared.reply.Reply.{Reply}
use Rattle.pl_entry.specs.declared.reply.Reply.TheVariants as reply
use Rattle.pl_semantics.specs.PlanStates.{found}
use Rattle.pl_machine.specs.World.{World}

-- no activity whose command was sent starts after this moment
abbrev pub IsLastStart : World → ℕ → Type 0
IsLastStart w start = (id : ℕ) (a : Activity) → Contains w.dispatched id → found w.state id ≡ Some a → a.start ≤ start

-- a command gives no earlier start than one that was sent before it
abbrev pub StartsLast : World → Reply → Type 0
StartsLast w (reply.Sent id kind start values) = IsLastStart w start
StartsLast w _ = ⊥
