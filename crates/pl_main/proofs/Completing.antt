-- Any job that can be done is done.
use Rattle.std.proofs.Common.{◌≡◌, ℕ, List, Option, Some, None}
use Rattle.pl_main.specs.declared.command.Task.{Task}
use Rattle.pl_main.specs.declared.command.Task.TheVariants as task
use Rattle.pl_main.specs.declared.form.Form.TheVariants as which
use Rattle.pl_main.specs.Limits.{Completes}
use Rattle.pl_main.specs.Statuses.{SaysKnown}
use Rattle.pl_main.specs.RunKinds.{solo_run}
use Rattle.pl_main.proofs.Jobs.{IsJobStatus}
use Rattle.pl_main.proofs.Causes.{run_completes, check_completes, demo_completes}
use Rattle.pl_main.proofs.Apart.{decides}

pub completes : (t : Task) (input : Option (List ℕ)) (left held now : Option (List ℕ)) (status : ℕ) → SaysKnown t input left held now status → IsJobStatus status → (status ≡ 4 → ⊥) → (status ≡ 5 → ⊥)
    → Completes t input status
completes task.Check None left held now status says is no_read no_write = tt
completes task.Replay None left held now status says is no_read no_write = tt
completes task.Replay (Some input) left held now status says is no_read no_write = decides which.Replay input left held now status says is no_read no_write
completes task.Report None left held now status says is no_read no_write = tt
completes task.Report (Some input) left held now status says is no_read no_write = decides which.Report input left held now status says is no_read no_write
completes (task.Flex id) None left held now status says is no_read no_write = tt
completes (task.Flex id) (Some input) left held now status says is no_read no_write = decides (which.Flex id) input left held now status says is no_read no_write
completes task.Forecast None left held now status says is no_read no_write = tt
completes task.Forecast (Some input) left held now status says is no_read no_write = decides which.Forecast input left held now status says is no_read no_write
completes (task.Improve steps) None left held now status says is no_read no_write = tt
completes (task.Improve steps) (Some input) left held now status says is no_read no_write = decides (which.Improve steps) input left held now status says is no_read no_write
completes (task.Solo turns) input left held now status says is no_read no_write = run_completes (solo_run turns) input left held now status says is no_read no_write
completes task.Check (Some input) left held now status says is no_read no_write = λ can. check_completes input left held now status says is can no_read no_write
completes (task.Demo goals) input left held now status says is no_read no_write = demo_completes goals held now status says is no_write
