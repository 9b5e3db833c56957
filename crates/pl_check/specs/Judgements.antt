-- A judgement passes or is a fault. Judgements in the order of the text: the first fault wins.
use Rattle.std.specs.Prelude.{ℕ, ◌+◌, nat_le, Bool, true, false, List, [], ◌∷◌, Result, Ok, Err, if◌then◌else◌}
use Rattle.pl_lists.specs.Judgements as judged
pub use Rattle.pl_lists.specs.Judgements.{◌>>=◌, ◌>>◌, unless, each, each_made}
use Rattle.pl_check.specs.declared.fault.ModelFault.{ModelFault}
use Rattle.pl_check.specs.declared.fault.ModelFault.TheVariants as fault
use Rattle.pl_check.specs.declared.fault.What.{What}

abbrev pub Judged : Type 0 → Type 0
Judged X = Result X ModelFault

abbrev pub Judgement : Type 0
Judgement = Judged (Unit {0})

abbrev pub pass : Judgement
pass = Ok tt

-- each item from this place on is judged, and the one at the limit's place is one too many
abbrev pub at_most_from : {X : Type 0} → ℕ → ℕ → What → (X → Judgement) → List X → Judgement
at_most_from place limit what judge [] = pass
at_most_from place limit what judge (x ∷ xs) =
    if nat_le limit place then Err (fault.TooMany what) else judge x >> at_most_from (place + 1) limit what judge xs

abbrev pub at_most : {X : Type 0} → ℕ → What → (X → Judgement) → List X → Judgement
at_most limit what judge xs = at_most_from 0 limit what judge xs

-- the one fault that is not the model's
abbrev pub is_memory : ModelFault → Bool
is_memory fault.Memory = true
is_memory e = false

-- A call gave what is meant, or ran out of memory.
abbrev pub Fails : {X : Type 0} → ModelFault → Judged X → Type 0
Fails e meant = judged.Fails is_memory e meant

abbrev pub Gives : {X : Type 0} → Judged X → Judged X → Type 0
Gives result meant = judged.Gives is_memory result meant

-- of what is judged alone
abbrev pub GivesSo : {X : Type 0} → Judged X → Judgement → Type 0
GivesSo result meant = judged.Shows is_memory (λ _. tt) result meant
