-- Why repair is to rest.
use Rattle.std.proofs.Common.{◌≡◌, List, [], ◌∷◌, Bool, true, false, Some, None, refl, ◌∙◌, ap}
use Rattle.std.specs.Prelude.{◌==◌}
use Rattle.pl_conflict.specs.declared.conflict.Conflict.{Conflict}
use Rattle.pl_entry.specs.declared.reply.Reason.{Reason}
use Rattle.pl_entry.specs.declared.reply.Reason.TheVariants as reason
use Rattle.pl_semantics.specs.Conflicts.{conflicts_of}
use Rattle.pl_semantics.specs.Legal.{is_stuck}
use Rattle.pl_machine.specs.World.{World, reason_by, plain_reason_of, reason_of}

plain_by : (ks : List Conflict) (spent stuck : Bool) (r : Reason) → reason_by ks spent false ≡ Some r → reason_by ks spent stuck ≡ Some r
plain_by [] spent stuck r e = e
plain_by (k ∷ ks) true stuck r e = e
plain_by (k ∷ ks) false stuck r e = absurd (cc)

stuck_by : (ks : List Conflict) (spent : Bool) → reason_by ks spent false ≡ None → reason_by ks spent true ≡ Some reason.Stuck
stuck_by [] spent e = absurd (cc)
stuck_by (k ∷ ks) true e = absurd (cc)
stuck_by (k ∷ ks) false e = refl

pub plain_rests : (w : World) (r : Reason) → plain_reason_of w ≡ Some r → reason_of w ≡ Some r
plain_rests w r plain = plain_by (conflicts_of w.state) (w.turn == w.options.turns) (is_stuck w.state) r plain

pub stuck_rests : (w : World) → plain_reason_of w ≡ None → is_stuck w.state ≡ true → reason_of w ≡ Some reason.Stuck
stuck_rests w plain stuck = ap (reason_by (conflicts_of w.state) (w.turn == w.options.turns)) stuck ∙ stuck_by (conflicts_of w.state) (w.turn == w.options.turns) plain

pub goes_on : (w : World) → plain_reason_of w ≡ None → is_stuck w.state ≡ false → reason_of w ≡ None
goes_on w plain stuck = ap (reason_by (conflicts_of w.state) (w.turn == w.options.turns)) stuck ∙ plain
