-- The end of an input.
use Rattle.std.proofs.Common.{◌≡◌, ℕ, List, [], ◌∷◌, ◌++◌, Bool, true, false, refl, ◌∙◌, ap}
use Rattle.pl_model.specs.declared.whole.Model.{Model}
use Rattle.pl_entry.specs.declared.event.Event.{Event}
use Rattle.pl_entry.specs.declared.reply.Reply.TheVariants as reply
use Rattle.pl_entry.specs.declared.entry.Entry.{Entry}
use Rattle.pl_entry.specs.Bounds.{IsEventInRange, IsReplyTo}
use Rattle.pl_machine.specs.declared.ahead.Ahead.{Ahead}
use Rattle.pl_machine.specs.declared.id_range.IdRange.{IdRange}
use Rattle.pl_machine.specs.World.{World}
use Rattle.pl_machine.specs.Step.{after, reply_of}
use Rattle.pl_machine.specs.Taking.{IsOpen, Takes}
use Rattle.pl_machine.specs.Sound.{State, IsSound}
use Rattle.pl_machine.proofs.Runs.{sound_same}

pub sound_ended : (s : State) {spoiled : Bool} {m : Model} {log : List Entry} {w : World} {due : List ℕ} {sent : ℕ} {ahead : Ahead} {ranges : List IdRange} (spoiled2 : Bool) (happened : Event)
    → record { spoiled = spoiled; model = m; log = log; world = w } ≡ s → IsSound spoiled m log w due sent ahead ranges → IsOpen s happened
    → IsEventInRange s.model happened → IsReplyTo s.model happened reply.Ended → reply.Ended ≡ reply_of s.world happened → record s.world { done = true } ≡ after s.world happened
    → IsSound spoiled2 m (log ++ record { event = happened; reply = reply.Ended } ∷ []) (record w { done = true }) due sent ahead ranges
sound_ended s {spoiled} {m} {log} {w} {due} {sent} spoiled2 happened is sound may in_range replies answers leaves =
    sound_same s spoiled2 (record w { done = true }) happened reply.Ended is sound may in_range replies answers (ap (λ (t : State). record t.world { done = true }) is ∙ leaves) refl refl sound.turn

pub took_ended : (s : State) {spoiled : Bool} {m : Model} {log : List Entry} {w : World} (spoiled2 : Bool) (happened : Event)
    → record { spoiled = spoiled; model = m; log = log; world = w } ≡ s → IsOpen s happened → reply.Ended ≡ reply_of s.world happened → record s.world { done = true } ≡ after s.world happened → spoiled2 ≡ false
    → IsOpen s happened × Takes s happened reply.Ended (record { spoiled = spoiled2; model = m; log = log ++ record { event = happened; reply = reply.Ended } ∷ []; world = record w { done = true } })
took_ended s {spoiled} {m} {log} {w} spoiled2 happened is may answers leaves unspoiled = (
  may,
  record {
    step = record { enabled = may.enabled; answers = answers; leaves = ap (λ (t : State). record t.world { done = true }) is ∙ leaves };
    log = ap (λ (t : State). t.log ++ record { event = happened; reply = reply.Ended } ∷ []) is;
    spoiled = unspoiled;
    model = ap (λ (t : State). t.model) is;
    options = ap (λ (t : State). t.world.options) is;
  },
)
