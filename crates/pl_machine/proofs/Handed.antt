-- Moves that are handed in, and candidates.
use Rattle.std.proofs.Common.{◌≡◌, ◌+◌, ◌≤◌, List, [], ◌∷◌, Bool, true, false, not, ◌&&◌, ◌||◌, nat_lt, All, Option, Some, None, if◌then◌else◌, refl, sym, subst, arith}
use Rattle.std.specs.List.{list_any}
use Rattle.std.specs.Prelude.{Result, Ok, Err, OnOk}
use Rattle.std.proofs.lemmas.Bool.{ltb-true}
use Rattle.std.proofs.lemmas.List.Elements.{All-head, All-tail}
use Rattle.pl_conflict.specs.declared.conflict.Conflict.{Conflict}
use Rattle.pl_conflict.specs.Order.{has}
use Rattle.pl_model.specs.declared.whole.Model.{Model}
use Rattle.pl_plan.specs.declared.repair.RepairMove.{RepairMove}
use Rattle.pl_plan.specs.declared.repair.RepairMove.TheVariants as repair
use Rattle.pl_entry.specs.Bounds.{IsMoveInRange}
use Rattle.pl_entry.specs.declared.reply.Reply.{Reply}
use Rattle.pl_entry.specs.declared.reply.Reply.TheVariants as reply
use Rattle.pl_semantics.specs.declared.plan_state.PlanState.{PlanState}
use Rattle.pl_semantics.specs.declared.refusal.Refusal.{Refusal}
use Rattle.pl_semantics.specs.declared.refusal.Refusal.TheVariants as refusal
use Rattle.pl_semantics.specs.Conflicts.{conflicts_of}
use Rattle.pl_semantics.specs.Moves.{is_proper, refusal_of}
use Rattle.pl_semantics.specs.Candidates.{candidates_of, same_move}
use Rattle.pl_semantics.proofs.Sifting.{proper}
use Rattle.pl_cand.proofs.Same.{one_move}
use Rattle.pl_machine.specs.declared.change.Change.TheVariants.{Repair}
use Rattle.pl_machine.specs.Repairs.{IsMoveOf, FitsTypes}
use Rattle.pl_machine.specs.Changes.{CanChange}
use Rattle.pl_entry.specs.declared.event.Event.TheVariants as event
use Rattle.pl_semantics.specs.Whole.{IsWhole}
use Rattle.pl_moves.specs.Keeping.{KeepsCommitted}
use Rattle.pl_moves.proofs.Keeping.{keeps}
use Rattle.pl_machine.specs.declared.stop.Stop.{Stop}
use Rattle.pl_machine.specs.World.{World}
use Rattle.pl_machine.specs.Sound.{State}
use Rattle.pl_machine.specs.Taking.{Answers}
use Rattle.pl_machine.specs.Step.{is_candidate, refusal_reply, fix_reply, is_enabled, after_fix}

-- ---- the numbers of a move

pub in_range : (m : Model) (r : RepairMove) → IsMoveOf m r → FitsTypes r → IsMoveInRange m r
in_range m (repair.Add kind start goal) is fits = (is, fits.0, fits.1, fits.2)
in_range m (repair.Delete id) is fits = fits
in_range m (repair.Shift id start) is fits = fits
in_range m (repair.Detail id alternative) is fits = fits
in_range m (repair.Abstract id) is fits = fits
in_range m (repair.Assign id param value) is fits = (fits.0, fits.1, is)
in_range m (repair.Drop goal) is fits = fits

-- ---- candidates are proper

found_by : (s : PlanState) (m x : RepairMove) (rest b : Bool) → same_move m x ≡ b → is_proper s x ≡ true → (rest ≡ true → is_proper s m ≡ true) → (b || rest) ≡ true → is_proper s m ≡ true
found_by s m x rest true is here later e = subst (λ y. is_proper s y ≡ true) (sym (one_move m x is)) here
found_by s m x rest false is here later e = later e

found_proper : (s : PlanState) (m : RepairMove) (ms : List RepairMove) → All (λ x. is_proper s x ≡ true) ms → list_any (same_move m) ms ≡ true → is_proper s m ≡ true
found_proper s m [] all e = absurd (cc)
found_proper s m (x ∷ ms) all e =
    found_by s m x (list_any (same_move m) ms) (same_move m x) refl (All-head (λ y. is_proper s y ≡ true) x ms all) (found_proper s m ms (All-tail (λ y. is_proper s y ≡ true) x ms all)) e

pub candidate_proper : (s : PlanState) (k : Conflict) (m : RepairMove) → is_candidate s k m ≡ true → is_proper s m ≡ true
candidate_proper s k m e = found_proper s m (candidates_of s k) (proper s k) e

-- ---- a repair that is answered by ok

not_refused : (o : Option Refusal) → refusal_reply o ≡ reply.Done → o ≡ None
not_refused None e = refl
not_refused (Some (refusal.Locked id)) e = absurd (cc)
not_refused (Some (refusal.Behind id)) e = absurd (cc)
not_refused (Some (refusal.Beyond id)) e = absurd (cc)
not_refused (Some refusal.Full) e = absurd (cc)

done_by : (stands candidate : Bool) (r : Reply) → (if not stands then reply.Stale else if not candidate then reply.NotFor else r) ≡ reply.Done → (candidate ≡ true) × (r ≡ reply.Done)
done_by false candidate r e = absurd (cc)
done_by true false r e = absurd (cc)
done_by true true r e = (refl, e)

allowed : (s : PlanState) (k : Conflict) (m : RepairMove) → fix_reply s k m ≡ reply.Done → (is_proper s m ≡ true) × (refusal_of s m ≡ None)
unfolding fix_reply
allowed s k m done =
    let both = done_by (has k (conflicts_of s)) (is_candidate s k m) (refusal_reply (refusal_of s m)) done in
    (candidate_proper s k m both.0, not_refused (refusal_of s m) both.1)

pub can_repair : (s : PlanState) (k : Conflict) (m : RepairMove) → fix_reply s k m ≡ reply.Done → s.next_id ≤ 3999999000 → CanChange s (Repair m)
can_repair s k m done few = let both = allowed s k m done in (both.0, both.1, few)

-- a refused repair counts a turn alone
pub refused_fix : (w : World) (m : RepairMove) (r : Reply) → (r ≡ reply.Done → ⊥) → after_fix w m r ≡ record w { turn = w.turn + 1 }
refused_fix w m reply.Done other = absurd (other refl)
refused_fix w m _ other = refl

last_of : (a b c : Bool) → (a && (b && c)) ≡ true → c ≡ true
last_of true true c e = e
last_of true false c e = absurd (cc)
last_of false b c e = absurd (cc)

-- a repair that may be tried has a turn left
pub turn_left : (w : World) (k : Conflict) (m : RepairMove) → is_enabled w (event.Fix k m) ≡ true → w.turn + 1 ≤ w.options.turns
turn_left w k m enabled = let less = ltb-true w.turn w.options.turns (last_of (not w.closed) (not w.rested) (nat_lt w.turn w.options.turns) enabled) in omega (arith, less)

-- ---- what is committed stays

pub keeps_itself : (s : PlanState) → KeepsCommitted s s
keeps_itself s = record { model = refl; moment = refl; committed = refl; bases = refl; live_limit = refl; stands = λ id a here c. here; values = λ id a here c. refl; ends = λ id a here c. refl; no_other = λ id a here c. here }

fix_keeps : (w : World) (k : Conflict) (m : RepairMove) (r : Reply) → IsWhole w.state → fix_reply w.state k m ≡ r → KeepsCommitted w.state (after_fix w m r).state
fix_keeps w k m reply.Done whole is = let both = allowed w.state k m is in keeps w.state m whole both.0 both.1
fix_keeps w k m _ whole is = keeps_itself w.state

pub committed_stays : (old : State) (k : Conflict) (m : RepairMove) (r : Result Reply Stop) (new : State) → IsWhole old.world.state → Answers old (event.Fix k m) r new → OnOk r (KeepsCommitted old.world.state new.world.state)
committed_stays old k m (Ok answer) new whole a = subst (λ (w : World). KeepsCommitted old.world.state w.state) (sym a.1.step.leaves) (fix_keeps old.world k m (fix_reply old.world.state k m) whole refl)
committed_stays old k m (Err e) new whole a = tt
