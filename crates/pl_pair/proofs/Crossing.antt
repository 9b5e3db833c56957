-- A worker may be handed back from a thread, and what its thread is handed may be sent to it.
use mathlib.Core.List.{List, [], ◌∷◌}
use Prim.Native.Nat.{ℕ}
use mir.Syntax.{ty_unit, named}
use base.Fml.{Lft}
use denote.RattleType.{RattleType}
use denote.Exit
use denote.Ref.{ShrRef}
use denote.Param.{param, arg}
use denote.Param.Send.{IsSend, IsSync, AllSend, param_send, arg_send, struct_send, recorded_send, shr_send, sendable}
use denote.Struct.Declared.{shape}
use denote.Struct.Field.{rows}
use denote.Struct.Struct.{Struct}
use denote.Struct.Tuple.{parts, type_at, TupleAt}
use Rattle.std.proofs.Crossing.{crosses}
use Rattle.std.specs.contracts.alloc.Global as Heap
use Rattle.std.specs.contracts.sync.atomic.AtomicBool
use Rattle.pl_turn.proofs.pass.Pass.TheSendSync as pass
use Rattle.pl_turn.specs.contracts.pass.Pass
use Rattle.pl_machine.proofs.stop.Stop.TheSendSync as stop
use Rattle.pl_acts.proofs.role.Role.TheSendSync as role
use Rattle.pl_pair.proofs.duty.Duty.TheSendSync as duty
use Rattle.pl_acts.proofs.Crossing.{held_whole}
use Rattle.pl_locked.proofs.Crossing.{plan_sync, pass_send}
use Rattle.pl_acts.specs.contracts.held.Held
use Rattle.pl_acts.specs.contracts.noted.Noted
use Rattle.pl_locked.specs.contracts.plan.SharedPlan
use Rattle.pl_pair.specs.contracts.duty.Duty
use Rattle.pl_pair.specs.contracts.worker.Worker

pass_fields : IsSend (Pass.the_field Held.the_row Noted.the_row).row
pass_fields = pass.the_field_send Held.the_row Noted.the_row held_whole

pub worker_send : IsSend Worker.the_field.row
worker_send = struct_send (shape Worker.the_type) (pass_fields, (role.the_field_send, (duty.the_field_send, (search (stop.the_send, sendable, crosses) depth 40 fits 6000, tt))))

heap_send : IsSend Heap.the_row
heap_send = search (sendable, crosses) depth 40 fits 6000

flag_sync : IsSync AtomicBool.the_row
flag_sync = search (sendable, crosses) depth 40 fits 6000

-- ---- what a thread is handed

captures_send : (Ts : List RattleType) → AllSend Ts → AllSend (rows (parts Ts))
captures_send [] s = tt
captures_send (T ∷ Ts) s = (s.0, captures_send Ts s.1)

-- a closure may be sent where each of its captures may
closure_send : (i : ℕ) (Ts : List RattleType) → AllSend Ts → IsSend (param i (arg ty_unit denote.Exit.no (TupleAt [] Ts)))
closure_send i Ts s =
    let T = type_at [] Ts in
    param_send i (arg ty_unit denote.Exit.no (TupleAt [] Ts)) (arg_send ty_unit denote.Exit.no (TupleAt [] Ts) (recorded_send (Struct (shape T)) T.D T.to T.to_one (struct_send (shape T) (captures_send Ts s))))

module _ (a b c d : Lft) (R G : RattleType) (r : IsSync R) (g : IsSync G) where
  abbrev pub worker_has : List RattleType
  worker_has =
      ShrRef (named 0) a R ∷ Heap.the_row ∷ ShrRef (named 0) b SharedPlan.the_row ∷ ShrRef (named 0) c G ∷ Pass.the_row Held.the_row Noted.the_row ∷ Duty.the_row ∷ ShrRef (named 0) d AtomicBool.the_row ∷ []

  pub hired_send : IsSend (param 2 (arg ty_unit denote.Exit.no (TupleAt [] worker_has)))
  hired_send = closure_send 2 worker_has (
    shr_send (named 0) a R r,
    (heap_send, (shr_send (named 0) b SharedPlan.the_row plan_sync, (shr_send (named 0) c G g, (pass_send, (duty.the_send, (shr_send (named 0) d AtomicBool.the_row flag_sync, tt)))))),
  )
