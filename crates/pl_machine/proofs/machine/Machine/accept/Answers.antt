use Rattle.std.proofs.Common.{◌≡◌, pos, subst, rules}
use mir.Syntax.{w64}
use mir.Val.{SFits, to_z, of_z}
use Rattle.std.proofs.lemmas.Int.{to_z-of_z}
use Rattle.pl_msg.specs.Limits.{IsWithin}
use Rattle.pl_machine.proofs.Inputs.{can_tell_level, can_tell_state}
use Rattle.pl_machine.proofs.machine.Machine.accept.Goals as goal

pub begin-requires-in-TeleLevel-clause-can : goal.begin-requires-in-TeleLevel-clause-can
begin-requires-in-TeleLevel-clause-can c =
    let s = c.args.self.now.world.state in
    let within = subst (IsWithin s.model) c.in-TeleLevel.is c.requires.within in
    let fits : SFits w64 c.in-TeleLevel.value = search rules in
    rw (to_z-of_z w64 c.in-TeleLevel.value fits) (can_tell_level s c.in-TeleLevel.timeline c.in-TeleLevel.value within.0 within.1 within.2 within.3)

pub begin-requires-in-TeleState-clause-can : goal.begin-requires-in-TeleState-clause-can
begin-requires-in-TeleState-clause-can c =
    let s = c.args.self.now.world.state in
    let within = subst (IsWithin s.model) c.in-TeleState.is c.requires.within in
    let fits : SFits w64 c.from.result = search rules in
    let back : to_z w64 (of_z w64 c.from.result) ≡ c.from.result = to_z-of_z w64 c.from.result fits in
    let is : to_z w64 (of_z w64 c.from.result) ≡ pos c.in-TeleState.state = cc in
    rw is (can_tell_state s c.in-TeleState.timeline c.in-TeleState.state within.0 within.1)
