use Rattle.std.proofs.Common.{◌≡◌, ◌++◌, List, ap, ◌∙◌, append_assoc}
use Rattle.std.specs.Prelude.{pos}
use Rattle.std.specs.List.{flat_map}
use Rattle.pl_plan.specs.declared.repair.RepairMove.{RepairMove}
use Rattle.pl_semantics.specs.Starts.{starting, shift_to, shifts_of}
use Rattle.pl_semantics.specs.Repairs.{all_assigns}
use Rattle.pl_prefs.proofs.Listed.{shifts_listed, places_found}
use Rattle.pl_prefs.proofs.changes.add_changes.Goals as goal

pub returns : goal.returns
returns c =
    let s = c.args.board.now.state in
    let a = c.args.a.now in
    let old = c.args.out.now.items in
    let starts = c.in_ok-starts.starts.items in
    let shifts : flat_map (λ start. starting s (shift_to a.id) (pos start)) starts ≡ shifts_of s a = shifts_listed s a.id starts _ (places_found s a starts c.requires.live c.in_ok-starts.ensures) in
    let first = rw (c.deref.ensures.value, c.state-state.ensures.value) at c.in_ok-add_shifts.ensures in
    let second = rw c.state-state.ensures.value at c.in_ok-add_all_assigns.ensures in
    second ∙ (ap (λ (ms : List RepairMove). ms ++ all_assigns s a) (first ∙ ap (λ (ms : List RepairMove). old ++ ms) shifts) ∙ append_assoc old (shifts_of s a) (all_assigns s a))
