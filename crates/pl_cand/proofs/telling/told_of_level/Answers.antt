use Rattle.std.proofs.Common.{◌≡◌, ◌++◌, List, false, subst, sym, ◌∙◌}
use Rattle.std.specs.List.{flat_map}
use Rattle.pl_plan.specs.declared.activity.Activity.{Activity}
use Rattle.pl_plan.specs.declared.repair.RepairMove.{RepairMove}
use Rattle.pl_semantics.specs.Starts.{moves_of}
use Rattle.pl_cand.specs.declared.role.Role.TheVariants.{ChangesBelow}
use Rattle.pl_cand.specs.Telling.{Tells, is_addition, players_of}
use Rattle.pl_cand.proofs.Behind.{nothing_away}
use Rattle.pl_cand.proofs.telling.told_of_level.Goals as goal

pub returns : goal.returns
returns c = λ help few other.
    let s = c.args.state.now in
    let k = c.args.k.now in
    let m = c.args.mv.now in
    let users : List Activity = players_of s k.subject (ChangesBelow k.b c.args.way) in
    let none : is_addition m ≡ false = sym c.is_addition.ensures ∙ c.if-is_addition.false in
    subst (λ (l : List RepairMove). Tells (help ++ (l ++ flat_map (moves_of s) users)) m c.in_ok-told.told) (nothing_away s k.b c.args.way users) (c.in_ok-told.ensures help few (other none))
