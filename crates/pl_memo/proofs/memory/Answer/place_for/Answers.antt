use Rattle.std.proofs.Common.{◌≡◌, List, map, ap, ◌∙◌, sym, subst}
use Rattle.pl_plan.specs.declared.activity.Activity.{Activity}
use Rattle.pl_memo.specs.Renames.{OnlyRenames, renamed_move}
use Rattle.pl_memo.proofs.Twins.{answered, same_length}
use Rattle.pl_memo.proofs.memory.Answer.place_for.Goals as goal

pub are_renamed-requires-clause-twins : goal.are_renamed-requires-clause-twins
are_renamed-requires-clause-twins c = same_length c.args.self.now.since.gone c.args.self.now.since.placed (c.only_renames.ensures c.if-not-only_renames.false).twins

pub returns : goal.returns
returns c =
    let a = c.args.self.now in
    let s = c.args.s.now in
    let only : OnlyRenames a.since s.plan.activities = subst (λ (l : List Activity). OnlyRenames a.since l) c.activities.ensures.value (c.only_renames.ensures c.if-not-only_renames.false) in
    let are : map (renamed_move a.since) a.moves ≡ c.args.moves.now = ap (map (renamed_move a.since)) (sym c.as_slice.ensures) ∙ c.are_renamed.ensures c.if-not-are_renamed.false in
    answered s a c.args.moves.now c.requires.whole c.requires.holds only are c.requires.proper
