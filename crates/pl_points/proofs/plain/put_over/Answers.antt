use Rattle.std.proofs.Common.{◌≡◌, suc, ◌++◌, take, drop, ap, sym, ◌∙◌}
use mir.Val.{to_z, of_z}
use mir.Syntax.{w64}
use Rattle.std.proofs.lemmas.Int.{to_z-of_z}
use Rattle.std.proofs.lemmas.List.{set_split}
use Rattle.pl_points.proofs.PointLists.{put_some}
use Rattle.pl_points.proofs.plain.put_over.Goals as goal

pub returns-else-delta-eq0 : goal.returns-else-delta-eq0
returns-else-delta-eq0 c =
    let ps = c.args.points.now.items in
    let is : to_z w64 (of_z w64 c.args.delta) ≡ c.args.delta = to_z-of_z w64 c.args.delta c.ranges.delta in
    rw is (set_split ps c.args.place (c.args.at, c.args.delta) c.requires
    ∙ ap (λ l. take c.args.place ps ++ l) (sym (put_some c.args.at c.args.delta (drop (suc c.args.place) ps) (λ e. c.if-delta-eq0.false (ap (of_z w64) e)))))
