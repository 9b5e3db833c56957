use Rattle.std.proofs.Common.{◌<◌, length, ap, sym, subst, ◌∙◌, get_or}
use Rattle.pl_state.specs.Rows.{together}
use Rattle.pl_state.proofs.InRows.{read_there}
use Rattle.pl_state.proofs.rows.Rows.at.Goals as goal

pub returns : goal.returns
returns g c =
    let rs = c.self.inside.rows.items in
    let place = c.args.place in
    let spot = c.spot_of-spot.result in
    let x = c.index-as_slice-spot.result in
    let lt : place < length (together rs) = subst (λ l. place < length l) (sym c.self.view_is) c.requires in
    read_there rs c.deref.result.now c.index.result.now place spot.row spot.at x c.deref.ensures.value c.spot_of-spot.ensures lt c.index.ensures
    (c.index-as_slice-spot.is ∙ ap (λ l. get_or l spot.at x) c.as_slice.ensures) ∙ ap (λ l. get_or l place x) c.self.view_is
