use Rattle.std.proofs.Common.{◌++◌, ◌∷◌, take, drop, set, ap, ◌∙◌, subst}
use Rattle.pl_state.specs.Rows.{IsSpot}
use Rattle.pl_state.proofs.InRows.{put_there, put_filled}
use Rattle.pl_state.proofs.filling.insert_into.Goals as goal

pub returns-clause-ok : goal.returns-clause-ok
returns-clause-ok g c =
    let rs = c.make_room.new.rows.items in
    let u = c.args.item in
    let place = c.args.place in
    let spot = c.spot_of-spot.result in
    let here : IsSpot rs place spot.row spot.at = subst (λ l. IsSpot l place spot.row spot.at) c.deref.ensures.value c.spot_of-spot.ensures in
    put_there rs (set rs spot.row c.insert.new.self) c.index_mut.result.now place spot.row spot.at u here c.index_mut.ensures.value (ap (set rs spot.row) c.in_ok-insert.ensures.ok) ∙ ap (λ l. take place l ++ u ∷ drop place l) c.make_room.ensures.same

pub returns-clause-filled : goal.returns-clause-filled
returns-clause-filled g c =
    let rs = c.make_room.new.rows.items in
    let spot = c.spot_of-spot.result in
    put_filled rs (set rs spot.row c.insert.new.self) c.index_mut.result.now spot.row spot.at c.args.item c.make_room.ensures.filled (ap (set rs spot.row) c.in_ok-insert.ensures.ok)
