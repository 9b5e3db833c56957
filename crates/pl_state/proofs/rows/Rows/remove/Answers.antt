use Rattle.std.proofs.Common.{◌≡◌, ◌<◌, ◌++◌, suc, take, drop, length, ap, sym, ◌∙◌, subst, arith}
use Rattle.pl_state.specs.Rows.{together}
use Rattle.pl_state.proofs.InRows.{gone_there, one_less}
use Rattle.pl_state.proofs.rows.Rows.remove.Goals as goal

pub invariant_of-self : goal.invariant_of-self
invariant_of-self g c =
    let rs = c.self.inside.rows.items in
    let place = c.args.place in
    let spot = c.spot_of-spot.result in
    let new = c.take_out.new.rows.items in
    let lt : place < length (together rs) = subst (λ l. place < length l) (sym c.self.view_is) c.requires in
    let gone : together new ≡ take place (together rs) ++ drop (suc place) (together rs) = c.take_out.ensures.gone ∙ gone_there rs c.deref.result.now place spot.row spot.at c.deref.ensures.value c.spot_of-spot.ensures lt in
    record { counted = omega (arith, c.self.invariant.counted, one_less (together rs) (together new) place lt gone); filled = c.take_out.ensures.filled }

pub returns : goal.returns
returns g c =
    let rs = c.self.inside.rows.items in
    let place = c.args.place in
    let spot = c.spot_of-spot.result in
    let lt : place < length (together rs) = subst (λ l. place < length l) (sym c.self.view_is) c.requires in
    (c.take_out.ensures.gone ∙ gone_there rs c.deref.result.now place spot.row spot.at c.deref.ensures.value c.spot_of-spot.ensures lt) ∙ ap (λ l. take place l ++ drop (suc place) l) c.self.view_is
