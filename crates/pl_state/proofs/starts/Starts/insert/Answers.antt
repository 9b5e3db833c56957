use Rattle.std.proofs.Common.{◌≡◌, ◌-◌, ap, sym, ◌∙◌, refl, subst, max, arith}
use Rattle.pl_state.specs.declared.reservation.Started.{Started}
use Rattle.pl_state.specs.Starts.{started, start_key, with_started, IsIndex}
use Rattle.pl_state.proofs.Keys.{placed, put_in}
use Rattle.pl_state.proofs.Indexing.{index_with, index_wider}
use Rattle.pl_state.proofs.starts.Starts.insert.Goals as goal

pub invariant_of-self : goal.invariant_of-self
invariant_of-self c = subst (λ l. IsIndex c.max-self-inside.result l) (sym c.in_err-insert.ensures.err) (index_wider c.self.inside.longest c.max-self-inside.result c.self.inside.items (omega (arith, c.max-self-inside.ensures)) c.self.invariant)

pub invariant_of-self-2 : goal.invariant_of-self-2
invariant_of-self-2 c =
    let xs = c.self.inside.items in
    let i = c.count-place.result in
    let u : Started = started c.args.must in
    let p = placed start_key u c.key.result xs xs i refl c.key.ensures c.count-place.ensures.front c.count-place.ensures.rest in
    let new : c.insert.new.self ≡ with_started u xs = put_in start_key u xs c.insert.new.self i p c.in_ok-insert.ensures.ok in
    let longest : c.max-self-inside.result ≡ max c.self.inside.longest (c.args.must.to - c.args.must.from) = c.max-self-inside.ensures ∙ ap (max c.self.inside.longest) c.saturating_sub.ensures in
    subst (λ n. IsIndex n c.insert.new.self) (sym longest) (subst (λ l. IsIndex (max c.self.inside.longest (c.args.must.to - c.args.must.from)) l) (sym new) (index_with c.self.inside.longest c.args.must xs c.self.invariant))

pub returns-clause-ok : goal.returns-clause-ok
returns-clause-ok c =
    let xs = c.self.inside.items in
    let i = c.count-place.result in
    let u : Started = started c.args.must in
    let p = placed start_key u c.key.result xs xs i refl c.key.ensures c.count-place.ensures.front c.count-place.ensures.rest in
    put_in start_key u xs c.insert.new.self i p c.in_ok-insert.ensures.ok ∙ ap (with_started u) c.self.view_is
