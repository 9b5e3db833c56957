use Rattle.std.proofs.Common.{◌≡◌, ◌∙◌, ◌<◌, ◌^◌, ℕ, true, sym, subst, rules}
use Rattle.pl_model.specs.declared.reservations.Point.{Point}
use Rattle.pl_model.specs.declared.reservations.Point.TheVariants.{Start, End}
use Rattle.std.specs.Map.{values_of}
use Rattle.pl_links.specs.declared.keys.Key.{Key}
use Rattle.pl_links.specs.Broken.{is_apart}
use Rattle.pl_links.specs.Keys.{is_other}
use Rattle.pl_links.specs.Windows.{in_window}
use Rattle.pl_links.specs.Asked.{is_asked}
use Rattle.pl_links.proofs.Keyed.{any_within}
use Rattle.pl_links.proofs.Left.{partner_found, partner_walked}
use Rattle.pl_links.proofs.store.Store.has_partner_of.Goals as goal

pub returns-in-Start : goal.returns-in-Start
returns-in-Start c =
    let link = c.args.link.now in
    let asked = c.self.inside.files.asked in
    let on : is_asked asked Start link.kind ≡ true = subst (λ (p : Point). is_asked asked p link.kind ≡ true) c.in-Start.is (sym c.has.ensures ∙ c.if-not-has.false) in
    let keys = c.self.inside.files.starts in
    let within : (m : ℕ) → m < 2 ^ 32 → in_window c.window_after-window.result m ≡ is_apart link.low link.high c.args.mine m = λ m lt. search (rules, c.window_after-window.ensures.within m lt) in
    let lies = any_within link.kind c.window_after-window.result (is_apart link.low link.high c.args.mine) (λ (k : Key). is_other c.args.own c.args.gone k.id) keys c.has_other.ensures.short within in
    rw (c.in-Start.is, ← c.self.view_is) (c.has_other.ensures.other ∙ lies ∙ partner_found c.args.gone (values_of c.self.inside.items.entries) keys c.self.invariant.rising asked Start c.self.invariant.filed.starts c.args.own link.kind c.args.mine on link.low link.high)

pub returns-in-End : goal.returns-in-End
returns-in-End c =
    let link = c.args.link.now in
    let asked = c.self.inside.files.asked in
    let on : is_asked asked End link.kind ≡ true = subst (λ (p : Point). is_asked asked p link.kind ≡ true) c.in-End.is (sym c.has.ensures ∙ c.if-not-has.false) in
    let keys = c.self.inside.files.ends in
    let within : (m : ℕ) → m < 2 ^ 32 → in_window c.window_after-window.result m ≡ is_apart link.low link.high c.args.mine m = λ m lt. search (rules, c.window_after-window.ensures.within m lt) in
    let lies = any_within link.kind c.window_after-window.result (is_apart link.low link.high c.args.mine) (λ (k : Key). is_other c.args.own c.args.gone k.id) keys c.has_other-in-End.ensures.short within in
    rw (c.in-End.is, ← c.self.view_is) (c.has_other-in-End.ensures.other ∙ lies ∙ partner_found c.args.gone (values_of c.self.inside.items.entries) keys c.self.invariant.rising asked End c.self.invariant.filed.ends c.args.own link.kind c.args.mine on link.low link.high)

pub returns-then-not-has : goal.returns-then-not-has
returns-then-not-has c =
    c.has_partner_among.ensures
    ∙ rw (← c.self.view_is) (partner_walked c.args.link.now c.args.own c.args.gone c.args.mine (values_of c.self.inside.items.entries) c.self.invariant.rising)
