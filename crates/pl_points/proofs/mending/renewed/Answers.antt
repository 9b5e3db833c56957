use Rattle.std.proofs.Common.{rules, arith, ◌≡◌, ℕ, ap, sym, ◌∙◌, subst, Bool, ◌||◌, ◌&&◌, ◌^◌}
use Rattle.pl_points.specs.Points.{sum_to}
use Rattle.pl_points.specs.Spans.{AreApart, AreSpans, covers, within}
use Rattle.pl_points.specs.Mending.{before}
use Rattle.pl_points.specs.Limits.{is_outside}
use Rattle.pl_points.proofs.Cuts.{apart_before}
use Rattle.pl_points.proofs.Spanning.{apart_wider}
use Rattle.pl_points.proofs.Calming.{calm_before}
use Rattle.pl_points.proofs.Rounds.{renewed_apart, renewed_covers}
use Rattle.pl_points.proofs.mending.renewed.Goals as goal

pub push_outside-requires-clause-apart : goal.push_outside-requires-clause-apart
push_outside-requires-clause-apart g c =
    let is = c.keep_before.ensures ∙ ap (before c.args.window.from) c.in_ok-fresh.ensures.items in
    apart_wider 0 c.args.window.from c.args.mark.at c.keep_before.new.spans.items c.requires.low
    (subst (λ l. AreApart 0 c.args.window.from l) (sym is) (apart_before c.args.window.from 0 (2 ^ 32) c.args.old.now c.requires.apart))

pub returns-clause-apart : goal.returns-clause-apart
returns-clause-apart g c =
    subst (λ l. AreSpans l) (sym c.in_ok-push_behind.ensures)
    (renewed_apart c.args.window.from c.args.window.to c.args.old.now c.push_outside.new.spans.items (search rules) c.requires.apart c.in_ok-push_outside.ensures.apart)

pub returns-clause-covers : goal.returns-clause-covers
returns-clause-covers g c t =
    let a = c.args.window.from in
    let b = c.args.window.to in
    let q : ℕ → Bool = λ x. is_outside c.args.limit (sum_to (g.P.Points.points c.args.points.now) x) in
    let now = c.push_outside.new.spans.items in
    let is = c.keep_before.ensures ∙ ap (before a) c.in_ok-fresh.ensures.items in
    let says : ((t : ℕ) → covers now t ≡ (covers (before a c.args.old.now) t || (within a b t && q t))) = λ t.
    c.in_ok-push_outside.ensures.covers t
    ∙ (ap (λ l. covers l t || (within c.args.mark.at b t && q t)) is
    ∙ ap (λ v. covers (before a c.args.old.now) t || v) (calm_before a c.args.mark.at b t q c.requires.low c.requires.inside)) in
    ap (λ l. covers l t) c.in_ok-push_behind.ensures
    ∙ renewed_covers a b c.args.old.now now q (omega (arith, c.requires.low, c.requires.bound)) c.requires.apart c.in_ok-push_outside.ensures.apart says t
