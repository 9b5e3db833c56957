use Rattle.std.proofs.Common.{◌≡◌, true, false, sym, ◌∙◌, ap, subst, arith}
use Rattle.std.proofs.lemmas.Grind.{common_steps}
use Rattle.pl_io.specs.Reader.{Reader}
use Rattle.pl_io.specs.Reading.{IsOpen}
use Rattle.pl_io.specs.Sparing.{shows_next}
use Rattle.pl_io.proofs.Shown.{reach_ended, read_behind}
use Rattle.pl_io.proofs.line_reader.LineReader.reach.Goals as goal

pub returns-then-branch-eq0-clause-exact : goal.returns-then-branch-eq0-clause-exact
returns-then-branch-eq0-clause-exact g c =
    let filled = c.in_ok-fill.ensures.same c.if-branch-eq0.true in
    let kept = c.turns.invariant in
    let shown : IsOpen c.turns.self.limit c.turns.self.room c.turns.self.held =
    rw (← c.self.view_is, ← c.as_slice.ensures) c.in-Open.ensures in
    reach_ended c.args.self.now c.turns.self c.fill.new.self _ _ (g.S.Source.left c.fill.new.src) _ kept.0 c.in_ok-fill.ensures.kept filled.0 shown filled.1 kept.3
    c.in_ok-fill.ensures.ahead c.last_line.ensures

pub turns-preserved : goal.turns-preserved
turns-preserved g c =
    let before = c.turns.invariant in
    let shown : IsOpen c.turns.self.limit c.turns.self.room c.turns.self.held =
    rw (← c.self.view_is, ← c.as_slice.ensures) c.in-Open.ensures in
    let filled = c.in_ok-fill.ensures in
    let limit_is : c.fill.new.self.limit ≡ c.turns.self.limit = ap (λ r. r.limit) filled.kept in (
      grind (arith, common_steps),
      grind (arith, common_steps),
      grind (arith, common_steps),
      grind (arith, common_steps),
      λ shows.
          let none : shows_next c.args.self.now.limit c.args.self.now.room c.args.self.now.held ≡ false =
          subst (λ (r : Reader). shows_next r.limit r.room r.held ≡ false) (before.4 shows).0 shown.shows in
          absurd (let both : true ≡ false = sym shows ∙ none in (cc)),
      λ small.
          let short = read_behind c.turns.self.limit c.turns.self.held c.fill.new.self.held _ filled.front filled.grows filled.few shown.no_newline shown.fits in
          (short.0, omega (arith, short.1, limit_is)),
    )
