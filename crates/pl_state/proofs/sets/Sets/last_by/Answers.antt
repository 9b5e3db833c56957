use Rattle.std.proofs.Common.{◌≡◌, ◌<◌, ◌-◌, ◌∙◌, ℕ, List, [], length, take, get_or, Some, sym, ap, subst, refl, arith}
use Rattle.std.specs.Prelude.{slice_get}
use Rattle.std.proofs.lemmas.List.{get_or-take, length-take-le}
use Rattle.std.proofs.lemmas.Option.{slice_get_read}
use Rattle.pl_lists.specs.Lists.{front}
use Rattle.pl_state.specs.declared.reservation.Setting.{Setting}
use Rattle.pl_state.specs.Sets.{is_passed}
use Rattle.pl_state.proofs.sets.Sets.last_by.Goals as goal

pub returns-then-count-eq0 : goal.returns-then-count-eq0
returns-then-count-eq0 c =
    let xs : List Setting = c.args.self.now in
    let none : front (is_passed c.args.at) xs ≡ [] = sym c.passed_count-count.ensures.front ∙ ap (λ (n : ℕ). take n xs) c.if-count-eq0.true in
    sym (ap (λ (l : List Setting). slice_get l (length l - 1)) none)

pub returns : goal.returns
returns c =
    let xs : List Setting = c.args.self.now in
    let count : ℕ = c.passed_count-count.result in
    let all : length (take count xs) ≡ count = length-take-le count xs c.passed_count-count.ensures.bound in
    let lt : count - 1 < count = omega (arith, c.if-count-eq0.false) in
    let read : c.at.result ≡ get_or (take count xs) (count - 1) c.at.result = c.at.ensures ∙ sym (get_or-take count xs (count - 1) c.at.result lt) in
    let last : slice_get (take count xs) (count - 1) ≡ Some c.at.result = slice_get_read (take count xs) (length (take count xs)) (count - 1) c.at.result refl (omega (arith, all, lt)) read in
    let there : slice_get (take count xs) (length (take count xs) - 1) ≡ Some c.at.result = ap (λ (n : ℕ). slice_get (take count xs) (n - 1)) all ∙ last in
    sym (subst (λ (l : List Setting). slice_get l (length l - 1) ≡ Some c.at.result) c.passed_count-count.ensures.front there)
