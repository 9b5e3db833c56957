use Rattle.std.proofs.Common.{◌≡◌, ◌∷◌, [], List, length, drop, sym, ap, ◌∙◌, subst}
use Rattle.std.specs.Option.{option_copied}
use Rattle.pl_state.specs.declared.key.Key.{Key}
use Rattle.pl_state.specs.Near.{AreRightBut, IsBegun}
use Rattle.pl_state.proofs.Renewing.{begun_at, begun_none, first_none, first_some}
use Rattle.pl_state.proofs.groups.begun.Goals as goal

pub returns-in-None : goal.returns-in-None
returns-in-None c = λ group keyed right.
    let ms = c.args.musts.now in
    let b = c.args.broken.now in
    let none : c.args.keys.now ≡ [] = first_none c.args.keys.now (sym (ap option_copied c.in-None.is) ∙ c.first.ensures.value) in
    let begun : IsBegun group ms b c.args.keys.now (length b) (length ms) (length b) [] [] [] = subst (λ l. IsBegun group ms b l (length b) (length ms) (length b) [] [] []) (sym none)
    (begun_none group ms b (subst (λ l. AreRightBut l group ms b) none right)) in
    let e = c.renewal_from.ensures in
    rw e.begin (rw e.passed (rw c.len.ensures (rw e.taken (rw e.fresh (rw e.went (rw e.came begun))))))

pub returns-in-Some : goal.returns-in-Some
returns-in-Some c = λ group keyed right.
    let ms = c.args.musts.now in
    let b = c.args.broken.now in
    let k : Key = c.in-Some.key.now in
    let ks : List Key = drop 1 c.args.keys.now in
    let some : c.args.keys.now ≡ k ∷ ks = first_some c.args.keys.now k (sym (ap option_copied c.in-Some.is) ∙ c.first.ensures.value) in
    let p = c.begun_count-passed.result in
    let t = c.count_before-taken.result in
    let begun : IsBegun group ms b c.args.keys.now t p t [] [] [] = subst (λ l. IsBegun group ms b l t p t [] [] []) (sym some)
    (begun_at group keyed k ks ms b p t c.begun_count-passed.ensures.sorted c.requires c.begun_count-passed.ensures.rest c.count_before-taken.ensures.front c.count_before-taken.ensures.rest
    c.begun_count-passed.ensures.bound c.count_before-taken.ensures.bound (subst (λ l. AreRightBut l group ms b) some right)) in
    let e = c.renewal_from-in-Some.ensures in
    rw e.begin (rw e.passed (rw e.taken (rw e.fresh (rw e.went (rw e.came begun)))))
