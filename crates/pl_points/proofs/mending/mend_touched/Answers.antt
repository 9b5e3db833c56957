use Rattle.std.proofs.Common.{rules, arith, take, drop, ◌≡◌, ◌<◌, ℕ, ◌++◌, ap, sym, ◌∙◌, subst, Bool, ◌^◌}
use Rattle.std.proofs.lemmas.Result.{on_ok_weaker}
use Rattle.pl_points.specs.Points.{sum_to}
use Rattle.pl_points.specs.Limits.{is_outside}
use Rattle.pl_points.specs.Spans.{AreSpans, covers}
use Rattle.pl_points.specs.Mending.{mended}
use Rattle.pl_points.specs.Changes.{IsChange}
use Rattle.pl_points.proofs.Rounds.{kept_front, touched, tail, rounded_apart, rounded_covers, rounded_change, both_ok}
use Rattle.pl_points.proofs.mending.mend_touched.Goals as goal

pub returns-clause-apart : goal.returns-clause-apart
returns-clause-apart g c =
    let s = c.args.kept.now.items in
    let a = c.args.window.from in
    let b = c.args.window.to in
    let value = c.deref.ensures.value in
    let is_touched : c.in_ok-touched.touched.spans.items ≡ touched a b s = c.in_ok-touched.ensures.touched ∙ ap (touched a b) value in
    let q : ℕ → Bool = λ x. is_outside c.args.limit (sum_to (g.P.Points.points c.args.points.now) x) in
    let f = c.in_ok-fresh.fresh.items in
    let new_apart = c.in_ok-fresh.ensures.apart in
    let says : ((t : ℕ) → covers f t ≡ mended a b q (touched a b s) t) = λ t. c.in_ok-fresh.ensures.covers t ∙ ap (λ l. mended a b q l t) (c.deref-2.ensures.value ∙ is_touched) in
    let lt : b < 2 ^ 32 = search rules in
    let is_front : take c.in_ok-touched.touched.begin s ≡ kept_front a s = ap (take c.in_ok-touched.touched.begin) (sym value) ∙ (c.in_ok-touched.ensures.front ∙ ap (kept_front a) value) in
    let is_tail : drop c.in_ok-touched.touched.end s ≡ tail a b s = ap (drop c.in_ok-touched.touched.end) (sym value) ∙ (c.in_ok-touched.ensures.tail ∙ ap (tail a b) value) in
    let new = c.put_back.new.kept.items in
    let is : (new ≡ take c.in_ok-touched.touched.begin s ++ (f ++ drop c.in_ok-touched.touched.end s)) → new ≡ kept_front a s ++ (f ++ tail a b s) = λ e. e ∙ (ap (λ l. l ++ (f ++ drop c.in_ok-touched.touched.end s)) is_front ∙ ap (λ l. kept_front a s ++ (f ++ l)) is_tail) in
    on_ok_weaker c.put_back.result (λ e. subst (λ l. AreSpans l) (sym (is e)) (rounded_apart a b q s f (omega (arith, c.requires.low, c.requires.bound)) lt c.requires.apart new_apart says)) c.put_back.ensures.items

pub returns-clause-covers : goal.returns-clause-covers
returns-clause-covers g c =
    let s = c.args.kept.now.items in
    let a = c.args.window.from in
    let b = c.args.window.to in
    let value = c.deref.ensures.value in
    let is_touched : c.in_ok-touched.touched.spans.items ≡ touched a b s = c.in_ok-touched.ensures.touched ∙ ap (touched a b) value in
    let q : ℕ → Bool = λ x. is_outside c.args.limit (sum_to (g.P.Points.points c.args.points.now) x) in
    let f = c.in_ok-fresh.fresh.items in
    let new_apart = c.in_ok-fresh.ensures.apart in
    let says : ((t : ℕ) → covers f t ≡ mended a b q (touched a b s) t) = λ t. c.in_ok-fresh.ensures.covers t ∙ ap (λ l. mended a b q l t) (c.deref-2.ensures.value ∙ is_touched) in
    let lt : b < 2 ^ 32 = search rules in
    let is_front : take c.in_ok-touched.touched.begin s ≡ kept_front a s = ap (take c.in_ok-touched.touched.begin) (sym value) ∙ (c.in_ok-touched.ensures.front ∙ ap (kept_front a) value) in
    let is_tail : drop c.in_ok-touched.touched.end s ≡ tail a b s = ap (drop c.in_ok-touched.touched.end) (sym value) ∙ (c.in_ok-touched.ensures.tail ∙ ap (tail a b) value) in
    let new = c.put_back.new.kept.items in
    let is : (new ≡ take c.in_ok-touched.touched.begin s ++ (f ++ drop c.in_ok-touched.touched.end s)) → new ≡ kept_front a s ++ (f ++ tail a b s) = λ e. e ∙ (ap (λ l. l ++ (f ++ drop c.in_ok-touched.touched.end s)) is_front ∙ ap (λ l. kept_front a s ++ (f ++ l)) is_tail) in
    on_ok_weaker c.put_back.result (λ e t. ap (λ l. covers l t) (is e) ∙ rounded_covers a b q s f (omega (arith, c.requires.low, c.requires.bound)) lt c.requires.apart new_apart says t) c.put_back.ensures.items

pub returns-clause-change : goal.returns-clause-change
returns-clause-change g c =
    let s = c.args.kept.now.items in
    let a = c.args.window.from in
    let b = c.args.window.to in
    let value = c.deref.ensures.value in
    let is_touched : c.in_ok-touched.touched.spans.items ≡ touched a b s = c.in_ok-touched.ensures.touched ∙ ap (touched a b) value in
    let q : ℕ → Bool = λ x. is_outside c.args.limit (sum_to (g.P.Points.points c.args.points.now) x) in
    let f = c.in_ok-fresh.fresh.items in
    let new_apart = c.in_ok-fresh.ensures.apart in
    let says : ((t : ℕ) → covers f t ≡ mended a b q (touched a b s) t) = λ t. c.in_ok-fresh.ensures.covers t ∙ ap (λ l. mended a b q l t) (c.deref-2.ensures.value ∙ is_touched) in
    let lt : b < 2 ^ 32 = search rules in
    let is_front : take c.in_ok-touched.touched.begin s ≡ kept_front a s = ap (take c.in_ok-touched.touched.begin) (sym value) ∙ (c.in_ok-touched.ensures.front ∙ ap (kept_front a) value) in
    let is_tail : drop c.in_ok-touched.touched.end s ≡ tail a b s = ap (drop c.in_ok-touched.touched.end) (sym value) ∙ (c.in_ok-touched.ensures.tail ∙ ap (tail a b) value) in
    let new = c.put_back.new.kept.items in
    let is : (new ≡ take c.in_ok-touched.touched.begin s ++ (f ++ drop c.in_ok-touched.touched.end s)) → new ≡ kept_front a s ++ (f ++ tail a b s) = λ e. e ∙ (ap (λ l. l ++ (f ++ drop c.in_ok-touched.touched.end s)) is_front ∙ ap (λ l. kept_front a s ++ (f ++ l)) is_tail) in
    both_ok (new ≡ take c.in_ok-touched.touched.begin s ++ (f ++ drop c.in_ok-touched.touched.end s)) (λ k. IsChange c.in_ok-touched.touched.spans.items f k) (λ k. IsChange s new k) c.put_back.result
    (λ k e h. rounded_change a b q s f new k (omega (arith, c.requires.low, c.requires.bound)) lt c.requires.apart new_apart says (is e) (subst (λ l. IsChange l f k) is_touched h)) c.put_back.ensures.items c.put_back.ensures.change
