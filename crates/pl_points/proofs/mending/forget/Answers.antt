use Rattle.std.proofs.Common.{rules, take, drop, ◌≡◌, ◌<◌, ℕ, ◌++◌, arith, ap, sym, ◌∙◌, subst, Bool, false, ◌^◌}
use Rattle.std.proofs.lemmas.Result.{on_ok_weaker}
use Rattle.pl_points.specs.Spans.{AreSpans, covers, joined}
use Rattle.pl_points.specs.Mending.{mended, behind}
use Rattle.pl_points.specs.Changes.{IsChange}
use Rattle.pl_points.proofs.Rounds.{kept_front, touched, tail, touched_apart, rounded_apart, rounded_covers, rounded_change, both_ok, forgot, behind_spans}
use Rattle.pl_points.proofs.mending.forget.Goals as goal

pub put_back-requires-clause-new : goal.put_back-requires-clause-new
put_back-requires-clause-new c =
    let s = c.args.kept.now.items in
    let a : ℕ = 0 in
    let b = c.args.at in
    let value = c.deref.ensures.value in
    let is_touched : c.in_ok-touched.touched.spans.items ≡ touched a b s = c.in_ok-touched.ensures.touched ∙ ap (touched a b) value in
    let f = c.push_behind.new.spans.items in
    let made : f ≡ behind b (touched a b s) = c.in_ok-push_behind.ensures ∙ (ap (λ l. joined l (behind b c.deref-2.result.now)) c.new-fresh.ensures.items ∙ ap (behind b) (c.deref-2.ensures.value ∙ is_touched)) in
    subst (λ l. AreSpans l) (sym made) (behind_spans b (touched a b s) (touched_apart a b s c.requires))

pub returns-clause-apart : goal.returns-clause-apart
returns-clause-apart c =
    let s = c.args.kept.now.items in
    let a : ℕ = 0 in
    let b = c.args.at in
    let value = c.deref.ensures.value in
    let is_touched : c.in_ok-touched.touched.spans.items ≡ touched a b s = c.in_ok-touched.ensures.touched ∙ ap (touched a b) value in
    let q : ℕ → Bool = λ x. false in
    let f = c.push_behind.new.spans.items in
    let made : f ≡ behind b (touched a b s) = c.in_ok-push_behind.ensures ∙ (ap (λ l. joined l (behind b c.deref-2.result.now)) c.new-fresh.ensures.items ∙ ap (behind b) (c.deref-2.ensures.value ∙ is_touched)) in
    let new_apart : AreSpans f = subst (λ l. AreSpans l) (sym made) (behind_spans b (touched a b s) (touched_apart a b s c.requires)) in
    let says : ((t : ℕ) → covers f t ≡ mended a b q (touched a b s) t) = λ t. ap (λ l. covers l t) made ∙ forgot b (touched a b s) (touched_apart a b s c.requires) t in
    let lt : b < 2 ^ 32 = search rules in
    let is_front : take c.in_ok-touched.touched.begin s ≡ kept_front a s = ap (take c.in_ok-touched.touched.begin) (sym value) ∙ (c.in_ok-touched.ensures.front ∙ ap (kept_front a) value) in
    let is_tail : drop c.in_ok-touched.touched.end s ≡ tail a b s = ap (drop c.in_ok-touched.touched.end) (sym value) ∙ (c.in_ok-touched.ensures.tail ∙ ap (tail a b) value) in
    let new = c.put_back.new.kept.items in
    let is : (new ≡ take c.in_ok-touched.touched.begin s ++ (f ++ drop c.in_ok-touched.touched.end s)) → new ≡ kept_front a s ++ (f ++ tail a b s) = λ e. e ∙ (ap (λ l. l ++ (f ++ drop c.in_ok-touched.touched.end s)) is_front ∙ ap (λ l. kept_front a s ++ (f ++ l)) is_tail) in
    on_ok_weaker c.put_back.result (λ e. subst (λ l. AreSpans l) (sym (is e)) (rounded_apart a b q s f (omega arith) lt c.requires new_apart says)) c.put_back.ensures.items

pub returns-clause-covers : goal.returns-clause-covers
returns-clause-covers c =
    let s = c.args.kept.now.items in
    let a : ℕ = 0 in
    let b = c.args.at in
    let value = c.deref.ensures.value in
    let is_touched : c.in_ok-touched.touched.spans.items ≡ touched a b s = c.in_ok-touched.ensures.touched ∙ ap (touched a b) value in
    let q : ℕ → Bool = λ x. false in
    let f = c.push_behind.new.spans.items in
    let made : f ≡ behind b (touched a b s) = c.in_ok-push_behind.ensures ∙ (ap (λ l. joined l (behind b c.deref-2.result.now)) c.new-fresh.ensures.items ∙ ap (behind b) (c.deref-2.ensures.value ∙ is_touched)) in
    let new_apart : AreSpans f = subst (λ l. AreSpans l) (sym made) (behind_spans b (touched a b s) (touched_apart a b s c.requires)) in
    let says : ((t : ℕ) → covers f t ≡ mended a b q (touched a b s) t) = λ t. ap (λ l. covers l t) made ∙ forgot b (touched a b s) (touched_apart a b s c.requires) t in
    let lt : b < 2 ^ 32 = search rules in
    let is_front : take c.in_ok-touched.touched.begin s ≡ kept_front a s = ap (take c.in_ok-touched.touched.begin) (sym value) ∙ (c.in_ok-touched.ensures.front ∙ ap (kept_front a) value) in
    let is_tail : drop c.in_ok-touched.touched.end s ≡ tail a b s = ap (drop c.in_ok-touched.touched.end) (sym value) ∙ (c.in_ok-touched.ensures.tail ∙ ap (tail a b) value) in
    let new = c.put_back.new.kept.items in
    let is : (new ≡ take c.in_ok-touched.touched.begin s ++ (f ++ drop c.in_ok-touched.touched.end s)) → new ≡ kept_front a s ++ (f ++ tail a b s) = λ e. e ∙ (ap (λ l. l ++ (f ++ drop c.in_ok-touched.touched.end s)) is_front ∙ ap (λ l. kept_front a s ++ (f ++ l)) is_tail) in
    on_ok_weaker c.put_back.result (λ e t. ap (λ l. covers l t) (is e) ∙ rounded_covers a b q s f (omega arith) lt c.requires new_apart says t) c.put_back.ensures.items

pub returns-clause-change : goal.returns-clause-change
returns-clause-change c =
    let s = c.args.kept.now.items in
    let a : ℕ = 0 in
    let b = c.args.at in
    let value = c.deref.ensures.value in
    let is_touched : c.in_ok-touched.touched.spans.items ≡ touched a b s = c.in_ok-touched.ensures.touched ∙ ap (touched a b) value in
    let q : ℕ → Bool = λ x. false in
    let f = c.push_behind.new.spans.items in
    let made : f ≡ behind b (touched a b s) = c.in_ok-push_behind.ensures ∙ (ap (λ l. joined l (behind b c.deref-2.result.now)) c.new-fresh.ensures.items ∙ ap (behind b) (c.deref-2.ensures.value ∙ is_touched)) in
    let new_apart : AreSpans f = subst (λ l. AreSpans l) (sym made) (behind_spans b (touched a b s) (touched_apart a b s c.requires)) in
    let says : ((t : ℕ) → covers f t ≡ mended a b q (touched a b s) t) = λ t. ap (λ l. covers l t) made ∙ forgot b (touched a b s) (touched_apart a b s c.requires) t in
    let lt : b < 2 ^ 32 = search rules in
    let is_front : take c.in_ok-touched.touched.begin s ≡ kept_front a s = ap (take c.in_ok-touched.touched.begin) (sym value) ∙ (c.in_ok-touched.ensures.front ∙ ap (kept_front a) value) in
    let is_tail : drop c.in_ok-touched.touched.end s ≡ tail a b s = ap (drop c.in_ok-touched.touched.end) (sym value) ∙ (c.in_ok-touched.ensures.tail ∙ ap (tail a b) value) in
    let new = c.put_back.new.kept.items in
    let is : (new ≡ take c.in_ok-touched.touched.begin s ++ (f ++ drop c.in_ok-touched.touched.end s)) → new ≡ kept_front a s ++ (f ++ tail a b s) = λ e. e ∙ (ap (λ l. l ++ (f ++ drop c.in_ok-touched.touched.end s)) is_front ∙ ap (λ l. kept_front a s ++ (f ++ l)) is_tail) in
    both_ok (new ≡ take c.in_ok-touched.touched.begin s ++ (f ++ drop c.in_ok-touched.touched.end s)) (λ k. IsChange c.in_ok-touched.touched.spans.items f k) (λ k. IsChange s new k) c.put_back.result
    (λ k e h. rounded_change a b q s f new k (omega arith) lt c.requires new_apart says (is e) (subst (λ l. IsChange l f k) is_touched h)) c.put_back.ensures.items c.put_back.ensures.change
