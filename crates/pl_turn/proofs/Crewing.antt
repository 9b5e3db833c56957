-- The splits and joins of passes keep the rule.
use Rattle.std.proofs.Common.{◌≡◌, ◌≢◌, ℕ, ◌+◌, ◌<◌, true, false, Bool, cond, List, [], ◌∷◌, ◌++◌, length, set, None, refl, sym, ap, ◌∙◌, subst, ⊎_elim, arith, length-set, length-append}
use Rattle.std.specs.List.{sum_by}
use Rattle.std.proofs.lemmas.List.Sums.{sum_by-cons, sum_by_push}
use Rattle.std.proofs.lemmas.Bool.{false_from_ne_true}
use Rattle.atomic_table.specs.Table.{Splits, Joins}
use Rattle.atomic_table.proofs.Lists.{at_snoc, at_longer, set_else}
use Rattle.pl_turn.specs.declared.known.Known.{Known}
use Rattle.pl_turn.specs.History.{times_at}
use Rattle.pl_turn.specs.Rule.{Kept, Fits, tickets, tickets_at, is_ticket, is_this_ticket, owns, own_lists, spends, gone, IsViewOf}
use Rattle.pl_turn.specs.Steps.{splitting, newcomer, taking}
use Rattle.pl_turn.proofs.Sums.{sum_set, sum_same}
use Rattle.pl_turn.proofs.Once.{once_same}
use Rattle.pl_turn.proofs.Histories.{prefix_none}
use Rattle.pl_turn.proofs.Views.{views_set, nobody_before}
use Rattle.pl_turn.proofs.Turning.{never_spent}

module _ {V I : Type 0} (entries : V → List I) (id : ℕ) (v : Known I) (leads : v.crew.leads ≡ true) (out : v.served ≡ false) (unspent : v.spent ≡ false) where
  -- a pass is split off
  pub splits : v.crew.made < 1000 → Splits (Kept entries) id v (splitting v) (newcomer v)
  splits few s kept at =
      let left : Known I = splitting v in
      let right : Known I = newcomer v in
      let fit = kept.each_view id v at in
      let crew = fit.leads leads in
      let views : List (Known I) = set s.views id left in
      let same : (f : Known I → ℕ) → f left ≡ f v → f right ≡ 0 → sum_by f (views ++ right ∷ []) ≡ sum_by f s.views =
      λ f here none. (let a = sum_by_push f views right in let b = sum_same f s.views id v left at here in omega arith) in record {
        log = kept.log;
        opening = kept.opening;
        drawn = kept.drawn;
        called = kept.called;
        made = kept.made + 1;
        joined = kept.joined;
        opened = kept.opened;
        words = kept.words;
        waiting = (let e = same tickets refl refl in omega (arith, kept.waiting));
        each_ticket = once_same kept.called kept.drawn (λ n. sum_by (tickets_at n) s.views) (λ n. sum_by (tickets_at n) (views ++ right ∷ [])) kept.each_ticket (λ n. same (tickets_at n) refl refl);
        home = λ nobody. kept.home (nobody_before s.views id v left at out (λ j k there. nobody j k (at_longer views (right ∷ []) j k there)));
        each_place = once_same kept.opening (length kept.log) (λ p. sum_by (owns p) s.views) (λ p. sum_by (owns p) (views ++ right ∷ [])) kept.each_place (λ p. same (owns p) refl refl);
        each_view = λ j k there. ⊎_elim
            (λ (e : IsViewOf views j k). views_set (Fits kept.log kept.opening kept.called (kept.made + 1) kept.joined) s.views id left
            record { seen = fit.seen; heard = fit.heard; counted = fit.counted; served = λ h. never_spent v.served out h; leads = λ h. (crew.0, crew.1, ap (λ (n : ℕ). n + 1) crew.2, crew.3); follows = fit.follows; spent = λ h. never_spent v.spent unspent h }
            (λ i u ne found. let other = kept.each_view i u found in record {
              seen = other.seen;
              heard = other.heard;
              counted = other.counted;
              served = other.served;
              leads = λ h. absurd (ne ((other.leads h).0 ∙ sym crew.0));
              follows = other.follows;
              spent = other.spent;
            }) j k e)
            (λ (e : right ≡ k). let P : Known I → Type 0 = Fits kept.log kept.opening kept.called (kept.made + 1) kept.joined j in subst P e record {
              seen = fit.seen;
              heard = prefix_none kept.log;
              counted = fit.counted;
              served = λ h. absurd (cc h);
              leads = λ h. absurd (cc h);
              follows = λ h. refl;
              spent = λ h. absurd (cc h);
            })
            (at_snoc views right k j there);
        passes = (
          omega (arith, kept.passes.0, length-append views (right ∷ []), length-set s.views id left),
          omega (arith, crew.2),
          same spends refl refl ∙ kept.passes.2,
        );
      }

  -- the own lists of the taker: the other's own list is one more of them
  owns_taken : (w : Known I) (p : ℕ) → owns p (taking v w) ≡ owns p v + times_at p w.mine
  owns_taken w p = sum_by_push (times_at p) (own_lists v) w.mine

  -- a pass is joined
  pub joins : (other : ℕ) (w : Known I) → w.ticket ≡ None → w.served ≡ false → w.spent ≡ false → Joins (Kept entries) id v other w (taking v w) gone
  joins other w none' out' unspent' s kept at apart at' =
      let both : Known I = taking v w in
      let once : List (Known I) = set s.views id both in
      let views : List (Known I) = set once other gone in
      let fit = kept.each_view id v at in
      let crew = fit.leads leads in
      let there : IsViewOf s.views other w = sym (set_else s.views id other both apart) ∙ at' in
      let fit' = kept.each_view other w there in
      let follows : w.crew.leads ≡ false = false_from_ne_true w.crew.leads (λ h. apart ((fit'.leads h).0 ∙ sym crew.0)) in
      let alone : w.crew.joined ≡ [] = fit'.follows follows in
      let same : (f : Known I → ℕ) → f both + f gone ≡ f v + f w → sum_by f views ≡ sum_by f s.views =
      λ f e. (let a = sum_set f once other w gone at' in let b = sum_set f s.views id v both at in omega arith) in
      let had : (n : ℕ) → tickets_at n w ≡ 0 = λ n. ap (is_this_ticket n) none' in
      let owned : (p : ℕ) → owns p w ≡ times_at p w.mine = λ p.
      omega (arith, sum_by-cons (times_at p) w.mine w.crew.joined, ap (λ (l : List (List (ℕ × I))). sum_by (times_at p) l) alone) in record {
        log = kept.log;
        opening = kept.opening;
        drawn = kept.drawn;
        called = kept.called;
        made = kept.made;
        joined = kept.joined + 1;
        opened = kept.opened;
        words = kept.words;
        waiting = (let e = same tickets (let h : tickets w ≡ 0 = ap is_ticket none' in omega arith) in omega (arith, kept.waiting));
        each_ticket = once_same kept.called kept.drawn (λ n. sum_by (tickets_at n) s.views) (λ n. sum_by (tickets_at n) views) kept.each_ticket (λ n. same (tickets_at n) (let h = had n in omega arith));
        home = λ nobody. kept.home (nobody_before s.views id v both at out (nobody_before once other w gone at' out' nobody));
        each_place = once_same kept.opening (length kept.log) (λ p. sum_by (owns p) s.views) (λ p. sum_by (owns p) views) kept.each_place (λ p. same (owns p) (let a = owns_taken w p in let b = owned p in omega arith));
        each_view = views_set (Fits kept.log kept.opening kept.called kept.made (kept.joined + 1)) once other gone
            record {
              seen = prefix_none kept.log;
              heard = prefix_none kept.log;
              counted = omega arith;
              served = λ h. absurd (cc h);
              leads = λ h. absurd (cc h);
              follows = λ h. refl;
              spent = λ h. refl;
            }
            (λ j k ne found. views_set (λ i u. i ≢ other → Fits kept.log kept.opening kept.called kept.made (kept.joined + 1) i u) s.views id both
            (λ ne'. record {
              seen = fit.seen;
              heard = fit'.seen;
              counted = omega (arith, fit.counted, fit'.counted);
              served = λ h. never_spent v.served out h;
              leads = λ h. (crew.0, crew.1, crew.2, omega (arith, crew.3, length-append v.crew.joined (w.mine ∷ [])));
              follows = λ h. never_spent v.crew.leads h leads;
              spent = λ h. never_spent v.spent unspent h;
            })
            (λ i u apart' found' ne'. let known = kept.each_view i u found' in record {
              seen = known.seen;
              heard = known.heard;
              counted = known.counted;
              served = known.served;
              leads = λ h. absurd (apart' ((known.leads h).0 ∙ sym crew.0));
              follows = known.follows;
              spent = known.spent;
            })
            j k found ne);
        passes = (
          length-set once other gone ∙ (length-set s.views id both ∙ kept.passes.0),
          kept.passes.1,
          (let a = sum_set spends once other w gone at' in let b = sum_same spends s.views id v both at refl in let h : spends w ≡ 0 = ap (λ (x : Bool). cond x 1 0) unspent' in omega (arith, kept.passes.2)),
        );
      }
