-- Each load of the history word keeps the rule.
use Rattle.std.proofs.Common.{◌≡◌, ℕ, ◌≤◌, ◌<◌, false, Bool, cond, List, ◌∷◌, length, set, Option, refl, sym, ap, ◌∙◌, subst, arith, lt-ltb, le-ltb, length-set}
use Rattle.std.specs.Prelude.{slice_index}
use Rattle.std.specs.List.{sum_by}
use mathlib.Core.Option.{some}
use mathlib.Core.List.{IsPrefix}
use mathlib.Core.Logic.{dite}
use native.Mathlib.Decide.{dec_le}
use lib.ListN.{get_elem?}
use Rattle.atomic_table.specs.Table.{State, Me, Step, keeps, Allows}
use Rattle.atomic_table.proofs.Lists.{set_again}
use Rattle.pl_turn.specs.declared.known.Known.{Known}
use Rattle.pl_turn.specs.History.{longer, times_in}
use Rattle.pl_turn.specs.Rule.{Kept, Fits, tickets, tickets_at, is_ticket, is_this_ticket, owns, spends}
use Rattle.pl_turn.specs.Steps.{learning, counting, Measures, Learns, Counts}
use Rattle.pl_turn.proofs.Sums.{sum_same}
use Rattle.pl_turn.proofs.Once.{once_same}
use Rattle.pl_turn.proofs.Histories.{prefix_self, prefix_none, prefix_shorter, prefix_length}
use Rattle.pl_turn.proofs.Views.{views_set, nobody_before}
use Rattle.pl_turn.proofs.Turning.{never_spent}

-- of two beginnings of one history the longer begins with both
longer_begins : {I : Type 0} (xs ys zs : List I) → IsPrefix xs zs → IsPrefix ys zs → IsPrefix xs (longer xs ys) × IsPrefix ys (longer xs ys) × IsPrefix (longer xs ys) zs
longer_begins {I} xs ys zs p q =
    let P : Bool → Type 0 = λ b. let l : List I = cond b ys xs in IsPrefix xs l × IsPrefix ys l × IsPrefix l zs in
    dite (dec_le (length ys) (length xs))
    (λ (le : length ys ≤ length xs). subst P (sym (le-ltb (length xs) (length ys) le)) (prefix_self xs, prefix_shorter ys xs zs q p le, p))
    (λ (no' : length ys ≤ length xs → ⊥). let lt : length xs < length ys = omega arith in subst P (sym (lt-ltb (length xs) (length ys) lt)) (prefix_shorter xs ys zs p q (omega arith), prefix_self ys, q))

module _ {V I : Type 0} (entries : V → List I) (slots id : ℕ) (me : Me (Option V) (Known I)) (about : Step (Option V)) where
  -- a load of the history word that leaves the view
  pub measures : Allows (Kept entries) slots id me 0 (λ n. n) (Measures about me)
  measures s kept len at small =
      let P : List ℕ → Type 0 = λ ws. set ws 0 (slice_index ws 0) ≡ ws in
      let words : set s.words 0 (slice_index s.words 0) ≡ s.words = subst P (sym kept.words) refl in
      let views : set s.views id me.0 ≡ s.views = set_again s.views id me.0 at in
      let Q : List ℕ × List (Known I) → Type 0 = λ x. Kept entries record { words = x.0; homes = s.homes; views = x.1 } in
      let found : slice_index s.words 0 ≡ length kept.log = ap (λ (ws : List ℕ). slice_index ws 0) kept.words in
      (me.0, keeps, tt, subst Q (λ i. (sym words i, sym views i)) kept, (refl, λ served. found ∙ sym (ap length ((kept.each_view id me.0 at).served served).1)))

module _ {V I : Type 0} (entries : V → List I) (slots id : ℕ) (me : Me (Option V) (Known I)) (about : Step (Option V)) (out : me.0.served ≡ false) (unspent : me.0.spent ≡ false) where
  -- a load of the history word, at which the view changes in what was seen, heard or counted alone
  viewed : (s : State (Option V) (Known I)) (kept : Kept entries s) → get_elem? s.views id ≡ some me.0 → (w : Known I) → w.ticket ≡ me.0.ticket → w.mine ≡ me.0.mine → w.crew ≡ me.0.crew → w.spent ≡ me.0.spent
      → Fits kept.log kept.opening kept.called kept.made kept.joined id w → Kept entries record { words = set s.words 0 (slice_index s.words 0); homes = s.homes; views = set s.views id w }
  viewed s kept at w ticket mine crew spent fits =
      let v = me.0 in
      let P : List ℕ → Type 0 = λ ws. set ws 0 (slice_index ws 0) ≡ ws in record {
        log = kept.log;
        opening = kept.opening;
        drawn = kept.drawn;
        called = kept.called;
        made = kept.made;
        joined = kept.joined;
        opened = kept.opened;
        words = subst P (sym kept.words) refl ∙ kept.words;
        waiting = (let e = sum_same tickets s.views id v w at (ap is_ticket ticket) in omega (arith, kept.waiting));
        each_ticket = once_same kept.called kept.drawn (λ n. sum_by (tickets_at n) s.views) (λ n. sum_by (tickets_at n) (set s.views id w)) kept.each_ticket (λ n. sum_same (tickets_at n) s.views id v w at (ap (is_this_ticket n) ticket));
        home = λ nobody. kept.home (nobody_before s.views id v w at out nobody);
        each_place = once_same kept.opening (length kept.log) (λ p. sum_by (owns p) s.views) (λ p. sum_by (owns p) (set s.views id w)) kept.each_place
            (λ p. sum_same (owns p) s.views id v w at (λ i. times_in p (mine i ∷ (crew i).joined)));
        each_view = views_set (Fits kept.log kept.opening kept.called kept.made kept.joined) s.views id w fits (λ j k ne there. kept.each_view j k there);
        passes = (length-set s.views id w ∙ kept.passes.0, kept.passes.1, sum_same spends s.views id v w at (ap (λ (b : Bool). cond b 1 0) spent) ∙ kept.passes.2);
      }

  -- what was heard is compared with what was seen
  pub learns : Allows (Kept entries) slots id me 0 (λ n. n) (Learns about me)
  learns s kept len at small =
      let v = me.0 in
      let w : Known I = learning v in
      let fit = kept.each_view id v at in
      let both = longer_begins v.seen v.heard kept.log fit.seen fit.heard in (
        w,
        keeps,
        tt,
        viewed s kept at w refl refl refl refl (record {
          seen = both.2;
          heard = prefix_none kept.log;
          counted = fit.counted;
          served = λ h. never_spent v.served out h;
          leads = fit.leads;
          follows = fit.follows;
          spent = λ h. never_spent v.spent unspent h;
        }),
        (refl, both.0, both.1),
      )

  -- the length of the history is read
  pub counts : Allows (Kept entries) slots id me 0 (λ n. n) (Counts about me)
  counts s kept len at small =
      let v = me.0 in
      let n : ℕ = slice_index s.words 0 in
      let found : n ≡ length kept.log = ap (λ (ws : List ℕ). slice_index ws 0) kept.words in
      let fit = kept.each_view id v at in (
        counting v n,
        keeps,
        tt,
        viewed s kept at (counting v n) refl refl refl refl record {
          seen = fit.seen;
          heard = fit.heard;
          counted = omega arith;
          served = λ h. never_spent v.served out h;
          leads = fit.leads;
          follows = fit.follows;
          spent = λ h. never_spent v.spent unspent h;
        },
        (refl, omega (arith, prefix_length v.seen kept.log fit.seen), omega (arith, fit.counted)),
      )
