-- Each step of a turn keeps the rule.
use Rattle.std.proofs.Common.{◌≡◌, ◌≢◌, ℕ, ◌+◌, ◌%◌, ◌^◌, ◌<◌, true, false, Bool, cond, List, [], ◌∷◌, ◌++◌, length, set, Option, Some, None, nat_eq, refl, sym, ap, ◌∙◌, subst, arith, eq-eqb, ne_eqb, length-set, length-append}
use Rattle.std.specs.Prelude.{slice_index}
use Rattle.std.specs.List.{sum_by}
use Rattle.std.proofs.Math.Nat.{mod-add-mod}
use Rattle.std.proofs.lemmas.List.Sums.{sum_by-cons, sum_by_push}
use Rattle.std.proofs.lemmas.Option.{same_Some}
use mathlib.Core.Option.{some, some-injective, some-ne-none}
use mathlib.Core.List.{IsPrefix}
use mathlib.Core.Logic.{dite}
use native.Mathlib.Decide.{ℕ_discrete}
use lib.ListN.{get_elem?}
use Rattle.atomic_table.specs.Table.{State, Me, Step, keeps, takes, gives, put_back, rest, Allows}
use Rattle.atomic_table.proofs.Lists.{set_again, set_here}
use Rattle.pl_turn.specs.declared.known.Known.{Known}
use Rattle.pl_turn.specs.History.{times_at}
use Rattle.pl_turn.specs.Rule.{Kept, Fits, tickets, tickets_at, is_ticket, is_this_ticket, owns, spends}
use Rattle.pl_turn.specs.Steps.{drawing, receiving, adding, ending, Draws, Serves, Adds, Ends}
use Rattle.pl_turn.proofs.Sums.{sum_set, sum_same}
use Rattle.pl_turn.proofs.Once.{once_same, once_more, once_less}
use Rattle.pl_turn.proofs.Histories.{prefix_of_same, prefix_trans}
use Rattle.pl_turn.proofs.Views.{views_set, nobody_before, somebody, this_ticket, other_ticket, ticket_waits, ticket_called, served_alone, nobody_served}

pub never_spent : {A : Type 0} (b : Bool) → b ≡ false → b ≡ true → A
never_spent b no' yes' = absurd (cc (sym no' ∙ yes'))

value_or : {V : Type 0} → V → Option V → V
value_or d None = d
value_or d (Some x) = x

in_hand : {V : Type 0} → V → List (ℕ × Option V) → V
in_hand d [] = d
in_hand d (x ∷ xs) = value_or d x.1

-- a hand with the value x in it
abbrev pub holding : {V : Type 0} → V → List (ℕ × Option V)
holding x = (0, Some x) ∷ []

pub same_value : {V : Type 0} (x y : V) → holding x ≡ holding y → x ≡ y
unfolding in_hand value_or
same_value x y e = ap (in_hand x) e

module _ {V I : Type 0} (entries : V → List I) (slots id : ℕ) (me : Me (Option V) (Known I)) (about : Step (Option V)) (unspent : me.0.spent ≡ false) where
  -- a ticket is drawn
  pub draws : me.0.ticket ≡ None → me.0.served ≡ false → Allows (Kept entries) slots id me 1 (λ n. (n + 1) % 2 ^ 64) (Draws about me)
  draws none out s kept len at small =
      let v = me.0 in
      let t : ℕ = kept.drawn in
      let w : Known I = drawing v t in
      let fit = kept.each_view id v at in
      let one : tickets v ≡ 0 = ap is_ticket none in
      let sum = sum_set tickets s.views id v w at in (
        w,
        keeps,
        tt,
        record {
          log = kept.log;
          opening = kept.opening;
          drawn = kept.drawn + 1;
          called = kept.called;
          made = kept.made;
          joined = kept.joined;
          opened = kept.opened;
          words = let P : List ℕ → Type 0 = λ ws. set ws 1 ((slice_index ws 1 + 1) % 2 ^ 64) ≡ length kept.log ∷ (kept.drawn + 1) % 2 ^ 64 ∷ kept.called % 2 ^ 64 ∷ [] in
              subst P (sym kept.words) (ap (λ (n : ℕ). length kept.log ∷ n ∷ kept.called % 2 ^ 64 ∷ []) (mod-add-mod kept.drawn (2 ^ 64) 1));
          waiting = omega (arith, kept.waiting);
          each_ticket = once_more kept.called kept.drawn (kept.drawn + 1) (λ n. sum_by (tickets_at n) s.views) (λ n. sum_by (tickets_at n) (set s.views id w)) kept.each_ticket (omega (arith, kept.waiting)) refl
              (let here = sum_set (tickets_at t) s.views id v w at in let had : tickets_at t v ≡ 0 = ap (is_this_ticket t) none in let has : tickets_at t w ≡ 1 = this_ticket t t refl in omega arith)
              (λ n ne. sum_same (tickets_at n) s.views id v w at (other_ticket n t ne ∙ sym (ap (is_this_ticket n) none)));
          home = λ nobody. kept.home (nobody_before s.views id v w at out nobody);
          each_place = once_same kept.opening (length kept.log) (λ p. sum_by (owns p) s.views) (λ p. sum_by (owns p) (set s.views id w)) kept.each_place (λ p. sum_same (owns p) s.views id v w at refl);
          each_view = views_set (Fits kept.log kept.opening kept.called kept.made kept.joined) s.views id w
              record { seen = fit.seen; heard = fit.heard; counted = fit.counted; served = λ e. never_spent v.served out e; leads = fit.leads; follows = fit.follows; spent = λ e. never_spent v.spent unspent e }
              (λ j k ne there. kept.each_view j k there);
          passes = (length-set s.views id w ∙ kept.passes.0, kept.passes.1, sum_same spends s.views id v w at refl ∙ kept.passes.2);
        },
        (t, sym (ap (λ (ws : List ℕ). slice_index ws 1) kept.words), refl),
      )

  -- a load that finds another ticket called changes nothing
  waits_on : (s : State (Option V) (Known I)) (kept : Kept entries s) → get_elem? s.views id ≡ some me.0 → Kept entries record { words = set s.words 2 (slice_index s.words 2); homes = s.homes; views = set s.views id me.0 }
  waits_on s kept at =
      let P : List ℕ → Type 0 = λ ws. set ws 2 (slice_index ws 2) ≡ ws in
      let words : set s.words 2 (slice_index s.words 2) ≡ s.words = subst P (sym kept.words) refl in
      let views : set s.views id me.0 ≡ s.views = set_again s.views id me.0 at in
      let Q : List ℕ × List (Known I) → Type 0 = λ x. Kept entries record { words = x.0; homes = s.homes; views = x.1 } in
      subst Q (λ i. (sym words i, sym views i)) kept

  -- the ticket was called: the value is out with this pass, which sees the whole history
  receives : (s : State (Option V) (Known I)) (kept : Kept entries s) → get_elem? s.views id ≡ some me.0 → me.0.ticket ≡ Some kept.called → me.0.served ≡ false
      → (v : V) → entries v ≡ kept.log → Kept entries record { words = set s.words 2 (slice_index s.words 2); homes = set s.homes 0 mathlib.Core.Option.none; views = set s.views id (receiving me.0 (entries v)) }
  receives s kept at has out x full =
      let v = me.0 in
      let w : Known I = receiving v (entries x) in
      let fit = kept.each_view id v at in
      record {
        log = kept.log;
        opening = kept.opening;
        drawn = kept.drawn;
        called = kept.called;
        made = kept.made;
        joined = kept.joined;
        opened = kept.opened;
        words = (let P : List ℕ → Type 0 = λ ws. set ws 2 (slice_index ws 2) ≡ ws in subst P (sym kept.words) refl) ∙ kept.words;
        waiting = omega (arith, kept.waiting, sum_same tickets s.views id v w at refl);
        each_ticket = once_same kept.called kept.drawn (λ n. sum_by (tickets_at n) s.views) (λ n. sum_by (tickets_at n) (set s.views id w)) kept.each_ticket (λ n. sum_same (tickets_at n) s.views id v w at refl);
        home = λ nobody. absurd (somebody s.views id v w at refl nobody);
        each_place = once_same kept.opening (length kept.log) (λ p. sum_by (owns p) s.views) (λ p. sum_by (owns p) (set s.views id w)) kept.each_place (λ p. sum_same (owns p) s.views id v w at refl);
        each_view = views_set (Fits kept.log kept.opening kept.called kept.made kept.joined) s.views id w
            record { seen = prefix_of_same (entries x) kept.log full; heard = fit.heard; counted = fit.counted; served = λ e. (has, full); leads = fit.leads; follows = fit.follows; spent = λ e. never_spent v.spent unspent e }
            (λ j k ne there. kept.each_view j k there);
        passes = (length-set s.views id w ∙ kept.passes.0, kept.passes.1, sum_same spends s.views id v w at refl ∙ kept.passes.2);
      }

  -- the serving word is loaded
  pub serves : (t : ℕ) → me.0.ticket ≡ Some t → me.0.served ≡ false → Allows (Kept entries) slots id me 2 (λ n. n) (Serves entries about me)
  serves t has out s kept len at small =
      let n : ℕ = slice_index s.words 2 in
      let found : n ≡ kept.called % 2 ^ 64 = ap (λ (ws : List ℕ). slice_index ws 2) kept.words in
      dite (ℕ_discrete (t % 2 ^ 64) n)
      (λ (e : t % 2 ^ 64 ≡ n).
      let is : kept.called ≡ t = ticket_called entries s kept id me.0 at t has (e ∙ found) in
      let mine : me.0.ticket ≡ Some kept.called = has ∙ ap (λ (u : ℕ). Some u) (sym is) in
      let home = kept.home (nobody_served entries s kept id me.0 at mine out) in
      let fit = kept.each_view id me.0 at in
      let x : V = home.0 in
      let full : entries x ≡ kept.log = home.2 in (
        receiving me.0 (entries x),
        takes 0 (Some x),
        home.1,
        receives s kept at mine out x full,
        (λ u h. (
          (λ e'. (
            x,
            refl,
            (let P : List I → Type 0 = λ ys. IsPrefix me.0.seen ys in subst P (sym full) fit.seen),
            omega (arith, fit.counted, ap length full),
          )),
          (λ ne. absurd (ne (ap (λ (k : ℕ). k % 2 ^ 64) (same_Some u t (sym h ∙ has)) ∙ e))),
        )),
      ))
      (λ (ne : t % 2 ^ 64 ≢ n). (
        me.0,
        keeps,
        tt,
        waits_on s kept at,
        (λ u h. (
          (λ e'. absurd (ne (ap (λ (k : ℕ). k % 2 ^ 64) (same_Some t u (sym has ∙ h)) ∙ e'))),
          (λ ne'. refl),
        )),
      ))

  -- the own lists of a view after an entry
  owns_more : (k : Known I) (e : I) (p : ℕ) → owns p (adding k e) ≡ owns p k + cond (nat_eq (length k.seen) p) 1 0
  owns_more k e p =
      let one : times_at p (k.mine ++ (length k.seen, e) ∷ []) ≡ times_at p k.mine + cond (nat_eq (length k.seen) p) 1 0 = sum_by_push (λ (x : ℕ × I). cond (nat_eq x.0 p) 1 0) k.mine (length k.seen, e) in
      omega (arith, sum_by-cons (times_at p) (k.mine ++ (length k.seen, e) ∷ []) k.crew.joined, sum_by-cons (times_at p) k.mine k.crew.joined)

  -- an entry joins the history
  pub adds : (x : V) (e : I) → me.0.served ≡ true → me.1 ≡ (0, Some x) ∷ [] → entries x ≡ me.0.seen ++ e ∷ [] → length (entries x) < 2 ^ 64 → Allows (Kept entries) slots id me 0 (λ n. (n + 1) % 2 ^ 64) (Adds entries about me)
  adds x e served hand grown fits s kept len at small =
      let v = me.0 in
      let w : Known I = adding v e in
      let fit = kept.each_view id v at in
      let whole : v.seen ≡ kept.log = (fit.served served).1 in
      let mine : v.ticket ≡ Some kept.called = (fit.served served).0 in
      let place : length v.seen ≡ length kept.log = ap length whole in
      let log' : List I = kept.log ++ e ∷ [] in
      let longer' : length log' ≡ length kept.log + 1 = length-append kept.log (e ∷ []) in
      let short : length kept.log + 1 < 2 ^ 64 = omega (arith, ap length grown, length-append v.seen (e ∷ [])) in
      let on : IsPrefix kept.log log' = (e ∷ [], refl) in (
        w,
        keeps,
        tt,
        record {
          log = log';
          opening = kept.opening;
          drawn = kept.drawn;
          called = kept.called;
          made = kept.made;
          joined = kept.joined;
          opened = omega (arith, kept.opened);
          words = let P : List ℕ → Type 0 = λ ws. set ws 0 ((slice_index ws 0 + 1) % 2 ^ 64) ≡ length log' ∷ kept.drawn % 2 ^ 64 ∷ kept.called % 2 ^ 64 ∷ [] in
              subst P (sym kept.words) (ap (λ (n : ℕ). n ∷ kept.drawn % 2 ^ 64 ∷ kept.called % 2 ^ 64 ∷ []) (omega arith));
          waiting = omega (arith, kept.waiting, sum_same tickets s.views id v w at refl);
          each_ticket = once_same kept.called kept.drawn (λ n. sum_by (tickets_at n) s.views) (λ n. sum_by (tickets_at n) (set s.views id w)) kept.each_ticket (λ n. sum_same (tickets_at n) s.views id v w at refl);
          home = λ nobody. absurd (somebody s.views id v w at served nobody);
          each_place = once_more kept.opening (length kept.log) (length log') (λ p. sum_by (owns p) s.views) (λ p. sum_by (owns p) (set s.views id w)) kept.each_place kept.opened longer'
              (let p : ℕ = length kept.log in let sum = sum_set (owns p) s.views id v w at in let more = owns_more v e p in let one : ◌≡◌ {A = ℕ} (cond (nat_eq (length v.seen) p) 1 0) 1 = ap (λ (b : Bool). cond b 1 0) (eq-eqb (length v.seen) p place) in omega arith)
              (λ p ne. sum_same (owns p) s.views id v w at (let more = owns_more v e p in let none : ◌≡◌ {A = ℕ} (cond (nat_eq (length v.seen) p) 1 0) 0 = ap (λ (b : Bool). cond b 1 0) (ne_eqb (length v.seen) p (λ h. ne (sym h ∙ place))) in omega arith));
          each_view = views_set (Fits log' kept.opening kept.called kept.made kept.joined) s.views id w
              record {
                seen = prefix_of_same (v.seen ++ e ∷ []) log' (ap (λ ys. ys ++ e ∷ []) whole);
                heard = prefix_trans v.heard kept.log log' fit.heard on;
                counted = omega (arith, fit.counted);
                served = λ h. (mine, ap (λ ys. ys ++ e ∷ []) whole);
                leads = fit.leads;
                follows = fit.follows;
                spent = λ h. never_spent v.spent unspent h;
              }
              (λ j k ne there. let other = kept.each_view j k there in record {
                seen = prefix_trans k.seen kept.log log' other.seen on;
                heard = prefix_trans k.heard kept.log log' other.heard on;
                counted = omega (arith, other.counted);
                served = λ h. absurd (served_alone entries s kept id v at mine j k ne there h);
                leads = other.leads;
                follows = other.follows;
                spent = other.spent;
              });
          passes = (length-set s.views id w ∙ kept.passes.0, kept.passes.1, sum_same spends s.views id v w at refl ∙ kept.passes.2);
        },
        (ap (λ (ws : List ℕ). slice_index ws 0) kept.words ∙ sym place, (e, refl, λ y h. (let same : x ≡ y = same_value x y (sym hand ∙ h) in sym (ap entries same) ∙ grown))),
      )

  -- the turn ends, and the value goes home
  pub ends : (x : V) → slots ≡ 1 → me.0.served ≡ true → me.1 ≡ (0, Some x) ∷ [] → entries x ≡ me.0.seen → Allows (Kept entries) slots id me 2 (λ n. (n + 1) % 2 ^ 64) (Ends about me)
  ends x one_slot served hand full s kept len at small =
      let v = me.0 in
      let w : Known I = ending v in
      let fit = kept.each_view id v at in
      let whole : v.seen ≡ kept.log = (fit.served served).1 in
      let mine : v.ticket ≡ Some kept.called = (fit.served served).0 in
      let c : ℕ = kept.called in
      let had : tickets v ≡ 1 = ap is_ticket mine in
      let sum = sum_set tickets s.views id v w at in (
        w,
        gives,
        tt,
        record {
          log = kept.log;
          opening = kept.opening;
          drawn = kept.drawn;
          called = c + 1;
          made = kept.made;
          joined = kept.joined;
          opened = kept.opened;
          words = let P : List ℕ → Type 0 = λ ws. set ws 2 ((slice_index ws 2 + 1) % 2 ^ 64) ≡ length kept.log ∷ kept.drawn % 2 ^ 64 ∷ (c + 1) % 2 ^ 64 ∷ [] in
              subst P (sym kept.words) (ap (λ (n : ℕ). length kept.log ∷ kept.drawn % 2 ^ 64 ∷ n ∷ []) (mod-add-mod c (2 ^ 64) 1));
          waiting = omega (arith, kept.waiting);
          each_ticket = once_less c kept.drawn (c + 1) (λ n. sum_by (tickets_at n) s.views) (λ n. sum_by (tickets_at n) (set s.views id w)) kept.each_ticket refl
              (let here = sum_set (tickets_at c) s.views id v w at in let has : tickets_at c v ≡ 1 = ap (is_this_ticket c) mine ∙ this_ticket c c refl in let waits = ticket_waits entries s kept id v at c mine in let all = kept.each_ticket.inside c waits.0 waits.1 in omega arith)
              (λ n ne. sum_same (tickets_at n) s.views id v w at (sym (ap (is_this_ticket n) mine ∙ other_ticket n c ne)));
          home = λ nobody. (
            x,
            (let P : List (ℕ × Option V) → Type 0 = λ h. get_elem? (put_back s.homes h) 0 ≡ some (some (Some x)) in subst P (sym hand) (set_here s.homes 0 (some (Some x)) (omega (arith, len, one_slot)))),
            full ∙ whole,
          );
          each_place = once_same kept.opening (length kept.log) (λ p. sum_by (owns p) s.views) (λ p. sum_by (owns p) (set s.views id w)) kept.each_place (λ p. sum_same (owns p) s.views id v w at refl);
          each_view = views_set (Fits kept.log kept.opening (c + 1) kept.made kept.joined) s.views id w
              record { seen = fit.seen; heard = fit.heard; counted = fit.counted; served = λ h. absurd (cc h); leads = fit.leads; follows = fit.follows; spent = λ h. never_spent v.spent unspent h }
              (λ j k ne there. let other = kept.each_view j k there in record {
                seen = other.seen;
                heard = other.heard;
                counted = other.counted;
                served = λ h. absurd (served_alone entries s kept id v at mine j k ne there h);
                leads = other.leads;
                follows = other.follows;
                spent = other.spent;
              });
          passes = (length-set s.views id w ∙ kept.passes.0, kept.passes.1, sum_same spends s.views id v w at refl ∙ kept.passes.2);
        },
        refl,
      )

-- what is in a hand of one slot
pub hand_front : {V : Type 0} (x : V) (hand : List (ℕ × Option V)) → hand ≡ holding x → hand ≡ (0, Some x) ∷ rest hand
hand_front x hand e = e ∙ ap (λ (h : List (ℕ × Option _)). (0, Some x) ∷ rest h) (sym e)
