-- What the rule says of the views, where one of them changes.
use Rattle.std.proofs.Common.{◌≡◌, ◌≢◌, ℕ, ◌+◌, ◌%◌, ◌^◌, ◌≤◌, ◌<◌, true, false, Bool, cond, List, set, Option, Some, None, refl, sym, ap, ◌∙◌, subst, ⊎_elim, arith, eq-eqb, ne_eqb}
use Rattle.std.proofs.lemmas.Bool.{false_from_ne_true}
use mathlib.Core.Option.{some-injective}
use mathlib.Core.Logic.{dite}
use native.Mathlib.Decide.{ℕ_discrete, dec_le}
use Rattle.atomic_table.specs.Table.{State}
use Rattle.atomic_table.proofs.Lists.{at_set, set_here, set_else, one_turn}
use Rattle.pl_turn.specs.declared.known.Known.{Known}
use Rattle.pl_turn.specs.Rule.{Kept, tickets, tickets_at, is_ticket, is_this_ticket, IsViewOf, NobodyIsServed}
use Rattle.pl_turn.proofs.Sums.{there_below, sum_there, sum_two, sum_most}

-- a ticket is this one
pub this_ticket : (t u : ℕ) → t ≡ u → is_this_ticket t (Some u) ≡ 1
this_ticket t u e = ap (λ (b : Bool). cond b 1 0) (eq-eqb u t (sym e))

pub other_ticket : (t u : ℕ) → t ≢ u → is_this_ticket t (Some u) ≡ 0
other_ticket t u ne = ap (λ (b : Bool). cond b 1 0) (ne_eqb u t (λ e. ne (sym e)))

is_ticket_most : (o : Option ℕ) → is_ticket o ≤ 1
is_ticket_most None = omega arith
is_ticket_most (Some u) = omega arith

le_by_cases : (a b : ℕ) → (b < a → ⊥) → a ≤ b
le_by_cases a b never = dite (dec_le a b) (λ (h : a ≤ b). h) (λ (h : a ≤ b → ⊥). absurd (never (omega arith)))

lt_by_cases : (a b : ℕ) → (b ≤ a → ⊥) → a < b
lt_by_cases a b never = dite (dec_le b a) (λ (h : b ≤ a). absurd (never h)) (λ (h : b ≤ a → ⊥). omega arith)

module _ {I : Type 0} where
  -- what holds of the new view and of each other
  pub views_set : (P : ℕ → Known I → Type 0) (views : List (Known I)) (id : ℕ) (w : Known I) → P id w → ((j : ℕ) (k : Known I) → j ≢ id → IsViewOf views j k → P j k)
      → (j : ℕ) (k : Known I) → IsViewOf (set views id w) j k → P j k
  views_set P views id w mine others j k e = ⊎_elim
      (λ (x : (j ≡ id) × (w ≡ k)). subst (λ (t : ℕ × Known I). P t.0 t.1) (λ i. (sym x.0 i, x.1 i)) mine)
      (λ (x : (j ≢ id) × IsViewOf views j k). others j k x.0 x.1)
      (at_set views id j w k e)

  -- where nobody is served after a change of an unserved view, nobody was before
  pub nobody_before : (views : List (Known I)) (id : ℕ) (v w : Known I) → IsViewOf views id v → v.served ≡ false → NobodyIsServed (set views id w) → NobodyIsServed views
  nobody_before views id v w at out nobody j k e = dite (ℕ_discrete j id)
      (λ (same : j ≡ id).
      let there : IsViewOf views id k = subst (λ (i : ℕ). IsViewOf views i k) same e in
      let is : v ≡ k = some-injective v k (sym at ∙ there) in subst (λ (u : Known I). u.served ≡ false) is out)
      (λ (ne : j ≢ id). nobody j k (set_else views id j w ne ∙ e))

  -- where this view is served, not nobody is
  pub somebody : (views : List (Known I)) (id : ℕ) (v w : Known I) → IsViewOf views id v → w.served ≡ true → NobodyIsServed (set views id w) → ⊥
  somebody views id v w at served nobody =
      let h = nobody id w (set_here views id w (there_below views id v at)) in cc

module _ {V I : Type 0} (entries : V → List I) (s : State (Option V) (Known I)) (kept : Kept entries s) (id : ℕ) (v : Known I) (at : IsViewOf s.views id v) where
  -- fewer tickets wait than a word has numbers
  pub few_wait : kept.drawn ≤ kept.called + 1001
  few_wait = let most = sum_most tickets s.views (λ k. is_ticket_most k.ticket) in omega (arith, kept.waiting, kept.passes)

  module _ (t : ℕ) (has : v.ticket ≡ Some t) where
    one : tickets_at t v ≡ 1
    one = ap (is_this_ticket t) has ∙ this_ticket t t refl

    -- the ticket is one that was drawn and has not been called
    pub ticket_waits : (kept.called ≤ t) × (t < kept.drawn)
    ticket_waits =
        let there = sum_there (tickets_at t) s.views id v at in
        let mine = one in (
          le_by_cases kept.called t (λ less. let none = kept.each_ticket.below t less in omega arith),
          lt_by_cases t kept.drawn (λ more. let none = kept.each_ticket.above t more in omega arith),
        )

    -- where the number is that of the ticket called, modulo 2 ^ 64, it is the ticket called
    pub ticket_called : t % 2 ^ 64 ≡ kept.called % 2 ^ 64 → kept.called ≡ t
    ticket_called e = let w = ticket_waits in one_turn kept.called t (2 ^ 64) w.0 (let few = few_wait in omega arith) (sym e)

    -- nobody else has it
    pub ticket_alone : (j : ℕ) (k : Known I) → j ≢ id → IsViewOf s.views j k → k.ticket ≡ Some t → ⊥
    ticket_alone j k ne there also =
        let w = ticket_waits in
        let two = sum_two (tickets_at t) s.views j id k v ne there at in
        let mine = one in
        let other : tickets_at t k ≡ 1 = ap (is_this_ticket t) also ∙ this_ticket t t refl in
        let all = kept.each_ticket.inside t w.0 w.1 in omega arith

  -- who has the ticket called is the only one who may be served
  pub served_alone : v.ticket ≡ Some kept.called → (j : ℕ) (k : Known I) → j ≢ id → IsViewOf s.views j k → k.served ≡ true → ⊥
  served_alone has j k ne there served = ticket_alone kept.called has j k ne there ((kept.each_view j k there).served served).0

  pub nobody_served : v.ticket ≡ Some kept.called → v.served ≡ false → NobodyIsServed s.views
  nobody_served has out j k there = dite (ℕ_discrete j id)
      (λ (same : j ≡ id).
      let there' : IsViewOf s.views id k = subst (λ (i : ℕ). IsViewOf s.views i k) same there in
      let is : v ≡ k = some-injective v k (sym at ∙ there') in subst (λ (u : Known I). u.served ≡ false) is out)
      (λ (ne : j ≢ id). false_from_ne_true k.served (λ yes. served_alone has j k ne there yes))
