-- When a pass belongs to a lock.
use Rattle.std.proofs.Common.{◌≡◌, ℕ, false, List, [], ◌∷◌, ◌++◌, length, Option, Some, None, refl, sym, ap, ◌∙◌, subst, arith}
use Rattle.std.specs.List.{All}
use Rattle.std.proofs.lemmas.List.Elements.{All-weaker, All-cons, All-head, All-tail, All-push}
use mathlib.Core.List.{IsPrefix}
use Rattle.atomic_table.specs.Table.{Me}
use Rattle.pl_turn.specs.declared.known.Known.{Known}
use Rattle.pl_turn.specs.declared.lock.TurnLock.{TurnLock}
use Rattle.pl_turn.specs.declared.pass.Pass.{Pass}
use Rattle.pl_turn.specs.History.{StandsIn, longer}
use Rattle.pl_turn.specs.Rule.{own_lists}
use Rattle.pl_turn.specs.Steps.{drawing, receiving, adding, ending, taking, learning}
use Rattle.pl_turn.specs.Passes.{IsPassOf, hand_of}
use Rattle.pl_turn.proofs.Histories.{stands_on, stands_push}

-- where the history grows, each own list goes on standing in it
pub all_on : {I : Type 0} (h i : List I) (lists : List (List (ℕ × I))) → IsPrefix h i → All (StandsIn h) lists → All (StandsIn i) lists
all_on h i lists p all = All-weaker (StandsIn h) (StandsIn i) (λ own s. stands_on h i 0 own p s) lists all

module _ {V I : Type 0} where
  pub belongs : (lock : TurnLock V I) (pass : Pass V I) (k : Known I) → pass.seat.table_id ≡ lock.table.shared.table_id → pass.seat.me ≡ (k, hand_of k.served)
      → All (StandsIn k.seen) (own_lists k) → (k.served ≡ false → k.ticket ≡ None) → k.heard ≡ [] → k.spent ≡ false → IsPassOf lock pass
  belongs lock pass k of_lock is stands outside compared unspent =
      let M : Type 0 = Me (Option V) (Known I) in
      let P : M → Type 0 = λ m. All (StandsIn m.0.seen) (own_lists m.0) in
      let Q : M → Type 0 = λ m. m.1 ≡ hand_of m.0.served in
      let O : M → Type 0 = λ m. m.0.served ≡ false → m.0.ticket ≡ None in record {
        of_lock = of_lock;
        stands = subst P (sym is) stands;
        hand = subst Q (sym is) refl;
        outside = subst O (sym is) outside;
        compared = ap (λ (m : M). m.0.heard) is ∙ compared;
        unspent = ap (λ (m : M). m.0.spent) is ∙ unspent;
      }

  -- a pass that waited with the ticket t, and was served the value v
  pub entered : (lock : TurnLock V I) (pass pass' : Pass V I) (t : ℕ) (v : V) (list : List I) (waiting found : Me (Option V) (Known I)) → waiting ≡ (drawing pass.seat.me.0 t, [])
      → found ≡ (receiving waiting.0 list, (0, Some v) ∷ waiting.1) → IsPrefix waiting.0.seen list → pass'.seat.me ≡ (found.0, (0, None) ∷ [])
      → pass'.seat.table_id ≡ pass.seat.table_id → IsPassOf lock pass → IsPassOf lock pass'
  entered lock pass pass' t v list waiting found waits serves on now same own =
      let M : Type 0 = Me (Option V) (Known I) in
      let k : Known I = receiving (drawing pass.seat.me.0 t) list in
      let P : M → Type 0 = λ m. IsPrefix m.0.seen list in
      let from : IsPrefix pass.seat.me.0.seen list = subst P waits on in
      belongs lock pass' k (same ∙ own.of_lock)
      (now ∙ (ap (λ (m : M). let n : M = (m.0, (0, None) ∷ []) in n) serves ∙ ap (λ (m : M). let n : M = (receiving m.0 list, (0, None) ∷ []) in n) waits))
      (all_on pass.seat.me.0.seen list (own_lists pass.seat.me.0) from own.stands)
      (λ h. absurd (cc h))
      own.compared
      own.unspent

  -- a pass whose turn ended, with an entry added or with none
  pub ended_longer : (lock : TurnLock V I) (pass pass' : Pass V I) (e : I) (hand : List (ℕ × Option V)) (before full more : Me (Option V) (Known I)) → before ≡ pass.seat.me
      → full ≡ (before.0, hand) → more ≡ (adding full.0 e, full.1) → pass'.seat.me ≡ (ending more.0, [])
      → pass'.seat.table_id ≡ pass.seat.table_id → IsPassOf lock pass → IsPassOf lock pass'
  ended_longer lock pass pass' e hand before full more was fills adds' now same own =
      let M : Type 0 = Me (Option V) (Known I) in
      let v : Known I = pass.seat.me.0 in
      let k : Known I = ending (adding v e) in
      let seen' : List I = v.seen ++ e ∷ [] in
      belongs lock pass' k (same ∙ own.of_lock)
      (now ∙ (ap (λ (m : M). let n : M = (ending m.0, []) in n) adds' ∙ (ap (λ (m : M). let n : M = (ending (adding m.0 e), []) in n) fills ∙ ap (λ (m : M). let n : M = (ending (adding m.0 e), []) in n) was)))
      (All-cons (StandsIn seen') (v.mine ++ (length v.seen, e) ∷ []) v.crew.joined
      (stands_push v.seen e 0 v.mine (omega arith) (All-head (StandsIn v.seen) v.mine v.crew.joined own.stands))
      (all_on v.seen seen' v.crew.joined (e ∷ [], refl) (All-tail (StandsIn v.seen) v.mine v.crew.joined own.stands)))
      (λ h. refl)
      own.compared
      own.unspent

  -- a pass that took in another
  pub joined : (lock : TurnLock V I) (pass pass' other : Pass V I) (w : Known I) (taken : Me (Option V) (Known I)) → w ≡ other.seat.me.0 → taken ≡ (taking pass.seat.me.0 w, pass.seat.me.1) → pass'.seat.me ≡ (learning taken.0, taken.1)
      → IsPrefix taken.0.seen (longer taken.0.seen taken.0.heard) × IsPrefix taken.0.heard (longer taken.0.seen taken.0.heard)
      → pass'.seat.table_id ≡ pass.seat.table_id → IsPassOf lock pass → IsPassOf lock other → IsPassOf lock pass'
  joined lock pass pass' other w taken is takes now on same own own' =
      let M : Type 0 = Me (Option V) (Known I) in
      let v : Known I = pass.seat.me.0 in
      let w' : Known I = other.seat.me.0 in
      let k : Known I = learning (taking v w') in
      let P : Known I → Type 0 = λ u. IsPrefix u.seen (longer u.seen u.heard) × IsPrefix u.heard (longer u.seen u.heard) in
      let both : P (taking v w') = subst P (ap (λ (m : M). m.0) takes ∙ ap (λ (u : Known I). taking v u) is) on in
      let here : All (StandsIn k.seen) (own_lists v) = all_on v.seen k.seen (own_lists v) both.0 own.stands in
      let there : StandsIn k.seen w'.mine = stands_on w'.seen k.seen 0 w'.mine both.1 (All-head (StandsIn w'.seen) w'.mine w'.crew.joined own'.stands) in
      belongs lock pass' k (same ∙ own.of_lock)
      (now ∙ (ap (λ (m : M). let n : M = (learning m.0, m.1) in n) takes ∙ (λ i. (learning (taking v (is i)), own.hand i))))
      (All-push (StandsIn k.seen) (own_lists v) w'.mine here there)
      own.outside
      refl
      own.unspent
