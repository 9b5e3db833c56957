-- One turn of repair.
use Rattle.std.proofs.Common.{◌≡◌, ℕ, zero, suc, ◌<◌, ◌≤◌, List, [], ◌∷◌, length, get_or, Bool, true, false, not, ◌&&◌, ◌||◌, Option, Some, None, Ok, Err, refl, sym, ◌∙◌, ap, subst, ◌⊎◌, inl, inr, eq-eqb, arith}
use Rattle.std.specs.Prelude.{Contains, is_none, is_some, nat_lt, ◌==◌, if◌then◌else◌}
use Rattle.std.specs.Ordering.{is_eq}
use Rattle.std.specs.Cmp.{int_eq_equiv}
use Rattle.std.specs.List.{list_any}
use Rattle.std.proofs.lemmas.Bool.{lt-ltb, and_from}
use Rattle.std.proofs.Math.Bool.{or-true}
use Rattle.pl_lists.proofs.Elements.{filter_contains, filter_passing}
use Rattle.pl_conflict.specs.declared.conflict.Conflict.{Conflict}
use Rattle.pl_conflict.specs.Order.{conflict_cmp, has}
use Rattle.pl_conflict.proofs.Sorting.{same_itself}
use Rattle.pl_plan.specs.declared.repair.RepairMove.{RepairMove}
use Rattle.pl_plan.specs.declared.repair.RepairMove.TheVariants as repair
use Rattle.pl_entry.specs.declared.event.Event.{Event}
use Rattle.pl_entry.specs.declared.event.Event.TheVariants as event
use Rattle.pl_entry.specs.declared.reply.Reply.{Reply}
use Rattle.pl_entry.specs.declared.reply.Reply.TheVariants as reply
use Rattle.pl_entry.specs.declared.reply.Reason.{Reason}
use Rattle.pl_semantics.specs.declared.plan_state.PlanState.{PlanState}
use Rattle.pl_semantics.specs.declared.refusal.Refusal.{Refusal}
use Rattle.pl_semantics.specs.Conflicts.{conflicts_of}
use Rattle.pl_semantics.specs.Moves.{refusal_of}
use Rattle.pl_semantics.specs.Candidates.{candidates_of, same_move, same_number}
use Rattle.pl_semantics.specs.Legal.{is_legal, has_repair, legal_for, is_stuck}
use Rattle.pl_moves.specs.Keeping.{KeepsCommitted}
use Rattle.pl_cand.specs.declared.proposal.Proposal.{Proposal}
use Rattle.pl_cand.specs.Proposals.{IsProposal}
use Rattle.pl_machine.specs.declared.stop.Stop.{Stop}
use Rattle.pl_machine.specs.declared.stop.Stop.TheVariants as stop
use Rattle.pl_machine.specs.declared.repaired.Repaired.TheVariants as repaired
use Rattle.pl_machine.specs.World.{World, reason_by, plain_reason_of, reason_of}
use Rattle.pl_machine.specs.Step.{is_candidate, refusal_reply, fix_reply, rest_reply, is_enabled}
use Rattle.pl_machine.specs.Sound.{State}
use Rattle.pl_machine.specs.Taking.{IsOpen, Takes, Answers, Admits}
use Rattle.pl_machine.specs.Solo.{Picks, Drawn}
use Rattle.pl_machine.proofs.Handed.{keeps_itself}
use Rattle.pl_machine.proofs.Resting.{goes_on}
use Rattle.pl_machine.specs.Mending.{is_repairing, HasMended, IsAskedAtMost, Stops, HasRepaired, RepairsOnce}

-- ---- what is among the legal ones is in the list, and legal

any_at : {X : Type 0} (p : X → Bool) (xs : List X) (k : ℕ) (x : X) → k < length xs → get_or xs k x ≡ x → p x ≡ true → list_any p xs ≡ true
any_at p [] k x lt here h = absurd (omega arith)
any_at p (y ∷ xs) zero x lt here h = ap (λ (b : Bool). b || list_any p xs) (ap p here ∙ h)
any_at p (y ∷ xs) (suc k) x lt here h = ap (λ (b : Bool). p y || b) (any_at p xs k x (omega arith) here h) ∙ or-true (p y)

contained : {X : Type 0} (p : X → Bool) (xs : List X) (x : X) → Contains xs x → p x ≡ true → list_any p xs ≡ true
contained p xs x here h = any_at p xs here.0 x here.1 here.2 h

-- ---- each is itself

same_number_self : (n : Option ℕ) → same_number n n ≡ true
same_number_self None = refl
same_number_self (Some n) = eq-eqb n n refl

same_move_self : (m : RepairMove) → same_move m m ≡ true
same_move_self (repair.Add kind start goal) = and_from _ _ (eq-eqb kind kind refl) (and_from _ _ (eq-eqb start start refl) (same_number_self goal))
same_move_self (repair.Delete id) = eq-eqb id id refl
same_move_self (repair.Shift id start) = and_from _ _ (eq-eqb id id refl) (eq-eqb start start refl)
same_move_self (repair.Detail id alternative) = and_from _ _ (eq-eqb id id refl) (eq-eqb alternative alternative refl)
same_move_self (repair.Abstract id) = eq-eqb id id refl
same_move_self (repair.Assign id param value) = and_from _ _ (eq-eqb id id refl) (and_from _ _ (eq-eqb param param refl) (int_eq_equiv.refl value))
same_move_self (repair.Drop number) = eq-eqb number number refl

-- ---- what is proposed is answered by ok

no_refusal : (o : Option Refusal) → is_none o ≡ true → refusal_reply o ≡ reply.Done
no_refusal None e = refl
no_refusal (Some r) e = absurd (cc)

made_if : (stands fits : Bool) (r : Reply) → stands ≡ true → fits ≡ true → r ≡ reply.Done → (if not stands then reply.Stale else if not fits then reply.NotFor else r) ≡ reply.Done
made_if true true r e f g = g
made_if true false r e f g = absurd (cc)
made_if false fits r e f g = absurd (cc)

pub proposed_done : (s : PlanState) (p : Proposal) → IsProposal s (Some p) → fix_reply s p.conflict p.mv ≡ reply.Done
unfolding fix_reply legal_for
proposed_done s p proposal =
    let k = p.conflict in
    let m = p.mv in
    let candidate : Contains (candidates_of s k) m = filter_contains (is_legal s) (candidates_of s k) m proposal.1 in
    made_if (has k (conflicts_of s)) (is_candidate s k m) (refusal_reply (refusal_of s m))
    (contained (λ q. is_eq (conflict_cmp k q)) (conflicts_of s) k proposal.0 (same_itself k))
    (contained (same_move m) (candidates_of s k) m candidate (same_move_self m))
    (no_refusal (refusal_of s m) (filter_passing (is_legal s) (candidates_of s k) m proposal.1))

-- ---- where repair goes on

by_reason : (ks : List Conflict) (spent stuck : Bool) → reason_by ks spent stuck ≡ None → (spent ≡ false) × (stuck ≡ false)
by_reason [] spent stuck e = absurd (cc)
by_reason (k ∷ ks) true stuck e = absurd (cc)
by_reason (k ∷ ks) false true e = absurd (cc)
by_reason (k ∷ ks) false false e = (refl, refl)

-- what is proposed shows that some conflict has a legal candidate
proposed_repair : (s : PlanState) (k : Conflict) (m : RepairMove) → Contains (legal_for s k) m → has_repair s k ≡ true
unfolding legal_for
proposed_repair s k m legal = contained (is_legal s) (candidates_of s k) m (filter_contains (is_legal s) (candidates_of s k) m legal) (filter_passing (is_legal s) (candidates_of s k) m legal)

pub not_stuck : (s : PlanState) (p : Proposal) → IsProposal s (Some p) → is_stuck s ≡ false
unfolding is_stuck
not_stuck s p proposal = ap not (contained (has_repair s) (conflicts_of s) p.conflict proposal.0 (proposed_repair s p.conflict p.mv proposal.1))

-- without a reason to rest turns are left
turns_left : (w : World) → reason_of w ≡ None → w.turn ≤ w.options.turns → nat_lt w.turn w.options.turns ≡ true
turns_left w e most =
    let other : (w.turn == w.options.turns) ≡ false = (by_reason (conflicts_of w.state) (w.turn == w.options.turns) (is_stuck w.state) e).0 in
    lt-ltb w.turn w.options.turns (grind (arith, other, most))

both_last : (a b c : Bool) → (a && b) ≡ true → c ≡ true → (a && (b && c)) ≡ true
both_last true true c e f = f
both_last true false c e f = absurd (cc)
both_last false b c e f = absurd (cc)

fix_enabled : (w : World) (k : Conflict) (m : RepairMove) → is_repairing w ≡ true → reason_of w ≡ None → w.turn ≤ w.options.turns → is_enabled w (event.Fix k m) ≡ true
fix_enabled w k m going e most = both_last (not w.closed) (not w.rested) (nat_lt w.turn w.options.turns) going (turns_left w e most)

rest_enabled : (w : World) (reason : Reason) → is_repairing w ≡ true → reason_of w ≡ Some reason → is_enabled w event.Rest ≡ true
rest_enabled w reason going e = both_last (not w.closed) (not w.rested) (is_some (reason_of w)) going (ap (λ (o : Option Reason). is_some o) e)

pub fix_open : (s : State) (k : Conflict) (m : RepairMove) → s.spoiled ≡ false → is_repairing s.world ≡ true → length s.log < s.world.options.entries → reason_of s.world ≡ None → s.world.turn ≤ s.world.options.turns → IsOpen s (event.Fix k m)
fix_open s k m unspoiled going room e most = record { unspoiled = unspoiled; enabled = fix_enabled s.world k m going e most; room = room }

pub rest_open : (s : State) (reason : Reason) → s.spoiled ≡ false → is_repairing s.world ≡ true → length s.log < s.world.options.entries → reason_of s.world ≡ Some reason → IsOpen s event.Rest
rest_open s reason unspoiled going room e = record { unspoiled = unspoiled; enabled = rest_enabled s.world reason going e; room = room }

-- ---- what a turn comes to

-- a repair that was made
pub fixed : {C : Type 0} (picks : Picks C) (old new : State) (c c2 : C) (p : Proposal) → plain_reason_of old.world ≡ None → HasMended picks old c (Some p) new c2 → HasRepaired picks old c (repaired.Fixed p) new c2
fixed picks old new c c2 p plain made = (goes_on old.world plain (not_stuck old.world.state p made.1), made.0, made.1, made.2, made.3)

-- a rest behind a chooser that proposed nothing
pub rested_on : {C : Type 0} (picks : Picks C) (old mid new : State) (c c2 : C) (reason : Reason) (r : Reply) → reason_of old.world ≡ Some reason → mid ≡ old → Answers mid event.Rest (Ok r) new → c2 ≡ c → HasRepaired picks old c (repaired.Rested reason) new c2
rested_on picks old mid new c c2 reason r is same answers kept =
    let answered : Answers old event.Rest (Ok r) new = subst (λ (s : State). Answers s event.Rest (Ok r) new) same answers in
    let here : r ≡ reply.Rested reason = answered.1.step.answers ∙ ap rest_reply is in
    (is, answered.0, subst (λ (x : Reply). Takes old event.Rest x new) here answered.1, kept)

-- a rest
pub rested : {C : Type 0} (picks : Picks C) (old new : State) (c : C) (reason : Reason) (r : Reply) → reason_of old.world ≡ Some reason → Answers old event.Rest (Ok r) new → HasRepaired picks old c (repaired.Rested reason) new c
rested picks old new c reason r is answers = rested_on picks old old new c c reason r is refl answers refl

-- a rest leaves the plan state
pub rest_keeps : (old new : State) (r : Reply) → Answers old event.Rest (Ok r) new → KeepsCommitted old.world.state new.world.state
rest_keeps old new r answers = subst (λ (w : World). KeepsCommitted old.world.state w.state) (sym answers.1.step.leaves) (keeps_itself old.world.state)

-- an event that may be made fails only where memory is wanting
fails_by : {C : Type 0} (picks : Picks C) (drawn : Drawn C) (old new : State) (c c2 : C) (e : Event) (s : Stop) → IsOpen old e → IsAskedAtMost drawn old.world c c2 → Answers old e (Err s) new → RepairsOnce picks drawn old c (Err s) new c2
fails_by picks drawn old new c c2 e stop.Spoiled may asked answers = absurd (let h : true ≡ false = sym answers.0 ∙ may.unspoiled in cc)
fails_by picks drawn old new c c2 e stop.NotNow may asked answers = absurd (let h : true ≡ false = sym may.enabled ∙ answers.1 in cc)
fails_by picks drawn old new c c2 e stop.LogFull may asked answers = absurd (let full = answers.2 in let room = may.room in omega (arith, room, full))
fails_by picks drawn old new c c2 e stop.Memory may asked answers = (answers.0, answers.1, asked)

-- a rest
pub rest_fails : {C : Type 0} (picks : Picks C) (drawn : Drawn C) (old new : State) (c : C) (s : Stop) → IsOpen old event.Rest → Answers old event.Rest (Err s) new → RepairsOnce picks drawn old c (Err s) new c
rest_fails picks drawn old new c s may made = fails_by picks drawn old new c c event.Rest s may (inl refl) made

-- it chose, if some conflict has a legal candidate
abbrev MayChoose : {C : Type 0} → Drawn C → PlanState → C → C → Type 0
MayChoose drawn s c c2 = (c2 ≡ c) ⊎ ((is_stuck s ≡ false) × drawn c c2)

asked : {C : Type 0} (drawn : Drawn C) (w : World) (c c2 : C) → is_repairing w ≡ true → plain_reason_of w ≡ None → MayChoose drawn w.state c c2 → IsAskedAtMost drawn w c c2
asked drawn w c c2 going plain (inl same) = inl same
asked drawn w c c2 going plain (inr chose) = inr (going, goes_on w plain chose.0, chose.1)

-- what comes behind a proposal
pub made_fails : {C : Type 0} (picks : Picks C) (drawn : Drawn C) (old mid new : State) (c c2 : C) (e : Event) (s : Stop) → IsOpen old e → mid ≡ old → Answers mid e (Err s) new → is_repairing old.world ≡ true → plain_reason_of old.world ≡ None
    → MayChoose drawn old.world.state c c2 → RepairsOnce picks drawn old c (Err s) new c2
made_fails picks drawn old mid new c c2 e s may same made going plain chose =
    fails_by picks drawn old new c c2 e s may (asked drawn old.world c c2 going plain chose) (subst (λ (t : State). Answers t e (Err s) new) same made)

-- memory was wanting while it chose
pub asked_fails : {C : Type 0} (picks : Picks C) (drawn : Drawn C) (old new : State) (c c2 : C) (s : Stop) → Stops old s new → is_repairing old.world ≡ true → plain_reason_of old.world ≡ None → MayChoose drawn old.world.state c c2
    → RepairsOnce picks drawn old c (Err s) new c2
asked_fails picks drawn old new c c2 stop.Spoiled stops going plain chose = absurd stops
asked_fails picks drawn old new c c2 stop.NotNow stops going plain chose = absurd stops
asked_fails picks drawn old new c c2 stop.LogFull stops going plain chose = absurd stops
asked_fails picks drawn old new c c2 stop.Memory stops going plain chose = (stops.0, stops.1, asked drawn old.world c c2 going plain chose)

-- a turn that may not be taken
pub not_admitted : {C : Type 0} (picks : Picks C) (drawn : Drawn C) (old : State) (c : C) (s : Stop) → Admits old (is_repairing old.world) (Err s) → RepairsOnce picks drawn old c (Err s) old c
not_admitted picks drawn old c stop.Spoiled admits = (admits, refl, refl)
not_admitted picks drawn old c stop.NotNow admits = (admits.0, admits.1, refl, refl)
not_admitted picks drawn old c stop.LogFull admits = (admits.0, admits.1, admits.2, refl, refl)
not_admitted picks drawn old c stop.Memory admits = absurd admits
