-- Replicas of a machine stay behind it, and come up to it.
use Rattle.std.proofs.Common.{◌≡◌, ℕ, List, [], ◌∷◌, ◌++◌, length, drop, get_or, Bool, true, false, cond, Option, Some, None, IfSome, Result, Ok, Err, refl, sym, ◌∙◌, ap, subst}
use mathlib.Core.List.{IsPrefix}
use Rattle.pl_turn.proofs.Histories.{prefix_of_same, prefix_trans}
use Rattle.std.specs.List.{All}
use Rattle.std.specs.Option.{option_to_list}
use Rattle.std.proofs.lemmas.List.Elements.{filter_map-append, All-nil, All-cons, All-push, All-head, All-tail}
use Rattle.pl_model.specs.declared.whole.Model.{Model}
use Rattle.pl_model.specs.Checked.{IsChecked}
use Rattle.pl_entry.specs.declared.event.Event.{Event}
use Rattle.pl_entry.specs.declared.event.Event.TheVariants as event
use Rattle.pl_entry.specs.declared.reply.Reply.{Reply}
use Rattle.pl_entry.specs.declared.reply.Reply.TheVariants as reply
use Rattle.pl_entry.specs.declared.entry.Entry.{Entry}
use Rattle.pl_entry.specs.Bounds.{IsEventInRange}
use Rattle.rand_pcg.specs.Lcg.{Lcg}
use Rattle.pl_cand.specs.declared.proposal.Proposal.{Proposal}
use Rattle.pl_cand.specs.Proposals.{IsProposal}
use Rattle.pl_choose.specs.Picks.{seeded_pick}
use Rattle.pl_machine.specs.declared.stop.Stop.{Stop}
use Rattle.pl_machine.specs.declared.stop.Stop.TheVariants as stop
use Rattle.pl_machine.specs.declared.repaired.Repaired.{Repaired}
use Rattle.pl_machine.specs.declared.repaired.Repaired.TheVariants as repaired
use Rattle.pl_machine.specs.World.{World}
use Rattle.pl_machine.specs.Step.{reply_of}
use Rattle.pl_machine.specs.Legal.{Legal, IsHistory, world_of}
use Rattle.pl_machine.specs.Repairs.{IsMoveOf}
use Rattle.pl_machine.specs.Sound.{State}
use Rattle.pl_machine.specs.Solo.{Picks, Drawn}
use Rattle.pl_machine.specs.Taking.{Takes, Spoils, Answers}
use Rattle.pl_machine.specs.Mending.{RepairsOnce}
use Rattle.pl_machine.proofs.Models.{model_of_world}
use Rattle.pl_machine.proofs.NextSteps.{next_step}
use Rattle.pl_machine.proofs.Proposed.{proposed_move}
use Rattle.pl_acts.specs.declared.noted.Noted.{Noted}
use Rattle.pl_acts.specs.Items.{Signs, items_of, entry_in, entries_in, model_in, OfWorld, InWorld}
use Rattle.pl_acts.specs.Replicas.{HasLog, IsReplica, IsNext, IsAsked, IsReplicaOf}
use Rattle.pl_acts.proofs.Items.{model_in_items, model_in_prefix, entries_in_items}

-- ---- the machine goes on

goes_on : (old new r : State) → new.model ≡ old.model → IsPrefix old.log new.log → IsReplica old r → IsReplica new r
goes_on old new r model on is = record { unspoiled = is.unspoiled; model = is.model ∙ sym model; begins = prefix_trans r.log old.log new.log is.begins on }

pub all_go_on : (old new : State) (rs : List State) → new.model ≡ old.model → IsPrefix old.log new.log → All (IsReplica old) rs → All (IsReplica new) rs
all_go_on old new rs model on all = λ k d lt. goes_on old new (get_or rs k d) model on (all k d lt)

took_on : (old new : State) (e : Event) (r : Reply) (rs : List State) → Takes old e r new → All (IsReplica old) rs → All (IsReplica new) rs
took_on old new e r rs takes all = all_go_on old new rs takes.model (record { event = e; reply = r } ∷ [], sym takes.log) all

spoiled_on : (old new : State) (rs : List State) → Spoils old new → All (IsReplica old) rs → All (IsReplica new) rs
spoiled_on old new rs spoils all = all_go_on old new rs spoils.model (prefix_of_same old.log new.log (sym spoils.log)) all

same_on : (old new : State) (rs : List State) → new ≡ old → All (IsReplica old) rs → All (IsReplica new) rs
same_on old new rs same all = subst (λ (m : State). All (IsReplica m) rs) (sym same) all

pub still_behind : (old new : State) (e : Event) (r : Result Reply Stop) (rs : List State) → All (IsReplica old) rs → Answers old e r new → All (IsReplica new) rs
still_behind old new e (Ok r) rs all answers = took_on old new e r rs answers.1 all
still_behind old new e (Err stop.Spoiled) rs all answers = same_on old new rs answers.1 all
still_behind old new e (Err stop.NotNow) rs all answers = same_on old new rs answers.2 all
still_behind old new e (Err stop.LogFull) rs all answers = same_on old new rs answers.3 all
still_behind old new e (Err stop.Memory) rs all answers = spoiled_on old new rs answers.1 all

pub behind_repaired : {C : Type 0} (picks : Picks C) (drawn : Drawn C) (old new : State) (c c2 : C) (r : Result Repaired Stop) (rs : List State) → All (IsReplica old) rs → RepairsOnce picks drawn old c r new c2 → All (IsReplica new) rs
behind_repaired picks drawn old new c c2 (Ok (repaired.Fixed p)) rs all did = took_on old new (event.Fix p.conflict p.mv) reply.Done rs did.4 all
behind_repaired picks drawn old new c c2 (Ok (repaired.Rested why)) rs all did = took_on old new event.Rest (reply.Rested why) rs did.2 all
behind_repaired picks drawn old new c c2 (Err stop.Spoiled) rs all answers = same_on old new rs answers.1 all
behind_repaired picks drawn old new c c2 (Err stop.NotNow) rs all answers = same_on old new rs answers.2 all
behind_repaired picks drawn old new c c2 (Err stop.LogFull) rs all answers = same_on old new rs answers.3 all
behind_repaired picks drawn old new c c2 (Err stop.Memory) rs all answers = spoiled_on old new rs answers.1 all

-- ---- replicas are lent and come back

front_all : {A : Type 0} (P : A → Type 0) (xs ys : List A) → All P (xs ++ ys) → All P xs
front_all P [] ys all = All-nil P
front_all P (x ∷ xs) ys all = All-cons P x xs (All-head P x (xs ++ ys) all) (front_all P xs ys (All-tail P x (xs ++ ys) all))

last_one : {A : Type 0} (P : A → Type 0) (xs : List A) (o : Option A) → All P (xs ++ option_to_list o) → IfSome o P
last_one P xs None all = tt
last_one P [] (Some x) all = All-head P x [] all
last_one P (y ∷ xs) (Some x) all = last_one P xs (Some x) (All-tail P y (xs ++ x ∷ []) all)

-- the last one is taken out
pub one_less : (m : State) (before rs : List State) (o : Option State) → before ≡ rs ++ option_to_list o → All (IsReplica m) before → All (IsReplica m) rs × IfSome o (IsReplica m)
one_less m before rs o is all =
    let parts = subst (λ (xs : List State). All (IsReplica m) xs) is all in
    (front_all (IsReplica m) rs (option_to_list o) parts, last_one (IsReplica m) rs o parts)

-- one is put back, if there is room for it
pub one_more : (m r : State) (rs : List State) (b : Bool) → All (IsReplica m) rs → IsReplica m r → All (IsReplica m) (cond b (rs ++ r ∷ []) rs)
one_more m r rs true all is = All-push (IsReplica m) rs r all is
one_more m r rs false all is = all

-- ---- a replica comes up

-- a copy is a replica
pub copied : (m copy : State) → m.spoiled ≡ false → copy ≡ m → IsReplica m copy
copied m copy unspoiled same = record {
  unspoiled = ap (λ (s : State). s.spoiled) same ∙ unspoiled;
  model = ap (λ (s : State). s.model) same;
  begins = prefix_of_same copy.log m.log (ap (λ (s : State). s.log) same);
}

-- what a front leaves
pub rest_of : (xs ys : List Entry) → IsPrefix xs ys → xs ++ drop (length xs) ys ≡ ys
rest_of [] ys on = refl
rest_of (x ∷ xs) [] on = absurd (let h : x ∷ (xs ++ on.0) ≡ [] = on.1 in cc)
rest_of (x ∷ xs) (y ∷ ys) on =
    let first : x ≡ y = cc (on.1) in
    let rest : xs ++ drop (length xs) ys ≡ ys = rest_of xs ys (on.0, cc (on.1)) in
    ap (λ (zs : List Entry). x ∷ zs) rest ∙ ap (λ (z : Entry). z ∷ ys) first

pub next_in_range : (m : Model) (log : List Entry) (e : Entry) → Legal m log → IsNext m log e → IsEventInRange m e.event
next_in_range m log e legal next = subst (λ (k : Model). IsEventInRange k e.event) (model_of_world m log) (next_step m log next.0 e legal next.1).event

pub next_made : (old new : State) (e : Entry) (r : Reply) → IsHistory old.model old.log old.world → IsNext old.model old.log e → Answers old e.event (Ok r) new → HasLog old.model (old.log ++ e ∷ []) new
next_made old new e r history next answers =
    let step = next_step old.model old.log next.0 e history.legal next.1 in
    let same : r ≡ e.reply = answers.1.step.answers ∙ ap (λ (w : World). reply_of w e.event) history.world ∙ sym step.answers in
    record {
      unspoiled = answers.1.spoiled;
      model = answers.1.model;
      log = answers.1.log ∙ ap (λ (x : Reply). old.log ++ record { event = e.event; reply = x } ∷ []) same;
    }

-- what a chooser proposes in a machine's world
pub asked : (old new : State) (g : Lcg) (p : Option Proposal) (seen : ℕ) → old.spoiled ≡ false → new ≡ old → IsHistory old.model old.log old.world → seen ≡ length old.log → p ≡ seeded_pick old.world.state g → IsProposal old.world.state p
    → IsAsked g old.model old.log (record { seen = seen; proposal = p; replica = Some new })
asked old new g p seen unspoiled same history long picks legal =
    let P : State → Type 0 = λ s. HasLog old.model old.log s in
    record {
      seen = long;
      picks = picks ∙ ap (λ (w : World). seeded_pick w.state g) history.world;
      legal = subst (λ (w : World). IsProposal w.state p) history.world legal;
      replica = subst P (sym same) (record { unspoiled = unspoiled; model = refl; log = refl });
    }

-- ---- replicas of a history

-- a machine that has come to the end of a history's log
pub replica_of : (items : List Noted) (m : Model) (log : List Entry) (s : Signs) (o : Option State) → items ≡ items_of m log s → Legal m log → IfSome o (HasLog m log) → IfSome o (IsReplicaOf items)
replica_of items m log s None is legal has = tt
replica_of items m log s (Some r) is legal has = record {
  unspoiled = has.unspoiled;
  model = ap model_in is ∙ model_in_items m log s legal ∙ ap (λ (k : Model). Some k) (sym has.model);
  begins = prefix_of_same r.log (entries_in items) (has.log ∙ sym (ap entries_in is ∙ entries_in_items m log s));
}

-- what a turn finds goes on from a replica
pub replica_here : (old mid : List Noted) (m : State) (s : Signs) (o : Option State) → IsPrefix old mid → mid ≡ items_of m.model m.log s → Legal m.model m.log → IfSome o (IsReplicaOf old) → IfSome o (IsReplica m)
replica_here old mid m s None on is legal behind = tt
replica_here old mid m s (Some r) on is legal behind =
    let here : model_in mid ≡ Some m.model = ap model_in is ∙ model_in_items m.model m.log s legal in
    let there : model_in mid ≡ Some r.model = model_in_prefix old mid r.model on behind.model in
    let models : Some r.model ≡ Some m.model = sym there ∙ here in
    let log : entries_in mid ≡ m.log = ap entries_in is ∙ entries_in_items m.model m.log s in
    let onto : IsPrefix (entries_in old) m.log = (entries_in on.0, sym (filter_map-append entry_in old on.0) ∙ ap entries_in on.1 ∙ log) in
    record { unspoiled = behind.unspoiled; model = cc (models); begins = prefix_trans r.log (entries_in old) m.log behind.begins onto }

-- ---- what was proposed on a front may be handed in

moves_in : (m : Model) (o : Option Model) (es : List Entry) (p : Option Proposal) → IsChecked m → ((k : Model) → o ≡ Some k → k ≡ m) → OfWorld o es (λ w. IsProposal w.state p) → IfSome p (λ q. IsMoveOf m q.mv)
moves_in m None es p checked same legal = absurd legal
moves_in m (Some k) es p checked same legal = proposed_move m (world_of k es).state p checked (model_of_world k es ∙ same k refl) legal

pub moves_here : (front mid : List Noted) (m : State) (s : Signs) (p : Option Proposal) → IsPrefix front mid → mid ≡ items_of m.model m.log s → Legal m.model m.log → IsChecked m.model → InWorld front (λ w. IsProposal w.state p)
    → IfSome p (λ q. IsMoveOf m.model q.mv)
moves_here front mid m s p on is legal checked proposal =
    let here : model_in mid ≡ Some m.model = ap model_in is ∙ model_in_items m.model m.log s legal in
    let same : (k : Model) → model_in front ≡ Some k → k ≡ m.model = λ k at. (let models : Some k ≡ Some m.model = sym (model_in_prefix front mid k on at) ∙ here in cc (models)) in
    moves_in m.model (model_in front) (entries_in front) p checked same proposal
