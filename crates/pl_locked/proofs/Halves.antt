-- Both halves of a planner's act.
use Rattle.std.proofs.Common.{◌≡◌, ℕ, ◌≤◌, List, [], ◌∷◌, ◌++◌, length, true, false, Option, Some, None, Result, Ok, Err, refl, sym, ◌∙◌, ap, subst, ◌⊎◌, inl, inr, arith, append_assoc}
use Rattle.std.specs.Result.{IsErrAnd}
use mathlib.Core.List.{IsPrefix}
use Rattle.pl_turn.specs.Passes.{seen_of}
use Rattle.pl_turn.proofs.Histories.{prefix_self, prefix_trans, prefix_length}
use Rattle.pl_entry.specs.declared.event.Event.{Event}
use Rattle.pl_entry.specs.declared.event.Event.TheVariants as event
use Rattle.pl_entry.specs.declared.reply.Reply.{Reply}
use Rattle.rand_pcg.specs.Lcg.{Lcg}
use Rattle.pl_marks.specs.declared.author.Author.{Author}
use Rattle.pl_cand.specs.declared.proposal.Proposal.{Proposal}
use Rattle.pl_cand.specs.Proposals.{IsProposal}
use Rattle.pl_choose.specs.Picks.{seeded_pick, seeded_after}
use Rattle.pl_machine.specs.declared.stop.Stop.{Stop}
use Rattle.pl_machine.specs.declared.stop.Stop.TheVariants as stop
use Rattle.pl_machine.specs.World.{World, reason_of}
use Rattle.pl_machine.specs.Mending.{is_repairing}
use Rattle.pl_acts.specs.declared.noted.Noted.{Noted}
use Rattle.pl_acts.specs.declared.noted.Noted.TheVariants.{Made}
use Rattle.pl_acts.specs.declared.role.Role.{Role}
use Rattle.pl_acts.specs.declared.role.Role.TheVariants.{Planner, Executive}
use Rattle.pl_acts.specs.declared.role.Acted.{Acted}
use Rattle.pl_acts.specs.declared.role.Acted.TheVariants as acted
use Rattle.pl_acts.specs.declared.draft.Draft.{Draft}
use Rattle.pl_acts.specs.declared.look.Looked.TheVariants as looked
use Rattle.pl_acts.specs.declared.sight.Sight.{Sight}
use Rattle.pl_acts.specs.declared.sight.View.{View}
use Rattle.pl_acts.specs.declared.sight.View.TheVariants as view
use Rattle.pl_acts.specs.Items.{items_of, stop_in, entries_in, InWorld}
use Rattle.pl_acts.specs.Replicas.{log_of, IsAsked}
use Rattle.pl_acts.specs.Sights.{HasLooked, IsSight, as_seen, asked_again, behind, IsPlanned, IsLate, IsLost, IsKeptBy, IsDueBy, IsAskedAtMost}
use Rattle.pl_acts.specs.Roles.{worker_of}
use Rattle.pl_acts.specs.Inside.{IsStepIn}
use Rattle.pl_acts.proofs.FullLogs.{in_world_on}
use Rattle.pl_acts.proofs.Items.{in_world_of, stop_in_same, length_going}
use Rattle.pl_acts.proofs.Replicas.{replica_of}
use Rattle.pl_locked.specs.Plans.{PlanPass}
use Rattle.pl_locked.specs.Turns.{TakesTurn, MakesNothing, low_of, Acts, Lends, Looks, LookRests, Sees, CanSettle, Views, ViewRests, IsSettled, Settles, SettlesAs}

-- ---- a view

looked_here : (old new : PlanPass) (draft : Draft) → IsPrefix (seen_of old) (seen_of new) → Lends old draft new → HasLooked (low_of old) (seen_of new)
looked_here old new draft on looks = record {
  front = seen_of new;
  on = prefix_self (seen_of new);
  late = prefix_length (seen_of old) (seen_of new) on;
  running = stop_in_same (seen_of new) draft.replica.model (log_of draft) looks.3.signs looks.3.is ∙ looks.3.going;
  asks = looks.1;
  room = looks.2;
}

asked_on : (old new : PlanPass) (g g2 : Lcg) (draft : Draft) (sight : Sight) → IsPrefix (seen_of old) (seen_of new) → Lends old draft new → IsAsked g draft.replica.model (log_of draft) sight
    → g2 ≡ seeded_after g → Sees (Planner g) old new sight (Planner g2)
unfolding looked_here
asked_on old new g g2 draft sight on looks asked drew =
    let model = draft.replica.model in
    let log = log_of draft in
    let is : seen_of new ≡ items_of model log looks.3.signs = looks.3.is in
    let legal = looks.3.legal in
    record {
      before = g;
      is = refl;
      drew = ap (λ (x : Lcg). Planner x) drew;
      nothing = looks.0;
      sees = record {
        look = looked_here old new draft on looks;
        picks = in_world_of (λ w. sight.proposal ≡ seeded_pick w.state g) (seen_of new) model log looks.3.signs is legal asked.picks;
        legal = in_world_of (λ w. IsProposal w.state sight.proposal) (seen_of new) model log looks.3.signs is legal asked.legal;
      };
      whole = refl;
      seen = asked.seen ∙ sym (ap length is ∙ length_going model log looks.3.signs looks.3.going);
      replica = replica_of (seen_of new) model log looks.3.signs sight.replica is legal asked.replica;
    }

-- the chooser was asked on the replica
pub copied : (by : Author) (old new : PlanPass) (g g1 g2 : Lcg) (draft : Draft) (sight : Sight) → IsPrefix (seen_of old) (seen_of new) → Looks by g old (Ok (looked.Open draft)) g1 new → IsAsked g1 draft.replica.model (log_of draft) sight
    → g2 ≡ seeded_after g1 → Views by (Planner g) old (Ok (view.Copy sight)) (Planner g2) new
copied by old new g g1 g2 draft sight on looks asked drew =
    let P : Lcg → Type 0 = λ x. Sees (Planner x) old new sight (Planner g2) in
    subst P looks.1 (asked_on old new g1 g2 draft sight on looks.0 asked drew)

pub view_stops : (by : Author) (old new : PlanPass) (g g2 : Lcg) (s : Stop) → Looks by g old (Err s) g2 new → Views by (Planner g) old (Err s) (Planner g2) new
view_stops by old new g g2 s looks = looks

-- memory was wanting before the chooser was asked, or for what it was asked
ask_none : (old new : PlanPass) (g g2 : Lcg) (draft : Draft) → IsPrefix (seen_of old) (seen_of new) → Lends old draft new → (g2 ≡ g) ⊎ (g2 ≡ seeded_after g) → IsAskedAtMost (Planner g) (low_of old) (seen_of new) (Planner g2)
ask_none old new g g2 draft on looks (inl same) = inl same
ask_none old new g g2 draft on looks (inr drew) = inr (inl (looked_here old new draft on looks, drew))

pub ask_stops : (by : Author) (old new : PlanPass) (g g1 g2 : Lcg) (draft : Draft) → IsPrefix (seen_of old) (seen_of new) → Looks by g old (Ok (looked.Open draft)) g1 new → (g2 ≡ g1) ⊎ (g2 ≡ seeded_after g1) → Views by (Planner g) old (Err stop.Memory) (Planner g2) new
ask_stops by old new g g1 g2 draft on looks once =
    let P : Lcg → Type 0 = λ x. IsAskedAtMost (Planner x) (low_of old) (seen_of new) (Planner g2) in
    (looks.0.0, subst P looks.1 (ask_none old new g1 g2 draft on looks.0 once))

pub viewed : (by : Author) (old new : PlanPass) (g g2 : Lcg) (a : Acted) → Looks by g old (Ok (looked.Settled a)) g2 new → Views by (Planner g) old (Ok (view.Settled a)) (Planner g2) new
viewed by old new g g2 a looks = looks

pub viewed_rests : (by : Author) (old new : PlanPass) (g g2 : Lcg) (a : Acted) → LookRests by g old (Ok (looked.Settled a)) g2 new → ViewRests by (Planner g) old (Ok (view.Settled a)) (Planner g2) new
viewed_rests by old new g g2 (acted.Did n) rests = (rests.0, ap (λ (x : Lcg). Planner x) rests.1)
viewed_rests by old new g g2 acted.Nothing rests = ap (λ (x : Lcg). Planner x) rests
viewed_rests by old new g g2 acted.Finished rests = ap (λ (x : Lcg). Planner x) rests
viewed_rests by old new g g2 acted.Stopped rests = ap (λ (x : Lcg). Planner x) rests

view_stops_unasked : (by : Author) (old new : PlanPass) (g g2 : Lcg) (s : Stop) → LookRests by g old (Err s) g2 new → ViewRests by (Planner g) old (Err s) (Planner g2) new
view_stops_unasked by old new g g2 stop.Spoiled rests = ap (λ (x : Lcg). Planner x) rests
view_stops_unasked by old new g g2 stop.NotNow rests = tt
view_stops_unasked by old new g g2 stop.LogFull rests = ap (λ (x : Lcg). Planner x) rests
view_stops_unasked by old new g g2 stop.Memory rests = tt

pub view_gives_unasked : (by : Author) (old new : PlanPass) (g g2 : Lcg) (v : Result View Stop) (s : Stop) → IsErrAnd v (λ given. given ≡ s) → LookRests by g old (Err s) g2 new → ViewRests by (Planner g) old v (Planner g2) new
view_gives_unasked by old new g g2 (Ok v) s is rests = absurd is
view_gives_unasked by old new g g2 (Err given) s is rests = subst (λ (t : Stop). ViewRests by (Planner g) old (Err t) (Planner g2) new) (sym is) (view_stops_unasked by old new g g2 s rests)

-- of an executive's view nothing more is said
pub executive_rests : (by : Author) (r r2 : Role) (old new : PlanPass) (v : Result View Stop) → r ≡ Executive → ViewRests by r old v r2 new
executive_rests by (Planner g) r2 old new v is = absurd (cc)
executive_rests by Executive r2 old new v is = tt

-- ---- a view, and what settles behind it

-- it is too late in this world
abbrev IsOver : List Noted → World → Type 0
IsOver items w = (w.done ≡ true) ⊎ (is_repairing w ≡ false) ⊎ (w.options.entries ≤ length (entries_in items))

module _ (by : Author) (old mid new : PlanPass) (g : Lcg) (sight : Sight) (sees : IsSight g (low_of old) (seen_of mid) sight.proposal) (long : length sees.look.front ≡ sight.seen)
    (nothing : MakesNothing old mid) (takes : TakesTurn old mid) (takes2 : TakesTurn mid new) where
  -- the sight, of a longer history
  on_front : (before : List Noted) → IsPrefix (seen_of mid) before → IsSight g (low_of old) before sight.proposal
  on_front before on =
      let look = sees.look in
      record {
        look = record { front = look.front; on = prefix_trans look.front (seen_of mid) before look.on on; late = look.late; running = look.running; asks = look.asks; room = look.room };
        picks = sees.picks;
        legal = sees.legal;
      }

  sight_of : (before : List Noted) → IsPrefix (seen_of mid) before → (p : Option Proposal) → sight.proposal ≡ p → (s : IsSight g (low_of old) before p) × (length s.look.front ≡ sight.seen)
  unfolding on_front
  sight_of before on p same =
      let P : Option Proposal → Type 0 = λ q. (s : IsSight g (low_of old) before q) × (length s.look.front ≡ sight.seen) in
      subst P same (on_front before on, long)

  planned_by : (before : List Noted) → IsPrefix (seen_of mid) before → (g2 : Lcg) (v : Event) (r : Reply) → IsSettled (seeded_after g) sight g2 before v r → IsPlanned g (low_of old) before v r g2
  planned_by before on g2 (event.Fix k m) r (inl seen) =
      let s = sight_of before on (Some (record { conflict = k; mv = m })) seen.0 in
      as_seen s.0 (λ same. seen.1 (sym (sym s.1 ∙ same))) seen.2
  planned_by before on g2 (event.Fix k m) r (inr asked) = asked_again (sight_of before on None asked.0).0 asked.1 asked.2 asked.3
  planned_by before on g2 event.Rest r settled = behind sight.proposal (on_front before on) settled.0 settled.1
  planned_by before on g2 (event.Opened o) r settled = absurd settled
  planned_by before on g2 (event.Input line) r settled = absurd settled
  planned_by before on g2 (event.Commit h) r settled = absurd settled
  planned_by before on g2 event.Dispatch r settled = absurd settled
  planned_by before on g2 event.Close r settled = absurd settled

  made_behind : (g2 : Lcg) (n : ℕ) → Settles by (seeded_after g) sight mid (Ok (acted.Did n)) g2 new → Acts by (Planner g) old (Ok (acted.Did n)) (Planner g2) new
  made_behind g2 n makes =
      let more = takes.longer.0 in
      let whole : seen_of old ++ (more ++ makes.between) ≡ seen_of mid ++ makes.between = sym (append_assoc (seen_of old) more makes.between) ∙ ap (λ (xs : List Noted). xs ++ makes.between) takes.longer.1 in
      let entry = makes.entry in
      record {
        between = more ++ makes.between;
        entry = entry;
        seen = makes.seen ∙ ap (λ (xs : List Noted). xs ++ Made (Some by) entry ∷ []) (sym whole);
        place = makes.place ∙ ap length (sym whole);
        mine = makes.mine ∙ ap (λ (xs : List (ℕ × Noted)). xs ++ (n, Made (Some by) entry) ∷ []) nothing;
        running = ap stop_in whole ∙ makes.running;
        step = subst (λ (xs : List Noted). InWorld xs (λ w. IsStepIn w entry)) (sym whole) makes.step;
        by = subst (λ (xs : List Noted). IsDueBy (Planner g) (Planner g2) (low_of old) xs entry) (sym whole)
            (makes.by.0, planned_by (seen_of mid ++ makes.between) (makes.between, refl) g2 entry.event entry.reply makes.by.1);
      }

  -- it came too late
  lost : IsLate (seen_of new) → IsLost g (low_of old) (seen_of new)
  lost late = record { proposal = sight.proposal; behind = seen_of new; on = prefix_self (seen_of new); sight = on_front (seen_of new) takes2.longer; late = late }

  kept : (g2 : Lcg) → g2 ≡ seeded_after g → IsLate (seen_of new) → IsKeptBy g (low_of old) (seen_of new) g2
  kept g2 drew late = inr (lost late, drew)

  pub settled_acts : (g2 : Lcg) (a : Acted) → Settles by (seeded_after g) sight mid (Ok a) g2 new → Acts by (Planner g) old (Ok a) (Planner g2) new
  settled_acts g2 (acted.Did n) makes = made_behind g2 n makes
  settled_acts g2 acted.Nothing s =
      let late = in_world_on (λ w. (w.done ≡ false) × (is_repairing w ≡ false)) (IsOver (seen_of new)) (seen_of new) (λ w h. inr (inl h.1)) s.1 in
      (s.0 ∙ nothing, s.1, s.2, kept g2 s.3 (inr late))
  settled_acts g2 acted.Finished s = (s.0 ∙ nothing, s.1, kept g2 s.2 (inr (in_world_on (λ w. w.done ≡ true) (IsOver (seen_of new)) (seen_of new) (λ w h. inl h) s.1)))
  settled_acts g2 acted.Stopped s = (s.0 ∙ nothing, s.1, s.2, kept g2 s.3 (inl s.2))

  -- the chooser was asked once, and again where there was no proposal
  asked_once : (g2 : Lcg) → g2 ≡ seeded_after g → IsAskedAtMost (Planner g) (low_of old) (seen_of new) (Planner g2)
  asked_once g2 drew = inr (inl ((on_front (seen_of new) takes2.longer).look, drew))

  asked_more : (g2 : Lcg) → (g2 ≡ seeded_after g) ⊎ ((sight.proposal ≡ None) × InWorld (seen_of new) (λ w. (is_repairing w ≡ true) × (reason_of w ≡ None)) × (g2 ≡ seeded_after (seeded_after g)))
      → IsAskedAtMost (Planner g) (low_of old) (seen_of new) (Planner g2)
  asked_more g2 (inl drew) = asked_once g2 drew
  asked_more g2 (inr again) = inr (inr ((sight_of (seen_of new) takes2.longer None again.0).0, again.1, again.2))

  pub settle_stops : (g2 : Lcg) (s : Stop) → Settles by (seeded_after g) sight mid (Err s) g2 new → Acts by (Planner g) old (Err s) (Planner g2) new
  settle_stops g2 stop.Spoiled s = (s.0 ∙ nothing, asked_once g2 s.1)
  settle_stops g2 stop.NotNow s = absurd s
  settle_stops g2 stop.LogFull s =
      (s.0 ∙ nothing, s.1, s.2, s.3, kept g2 s.4 (inr (in_world_on (λ w. w.options.entries ≤ length (entries_in (seen_of new))) (IsOver (seen_of new)) (seen_of new) (λ w h. inr (inr h)) s.3)))
  settle_stops g2 stop.Memory s = (s.0 ∙ nothing, asked_more g2 s.1)

  pub settle_answers : (g2 : Lcg) (a : Result Acted Stop) → Settles by (seeded_after g) sight mid a g2 new → Acts by (Planner g) old a (Planner g2) new
  settle_answers g2 (Ok a) s = settled_acts g2 a s
  settle_answers g2 (Err s) settles = settle_stops g2 s settles

-- ---- an act

sees_length : (r r2 : Role) (old new : PlanPass) (sight : Sight) → (sees : Sees r old new sight r2) → length sees.sees.look.front ≡ sight.seen
sees_length r r2 old new sight sees = ap length sees.whole ∙ sym sees.seen

-- what a sight promises is what a call that settles asks for
pub can_settle : (r r2 : Role) (old new : PlanPass) (sight : Sight) → Sees r old new sight r2 → CanSettle (seen_of new) sight
can_settle r r2 old new sight sees = record {
  front = sees.sees.look.front;
  on = sees.sees.look.on;
  long = sees_length r r2 old new sight sees;
  legal = sees.sees.legal;
  replica = sees.replica;
}

pub sees_planner : (r r2 : Role) (old new : PlanPass) (sight : Sight) → Sees r old new sight r2 → worker_of r2 ≡ 1
sees_planner r r2 old new sight sees = ap worker_of sees.drew

pub both_turns : (old mid new : PlanPass) → TakesTurn old mid → TakesTurn mid new → TakesTurn old new
both_turns old mid new first second = record {
  longer = prefix_trans (seen_of old) (seen_of mid) (seen_of new) first.longer second.longer;
  model = second.model ∙ first.model;
  counted = (let le = second.counted in let same = first.same_counted in omega arith);
  same_counted = second.same_counted ∙ first.same_counted;
  crew = second.crew ∙ first.crew;
}

settled_role : (by : Author) (old mid new : PlanPass) (sight : Sight) (r r2 r3 : Role) (a : Result Acted Stop) (sees : Sees r old mid sight r2) → TakesTurn old mid → TakesTurn mid new → r ≡ Planner sees.before → r2 ≡ Planner (seeded_after sees.before)
    → SettlesAs by r2 sight mid a r3 new → Acts by r old a r3 new
settled_role by old mid new sight (Planner g) (Planner g1) (Planner g2) a sees takes takes2 is drew settles =
    let one : g ≡ sees.before = cc (is) in
    let two : g1 ≡ seeded_after sees.before = cc (drew) in
    let P : Lcg → Type 0 = λ x. Settles by x sight mid a g2 new in
    subst (λ (x : Lcg). Acts by (Planner x) old a (Planner g2) new) (sym one)
    (settle_answers by old mid new sees.before sight sees.sees (sees_length (Planner g) (Planner g1) old mid sight sees) sees.nothing takes takes2 g2 a (subst P two settles))
settled_role by old mid new sight (Planner g) (Planner g1) Executive a sees takes takes2 is drew settles = absurd settles
settled_role by old mid new sight (Planner g) Executive r3 a sees takes takes2 is drew settles = absurd (cc (drew))
settled_role by old mid new sight Executive r2 r3 a sees takes takes2 is drew settles = absurd (cc (is))

pub acts_by_both : (by : Author) (old mid new : PlanPass) (sight : Sight) (r r2 r3 : Role) (a : Result Acted Stop) → Sees r old mid sight r2 → TakesTurn old mid → TakesTurn mid new → SettlesAs by r2 sight mid a r3 new → Acts by r old a r3 new
acts_by_both by old mid new sight r r2 r3 a sees takes takes2 settles = settled_role by old mid new sight r r2 r3 a sees takes takes2 sees.is sees.drew settles
