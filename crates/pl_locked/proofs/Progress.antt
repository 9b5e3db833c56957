-- What a worker made so far.
use Rattle.std.proofs.Common.{◌≡◌, ℕ, ◌+◌, ◌≤◌, List, [], ◌∷◌, ◌++◌, length, Bool, true, false, Some, Ok, Err, refl, sym, ◌∙◌, ap, subst, arith, inl, inr, append_assoc, length-append}
use Rattle.std.proofs.lemmas.List.{append-nil}
use Rattle.std.proofs.lemmas.List.Folds.{list_any-append}
use Rattle.std.proofs.lemmas.List.Elements.{All-push}
use Rattle.std.proofs.Math.Bool.{or-true}
use mathlib.Core.List.{IsPrefix}
use Rattle.pl_turn.specs.Passes.{seen_of, mine_of, counted_of, crew_of}
use Rattle.pl_turn.proofs.Histories.{prefix_self, prefix_trans, prefix_length}
use Rattle.pl_marks.specs.declared.author.Author.{Author}
use Rattle.pl_entry.specs.declared.event.Event.{Event}
use Rattle.pl_machine.specs.declared.stop.Stop.{Stop}
use Rattle.pl_machine.specs.declared.stop.Stop.TheVariants as stop
use Rattle.pl_machine.specs.World.{World}
use Rattle.pl_acts.specs.declared.noted.Noted.{Noted}
use Rattle.pl_acts.specs.declared.noted.Noted.TheVariants.{Made, Stopped}
use Rattle.pl_acts.specs.declared.role.Role.{Role}
use Rattle.pl_acts.specs.declared.role.Role.TheVariants.{Planner, Executive}
use Rattle.pl_acts.specs.declared.role.Acted.TheVariants as acted
use Rattle.pl_acts.specs.Items.{model_in, signer_in, is_stop, stop_in}
use Rattle.pl_acts.specs.Roles.{has_event, kind_of, is_entry}
use Rattle.pl_acts.specs.Sights.{IsKept, Idles, IsAskedAtMost}
use Rattle.pl_acts.specs.Making.{low_behind}
use Rattle.pl_acts.specs.Seen.{IsPlan, WasAskedAtMost}
use Rattle.pl_locked.specs.Plans.{PlanPass}
use Rattle.pl_locked.specs.Turns.{TakesTurn, low_of, Acts, Stops, was_stopped, is_stopped, Works, WorksUntil, WorksOn}
use Rattle.pl_acts.proofs.EntryKinds.{by_kind, kind_same, kept_worker, made_within, low_within}
use Rattle.pl_acts.proofs.FullLogs.{in_world_on, full_on, runs_full}
use Rattle.pl_acts.proofs.OwnEntries.{makes_all_on, makes_all_idle, kept_late, idles_once}
use Rattle.pl_locked.proofs.OwnEntries.{makes_all_push}

-- ---- so far

-- What a worker knows between its acts: `start` is its pass as it began.
pub record Working (author : Author) (start : PlanPass) (r : Role) (count : ℕ) (now : PlanPass) (r2 : Role) : Type 0 where
  pub works : Works author r start count r2 now
  pub longer : IsPrefix (seen_of start) (seen_of now)
  pub model : model_in (seen_of now) ≡ model_in (seen_of start)
  pub same_counted : counted_of now ≡ counted_of start
  pub crew : crew_of now ≡ crew_of start
  pub few : count ≤ length (seen_of now)

pub working_none : (by : Author) (start : PlanPass) (r : Role) → Working by start r 0 start r
working_none by start r = record {
  works = record { own = []; mine = sym (append-nil (mine_of start)); counts = refl; made = ([], refl); kinds = λ k d lt. absurd (omega arith); signed = λ k d lt. absurd (omega arith); worker = refl };
  longer = prefix_self (seen_of start);
  model = refl;
  same_counted = refl;
  crew = refl;
  few = omega arith;
}

module _ (by : Author) (start now new : PlanPass) (r r2 r3 : Role) (count : ℕ) (so_far : Working by start r count now r2) (takes : TakesTurn now new) where
  on : IsPrefix (seen_of start) (seen_of new)
  on = prefix_trans (seen_of start) (seen_of now) (seen_of new) so_far.longer takes.longer

  so_far_low : low_of start ≤ low_of now
  so_far_low = prefix_length (seen_of start) (seen_of now) so_far.longer

  -- an act that made nothing
  keeps_working : mine_of new ≡ mine_of now → Working by start r count new r2
  keeps_working same = record {
    works = record {
      own = so_far.works.own;
      mine = same ∙ so_far.works.mine;
      counts = so_far.works.counts;
      made = makes_all_on (seen_of now) (seen_of new) r r2 (low_of start) so_far.works.own takes.longer so_far.works.made;
      kinds = so_far.works.kinds;
      signed = so_far.works.signed;
      worker = so_far.works.worker;
    };
    longer = on;
    model = takes.model ∙ so_far.model;
    same_counted = takes.same_counted ∙ so_far.same_counted;
    crew = takes.crew ∙ so_far.crew;
    few = (let more = prefix_length (seen_of now) (seen_of new) takes.longer in let few = so_far.few in omega arith);
  }

  pub took_all : TakesTurn start new
  took_all = record {
    longer = on;
    model = takes.model ∙ so_far.model;
    counted = (let same = so_far.same_counted in let le = takes.counted in omega arith);
    same_counted = takes.same_counted ∙ so_far.same_counted;
    crew = takes.crew ∙ so_far.crew;
  }

  pub works_on : (n : ℕ) → Acts by r2 now (Ok (acted.Did n)) r3 new → Working by start r (count + 1) new r3
  works_on n makes =
      let e = makes.entry in
      let kind = by_kind r2 r3 (low_of now) (seen_of now ++ makes.between) e makes.by.1 in
      let same : kind_of r2 ≡ kind_of r = kind_same r r2 so_far.works.worker in
      let fits : is_entry (kind_of r) (Made (Some by) e) ≡ true = sym (ap (λ (k : Event → Bool). k e.event) same) ∙ kind.0 in
      let own = so_far.works.own in
      let P : (ℕ × Noted) → Type 0 = λ x. is_entry (kind_of r) x.1 ≡ true in
      let Q : (ℕ × Noted) → Type 0 = λ x. signer_in x.1 ≡ Some by in
      let long : length (seen_of new) ≡ length (seen_of now ++ makes.between) + 1 = ap length makes.seen ∙ length-append (seen_of now ++ makes.between) (Made (Some by) e ∷ []) in
      let front = length-append (seen_of now) makes.between in
      let few = so_far.few in
      record {
        works = record {
          own = own ++ (n, Made (Some by) e) ∷ [];
          mine = makes.mine ∙ ap (λ (xs : List (ℕ × Noted)). xs ++ (n, Made (Some by) e) ∷ []) so_far.works.mine ∙ append_assoc (mine_of start) own ((n, Made (Some by) e) ∷ []);
          counts = (let counts = so_far.works.counts in let more = length-append own ((n, Made (Some by) e) ∷ []) in omega arith);
          made = makes_all_push by now new r r2 r3 (low_of start) own n takes.longer so_far_low so_far.works.made makes;
          kinds = All-push P own (n, Made (Some by) e) so_far.works.kinds fits;
          signed = All-push Q own (n, Made (Some by) e) so_far.works.signed refl;
          worker = kind.1 ∙ so_far.works.worker;
        };
        longer = on;
        model = takes.model ∙ so_far.model;
        same_counted = takes.same_counted ∙ so_far.same_counted;
        crew = takes.crew ∙ so_far.crew;
        few = omega (arith, long, front, few);
      }

  -- and its chooser may have been asked in vain
  idle : mine_of new ≡ mine_of now → IsKept r2 (low_of now) (seen_of new) r3 → Working by start r count new r3
  unfolding keeps_working
  idle same kept =
      let still = keeps_working same in
      let low : low_behind (low_of start) so_far.works.own ≤ low_of now = low_within r r2 (low_of start) (seen_of now) so_far.works.own so_far_low so_far.works.made in
      let idles : Idles r2 (low_behind (low_of start) so_far.works.own) (seen_of new) r3 =
      idles_once r2 r3 (low_behind (low_of start) so_far.works.own) (seen_of new) (kept_late r2 r3 (low_of now) (low_behind (low_of start) so_far.works.own) (seen_of new) low kept) in
      record {
        works = record {
          own = still.works.own;
          mine = still.works.mine;
          counts = still.works.counts;
          made = makes_all_idle (seen_of new) r r2 r3 (low_of start) so_far.works.own still.works.made idles;
          kinds = still.works.kinds;
          signed = still.works.signed;
          worker = kept_worker r2 r3 (low_of now) (seen_of new) kept ∙ so_far.works.worker;
        };
        longer = still.longer;
        model = still.model;
        same_counted = still.same_counted;
        crew = still.crew;
        few = still.few;
      }

  pub works_idle : Acts by r2 now (Ok acted.Nothing) r3 new → Working by start r count new r3
  works_idle acts = idle acts.0 acts.3

  pub works_finished : Acts by r2 now (Ok acted.Finished) r3 new → WorksOn by r start (Ok count) r3 new
  works_finished acts = ((idle acts.0 acts.2).works, inl acts.1)

  pub works_stopped : Acts by r2 now (Ok acted.Stopped) r3 new → WorksOn by r start (Ok count) r3 new
  works_stopped acts = ((idle acts.0 acts.3).works, inr acts.2)

  -- a refusal, before the plan is stopped
  pub refused : (s : Stop) → Acts by r2 now (Err s) r3 new → Working by start r count new r2
  refused stop.Spoiled acts = keeps_working acts.0
  refused stop.NotNow acts = absurd acts
  refused stop.LogFull acts = keeps_working acts.0
  refused stop.Memory acts = keeps_working acts.0

  pub refused_full : Acts by r2 now (Err stop.LogFull) r3 new → Working by start r count new r3
  refused_full acts = idle acts.0 acts.4

  -- memory was wanting, and the chooser may have been asked
  pub was_asked : mine_of new ≡ mine_of now → IsAskedAtMost r2 (low_of now) (seen_of new) r3 → (last : List Noted) → IsPrefix (seen_of new) last → WasAskedAtMost r2 so_far.works.own last r3
  was_asked same asked last more = record {
    before = seen_of new;
    front = more;
    low = low_of now;
    behind = made_within r r2 (low_of start) (seen_of now) so_far.works.own so_far.works.made;
    asked = asked;
  }

-- the stop behind a refusal, and the same own entries
abbrev Until : Author → (start new : PlanPass) (r r2 : Role) → List (ℕ × Noted) → Type 0
Until by start new r r2 own = (works : WorksUntil by r start r2 new) × (works.own ≡ own)

until : (by : Author) (start now new : PlanPass) (r r2 : Role) (count : ℕ) → (so_far : Working by start r count now r2) → IsPrefix (seen_of now) (seen_of new) → Stops by now new → Until by start new r r2 so_far.works.own
until by start now new r r2 count so_far on (was_stopped same stopped) =
    let works : WorksUntil by r start r2 new = record {
      own = so_far.works.own;
      rest = [];
      mine = same ∙ so_far.works.mine ∙ sym (append-nil (mine_of start ++ so_far.works.own));
      made = makes_all_on (seen_of now) (seen_of new) r r2 (low_of start) so_far.works.own on so_far.works.made;
      kinds = so_far.works.kinds;
      signed = so_far.works.signed;
      behind = inl refl;
      stopped = stopped;
      worker = so_far.works.worker;
    } in
    (works, refl)
until by start now new r r2 count so_far on (is_stopped seen prefix going is mine) =
    let works : WorksUntil by r start r2 new = record {
      own = so_far.works.own;
      rest = (length seen, Stopped by) ∷ [];
      mine = mine ∙ ap (λ (xs : List (ℕ × Noted)). xs ++ (length seen, Stopped by) ∷ []) so_far.works.mine;
      made = makes_all_on (seen_of now) (seen_of new) r r2 (low_of start) so_far.works.own on so_far.works.made;
      kinds = so_far.works.kinds;
      signed = so_far.works.signed;
      behind = inr (length seen, refl);
      stopped = ap stop_in is ∙ list_any-append is_stop seen (Stopped by ∷ []) ∙ or-true (stop_in seen);
      worker = so_far.works.worker;
    } in
    (works, refl)

-- ---- a refusal, and then the stop

-- a role that made nothing has an event where it had one
kept_event : (r r2 : Role) (low : ℕ) (seen : List Noted) → IsKept r low seen r2 → (w : World) → has_event r2 w ≡ has_event r w
kept_event (Planner g) (Planner g2) low seen kept w = refl
kept_event (Planner g) Executive low seen kept w = absurd kept
kept_event Executive r2 low seen kept w = ap (λ (r : Role). has_event r w) kept

module _ (by : Author) (start now mid new : PlanPass) (r r2 r3 : Role) (count : ℕ) where
  -- what the chooser is where memory was wanting
  asked_behind : (so_far : Working by start r count now r2) → TakesTurn now mid → mine_of mid ≡ mine_of now → IsAskedAtMost r2 (low_of now) (seen_of mid) r3 → TakesTurn mid new → Stops by mid new
      → (works : WorksUntil by r start r2 new) × WasAskedAtMost r2 works.own (seen_of new) r3
  unfolding keeps_working
  asked_behind so_far takes same asked takes2 stops =
      let still : Working by start r count mid r2 = keeps_working by start now mid r r2 r3 count so_far takes same in
      let all : Until by start new r r2 still.works.own = until by start mid new r r2 count still takes2.longer stops in
      let P : List (ℕ × Noted) → Type 0 = λ own. WasAskedAtMost r2 own (seen_of new) r3 in
      (all.0, subst P (sym all.1) (was_asked by start now mid r r2 r3 count so_far takes same asked (seen_of new) takes2.longer))

  pub worked_until : (s : Stop) → Working by start r count now r2 → IsPlan (seen_of mid) → TakesTurn now mid → Acts by r2 now (Err s) r3 mid → IsPlan (seen_of new) → TakesTurn mid new → Stops by mid new → WorksOn by r start (Err s) r3 new
  worked_until stop.Spoiled so_far plan takes acts plan2 takes2 stops = let asked = asked_behind so_far takes acts.0 acts.1 takes2 stops in (r2, asked.0, asked.1)
  worked_until stop.NotNow so_far plan takes acts plan2 takes2 stops = absurd acts
  worked_until stop.LogFull so_far plan takes acts plan2 takes2 stops =
      let still : Working by start r count mid r3 = refused_full by start now mid r r2 r3 count so_far takes acts in
      let runs = in_world_on (λ w. (w.done ≡ false) × (has_event r2 w ≡ true)) (λ w. (w.done ≡ false) × (has_event r3 w ≡ true)) (seen_of mid)
      (λ w h. (h.0, kept_event r2 r3 (low_of now) (seen_of mid) acts.4 w ∙ h.1)) acts.1 in (
        (until by start mid new r r3 count still takes2.longer stops).0,
        full_on (seen_of mid) (seen_of new) plan takes2.longer takes2.model acts.3,
        runs_full r3 (seen_of mid) (seen_of new) plan plan2 takes2.longer takes2.model acts.3 runs,
      )
  worked_until stop.Memory so_far plan takes acts plan2 takes2 stops = let asked = asked_behind so_far takes acts.0 acts.1 takes2 stops in (r2, asked.0, asked.1)

  pub took_until : (s : Stop) → Working by start r count now r2 → TakesTurn now mid → Acts by r2 now (Err s) r3 mid → TakesTurn mid new → TakesTurn start new
  took_until s so_far takes acts takes2 = took_all by start mid new r r2 r3 count (refused by start now mid r r2 r3 count so_far takes s acts) takes2
