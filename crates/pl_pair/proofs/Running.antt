-- What a run comes to.
use Rattle.std.proofs.Common.{◌≡◌, ℕ, ◌+◌, ◌≤◌, List, [], ◌∷◌, length, map, get_or, true, false, Option, Some, None, Result, Ok, Err, refl, sym, ◌∙◌, ap, subst, arith, inl}
use Rattle.std.specs.List.{All}
use Rattle.std.proofs.lemmas.List.{append-nil, length-map}
use Rattle.std.proofs.lemmas.List.Sums.{sum_by-cons}
use Rattle.std.proofs.lemmas.List.Elements.{All-nil, All-cons}
use Rattle.std.proofs.lemmas.Option.{same_Some}
use mathlib.Core.List.{IsPrefix}
use Rattle.pl_turn.specs.History.{StandsIn, times_at, times_in}
use Rattle.pl_turn.specs.declared.known.Crew.{Crew}
use Rattle.pl_turn.specs.Passes.{seen_of, mine_of, crew_of, leads, made_by, joined_by, opening_of}
use Rattle.pl_marks.specs.declared.author.Author.TheVariants.{Feeder}
use Rattle.pl_marks.specs.Authors.{IsAuthor}
use Rattle.pl_marks.specs.Marks.{Signed, marks_of}
use Rattle.pl_entry.specs.declared.entry.Entry.{Entry}
use Rattle.pl_model.specs.declared.whole.Model.{Model}
use Rattle.pl_machine.specs.World.{World}
use Rattle.pl_machine.specs.Legal.{Legal, world_of}
use Rattle.pl_input.specs.Words.{messages_of}
use Rattle.pl_machine.specs.Sound.{State}
use Rattle.pl_io.specs.Lines.{lines_of}
use Rattle.pl_acts.specs.declared.noted.Noted.{Noted}
use Rattle.pl_locked.specs.declared.plan.SharedPlan.{SharedPlan}
use Rattle.pl_acts.specs.Items.{handed_in, items_of, signer_in, model_in}
use Rattle.pl_acts.specs.Roles.{is_entry, kind_of, is_input}
use Rattle.pl_locked.specs.Plans.{PlanPass, BelongsTo, Closes}
use Rattle.pl_acts.proofs.Items.{model_in_items, model_in_prefix, length_going}
use Rattle.pl_pair.specs.declared.cut.Cut.{Cut}
use Rattle.pl_pair.specs.declared.cut.Cut.TheVariants as cut
use Rattle.pl_input.specs.declared.halt.Halt.{Halt}
use Rattle.pl_input.specs.declared.halt.Halt.TheVariants as halt
use Rattle.pl_pair.specs.declared.ended.Ended.{Ended}
use Rattle.pl_pair.specs.declared.duty.Duty.{Duty}
use Rattle.pl_pair.specs.declared.endings.Met.{Met}
use Rattle.pl_pair.specs.declared.pairing.Remains.{Remains}
use Rattle.pl_pair.specs.declared.worker.Worker.{Worker}
use Rattle.pl_pair.specs.Duties.{role_of, begun_of, author_of}
use Rattle.pl_pair.specs.Joins.{IsFirst, HasBegun, Joins}
use Rattle.pl_pair.specs.Rounds.{Follows}
use Rattle.pl_input.specs.Places.{Place}
use Rattle.pl_pair.specs.Feeds.{FeedsShort, for_lines, for_message, for_reader, FeedsCut, refused, FeedsAll, FeedsToEnd}
use Rattle.pl_pair.specs.Feeds as fed
use Rattle.pl_pair.specs.Endings.{ended_of}
use Rattle.pl_pair.specs.declared.duty.Duty.TheVariants.{Repair, Execute}
use Rattle.pl_pair.specs.Runs.{Service, ServedIn, owns_of, pair_of, in_first_round, in_lines, TeamRun, answer_of, EndsWith, HandsBack, RunsTo, RunsTeam}
use Rattle.pl_pair.proofs.Saying.{up_to_next, if_known}
use Rattle.pl_pair.proofs.Passing.{took_follows, follows_on, none_written}
use Rattle.pl_pair.proofs.Feeding.{heard_none}
use Rattle.pl_pair.proofs.Closing.{all_joined, closes_all}
use Rattle.pl_pair.proofs.Onward.{stopped}
use Rattle.pl_pair.proofs.Joining.{Joined, whole_of}
use Rattle.pl_pair.proofs.Causes.{ended_read, ended_write}
use Rattle.pl_pair.proofs.FeederEnds.{runs}
use Rattle.pl_machine.proofs.ShortLogs.{log_is_some}

-- ---- want of memory before the threads start

-- a worker that did nothing
abbrev idle : Duty → Service
idle d = record { duty = d; own = []; seen = []; last = role_of d; met = None }

abbrev idles : List Duty → List Service
idles duties = map idle duties

idle_hired : (duties : List Duty) → map (λ (s : Service). s.duty) (idles duties) ≡ duties
idle_hired [] = refl
idle_hired (d ∷ duties) = ap (λ (ds : List Duty). d ∷ ds) (idle_hired duties)

idle_stands : (items : List Noted) (duties : List Duty) → All (StandsIn items) (owns_of (idles duties))
idle_stands items [] = All-nil (StandsIn items)
idle_stands items (d ∷ duties) = All-cons (StandsIn items) [] (owns_of (idles duties)) tt (idle_stands items duties)

idle_times : (place : ℕ) (duties : List Duty) → times_in place (owns_of (idles duties)) ≡ 0
idle_times place [] = refl
idle_times place (d ∷ duties) = let rest = idle_times place duties in omega (arith, rest, sum_by-cons (times_at place) [] (owns_of (idles duties)))

none_own : (place : ℕ) (duties : List Duty) → times_in place ([] ∷ owns_of (idles duties)) ≡ 0
none_own place duties = let rest = idle_times place duties in omega (arith, rest, sum_by-cons (times_at place) [] (owns_of (idles duties)))

idle_served : (items : List Noted) (duties : List Duty) → All (ServedIn items) (idles duties)
idle_served items [] = All-nil (ServedIn items)
idle_served items (d ∷ duties) = All-cons (ServedIn items) (idle d) (idles duties) (record {
  saw = record { begins = (items, refl); holds = tt };
  kinds = All-nil (λ x. is_entry (kind_of (role_of d)) x.1 ≡ true);
  made = ([], refl);
  signed = All-nil (λ x. signer_in x.1 ≡ Some (author_of d));
  is = refl;
  why = tt;
}) (idle_served items duties)

pub runs_none : (duties : List Duty) (start : State) (place : Place) (held : Option (List ℕ)) → Legal start.model start.log → TeamRun duties start place held (Err halt.Memory) place held
runs_none duties start place held legal =
    let m = start.model in
    let items = items_of m start.log (handed_in start.log) in
    let long = length_going m start.log (handed_in start.log) refl in
    record {
      log = start.log;
      entries = [];
      begins = sym (append-nil start.log);
      history = record {
        signs = handed_in start.log;
        feeder = [];
        feeder_seen = [];
        workers = idles duties;
        hired = idle_hired duties;
        legal = legal;
        stands = All-cons (StandsIn items) [] (owns_of (idles duties)) tt (idle_stands items duties);
        owners = record { inside = λ n from to. absurd (omega arith); below = λ n lt. none_own n duties; above = λ n le. none_own n duties };
        feeder_saw = record { begins = (items, refl); holds = tt };
        handed = refl;
        each_signed = (let e : length start.log + 0 ≡ length start.log = omega arith in e);
        feeder_signed = All-nil (λ x. signer_in x.1 ≡ Some Feeder);
        inputs = record { own = []; rest = []; whole = refl; kinds = All-nil (λ x. is_entry is_input x.1 ≡ true); behind = inl refl };
        each = idle_served items duties;
      };
      chosen = tt;
      feeder_goes = λ e. absurd (cc);
      feeder_saw_all = λ e. absurd (cc);
      refused = λ e. absurd (cc);
      messages = if_known place.ahead (λ bytes. IsPrefix [] (messages_of (lines_of bytes))) (λ bytes is. (messages_of (lines_of bytes), refl));
      ends = in_lines (up_to_next place place [] (heard_none place) tt) (in_first_round refl (none_written m 0 held start.log (log_is_some m start.log legal)));
    }

pub not_done : (w u : World) → w ≡ record u { state = w.state } → w.done ≡ false → u.done ≡ false
not_done w u same going = sym (ap (λ (x : World). x.done) same) ∙ going

-- ---- the passes of a run

pub feeds_follows : (plan : SharedPlan) (m : Model) (old new : PlanPass) (place end : Place) (held now : Option (List ℕ)) (r : Result (Unit {0}) Cut) → FeedsToEnd plan m old place held r new end now → Follows old new
feeds_follows plan m old new place end held now (Ok u) feeds = feeds.tells.follows
feeds_follows plan m old new place end held now (Err c) feeds = follows_on old feeds.mid new (by c feeds.feeds) (took_follows feeds.mid new feeds.takes)
  where
    by_cut : FeedsCut plan m old place held feeds.mid end now → Follows old feeds.mid
    by_cut (refused f) = follows_on old f.mid feeds.mid f.waiting.tells.follows f.follows
    by_cut (fed.stopped f) = f.tells.follows

    by_short : FeedsShort plan m old place held feeds.mid end now → Follows old feeds.mid
    by_short (for_lines f) = f.feeding.tells.follows
    by_short (for_message f) = follows_on old f.mid feeds.mid f.waiting.tells.follows f.follows
    by_short (for_reader f) = f.waiting.tells.follows

    by : (c : Cut) → FeedsAll plan m old place held (Err c) feeds.mid end now → Follows old feeds.mid
    by cut.Read f = f.waiting.tells.follows
    by cut.Limit f = f.waiting.tells.follows
    by cut.Write f = f.feeding.tells.follows
    by cut.Memory f = by_short f
    by cut.Full f = follows_on old f.mid feeds.mid f.waiting.tells.follows f.follows
    by cut.Stopped f = by_cut f

pub fed_leads : (plan : SharedPlan) (m : Model) (old new : PlanPass) (place end : Place) (held now : Option (List ℕ)) (r : Result (Unit {0}) Cut) → FeedsToEnd plan m old place held r new end now → leads old ≡ true → leads new ≡ true
fed_leads plan m old new place end held now r feeds first = ap (λ c. c.leads) (feeds_follows plan m old new place end held now r feeds).crew ∙ first

-- the pass that a plan is made with
pub first_pass : (plan : SharedPlan) (pass : PlanPass) (opening : ℕ) → BelongsTo plan pass → mine_of pass ≡ [] → crew_of pass ≡ record { leads = true; opening = opening; made = 0; joined = [] } → IsFirst plan pass
first_pass plan pass opening own new crew =
    record { fresh = record { own = own; new = new }; first = ap (λ c. c.leads) crew; alone = ap (λ c. c.made) crew; none = ap (λ c. c.joined) crew }

-- it has seen all entries that were handed in
pub begun_first : (start : State) (duties : List Duty) (new : PlanPass) → All (λ d. (begun_of d ≤ length start.log) × IsAuthor (author_of d)) duties → seen_of new ≡ items_of start.model start.log (handed_in start.log) → All (HasBegun new) duties
begun_first start duties new begun seen =
    let long : length (seen_of new) ≡ length start.log = ap length seen ∙ length_going start.model start.log (handed_in start.log) refl in
    λ k d within. let here : begun_of (get_or duties k d) ≤ length start.log = (begun k d within).0 in (omega (arith, here, long), (begun k d within).1)

-- a planner that is hired behind them, and an executive
pub begun_pair : (start : State) (seed begun : ℕ) → begun ≡ length start.log → All (λ d. (begun_of d ≤ length start.log) × IsAuthor (author_of d)) (pair_of seed begun)
begun_pair start seed begun is =
    let P : Duty → Type 0 = λ d. (begun_of d ≤ length start.log) × IsAuthor (author_of d) in
    All-cons P (Repair 1 seed begun) (Execute ∷ []) (omega (arith, is), (omega arith, omega arith)) (All-cons P Execute [] (omega arith, tt) (All-nil P))

-- The plan's first pass, and all that came of it.
pub record Ran (duties : List Duty) (start : State) (plan : SharedPlan) (new : PlanPass) (remains : Remains) (m : Model) (place end : Place) (held now : Option (List ℕ)) : Type 0 where
  pub seen : seen_of new ≡ items_of start.model start.log (handed_in start.log)
  pub crew : crew_of new ≡ record { leads = true; opening = length (items_of start.model start.log (handed_in start.log)); made = 0; joined = [] }
  pub joins : Joins plan m new duties place held remains end now

module _ (duties : List Duty) (start : State) (plan : SharedPlan) (new : PlanPass) (remains : Remains) (m : Model) (place end : Place) (held now : Option (List ℕ)) (ran : Ran duties start plan new remains m place end held now) where
  abbrev begun : PlanPass
  begun = ran.joins.begun

  abbrev mid : PlanPass
  mid = ran.joins.feeds.mid

  abbrev ws : List Worker
  ws = ran.joins.feeds.team.workers

  begun_seen : seen_of begun ≡ items_of start.model start.log (handed_in start.log)
  begun_seen = ran.joins.splits.seen ∙ ran.seen

  abbrev same_crew : Follows begun mid
  same_crew = feeds_follows plan m begun mid place end held now remains.fed ran.joins.feeds.feeds

  begun_crew : crew_of begun ≡ record { leads = true; opening = length (items_of start.model start.log (handed_in start.log)); made = 0 + length duties; joined = [] }
  begun_crew = ran.joins.splits.crew ∙ ap (λ (c : Crew Noted). record c { made = c.made + length duties }) ran.crew

  mid_crew : crew_of mid ≡ record { leads = true; opening = length (items_of start.model start.log (handed_in start.log)); made = 0 + length duties; joined = [] }
  mid_crew = same_crew.crew ∙ begun_crew

  mid_none : joined_by mid ≡ []
  mid_none = ap (λ c. c.joined) mid_crew

  as_many : length duties ≡ length ws
  as_many = sym (ap (λ (ds : List Duty). length ds) ran.joins.feeds.team.hired) ∙ length-map ws (λ (w : Worker). w.duty)

  -- what `close` asks of the first pass
  pub closes_first : (leads remains.pass ≡ true) × (made_by remains.pass ≡ length (joined_by remains.pass))
  closes_first = (
    ap (λ c. c.leads) ran.joins.feeds.team.joins.crew ∙ ap (λ c. c.leads) mid_crew,
    all_joined plan ws mid remains.pass ran.joins.feeds.team.joins mid_none (ap (λ c. c.made) mid_crew ∙ (let many = as_many in omega arith)),
  )

  unfoldable joined_of : (machine : State) (by : Signed) → m ≡ start.model → Legal start.model start.log → (world_of start.model start.log).done ≡ false → Closes remains.pass machine by → Joined start.model start.log mid ws
  joined_of machine by same legal going closes =
      let model : model_in (seen_of mid) ≡ Some start.model = same_crew.model ∙ (ap model_in begun_seen ∙ model_in_items start.model start.log (handed_in start.log) legal) in
      let opening : opening_of mid ≡ length start.log = ap (λ c. c.opening) mid_crew ∙ length_going start.model start.log (handed_in start.log) refl in
      record {
        plan = plan;
        whole = whole_of start.model start.log mid ws machine model opening (closes_all plan ws mid remains.pass ran.joins.feeds.team.joins mid_none machine by ran.joins.feeds.own.seen closes);
        legal = legal;
        going = going;
        opened = subst (λ (xs : List Noted). IsPrefix xs (seen_of mid)) begun_seen same_crew.longer;
        own = ran.joins.feeds.own;
        duties = duties;
        hired = ran.joins.feeds.team.hired;
        each = ran.joins.feeds.team.joins.each;
      }

  -- the whole run
  pub runs_whole : (machine : State) (by : Signed) → m ≡ start.model → Legal start.model start.log → (world_of start.model start.log).done ≡ false → (closes : Closes remains.pass machine by)
      → RunsTo machine.log closes.signs.by duties start place held (ended_of remains.fed remains.met) end now
  unfolding joined_of whole_of closes_all
  runs_whole machine by same legal going closes =
      let feeds' = subst (λ (k : Model). FeedsToEnd plan k begun place held remains.fed mid end now) same ran.joins.feeds.feeds in
      let E : Met → Type 0 = λ met. RunsTo machine.log closes.signs.by duties start place held (ended_of remains.fed met) end now in
      subst E (sym ran.joins.feeds.team.together) (runs start mid ws (joined_of machine by same legal going closes) place held now begun begun_seen plan end remains.fed feeds')

-- ---- what a run hands back

same_model : (duties : List Duty) (start : State) (plan : SharedPlan) (new : PlanPass) (remains : Remains) (m : Model) (place end : Place) (held now : Option (List ℕ)) → Ran duties start plan new remains m place end held now
    → (machine : State) (by : Signed) → m ≡ start.model → Legal start.model start.log → (closes : Closes remains.pass machine by) → machine.model ≡ start.model
same_model duties start plan new remains m place end held now ran machine by same legal closes =
    let first : model_in (seen_of (mid duties start plan new remains m place end held now ran)) ≡ Some start.model =
    (same_crew duties start plan new remains m place end held now ran).model ∙ (ap model_in (begun_seen duties start plan new remains m place end held now ran) ∙ model_in_items start.model start.log (handed_in start.log) legal) in
    let last : model_in (seen_of remains.pass) ≡ Some start.model = model_in_prefix (seen_of (mid duties start plan new remains m place end held now ran)) (seen_of remains.pass) start.model ran.joins.feeds.team.joins.longer first in
    same_Some machine.model start.model (sym closes.model ∙ last)

hands_back : (answer : Result (Unit {0}) Halt) (r : Result Ended Halt) (machine : State) (by : Signed) (m : Model) (log : List Entry) (signs : Signed) → EndsWith answer machine by r → machine.model ≡ m → log ≡ machine.log → signs ≡ by → HandsBack r m log signs
hands_back (Ok u) (Ok e) machine by m log signs ends same is are =
    (ap (λ (s : State). s.model) ends.0 ∙ same, ap (λ (s : State). s.log) ends.0 ∙ sym is, ends.1 ∙ ap marks_of (sym are))
hands_back (Ok u) (Err h) machine by m log signs ends same is are = absurd ends
hands_back (Err d) (Ok e) machine by m log signs ends same is are = absurd ends
hands_back (Err d) (Err h) machine by m log signs ends same is are = tt

same_answer : (answer : Result (Unit {0}) Halt) (r : Result Ended Halt) (machine : State) (by : Signed) → EndsWith answer machine by r → answer ≡ answer_of r
same_answer (Ok u) (Ok e) machine by ends = refl
same_answer (Ok u) (Err h) machine by ends = absurd ends
same_answer (Err d) (Ok e) machine by ends = absurd ends
same_answer (Err d) (Err h) machine by ends = ap (λ (x : Halt). Err x) (sym ends)

-- a fault that a run answers is the feeder's
back_err : (answer : Result (Unit {0}) Halt) (r : Result Ended Halt) (machine : State) (by : Signed) (h : Halt) → EndsWith answer machine by r → r ≡ Err h → answer ≡ Err h
back_err (Ok u) (Ok e) machine by h ends is = absurd (cc)
back_err (Ok u) (Err d) machine by h ends is = absurd ends
back_err (Err d) (Ok e) machine by h ends is = absurd ends
back_err (Err d) (Err f) machine by h ends is = (let same : f ≡ h = cc (is) in ap (λ (x : Halt). Err x) (sym ends ∙ same))

pub back_read : (fed : Result (Unit {0}) Cut) (met : Met) (answer : Result (Unit {0}) Halt) (r : Result Ended Halt) (machine : State) (by : Signed) → answer ≡ ended_of fed met → EndsWith answer machine by r → r ≡ Err halt.Read → fed ≡ Err cut.Read
back_read fed met answer r machine by same ends is = ended_read fed met (sym same ∙ back_err answer r machine by halt.Read ends is)

pub back_write : (fed : Result (Unit {0}) Cut) (met : Met) (answer : Result (Unit {0}) Halt) (r : Result Ended Halt) (machine : State) (by : Signed) → answer ≡ ended_of fed met → EndsWith answer machine by r → r ≡ Err halt.Write → fed ≡ Err cut.Write
back_write fed met answer r machine by same ends is = ended_write fed met (sym same ∙ back_err answer r machine by halt.Write ends is)

-- a run that was closed
pub runs_back : (duties : List Duty) (start : State) (plan : SharedPlan) (new : PlanPass) (remains : Remains) (m : Model) (place end : Place) (held now : Option (List ℕ)) → Ran duties start plan new remains m place end held now
    → (machine : State) (by : Signed) (r : Result Ended Halt) → m ≡ start.model → Legal start.model start.log → (world_of start.model start.log).done ≡ false → Closes remains.pass machine by
    → EndsWith (ended_of remains.fed remains.met) machine by r → RunsTeam duties start place held r end now
runs_back duties start plan new remains m place end held now ran machine by r same legal going closes ends =
    let runs = runs_whole duties start plan new remains m place end held now ran machine by same legal going closes in
    let back : HandsBack r start.model runs.run.log runs.run.history.signs.by =
    hands_back (ended_of remains.fed remains.met) r machine by start.model runs.run.log runs.run.history.signs.by ends (same_model duties start plan new remains m place end held now ran machine by same legal closes) runs.log_is (runs.by_is ∙ closes.signed) in
    team_back duties start place held end now (ended_of remains.fed remains.met) r (same_answer (ended_of remains.fed remains.met) r machine by ends) runs.run back
  where
    team_back : (duties : List Duty) (start : State) (place : Place) (held : Option (List ℕ)) (end : Place) (now : Option (List ℕ)) (answer : Result (Unit {0}) Halt) (r : Result Ended Halt) → answer ≡ answer_of r → (run : TeamRun duties start place held answer end now)
        → HandsBack r start.model run.log run.history.signs.by → RunsTeam duties start place held r end now
    team_back duties start place held end now answer r same run back =
        let R : Result (Unit {0}) Halt → Type 0 = λ a. (run : TeamRun duties start place held a end now) × HandsBack r start.model run.log run.history.signs.by in
        let moved : R (answer_of r) = subst R same (run, back) in record { run = moved.0; back = moved.1 }

-- a run that want of memory ended before it began
pub back_none : (duties : List Duty) (start : State) (place : Place) (held : Option (List ℕ)) → Legal start.model start.log → RunsTeam duties start place held (Err halt.Memory) place held
back_none duties start place held legal = record { run = runs_none duties start place held legal; back = tt }

-- without what it handed back
pub pair_back : (duties : List Duty) (start : State) (place : Place) (held : Option (List ℕ)) (end : Place) (now : Option (List ℕ)) (r : Result Ended Halt) → RunsTeam duties start place held r end now → TeamRun duties start place held (answer_of r) end now
pair_back duties start place held end now r runs = runs.run
