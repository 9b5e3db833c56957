-- What a worker hands back.
use Rattle.std.proofs.Common.{◌≡◌, ℕ, ◌+◌, ◌≤◌, List, [], ◌∷◌, ◌++◌, length, arith, true, Option, Some, None, Ok, Err, refl, sym, ◌∙◌, ap, subst, ◌⊎◌, inl, inr}
use Rattle.std.specs.List.{All}
use Rattle.std.proofs.lemmas.List.Elements.{All-nil, All-cons, All-append}
use mathlib.Core.List.{IsPrefix}
use Rattle.pl_turn.specs.Passes.{seen_of, mine_of}
use Rattle.pl_machine.specs.declared.stop.Stop.{Stop}
use Rattle.pl_machine.specs.declared.stop.Stop.TheVariants as stop
use Rattle.pl_marks.specs.declared.author.Author.{Author}
use Rattle.pl_marks.specs.Authors.{IsAuthor}
use Rattle.pl_acts.specs.declared.noted.Noted.{Noted}
use Rattle.pl_acts.specs.declared.noted.Noted.TheVariants.{Stopped}
use Rattle.pl_acts.specs.Items.{signer_in}
use Rattle.pl_locked.specs.declared.plan.SharedPlan.{SharedPlan}
use Rattle.pl_acts.specs.declared.role.Role.{Role}
use Rattle.pl_acts.specs.declared.role.Acted.{Acted}
use Rattle.pl_acts.specs.declared.role.Acted.TheVariants as acted
use Rattle.pl_acts.specs.Roles.{worker_of, kind_of}
use Rattle.pl_locked.specs.Plans.{PlanPass, BelongsTo}
use Rattle.pl_turn.proofs.Histories.{prefix_length}
use Rattle.pl_acts.specs.Making.{MakesAll, low_behind}
use Rattle.pl_acts.specs.Seen.{WasAskedAtMost}
use Rattle.pl_locked.specs.Turns.{TakesTurn, low_of, Acts, Stops, Works, WorksUntil, WorksOn}
use Rattle.pl_acts.proofs.OwnEntries.{makes_all_on, makes_all_append, makes_all_late}
use Rattle.pl_locked.proofs.Progress.{working_none, works_on, works_idle, works_finished, works_stopped, worked_until, took_until}
use Rattle.pl_acts.proofs.EntryKinds.{made_worker, made_kinds, low_within, was_asked_worker}
use Rattle.pl_pair.specs.declared.duty.Duty.{Duty}
use Rattle.pl_pair.specs.declared.worker.Worker.{Worker}
use Rattle.pl_pair.specs.Duties.{role_of, begun_of, author_of}
use Rattle.pl_pair.specs.Served as serving
use Rattle.pl_pair.specs.Served.{IsStopAtMost, MakesUntil, MakesOwn, SignsOwn, Refused, IsHired, IsServed, IsWorker}

-- more of a worker that made these items so far
module _ (plan : SharedPlan) (duty : Duty) (pass pass2 : PlanPass) (role role2 : Role) (begun : begun_of duty ≤ length (seen_of pass)) (before : MakesAll (role_of duty) (begun_of duty) (seen_of pass) (mine_of pass) role) (takes : TakesTurn pass pass2)
    (own : BelongsTo plan pass2) (signed : SignsOwn duty (mine_of pass)) where
  begun_on : begun_of duty ≤ length (seen_of pass2)
  begun_on = (let le = prefix_length (seen_of pass) (seen_of pass2) takes.longer in omega arith)

  start_on : MakesAll (role_of duty) (begun_of duty) (seen_of pass2) (mine_of pass) role
  start_on = makes_all_on (seen_of pass) (seen_of pass2) (role_of duty) role (begun_of duty) (mine_of pass) takes.longer before

  more_made : (last : Role) (more : List (ℕ × Noted)) → MakesAll role (low_of pass) (seen_of pass2) more last → MakesAll (role_of duty) (begun_of duty) (seen_of pass2) (mine_of pass ++ more) last
  more_made last more made =
      let low : low_behind (begun_of duty) (mine_of pass) ≤ low_of pass = low_within (role_of duty) role (begun_of duty) (seen_of pass) (mine_of pass) begun before in
      makes_all_append (seen_of pass2) (role_of duty) role last (begun_of duty) (mine_of pass) more start_on
      (makes_all_late role last (low_of pass) (low_behind (begun_of duty) (mine_of pass)) (seen_of pass2) more low made)

  -- each is the worker's, or a stop
  abbrev Signs : ℕ × Noted → Type 0
  Signs x = signer_in x.1 ≡ Some (author_of duty)

  signs_more : (more : List (ℕ × Noted)) → All (λ x. signer_in x.1 ≡ Some (author_of duty)) more → All Signs (mine_of pass ++ more)
  signs_more more by = All-append Signs (mine_of pass) more signed.1 by

  signs_on : (own2 : List (ℕ × Noted)) → mine_of pass2 ≡ mine_of pass ++ own2 → All (λ x. signer_in x.1 ≡ Some (author_of duty)) own2 → SignsOwn duty (mine_of pass2)
  signs_on own2 mine by = (signed.0, subst (All Signs) (sym mine) (signs_more own2 by))

  signs_rest : (rest : List (ℕ × Noted)) → (rest ≡ []) ⊎ ((place : ℕ) × (rest ≡ (place, Stopped (author_of duty)) ∷ [])) → All Signs rest
  signs_rest rest (inl none) = subst (All Signs) (sym none) (All-nil Signs)
  signs_rest rest (inr one) = subst (All Signs) (sym one.1) (All-cons Signs (one.0, Stopped (author_of duty)) [] refl (All-nil Signs))

  signs_until : (last : Role) → WorksUntil (author_of duty) role pass last pass2 → SignsOwn duty (mine_of pass2)
  signs_until last works =
      (signed.0, subst (All Signs) (sym works.mine) (All-append Signs (mine_of pass ++ works.own) works.rest (signs_more works.own works.signed) (signs_rest works.rest works.behind)))

  stop_at_most : (rest : List (ℕ × Noted)) → (rest ≡ []) ⊎ ((place : ℕ) × (rest ≡ (place, Stopped (author_of duty)) ∷ [])) → IsStopAtMost rest
  stop_at_most rest (inl none) = inl none
  stop_at_most rest (inr one) = inr (one.0, author_of duty, one.1)

  -- own items, and a stop behind them at most
  makes_until : (last : Role) → WorksUntil (author_of duty) role pass last pass2 → MakesUntil (role_of duty) (begun_of duty) (seen_of pass2) (mine_of pass2)
  makes_until last works = record {
    own = mine_of pass ++ works.own;
    rest = works.rest;
    whole = works.mine;
    last = last;
    made = more_made last works.own works.made;
    behind = stop_at_most works.rest works.behind;
  }

  same_number : worker_of role2 ≡ worker_of role → worker_of role2 ≡ worker_of (role_of duty)
  same_number same = same ∙ made_worker (seen_of pass) (role_of duty) role (begun_of duty) (mine_of pass) before

  asked : (s : Stop) → (last : Role) × (works : WorksUntil (author_of duty) role pass last pass2) × WasAskedAtMost last works.own (seen_of pass2) role2 → Refused (Some s) role2 (seen_of pass2)
      → IsServed plan (record { pass = pass2; role = role2; duty = duty; refusal = Some s })
  asked s works why = record {
    own = own;
    begun = begun_on;
    signed = signs_until works.0 works.1;
    made = makes_until works.0 works.1;
    worker = same_number (was_asked_worker works.0 role2 works.1.own (seen_of pass2) works.2 ∙ works.1.worker);
    why = why;
    stopped = works.1.stopped;
  }

  -- a refusal
  refuses : (s : Stop) → WorksOn (author_of duty) role pass (Err s) role2 pass2 → IsServed plan (record { pass = pass2; role = role2; duty = duty; refusal = Some s })
  refuses stop.NotNow works = absurd works
  refuses stop.LogFull works = record { own = own; begun = begun_on; signed = signs_until role2 works.0; made = makes_until role2 works.0; worker = same_number works.0.worker; why = (works.1, works.2); stopped = works.0.stopped }
  refuses stop.Spoiled works = asked stop.Spoiled works tt
  refuses stop.Memory works = asked stop.Memory works tt

  -- none
  goes_on : (count : ℕ) → Works (author_of duty) role pass count role2 pass2 → MakesAll (role_of duty) (begun_of duty) (seen_of pass2) (mine_of pass2) role2
  goes_on count works =
      let P : List (ℕ × Noted) → Type 0 = λ l. MakesAll (role_of duty) (begun_of duty) (seen_of pass2) l role2 in
      subst P (sym works.mine) (more_made role2 works.own works.made)

-- a worker that made nothing
begins : (duty : Duty) (pass : PlanPass) (role : Role) → role ≡ role_of duty → mine_of pass ≡ [] → MakesAll (role_of duty) (begun_of duty) (seen_of pass) (mine_of pass) role
begins duty pass role is new =
    let P : List (ℕ × Noted) → Type 0 = λ l. MakesAll (role_of duty) (begun_of duty) (seen_of pass) l role in
    subst P (sym new) ([], is)

none_signed : (duty : Duty) (mine : List (ℕ × Noted)) → IsAuthor (author_of duty) → mine ≡ [] → SignsOwn duty mine
none_signed duty mine known new =
    let P : (ℕ × Noted) → Type 0 = λ x. signer_in x.1 ≡ Some (author_of duty) in
    (known, subst (All P) (sym new) (All-nil P))

-- a worker whose start was refused
pub served_none : (plan : SharedPlan) (pass : PlanPass) (role : Role) (duty : Duty) → IsHired plan duty pass → role ≡ role_of duty
    → IsWorker plan duty (record { pass = pass; role = role; duty = duty; refusal = None })
served_none plan pass role duty hired is = record {
  served = record { own = hired.own; begun = hired.begun; signed = none_signed duty (mine_of pass) hired.known hired.new; made = begins duty pass role is hired.new; worker = ap worker_of is; why = tt; stopped = tt };
  hired = refl;
}

-- a worker whose plan was over
pub served_on : (plan : SharedPlan) (pass pass2 : PlanPass) (role role2 : Role) (duty : Duty) (count : ℕ) → IsHired plan duty pass → role ≡ role_of duty → TakesTurn pass pass2 → BelongsTo plan pass2
    → WorksOn (author_of duty) role pass (Ok count) role2 pass2 → IsWorker plan duty (record { pass = pass2; role = role2; duty = duty; refusal = None })
served_on plan pass pass2 role role2 duty count hired is takes own works =
    let begun = hired.begun in
    let before = begins duty pass role is hired.new in
    let signed = none_signed duty (mine_of pass) hired.known hired.new in
    record {
      served = record {
        own = own;
        begun = begun_on plan duty pass pass2 role role2 begun before takes own signed;
        signed = signs_on plan duty pass pass2 role role2 begun before takes own signed works.0.own works.0.mine works.0.signed;
        made = goes_on plan duty pass pass2 role role2 begun before takes own signed count works.0;
        worker = same_number plan duty pass pass2 role role2 begun before takes own signed works.0.worker;
        why = tt;
        stopped = tt;
      };
      hired = refl;
    }

-- a worker that met a refusal
pub served_until : (plan : SharedPlan) (pass pass2 : PlanPass) (role role2 : Role) (duty : Duty) (s : Stop) → IsHired plan duty pass → role ≡ role_of duty → TakesTurn pass pass2 → BelongsTo plan pass2
    → WorksOn (author_of duty) role pass (Err s) role2 pass2 → IsWorker plan duty (record { pass = pass2; role = role2; duty = duty; refusal = Some s })
served_until plan pass pass2 role role2 duty s hired is takes own works = record {
  served = refuses plan duty pass pass2 role role2 hired.begun (begins duty pass role is hired.new) takes own (none_signed duty (mine_of pass) hired.known hired.new) s works;
  hired = refl;
}

-- ---- one act

made_none : (o : Option Stop) (r r2 : Role) (low : ℕ) (seen : List Noted) (mine : List (ℕ × Noted)) → o ≡ None → MakesOwn o r low seen mine r2 → MakesAll r low seen mine r2
made_none None r r2 low seen mine e made = made
made_none (Some s) r r2 low seen mine e made = absurd (cc)

-- what holds of a worker without a refusal
served_as : (plan : SharedPlan) (duty : Duty) (pass : PlanPass) (role : Role) (o : Option Stop) → o ≡ None → BelongsTo plan pass → begun_of duty ≤ length (seen_of pass) → SignsOwn duty (mine_of pass) → MakesAll (role_of duty) (begun_of duty) (seen_of pass) (mine_of pass) role
    → IsServed plan (record { pass = pass; role = role; duty = duty; refusal = o })
served_as plan duty pass role None e own begun signed made = record { own = own; begun = begun; signed = signed; made = made; worker = made_worker (seen_of pass) (role_of duty) role (begun_of duty) (mine_of pass) made; why = tt; stopped = tt }
served_as plan duty pass role (Some s) e own begun signed made = absurd (cc)

acted_works : (by : Author) (pass pass2 : PlanPass) (role role2 : Role) (a : Acted) → TakesTurn pass pass2 → Acts by role pass (Ok a) role2 pass2 → (count : ℕ) × Works by role pass count role2 pass2
acted_works by pass pass2 role role2 (acted.Did n) takes acts = (0 + 1, (works_on by pass pass pass2 role role role2 0 (working_none by pass role) takes n acts).works)
acted_works by pass pass2 role role2 acted.Nothing takes acts = (0, (works_idle by pass pass pass2 role role role2 0 (working_none by pass role) takes acts).works)
acted_works by pass pass2 role role2 acted.Finished takes acts = (0, (works_finished by pass pass pass2 role role role2 0 (working_none by pass role) takes acts).0)
acted_works by pass pass2 role role2 acted.Stopped takes acts = (0, (works_stopped by pass pass pass2 role role role2 0 (working_none by pass role) takes acts).0)

-- an act that met no refusal
pub acts_on : (plan : SharedPlan) (w : Worker) (pass2 : PlanPass) (role2 : Role) (a : Acted) → IsServed plan w → w.refusal ≡ None → BelongsTo plan pass2 → TakesTurn w.pass pass2 → Acts (author_of w.duty) w.role w.pass (Ok a) role2 pass2
    → IsServed plan (record { pass = pass2; role = role2; duty = w.duty; refusal = w.refusal })
acts_on plan w pass2 role2 a served going own takes acts =
    let before = made_none w.refusal (role_of w.duty) w.role (begun_of w.duty) (seen_of w.pass) (mine_of w.pass) going served.made in
    let works = acted_works (author_of w.duty) w.pass pass2 w.role role2 a takes acts in
    served_as plan w.duty pass2 role2 w.refusal going own (begun_on plan w.duty w.pass pass2 w.role role2 served.begun before takes own served.signed)
    (signs_on plan w.duty w.pass pass2 w.role role2 served.begun before takes own served.signed works.1.own works.1.mine works.1.signed)
    (goes_on plan w.duty w.pass pass2 w.role role2 served.begun before takes own served.signed works.0 works.1)

-- an act that met one, and the stop behind it
pub acts_until : (plan : SharedPlan) (w : Worker) (mid new : PlanPass) (role2 : Role) (s : Stop) → IsServed plan w → w.refusal ≡ None → BelongsTo plan mid → TakesTurn w.pass mid → Acts (author_of w.duty) w.role w.pass (Err s) role2 mid
    → BelongsTo plan new → TakesTurn mid new → Stops (author_of w.duty) mid new → IsServed plan (record { pass = new; role = role2; duty = w.duty; refusal = Some s })
acts_until plan w mid new role2 s served going own takes acts own2 takes2 stops =
    let none = working_none (author_of w.duty) w.pass w.role in
    let before = made_none w.refusal (role_of w.duty) w.role (begun_of w.duty) (seen_of w.pass) (mine_of w.pass) going served.made in
    let all = took_until (author_of w.duty) w.pass w.pass mid new w.role w.role role2 0 s none takes acts takes2 in
    refuses plan w.duty w.pass new w.role role2 served.begun before all own2 served.signed s (worked_until (author_of w.duty) w.pass w.pass mid new w.role w.role role2 0 s none own.seen takes acts own2.seen takes2 stops)

-- ---- the history goes on

pub own_on : (met : Option Stop) (xs ys : List Noted) (r r2 : Role) (low : ℕ) (mine : List (ℕ × Noted)) → IsPrefix xs ys → MakesOwn met r low xs mine r2 → MakesOwn met r low ys mine r2
own_on None xs ys r r2 low mine on made = makes_all_on xs ys r r2 low mine on made
own_on (Some s) xs ys r r2 low mine on made = record {
  own = made.own;
  rest = made.rest;
  whole = made.whole;
  last = made.last;
  made = makes_all_on xs ys r made.last low made.own on made.made;
  behind = made.behind;
}

-- own items of a worker are of its kind
pub own_kinds : (met : Option Stop) (seen : List Noted) (r r2 : Role) (low : ℕ) (mine : List (ℕ × Noted)) → MakesOwn met r low seen mine r2 → serving.Made met (kind_of r) mine
own_kinds None seen r r2 low mine made = made_kinds seen r r2 low mine made
own_kinds (Some s) seen r r2 low mine made = record { own = made.own; rest = made.rest; whole = made.whole; kinds = made_kinds seen r made.last low made.own made.made; behind = made.behind }
