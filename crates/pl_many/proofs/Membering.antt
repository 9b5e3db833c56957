-- A member stays one through its calls.
use Rattle.std.proofs.Common.{◌≡◌, ◌≢◌, ℕ, ◌+◌, ◌≤◌, List, ◌++◌, length, take, true, false, Option, Some, None, Result, Ok, Err, refl, sym, ◌∙◌, ap, subst, arith}
use Rattle.std.specs.List.{All}
use Rattle.std.proofs.lemmas.List.{take-append-le}
use Rattle.std.proofs.lemmas.List.Elements.{All-push}
use mathlib.Core.List.{IsPrefix}
use Rattle.pl_turn.specs.declared.known.Crew.{Crew as Known}
use Rattle.pl_turn.specs.Passes.{seen_of, mine_of, crew_of, leads, opening_of, joined_by}
use Rattle.pl_turn.proofs.Histories.{prefix_length}
use Rattle.rand_pcg.specs.Lcg.{Lcg}
use Rattle.pl_machine.specs.Mending.{is_repairing}
use Rattle.pl_machine.specs.declared.stop.Stop.{Stop}
use Rattle.pl_machine.specs.declared.stop.Stop.TheVariants as stop
use Rattle.pl_marks.specs.declared.author.Author.{Author}
use Rattle.pl_marks.specs.Authors.{IsAuthor}
use Rattle.pl_marks.specs.declared.author.Author.TheVariants.{Feeder, Executive, Planner}
use Rattle.pl_entry.specs.declared.entry.Entry.{Entry}
use Rattle.pl_acts.specs.declared.noted.Noted.{Noted}
use Rattle.pl_acts.specs.declared.noted.Noted.TheVariants.{Made, Stopped}
use Rattle.pl_acts.specs.declared.role.Role.{Role}
use Rattle.pl_acts.specs.declared.role.Role.TheVariants as role
use Rattle.pl_acts.specs.declared.role.Acted.{Acted}
use Rattle.pl_acts.specs.declared.role.Acted.TheVariants as acted
use Rattle.pl_acts.specs.declared.sight.Sight.{Sight}
use Rattle.pl_acts.specs.declared.sight.View.{View}
use Rattle.pl_acts.specs.declared.sight.View.TheVariants as view
use Rattle.pl_acts.specs.Items.{signer_in, InWorld}
use Rattle.pl_acts.specs.Roles.{worker_of, IsInputOf}
use Rattle.pl_acts.specs.Sights.{IsDueBy}
use Rattle.pl_acts.proofs.EntryKinds.{by_kind, kept_worker, asked_worker}
use Rattle.pl_locked.specs.Plans.{PlanPass, BelongsTo}
use Rattle.pl_locked.specs.Turns.{TakesTurn, Makes, Feeds, Stops, was_stopped, is_stopped, low_of, Acts, Views, IsSettled, Settles, SettlesAs}
use Rattle.pl_pair.specs.Served.{AreSigned, IsSomeones, AreHandedIn}
use Rattle.pl_many.specs.declared.crew.Crew.{Crew}
use Rattle.pl_many.specs.declared.member.Member.{Member}
use Rattle.pl_many.specs.Members.{Fits, Gathers, IsMember}

-- ---- how a member acts

-- who is not the feeder acts
pub some_role : (a : Author) (r : Option Role) → a ≢ Feeder → Fits a r → r ≡ None → ⊥
some_role Feeder r other fits none = other refl
some_role Executive None other fits none = fits
some_role Executive (Some r) other fits none = (let h : Some r ≡ None = none in (cc))
some_role (Planner k) None other fits none = fits
some_role (Planner k) (Some r) other fits none = (let h : Some r ≡ None = none in (cc))

-- a planner repairs
pub planner_repairs : (a : Author) (r : Role) → a ≢ Feeder → a ≢ Executive → Fits a (Some r) → worker_of r ≡ 1
planner_repairs Feeder r other planner fits = absurd fits
planner_repairs Executive r other planner fits = absurd (planner refl)
planner_repairs (Planner k) r other planner fits = fits

-- a role of the same worker
pub fits_on : (a : Author) (r r2 : Role) → Fits a (Some r) → worker_of r2 ≡ worker_of r → Fits a (Some r2)
fits_on Feeder r r2 fits same = absurd fits
fits_on Executive r r2 fits same = same ∙ fits
fits_on (Planner k) r r2 fits same = same ∙ fits

-- ---- own items

module _ (by : Author) where
  abbrev Signs : ℕ × Noted → Type 0
  Signs x = signer_in x.1 ≡ Some by

  pub signs_same : (old new : List (ℕ × Noted)) → new ≡ old → AreSigned by old → AreSigned by new
  signs_same old new same all = subst (All Signs) (sym same) all

  signs_made : (By : List Noted → Entry → Type 0) (old new : PlanPass) (n : ℕ) → Makes By by old new n → AreSigned by (mine_of old) → AreSigned by (mine_of new)
  signs_made By old new n makes all = subst (All Signs) (sym makes.mine) (All-push Signs (mine_of old) (n, Made (Some by) makes.entry) all refl)

  pub signs_stops : (old new : PlanPass) → Stops by old new → AreSigned by (mine_of old) → AreSigned by (mine_of new)
  signs_stops old new (was_stopped same is) all = signs_same (mine_of old) (mine_of new) same all
  signs_stops old new (is_stopped seen on going is mine) all = subst (All Signs) (sym mine) (All-push Signs (mine_of old) (length seen, Stopped by) all refl)

  -- an act
  pub signs_acts : (r r2 : Role) (old new : PlanPass) (a : Result Acted Stop) → Acts by r old a r2 new → AreSigned by (mine_of old) → AreSigned by (mine_of new)
  signs_acts r r2 old new (Ok (acted.Did n)) acts all = signs_made (IsDueBy r r2 (low_of old)) old new n acts all
  signs_acts r r2 old new (Ok acted.Nothing) acts all = signs_same (mine_of old) (mine_of new) acts.0 all
  signs_acts r r2 old new (Ok acted.Finished) acts all = signs_same (mine_of old) (mine_of new) acts.0 all
  signs_acts r r2 old new (Ok acted.Stopped) acts all = signs_same (mine_of old) (mine_of new) acts.0 all
  signs_acts r r2 old new (Err stop.Spoiled) acts all = signs_same (mine_of old) (mine_of new) acts.0 all
  signs_acts r r2 old new (Err stop.NotNow) acts all = absurd acts
  signs_acts r r2 old new (Err stop.LogFull) acts all = signs_same (mine_of old) (mine_of new) acts.0 all
  signs_acts r r2 old new (Err stop.Memory) acts all = signs_same (mine_of old) (mine_of new) acts.0 all

  -- a view
  pub signs_views : (r r2 : Role) (old new : PlanPass) (v : Result View Stop) → Views by r old v r2 new → AreSigned by (mine_of old) → AreSigned by (mine_of new)
  signs_views r r2 old new (Ok (view.Settled a)) views all = signs_acts r r2 old new (Ok a) views all
  signs_views r r2 old new (Ok (view.Copy sight)) views all = signs_same (mine_of old) (mine_of new) views.nothing all
  signs_views r r2 old new (Err s) views all = signs_acts r r2 old new (Err s) views all

-- what the feeder hands in
pub signs_feeds : (line : Option (List ℕ)) (old new : PlanPass) (n : Result ℕ Stop) → Feeds line old n new → AreSigned Feeder (mine_of old) → AreSigned Feeder (mine_of new)
signs_feeds line old new (Ok n) feeds all = signs_made Feeder (λ before e. InWorld before (λ w. IsInputOf line w e)) old new n feeds all
signs_feeds line old new (Err stop.NotNow) feeds all = signs_same Feeder (mine_of old) (mine_of new) feeds.0 all
signs_feeds line old new (Err stop.LogFull) feeds all = signs_same Feeder (mine_of old) (mine_of new) feeds.0 all
signs_feeds line old new (Err stop.Spoiled) feeds all = signs_same Feeder (mine_of old) (mine_of new) feeds all
signs_feeds line old new (Err stop.Memory) feeds all = signs_same Feeder (mine_of old) (mine_of new) feeds all

-- ---- roles

pub acts_worker : (by : Author) (r r2 : Role) (old new : PlanPass) (a : Result Acted Stop) → Acts by r old a r2 new → worker_of r2 ≡ worker_of r
acts_worker by r r2 old new (Ok (acted.Did n)) acts = (by_kind r r2 (low_of old) (seen_of old ++ acts.between) acts.entry acts.by.1).1
acts_worker by r r2 old new (Ok acted.Nothing) acts = kept_worker r r2 (low_of old) (seen_of new) acts.3
acts_worker by r r2 old new (Ok acted.Finished) acts = kept_worker r r2 (low_of old) (seen_of new) acts.2
acts_worker by r r2 old new (Ok acted.Stopped) acts = kept_worker r r2 (low_of old) (seen_of new) acts.3
acts_worker by r r2 old new (Err stop.Spoiled) acts = asked_worker r r2 (low_of old) (seen_of new) acts.1
acts_worker by r r2 old new (Err stop.NotNow) acts = absurd acts
acts_worker by r r2 old new (Err stop.LogFull) acts = kept_worker r r2 (low_of old) (seen_of new) acts.4
acts_worker by r r2 old new (Err stop.Memory) acts = asked_worker r r2 (low_of old) (seen_of new) acts.1

pub views_worker : (by : Author) (r r2 : Role) (old new : PlanPass) (v : Result View Stop) → Views by r old v r2 new → worker_of r2 ≡ worker_of r
views_worker by r r2 old new (Ok (view.Settled a)) views = acts_worker by r r2 old new (Ok a) views
views_worker by r r2 old new (Ok (view.Copy sight)) views = ap worker_of views.drew ∙ sym (ap worker_of views.is)
views_worker by r r2 old new (Err s) views = acts_worker by r r2 old new (Err s) views

pub settles_worker : (by : Author) (r r2 : Role) (sight : Sight) (old new : PlanPass) (a : Result Acted Stop) → SettlesAs by r sight old a r2 new → worker_of r2 ≡ worker_of r
settles_worker by (role.Planner g) (role.Planner g2) sight old new a settles = refl
settles_worker by (role.Planner g) role.Executive sight old new a settles = absurd settles
settles_worker by role.Executive r2 sight old new a settles = absurd settles

-- a second half
signs_settled : (by : Author) (g g2 : Lcg) (sight : Sight) (old new : PlanPass) (a : Result Acted Stop) → Settles by g sight old a g2 new → AreSigned by (mine_of old) → AreSigned by (mine_of new)
signs_settled by g g2 sight old new (Ok (acted.Did n)) settles all =
    signs_made by (λ before e. InWorld before (λ w. (w.done ≡ false) × (is_repairing w ≡ true)) × IsSettled g sight g2 before e.event e.reply) old new n settles all
signs_settled by g g2 sight old new (Ok acted.Nothing) settles all = signs_same by (mine_of old) (mine_of new) settles.0 all
signs_settled by g g2 sight old new (Ok acted.Finished) settles all = signs_same by (mine_of old) (mine_of new) settles.0 all
signs_settled by g g2 sight old new (Ok acted.Stopped) settles all = signs_same by (mine_of old) (mine_of new) settles.0 all
signs_settled by g g2 sight old new (Err stop.Spoiled) settles all = signs_same by (mine_of old) (mine_of new) settles.0 all
signs_settled by g g2 sight old new (Err stop.NotNow) settles all = absurd settles
signs_settled by g g2 sight old new (Err stop.LogFull) settles all = signs_same by (mine_of old) (mine_of new) settles.0 all
signs_settled by g g2 sight old new (Err stop.Memory) settles all = signs_same by (mine_of old) (mine_of new) settles.0 all

pub signs_settles : (by : Author) (r r2 : Role) (sight : Sight) (old new : PlanPass) (a : Result Acted Stop) → SettlesAs by r sight old a r2 new → AreSigned by (mine_of old) → AreSigned by (mine_of new)
signs_settles by (role.Planner g) (role.Planner g2) sight old new a settles all = signs_settled by g g2 sight old new a settles all
signs_settles by (role.Planner g) role.Executive sight old new a settles all = absurd settles
signs_settles by role.Executive r2 sight old new a settles all = absurd settles

-- ---- a pass goes on

pub gathers_on : (old new : PlanPass) → IsPrefix (seen_of old) (seen_of new) → opening_of new ≡ opening_of old → All IsSomeones (joined_by new) → Gathers old → Gathers new
gathers_on old new longer opening joined gathers =
    let le = prefix_length (seen_of old) (seen_of new) longer in
    let long : opening_of old ≤ length (seen_of old) = gathers.long in
    let front : take (opening_of old) (seen_of new) ≡ take (opening_of old) (seen_of old) =
    ap (λ (xs : List Noted). take (opening_of old) xs) (sym longer.1) ∙ take-append-le (opening_of old) (seen_of old) longer.0 long in
    record {
      long = (let is = opening in omega (arith, le, long, is));
      handed = subst AreHandedIn (sym (ap (λ (n : ℕ). take n (seen_of new)) opening ∙ front)) gathers.handed;
      joined = joined;
    }

-- a turn
pub member_on : (crew : Crew) (old new : Member) → IsMember crew old → BelongsTo crew.plan new.pass → TakesTurn old.pass new.pass → new.author ≡ old.author → Fits old.author new.role → AreSigned old.author (mine_of new.pass) → IsMember crew new
member_on crew old new member own takes same fits signed =
    let crews : crew_of new.pass ≡ crew_of old.pass = takes.crew in
    let F : Author → Type 0 = λ a. Fits a new.role in
    let S : Author → Type 0 = λ a. AreSigned a (mine_of new.pass) in
    record {
      own = own;
      known = subst IsAuthor (sym same) member.known;
      fits = subst F (sym same) fits;
      signed = subst S (sym same) signed;
      gathers = λ first.
          (let gathers = member.gathers (sym (ap (λ (c : Known Noted). c.leads) crews) ∙ first) in
          gathers_on old.pass new.pass takes.longer (ap (λ (c : Known Noted). c.opening) crews) (subst (All IsSomeones) (sym (ap (λ (c : Known Noted). c.joined) crews)) gathers.joined) gathers);
    }
