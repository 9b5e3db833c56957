-- What each call leaves is a member again.
use Rattle.std.proofs.Common.{◌≡◌, ◌≢◌, ℕ, List, [], ◌∷◌, ◌++◌, true, Option, Some, None, Result, sym, ap, subst}
use Rattle.std.specs.List.{All}
use Rattle.std.proofs.lemmas.List.Elements.{All-push}
use mathlib.Core.List.{IsPrefix}
use Rattle.pl_turn.specs.declared.known.Crew.{Crew as Known}
use Rattle.pl_turn.specs.Passes.{seen_of, mine_of, crew_of, leads, joined_by}
use Rattle.pl_machine.specs.declared.stop.Stop.{Stop}
use Rattle.pl_machine.specs.Sound.{State}
use Rattle.pl_marks.specs.declared.author.Author.{Author}
use Rattle.pl_marks.specs.declared.author.Author.TheVariants.{Feeder, Executive}
use Rattle.pl_marks.specs.declared.mark.Mark.{Mark}
use Rattle.pl_marks.specs.Authors.{IsAuthor}
use Rattle.pl_marks.specs.Marks.{Signed, marks_of}
use Rattle.pl_acts.specs.declared.noted.Noted.{Noted}
use Rattle.pl_acts.specs.declared.role.Role.{Role}
use Rattle.pl_acts.specs.declared.role.Acted.{Acted}
use Rattle.pl_acts.specs.declared.sight.Sight.{Sight}
use Rattle.pl_acts.specs.declared.sight.View.{View}
use Rattle.pl_acts.specs.Roles.{worker_of}
use Rattle.pl_locked.specs.Plans.{BelongsTo, Closes}
use Rattle.pl_locked.specs.Turns.{TakesTurn, Feeds, Stops}
use Rattle.pl_pair.specs.Served.{AreSigned, IsSomeones}
use Rattle.pl_many.specs.declared.crew.Crew.{Crew}
use Rattle.pl_many.specs.declared.member.Member.{Member}
use Rattle.pl_many.specs.Members.{Fits, IsMember, ActsAs, ViewsAs, SettlesBy, SameMember}
use Rattle.pl_many.specs.Closing.{ClosesCrew}
use Rattle.pl_many.proofs.Membering.{some_role, planner_repairs, fits_on, signs_same, signs_stops, signs_acts, signs_views, signs_feeds, signs_settles, acts_worker, views_worker, settles_worker, gathers_on, member_on}
use Rattle.pl_many.proofs.Naming.{closes_crew}

-- ---- before a call

-- who is not the feeder acts
pub acts_somehow : (crew : Crew) (m : Member) → IsMember crew m → m.author ≢ Feeder → m.role ≡ None → ⊥
acts_somehow crew m member other none = some_role m.author m.role other member.fits none

pub repairs : (crew : Crew) (m : Member) (r : Role) → IsMember crew m → m.author ≢ Feeder → m.author ≢ Executive → m.role ≡ Some r → worker_of r ≡ 1
repairs crew m r member other planner is = planner_repairs m.author r other planner (subst (Fits m.author) is member.fits)

-- ---- behind one

module _ (crew : Crew) (old new : Member) (member : IsMember crew old) (own : BelongsTo crew.plan new.pass) (takes : TakesTurn old.pass new.pass) where
  stays : SameMember old new → AreSigned old.author (mine_of new.pass) → IsMember crew new
  stays same signed = member_on crew old new member own takes same.0 (subst (Fits old.author) (sym same.1) member.fits) signed

  pub fed : (line : Option (List ℕ)) (n : Result ℕ Stop) → old.author ≡ Feeder → SameMember old new → Feeds line old.pass n new.pass → IsMember crew new
  fed line n feeder same feeds =
      let signed : AreSigned Feeder (mine_of old.pass) = subst (λ (a : Author). AreSigned a (mine_of old.pass)) feeder member.signed in
      stays same (subst (λ (a : Author). AreSigned a (mine_of new.pass)) (sym feeder) (signs_feeds line old.pass new.pass n feeds signed))

  pub copied : SameMember old new → mine_of new.pass ≡ mine_of old.pass → IsMember crew new
  copied same mine = stays same (signs_same old.author (mine_of old.pass) (mine_of new.pass) mine member.signed)

  pub stopped : SameMember old new → Stops old.author old.pass new.pass → IsMember crew new
  stopped same stops = stays same (signs_stops old.author old.pass new.pass stops member.signed)

  acts_on : (r r2 : Role) → old.role ≡ Some r → new.role ≡ Some r2 → new.author ≡ old.author → worker_of r2 ≡ worker_of r → AreSigned old.author (mine_of new.pass) → IsMember crew new
  acts_on r r2 was is same worker signed =
      member_on crew old new member own takes same (subst (Fits old.author) (sym is) (fits_on old.author r r2 (subst (Fits old.author) was member.fits) worker)) signed

  pub acted_as : (a : Result Acted Stop) → ActsAs old a new → IsMember crew new
  acted_as a acts =
      acts_on acts.before acts.behind acts.was acts.is acts.author (acts_worker old.author acts.before acts.behind old.pass new.pass a acts.says) (signs_acts old.author acts.before acts.behind old.pass new.pass a acts.says member.signed)

  pub viewed_as : (v : Result View Stop) → ViewsAs old v new → IsMember crew new
  viewed_as v views =
      acts_on views.before views.behind views.was views.is views.author (views_worker old.author views.before views.behind old.pass new.pass v views.says) (signs_views old.author views.before views.behind old.pass new.pass v views.says member.signed)

  pub settled_by : (sight : Sight) (a : Result Acted Stop) → SettlesBy sight old a new → IsMember crew new
  settled_by sight a settles =
      acts_on settles.before settles.behind settles.was settles.is settles.author (settles_worker old.author settles.before settles.behind sight old.pass new.pass a settles.says) (signs_settles old.author settles.before settles.behind sight old.pass new.pass a settles.says member.signed)

-- ---- together again

pub joined : (crew : Crew) (old new other : Member) → IsMember crew old → IsMember crew other → BelongsTo crew.plan new.pass → SameMember old new → leads old.pass ≡ true
    → crew_of new.pass ≡ record (crew_of old.pass) { joined = joined_by old.pass ++ mine_of other.pass ∷ [] } → IsPrefix (seen_of old.pass) (seen_of new.pass) → mine_of new.pass ≡ mine_of old.pass → IsMember crew new
joined crew old new other member theirs own same first crews longer mine =
    let gathers = member.gathers first in
    let all : All IsSomeones (joined_by old.pass ++ mine_of other.pass ∷ []) = All-push IsSomeones (joined_by old.pass) (mine_of other.pass) gathers.joined (other.author, theirs.signed) in
    record {
      own = own;
      known = subst IsAuthor (sym same.0) member.known;
      fits = subst (λ (a : Author). Fits a new.role) (sym same.0) (subst (Fits old.author) (sym same.1) member.fits);
      signed = subst (λ (a : Author). AreSigned a (mine_of new.pass)) (sym same.0) (signs_same old.author (mine_of old.pass) (mine_of new.pass) mine member.signed);
      gathers = λ lead. gathers_on old.pass new.pass longer (ap (λ (c : Known Noted). c.opening) crews) (subst (All IsSomeones) (sym (ap (λ (c : Known Noted). c.joined) crews)) all) gathers;
    }

pub closes_by : (crew : Crew) (feeder : Member) (machine : State) (by : Signed) (marks : List Mark) → IsMember crew feeder → leads feeder.pass ≡ true → Closes feeder.pass machine by → marks ≡ marks_of by → ClosesCrew feeder.pass machine marks
closes_by crew feeder machine by marks member first closes are = closes_crew feeder.pass machine by (member.gathers first) (feeder.author, member.signed) closes marks are
