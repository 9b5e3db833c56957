-- Who belongs to a crew, and what its calls say of a member.
use Rattle.std.specs.Prelude.{◌≡◌, ◌≤◌, ◌+◌, ℕ, zero, suc, List, [], ◌∷◌, length, map, take, true, Option, Some, None, Result, ⊤}
use Rattle.std.specs.List.{All}
use Rattle.pl_turn.specs.Passes.{seen_of, mine_of, opening_of, leads, made_by, joined_by}
use Rattle.pl_machine.specs.declared.stop.Stop.{Stop}
use Rattle.pl_machine.specs.Sound.{State}
use Rattle.pl_marks.specs.declared.author.Author.{Author}
use Rattle.pl_marks.specs.declared.author.Author.TheVariants.{Feeder, Executive, Planner}
use Rattle.pl_marks.specs.Authors.{IsAuthor}
use Rattle.pl_acts.specs.declared.noted.Noted.{Noted}
use Rattle.pl_acts.specs.declared.role.Role.{Role}
use Rattle.pl_acts.specs.declared.role.Role.TheVariants as role
use Rattle.pl_acts.specs.declared.role.Acted.{Acted}
use Rattle.pl_acts.specs.declared.sight.Sight.{Sight}
use Rattle.pl_acts.specs.declared.sight.View.{View}
use Rattle.pl_acts.specs.Items.{handed_in, items_of}
use Rattle.pl_acts.specs.Roles.{worker_of}
use Rattle.pl_locked.specs.Plans.{PlanPass, BelongsTo}
use Rattle.pl_locked.specs.Turns.{Acts, Views, ViewRests, SettlesAs}
use Rattle.pl_locked.specs.declared.plan.SharedPlan.{SharedPlan}
use Rattle.pl_pair.specs.Duties.{chooser_of}
use Rattle.pl_pair.specs.Joins.{IsFresh, Splits}
use Rattle.pl_pair.specs.Served.{AreSigned, IsSomeones, AreHandedIn}
use Rattle.pl_many.specs.declared.crew.Crew.{Crew}
use Rattle.pl_many.specs.declared.crew.Hired.{Hired}
use Rattle.pl_many.specs.declared.member.Member.{Member}

-- ---- members

-- how a member acts: the feeder does not
abbrev pub Fits : Author → Option Role → Type 0
Fits Feeder None = ⊤
Fits Feeder (Some r) = ⊥
Fits Executive None = ⊥
Fits Executive (Some r) = worker_of r ≡ 0
Fits (Planner k) None = ⊥
Fits (Planner k) (Some r) = worker_of r ≡ 1

-- What the pass that takes the others in has seen begins with what was handed in, and each list that it took in is somebody's.
pub record Gathers (pass : PlanPass) : Type 0 where
  pub long : opening_of pass ≤ length (seen_of pass)
  pub handed : AreHandedIn (take (opening_of pass) (seen_of pass))
  pub joined : All IsSomeones (joined_by pass)

-- A member of a crew over this plan: its pass is one of the plan, and each of its own items carries its name.
pub record IsMemberOf (plan : SharedPlan) (m : Member) : Type 0 where
  pub own : BelongsTo plan m.pass
  pub known : IsAuthor m.author
  pub fits : Fits m.author m.role
  pub signed : AreSigned m.author (mine_of m.pass)
  pub gathers : leads m.pass ≡ true → Gathers m.pass

abbrev pub IsMember : Crew → Member → Type 0
IsMember crew m = IsMemberOf crew.plan m

-- ---- a crew begins

-- planners by number, so many from this one on
abbrev pub planners_from : ℕ → ℕ → List Author
planners_from k zero = []
planners_from k (suc more) = Planner k ∷ planners_from (k + 1) more

-- the executive, and then so many planners by number
abbrev pub workers_of : ℕ → List Author
workers_of planners = Executive ∷ planners_from 1 planners

-- how a member begins to act: a planner has the chooser of the seed and its number added up
abbrev pub first_role : ℕ → Author → Option Role
first_role seed Feeder = None
first_role seed Executive = Some role.Executive
first_role seed (Planner k) = Some (role.Planner (chooser_of (seed + k)))

-- A member that has made nothing yet, and has seen this.
pub record IsNew (plan : SharedPlan) (seed : ℕ) (seen : List Noted) (m : Member) : Type 0 where
  pub member : IsMemberOf plan m
  pub begins : m.role ≡ first_role seed m.author
  pub saw : seen_of m.pass ≡ seen
  pub none : mine_of m.pass ≡ []

-- who these members are, in order
abbrev pub authors_of : List Member → List Author
authors_of members = map (λ (m : Member). m.author) members

-- Members with these authors, in order, each with a pass of its own that was split off from the first, which has made nothing.
pub record Crewed (plan : SharedPlan) (seed : ℕ) (authors : List Author) (old first : PlanPass) (members : List Member) : Type 0 where
  pub are : authors_of members ≡ authors
  pub new : All (IsNew plan seed (seen_of old)) members
  pub fresh : IsFresh plan first
  pub splits : Splits old (length authors) first

-- what a plan's history is before anybody has done anything
abbrev pub handed_items : State → List Noted
handed_items machine = items_of machine.model machine.log (handed_in machine.log)

-- The feeder, whose pass takes the others in and opens where the log handed in ends, and the executive and so many planners by number.
pub record IsHired (planners seed : ℕ) (machine : State) (h : Hired) : Type 0 where
  pub feeder : IsNew h.crew.plan seed (handed_items machine) h.feeder
  pub feeds : h.feeder.author ≡ Feeder
  pub leads : leads h.feeder.pass ≡ true
  pub made : made_by h.feeder.pass ≡ planners + 1
  pub none_joined : joined_by h.feeder.pass ≡ []
  pub opening : opening_of h.feeder.pass ≡ length machine.log
  pub workers : authors_of h.members.items ≡ workers_of planners
  pub members : All (IsNew h.crew.plan seed (handed_items machine)) h.members.items

-- ---- calls

-- The plan's call of the same name was made with the member's pass, its author and how it acts.
pub record InRole (Says : Role → Role → Type 0) (old new : Member) : Type 0 where
  pub before : Role
  pub behind : Role
  pub was : old.role ≡ Some before
  pub is : new.role ≡ Some behind
  pub author : new.author ≡ old.author
  pub says : Says before behind

abbrev pub ActsAs : Member → Result Acted Stop → Member → Type 0
ActsAs old result new = InRole (λ r r2. Acts old.author r old.pass result r2 new.pass) old new

abbrev pub ViewsAs : Member → Result View Stop → Member → Type 0
ViewsAs old result new = InRole (λ r r2. Views old.author r old.pass result r2 new.pass) old new

abbrev pub ViewRestsAs : Member → Result View Stop → Member → Type 0
ViewRestsAs old result new = InRole (λ r r2. ViewRests old.author r old.pass result r2 new.pass) old new

abbrev pub SettlesBy : Sight → Member → Result Acted Stop → Member → Type 0
SettlesBy sight old result new = InRole (λ r r2. SettlesAs old.author r sight old.pass result r2 new.pass) old new

-- the same author, who acts as before
abbrev pub SameMember : Member → Member → Type 0
SameMember old new = (new.author ≡ old.author) × (new.role ≡ old.role)
