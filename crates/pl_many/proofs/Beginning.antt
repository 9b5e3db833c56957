-- How a crew begins.
use Rattle.std.proofs.Common.{◌≡◌, ℕ, zero, suc, ◌+◌, ◌<◌, ◌≤◌, List, [], ◌∷◌, ◌++◌, length, take, true, false, Option, Some, None, refl, sym, ◌∙◌, ap, subst, arith, length-append}
use Rattle.std.specs.List.{All}
use Rattle.std.proofs.lemmas.List.{map-append, take_all}
use Rattle.std.proofs.lemmas.List.Elements.{All-nil, All-push}
use Rattle.std.specs.declared.vec.Vec.{Vec}
use Rattle.std.specs.declared.alloc.Global.{Global}
use Rattle.pl_turn.specs.declared.known.Crew.{Crew as Known}
use Rattle.pl_turn.specs.Passes.{seen_of, mine_of, crew_of, leads, opening_of, made_by, joined_by}
use Rattle.pl_machine.specs.Sound.{State}
use Rattle.pl_marks.specs.declared.author.Author.{Author}
use Rattle.pl_marks.specs.declared.author.Author.TheVariants.{Feeder, Executive, Planner}
use Rattle.pl_marks.specs.Authors.{IsAuthor}
use Rattle.pl_acts.specs.declared.noted.Noted.{Noted}
use Rattle.pl_acts.specs.declared.role.Role.{Role}
use Rattle.pl_acts.specs.Items.{handed_in, signer_in}
use Rattle.pl_acts.proofs.Items.{length_going}
use Rattle.pl_locked.specs.declared.plan.SharedPlan.{SharedPlan}
use Rattle.pl_locked.specs.Plans.{PlanPass, BelongsTo}
use Rattle.pl_pair.specs.Served.{AreSigned, IsSomeones, AreHandedIn}
use Rattle.pl_pair.specs.Joins.{IsFresh, IsFirst, Splits}
use Rattle.pl_pair.proofs.Handing.{splits_none, splits_more}
use Rattle.pl_many.specs.declared.member.Member.{Member}
use Rattle.pl_many.specs.Members.{Fits, planners_from, workers_of, first_role, IsNew, Crewed, handed_items, IsHired}
use Rattle.pl_pair.proofs.Owning.{handed_are}

-- ---- one member

pub fits_first : (seed : ℕ) (a : Author) → Fits a (first_role seed a)
fits_first seed Feeder = tt
fits_first seed Executive = refl
fits_first seed (Planner k) = refl

none_signed : (a : Author) (own : List (ℕ × Noted)) → own ≡ [] → AreSigned a own
none_signed a own none = subst (All (λ x. signer_in x.1 ≡ Some a)) (sym none) (All-nil (λ x. signer_in x.1 ≡ Some a))

pub new_member : (plan : SharedPlan) (seed : ℕ) (a : Author) (pass : PlanPass) (r : Option Role) (seen : List Noted) → IsAuthor a → BelongsTo plan pass → leads pass ≡ false → seen_of pass ≡ seen → mine_of pass ≡ [] → r ≡ first_role seed a
    → IsNew plan seed seen (record { author = a; pass = pass; role = r })
new_member plan seed a pass r seen known own follows saw none begins = record {
  member = record {
    own = own;
    known = known;
    fits = subst (Fits a) (sym begins) (fits_first seed a);
    signed = none_signed a (mine_of pass) none;
    gathers = λ first. absurd (let h : true ≡ false = sym first ∙ follows in (cc));
  };
  begins = begins;
  saw = saw;
  none = none;
}

-- ---- all of them

pub crew_none : (plan : SharedPlan) (seed : ℕ) (first : PlanPass) → IsFresh plan first → Crewed plan seed [] first first []
crew_none plan seed first fresh = record { are = refl; new = All-nil (IsNew plan seed (seen_of first)); fresh = fresh; splits = splits_none first }

pub crew_more : (plan : SharedPlan) (seed : ℕ) (authors : List Author) (a : Author) (old mid new : PlanPass) (members : List Member) (m : Member) → Crewed plan seed authors old mid members → IsFresh plan new → Splits mid 1 new → m.author ≡ a → IsNew plan seed (seen_of mid) m
    → Crewed plan seed (authors ++ a ∷ []) old new (members ++ m ∷ [])
crew_more plan seed authors a old mid new members m so_far fresh splits who is = record {
  are = map-append (λ (x : Member). x.author) members (m ∷ []) ∙ (ap (λ (l : List Author). l ++ m.author ∷ []) so_far.are ∙ ap (λ (x : Author). authors ++ x ∷ []) who);
  new = All-push (IsNew plan seed (seen_of old)) members m so_far.new (subst (λ (seen : List Noted). IsNew plan seed seen m) so_far.splits.seen is);
  fresh = fresh;
  splits = subst (λ (n : ℕ). Splits old n new) (sym (length-append authors (a ∷ []))) (splits_more old mid new (length authors) so_far.splits splits.seen splits.crew);
}

planners_more : (k n : ℕ) → planners_from k (suc n) ≡ planners_from k n ++ Planner (k + n) ∷ []
planners_more k zero = ap (λ (x : ℕ). Planner x ∷ []) (let e : k ≡ k + 0 = omega arith in e)
planners_more k (suc n) = ap (λ (l : List Author). Planner k ∷ l) (planners_more (k + 1) n ∙ ap (λ (x : ℕ). planners_from (k + 1) n ++ Planner x ∷ []) (let e : k + 1 + n ≡ k + suc n = omega arith in e))

-- one planner more
pub crew_planner : (plan : SharedPlan) (seed n : ℕ) (old mid new : PlanPass) (members : List Member) (m : Member) → Crewed plan seed (workers_of n) old mid members → IsFresh plan new → Splits mid 1 new → m.author ≡ Planner (n + 1) → IsNew plan seed (seen_of mid) m
    → Crewed plan seed (workers_of (n + 1)) old new (members ++ m ∷ [])
crew_planner plan seed n old mid new members m so_far fresh splits who is =
    let same : workers_of n ++ Planner (n + 1) ∷ [] ≡ workers_of (n + 1) =
    ap (λ (l : List Author). Executive ∷ l) (ap (λ (x : ℕ). planners_from 1 n ++ Planner x ∷ []) (let e : n + 1 ≡ 1 + n = omega arith in e) ∙ (sym (planners_more 1 n) ∙ ap (λ (x : ℕ). planners_from 1 x) (let e : suc n ≡ n + 1 = omega arith in e))) in
    subst (λ (l : List Author). Crewed plan seed l old new (members ++ m ∷ [])) same (crew_more plan seed (workers_of n) (Planner (n + 1)) old mid new members m so_far fresh splits who is)

pub crew_leads : (plan : SharedPlan) (seed : ℕ) (authors : List Author) (old mid : PlanPass) (members : List Member) → Crewed plan seed authors old mid members → leads old ≡ true → leads mid ≡ true
crew_leads plan seed authors old mid members so_far first = ap (λ (c : Known Noted). c.leads) so_far.splits.crew ∙ first

workers_long : (k n : ℕ) → length (planners_from k n) ≡ n
workers_long k zero = refl
workers_long k (suc n) = ap suc (workers_long (k + 1) n)

pub crew_few : (plan : SharedPlan) (seed n : ℕ) (old mid : PlanPass) (members : List Member) → Crewed plan seed (workers_of n) old mid members → made_by old ≡ 0 → n ≤ 8 → made_by mid < 1000
crew_few plan seed n old mid members so_far none few =
    (let made = ap (λ (c : Known Noted). c.made) so_far.splits.crew in let long = workers_long 1 n in omega (arith, made, none, few, long))

-- ---- the whole crew

pub first_pass : (plan : SharedPlan) (pass : PlanPass) (opening : ℕ) → BelongsTo plan pass → mine_of pass ≡ [] → crew_of pass ≡ record { leads = true; opening = opening; made = 0; joined = [] } → IsFirst plan pass
first_pass plan pass opening own new crew = record {
  fresh = record { own = own; new = new };
  first = ap (λ (c : Known Noted). c.leads) crew;
  alone = ap (λ (c : Known Noted). c.made) crew;
  none = ap (λ (c : Known Noted). c.joined) crew;
}

pub crew_hired : (plan : SharedPlan) (planners seed : ℕ) (machine : State) (old first : PlanPass) (members : Vec Member Global) → crew_of old ≡ record { leads = true; opening = length (handed_items machine); made = 0; joined = [] } → seen_of old ≡ handed_items machine
    → Crewed plan seed (workers_of planners) old first members.items
    → IsHired planners seed machine (record { crew = record { plan = plan }; feeder = record { author = Feeder; pass = first; role = None }; members = members })
crew_hired plan planners seed machine old first members crew saw are =
    let crews : crew_of first ≡ record { leads = true; opening = length (handed_items machine); made = 0 + length (workers_of planners); joined = [] } =
    are.splits.crew ∙ ap (λ (c : Known Noted). record c { made = c.made + length (workers_of planners) }) crew in
    let sees : seen_of first ≡ handed_items machine = are.splits.seen ∙ saw in
    let none : joined_by first ≡ [] = ap (λ (c : Known Noted). c.joined) crews in
    let opening : opening_of first ≡ length (handed_items machine) = ap (λ (c : Known Noted). c.opening) crews in
    record {
      feeder = record {
        member = record {
          own = are.fresh.own;
          known = tt;
          fits = tt;
          signed = none_signed Feeder (mine_of first) are.fresh.new;
          gathers = λ lead. record {
            long = (let long = ap length sees in omega (arith, long, opening));
            handed = subst AreHandedIn (sym (ap (λ (xs : List Noted). take (opening_of first) xs) sees ∙ (ap (λ (n : ℕ). take n (handed_items machine)) opening ∙ take_all (length (handed_items machine)) (handed_items machine) (omega arith)))) (handed_are machine.model machine.log);
            joined = subst (All IsSomeones) (sym none) (All-nil IsSomeones);
          };
        };
        begins = refl;
        saw = sees;
        none = are.fresh.new;
      };
      feeds = refl;
      leads = ap (λ (c : Known Noted). c.leads) crews;
      made = ap (λ (c : Known Noted). c.made) crews ∙ (let long = workers_long 1 planners in let e : 0 + length (workers_of planners) ≡ planners + 1 = omega (arith, long) in e);
      none_joined = none;
      opening = opening ∙ length_going machine.model machine.log (handed_in machine.log) refl;
      workers = are.are;
      members = subst (λ (seen : List Noted). All (IsNew plan seed seen) members.items) saw are.new;
    }
