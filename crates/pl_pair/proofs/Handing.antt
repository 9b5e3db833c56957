-- Workers hired and joined one after another.
use Rattle.std.proofs.Common.{◌≡◌, ℕ, zero, ◌+◌, ◌<◌, ◌≤◌, List, [], ◌∷◌, ◌++◌, length, map, take, set, get_or, Bool, true, false, Option, refl, sym, ◌∙◌, ap, arith, append_assoc}
use Rattle.std.specs.Prelude.{◌||◌}
use Rattle.std.specs.List.{All, list_any}
use Rattle.std.proofs.Math.Seq.{map-set_same}
use Rattle.std.proofs.lemmas.List.{append-nil, map-append, take_more}
use Rattle.std.proofs.lemmas.List.Elements.{All-nil, All-push, All-set}
use Rattle.std.proofs.lemmas.List.Folds.{list_any-append}
use mathlib.Core.List.{IsPrefix}
use Rattle.pl_turn.specs.declared.known.Crew.{Crew}
use Rattle.pl_turn.specs.Passes.{seen_of, mine_of, crew_of, leads, made_by, joined_by}
use Rattle.pl_turn.proofs.Histories.{prefix_self, prefix_trans}
use Rattle.pl_machine.specs.declared.stop.Stop.{Stop}
use Rattle.pl_acts.specs.declared.noted.Noted.{Noted}
use Rattle.pl_locked.specs.declared.plan.SharedPlan.{SharedPlan}
use Rattle.pl_locked.specs.Plans.{PlanPass, BelongsTo}
use Rattle.pl_pair.specs.declared.duty.Duty.{Duty}
use Rattle.pl_pair.specs.declared.worker.Worker.{Worker}
use Rattle.pl_pair.specs.declared.hands.Hand.{Hand}
use Rattle.pl_pair.specs.declared.endings.Met.{Met}
use Rattle.pl_pair.specs.Duties.{begun_of}
use Rattle.pl_pair.specs.Served.{IsHired, IsServed}
use Rattle.pl_pair.specs.Workers.{IsHand, duty_of}
use Rattle.pl_pair.specs.Endings.{is_full, is_other, met_by}
use Rattle.pl_pair.specs.Joins.{IsFirst, HasBegun, Splits, refusals, duties_in, own_lists_of, HasSeenIn, JoinsAll, JoinsTeam}

-- ---- one hand is replaced

pub all_set : (plan : SharedPlan) (hands : List Hand) (i : ℕ) (hand : Hand) → IsHand plan hand → All (IsHand plan) hands → All (IsHand plan) (set hands i hand)
all_set plan hands i hand here all = All-set (IsHand plan) hands i hand here all

pub duties_set : (hands : List Hand) (i : ℕ) (hand d : Hand) → duty_of hand ≡ duty_of (get_or hands i d) → map duty_of (set hands i hand) ≡ map duty_of hands
duties_set hands i hand d same = map-set_same duty_of hands i hand d same

-- ---- one more hand

pub all_more : (plan : SharedPlan) (hands : List Hand) (hand : Hand) → All (IsHand plan) hands → IsHand plan hand → All (IsHand plan) (hands ++ hand ∷ [])
all_more plan hands hand all here = All-push (IsHand plan) hands hand all here

pub duties_more : (hands : List Hand) (hand : Hand) (duties : List Duty) (i : ℕ) (d : Duty) → map duty_of hands ≡ take i duties → i < length duties → duty_of hand ≡ get_or duties i d
    → map duty_of (hands ++ hand ∷ []) ≡ take (i + 1) duties
duties_more hands hand duties i d so_far within is =
    map-append duty_of hands (hand ∷ []) ∙ ap (λ (ds : List Duty). ds ++ duty_of hand ∷ []) so_far ∙ ap (λ (x : Duty). take i duties ++ x ∷ []) is ∙ sym (take_more duties i d within)

pub splits_none : (pass : PlanPass) → Splits pass 0 pass
splits_none pass = record { seen = refl; crew = ap (λ (n : ℕ). record (crew_of pass) { made = n }) (let e : made_by pass ≡ made_by pass + 0 = omega arith in e) }

pub splits_more : (old mid new : PlanPass) (count : ℕ) → Splits old count mid → seen_of new ≡ seen_of mid → crew_of new ≡ record (crew_of mid) { made = made_by mid + 1 } → Splits old (count + 1) new
splits_more old mid new count so_far seen crew = record {
  seen = seen ∙ so_far.seen;
  crew = crew ∙ ap (λ (c : Crew Noted). record c { made = c.made + 1 }) so_far.crew
      ∙ ap (λ (n : ℕ). record (crew_of old) { made = n }) (let e : made_by old + count + 1 ≡ made_by old + (count + 1) = omega arith in e);
}

pub splits_lead : (plan : SharedPlan) (old mid : PlanPass) (count : ℕ) → IsFirst plan old → Splits old count mid → leads mid ≡ true
splits_lead plan old mid count first so_far = ap (λ c. c.leads) so_far.crew ∙ first.first

pub splits_few : (plan : SharedPlan) (old mid : PlanPass) (count : ℕ) → IsFirst plan old → Splits old count mid → count ≤ 9 → made_by mid < 1000
splits_few plan old mid count first so_far few = let made = ap (λ c. c.made) so_far.crew in let none = first.alone in omega (arith, made, none, few)

-- what a worker is handed
pub hired_at : (plan : SharedPlan) (duties : List Duty) (old mid own : PlanPass) (k : ℕ) (d : Duty) → All (HasBegun old) duties → k < length duties → Splits old k mid → seen_of own ≡ seen_of mid → BelongsTo plan own → mine_of own ≡ []
    → IsHired plan (get_or duties k d) own
hired_at plan duties old mid own k d begun within so_far seen belongs none =
    let long : length (seen_of own) ≡ length (seen_of old) = ap length (seen ∙ so_far.seen) in
    let here : begun_of (get_or duties k d) ≤ length (seen_of old) = (begun k d within).0 in
    record { own = belongs; new = none; begun = omega (arith, long, here); known = (begun k d within).1 }

-- ---- one after another is joined

-- These workers were joined, and the rest is still to be joined.
pub record JoinsSome (plan : SharedPlan) (duties : List Duty) (rest : List Hand) (old : PlanPass) (met : Met) (new : PlanPass) : Type 0 where
  pub workers : List Worker
  pub hired : duties_in workers ++ map duty_of rest ≡ duties
  pub joins : JoinsAll plan workers old new
  pub together : met ≡ met_by (refusals workers)

pub joins_none : (plan : SharedPlan) (hands : List Hand) (pass : PlanPass) → BelongsTo plan pass → JoinsSome plan (map duty_of hands) hands pass (met_by []) pass
joins_none plan hands pass own = record {
  workers = [];
  hired = refl;
  joins = record {
    each = All-nil (IsServed plan);
    own = own;
    crew = ap (λ (js : List (List (ℕ × Noted))). record (crew_of pass) { joined = js }) (sym (append-nil (joined_by pass)));
    longer = prefix_self (seen_of pass);
    begins = All-nil (HasSeenIn (seen_of pass));
    mine = refl;
  };
  together = refl;
}

or_false : (a b : Bool) → (a || (b || false)) ≡ (a || b)
or_false true b = refl
or_false false true = refl
or_false false false = refl

any_more : (p : Option Stop → Bool) (workers : List Worker) (w : Worker) → list_any p (refusals (workers ++ w ∷ [])) ≡ (list_any p (refusals workers) || p w.refusal)
any_more p workers w =
    ap (λ (os : List (Option Stop)). list_any p os) (map-append (λ (x : Worker). x.refusal) workers (w ∷ []))
    ∙ list_any-append p (refusals workers) (w.refusal ∷ []) ∙ or_false (list_any p (refusals workers)) (p w.refusal)

abbrev pub met_with : Met → Option Stop → Met
met_with met o = record { full = met.full || is_full o; other = met.other || is_other o }

met_more : (workers : List Worker) (w : Worker) (met : Met) → met ≡ met_by (refusals workers) → met_with met w.refusal ≡ met_by (refusals (workers ++ w ∷ []))
met_more workers w met is =
    let M : (Bool × Bool) → Met = λ t. record { full = t.0; other = t.1 } in
    ap (λ (m : Met). met_with m w.refusal) is ∙ ap M (λ i. (sym (any_more is_full workers w) i, sym (any_more is_other workers w) i))

module _ (plan : SharedPlan) (duties : List Duty) (hand : Hand) (rest all : List Hand) (old mid new : PlanPass) (met : Met) (w : Worker) (is : all ≡ hand ∷ rest) (so_far : JoinsSome plan duties all old met mid) where
  abbrev ws : List Worker
  ws = so_far.workers

  hired_more : w.duty ≡ duty_of hand → duties_in (ws ++ w ∷ []) ++ map duty_of rest ≡ duties
  hired_more duty =
      ap (λ (ds : List Duty). ds ++ map duty_of rest) (map-append (λ (x : Worker). x.duty) ws (w ∷ []))
      ∙ append_assoc (duties_in ws) (w.duty ∷ []) (map duty_of rest)
      ∙ ap (λ (d : Duty). duties_in ws ++ d ∷ map duty_of rest) duty
      ∙ ap (λ (hs : List Hand). duties_in ws ++ map duty_of hs) (sym is)
      ∙ so_far.hired

  crew_more : crew_of new ≡ record (crew_of mid) { joined = joined_by mid ++ mine_of w.pass ∷ [] } → crew_of new ≡ record (crew_of old) { joined = joined_by old ++ own_lists_of (ws ++ w ∷ []) }
  crew_more crew =
      let lists : (joined_by old ++ own_lists_of ws) ++ mine_of w.pass ∷ [] ≡ joined_by old ++ own_lists_of (ws ++ w ∷ []) =
      append_assoc (joined_by old) (own_lists_of ws) (mine_of w.pass ∷ [])
      ∙ ap (λ (ls : List (List (ℕ × Noted))). joined_by old ++ ls) (sym (map-append (λ (x : Worker). mine_of x.pass) ws (w ∷ []))) in
      crew ∙ ap (λ (c : Crew Noted). record c { joined = c.joined ++ mine_of w.pass ∷ [] }) so_far.joins.crew
      ∙ ap (λ (js : List (List (ℕ × Noted))). record (crew_of old) { joined = js }) lists

  pub joins_more : IsServed plan w → w.duty ≡ duty_of hand → BelongsTo plan new → crew_of new ≡ record (crew_of mid) { joined = joined_by mid ++ mine_of w.pass ∷ [] }
      → IsPrefix (seen_of mid) (seen_of new) × IsPrefix (seen_of w.pass) (seen_of new) → mine_of new ≡ mine_of mid → JoinsSome plan duties rest old (met_with met w.refusal) new
  joins_more served duty own crew begins mine = record {
    workers = ws ++ w ∷ [];
    hired = hired_more duty;
    joins = record {
      each = All-push (IsServed plan) ws w so_far.joins.each served;
      own = own;
      crew = crew_more crew;
      longer = prefix_trans (seen_of old) (seen_of mid) (seen_of new) so_far.joins.longer begins.0;
      begins = All-push (HasSeenIn (seen_of new)) ws w (λ k x lt. prefix_trans (seen_of (get_or ws k x).pass) (seen_of mid) (seen_of new) (so_far.joins.begins k x lt) begins.0) begins.1;
      mine = mine ∙ so_far.joins.mine;
    };
    together = met_more ws w met so_far.together;
  }

pub joins_all : (plan : SharedPlan) (duties : List Duty) (rest : List Hand) (old new : PlanPass) (met : Met) → rest ≡ [] → JoinsSome plan duties rest old met new → JoinsTeam plan duties old met new
joins_all plan duties rest old new met none so_far = record {
  workers = so_far.workers;
  hired = sym (append-nil (duties_in so_far.workers)) ∙ ap (λ (hs : List Hand). duties_in so_far.workers ++ map duty_of hs) (sym none) ∙ so_far.hired;
  joins = so_far.joins;
  together = so_far.together;
}
