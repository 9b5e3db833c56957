-- Own entries, as the history goes on.
use Rattle.std.proofs.Common.{ℕ, ◌+◌, ◌≤◌, List, [], ◌∷◌, ◌++◌, Option, Some, None, refl, sym, ◌∙◌, ap, subst, arith, inl, inr, append_assoc}
use mathlib.Core.List.{IsPrefix}
use Rattle.pl_turn.proofs.Histories.{prefix_trans}
use Rattle.pl_entry.specs.declared.event.Event.{Event}
use Rattle.pl_entry.specs.declared.event.Event.TheVariants as event
use Rattle.pl_entry.specs.declared.reply.Reply.{Reply}
use Rattle.pl_entry.specs.declared.entry.Entry.{Entry}
use Rattle.rand_pcg.specs.Lcg.{Lcg}
use Rattle.pl_cand.specs.declared.proposal.Proposal.{Proposal}
use Rattle.pl_acts.specs.declared.noted.Noted.{Noted}
use Rattle.pl_acts.specs.declared.noted.Noted.TheVariants.{Made}
use Rattle.pl_acts.specs.declared.role.Role.{Role}
use Rattle.pl_acts.specs.declared.role.Role.TheVariants.{Planner, Executive}
use Rattle.pl_acts.specs.Sights.{IsSight, IsFixed, as_seen, asked_again, HasRested, at_once, behind, IsPlanned, IsBy, IsKeptBy, IsKept, IdlesBy, Idles}
use Rattle.pl_acts.specs.Making.{IsMadeAt, MakesAll, low_behind}

-- ---- the history goes on

made_at_on : (xs ys : List Noted) (r r2 : Role) (low place : ℕ) (item : Noted) → IsPrefix xs ys → IsMadeAt r low xs place item r2 → IsMadeAt r low ys place item r2
made_at_on xs ys r r2 low place item on is = record {
  before = is.before;
  author = is.author;
  entry = is.entry;
  behind = is.behind ++ on.0;
  whole = sym on.1 ∙ ap (λ (zs : List Noted). zs ++ on.0) is.whole ∙ append_assoc is.before (Made is.author is.entry ∷ is.behind) on.0;
  stands = is.stands;
  is = is.is;
  running = is.running;
  step = is.step;
  by = is.by;
}

kept_by_on : (xs ys : List Noted) (g g2 : Lcg) (low : ℕ) → IsPrefix xs ys → IsKeptBy g low xs g2 → IsKeptBy g low ys g2
kept_by_on xs ys g g2 low on (inl same) = inl same
kept_by_on xs ys g g2 low on (inr lost) =
    inr (record { proposal = lost.0.proposal; behind = lost.0.behind; on = prefix_trans lost.0.behind xs ys lost.0.on on; sight = lost.0.sight; late = lost.0.late }, lost.1)

kept_on : (xs ys : List Noted) (r r2 : Role) (low : ℕ) → IsPrefix xs ys → IsKept r low xs r2 → IsKept r low ys r2
kept_on xs ys (Planner g) (Planner g2) low on kept = kept_by_on xs ys g g2 low on kept
kept_on xs ys (Planner g) Executive low on kept = absurd kept
kept_on xs ys Executive r2 low on kept = kept

idles_by_on : (xs ys : List Noted) (r r2 : Role) (low : ℕ) (mids : List Role) → IsPrefix xs ys → IdlesBy r low xs mids r2 → IdlesBy r low ys mids r2
idles_by_on xs ys r r2 low [] on idles = idles
idles_by_on xs ys r r2 low (mid ∷ mids) on idles = (kept_on xs ys r mid low on idles.0, idles_by_on xs ys mid r2 low mids on idles.1)

idles_on : (xs ys : List Noted) (r r2 : Role) (low : ℕ) → IsPrefix xs ys → Idles r low xs r2 → Idles r low ys r2
idles_on xs ys r r2 low on idles = (idles.0, idles_by_on xs ys r r2 low idles.0 on idles.1)

pub makes_all_on : (xs ys : List Noted) (r r2 : Role) (low : ℕ) (own : List (ℕ × Noted)) → IsPrefix xs ys → MakesAll r low xs own r2 → MakesAll r low ys own r2
makes_all_on xs ys r r2 low [] on all = idles_on xs ys r r2 low on all
makes_all_on xs ys r r2 low (x ∷ own) on all = (
  all.0,
  idles_on xs ys r all.0 low on all.1,
  all.2,
  made_at_on xs ys all.0 all.2 low x.0 x.1 on all.3,
  makes_all_on xs ys all.2 r2 (x.0 + 1) own on all.4,
)

-- ---- less was asked for

sight_late : (g : Lcg) (low low2 : ℕ) (items : List Noted) (p : Option Proposal) → low2 ≤ low → IsSight g low items p → IsSight g low2 items p
sight_late g low low2 items p le sight =
    let look = sight.look in
    record {
      look = record { front = look.front; on = look.on; late = (let late = look.late in omega (arith, late, le)); running = look.running; asks = look.asks; room = look.room };
      picks = sight.picks;
      legal = sight.legal;
    }

fixed_late : (g g2 : Lcg) (low low2 : ℕ) (before : List Noted) (p : Proposal) (r : Reply) → low2 ≤ low → IsFixed g low before p r g2 → IsFixed g low2 before p r g2
unfolding sight_late
fixed_late g g2 low low2 before p r le (as_seen sight done drew) = as_seen (sight_late g low low2 before (Some p) le sight) done drew
fixed_late g g2 low low2 before p r le (asked_again sight picks done drew) = asked_again (sight_late g low low2 before None le sight) picks done drew

rested_late : (g g2 : Lcg) (low low2 : ℕ) (before : List Noted) → low2 ≤ low → HasRested g low before g2 → HasRested g low2 before g2
rested_late g g2 low low2 before le (at_once plain same) = at_once plain same
rested_late g g2 low low2 before le (behind p sight why drew) = behind p (sight_late g low low2 before p le sight) why drew

planned_late : (g g2 : Lcg) (low low2 : ℕ) (before : List Noted) (v : Event) (r : Reply) → low2 ≤ low → IsPlanned g low before v r g2 → IsPlanned g low2 before v r g2
planned_late g g2 low low2 before (event.Fix k m) r le planned = fixed_late g g2 low low2 before (record { conflict = k; mv = m }) r le planned
planned_late g g2 low low2 before event.Rest r le planned = rested_late g g2 low low2 before le planned
planned_late g g2 low low2 before (event.Opened o) r le planned = absurd planned
planned_late g g2 low low2 before (event.Input line) r le planned = absurd planned
planned_late g g2 low low2 before (event.Commit h) r le planned = absurd planned
planned_late g g2 low low2 before event.Dispatch r le planned = absurd planned
planned_late g g2 low low2 before event.Close r le planned = absurd planned

by_late : (r r2 : Role) (low low2 : ℕ) (before : List Noted) (e : Entry) → low2 ≤ low → IsBy r r2 low before e → IsBy r r2 low2 before e
by_late (Planner g) (Planner g2) low low2 before e le by = planned_late g g2 low low2 before e.event e.reply le by
by_late (Planner g) Executive low low2 before e le by = absurd by
by_late Executive (Planner g2) low low2 before e le by = absurd by
by_late Executive Executive low low2 before e le by = by

pub made_at_late : (r r2 : Role) (low low2 : ℕ) (seen : List Noted) (place : ℕ) (item : Noted) → low2 ≤ low → IsMadeAt r low seen place item r2 → IsMadeAt r low2 seen place item r2
made_at_late r r2 low low2 seen place item le is = record {
  before = is.before;
  author = is.author;
  entry = is.entry;
  behind = is.behind;
  whole = is.whole;
  stands = is.stands;
  is = is.is;
  running = is.running;
  step = is.step;
  by = (is.by.0, by_late r r2 low low2 is.before is.entry le is.by.1);
}

kept_by_late : (g g2 : Lcg) (low low2 : ℕ) (seen : List Noted) → low2 ≤ low → IsKeptBy g low seen g2 → IsKeptBy g low2 seen g2
kept_by_late g g2 low low2 seen le (inl same) = inl same
kept_by_late g g2 low low2 seen le (inr lost) =
    inr (record { proposal = lost.0.proposal; behind = lost.0.behind; on = lost.0.on; sight = sight_late g low low2 lost.0.behind lost.0.proposal le lost.0.sight; late = lost.0.late }, lost.1)

pub kept_late : (r r2 : Role) (low low2 : ℕ) (seen : List Noted) → low2 ≤ low → IsKept r low seen r2 → IsKept r low2 seen r2
kept_late (Planner g) (Planner g2) low low2 seen le kept = kept_by_late g g2 low low2 seen le kept
kept_late (Planner g) Executive low low2 seen le kept = absurd kept
kept_late Executive r2 low low2 seen le kept = kept

-- ---- more entries

pub idles_once : (r r2 : Role) (low : ℕ) (seen : List Noted) → IsKept r low seen r2 → Idles r low seen r2
idles_once r r2 low seen kept = (r2 ∷ [], (kept, refl))

idles_by_then : (r mid r2 : Role) (low : ℕ) (seen : List Noted) (xs ys : List Role) → IdlesBy r low seen xs mid → IdlesBy mid low seen ys r2 → IdlesBy r low seen (xs ++ ys) r2
idles_by_then r mid r2 low seen [] ys first then = subst (λ (s : Role). IdlesBy s low seen ys r2) first then
idles_by_then r mid r2 low seen (x ∷ xs) ys first then = (first.0, idles_by_then x mid r2 low seen xs ys first.1 then)

idles_then : (r mid r2 : Role) (low : ℕ) (seen : List Noted) → Idles r low seen mid → Idles mid low seen r2 → Idles r low seen r2
idles_then r mid r2 low seen first then = (first.0 ++ then.0, idles_by_then r mid r2 low seen first.0 then.0 first.1 then.1)

idles_first : (r mid r2 : Role) (low : ℕ) (seen : List Noted) (own : List (ℕ × Noted)) → Idles r low seen mid → MakesAll mid low seen own r2 → MakesAll r low seen own r2
idles_first r mid r2 low seen [] first all = idles_then r mid r2 low seen first all
idles_first r mid r2 low seen (x ∷ own) first all = (all.0, idles_then r mid all.0 low seen first all.1, all.2, all.3, all.4)

pub makes_all_append : (seen : List Noted) (r mid r2 : Role) (low : ℕ) (own more : List (ℕ × Noted)) → MakesAll r low seen own mid → MakesAll mid (low_behind low own) seen more r2 → MakesAll r low seen (own ++ more) r2
makes_all_append seen r mid r2 low [] more first rest = idles_first r mid r2 low seen more first rest
makes_all_append seen r mid r2 low (x ∷ own) more all rest = (all.0, all.1, all.2, all.3, makes_all_append seen all.2 mid r2 (x.0 + 1) own more all.4 rest)

-- the role that made them may come too late behind them
pub makes_all_idle : (seen : List Noted) (r mid r2 : Role) (low : ℕ) (own : List (ℕ × Noted)) → MakesAll r low seen own mid → Idles mid (low_behind low own) seen r2 → MakesAll r low seen own r2
makes_all_idle seen r mid r2 low [] all idles = idles_then r mid r2 low seen all idles
makes_all_idle seen r mid r2 low (x ∷ own) all idles = (all.0, all.1, all.2, all.3, makes_all_idle seen all.2 mid r2 (x.0 + 1) own all.4 idles)

idles_by_late : (r r2 : Role) (low low2 : ℕ) (seen : List Noted) (mids : List Role) → low2 ≤ low → IdlesBy r low seen mids r2 → IdlesBy r low2 seen mids r2
idles_by_late r r2 low low2 seen [] le idles = idles
idles_by_late r r2 low low2 seen (mid ∷ mids) le idles = (kept_late r mid low low2 seen le idles.0, idles_by_late mid r2 low low2 seen mids le idles.1)

idles_late : (r r2 : Role) (low low2 : ℕ) (seen : List Noted) → low2 ≤ low → Idles r low seen r2 → Idles r low2 seen r2
idles_late r r2 low low2 seen le idles = (idles.0, idles_by_late r r2 low low2 seen idles.0 le idles.1)

-- less was asked for
pub makes_all_late : (r r2 : Role) (low low2 : ℕ) (seen : List Noted) (own : List (ℕ × Noted)) → low2 ≤ low → MakesAll r low seen own r2 → MakesAll r low2 seen own r2
makes_all_late r r2 low low2 seen [] le all = idles_late r r2 low low2 seen le all
makes_all_late r r2 low low2 seen (x ∷ own) le all = (all.0, idles_late r all.0 low low2 seen le all.1, all.2, made_at_late all.0 all.2 low low2 seen x.0 x.1 le all.3, all.4)
