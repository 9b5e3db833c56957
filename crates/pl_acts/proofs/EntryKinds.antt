-- Of which kind what a role makes is.
use Rattle.std.proofs.Common.{◌≡◌, ℕ, ◌+◌, ◌<◌, ◌≤◌, List, [], ◌∷◌, length, Bool, true, Option, Some, None, refl, sym, ◌∙◌, ap, subst, arith, length-append}
use Rattle.std.specs.List.{All}
use Rattle.std.proofs.lemmas.List.Elements.{All-nil, All-cons}
use Rattle.pl_model.specs.declared.whole.Model.{Model}
use Rattle.pl_entry.specs.declared.event.Event.{Event}
use Rattle.pl_entry.specs.declared.event.Event.TheVariants as event
use Rattle.pl_entry.specs.declared.reply.Reply.{Reply}
use Rattle.pl_entry.specs.declared.entry.Entry.{Entry}
use Rattle.rand_pcg.specs.Lcg.{Lcg}
use Rattle.pl_machine.specs.declared.choice.Choice.{Choice}
use Rattle.pl_machine.specs.declared.choice.Choice.TheVariants as choice
use Rattle.pl_machine.specs.World.{World}
use Rattle.pl_machine.specs.Choices.{exec_choice_of, event_of}
use Rattle.pl_machine.specs.Legal.{world_of}
use Rattle.pl_acts.specs.declared.noted.Noted.{Noted}
use Rattle.pl_acts.specs.declared.noted.Noted.TheVariants.{Made}
use Rattle.pl_acts.specs.declared.role.Role.{Role}
use Rattle.pl_acts.specs.declared.role.Role.TheVariants.{Planner, Executive}
use Rattle.pl_acts.specs.Items.{model_in, OfWorld, InWorld, entries_in}
use Rattle.pl_acts.specs.Roles.{worker_of, IsChosen, kind_of, is_entry, is_executed}
use Rattle.pl_acts.specs.Sights.{IsPlanned, IsBy, IsKept, IdlesBy, Idles, IsAskedAtMost}
use Rattle.pl_acts.specs.Making.{IsMadeAt, MakesAll, low_behind}
use Rattle.pl_acts.specs.Seen.{WasAskedAtMost}

-- ---- which entries a role makes

planned_kind : (g g2 : Lcg) (low : ℕ) (before : List Noted) (v : Event) (r : Reply) → IsPlanned g low before v r g2 → kind_of (Planner g) v ≡ true
planned_kind g g2 low before (event.Fix k m) r planned = refl
planned_kind g g2 low before event.Rest r planned = refl
planned_kind g g2 low before (event.Opened o) r planned = absurd planned
planned_kind g g2 low before (event.Input line) r planned = absurd planned
planned_kind g g2 low before (event.Commit h) r planned = absurd planned
planned_kind g g2 low before event.Dispatch r planned = absurd planned
planned_kind g g2 low before event.Close r planned = absurd planned

executed_kind : (c : Choice) → is_executed (event_of c) ≡ true
executed_kind choice.Dispatch = refl
executed_kind (choice.Commit h) = refl
executed_kind choice.Close = refl

chosen_kind : (o : Option Choice) (v : Event) → IsChosen o v → is_executed v ≡ true
chosen_kind None v chosen = absurd chosen
chosen_kind (Some c) v chosen = ap is_executed chosen ∙ executed_kind c

-- what holds whatever the world
of_world : (P : World → Type 0) (Q : Type 0) (o : Option Model) (es : List Entry) → OfWorld o es P → ((w : World) → P w → Q) → Q
of_world P Q None es h f = absurd h
of_world P Q (Some m) es h f = f (world_of m es) h

pub from_world : (P : World → Type 0) (Q : Type 0) (items : List Noted) → InWorld items P → ((w : World) → P w → Q) → Q
from_world P Q items h f = of_world P Q (model_in items) (entries_in items) h f

pub by_kind : (r r2 : Role) (low : ℕ) (before : List Noted) (e : Entry) → IsBy r r2 low before e → (kind_of r e.event ≡ true) × (worker_of r2 ≡ worker_of r)
by_kind (Planner g) (Planner g2) low before e by = (planned_kind g g2 low before e.event e.reply by, refl)
by_kind (Planner g) Executive low before e by = absurd by
by_kind Executive (Planner g2) low before e by = absurd by
by_kind Executive Executive low before e by =
    (from_world (λ w. IsChosen (exec_choice_of w) e.event) (is_executed e.event ≡ true) before by (λ w chosen. chosen_kind (exec_choice_of w) e.event chosen), refl)

pub kind_same : (r r2 : Role) → worker_of r2 ≡ worker_of r → kind_of r2 ≡ kind_of r
kind_same (Planner g) (Planner g2) e = refl
kind_same (Planner g) Executive e = absurd (omega arith)
kind_same Executive (Planner g2) e = absurd (omega arith)
kind_same Executive Executive e = refl

-- ---- a role that made nothing is one of the same worker

pub kept_worker : (r r2 : Role) (low : ℕ) (seen : List Noted) → IsKept r low seen r2 → worker_of r2 ≡ worker_of r
kept_worker (Planner g) (Planner g2) low seen kept = refl
kept_worker (Planner g) Executive low seen kept = absurd kept
kept_worker Executive r2 low seen kept = ap worker_of kept

idles_by_worker : (r r2 : Role) (low : ℕ) (seen : List Noted) (mids : List Role) → IdlesBy r low seen mids r2 → worker_of r2 ≡ worker_of r
idles_by_worker r r2 low seen [] same = ap worker_of same
idles_by_worker r r2 low seen (mid ∷ mids) idles = idles_by_worker mid r2 low seen mids idles.1 ∙ kept_worker r mid low seen idles.0

pub idles_worker : (r r2 : Role) (low : ℕ) (seen : List Noted) → Idles r low seen r2 → worker_of r2 ≡ worker_of r
idles_worker r r2 low seen idles = idles_by_worker r r2 low seen idles.0 idles.1

pub asked_worker : (r r2 : Role) (low : ℕ) (seen : List Noted) → IsAskedAtMost r low seen r2 → worker_of r2 ≡ worker_of r
asked_worker (Planner g) (Planner g2) low seen asked = refl
asked_worker (Planner g) Executive low seen asked = absurd asked
asked_worker Executive r2 low seen same = ap worker_of same

pub was_asked_worker : (r r2 : Role) (own : List (ℕ × Noted)) (seen : List Noted) → WasAskedAtMost r own seen r2 → worker_of r2 ≡ worker_of r
was_asked_worker r r2 own seen was = asked_worker r r2 was.low was.before was.asked

-- ---- what was made has its place in what was seen

place_within : (r r2 : Role) (low : ℕ) (seen : List Noted) (place : ℕ) (item : Noted) → IsMadeAt r low seen place item r2 → place < length seen
place_within r r2 low seen place item is =
    let long : length seen ≡ length is.before + length (Made is.author is.entry ∷ is.behind) = ap length is.whole ∙ length-append is.before (Made is.author is.entry ∷ is.behind) in
    let stands = is.stands in
    omega (arith, long, stands)

pub made_within : (r r2 : Role) (low : ℕ) (seen : List Noted) (own : List (ℕ × Noted)) → MakesAll r low seen own r2 → All (λ x. x.0 < length seen) own
made_within r r2 low seen [] all = All-nil (λ x. x.0 < length seen)
made_within r r2 low seen (x ∷ own) all = All-cons (λ x. x.0 < length seen) x own (place_within all.0 all.2 low seen x.0 x.1 all.3) (made_within all.2 r2 (x.0 + 1) seen own all.4)

-- how much was seen behind them
pub low_within : (r r2 : Role) (low : ℕ) (seen : List Noted) (own : List (ℕ × Noted)) → low ≤ length seen → MakesAll r low seen own r2 → low_behind low own ≤ length seen
low_within r r2 low seen [] le all = le
low_within r r2 low seen (x ∷ own) le all = (let here = place_within all.0 all.2 low seen x.0 x.1 all.3 in low_within all.2 r2 (x.0 + 1) seen own (omega (arith, here)) all.4)

-- an entry of a role is of its kind
made_kind : (seen : List Noted) (r r2 : Role) (low place : ℕ) (item : Noted) → IsMadeAt r low seen place item r2 → (is_entry (kind_of r) item ≡ true) × (worker_of r2 ≡ worker_of r)
made_kind seen r r2 low place item is =
    let kind = by_kind r r2 low is.before is.entry is.by.1 in
    (ap (λ (x : Noted). is_entry (kind_of r) x) is.is ∙ kind.0, kind.1)

pub made_worker : (seen : List Noted) (r r2 : Role) (low : ℕ) (own : List (ℕ × Noted)) → MakesAll r low seen own r2 → worker_of r2 ≡ worker_of r
made_worker seen r r2 low [] all = idles_worker r r2 low seen all
made_worker seen r r2 low (x ∷ own) all =
    made_worker seen all.2 r2 (x.0 + 1) own all.4 ∙ (made_kind seen all.0 all.2 low x.0 x.1 all.3).1 ∙ idles_worker r all.0 low seen all.1

pub made_kinds : (seen : List Noted) (r r2 : Role) (low : ℕ) (own : List (ℕ × Noted)) → MakesAll r low seen own r2 → All (λ x. is_entry (kind_of r) x.1 ≡ true) own
made_kinds seen r r2 low [] all = All-nil (λ x. is_entry (kind_of r) x.1 ≡ true)
made_kinds seen r r2 low (x ∷ own) all =
    let first = made_kind seen all.0 all.2 low x.0 x.1 all.3 in
    let same : kind_of all.0 ≡ kind_of r = kind_same r all.0 (idles_worker r all.0 low seen all.1) in
    let P : (Event → Bool) → Type 0 = λ k. All (λ y. is_entry k y.1 ≡ true) own in
    All-cons (λ y. is_entry (kind_of r) y.1 ≡ true) x own (ap (λ (k : Event → Bool). is_entry k x.1) (sym same) ∙ first.0)
    (subst P (kind_same all.0 all.2 first.1 ∙ same) (made_kinds seen all.2 r2 (x.0 + 1) own all.4))
