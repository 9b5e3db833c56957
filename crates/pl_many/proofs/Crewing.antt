-- The run of a crew, and the lines behind it.
use Rattle.std.proofs.Common.{◌≡◌, ℕ, zero, suc, ◌+◌, ◌<◌, ◌≤◌, ◌^◌, List, [], ◌∷◌, ◌++◌, length, Option, Result, Ok, Err, OnOk, OnErr, IfErr, IsErrAnd, IsErrOf, refl, sym, ◌∙◌, ap, subst, arith}
use Rattle.std.specs.List.{All}
use Rattle.std.proofs.lemmas.List.{length-map}
use Rattle.std.proofs.lemmas.List.Elements.{All-nil, All-cons}
use Rattle.pl_entry.specs.declared.entry.Entry.{Entry}
use Rattle.pl_io.specs.Writes.{AppendsFront}
use Rattle.pl_io.specs.Faults.{Rose}
use Rattle.pl_journal.specs.Written.{Adds, WriteStops}
use Rattle.pl_input.specs.declared.halt.Halt.{Halt}
use Rattle.pl_input.specs.declared.halt.Halt.TheVariants as halt
use Rattle.pl_input.specs.Places.{Place}
use Rattle.pl_machine.specs.Sound.{State}
use Rattle.pl_machine.proofs.ShortLogs.{log_is_short}
use Rattle.pl_marks.specs.declared.mark.Mark.{Mark}
use Rattle.pl_marks.specs.Authors.{IsAuthor}
use Rattle.pl_marks.specs.Marks.{marks_of}
use Rattle.pl_marks.proofs.Numbering.{authors_are}
use Rattle.pl_pair.specs.declared.duty.Duty.{Duty}
use Rattle.pl_pair.specs.declared.duty.Duty.TheVariants.{Repair, Execute}
use Rattle.pl_pair.specs.declared.ended.Ended.{Ended}
use Rattle.pl_pair.specs.Duties.{begun_of, author_of}
use Rattle.pl_pair.specs.Runs.{RunsTeam}
use Rattle.pl_many.specs.Tallies.{lines_of}
use Rattle.pl_many.specs.CrewRuns.{planners_from, crew_of, Tails, CrewRun}
use Rattle.pl_many.proofs.Tallying.{lines_none}

-- ---- what the workers are hired for

planners_more : (k n seed begun : ℕ) → planners_from k (suc n) seed begun ≡ planners_from k n seed begun ++ Repair (k + n) (seed + (k + n)) begun ∷ []
planners_more k zero seed begun = ap (λ (x : ℕ). Repair x (seed + x) begun ∷ []) (let e : k ≡ k + 0 = omega arith in e)
planners_more k (suc n) seed begun =
    ap (λ (ds : List Duty). Repair k (seed + k) begun ∷ ds) (planners_more (k + 1) n seed begun ∙ ap (λ (x : ℕ). planners_from (k + 1) n seed begun ++ Repair x (seed + x) begun ∷ []) (let e : k + 1 + n ≡ k + suc n = omega arith in e))

-- one planner more
pub duties_more : (before seed begun : ℕ) → crew_of before seed begun ++ Repair (before + 1) (seed + (before + 1)) begun ∷ [] ≡ crew_of (before + 1) seed begun
duties_more before seed begun =
    ap (λ (ds : List Duty). Execute ∷ ds)
    (ap (λ (x : ℕ). planners_from 1 before seed begun ++ Repair x (seed + x) begun ∷ []) (let e : before + 1 ≡ 1 + before = omega arith in e)
    ∙ (sym (planners_more 1 before seed begun) ∙ ap (λ (n : ℕ). planners_from 1 n seed begun) (let e : suc before ≡ before + 1 = omega arith in e)))

module _ (start : State) where
  abbrev IsBegun : Duty → Type 0
  IsBegun d = (begun_of d ≤ length start.log) × IsAuthor (author_of d)

  planners_begun : (k n seed begun : ℕ) → begun ≡ length start.log → 1 ≤ k → k + n ≤ 9 → All IsBegun (planners_from k n seed begun)
  planners_begun k zero seed begun is some few = All-nil IsBegun
  planners_begun k (suc n) seed begun is some few =
      All-cons IsBegun (Repair k (seed + k) begun) (planners_from (k + 1) n seed begun) (omega (arith, is), (some, omega (arith, few))) (planners_begun (k + 1) n seed begun is (omega (arith, some)) (omega (arith, few)))

  pub begun_crew : (planners seed begun : ℕ) → begun ≡ length start.log → planners ≤ 8 → All (λ d. (begun_of d ≤ length start.log) × IsAuthor (author_of d)) (crew_of planners seed begun)
  begun_crew planners seed begun is few = All-cons IsBegun Execute (planners_from 1 planners seed begun) (omega arith, tt) (planners_begun 1 planners seed begun is (omega arith) (omega (arith, few)))

planners_long : (k n seed begun : ℕ) → length (planners_from k n seed begun) ≡ n
planners_long k zero seed begun = refl
planners_long k (suc n) seed begun = ap suc (planners_long (k + 1) n seed begun)

pub crew_long : (planners seed begun : ℕ) → planners ≤ 8 → length (crew_of planners seed begun) ≤ 9
crew_long planners seed begun few = (let long = planners_long 1 planners seed begun in omega (arith, long, few))

-- ---- the lines behind the journal

-- a write of a line failed
pub lines_torn : (r : Result (Unit {0}) Halt) (before middle after : ℕ) → before ≤ middle → IfErr r (WriteStops middle after) → IsErrOf r halt.Write → Rose before after
lines_torn (Ok u) before middle after later cause is = absurd (let h : Ok u ≡ Err halt.Write = is in (cc))
lines_torn (Err h) before middle after later cause is =
    let same : h ≡ halt.Write = (let e : ◌≡◌ {A = Result (Unit {0}) Halt} (Err h) (Err halt.Write) = is in (cc)) in
    let torn : Rose middle after = subst (WriteStops middle after) same cause in omega (arith, later, torn)

module _ (planners seed : ℕ) (start : State) (place : Place) (held : Option (List ℕ)) (behind : Place) where
  -- a log is short, and has at most as many marks
  pub few_marks : (e : Ended) (now : Option (List ℕ)) → RunsTeam (crew_of planners seed (length start.log)) start place held (Ok e) behind now → length e.marks.items < 2 ^ 32
  few_marks e now runs =
      let marks : length e.marks.items ≡ length (marks_of runs.run.history.signs.by) = ap length runs.back.2 in
      let authors = ap length (authors_are runs.run.history.signs.by) in
      let few = length-map (marks_of runs.run.history.signs.by) (λ (m : Mark). m.author) in
      let each = runs.run.history.each_signed in
      let short = log_is_short start.model runs.run.log runs.run.history.legal in
      omega (arith, marks, authors, few, each, short)

  tails : (r : Result (Unit {0}) Halt) (before after : ℕ) (written now : Option (List ℕ)) (lines : List ℕ) → OnOk r (Adds written now lines) → OnErr r (AppendsFront written now lines) → IfErr r (WriteStops before after) → Tails (Ok tt) r written now lines
  tails (Ok tt) before after written now lines adds front cause = adds
  tails (Err halt.Write) before after written now lines adds front cause = front
  tails (Err halt.Memory) before after written now lines adds front cause = front
  tails (Err halt.Read) before after written now lines adds front cause = absurd cause
  tails (Err halt.Limit) before after written now lines adds front cause = absurd cause
  tails (Err halt.Full) before after written now lines adds front cause = absurd cause

  -- the team came to its end, and the lines were written or not
  pub crew_ran : (duties : List Duty) (e : Ended) (marks : List Mark) (log : List Entry) (r : Result (Unit {0}) Halt) (before after : ℕ) (written now : Option (List ℕ)) → duties ≡ crew_of planners seed (length start.log) → RunsTeam duties start place held (Ok e) behind written
      → marks ≡ e.marks.items → log ≡ e.machine.log → OnOk r (Adds written now (lines_of planners marks log)) → OnErr r (AppendsFront written now (lines_of planners marks log)) → IfErr r (WriteStops before after)
      → CrewRun planners seed start place held r behind now
  crew_ran duties e marks log r before after written now hired ran theirs whole adds front cause =
      let runs : RunsTeam (crew_of planners seed (length start.log)) start place held (Ok e) behind written = subst (λ (ds : List Duty). RunsTeam ds start place held (Ok e) behind written) hired ran in
      record {
        answer = Ok tt;
        written = written;
        run = runs.run;
        tail = subst (λ (lines : List ℕ). Tails (Ok tt) r written now lines)
            (ap (λ (ms : List Mark). lines_of planners ms log) (theirs ∙ runs.back.2) ∙ ap (λ (es : List Entry). lines_of planners (marks_of runs.run.history.signs.by) es) (whole ∙ runs.back.1))
            (tails r before after written now (lines_of planners marks log) adds front cause);
      }

  -- the team came to its end, and there was no memory for the entries of its log: no line was written
  pub crew_untold : (e : Ended) (r : Result (Unit {0}) Halt) (written : Option (List ℕ)) → IsErrAnd r (λ h. h ≡ halt.Memory) → 0 < planners → RunsTeam (crew_of planners seed (length start.log)) start place held (Ok e) behind written
      → CrewRun planners seed start place held r behind written
  crew_untold e (Ok u) written is some runs = absurd is
  crew_untold e (Err h) written is some runs =
      subst (λ (x : Halt). CrewRun planners seed start place held (Err x) behind written) (sym is)
      (record { answer = Ok tt; written = written; run = runs.run; tail = lines_none written planners (marks_of runs.run.history.signs.by) runs.run.log some })

  -- the team was halted
  pub crew_halts : (h : Halt) (now : Option (List ℕ)) → RunsTeam (crew_of planners seed (length start.log)) start place held (Err h) behind now → CrewRun planners seed start place held (Err h) behind now
  crew_halts h now runs = record { answer = Err h; written = now; run = runs.run; tail = (refl, refl) }
