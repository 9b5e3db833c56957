-- Where every row passes the check answers a model, or runs out of memory.
use Rattle.std.proofs.Common.{ℕ, ℤ, List, All, Ok, Err, subst}
use Rattle.pl_lists.proofs.Elements.{all_at}
use Rattle.pl_syntax.specs.declared.whole.Ast.{Ast}
use Rattle.pl_model.specs.declared.whole.Model.{Model}
use Rattle.pl_check.specs.declared.fault.ModelFault.TheVariants as fault
use Rattle.pl_check.specs.declared.drafts.DraftKind.{DraftKind}
use Rattle.pl_check.specs.declared.drafts.Draft.{Draft}
use Rattle.pl_check.specs.Judgements.{Judged}
use Rattle.pl_check.specs.Drafting.{kinds_in}
use Rattle.pl_check.specs.Dependencies.{AreWellFounded, AreUncontained, IsWellFounded, IsFirstCircular, IsFirstRecursive}
use Rattle.pl_check.specs.Networks.{span_of}
use Rattle.pl_check.specs.Schedules.{HasSchedule, IsScheduled, IsFirstUnscheduled}
use Rattle.pl_check.specs.Checked.{spans_in, AnswersDrafts, AnswersJudged, Answers, PassesEachRow, IsModelOrMemory}

pub not_circular : (kinds : List DraftKind) (name param : List ℕ) → AreWellFounded kinds → IsFirstCircular kinds name param → ⊥
not_circular kinds name param w f =
    let kind = all_at IsWellFounded kinds f.place f.kind w f.found in
    kind.acyclic.each f.first.number f.first.first.vertex f.first.first.cyclic

pub not_recursive : (kinds : List DraftKind) (name : List ℕ) → AreUncontained kinds → IsFirstRecursive kinds name → ⊥
not_recursive kinds name u f = u.each f.place f.first.vertex f.first.cyclic

not_unscheduled : (horizon : ℤ) (spans : List (ℤ × ℤ)) (kinds : List DraftKind) (name : List ℕ) (number : ℕ) (cycle : List ℕ) → All (IsScheduled horizon spans) kinds → IsFirstUnscheduled horizon spans kinds name number cycle → ⊥
not_unscheduled horizon spans kinds name number cycle s f =
    let kind = all_at (IsScheduled horizon spans) kinds f.place f.kind s f.found in
    let scheduled = all_at (HasSchedule spans (span_of horizon f.kind)) f.kind.alternatives number f.first.alternative kind f.first.found in
    f.first.conflict.1 scheduled.0 scheduled.1

accepted_drafts : (ast : Ast) (drafts : List Draft) → AreWellFounded (kinds_in drafts) → AreUncontained (kinds_in drafts) → All (IsScheduled ast.horizon (spans_in ast.horizon drafts)) (kinds_in drafts) → (result : Judged Model) → AnswersDrafts ast drafts result → IsModelOrMemory result
accepted_drafts ast drafts w u s (Ok model) h = tt
accepted_drafts ast drafts w u s (Err fault.Memory) h = tt
accepted_drafts ast drafts w u s (Err (fault.Circular n p)) h = absurd (not_circular (kinds_in drafts) n p w h)
accepted_drafts ast drafts w u s (Err (fault.Recursive n)) h = absurd (not_recursive (kinds_in drafts) n u h.1)
accepted_drafts ast drafts w u s (Err (fault.NoSchedule n a c)) h = absurd (not_unscheduled ast.horizon (spans_in ast.horizon drafts) (kinds_in drafts) n a c s h.2)
accepted_drafts ast drafts w u s (Err (fault.Twice n)) h = absurd h
accepted_drafts ast drafts w u s (Err (fault.TooMany k)) h = absurd h
accepted_drafts ast drafts w u s (Err (fault.Unknown n)) h = absurd h
accepted_drafts ast drafts w u s (Err (fault.Range k)) h = absurd h

pub accepted : (ast : Ast) (result : Judged Model) → Answers ast result → PassesEachRow ast → IsModelOrMemory result
accepted ast result h p = accepted_drafts ast p.drafts p.params p.contained p.schedules result (subst (λ x. AnswersJudged ast x result) p.rows h)
