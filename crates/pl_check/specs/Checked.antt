-- What the check of a tree answers: the model, where every check passes, or the first fault. The checks come in their order, and
-- within one check the first fault in the order of the text.
use Rattle.std.specs.Prelude.{◌≡◌, ℤ, pos, List, All, map, Ok, Err}
use Rattle.pl_syntax.specs.declared.whole.Ast.{Ast}
use Rattle.pl_model.specs.declared.whole.Model.{Model}
use Rattle.pl_check.specs.declared.fault.ModelFault.{ModelFault}
use Rattle.pl_check.specs.declared.fault.ModelFault.TheVariants as fault
use Rattle.pl_check.specs.declared.drafts.Draft.{Draft}
use Rattle.pl_check.specs.Judgements.{Judged, ◌>>=◌, ◌>>◌}
use Rattle.pl_check.specs.Names.{twice_in}
use Rattle.pl_check.specs.Counts.{counts_in}
use Rattle.pl_check.specs.Drafting.{lines_in, kinds_in}
use Rattle.pl_check.specs.Numbering.{numbered_items}
use Rattle.pl_check.specs.Ranges.{range_in}
use Rattle.pl_check.specs.Dependencies.{AreWellFounded, AreUncontained, IsFirstCircular, IsFirstRecursive}
use Rattle.pl_lists.specs.Lists.{Pairwise}
use Rattle.pl_check.specs.Networks.{FinishesKind, span_of}
use Rattle.pl_check.specs.Schedules.{IsScheduled, IsFirstUnscheduled}

-- the drafts, where their ranges pass
abbrev pub ranged : Ast → List Draft → Judged (List Draft)
ranged ast drafts = range_in ast.horizon ast.lead drafts >> Ok drafts

-- after the checks of names, counts and ranges: the tree with its names numbered, or the first fault
unfoldable pub drafted : Ast → Judged (List Draft)
drafted ast = twice_in ast >> (counts_in ast >> (numbered_items ast.items >>= ranged ast))

-- the least and the greatest duration of each kind
abbrev pub spans_in : ℤ → List Draft → List (ℤ × ℤ)
spans_in horizon drafts = map (span_of horizon) (kinds_in drafts)

-- the model, where the checks of names, counts and ranges gave these drafts and every other check passes
pub record IsModelOf (ast : Ast) (drafts : List Draft) (model : Model) : Type 0 where
  pub params : AreWellFounded (kinds_in drafts)
  pub contained : AreUncontained (kinds_in drafts)
  pub horizon : pos model.horizon ≡ ast.horizon
  pub lead : pos model.lead ≡ ast.lead
  pub timelines : model.timelines ≡ lines_in drafts
  pub kinds : Pairwise (FinishesKind ast.horizon (spans_in ast.horizon drafts)) (kinds_in drafts) model.kinds

-- the checks for parameters that depend on themselves, kinds that contain themselves, and alternatives without a schedule
abbrev pub AnswersDrafts : Ast → List Draft → Judged Model → Type 0
AnswersDrafts ast drafts (Ok model) = IsModelOf ast drafts model
AnswersDrafts ast drafts (Err (fault.Circular name param)) = IsFirstCircular (kinds_in drafts) name param
AnswersDrafts ast drafts (Err (fault.Recursive name)) = AreWellFounded (kinds_in drafts) × IsFirstRecursive (kinds_in drafts) name
AnswersDrafts ast drafts (Err (fault.NoSchedule name number cycle)) =
    AreWellFounded (kinds_in drafts) × AreUncontained (kinds_in drafts) × IsFirstUnscheduled ast.horizon (spans_in ast.horizon drafts) (kinds_in drafts) name number cycle
AnswersDrafts ast drafts (Err fault.Memory) = Unit {0}
AnswersDrafts ast drafts (Err _) = ⊥

-- this fault, unless memory runs out
abbrev pub IsFault : {X : Type 0} → ModelFault → Judged X → Type 0
IsFault e (Ok x) = ⊥
IsFault e (Err fault.Memory) = Unit {0}
IsFault e (Err f) = f ≡ e

abbrev pub AnswersJudged : Ast → Judged (List Draft) → Judged Model → Type 0
AnswersJudged ast (Ok drafts) result = AnswersDrafts ast drafts result
AnswersJudged ast (Err e) result = IsFault e result

-- Of a tree the check answers this, or want of memory.
abbrev pub Answers : Ast → Judged Model → Type 0
Answers ast result = AnswersJudged ast (drafted ast) result

-- every check passes
pub record PassesEachRow (ast : Ast) : Type 0 where
  pub drafts : List Draft
  pub rows : drafted ast ≡ Ok drafts
  pub params : AreWellFounded (kinds_in drafts)
  pub contained : AreUncontained (kinds_in drafts)
  pub schedules : All (IsScheduled ast.horizon (spans_in ast.horizon drafts)) (kinds_in drafts)

abbrev pub IsModelOrMemory : Judged Model → Type 0
IsModelOrMemory (Ok model) = Unit {0}
IsModelOrMemory (Err fault.Memory) = Unit {0}
IsModelOrMemory (Err _) = ⊥

-- a model that the check answers for some tree
pub record IsChecked (model : Model) : Type 0 where
  pub ast : Ast
  pub drafts : List Draft
  pub rows : drafted ast ≡ Ok drafts
  pub passes : IsModelOf ast drafts model
