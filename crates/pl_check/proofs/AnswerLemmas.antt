-- The fault of a row is the answer of the check.
use Rattle.std.proofs.Common.{◌≡◌, List, Ok, Err, refl, sym, subst}
use Rattle.pl_syntax.specs.declared.whole.Ast.{Ast}
use Rattle.pl_model.specs.declared.whole.Model.{Model}
use Rattle.pl_check.specs.declared.fault.ModelFault.{ModelFault}
use Rattle.pl_check.specs.declared.fault.ModelFault.TheVariants as fault
use Rattle.pl_check.specs.declared.drafts.Draft.{Draft}
use Rattle.pl_check.specs.Judgements.{Judged, Fails}
use Rattle.pl_check.specs.Drafting.{kinds_in}
use Rattle.pl_check.specs.Dependencies.{AreWellFounded, AreUncontained, IsCircularFault, IsRecursiveFault}
use Rattle.pl_check.specs.Schedules.{IsUnscheduledFault}
use Rattle.pl_check.specs.Checked.{drafted, spans_in, AnswersDrafts, AnswersJudged, Answers, IsFault}

at_fault : (ast : Ast) (judged : Judged (List Draft)) (e : ModelFault) → judged ≡ Err e → IsFault {X = Model} e (Err e) → AnswersJudged ast judged (Err e)
at_fault ast judged e h p = subst (λ x. AnswersJudged ast x (Err e)) (sym h) p

at_memory : (ast : Ast) (judged : Judged (List Draft)) → AnswersJudged ast judged (Err fault.Memory)
at_memory ast (Ok drafts) = tt
at_memory ast (Err e) = tt

fails_answers : (ast : Ast) (judged : Judged (List Draft)) (e : ModelFault) → Fails e judged → AnswersJudged ast judged (Err e)
fails_answers ast judged (fault.Twice n) h = at_fault ast judged (fault.Twice n) h refl
fails_answers ast judged (fault.TooMany w) h = at_fault ast judged (fault.TooMany w) h refl
fails_answers ast judged (fault.Unknown n) h = at_fault ast judged (fault.Unknown n) h refl
fails_answers ast judged (fault.Range w) h = at_fault ast judged (fault.Range w) h refl
fails_answers ast judged (fault.Circular n p) h = at_fault ast judged (fault.Circular n p) h refl
fails_answers ast judged (fault.Recursive n) h = at_fault ast judged (fault.Recursive n) h refl
fails_answers ast judged (fault.NoSchedule n a c) h = at_fault ast judged (fault.NoSchedule n a c) h refl
fails_answers ast judged fault.Memory h = at_memory ast judged

-- a fault of the rows of names, counts and ranges
pub judged_answers : (ast : Ast) (e : ModelFault) → Fails e (drafted ast) → Answers ast (Err e)
judged_answers ast e h = fails_answers ast (drafted ast) e h

-- where these rows pass, what the others answer
pub drafts_answer : (ast : Ast) (drafts : List Draft) (result : Judged Model) → drafted ast ≡ Ok drafts → AnswersDrafts ast drafts result → Answers ast result
drafts_answer ast drafts result h p = subst (λ x. AnswersJudged ast x result) (sym h) p

pub circular_answers : (ast : Ast) (drafts : List Draft) (e : ModelFault) → IsCircularFault (kinds_in drafts) e → AnswersDrafts ast drafts (Err e)
circular_answers ast drafts (fault.Circular n p) h = h
circular_answers ast drafts fault.Memory h = tt
circular_answers ast drafts (fault.Twice n) h = absurd h
circular_answers ast drafts (fault.TooMany w) h = absurd h
circular_answers ast drafts (fault.Unknown n) h = absurd h
circular_answers ast drafts (fault.Range w) h = absurd h
circular_answers ast drafts (fault.Recursive n) h = absurd h
circular_answers ast drafts (fault.NoSchedule n a c) h = absurd h

pub recursive_answers : (ast : Ast) (drafts : List Draft) (e : ModelFault) → AreWellFounded (kinds_in drafts) → IsRecursiveFault (kinds_in drafts) e → AnswersDrafts ast drafts (Err e)
recursive_answers ast drafts (fault.Recursive n) w h = (w, h)
recursive_answers ast drafts fault.Memory w h = tt
recursive_answers ast drafts (fault.Twice n) w h = absurd h
recursive_answers ast drafts (fault.TooMany k) w h = absurd h
recursive_answers ast drafts (fault.Unknown n) w h = absurd h
recursive_answers ast drafts (fault.Range k) w h = absurd h
recursive_answers ast drafts (fault.Circular n p) w h = absurd h
recursive_answers ast drafts (fault.NoSchedule n a c) w h = absurd h

pub unscheduled_answers : (ast : Ast) (drafts : List Draft) (e : ModelFault) → AreWellFounded (kinds_in drafts) → AreUncontained (kinds_in drafts) → IsUnscheduledFault ast.horizon (spans_in ast.horizon drafts) (kinds_in drafts) e → AnswersDrafts ast drafts (Err e)
unscheduled_answers ast drafts (fault.NoSchedule n a c) w u h = (w, u, h)
unscheduled_answers ast drafts fault.Memory w u h = tt
unscheduled_answers ast drafts (fault.Twice n) w u h = absurd h
unscheduled_answers ast drafts (fault.TooMany k) w u h = absurd h
unscheduled_answers ast drafts (fault.Unknown n) w u h = absurd h
unscheduled_answers ast drafts (fault.Range k) w u h = absurd h
unscheduled_answers ast drafts (fault.Circular n p) w u h = absurd h
unscheduled_answers ast drafts (fault.Recursive n) w u h = absurd h
