-- What a model has from the grammar of its text: names that are names, no list that may not be empty, and expressions that are
-- not too deep.
use Rattle.std.specs.Prelude.{◌≡◌, ◌<◌, ◌≤◌, true, [], All, length}
use Rattle.pl_model.specs.declared.expressions.Expr.{Expr}
use Rattle.pl_model.specs.declared.parameters.Param.{Param}
use Rattle.pl_model.specs.declared.alternatives.Slot.{Slot}
use Rattle.pl_model.specs.declared.alternatives.Alternative.{Alternative}
use Rattle.pl_model.specs.declared.kinds.Kind.{Kind}
use Rattle.pl_model.specs.declared.timelines.Timeline.{Timeline}
use Rattle.pl_model.specs.declared.timelines.Timeline.TheVariants.{Capacity, Level, States}
use Rattle.pl_model.specs.declared.whole.Model.{Model}
use Rattle.pl_model.specs.Names.{IsName}
use Rattle.pl_model.specs.Expressions.{levels_of, exprs_of}

-- where any step is allowed, none is listed
abbrev pub IsWrittenLine : Timeline → Type 0
IsWrittenLine (Capacity name most) = IsName name
IsWrittenLine (Level name least most start) = IsName name
IsWrittenLine (States name states start any steps) = IsName name × All IsName states × (0 < length states) × (any ≡ true → steps ≡ [])

abbrev pub IsShallow : Expr → Type 0
IsShallow e = levels_of e ≤ 32

abbrev pub IsNamedParam : Param → Type 0
IsNamedParam p = IsName p.name

abbrev pub IsNamedSlot : Slot → Type 0
IsNamedSlot s = IsName s.name

pub record IsWrittenAlternative (a : Alternative) : Type 0 where
  pub some_slot : 0 < length a.slots
  pub slots : All IsNamedSlot a.slots

pub record IsWrittenKind (k : Kind) : Type 0 where
  pub name : IsName k.name
  pub params : All IsNamedParam k.params
  pub expressions : All IsShallow (exprs_of k)
  pub alternatives : All IsWrittenAlternative k.alternatives

pub record GrammarShape (model : Model) : Type 0 where
  pub timelines : All IsWrittenLine model.timelines
  pub kinds : All IsWrittenKind model.kinds

-- closed, so that a search does not look into it; proofs/Parts opens it
unfoldable pub IsWritten : Model → Type 0
IsWritten model = GrammarShape model
