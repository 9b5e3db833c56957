-- The grammar of a model text. A form is a text of the grammar by its parts; `spell form rest` is its tokens with `rest` behind them.
use Rattle.std.specs.Prelude.{ℕ, pos, List, ◌∷◌, Option, Some, None}
use Rattle.pl_syntax.specs.declared.token.Token.{Token}
use Rattle.pl_syntax.specs.declared.token.Token.TheVariants as token
use Rattle.pl_text.specs.declared.word.Word.TheVariants as word
use Rattle.pl_syntax.specs.declared.symbol.Symbol.TheVariants as symbol
use Rattle.pl_model.specs.declared.reservations.Point.{Point}
use Rattle.pl_model.specs.declared.reservations.Point.TheVariants as point
use Rattle.pl_syntax.specs.Spelling.{spell_many}
use Rattle.pl_syntax.specs.Expressions.{Expr, spell_expr}

abbrev pub Name : Type 0
Name = List ℕ

-- ---- signed = [ "-" ] number

pub data SignedForm : Type 0 where
  bare negative : ℕ → SignedForm

abbrev pub spell_signed : SignedForm → List Token → List Token
spell_signed (bare n) rest = token.Number (pos n) ∷ rest
spell_signed (negative n) rest = token.Symbol symbol.Minus ∷ token.Number (pos n) ∷ rest

-- ---- point = "start" | "end", place = name | "parent"

abbrev pub point_token : Point → Token
point_token point.Start = token.Word word.Start
point_token point.End = token.Word word.End

abbrev pub place_token : Option Name → Token
place_token (Some n) = token.Name n
place_token None = token.Word word.Parent

-- ---- timeline = "capacity" name number | "level" name number number number | "state" name "{" name { name } "}" "start" name ( "any" | { "step" name name } )

pub record StepForm : Type 0 where
  pub from : Name
  pub to : Name

pub data StepsForm : Type 0 where
  any_step : StepsForm
  only : List StepForm → StepsForm

pub record StatesForm : Type 0 where
  pub name : Name
  pub first : Name
  pub others : List Name
  pub start : Name
  pub steps : StepsForm

pub data TimelineForm : Type 0 where
  capacity : Name → ℕ → TimelineForm
  level : Name → ℕ → ℕ → ℕ → TimelineForm
  states : StatesForm → TimelineForm

abbrev pub spell_name : Name → List Token → List Token
spell_name n rest = token.Name n ∷ rest

abbrev pub spell_step : StepForm → List Token → List Token
spell_step s rest = token.Word word.Step ∷ token.Name s.from ∷ token.Name s.to ∷ rest

abbrev pub spell_steps : StepsForm → List Token → List Token
spell_steps any_step rest = token.Word word.Any ∷ rest
spell_steps (only ss) rest = spell_many spell_step ss rest

abbrev pub spell_states : StatesForm → List Token → List Token
spell_states s rest = token.Word word.State ∷ token.Name s.name ∷ token.Symbol symbol.OpenBrace ∷ token.Name s.first ∷ spell_many spell_name s.others (token.Symbol symbol.CloseBrace ∷ token.Word word.Start ∷ token.Name s.start ∷ spell_steps s.steps rest)

abbrev pub spell_timeline : TimelineForm → List Token → List Token
spell_timeline (capacity n most) rest = token.Word word.Capacity ∷ token.Name n ∷ token.Number (pos most) ∷ rest
spell_timeline (level n least most start) rest = token.Word word.Level ∷ token.Name n ∷ token.Number (pos least) ∷ token.Number (pos most) ∷ token.Number (pos start) ∷ rest
spell_timeline (states s) rest = spell_states s rest

-- ---- param = "param" name number number [ "default" number | "=" expr ]

pub data OriginForm : Type 0 where
  plain : OriginForm
  default : ℕ → OriginForm
  equals : Expr → OriginForm

pub record ParamForm : Type 0 where
  pub name : Name
  pub low : ℕ
  pub high : ℕ
  pub origin : OriginForm

abbrev pub spell_origin : OriginForm → List Token → List Token
spell_origin plain rest = rest
spell_origin (default n) rest = token.Word word.Default ∷ token.Number (pos n) ∷ rest
spell_origin (equals e) rest = token.Symbol symbol.Equals ∷ spell_expr e rest

abbrev pub spell_param : ParamForm → List Token → List Token
spell_param p rest = token.Word word.Param ∷ token.Name p.name ∷ token.Number (pos p.low) ∷ token.Number (pos p.high) ∷ spell_origin p.origin rest

-- ---- reservation = "use" name expr | ( "raise" | "lower" ) name expr "at" point | "set" name name "at" point | "must" name name

pub data ReservationForm : Type 0 where
  take : Name → Expr → ReservationForm
  raise lower : Name → Expr → Point → ReservationForm
  put : Name → Name → Point → ReservationForm
  must : Name → Name → ReservationForm

abbrev pub spell_reservation : ReservationForm → List Token → List Token
spell_reservation (take n e) rest = token.Word word.Use ∷ token.Name n ∷ spell_expr e rest
spell_reservation (raise n e p) rest = token.Word word.Raise ∷ token.Name n ∷ spell_expr e (token.Word word.At ∷ point_token p ∷ rest)
spell_reservation (lower n e p) rest = token.Word word.Lower ∷ token.Name n ∷ spell_expr e (token.Word word.At ∷ point_token p ∷ rest)
spell_reservation (put n s p) rest = token.Word word.Set ∷ token.Name n ∷ token.Name s ∷ token.Word word.At ∷ point_token p ∷ rest
spell_reservation (must n s) rest = token.Word word.Must ∷ token.Name n ∷ token.Name s ∷ rest

-- ---- link = "link" point name point signed signed

pub record LinkForm : Type 0 where
  pub mine : Point
  pub kind : Name
  pub theirs : Point
  pub low : SignedForm
  pub high : SignedForm

abbrev pub spell_link : LinkForm → List Token → List Token
spell_link l rest = token.Word word.Link ∷ point_token l.mine ∷ token.Name l.kind ∷ point_token l.theirs ∷ spell_signed l.low (spell_signed l.high rest)

-- ---- alternative = "alternative" "{" slot { slot } { order } "}"
-- ---- slot = "slot" name name [ "(" binding { "," binding } ")" ], binding = name "=" expr
-- ---- order = "order" place point place point signed signed

pub record BindingForm : Type 0 where
  pub name : Name
  pub value : Expr

pub data BindingsForm : Type 0 where
  no_binding : BindingsForm
  bindings : BindingForm → List BindingForm → BindingsForm

pub record SlotForm : Type 0 where
  pub name : Name
  pub kind : Name
  pub given : BindingsForm

pub record OrderForm : Type 0 where
  pub first : Option Name
  pub first_end : Point
  pub second : Option Name
  pub second_end : Point
  pub low : SignedForm
  pub high : SignedForm

pub record AlternativeForm : Type 0 where
  pub first : SlotForm
  pub others : List SlotForm
  pub orders : List OrderForm

abbrev pub spell_binding : BindingForm → List Token → List Token
spell_binding b rest = token.Name b.name ∷ token.Symbol symbol.Equals ∷ spell_expr b.value rest

abbrev pub spell_further : BindingForm → List Token → List Token
spell_further b rest = token.Symbol symbol.Comma ∷ spell_binding b rest

abbrev pub spell_bindings : BindingsForm → List Token → List Token
spell_bindings no_binding rest = rest
spell_bindings (bindings b bs) rest = token.Symbol symbol.Open ∷ spell_binding b (spell_many spell_further bs (token.Symbol symbol.Close ∷ rest))

abbrev pub spell_slot : SlotForm → List Token → List Token
spell_slot s rest = token.Word word.Slot ∷ token.Name s.name ∷ token.Name s.kind ∷ spell_bindings s.given rest

abbrev pub spell_order : OrderForm → List Token → List Token
spell_order o rest = token.Word word.Order ∷ place_token o.first ∷ point_token o.first_end ∷ place_token o.second ∷ point_token o.second_end ∷ spell_signed o.low (spell_signed o.high rest)

abbrev pub spell_alternative : AlternativeForm → List Token → List Token
spell_alternative a rest = token.Word word.Alternative ∷ token.Symbol symbol.OpenBrace ∷ spell_slot a.first (spell_many spell_slot a.others (spell_many spell_order a.orders (token.Symbol symbol.CloseBrace ∷ rest)))

-- ---- kind = "kind" name "{" { param } "duration" expr { reservation } { link } { alternative } "}"

pub record KindForm : Type 0 where
  pub name : Name
  pub params : List ParamForm
  pub duration : Expr
  pub reservations : List ReservationForm
  pub links : List LinkForm
  pub alternatives : List AlternativeForm

abbrev pub spell_kind : KindForm → List Token → List Token
spell_kind k rest = token.Word word.Kind ∷ token.Name k.name ∷ token.Symbol symbol.OpenBrace ∷ spell_many spell_param k.params (token.Word word.Duration ∷ spell_expr k.duration (spell_many spell_reservation k.reservations (spell_many spell_link k.links (spell_many spell_alternative k.alternatives (token.Symbol symbol.CloseBrace ∷ rest)))))

-- ---- model = "horizon" number "lead" number { timeline | kind }

pub data ItemForm : Type 0 where
  timeline : TimelineForm → ItemForm
  kind : KindForm → ItemForm

pub record ModelForm : Type 0 where
  pub horizon : ℕ
  pub lead : ℕ
  pub items : List ItemForm

abbrev pub spell_item : ItemForm → List Token → List Token
spell_item (timeline t) rest = spell_timeline t rest
spell_item (kind k) rest = spell_kind k rest

abbrev pub spell_model : ModelForm → List Token → List Token
spell_model m rest = token.Word word.Horizon ∷ token.Number (pos m.horizon) ∷ token.Word word.Lead ∷ token.Number (pos m.lead) ∷ spell_many spell_item m.items rest
