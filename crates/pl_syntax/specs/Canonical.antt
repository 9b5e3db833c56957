-- The canonical text of a tree: its tokens, one after another, and how they are laid out.
use Rattle.std.specs.Prelude.{ℕ, suc, pos, negsuc, Bool, true, false, not, List, [], ◌∷◌, ◌++◌, flat_map, if◌then◌else◌}
use Rattle.std.specs.Fmt.{decimal}
use Rattle.pl_text.specs.declared.word.Word.{Word}
use Rattle.pl_text.specs.declared.word.Word.TheVariants as word
use Rattle.pl_text.specs.Words.{word_text}
use Rattle.pl_syntax.specs.declared.token.Token.{Token}
use Rattle.pl_syntax.specs.declared.token.Token.TheVariants as token
use Rattle.pl_syntax.specs.declared.symbol.Symbol.{Symbol}
use Rattle.pl_syntax.specs.declared.symbol.Symbol.TheVariants as symbol
use Rattle.pl_syntax.specs.Symbols.{symbol_byte}
use Rattle.pl_model.specs.declared.expressions.Op.{Op}
use Rattle.pl_model.specs.declared.expressions.Op.TheVariants as op
use Rattle.pl_model.specs.declared.reservations.Point.{Point}
use Rattle.pl_syntax.specs.declared.expressions.AstExpr.{AstExpr, fold-AstExpr}
use Rattle.pl_syntax.specs.declared.expressions.AstExpr.TheOpen.{AstExpr-F}
use Rattle.pl_syntax.specs.declared.timelines.AstTimeline.{AstTimeline}
use Rattle.pl_syntax.specs.declared.timelines.AstTimeline.TheVariants as timelines
use Rattle.pl_syntax.specs.declared.parameters.AstOrigin.{AstOrigin}
use Rattle.pl_syntax.specs.declared.parameters.AstOrigin.TheVariants as origin
use Rattle.pl_syntax.specs.declared.parameters.AstParam.{AstParam}
use Rattle.pl_syntax.specs.declared.reservations.AstReservation.{AstReservation}
use Rattle.pl_syntax.specs.declared.reservations.AstReservation.TheVariants as reservation
use Rattle.pl_syntax.specs.declared.links.AstLink.{AstLink}
use Rattle.pl_syntax.specs.declared.alternatives.AstSlot.{AstSlot}
use Rattle.pl_syntax.specs.declared.alternatives.AstOrder.{AstOrder}
use Rattle.pl_syntax.specs.declared.alternatives.AstAlternative.{AstAlternative}
use Rattle.pl_syntax.specs.declared.kinds.AstKind.{AstKind}
use Rattle.pl_syntax.specs.declared.whole.Item.{Item}
use Rattle.pl_syntax.specs.declared.whole.Item.TheVariants as item
use Rattle.pl_syntax.specs.declared.whole.Ast.{Ast}
use Rattle.pl_syntax.specs.Forms.{Name, point_token, place_token}

-- ---- the tokens. A negative number is one of them, written as `- 5`.

abbrev pub between : Op → Symbol
between op.Add = symbol.Plus
between op.Sub = symbol.Minus
between op.Mul = symbol.Times
between op.Min = symbol.Comma
between op.Max = symbol.Comma

abbrev pub front : Op → List Token
front op.Min = token.Word word.Min ∷ token.Symbol symbol.Open ∷ []
front op.Max = token.Word word.Max ∷ token.Symbol symbol.Open ∷ []
front _ = token.Symbol symbol.Open ∷ []

abbrev pub node_tokens : Op → List Token → List Token → List Token
node_tokens o a b = front o ++ (a ++ token.Symbol (between o) ∷ (b ++ token.Symbol symbol.Close ∷ []))

abbrev pub expr_tokens_at : AstExpr-F (List Token) → List Token
expr_tokens_at (AstExpr-F.Num n) = token.Number n ∷ []
expr_tokens_at (AstExpr-F.Name n) = token.Name n ∷ []
expr_tokens_at (AstExpr-F.Apply o a b) = node_tokens o a b

-- each sum, difference and product in brackets
abbrev pub expr_tokens : AstExpr → List Token
expr_tokens t = fold-AstExpr (List Token) expr_tokens_at t

abbrev pub name_tokens : Name → List Token
name_tokens n = token.Name n ∷ []

abbrev pub step_tokens : Name × Name → List Token
step_tokens s = token.Word word.Step ∷ token.Name s.0 ∷ token.Name s.1 ∷ []

abbrev pub steps_tokens : Bool → List (Name × Name) → List Token
steps_tokens true ss = token.Word word.Any ∷ []
steps_tokens false ss = flat_map step_tokens ss

abbrev pub timeline_tokens : AstTimeline → List Token
timeline_tokens (timelines.Capacity n most) = token.Word word.Capacity ∷ token.Name n ∷ token.Number most ∷ []
timeline_tokens (timelines.Level n least most start) = token.Word word.Level ∷ token.Name n ∷ token.Number least ∷ token.Number most ∷ token.Number start ∷ []
timeline_tokens (timelines.States n ss start any steps) =
    token.Word word.State ∷ token.Name n ∷ token.Symbol symbol.OpenBrace ∷ (flat_map name_tokens ss ++ token.Symbol symbol.CloseBrace ∷ token.Word word.Start ∷ token.Name start ∷ steps_tokens any steps)

abbrev pub origin_tokens : AstOrigin → List Token
origin_tokens origin.Plain = []
origin_tokens (origin.Default n) = token.Word word.Default ∷ token.Number n ∷ []
origin_tokens (origin.Equals e) = token.Symbol symbol.Equals ∷ expr_tokens e

abbrev pub param_tokens : AstParam → List Token
param_tokens p = token.Word word.Param ∷ token.Name p.name ∷ token.Number p.low ∷ token.Number p.high ∷ origin_tokens p.origin

abbrev pub when_tokens : Point → List Token
when_tokens p = token.Word word.At ∷ point_token p ∷ []

abbrev pub reservation_tokens : AstReservation → List Token
reservation_tokens (reservation.Take n e) = token.Word word.Use ∷ token.Name n ∷ expr_tokens e
reservation_tokens (reservation.Raise n e p) = token.Word word.Raise ∷ token.Name n ∷ (expr_tokens e ++ when_tokens p)
reservation_tokens (reservation.Lower n e p) = token.Word word.Lower ∷ token.Name n ∷ (expr_tokens e ++ when_tokens p)
reservation_tokens (reservation.Put n s p) = token.Word word.Set ∷ token.Name n ∷ token.Name s ∷ when_tokens p
reservation_tokens (reservation.Must n s) = token.Word word.Must ∷ token.Name n ∷ token.Name s ∷ []

abbrev pub link_tokens : AstLink → List Token
link_tokens l = token.Word word.Link ∷ point_token l.mine ∷ token.Name l.kind ∷ point_token l.theirs ∷ token.Number l.low ∷ token.Number l.high ∷ []

abbrev pub binding_tokens : Name × AstExpr → List Token
binding_tokens b = token.Name b.0 ∷ token.Symbol symbol.Equals ∷ expr_tokens b.1

abbrev pub further_tokens : Name × AstExpr → List Token
further_tokens b = token.Symbol symbol.Comma ∷ binding_tokens b

abbrev pub bindings_tokens : List (Name × AstExpr) → List Token
bindings_tokens [] = []
bindings_tokens (b ∷ bs) = token.Symbol symbol.Open ∷ (binding_tokens b ++ (flat_map further_tokens bs ++ token.Symbol symbol.Close ∷ []))

abbrev pub slot_tokens : AstSlot → List Token
slot_tokens s = token.Word word.Slot ∷ token.Name s.name ∷ token.Name s.kind ∷ bindings_tokens s.bindings

abbrev pub order_tokens : AstOrder → List Token
order_tokens o = token.Word word.Order ∷ place_token o.first ∷ point_token o.first_end ∷ place_token o.second ∷ point_token o.second_end ∷ token.Number o.low ∷ token.Number o.high ∷ []

abbrev pub alternative_tokens : AstAlternative → List Token
alternative_tokens a = token.Word word.Alternative ∷ token.Symbol symbol.OpenBrace ∷ (flat_map slot_tokens a.slots ++ (flat_map order_tokens a.orders ++ token.Symbol symbol.CloseBrace ∷ []))

abbrev pub kind_tokens : AstKind → List Token
kind_tokens k =
    token.Word word.Kind ∷ token.Name k.name ∷ token.Symbol symbol.OpenBrace ∷ (flat_map param_tokens k.params ++ token.Word word.Duration ∷ (expr_tokens k.duration ++ (flat_map reservation_tokens k.reservations ++ (flat_map link_tokens k.links ++ (flat_map alternative_tokens k.alternatives ++ token.Symbol symbol.CloseBrace ∷ [])))))

abbrev pub item_tokens : Item → List Token
item_tokens (item.Timeline t) = timeline_tokens t
item_tokens (item.Kind k) = kind_tokens k

unfoldable pub model_tokens : Ast → List Token
model_tokens m = token.Word word.Horizon ∷ token.Number m.horizon ∷ token.Word word.Lead ∷ token.Number m.lead ∷ flat_map item_tokens m.items

-- ---- the layout

abbrev pub token_text : Token → List ℕ
token_text (token.Word w) = word_text w
token_text (token.Name n) = n
token_text (token.Number (pos n)) = decimal n
token_text (token.Number (negsuc n)) = 45 ∷ 32 ∷ decimal (suc n)
token_text (token.Symbol s) = symbol_byte s ∷ []

-- the words with which a line begins
abbrev pub begins_line : Word → Bool
begins_line word.Lead = true
begins_line word.Capacity = true
begins_line word.Level = true
begins_line word.State = true
begins_line word.Kind = true
begins_line word.Param = true
begins_line word.Duration = true
begins_line word.Use = true
begins_line word.Raise = true
begins_line word.Lower = true
begins_line word.Set = true
begins_line word.Must = true
begins_line word.Link = true
begins_line word.Alternative = true
begins_line word.Slot = true
begins_line word.Order = true
begins_line _ = false

-- whether a new line stands before the token. The brace that closes the states of a timeline stands in their line.
abbrev pub breaks : Bool → Token → Bool
breaks in_states (token.Word w) = begins_line w
breaks in_states (token.Symbol symbol.CloseBrace) = not in_states
breaks in_states _ = false

-- whether the states of a timeline are open behind the token
abbrev pub in_states_behind : Bool → Token → Bool
in_states_behind in_states (token.Word word.State) = true
in_states_behind in_states (token.Symbol symbol.CloseBrace) = false
in_states_behind in_states _ = in_states

-- one space or one newline before each token, and a newline at the end
abbrev pub laid : Bool → List Token → List ℕ
laid in_states [] = 10 ∷ []
laid in_states (t ∷ ts) = (if breaks in_states t then 10 else 32) ∷ (token_text t ++ laid (in_states_behind in_states t) ts)

abbrev pub text_of : List Token → List ℕ
text_of [] = 10 ∷ []
text_of (t ∷ ts) = token_text t ++ laid (in_states_behind false t) ts

abbrev pub canonical_text : Ast → List ℕ
canonical_text ast = text_of (model_tokens ast)
