-- Reading a model from left to right, part by part. `deep` and `levels` are the limits of expressions.
use Rattle.std.specs.Prelude.{ℕ, pos, neg_ℤ, ℤ, Bool, true, false, List, [], ◌∷◌, length, Option, Some, None, Result}
use Rattle.pl_syntax.specs.declared.token.Token.{Token}
use Rattle.pl_syntax.specs.declared.token.Token.TheVariants as token
use Rattle.pl_text.specs.declared.word.Word.TheVariants as word
use Rattle.pl_syntax.specs.declared.symbol.Symbol.TheVariants as symbol
use Rattle.pl_model.specs.declared.reservations.Point.{Point}
use Rattle.pl_model.specs.declared.reservations.Point.TheVariants as point
use Rattle.pl_syntax.specs.declared.timelines.AstTimeline.{AstTimeline}
use Rattle.pl_syntax.specs.declared.timelines.AstTimeline.TheVariants as timelines
use Rattle.pl_syntax.specs.declared.expressions.AstExpr.{AstExpr}
use Rattle.pl_syntax.specs.declared.parameters.AstOrigin.{AstOrigin}
use Rattle.pl_syntax.specs.declared.parameters.AstOrigin.TheVariants as origin
use Rattle.pl_syntax.specs.declared.parameters.AstParam.{AstParam}
use Rattle.pl_syntax.specs.declared.reservations.AstReservation.{AstReservation}
use Rattle.pl_syntax.specs.declared.reservations.AstReservation.TheVariants as reservation
use Rattle.pl_syntax.specs.declared.links.AstLink.{AstLink}
use Rattle.pl_syntax.specs.declared.alternatives.AstSlot.{AstSlot}
use Rattle.pl_syntax.specs.declared.alternatives.AstOrder.{AstOrder}
use Rattle.pl_syntax.specs.declared.alternatives.AstAlternative.{AstAlternative}
use Rattle.pl_syntax.specs.declared.kinds.AstKind.{AstKind}
use Rattle.pl_syntax.specs.declared.whole.Item.{Item}
use Rattle.pl_syntax.specs.declared.whole.Item.TheVariants as item
use Rattle.pl_syntax.specs.declared.whole.Ast.{Ast}
use Rattle.pl_syntax.specs.Faults.{Stop}
use Rattle.pl_syntax.specs.Tokens.{is_word, is_symbol}
use Rattle.pl_syntax.specs.Parsing.{Parser, follow, both, made, after, before, expect, many_by, either, option, class_at, name_of, number_of, ended}
use Rattle.pl_syntax.specs.Expressions.{Measured}
use Rattle.pl_syntax.specs.ReadingExpressions.{expr_at}
use Rattle.pl_syntax.specs.Forms.{Name}

abbrev pub name_at : Parser Name
name_at = class_at name_of

abbrev pub natural : ℕ → ℤ
natural n = pos n

abbrev pub number_at : Parser ℤ
number_at = made natural (class_at number_of)

-- ---- signed, point, place

abbrev pub negated : ℕ → ℤ
negated n = neg_ℤ (pos n)

unfoldable pub signed_at : Parser ℤ
signed_at = either (is_symbol symbol.Minus) (after (expect (token.Symbol symbol.Minus)) (made negated (class_at number_of))) number_at

abbrev pub point_of : Token → Option Point
point_of (token.Word word.Start) = Some point.Start
point_of (token.Word word.End) = Some point.End
point_of t = None

abbrev pub point_at : Parser Point
point_at = class_at point_of

abbrev pub place_of : Token → Option (Option Name)
place_of (token.Name n) = Some (Some n)
place_of (token.Word word.Parent) = Some None
place_of t = None

abbrev pub place_at : Parser (Option Name)
place_at = class_at place_of

-- { x }, and one x and { x }
abbrev pub many_at : {A : Type 0} → (Token → Bool) → Parser A → Parser (List A)
many_at these item = λ ts. many_by these item (length ts) [] ts

abbrev pub list_of : {A : Type 0} → A → List A → List A
list_of x xs = x ∷ xs

-- ---- timelines

abbrev pub pair : {A B : Type 0} → A → B → A × B
pair a b = (a, b)

unfoldable pub step_at : Parser (Name × Name)
step_at = after (expect (token.Word word.Step)) (both pair name_at name_at)

abbrev pub any_steps : Unit {0} → Bool × List (Name × Name)
any_steps u = (true, [])

abbrev pub only_steps : List (Name × Name) → Bool × List (Name × Name)
only_steps ss = (false, ss)

unfoldable pub steps_list_at : Parser (List (Name × Name))
steps_list_at = many_at (is_word word.Step) step_at

unfoldable pub steps_at : Parser (Bool × List (Name × Name))
steps_at = either (is_word word.Any) (made any_steps (expect (token.Word word.Any))) (made only_steps steps_list_at)

abbrev pub is_name_token : Token → Bool
is_name_token (token.Name n) = true
is_name_token t = false

unfoldable pub names_at : Parser (List Name)
names_at = both list_of name_at (many_at is_name_token name_at)

abbrev pub capacity_of : Name → ℤ → AstTimeline
capacity_of n most = timelines.Capacity n most

unfoldable pub capacity_at : Parser AstTimeline
capacity_at = after (expect (token.Word word.Capacity)) (both capacity_of name_at number_at)

abbrev pub level_of : Name → ℤ × (ℤ × ℤ) → AstTimeline
level_of n p = timelines.Level n p.0 p.1.0 p.1.1

unfoldable pub level_at : Parser AstTimeline
level_at = after (expect (token.Word word.Level)) (both level_of name_at (both pair number_at (both pair number_at number_at)))

abbrev pub states_of : Name → List Name × (Name × (Bool × List (Name × Name))) → AstTimeline
states_of n p = timelines.States n p.0 p.1.0 p.1.1.0 p.1.1.1

unfoldable pub states_at : Parser AstTimeline
states_at = after (expect (token.Word word.State)) (both states_of name_at (after (expect (token.Symbol symbol.OpenBrace)) (both pair names_at (after (expect (token.Symbol symbol.CloseBrace)) (after (expect (token.Word word.Start)) (both pair name_at steps_at))))))

unfoldable pub timeline_at : Parser AstTimeline
timeline_at = either (is_word word.Capacity) capacity_at (either (is_word word.Level) level_at states_at)

-- ---- parameters

abbrev pub is_origin : Token → Bool
is_origin (token.Word word.Default) = true
is_origin (token.Symbol symbol.Equals) = true
is_origin t = false

abbrev pub defaulted : ℤ → AstOrigin
defaulted n = origin.Default n

abbrev pub valued : Measured → AstOrigin
valued v = origin.Equals v.0

abbrev pub origin_or_plain : Option AstOrigin → AstOrigin
origin_or_plain None = origin.Plain
origin_or_plain (Some o) = o

unfoldable pub origin_at : ℕ → ℕ → Parser AstOrigin
origin_at deep levels = made origin_or_plain (option is_origin (either (is_word word.Default) (after (expect (token.Word word.Default)) (made defaulted number_at)) (after (expect (token.Symbol symbol.Equals)) (made valued (expr_at deep levels)))))

abbrev pub param_of : Name → ℤ × (ℤ × AstOrigin) → AstParam
param_of n p = record { name = n; low = p.0; high = p.1.0; origin = p.1.1 }

unfoldable pub param_at : ℕ → ℕ → Parser AstParam
param_at deep levels = after (expect (token.Word word.Param)) (both param_of name_at (both pair number_at (both pair number_at (origin_at deep levels))))

unfoldable pub params_at : ℕ → ℕ → Parser (List AstParam)
params_at deep levels = many_at (is_word word.Param) (param_at deep levels)

-- ---- reservations

abbrev pub take_of : Name → Measured → AstReservation
take_of n v = reservation.Take n v.0

abbrev pub raise_of : Name → Measured × Point → AstReservation
raise_of n p = reservation.Raise n p.0.0 p.1

abbrev pub lower_of : Name → Measured × Point → AstReservation
lower_of n p = reservation.Lower n p.0.0 p.1

abbrev pub put_of : Name → Name × Point → AstReservation
put_of n p = reservation.Put n p.0 p.1

abbrev pub must_of : Name → Name → AstReservation
must_of n s = reservation.Must n s

unfoldable pub take_at : ℕ → ℕ → Parser AstReservation
take_at deep levels = after (expect (token.Word word.Use)) (both take_of name_at (expr_at deep levels))

-- "at" point
unfoldable pub when_at : Parser Point
when_at = after (expect (token.Word word.At)) point_at

unfoldable pub raise_at : ℕ → ℕ → Parser AstReservation
raise_at deep levels = after (expect (token.Word word.Raise)) (both raise_of name_at (both pair (expr_at deep levels) when_at))

unfoldable pub lower_at : ℕ → ℕ → Parser AstReservation
lower_at deep levels = after (expect (token.Word word.Lower)) (both lower_of name_at (both pair (expr_at deep levels) when_at))

unfoldable pub put_at : Parser AstReservation
put_at = after (expect (token.Word word.Set)) (both put_of name_at (both pair name_at when_at))

unfoldable pub must_at : Parser AstReservation
must_at = after (expect (token.Word word.Must)) (both must_of name_at name_at)

abbrev pub is_reservation : Token → Bool
is_reservation (token.Word word.Use) = true
is_reservation (token.Word word.Raise) = true
is_reservation (token.Word word.Lower) = true
is_reservation (token.Word word.Set) = true
is_reservation (token.Word word.Must) = true
is_reservation t = false

unfoldable pub reservation_at : ℕ → ℕ → Parser AstReservation
reservation_at deep levels = either (is_word word.Use) (take_at deep levels) (either (is_word word.Raise) (raise_at deep levels) (either (is_word word.Lower) (lower_at deep levels) (either (is_word word.Set) put_at must_at)))

unfoldable pub reservations_at : ℕ → ℕ → Parser (List AstReservation)
reservations_at deep levels = many_at is_reservation (reservation_at deep levels)

-- ---- links

abbrev pub link_of : Point → Name × (Point × (ℤ × ℤ)) → AstLink
link_of mine p = record { mine = mine; kind = p.0; theirs = p.1.0; low = p.1.1.0; high = p.1.1.1 }

unfoldable pub link_at : Parser AstLink
link_at = after (expect (token.Word word.Link)) (both link_of point_at (both pair name_at (both pair point_at (both pair signed_at signed_at))))

unfoldable pub links_at : Parser (List AstLink)
links_at = many_at (is_word word.Link) link_at

-- ---- alternatives

abbrev pub binding_of : Name → Measured → Name × AstExpr
binding_of n v = (n, v.0)

unfoldable pub binding_at : ℕ → ℕ → Parser (Name × AstExpr)
binding_at deep levels = both binding_of name_at (after (expect (token.Symbol symbol.Equals)) (expr_at deep levels))

unfoldable pub further_at : ℕ → ℕ → Parser (Name × AstExpr)
further_at deep levels = after (expect (token.Symbol symbol.Comma)) (binding_at deep levels)

-- behind the bracket
unfoldable pub given_at : ℕ → ℕ → Parser (List (Name × AstExpr))
given_at deep levels = both list_of (binding_at deep levels) (many_at (is_symbol symbol.Comma) (further_at deep levels))

abbrev pub or_none : {A : Type 0} → Option (List A) → List A
or_none None = []
or_none (Some xs) = xs

unfoldable pub bindings_at : ℕ → ℕ → Parser (List (Name × AstExpr))
bindings_at deep levels = made or_none (option (is_symbol symbol.Open) (after (expect (token.Symbol symbol.Open)) (before (given_at deep levels) (expect (token.Symbol symbol.Close)))))

abbrev pub slot_of : Name → Name × List (Name × AstExpr) → AstSlot
slot_of n p = record { name = n; kind = p.0; bindings = p.1 }

unfoldable pub slot_at : ℕ → ℕ → Parser AstSlot
slot_at deep levels = after (expect (token.Word word.Slot)) (both slot_of name_at (both pair name_at (bindings_at deep levels)))

abbrev pub order_of : Option Name → Point × (Option Name × (Point × (ℤ × ℤ))) → AstOrder
order_of first p = record { first = first; first_end = p.0; second = p.1.0; second_end = p.1.1.0; low = p.1.1.1.0; high = p.1.1.1.1 }

unfoldable pub order_at : Parser AstOrder
order_at = after (expect (token.Word word.Order)) (both order_of place_at (both pair point_at (both pair place_at (both pair point_at (both pair signed_at signed_at)))))

unfoldable pub slots_at : ℕ → ℕ → Parser (List AstSlot)
slots_at deep levels = both list_of (slot_at deep levels) (many_at (is_word word.Slot) (slot_at deep levels))

unfoldable pub orders_at : Parser (List AstOrder)
orders_at = many_at (is_word word.Order) order_at

abbrev pub alternative_of : List AstSlot → List AstOrder → AstAlternative
alternative_of ss os = record { slots = ss; orders = os }

unfoldable pub alternative_at : ℕ → ℕ → Parser AstAlternative
alternative_at deep levels = after (expect (token.Word word.Alternative)) (after (expect (token.Symbol symbol.OpenBrace)) (both alternative_of (slots_at deep levels) (before orders_at (expect (token.Symbol symbol.CloseBrace)))))

unfoldable pub alternatives_at : ℕ → ℕ → Parser (List AstAlternative)
alternatives_at deep levels = many_at (is_word word.Alternative) (alternative_at deep levels)

-- ---- a kind

abbrev pub kind_of : Name → List AstParam × (Measured × (List AstReservation × (List AstLink × List AstAlternative))) → AstKind
kind_of n p = record { name = n; params = p.0; duration = p.1.0.0; reservations = p.1.1.0; links = p.1.1.1.0; alternatives = p.1.1.1.1 }

unfoldable pub kind_at : ℕ → ℕ → Parser AstKind
kind_at deep levels = after (expect (token.Word word.Kind)) (both kind_of name_at (after (expect (token.Symbol symbol.OpenBrace)) (both pair (params_at deep levels) (after (expect (token.Word word.Duration)) (both pair (expr_at deep levels) (both pair (reservations_at deep levels) (both pair links_at (before (alternatives_at deep levels) (expect (token.Symbol symbol.CloseBrace))))))))))

-- ---- a model

abbrev pub kind_item : AstKind → Item
kind_item k = item.Kind k

abbrev pub timeline_item : AstTimeline → Item
timeline_item t = item.Timeline t

abbrev pub is_item : Token → Bool
is_item (token.Word word.Capacity) = true
is_item (token.Word word.Level) = true
is_item (token.Word word.State) = true
is_item (token.Word word.Kind) = true
is_item t = false

unfoldable pub item_at : ℕ → ℕ → Parser Item
item_at deep levels = either (is_word word.Kind) (made kind_item (kind_at deep levels)) (made timeline_item timeline_at)

unfoldable pub items_at : ℕ → ℕ → Parser (List Item)
items_at deep levels = many_at is_item (item_at deep levels)

abbrev pub model_of : ℤ → ℤ × List Item → Ast
model_of horizon p = record { horizon = horizon; lead = p.0; items = p.1 }

unfoldable pub model_at : ℕ → ℕ → Parser Ast
model_at deep levels = after (expect (token.Word word.Horizon)) (both model_of number_at (after (expect (token.Word word.Lead)) (both pair number_at (items_at deep levels))))

-- all of the tokens
unfoldable pub read_all : ℕ → ℕ → List Token → Result Ast Stop
read_all deep levels ts = follow (model_at deep levels ts) ended
