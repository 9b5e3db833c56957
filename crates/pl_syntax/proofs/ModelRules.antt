-- The grammar of a model by rules that are read exactly.
use Rattle.std.proofs.Common.{◌≡◌, ℕ, ◌≤◌, false, List, [], ◌∷◌, Option, Some, None, ◌⊎◌, inl, inr, refl}
use Rattle.pl_syntax.specs.declared.token.Token.{Token}
use Rattle.pl_syntax.specs.declared.token.Token.TheVariants as token
use Rattle.pl_text.specs.declared.word.Word.TheVariants as word
use Rattle.pl_syntax.specs.declared.symbol.Symbol.TheVariants as symbol
use Rattle.pl_model.specs.declared.reservations.Point.{Point}
use Rattle.pl_syntax.specs.declared.expressions.AstExpr.{AstExpr}
use Rattle.pl_syntax.specs.declared.parameters.AstOrigin.{AstOrigin}
use Rattle.pl_syntax.specs.declared.parameters.AstParam.{AstParam}
use Rattle.pl_syntax.specs.declared.reservations.AstReservation.{AstReservation}
use Rattle.pl_syntax.specs.declared.links.AstLink.{AstLink}
use Rattle.pl_syntax.specs.declared.alternatives.AstSlot.{AstSlot}
use Rattle.pl_syntax.specs.declared.alternatives.AstOrder.{AstOrder}
use Rattle.pl_syntax.specs.declared.alternatives.AstAlternative.{AstAlternative}
use Rattle.pl_syntax.specs.declared.kinds.AstKind.{AstKind}
use Rattle.pl_syntax.specs.declared.whole.Item.{Item}
use Rattle.pl_syntax.specs.declared.whole.Ast.{Ast}
use Rattle.pl_syntax.specs.Tokens.{is_word, is_symbol}
use Rattle.pl_syntax.specs.Spelling.{AllFit}
use Rattle.pl_syntax.specs.Expressions.{Expr, Measured, Limits}
use Rattle.pl_syntax.specs.Forms.{Name, TimelineForm, OriginForm, plain, default, equals, ParamForm, spell_origin, spell_param, ReservationForm, take, raise, lower, put, must, spell_reservation, LinkForm, spell_link, BindingForm, BindingsForm, no_binding, bindings, SlotForm, OrderForm, AlternativeForm, spell_binding, spell_further, spell_bindings, spell_slot, spell_order, spell_alternative, KindForm, spell_kind, ItemForm, timeline, kind, ModelForm, spell_item, spell_model}
use Rattle.pl_syntax.specs.Trees.{origin_tree, param_tree, reservation_tree, link_tree, binding_tree, bindings_tree, slot_tree, order_tree, alternative_tree, kind_tree, item_tree, model_tree}
use Rattle.pl_syntax.specs.Grammar.{OriginFits, ParamFits, ReservationFits, BindingFits, BindingsFit, SlotFits, AlternativeFits, KindFits, ItemFits}
use Rattle.pl_syntax.specs.Reading.{list_of, pair, is_origin, defaulted, valued, origin_or_plain, param_of, take_of, raise_of, lower_of, put_of, must_of, is_reservation, link_of, binding_of, or_none, slot_of, order_of, alternative_of, kind_of, kind_item, timeline_item, is_item, model_of}
use Rattle.pl_syntax.proofs.Loops.{Any}
use Rattle.pl_syntax.proofs.Sets.{Set, has, nothing, told_word, told_symbol}
use Rattle.pl_syntax.proofs.Grammars.{Rule, word as a_word, symbol as a_symbol, seq, second, first, many, renamed, mapped, choice, optional}
use Rattle.pl_syntax.proofs.Classes.{name, number}
use Rattle.pl_syntax.proofs.ExprRule.{operators, expression}
use Rattle.pl_syntax.proofs.TimelineRules.{numeral, signed, a_point, a_place, step_bars, all_any, a_timeline}

-- ---- links

abbrev pub a_link : Rule LinkForm AstLink
a_link =
    renamed (seq second (a_word word.Link) (seq link_of a_point (seq pair name (seq pair a_point (seq pair signed signed refl) refl) refl) refl) refl) spell_link link_tree Any
    (λ l. (tt, (l.mine, (l.kind, (l.theirs, (l.low, l.high)))))) (λ p. record { mine = p.1.0; kind = p.1.1.0; theirs = p.1.1.1.0; low = p.1.1.1.1.0; high = p.1.1.1.1.1 })
    (λ l rest. refl) (λ l. refl) (λ p. refl) (λ l f. (tt, (tt, (tt, (tt, (tt, tt)))))) (λ l f. tt)

-- ---- orders

abbrev pub a_order : Rule OrderForm AstOrder
a_order =
    renamed (seq second (a_word word.Order) (seq order_of a_place (seq pair a_point (seq pair a_place (seq pair a_point (seq pair signed signed refl) refl) refl) refl) refl) refl) spell_order order_tree Any
    (λ o. (tt, (o.first, (o.first_end, (o.second, (o.second_end, (o.low, o.high))))))) (λ p. record { first = p.1.0; first_end = p.1.1.0; second = p.1.1.1.0; second_end = p.1.1.1.1.0; low = p.1.1.1.1.1.0; high = p.1.1.1.1.1.1 })
    (λ o rest. refl) (λ o. refl) (λ p. refl) (λ o f. (tt, (tt, (tt, (tt, (tt, (tt, tt))))))) (λ o f. tt)

-- ---- what holds expressions, with so many levels and brackets

module _ (l b : ℕ) (low : 1 ≤ l) where
  abbrev pub lim : Limits
  lim = record { levels = l; deep = b }

  abbrev pub amount : Rule Expr Measured
  amount = expression l b low

  -- [ "default" number | "=" expr ]
  abbrev origin_set : Set
  origin_set = record { words = 11 ∷ []; symbols = 5 ∷ 6 ∷ 7 ∷ 8 ∷ []; names = false; numbers = false }

  abbrev OriginParts : Type 0
  OriginParts = Option ((Unit {0} × ℕ) ⊎ (Unit {0} × Expr))

  abbrev either_origin : Rule ((Unit {0} × ℕ) ⊎ (Unit {0} × Expr)) AstOrigin
  either_origin = choice (is_word word.Default) (seq second (a_word word.Default) (mapped defaulted numeral) refl) (seq second (a_symbol symbol.Equals) (mapped valued amount) refl) (told_word word.Default) refl refl operators refl refl

  pub told_origin : (t : Token) → is_origin t ≡ has either_origin.firsts t
  told_origin (token.Word word.Default) = refl
  told_origin (token.Symbol symbol.Equals) = refl
  told_origin t = refl

  abbrev maybe_origin : Rule OriginParts AstOrigin
  maybe_origin = mapped origin_or_plain (optional is_origin either_origin told_origin refl origin_set refl refl)

  abbrev pub origin_to : OriginForm → OriginParts
  origin_to plain = None
  origin_to (default n) = Some (inl (tt, n))
  origin_to (equals e) = Some (inr (tt, e))

  abbrev pub origin_from : OriginParts → OriginForm
  origin_from None = plain
  origin_from (Some (inl p)) = default p.1
  origin_from (Some (inr p)) = equals p.1

  pub origin_text : (j : OriginForm) (rest : List Token) → spell_origin j rest ≡ maybe_origin.spell (origin_to j) rest
  origin_text plain rest = refl
  origin_text (default n) rest = refl
  origin_text (equals e) rest = refl

  pub origin_same : (j : OriginForm) → origin_tree j ≡ maybe_origin.value (origin_to j)
  origin_same plain = refl
  origin_same (default n) = refl
  origin_same (equals e) = refl

  pub origin_back : (i : OriginParts) → origin_to (origin_from i) ≡ i
  origin_back None = refl
  origin_back (Some (inl p)) = refl
  origin_back (Some (inr p)) = refl

  pub origin_fit_to : (j : OriginForm) → OriginFits lim j → maybe_origin.ok (origin_to j)
  origin_fit_to plain f = tt
  origin_fit_to (default n) f = (tt, tt)
  origin_fit_to (equals e) f = (tt, f)

  pub origin_fit_from : (j : OriginForm) → maybe_origin.ok (origin_to j) → OriginFits lim j
  origin_fit_from plain f = tt
  origin_fit_from (default n) f = tt
  origin_fit_from (equals e) f = f.1

  abbrev pub an_origin : Rule OriginForm AstOrigin
  an_origin = renamed maybe_origin spell_origin origin_tree (OriginFits lim) origin_to origin_from origin_text origin_same origin_back origin_fit_to origin_fit_from

  abbrev pub a_param : Rule ParamForm AstParam
  a_param =
      renamed (seq second (a_word word.Param) (seq param_of name (seq pair numeral (seq pair numeral an_origin refl) refl) refl) refl) spell_param param_tree (ParamFits lim)
      (λ p. (tt, (p.name, (p.low, (p.high, p.origin))))) (λ p. record { name = p.1.0; low = p.1.1.0; high = p.1.1.1.0; origin = p.1.1.1.1 }) (λ p rest. refl) (λ p. refl) (λ p. refl) (λ p f. (tt, (tt, (tt, (tt, f))))) (λ p f. f.1.1.1.1)

  abbrev param_set : Set
  param_set = record { words = 10 ∷ 11 ∷ []; symbols = 5 ∷ 6 ∷ 7 ∷ 8 ∷ []; names = false; numbers = false }

  abbrev pub some_params : Rule (List ParamForm) (List AstParam)
  some_params = many (is_word word.Param) a_param (told_word word.Param) refl param_set refl refl refl

  -- ---- reservations

  abbrev when : Rule (Unit {0} × Point) Point
  when = seq second (a_word word.At) a_point refl

  abbrev a_take : Rule (Unit {0} × (Name × Expr)) AstReservation
  a_take = seq second (a_word word.Use) (seq take_of name amount refl) refl

  abbrev a_raise : Rule (Unit {0} × (Name × (Expr × (Unit {0} × Point)))) AstReservation
  a_raise = seq second (a_word word.Raise) (seq raise_of name (seq pair amount when refl) refl) refl

  abbrev a_lower : Rule (Unit {0} × (Name × (Expr × (Unit {0} × Point)))) AstReservation
  a_lower = seq second (a_word word.Lower) (seq lower_of name (seq pair amount when refl) refl) refl

  abbrev a_put : Rule (Unit {0} × (Name × (Name × (Unit {0} × Point)))) AstReservation
  a_put = seq second (a_word word.Set) (seq put_of name (seq pair name when refl) refl) refl

  abbrev a_must : Rule (Unit {0} × (Name × Name)) AstReservation
  a_must = seq second (a_word word.Must) (seq must_of name name refl) refl

  abbrev ReservationParts : Type 0
  ReservationParts = (Unit {0} × (Name × Expr)) ⊎ ((Unit {0} × (Name × (Expr × (Unit {0} × Point)))) ⊎ ((Unit {0} × (Name × (Expr × (Unit {0} × Point)))) ⊎ ((Unit {0} × (Name × (Name × (Unit {0} × Point)))) ⊎ (Unit {0} × (Name × Name)))))

  abbrev either_reservation : Rule ReservationParts AstReservation
  either_reservation =
      choice (is_word word.Use) a_take (choice (is_word word.Raise) a_raise (choice (is_word word.Lower) a_lower (choice (is_word word.Set) a_put a_must (told_word word.Set) refl refl nothing refl refl) (told_word word.Lower) refl refl nothing refl refl) (told_word word.Raise) refl refl nothing refl refl) (told_word word.Use) refl refl operators refl refl

  abbrev pub reservation_to : ReservationForm → ReservationParts
  reservation_to (take n e) = inl (tt, (n, e))
  reservation_to (raise n e p) = inr (inl (tt, (n, (e, (tt, p)))))
  reservation_to (lower n e p) = inr (inr (inl (tt, (n, (e, (tt, p))))))
  reservation_to (put n s p) = inr (inr (inr (inl (tt, (n, (s, (tt, p)))))))
  reservation_to (must n s) = inr (inr (inr (inr (tt, (n, s)))))

  abbrev pub reservation_from : ReservationParts → ReservationForm
  reservation_from (inl p) = take p.1.0 p.1.1
  reservation_from (inr (inl p)) = raise p.1.0 p.1.1.0 p.1.1.1.1
  reservation_from (inr (inr (inl p))) = lower p.1.0 p.1.1.0 p.1.1.1.1
  reservation_from (inr (inr (inr (inl p)))) = put p.1.0 p.1.1.0 p.1.1.1.1
  reservation_from (inr (inr (inr (inr p)))) = must p.1.0 p.1.1

  pub reservation_text : (j : ReservationForm) (rest : List Token) → spell_reservation j rest ≡ either_reservation.spell (reservation_to j) rest
  reservation_text (take n e) rest = refl
  reservation_text (raise n e p) rest = refl
  reservation_text (lower n e p) rest = refl
  reservation_text (put n s p) rest = refl
  reservation_text (must n s) rest = refl

  pub reservation_same : (j : ReservationForm) → reservation_tree j ≡ either_reservation.value (reservation_to j)
  reservation_same (take n e) = refl
  reservation_same (raise n e p) = refl
  reservation_same (lower n e p) = refl
  reservation_same (put n s p) = refl
  reservation_same (must n s) = refl

  pub reservation_back : (i : ReservationParts) → reservation_to (reservation_from i) ≡ i
  reservation_back (inl p) = refl
  reservation_back (inr (inl p)) = refl
  reservation_back (inr (inr (inl p))) = refl
  reservation_back (inr (inr (inr (inl p)))) = refl
  reservation_back (inr (inr (inr (inr p)))) = refl

  pub reservation_fit_to : (j : ReservationForm) → ReservationFits lim j → either_reservation.ok (reservation_to j)
  reservation_fit_to (take n e) f = (tt, (tt, f))
  reservation_fit_to (raise n e p) f = (tt, (tt, (f, (tt, tt))))
  reservation_fit_to (lower n e p) f = (tt, (tt, (f, (tt, tt))))
  reservation_fit_to (put n s p) f = (tt, (tt, (tt, (tt, tt))))
  reservation_fit_to (must n s) f = (tt, (tt, tt))

  pub reservation_fit_from : (j : ReservationForm) → either_reservation.ok (reservation_to j) → ReservationFits lim j
  reservation_fit_from (take n e) f = f.1.1
  reservation_fit_from (raise n e p) f = f.1.1.0
  reservation_fit_from (lower n e p) f = f.1.1.0
  reservation_fit_from (put n s p) f = tt
  reservation_fit_from (must n s) f = tt

  abbrev pub a_reservation : Rule ReservationForm AstReservation
  a_reservation = renamed either_reservation spell_reservation reservation_tree (ReservationFits lim) reservation_to reservation_from reservation_text reservation_same reservation_back reservation_fit_to reservation_fit_from

  abbrev reservation_set : Set
  reservation_set = record { words = 13 ∷ 14 ∷ 15 ∷ 16 ∷ 17 ∷ []; symbols = 6 ∷ 7 ∷ 8 ∷ []; names = false; numbers = false }

  pub told_reservation : (t : Token) → is_reservation t ≡ has a_reservation.firsts t
  told_reservation (token.Word word.Use) = refl
  told_reservation (token.Word word.Raise) = refl
  told_reservation (token.Word word.Lower) = refl
  told_reservation (token.Word word.Set) = refl
  told_reservation (token.Word word.Must) = refl
  told_reservation t = refl

  abbrev pub some_reservations : Rule (List ReservationForm) (List AstReservation)
  some_reservations = many is_reservation a_reservation told_reservation refl reservation_set refl refl refl

  -- ---- links and alternatives

  abbrev link_set : Set
  link_set = record { words = 13 ∷ 14 ∷ 15 ∷ 16 ∷ 17 ∷ 19 ∷ []; symbols = 6 ∷ 7 ∷ 8 ∷ []; names = false; numbers = false }

  abbrev pub some_links : Rule (List LinkForm) (List AstLink)
  some_links = many (is_word word.Link) a_link (told_word word.Link) refl link_set refl refl refl

  abbrev pub a_binding : Rule BindingForm (Name × AstExpr)
  a_binding = renamed (seq binding_of name (seq second (a_symbol symbol.Equals) amount refl) refl) spell_binding binding_tree (BindingFits lim) (λ b. (b.name, (tt, b.value))) (λ p. record { name = p.0; value = p.1.1 }) (λ b rest. refl) (λ b. refl) (λ p. refl) (λ b f. (tt, (tt, f))) (λ b f. f.1.1)

  abbrev pub a_further : Rule BindingForm (Name × AstExpr)
  a_further = renamed (seq second (a_symbol symbol.Comma) a_binding refl) spell_further binding_tree (BindingFits lim) (λ b. (tt, b)) (λ p. p.1) (λ b rest. refl) (λ b. refl) (λ p. refl) (λ b f. (tt, f)) (λ b f. f.1)

  abbrev comma_set : Set
  comma_set = record { words = []; symbols = 4 ∷ 6 ∷ 7 ∷ 8 ∷ []; names = false; numbers = false }

  abbrev pub some_further : Rule (List BindingForm) (List (Name × AstExpr))
  some_further = many (is_symbol symbol.Comma) a_further (told_symbol symbol.Comma) refl comma_set refl refl refl

  abbrev pub given : Rule (BindingForm × List BindingForm) (List (Name × AstExpr))
  given = seq list_of a_binding some_further refl

  abbrev bracketed : Rule (Unit {0} × ((BindingForm × List BindingForm) × Unit {0})) (List (Name × AstExpr))
  bracketed = seq second (a_symbol symbol.Open) (seq first given (a_symbol symbol.Close) refl) refl

  abbrev open_set : Set
  open_set = record { words = []; symbols = 2 ∷ []; names = false; numbers = false }

  abbrev maybe_bracketed : Rule (Option (Unit {0} × ((BindingForm × List BindingForm) × Unit {0}))) (List (Name × AstExpr))
  maybe_bracketed = mapped or_none (optional (is_symbol symbol.Open) bracketed (told_symbol symbol.Open) refl open_set refl refl)

  abbrev pub bindings_to : BindingsForm → Option (Unit {0} × ((BindingForm × List BindingForm) × Unit {0}))
  bindings_to no_binding = None
  bindings_to (bindings b bs) = Some (tt, ((b, bs), tt))

  abbrev pub bindings_from : Option (Unit {0} × ((BindingForm × List BindingForm) × Unit {0})) → BindingsForm
  bindings_from None = no_binding
  bindings_from (Some p) = bindings p.1.0.0 p.1.0.1

  pub bindings_text : (j : BindingsForm) (rest : List Token) → spell_bindings j rest ≡ maybe_bracketed.spell (bindings_to j) rest
  bindings_text no_binding rest = refl
  bindings_text (bindings b bs) rest = refl

  pub bindings_same : (j : BindingsForm) → bindings_tree j ≡ maybe_bracketed.value (bindings_to j)
  bindings_same no_binding = refl
  bindings_same (bindings b bs) = refl

  pub bindings_back : (i : Option (Unit {0} × ((BindingForm × List BindingForm) × Unit {0}))) → bindings_to (bindings_from i) ≡ i
  bindings_back None = refl
  bindings_back (Some p) = refl

  pub bindings_fit_to : (j : BindingsForm) → BindingsFit lim j → maybe_bracketed.ok (bindings_to j)
  bindings_fit_to no_binding f = tt
  bindings_fit_to (bindings b bs) f = (tt, ((f.0, f.1), tt))

  pub bindings_fit_from : (j : BindingsForm) → maybe_bracketed.ok (bindings_to j) → BindingsFit lim j
  bindings_fit_from no_binding f = tt
  bindings_fit_from (bindings b bs) f = (f.1.0.0, f.1.0.1)

  abbrev pub some_bindings : Rule BindingsForm (List (Name × AstExpr))
  some_bindings = renamed maybe_bracketed spell_bindings bindings_tree (BindingsFit lim) bindings_to bindings_from bindings_text bindings_same bindings_back bindings_fit_to bindings_fit_from

  abbrev pub a_slot : Rule SlotForm AstSlot
  a_slot =
      renamed (seq second (a_word word.Slot) (seq slot_of name (seq pair name some_bindings refl) refl) refl) spell_slot slot_tree (SlotFits lim)
      (λ s. (tt, (s.name, (s.kind, s.given)))) (λ p. record { name = p.1.0; kind = p.1.1.0; given = p.1.1.1 }) (λ s rest. refl) (λ s. refl) (λ p. refl) (λ s f. (tt, (tt, (tt, f)))) (λ s f. f.1.1.1)

  abbrev slot_set : Set
  slot_set = record { words = 21 ∷ []; symbols = 2 ∷ []; names = false; numbers = false }

  abbrev pub other_slots : Rule (List SlotForm) (List AstSlot)
  other_slots = many (is_word word.Slot) a_slot (told_word word.Slot) refl slot_set refl refl refl

  abbrev pub some_slots : Rule (SlotForm × List SlotForm) (List AstSlot)
  some_slots = seq list_of a_slot other_slots refl

  abbrev order_set : Set
  order_set = record { words = 21 ∷ 22 ∷ []; symbols = 2 ∷ []; names = false; numbers = false }

  abbrev pub some_orders : Rule (List OrderForm) (List AstOrder)
  some_orders = many (is_word word.Order) a_order (told_word word.Order) refl order_set refl refl refl

  pub orders_fit : (os : List OrderForm) → AllFit Any os
  orders_fit os = all_any os

  abbrev pub an_alternative : Rule AlternativeForm AstAlternative
  an_alternative =
      renamed (seq second (a_word word.Alternative) (seq second (a_symbol symbol.OpenBrace) (seq alternative_of some_slots (seq first some_orders (a_symbol symbol.CloseBrace) refl) refl) refl) refl) spell_alternative alternative_tree (AlternativeFits lim)
      (λ a. (tt, (tt, ((a.first, a.others), (a.orders, tt))))) (λ p. record { first = p.1.1.0.0; others = p.1.1.0.1; orders = p.1.1.1.0 })
      (λ a rest. refl) (λ a. refl) (λ p. refl) (λ a f. (tt, (tt, ((f.0, f.1), (orders_fit a.orders, tt))))) (λ a f. (f.1.1.0.0, f.1.1.0.1))

  abbrev alternative_set : Set
  alternative_set = record { words = 10 ∷ 13 ∷ 14 ∷ 15 ∷ 16 ∷ 17 ∷ 19 ∷ 20 ∷ []; symbols = 6 ∷ 7 ∷ 8 ∷ []; names = false; numbers = false }

  abbrev pub some_alternatives : Rule (List AlternativeForm) (List AstAlternative)
  some_alternatives = many (is_word word.Alternative) an_alternative (told_word word.Alternative) refl alternative_set refl refl refl

  -- ---- a kind

  abbrev last_part : Rule (List AlternativeForm × Unit {0}) (List AstAlternative)
  last_part = seq first some_alternatives (a_symbol symbol.CloseBrace) refl

  abbrev links_part : Rule (List LinkForm × (List AlternativeForm × Unit {0})) (List AstLink × List AstAlternative)
  links_part = seq pair some_links last_part refl

  abbrev reservations_part : Rule (List ReservationForm × (List LinkForm × (List AlternativeForm × Unit {0}))) (List AstReservation × (List AstLink × List AstAlternative))
  reservations_part = seq pair some_reservations links_part refl

  abbrev duration_part : Rule (Unit {0} × (Expr × (List ReservationForm × (List LinkForm × (List AlternativeForm × Unit {0}))))) (Measured × (List AstReservation × (List AstLink × List AstAlternative)))
  duration_part = seq second (a_word word.Duration) (seq pair amount reservations_part refl) refl

  abbrev params_part : Rule (List ParamForm × (Unit {0} × (Expr × (List ReservationForm × (List LinkForm × (List AlternativeForm × Unit {0})))))) (List AstParam × (Measured × (List AstReservation × (List AstLink × List AstAlternative))))
  params_part = seq pair some_params duration_part refl

  pub links_fit : (ls : List LinkForm) → AllFit Any ls
  links_fit ls = all_any ls

  abbrev pub a_kind : Rule KindForm AstKind
  a_kind =
      renamed (seq second (a_word word.Kind) (seq kind_of name (seq second (a_symbol symbol.OpenBrace) params_part refl) refl) refl) spell_kind kind_tree (KindFits lim)
      (λ k. (tt, (k.name, (tt, (k.params, (tt, (k.duration, (k.reservations, (k.links, (k.alternatives, tt)))))))))) (λ p. record { name = p.1.0; params = p.1.1.1.0; duration = p.1.1.1.1.1.0; reservations = p.1.1.1.1.1.1.0; links = p.1.1.1.1.1.1.1.0; alternatives = p.1.1.1.1.1.1.1.1.0 })
      (λ k rest. refl) (λ k. refl) (λ p. refl) (λ k f. (tt, (tt, (tt, (f.0, (tt, (f.1, (f.2, (links_fit k.links, (f.3, tt)))))))))) (λ k f. (f.1.1.1.0, f.1.1.1.1.1.0, f.1.1.1.1.1.1.0, f.1.1.1.1.1.1.1.1.0))

  -- ---- a model

  abbrev either_item : Rule (KindForm ⊎ TimelineForm) Item
  either_item = choice (is_word word.Kind) (mapped kind_item a_kind) (mapped timeline_item a_timeline) (told_word word.Kind) refl refl step_bars refl refl

  abbrev pub item_to : ItemForm → KindForm ⊎ TimelineForm
  item_to (timeline t) = inr t
  item_to (kind k) = inl k

  abbrev pub item_from : KindForm ⊎ TimelineForm → ItemForm
  item_from (inl k) = kind k
  item_from (inr t) = timeline t

  pub item_text : (j : ItemForm) (rest : List Token) → spell_item j rest ≡ either_item.spell (item_to j) rest
  item_text (timeline t) rest = refl
  item_text (kind k) rest = refl

  pub item_same : (j : ItemForm) → item_tree j ≡ either_item.value (item_to j)
  item_same (timeline t) = refl
  item_same (kind k) = refl

  pub item_back : (i : KindForm ⊎ TimelineForm) → item_to (item_from i) ≡ i
  item_back (inl k) = refl
  item_back (inr t) = refl

  pub item_fit_to : (j : ItemForm) → ItemFits lim j → either_item.ok (item_to j)
  item_fit_to (timeline t) f = tt
  item_fit_to (kind k) f = f

  pub item_fit_from : (j : ItemForm) → either_item.ok (item_to j) → ItemFits lim j
  item_fit_from (timeline t) f = tt
  item_fit_from (kind k) f = f

  abbrev pub an_item : Rule ItemForm Item
  an_item = renamed either_item spell_item item_tree (ItemFits lim) item_to item_from item_text item_same item_back item_fit_to item_fit_from

  pub told_item : (t : Token) → is_item t ≡ has an_item.firsts t
  told_item (token.Word word.Capacity) = refl
  told_item (token.Word word.Level) = refl
  told_item (token.Word word.State) = refl
  told_item (token.Word word.Kind) = refl
  told_item t = refl

  abbrev item_set : Set
  item_set = record { words = 2 ∷ 3 ∷ 4 ∷ 7 ∷ 8 ∷ 9 ∷ []; symbols = []; names = false; numbers = false }

  abbrev pub some_items : Rule (List ItemForm) (List Item)
  some_items = many is_item an_item told_item refl item_set refl refl refl

  abbrev pub a_model : Rule ModelForm Ast
  a_model =
      renamed (seq second (a_word word.Horizon) (seq model_of numeral (seq second (a_word word.Lead) (seq pair numeral some_items refl) refl) refl) refl) spell_model model_tree (λ m. AllFit (ItemFits lim) m.items)
      (λ m. (tt, (m.horizon, (tt, (m.lead, m.items))))) (λ p. record { horizon = p.1.0; lead = p.1.1.1.0; items = p.1.1.1.1 }) (λ m rest. refl) (λ m. refl) (λ p. refl) (λ m f. (tt, (tt, (tt, (tt, f))))) (λ m f. f.1.1.1.1)
