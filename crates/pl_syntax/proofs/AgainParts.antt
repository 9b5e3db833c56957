-- The canonical form of each part of a model.
use Rattle.std.proofs.Common.{◌≡◌, ℕ, zero, suc, ℤ, pos, ◌≤◌, Bool, false, List, [], ◌∷◌, ◌++◌, map, flat_map, Option, Some, None, refl, ap, ◌∙◌}
use Rattle.pl_text.specs.declared.word.Word.TheVariants as word
use Rattle.pl_syntax.specs.declared.token.Token.{Token}
use Rattle.pl_syntax.specs.declared.token.Token.TheVariants as token
use Rattle.pl_syntax.specs.declared.symbol.Symbol.TheVariants as symbol
use Rattle.pl_syntax.specs.Tokens.{AreReal}
use Rattle.pl_syntax.specs.Spelling.{spell_many, AllFit}
use Rattle.pl_model.specs.declared.reservations.Point.{Point}
use Rattle.pl_model.specs.declared.reservations.Point.TheVariants as point
use Rattle.pl_syntax.specs.declared.expressions.AstExpr.{AstExpr}
use Rattle.pl_syntax.specs.declared.timelines.AstTimeline.{AstTimeline}
use Rattle.pl_syntax.specs.declared.timelines.AstTimeline.TheVariants as timelines
use Rattle.pl_syntax.specs.declared.parameters.AstOrigin.{AstOrigin}
use Rattle.pl_syntax.specs.declared.parameters.AstOrigin.TheVariants as origin
use Rattle.pl_syntax.specs.declared.parameters.AstParam.{AstParam}
use Rattle.pl_syntax.specs.declared.reservations.AstReservation.{AstReservation}
use Rattle.pl_syntax.specs.declared.reservations.AstReservation.TheVariants as reservation
use Rattle.pl_syntax.specs.declared.links.AstLink.{AstLink}
use Rattle.pl_syntax.specs.declared.alternatives.AstSlot.{AstSlot}
use Rattle.pl_syntax.specs.declared.alternatives.AstOrder.{AstOrder}
use Rattle.pl_syntax.specs.declared.alternatives.AstAlternative.{AstAlternative}
use Rattle.pl_syntax.specs.declared.kinds.AstKind.{AstKind}
use Rattle.pl_syntax.specs.declared.whole.Item.{Item}
use Rattle.pl_syntax.specs.declared.whole.Item.TheVariants as item
use Rattle.pl_syntax.specs.declared.whole.Ast.{Ast}
use Rattle.pl_syntax.specs.Expressions.{spell_expr, Limits, Fits}
use Rattle.pl_syntax.specs.Forms.{Name, SignedForm, bare, negative, spell_signed, point_token, place_token, StepsForm, any_step, only, StatesForm, TimelineForm, capacity, level, states, spell_name, spell_step, spell_steps, spell_states, spell_timeline, OriginForm, plain, default, equals, ParamForm, spell_origin, spell_param, ReservationForm, take, raise, lower, put, must, spell_reservation, LinkForm, spell_link, BindingForm, BindingsForm, no_binding, bindings, SlotForm, OrderForm, AlternativeForm, spell_binding, spell_further, spell_bindings, spell_slot, spell_order, spell_alternative, KindForm, spell_kind, ItemForm, timeline, kind, ModelForm, spell_item, spell_model}
use Rattle.pl_syntax.specs.Trees.{signed_value, step_tree, steps_tree, states_tree, timeline_tree, origin_tree, param_tree, reservation_tree, link_tree, binding_tree, bindings_tree, slot_tree, order_tree, alternative_tree, kind_tree, item_tree, model_tree}
use Rattle.pl_syntax.specs.Grammar.{OriginFits, ParamFits, ReservationFits, BindingFits, BindingsFit, SlotFits, AlternativeFits, KindFits, ItemFits}
use Rattle.pl_syntax.specs.Canonical.{expr_tokens, name_tokens, step_tokens, steps_tokens, timeline_tokens, origin_tokens, param_tokens, when_tokens, reservation_tokens, link_tokens, binding_tokens, further_tokens, bindings_tokens, slot_tokens, order_tokens, alternative_tokens, kind_tokens, item_tokens, model_tokens}
use Rattle.pl_syntax.proofs.Again.{spread, spread_append, again_expr, IsAgain, tree_of, expr_again, lim}

abbrev pub Any : {X : Type 0} → X → Type 0
Any x = Unit {0}

-- ---- { x }

-- what holds of each item of a list of forms, and of what is behind it
abbrev pub EachAgain : {I X : Type 0} → (I → List Token → List Token) → (I → X) → (I → Type 0) → (X → List Token) → (I → I) → Type 0
EachAgain {I} spell value ok tokens again = (f : I) (rest : List Token) → AreReal (spell f rest) → IsAgain spell value ok tokens f (again f) × AreReal rest

module _ {I X : Type 0} (spell : I → List Token → List Token) (value : I → X) (ok : I → Type 0) (tokens : X → List Token) (again : I → I) (each : EachAgain spell value ok tokens again) where
  abbrev ListAgain : List I → List I → Type 0
  ListAgain fs gs = IsAgain (spell_many spell) (λ (is : List I). map value is) (AllFit ok) (λ (xs : List X). flat_map tokens xs) fs gs

  more_again : (f : I) (fs : List I) → IsAgain spell value ok tokens f (again f) → ListAgain fs (map again fs) → ListAgain (f ∷ fs) (again f ∷ map again fs)
  more_again f fs h hs = record {
    same = ap (λ (x : X). x ∷ map value (map again fs)) h.same ∙ ap (λ (xs : List X). value f ∷ xs) hs.same;
    fits = λ fit. (h.fits fit.0, hs.fits fit.1);
    written = λ rest. spread_append (tokens (value f)) (flat_map tokens (map value fs)) rest ∙ ap (λ (x : List Token). spread (tokens (value f)) x) (hs.written rest) ∙ h.written (spell_many spell (map again fs) rest);
    real = λ rest r. h.real (spell_many spell (map again fs) rest) (hs.real rest r);
  }

  pub many_again : (fs : List I) (rest : List Token) → AreReal (spell_many spell fs rest) → ListAgain fs (map again fs) × AreReal rest
  many_again [] rest h = (record { same = refl; fits = λ fit. fit; written = λ rest. refl; real = λ rest r. r }, h)
  many_again (f ∷ fs) rest h =
      let one = each f (spell_many spell fs rest) h in
      let others = many_again fs rest one.1 in
      (more_again f fs one.0 others.0, others.1)

-- ---- names, steps, states

step_again : EachAgain spell_step step_tree Any step_tokens (λ s. s)
step_again s rest h = (record { same = refl; fits = λ f. tt; written = λ r. refl; real = λ r g. (tt, (h.1.0, (h.1.1.0, g))) }, h.1.1.1)

abbrev steps_pair_tokens : Bool × List (Name × Name) → List Token
steps_pair_tokens p = steps_tokens p.0 p.1

abbrev pub again_steps : StepsForm → StepsForm
again_steps any_step = any_step
again_steps (only ss) = only (map (λ s. s) ss)

abbrev pair_false : List (Name × Name) → Bool × List (Name × Name)
pair_false xs = (false, xs)

steps_again : EachAgain spell_steps steps_tree Any steps_pair_tokens again_steps
steps_again any_step rest h = (record { same = refl; fits = λ f. tt; written = λ r. refl; real = λ r g. (tt, g) }, h.1)
steps_again (only ss) rest h =
    let all = many_again spell_step step_tree Any step_tokens (λ s. s) step_again ss rest h in
    (record { same = ap pair_false all.0.same; fits = λ f. tt; written = all.0.written; real = all.0.real }, all.1)

-- ---- one text behind another

join_text : (xs ys : List Token) (sx sy : List Token → List Token) → ((r : List Token) → spread xs r ≡ sx r) → ((r : List Token) → spread ys r ≡ sy r) → (r : List Token) → spread (xs ++ ys) r ≡ sx (sy r)
join_text xs ys sx sy wx wy r = spread_append xs ys r ∙ ap (λ (x : List Token). spread xs x) (wy r) ∙ wx (sy r)

cons_text : (t : Token) (ts : List Token) (s : List Token → List Token) → ((r : List Token) → spread (t ∷ []) r ≡ t ∷ r) → ((r : List Token) → spread ts r ≡ s r) → (r : List Token) → spread (t ∷ ts) r ≡ t ∷ s r
cons_text t ts s wt ws r = join_text (t ∷ []) ts (λ (x : List Token). t ∷ x) s wt ws r

point_text : (p : Point) (r : List Token) → spread (point_token p ∷ []) r ≡ point_token p ∷ r
point_text point.Start r = refl
point_text point.End r = refl

place_text : (p : Option Name) (r : List Token) → spread (place_token p ∷ []) r ≡ place_token p ∷ r
place_text (Some n) r = refl
place_text None r = refl

names_text : (ns : List Name) (r : List Token) → spread (flat_map name_tokens ns) r ≡ spell_many spell_name ns r
names_text [] r = refl
names_text (n ∷ ns) r = ap (λ (x : List Token). token.Name n ∷ x) (names_text ns r)

names_real : (ns : List Name) (rest : List Token) → AreReal (spell_many spell_name ns rest) → ((r : List Token) → AreReal r → AreReal (spell_many spell_name ns r)) × AreReal rest
names_real [] rest h = (λ r g. g, h)
names_real (n ∷ ns) rest h = let others = names_real ns rest h.1 in (λ r g. (h.0, others.0 r g), others.1)

abbrev pub again_states : StatesForm → StatesForm
again_states s = record { name = s.name; first = s.first; others = s.others; start = s.start; steps = again_steps s.steps }

abbrev states_with : StatesForm → Bool × List (Name × Name) → AstTimeline
states_with s p = timelines.States s.name (s.first ∷ s.others) s.start p.0 p.1

states_again : EachAgain spell_states states_tree Any timeline_tokens again_states
states_again s rest h =
    let names = names_real s.others (token.Symbol symbol.CloseBrace ∷ token.Word word.Start ∷ token.Name s.start ∷ spell_steps s.steps rest) h.1.1.1.1 in
    let steps = steps_again s.steps rest names.1.1.1.1 in
    let tail : (r : List Token) → spread (token.Symbol symbol.CloseBrace ∷ token.Word word.Start ∷ token.Name s.start ∷ steps_pair_tokens (steps_tree s.steps)) r ≡ token.Symbol symbol.CloseBrace ∷ token.Word word.Start ∷ token.Name s.start ∷ spell_steps (again_steps s.steps) r =
    λ r. ap (λ (x : List Token). token.Symbol symbol.CloseBrace ∷ token.Word word.Start ∷ token.Name s.start ∷ x) (steps.0.written r) in (
      record {
        same = ap (λ (p : Bool × List (Name × Name)). states_with s p) steps.0.same;
        fits = λ f. tt;
        written = λ r. ap (λ (x : List Token). token.Word word.State ∷ token.Name s.name ∷ token.Symbol symbol.OpenBrace ∷ token.Name s.first ∷ x)
            (join_text (flat_map name_tokens s.others) (token.Symbol symbol.CloseBrace ∷ token.Word word.Start ∷ token.Name s.start ∷ steps_pair_tokens (steps_tree s.steps)) (spell_many spell_name s.others) (λ (x : List Token). token.Symbol symbol.CloseBrace ∷ token.Word word.Start ∷ token.Name s.start ∷ spell_steps (again_steps s.steps) x) (names_text s.others) tail r);
        real = λ r g. (tt, (h.1.0, (tt, (h.1.1.1.0, names.0 _ (tt, (tt, (names.1.1.1.0, steps.0.real r g)))))));
      },
      steps.1,
    )

abbrev pub again_timeline : TimelineForm → TimelineForm
again_timeline (capacity n most) = capacity n most
again_timeline (level n least most start) = level n least most start
again_timeline (states s) = states (again_states s)

timeline_again : EachAgain spell_timeline timeline_tree Any timeline_tokens again_timeline
timeline_again (capacity n most) rest h = (record { same = refl; fits = λ f. tt; written = λ r. refl; real = λ r g. (tt, (h.1.0, (h.1.1.0, g))) }, h.1.1.1)
timeline_again (level n least most start) rest h = (record { same = refl; fits = λ f. tt; written = λ r. refl; real = λ r g. (tt, (h.1.0, (h.1.1.0, (h.1.1.1.0, (h.1.1.1.1.0, g))))) }, h.1.1.1.1.1)
timeline_again (states s) rest h = let a = states_again s rest h in (record { same = a.0.same; fits = λ f. tt; written = a.0.written; real = a.0.real }, a.1)

-- ---- signed numbers, links, orders

abbrev pub again_signed : SignedForm → SignedForm
again_signed (bare n) = bare n
again_signed (negative zero) = bare zero
again_signed (negative (suc n)) = negative (suc n)

abbrev number_tokens : ℤ → List Token
number_tokens z = token.Number z ∷ []

signed_again : EachAgain spell_signed signed_value Any number_tokens again_signed
signed_again (bare n) rest h = (record { same = refl; fits = λ f. tt; written = λ r. refl; real = λ r g. (h.0, g) }, h.1)
signed_again (negative zero) rest h = (record { same = refl; fits = λ f. tt; written = λ r. refl; real = λ r g. (h.1.0, g) }, h.1.1)
signed_again (negative (suc n)) rest h = (record { same = refl; fits = λ f. tt; written = λ r. refl; real = λ r g. (tt, (h.1.0, g)) }, h.1.1)

abbrev pub again_link : LinkForm → LinkForm
again_link l = record { mine = l.mine; kind = l.kind; theirs = l.theirs; low = again_signed l.low; high = again_signed l.high }

abbrev link_with : LinkForm → ℤ → ℤ → AstLink
link_with l low high = record { mine = l.mine; kind = l.kind; theirs = l.theirs; low = low; high = high }

link_again : EachAgain spell_link link_tree Any link_tokens again_link
link_again l rest h =
    let low = signed_again l.low (spell_signed l.high rest) h.1.1.1.1 in
    let high = signed_again l.high rest low.1 in
    let bounds = join_text (number_tokens (signed_value l.low)) (number_tokens (signed_value l.high)) (spell_signed (again_signed l.low)) (spell_signed (again_signed l.high)) low.0.written high.0.written in (
      record {
        same = ap (λ (z : ℤ). link_with l z (signed_value (again_signed l.high))) low.0.same ∙ ap (λ (z : ℤ). link_with l (signed_value l.low) z) high.0.same;
        fits = λ f. tt;
        written = λ r. ap (λ (x : List Token). token.Word word.Link ∷ x)
            (cons_text (point_token l.mine) (token.Name l.kind ∷ point_token l.theirs ∷ token.Number (signed_value l.low) ∷ number_tokens (signed_value l.high)) (λ (x : List Token). token.Name l.kind ∷ point_token l.theirs ∷ spell_signed (again_signed l.low) (spell_signed (again_signed l.high) x)) (point_text l.mine)
            (λ q. ap (λ (x : List Token). token.Name l.kind ∷ x) (cons_text (point_token l.theirs) (token.Number (signed_value l.low) ∷ number_tokens (signed_value l.high)) (λ (x : List Token). spell_signed (again_signed l.low) (spell_signed (again_signed l.high) x)) (point_text l.theirs) bounds q)) r);
        real = λ r g. (tt, (h.1.0, (h.1.1.0, (h.1.1.1.0, low.0.real _ (high.0.real r g)))));
      },
      high.1,
    )

abbrev pub again_order : OrderForm → OrderForm
again_order o = record { first = o.first; first_end = o.first_end; second = o.second; second_end = o.second_end; low = again_signed o.low; high = again_signed o.high }

abbrev order_with : OrderForm → ℤ → ℤ → AstOrder
order_with o low high = record { first = o.first; first_end = o.first_end; second = o.second; second_end = o.second_end; low = low; high = high }

order_again : EachAgain spell_order order_tree Any order_tokens again_order
order_again o rest h =
    let low = signed_again o.low (spell_signed o.high rest) h.1.1.1.1.1 in
    let high = signed_again o.high rest low.1 in
    let bounds = join_text (number_tokens (signed_value o.low)) (number_tokens (signed_value o.high)) (spell_signed (again_signed o.low)) (spell_signed (again_signed o.high)) low.0.written high.0.written in
    let four = cons_text (point_token o.second_end) (token.Number (signed_value o.low) ∷ number_tokens (signed_value o.high)) (λ (x : List Token). spell_signed (again_signed o.low) (spell_signed (again_signed o.high) x)) (point_text o.second_end) bounds in
    let three = cons_text (place_token o.second) (point_token o.second_end ∷ token.Number (signed_value o.low) ∷ number_tokens (signed_value o.high)) (λ (x : List Token). point_token o.second_end ∷ spell_signed (again_signed o.low) (spell_signed (again_signed o.high) x)) (place_text o.second) four in
    let two = cons_text (point_token o.first_end) (place_token o.second ∷ point_token o.second_end ∷ token.Number (signed_value o.low) ∷ number_tokens (signed_value o.high)) (λ (x : List Token). place_token o.second ∷ point_token o.second_end ∷ spell_signed (again_signed o.low) (spell_signed (again_signed o.high) x)) (point_text o.first_end) three in
    let one = cons_text (place_token o.first) (point_token o.first_end ∷ place_token o.second ∷ point_token o.second_end ∷ token.Number (signed_value o.low) ∷ number_tokens (signed_value o.high)) (λ (x : List Token). point_token o.first_end ∷ place_token o.second ∷ point_token o.second_end ∷ spell_signed (again_signed o.low) (spell_signed (again_signed o.high) x)) (place_text o.first) two in (
      record {
        same = ap (λ (z : ℤ). order_with o z (signed_value (again_signed o.high))) low.0.same ∙ ap (λ (z : ℤ). order_with o (signed_value o.low) z) high.0.same;
        fits = λ f. tt;
        written = λ r. ap (λ (x : List Token). token.Word word.Order ∷ x) (one r);
        real = λ r g. (tt, (h.1.0, (h.1.1.0, (h.1.1.1.0, (h.1.1.1.1.0, low.0.real _ (high.0.real r g))))));
      },
      high.1,
    )

-- ---- what holds expressions

module _ (l b : ℕ) (deep : l ≤ suc b) where
  abbrev limits : Limits
  limits = lim l b deep

  abbrev expr_part : EachAgain spell_expr tree_of (Fits limits) expr_tokens again_expr
  expr_part = expr_again l b deep

  abbrev pub again_origin : OriginForm → OriginForm
  again_origin plain = plain
  again_origin (default n) = default n
  again_origin (equals e) = equals (again_expr e)

  origin_again : EachAgain spell_origin origin_tree (OriginFits limits) origin_tokens again_origin
  origin_again plain rest h = (record { same = refl; fits = λ f. tt; written = λ r. refl; real = λ r g. g }, h)
  origin_again (default n) rest h = (record { same = refl; fits = λ f. tt; written = λ r. refl; real = λ r g. (tt, (h.1.0, g)) }, h.1.1)
  origin_again (equals e) rest h =
      let a = expr_part e rest h.1 in
      (record { same = ap origin.Equals a.0.same; fits = a.0.fits; written = λ r. ap (λ (x : List Token). token.Symbol symbol.Equals ∷ x) (a.0.written r); real = λ r g. (tt, a.0.real r g) }, a.1)

  abbrev pub again_param : ParamForm → ParamForm
  again_param p = record { name = p.name; low = p.low; high = p.high; origin = again_origin p.origin }

  abbrev param_with : ParamForm → AstOrigin → AstParam
  param_with p o = record { name = p.name; low = pos p.low; high = pos p.high; origin = o }

  param_again : EachAgain spell_param param_tree (ParamFits limits) param_tokens again_param
  param_again p rest h =
      let a = origin_again p.origin rest h.1.1.1.1 in (
        record {
          same = ap (param_with p) a.0.same;
          fits = a.0.fits;
          written = λ r. ap (λ (x : List Token). token.Word word.Param ∷ token.Name p.name ∷ token.Number (pos p.low) ∷ token.Number (pos p.high) ∷ x) (a.0.written r);
          real = λ r g. (tt, (h.1.0, (h.1.1.0, (h.1.1.1.0, a.0.real r g))));
        },
        a.1,
      )

  abbrev pub again_reservation : ReservationForm → ReservationForm
  again_reservation (take n e) = take n (again_expr e)
  again_reservation (raise n e p) = raise n (again_expr e) p
  again_reservation (lower n e p) = lower n (again_expr e) p
  again_reservation (put n s p) = put n s p
  again_reservation (must n s) = must n s

  when_text : (p : Point) (r : List Token) → spread (when_tokens p) r ≡ token.Word word.At ∷ point_token p ∷ r
  when_text point.Start r = refl
  when_text point.End r = refl

  reservation_again : EachAgain spell_reservation reservation_tree (ReservationFits limits) reservation_tokens again_reservation
  reservation_again (take n e) rest h =
      let a = expr_part e rest h.1.1 in
      (record { same = ap (reservation.Take n) a.0.same; fits = a.0.fits; written = λ r. ap (λ (x : List Token). token.Word word.Use ∷ token.Name n ∷ x) (a.0.written r); real = λ r g. (tt, (h.1.0, a.0.real r g)) }, a.1)
  reservation_again (raise n e p) rest h =
      let a = expr_part e (token.Word word.At ∷ point_token p ∷ rest) h.1.1 in (
        record {
          same = ap (λ (t : AstExpr). reservation.Raise n t p) a.0.same;
          fits = a.0.fits;
          written = λ r. ap (λ (x : List Token). token.Word word.Raise ∷ token.Name n ∷ x) (join_text (expr_tokens (tree_of e)) (when_tokens p) (spell_expr (again_expr e)) (λ (x : List Token). token.Word word.At ∷ point_token p ∷ x) a.0.written (when_text p) r);
          real = λ r g. (tt, (h.1.0, a.0.real _ (tt, (a.1.1.0, g))));
        },
        a.1.1.1,
      )
  reservation_again (lower n e p) rest h =
      let a = expr_part e (token.Word word.At ∷ point_token p ∷ rest) h.1.1 in (
        record {
          same = ap (λ (t : AstExpr). reservation.Lower n t p) a.0.same;
          fits = a.0.fits;
          written = λ r. ap (λ (x : List Token). token.Word word.Lower ∷ token.Name n ∷ x) (join_text (expr_tokens (tree_of e)) (when_tokens p) (spell_expr (again_expr e)) (λ (x : List Token). token.Word word.At ∷ point_token p ∷ x) a.0.written (when_text p) r);
          real = λ r g. (tt, (h.1.0, a.0.real _ (tt, (a.1.1.0, g))));
        },
        a.1.1.1,
      )
  reservation_again (put n s p) rest h =
      (record { same = refl; fits = λ f. tt; written = λ r. ap (λ (x : List Token). token.Word word.Set ∷ token.Name n ∷ token.Name s ∷ x) (when_text p r); real = λ r g. (tt, (h.1.0, (h.1.1.0, (tt, (h.1.1.1.1.0, g))))) }, h.1.1.1.1.1)
  reservation_again (must n s) rest h = (record { same = refl; fits = λ f. tt; written = λ r. refl; real = λ r g. (tt, (h.1.0, (h.1.1.0, g))) }, h.1.1.1)

  abbrev pub again_binding : BindingForm → BindingForm
  again_binding p = record { name = p.name; value = again_expr p.value }

  binding_again : EachAgain spell_binding binding_tree (BindingFits limits) binding_tokens again_binding
  binding_again p rest h =
      let a = expr_part p.value rest h.1.1 in
      (record { same = ap (λ (t : AstExpr). (p.name, t)) a.0.same; fits = a.0.fits; written = λ r. ap (λ (x : List Token). token.Name p.name ∷ token.Symbol symbol.Equals ∷ x) (a.0.written r); real = λ r g. (h.0, (tt, a.0.real r g)) }, a.1)

  further_again : EachAgain spell_further binding_tree (BindingFits limits) further_tokens again_binding
  further_again p rest h =
      let a = binding_again p rest h.1 in
      (record { same = a.0.same; fits = a.0.fits; written = λ r. ap (λ (x : List Token). token.Symbol symbol.Comma ∷ x) (a.0.written r); real = λ r g. (tt, a.0.real r g) }, a.1)

  abbrev pub again_bindings : BindingsForm → BindingsForm
  again_bindings no_binding = no_binding
  again_bindings (bindings p ps) = bindings (again_binding p) (map again_binding ps)

  bindings_again : EachAgain spell_bindings bindings_tree (BindingsFit limits) bindings_tokens again_bindings
  bindings_again no_binding rest h = (record { same = refl; fits = λ f. tt; written = λ r. refl; real = λ r g. g }, h)
  bindings_again (bindings p ps) rest h =
      let one = binding_again p (spell_many spell_further ps (token.Symbol symbol.Close ∷ rest)) h.1 in
      let others = many_again spell_further binding_tree (BindingFits limits) further_tokens again_binding further_again ps (token.Symbol symbol.Close ∷ rest) one.1 in
      let tail = join_text (flat_map further_tokens (map binding_tree ps)) (token.Symbol symbol.Close ∷ []) (spell_many spell_further (map again_binding ps)) (λ (x : List Token). token.Symbol symbol.Close ∷ x) others.0.written (λ r. refl) in (
        record {
          same = ap (λ (x : Name × AstExpr). x ∷ map binding_tree (map again_binding ps)) one.0.same ∙ ap (λ (xs : List (Name × AstExpr)). binding_tree p ∷ xs) others.0.same;
          fits = λ f. (one.0.fits f.0, others.0.fits f.1);
          written = λ r. ap (λ (x : List Token). token.Symbol symbol.Open ∷ x) (join_text (binding_tokens (binding_tree p)) (flat_map further_tokens (map binding_tree ps) ++ token.Symbol symbol.Close ∷ []) (spell_binding (again_binding p)) (λ (x : List Token). spell_many spell_further (map again_binding ps) (token.Symbol symbol.Close ∷ x)) one.0.written tail r);
          real = λ r g. (tt, one.0.real _ (others.0.real _ (tt, g)));
        },
        others.1.1,
      )

  abbrev pub again_slot : SlotForm → SlotForm
  again_slot s = record { name = s.name; kind = s.kind; given = again_bindings s.given }

  abbrev slot_with : SlotForm → List (Name × AstExpr) → AstSlot
  slot_with s bs = record { name = s.name; kind = s.kind; bindings = bs }

  slot_again : EachAgain spell_slot slot_tree (SlotFits limits) slot_tokens again_slot
  slot_again s rest h =
      let a = bindings_again s.given rest h.1.1.1 in
      (record { same = ap (slot_with s) a.0.same; fits = a.0.fits; written = λ r. ap (λ (x : List Token). token.Word word.Slot ∷ token.Name s.name ∷ token.Name s.kind ∷ x) (a.0.written r); real = λ r g. (tt, (h.1.0, (h.1.1.0, a.0.real r g))) }, a.1)

  abbrev pub again_alternative : AlternativeForm → AlternativeForm
  again_alternative a = record { first = again_slot a.first; others = map again_slot a.others; orders = map again_order a.orders }

  abbrev alternative_with : List AstSlot → List AstOrder → AstAlternative
  alternative_with ss os = record { slots = ss; orders = os }

  alternative_again : EachAgain spell_alternative alternative_tree (AlternativeFits limits) alternative_tokens again_alternative
  alternative_again a rest h =
      let slots = many_again spell_slot slot_tree (SlotFits limits) slot_tokens again_slot slot_again (a.first ∷ a.others) (spell_many spell_order a.orders (token.Symbol symbol.CloseBrace ∷ rest)) h.1.1 in
      let orders = many_again spell_order order_tree Any order_tokens again_order order_again a.orders (token.Symbol symbol.CloseBrace ∷ rest) slots.1 in
      let tail = join_text (flat_map order_tokens (map order_tree a.orders)) (token.Symbol symbol.CloseBrace ∷ []) (spell_many spell_order (map again_order a.orders)) (λ (x : List Token). token.Symbol symbol.CloseBrace ∷ x) orders.0.written (λ r. refl) in (
        record {
          same = ap (λ (ss : List AstSlot). alternative_with ss (map order_tree (map again_order a.orders))) slots.0.same ∙ ap (λ (os : List AstOrder). alternative_with (slot_tree a.first ∷ map slot_tree a.others) os) orders.0.same;
          fits = slots.0.fits;
          written = λ r. ap (λ (x : List Token). token.Word word.Alternative ∷ token.Symbol symbol.OpenBrace ∷ x) (join_text (flat_map slot_tokens (slot_tree a.first ∷ map slot_tree a.others)) (flat_map order_tokens (map order_tree a.orders) ++ token.Symbol symbol.CloseBrace ∷ []) (spell_many spell_slot (again_slot a.first ∷ map again_slot a.others)) (λ (x : List Token). spell_many spell_order (map again_order a.orders) (token.Symbol symbol.CloseBrace ∷ x)) slots.0.written tail r);
          real = λ r g. (tt, (tt, slots.0.real _ (orders.0.real _ (tt, g))));
        },
        orders.1.1,
      )

  abbrev pub again_kind : KindForm → KindForm
  again_kind k = record { name = k.name; params = map again_param k.params; duration = again_expr k.duration; reservations = map again_reservation k.reservations; links = map again_link k.links; alternatives = map again_alternative k.alternatives }

  abbrev kind_with : Name → List AstParam → AstExpr → List AstReservation → List AstLink → List AstAlternative → AstKind
  kind_with n ps d rs ls as' = record { name = n; params = ps; duration = d; reservations = rs; links = ls; alternatives = as' }

  kind_same : (n : Name) (ps qs : List AstParam) (d e : AstExpr) (rs ss : List AstReservation) (ls ms : List AstLink) (as' bs : List AstAlternative) → ps ≡ qs → d ≡ e → rs ≡ ss → ls ≡ ms → as' ≡ bs → kind_with n ps d rs ls as' ≡ kind_with n qs e ss ms bs
  kind_same n ps qs d e rs ss ls ms as' bs e1 e2 e3 e4 e5 = rw (e1, e2, e3, e4, e5) refl

  kind_again : EachAgain spell_kind kind_tree (KindFits limits) kind_tokens again_kind
  kind_again k rest h =
      let t5 = token.Symbol symbol.CloseBrace ∷ rest in
      let t4 = spell_many spell_alternative k.alternatives t5 in
      let t3 = spell_many spell_link k.links t4 in
      let t2 = spell_many spell_reservation k.reservations t3 in
      let t1 = token.Word word.Duration ∷ spell_expr k.duration t2 in
      let params = many_again spell_param param_tree (ParamFits limits) param_tokens again_param param_again k.params t1 h.1.1.1 in
      let duration = expr_part k.duration t2 params.1.1 in
      let reservations = many_again spell_reservation reservation_tree (ReservationFits limits) reservation_tokens again_reservation reservation_again k.reservations t3 duration.1 in
      let links = many_again spell_link link_tree Any link_tokens again_link link_again k.links t4 reservations.1 in
      let alternatives = many_again spell_alternative alternative_tree (AlternativeFits limits) alternative_tokens again_alternative alternative_again k.alternatives t5 links.1 in
      let w5 = join_text (flat_map alternative_tokens (map alternative_tree k.alternatives)) (token.Symbol symbol.CloseBrace ∷ []) (spell_many spell_alternative (map again_alternative k.alternatives)) (λ (x : List Token). token.Symbol symbol.CloseBrace ∷ x) alternatives.0.written (λ r. refl) in
      let w4 = join_text (flat_map link_tokens (map link_tree k.links)) (flat_map alternative_tokens (map alternative_tree k.alternatives) ++ token.Symbol symbol.CloseBrace ∷ []) (spell_many spell_link (map again_link k.links)) (λ (x : List Token). spell_many spell_alternative (map again_alternative k.alternatives) (token.Symbol symbol.CloseBrace ∷ x)) links.0.written w5 in
      let w3 = join_text (flat_map reservation_tokens (map reservation_tree k.reservations)) (flat_map link_tokens (map link_tree k.links) ++ (flat_map alternative_tokens (map alternative_tree k.alternatives) ++ token.Symbol symbol.CloseBrace ∷ [])) (spell_many spell_reservation (map again_reservation k.reservations)) (λ (x : List Token). spell_many spell_link (map again_link k.links) (spell_many spell_alternative (map again_alternative k.alternatives) (token.Symbol symbol.CloseBrace ∷ x))) reservations.0.written w4 in
      let w2 = join_text (expr_tokens (tree_of k.duration)) (flat_map reservation_tokens (map reservation_tree k.reservations) ++ (flat_map link_tokens (map link_tree k.links) ++ (flat_map alternative_tokens (map alternative_tree k.alternatives) ++ token.Symbol symbol.CloseBrace ∷ []))) (spell_expr (again_expr k.duration)) (λ (x : List Token). spell_many spell_reservation (map again_reservation k.reservations) (spell_many spell_link (map again_link k.links) (spell_many spell_alternative (map again_alternative k.alternatives) (token.Symbol symbol.CloseBrace ∷ x)))) duration.0.written w3 in (
        record {
          same = kind_same k.name _ _ _ _ _ _ _ _ _ _ params.0.same duration.0.same reservations.0.same links.0.same alternatives.0.same;
          fits = λ f. (params.0.fits f.0, duration.0.fits f.1, reservations.0.fits f.2, alternatives.0.fits f.3);
          written = λ r. ap (λ (x : List Token). token.Word word.Kind ∷ token.Name k.name ∷ token.Symbol symbol.OpenBrace ∷ x)
              (join_text (flat_map param_tokens (map param_tree k.params)) (token.Word word.Duration ∷ (expr_tokens (tree_of k.duration) ++ (flat_map reservation_tokens (map reservation_tree k.reservations) ++ (flat_map link_tokens (map link_tree k.links) ++ (flat_map alternative_tokens (map alternative_tree k.alternatives) ++ token.Symbol symbol.CloseBrace ∷ []))))) (spell_many spell_param (map again_param k.params)) (λ (x : List Token). token.Word word.Duration ∷ spell_expr (again_expr k.duration) (spell_many spell_reservation (map again_reservation k.reservations) (spell_many spell_link (map again_link k.links) (spell_many spell_alternative (map again_alternative k.alternatives) (token.Symbol symbol.CloseBrace ∷ x))))) params.0.written (λ q. ap (λ (x : List Token). token.Word word.Duration ∷ x) (w2 q)) r);
          real = λ r g. (tt, (h.1.0, (tt, params.0.real _ (tt, duration.0.real _ (reservations.0.real _ (links.0.real _ (alternatives.0.real _ (tt, g))))))));
        },
        alternatives.1.1,
      )

  abbrev pub again_item : ItemForm → ItemForm
  again_item (timeline t) = timeline (again_timeline t)
  again_item (kind k) = kind (again_kind k)

  item_again : EachAgain spell_item item_tree (ItemFits limits) item_tokens again_item
  item_again (timeline t) rest h = let a = timeline_again t rest h in (record { same = ap item.Timeline a.0.same; fits = λ f. tt; written = a.0.written; real = a.0.real }, a.1)
  item_again (kind k) rest h = let a = kind_again k rest h in (record { same = ap item.Kind a.0.same; fits = a.0.fits; written = a.0.written; real = a.0.real }, a.1)

  abbrev pub again_model : ModelForm → ModelForm
  again_model m = record { horizon = m.horizon; lead = m.lead; items = map again_item m.items }

  abbrev model_with : ModelForm → List Item → Ast
  model_with m is = record { horizon = pos m.horizon; lead = pos m.lead; items = is }

  abbrev ItemsFit : ModelForm → Type 0
  ItemsFit m = AllFit (ItemFits limits) m.items

  pub model_again : EachAgain spell_model model_tree ItemsFit model_tokens again_model
  unfolding model_tokens
  model_again m rest h =
      let items = many_again spell_item item_tree (ItemFits limits) item_tokens again_item item_again m.items rest h.1.1.1.1 in (
        record {
          same = ap (model_with m) items.0.same;
          fits = items.0.fits;
          written = λ r. ap (λ (x : List Token). token.Word word.Horizon ∷ token.Number (pos m.horizon) ∷ token.Word word.Lead ∷ token.Number (pos m.lead) ∷ x) (items.0.written r);
          real = λ r g. (tt, (h.1.0, (tt, (h.1.1.1.0, items.0.real r g))));
        },
        items.1,
      )
