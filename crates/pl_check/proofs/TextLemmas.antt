-- What the grammar gives the tree of a text: names that are names, lists that are not empty, and expressions that are not deep.
use Rattle.std.proofs.Common.{◌≡◌, ℕ, ◌<◌, ◌≤◌, Bool, true, false, List, [], ◌∷◌, ◌++◌, Option, All, length, map, refl, sym, subst, arith}
use Rattle.std.specs.List.{flat_map}
use Rattle.std.proofs.lemmas.List.Elements.{All-nil, All-cons, All-append}
use Rattle.pl_text.specs.Words.{is_name}
use Rattle.pl_syntax.specs.declared.token.Token.{Token}
use Rattle.pl_syntax.specs.declared.token.Token.TheVariants as token
use Rattle.pl_text.specs.declared.word.Word.TheVariants as word
use Rattle.pl_syntax.specs.declared.symbol.Symbol.TheVariants as symbol
use Rattle.pl_syntax.specs.Tokens.{AreReal}
use Rattle.pl_syntax.specs.Spelling.{spell_many, AllFit}
use Rattle.pl_syntax.specs.declared.whole.Ast.{Ast}
use Rattle.pl_syntax.specs.declared.whole.Item.{Item}
use Rattle.pl_syntax.specs.declared.whole.Item.TheVariants as item
use Rattle.pl_syntax.specs.declared.timelines.AstTimeline.{AstTimeline}
use Rattle.pl_syntax.specs.declared.timelines.AstTimeline.TheVariants as line
use Rattle.pl_syntax.specs.declared.kinds.AstKind.{AstKind}
use Rattle.pl_syntax.specs.declared.parameters.AstParam.{AstParam}
use Rattle.pl_syntax.specs.declared.alternatives.AstSlot.{AstSlot}
use Rattle.pl_syntax.specs.declared.alternatives.AstAlternative.{AstAlternative}
use Rattle.pl_syntax.specs.declared.expressions.AstExpr.{AstExpr}
use Rattle.pl_syntax.specs.Expressions.{Expr, expr_tree, spell_expr, Limits, Fits, limits}
use Rattle.pl_syntax.specs.Forms.{Name, SignedForm, bare, negative, spell_signed, StepForm, StepsForm, any_step, only, StatesForm, TimelineForm, capacity, level, states, spell_name, spell_step, spell_steps, spell_states, spell_timeline, OriginForm, plain, default, equals, ParamForm, spell_origin, spell_param, ReservationForm, take, raise, lower, put, must, spell_reservation, LinkForm, spell_link, BindingForm, BindingsForm, no_binding, bindings, SlotForm, OrderForm, AlternativeForm, spell_binding, spell_further, spell_bindings, spell_slot, spell_order, spell_alternative, KindForm, spell_kind, ItemForm, timeline, kind, ModelForm, spell_item, spell_model}
use Rattle.pl_syntax.specs.Trees.{step_tree, steps_tree, timeline_tree, origin_tree, param_tree, reservation_tree, binding_tree, bindings_tree, slot_tree, alternative_tree, kind_tree, item_tree, model_tree}
use Rattle.pl_syntax.specs.Grammar.{OriginFits, ParamFits, ReservationFits, BindingFits, BindingsFit, SlotFits, AlternativeFits, KindFits, ItemFits}
use Rattle.pl_syntax.specs.Answers.{ReadsText}
use Rattle.pl_syntax.proofs.Again.{levels_of, expr_good, expr_levels}
use Rattle.pl_syntax.proofs.TextMarks.{marks_real}
use Rattle.pl_model.specs.Names.{IsName}
use Rattle.pl_check.proofs.ExprListLemmas.{origin_written, param_written, reservation_written, binding_written, slot_written, alternative_written, exprs_written}

-- ---- what is said of the tree

abbrev pub IsNamedLine : AstTimeline → Type 0
IsNamedLine (line.Capacity name most) = IsName name
IsNamedLine (line.Level name least most start) = IsName name
IsNamedLine (line.States name listed start any steps) = IsName name × All IsName listed × (0 < length listed) × (any ≡ true → steps ≡ [])

abbrev pub IsNamed : AstParam → Type 0
IsNamed p = IsName p.name

abbrev pub IsNamedSlot : AstSlot → Type 0
IsNamedSlot s = IsName s.name

abbrev pub HasNamedSlots : AstAlternative → Type 0
HasNamedSlots a = (0 < length a.slots) × All IsNamedSlot a.slots

abbrev pub IsFlat : AstExpr → Type 0
IsFlat e = levels_of e ≤ 32

pub record IsTextKind (k : AstKind) : Type 0 where
  pub name : IsName k.name
  pub params : All IsNamed k.params
  pub exprs : All IsFlat (exprs_written k)
  pub alternatives : All HasNamedSlots k.alternatives

abbrev pub IsTextItem : Item → Type 0
IsTextItem (item.Timeline l) = IsNamedLine l
IsTextItem (item.Kind k) = IsTextKind k

-- ---- names, from the tokens

-- a form's tokens say this of its value, and leave the tokens behind it
abbrev Says : {I X : Type 0} → (I → List Token → List Token) → (I → X) → (X → Type 0) → Type 0
Says {I} spell value P = (f : I) (rest : List Token) → AreReal (spell f rest) → P (value f) × AreReal rest

abbrev Nothing : {X : Type 0} → X → Type 0
Nothing x = Unit {0}

module _ {I X : Type 0} (spell : I → List Token → List Token) (value : I → X) (P : X → Type 0) (says : Says spell value P) where
  many_say : (fs : List I) (rest : List Token) → AreReal (spell_many spell fs rest) → All P (map value fs) × AreReal rest
  many_say [] rest h = (All-nil P, h)
  many_say (f ∷ fs) rest h =
      let one = says f (spell_many spell fs rest) h in
      let others = many_say fs rest one.1 in
      (All-cons P (value f) (map value fs) one.0 others.0, others.1)

expr_says : Says spell_expr (λ e. e) Nothing
expr_says e rest h = (tt, (expr_good e rest h).1)

names_say : (ns : List Name) (rest : List Token) → AreReal (spell_many spell_name ns rest) → All IsName ns × AreReal rest
names_say [] rest h = (All-nil IsName, h)
names_say (n ∷ ns) rest h = let others = names_say ns rest h.1 in (All-cons IsName n ns h.0 others.0, others.1)

step_says : Says spell_step step_tree Nothing
step_says s rest h = (tt, h.1.1.1)

steps_say : Says spell_steps steps_tree (λ p. p.0 ≡ true → p.1 ≡ [])
steps_say any_step rest h = (λ e. refl, h.1)
steps_say (only ss) rest h = (λ e. absurd (cc), (many_say spell_step step_tree Nothing step_says ss rest h).1)

timeline_says : Says spell_timeline timeline_tree IsNamedLine
timeline_says (capacity n most) rest h = (h.1.0, h.1.1.1)
timeline_says (level n least most start) rest h = (h.1.0, h.1.1.1.1.1)
timeline_says (states s) rest h =
    let others = names_say s.others (token.Symbol symbol.CloseBrace ∷ token.Word word.Start ∷ token.Name s.start ∷ spell_steps s.steps rest) h.1.1.1.1 in
    let steps = steps_say s.steps rest others.1.1.1.1 in
    ((h.1.0, All-cons IsName s.first s.others h.1.1.1.0 others.0, omega arith, steps.0), steps.1)

signed_says : Says spell_signed (λ s. s) Nothing
signed_says (bare n) rest h = (tt, h.1)
signed_says (negative n) rest h = (tt, h.1.1)

origin_says : Says spell_origin origin_tree Nothing
origin_says plain rest h = (tt, h)
origin_says (default n) rest h = (tt, h.1.1)
origin_says (equals e) rest h = (tt, (expr_good e rest h.1).1)

param_says : Says spell_param param_tree IsNamed
param_says p rest h = (h.1.0, (origin_says p.origin rest h.1.1.1.1).1)

reservation_says : Says spell_reservation reservation_tree Nothing
reservation_says (take n e) rest h = (tt, (expr_good e rest h.1.1).1)
reservation_says (raise n e p) rest h = (tt, (expr_good e _ h.1.1).1.1.1)
reservation_says (lower n e p) rest h = (tt, (expr_good e _ h.1.1).1.1.1)
reservation_says (put n s p) rest h = (tt, h.1.1.1.1.1)
reservation_says (must n s) rest h = (tt, h.1.1.1)

link_says : Says spell_link (λ l. l) Nothing
link_says l rest h =
    let low = signed_says l.low (spell_signed l.high rest) h.1.1.1.1 in
    (tt, (signed_says l.high rest low.1).1)

binding_says : Says spell_binding binding_tree Nothing
binding_says b rest h = (tt, (expr_good b.value rest h.1.1).1)

further_says : Says spell_further binding_tree Nothing
further_says b rest h = binding_says b rest h.1

bindings_say : Says spell_bindings bindings_tree Nothing
bindings_say no_binding rest h = (tt, h)
bindings_say (bindings b bs) rest h =
    let one = binding_says b (spell_many spell_further bs (token.Symbol symbol.Close ∷ rest)) h.1 in
    let others = many_say spell_further binding_tree Nothing further_says bs (token.Symbol symbol.Close ∷ rest) one.1 in
    (tt, others.1.1)

slot_says : Says spell_slot slot_tree IsNamedSlot
slot_says s rest h = (h.1.0, (bindings_say s.given rest h.1.1.1).1)

order_says : Says spell_order (λ o. o) Nothing
order_says o rest h =
    let low = signed_says o.low (spell_signed o.high rest) h.1.1.1.1.1 in
    (tt, (signed_says o.high rest low.1).1)

alternative_says : Says spell_alternative alternative_tree HasNamedSlots
alternative_says a rest h =
    let first = slot_says a.first (spell_many spell_slot a.others (spell_many spell_order a.orders (token.Symbol symbol.CloseBrace ∷ rest))) h.1.1 in
    let others = many_say spell_slot slot_tree IsNamedSlot slot_says a.others (spell_many spell_order a.orders (token.Symbol symbol.CloseBrace ∷ rest)) first.1 in
    let orders = many_say spell_order (λ o. o) Nothing order_says a.orders (token.Symbol symbol.CloseBrace ∷ rest) others.1 in
    ((omega arith, All-cons IsNamedSlot (slot_tree a.first) (map slot_tree a.others) first.0 others.0), orders.1.1)

record HasNames (k : AstKind) : Type 0 where
  pub name : IsName k.name
  pub params : All IsNamed k.params
  pub alternatives : All HasNamedSlots k.alternatives

kind_says : Says spell_kind kind_tree HasNames
kind_says k rest h =
    let close : List Token = token.Symbol symbol.CloseBrace ∷ rest in
    let params = many_say spell_param param_tree IsNamed param_says k.params (token.Word word.Duration ∷ spell_expr k.duration (spell_many spell_reservation k.reservations (spell_many spell_link k.links (spell_many spell_alternative k.alternatives close)))) h.1.1.1 in
    let duration = expr_says k.duration (spell_many spell_reservation k.reservations (spell_many spell_link k.links (spell_many spell_alternative k.alternatives close))) params.1.1 in
    let reservations = many_say spell_reservation reservation_tree Nothing reservation_says k.reservations (spell_many spell_link k.links (spell_many spell_alternative k.alternatives close)) duration.1 in
    let links = many_say spell_link (λ l. l) Nothing link_says k.links (spell_many spell_alternative k.alternatives close) reservations.1 in
    let alternatives = many_say spell_alternative alternative_tree HasNamedSlots alternative_says k.alternatives close links.1 in
    (record { name = h.1.0; params = params.0; alternatives = alternatives.0 }, alternatives.1.1)

-- ---- levels, from the limits

single_flat : (e : Expr) → Fits limits e → All IsFlat ((expr_tree e).0 ∷ [])
single_flat e h = All-cons IsFlat (expr_tree e).0 [] (omega (arith, h.0, expr_levels e)) (All-nil IsFlat)

module _ {I X : Type 0} (ok : I → Type 0) (value : I → X) (exprs : X → List AstExpr) (each : (f : I) → ok f → All IsFlat (exprs (value f))) where
  many_flat : (fs : List I) → AllFit ok fs → All IsFlat (flat_map exprs (map value fs))
  many_flat [] h = All-nil IsFlat
  many_flat (f ∷ fs) h = All-append IsFlat (exprs (value f)) (flat_map exprs (map value fs)) (each f h.0) (many_flat fs h.1)

origin_flat : (o : OriginForm) → OriginFits limits o → All IsFlat (origin_written (origin_tree o))
origin_flat plain h = All-nil IsFlat
origin_flat (default n) h = All-nil IsFlat
origin_flat (equals e) h = single_flat e h

reservation_flat : (r : ReservationForm) → ReservationFits limits r → All IsFlat (reservation_written (reservation_tree r))
reservation_flat (take n e) h = single_flat e h
reservation_flat (raise n e p) h = single_flat e h
reservation_flat (lower n e p) h = single_flat e h
reservation_flat (put n s p) h = All-nil IsFlat
reservation_flat (must n s) h = All-nil IsFlat

further_flat : (bs : List BindingForm) → AllFit (BindingFits limits) bs → All IsFlat (map binding_written (map binding_tree bs))
further_flat [] h = All-nil IsFlat
further_flat (b ∷ bs) h = All-cons IsFlat (expr_tree b.value).0 (map binding_written (map binding_tree bs)) (omega (arith, h.0.0, expr_levels b.value)) (further_flat bs h.1)

bindings_flat : (g : BindingsForm) → BindingsFit limits g → All IsFlat (map binding_written (bindings_tree g))
bindings_flat no_binding h = All-nil IsFlat
bindings_flat (bindings b bs) h = All-cons IsFlat (expr_tree b.value).0 (map binding_written (map binding_tree bs)) (omega (arith, h.0.0, expr_levels b.value)) (further_flat bs h.1)

slot_flat : (s : SlotForm) → SlotFits limits s → All IsFlat (slot_written (slot_tree s))
slot_flat s h = bindings_flat s.given h

alternative_flat : (a : AlternativeForm) → AlternativeFits limits a → All IsFlat (alternative_written (alternative_tree a))
alternative_flat a h =
    All-append IsFlat (slot_written (slot_tree a.first)) (flat_map slot_written (map slot_tree a.others)) (slot_flat a.first h.0)
    (many_flat (SlotFits limits) slot_tree slot_written slot_flat a.others h.1)

kind_flat : (k : KindForm) → KindFits limits k → All IsFlat (exprs_written (kind_tree k))
kind_flat k h =
    let params = many_flat (ParamFits limits) param_tree param_written (λ p f. origin_flat p.origin f) k.params h.0 in
    let reservations = many_flat (ReservationFits limits) reservation_tree reservation_written reservation_flat k.reservations h.2 in
    let alternatives = many_flat (AlternativeFits limits) alternative_tree alternative_written alternative_flat k.alternatives h.3 in
    All-cons IsFlat (expr_tree k.duration).0 _ (omega (arith, h.1.0, expr_levels k.duration))
    (All-append IsFlat (flat_map param_written (map param_tree k.params)) _ params
    (All-append IsFlat (flat_map reservation_written (map reservation_tree k.reservations)) (flat_map alternative_written (map alternative_tree k.alternatives)) reservations alternatives))

-- ---- the whole tree

item_said : (i : ItemForm) (rest : List Token) → ItemFits limits i → AreReal (spell_item i rest) → IsTextItem (item_tree i) × AreReal rest
item_said (timeline t) rest f h = timeline_says t rest h
item_said (kind k) rest f h =
    let said = kind_says k rest h in
    (record { name = said.0.name; params = said.0.params; exprs = kind_flat k f; alternatives = said.0.alternatives }, said.1)

items_said : (is : List ItemForm) (rest : List Token) → AllFit (ItemFits limits) is → AreReal (spell_many spell_item is rest) → All IsTextItem (map item_tree is) × AreReal rest
items_said [] rest f h = (All-nil IsTextItem, h)
items_said (i ∷ is) rest f h =
    let one = item_said i (spell_many spell_item is rest) f.0 h in
    let others = items_said is rest f.1 one.1 in
    (All-cons IsTextItem (item_tree i) (map item_tree is) one.0 others.0, others.1)

-- the tree of a text
pub text_items : (text : List ℕ) (ast : Ast) → ReadsText text ast → All IsTextItem ast.items
text_items text ast h =
    let form = h.reads.form in
    let P : List Token → Type 0 = λ x. AreReal x in
    let real : AreReal (spell_model form []) = subst P h.reads.spelled (marks_real text h.tokens h.lexed) in
    let said = items_said form.items [] h.reads.fits real.1.1.1.1 in
    subst (λ (x : Ast). All IsTextItem x.items) (sym h.reads.tree) said.0
