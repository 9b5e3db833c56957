-- Names that differ in the text differ in the model, and so do the numbers of the parameters that a slot binds.
use Rattle.std.proofs.Common.{◌≡◌, ◌≢◌, ℕ, ℤ, List, [], ◌∷◌, ◌++◌, Option, Some, Ok, All, length, map, slice_get, bytes_eq, refl, sym, ap, subst, ◌∙◌, arith}
use Rattle.std.specs.Cmp.Lexicographic.{bytes_decides}
use Rattle.std.proofs.lemmas.List.Elements.{All-nil, All-cons, All-head, All-tail, All-append, All-weaker}
use Rattle.std.proofs.lemmas.List.Kept.{AllPairs-cons}
use Rattle.std.proofs.lemmas.Bool.{and_parts}
use Rattle.pl_syntax.specs.declared.whole.Item.{Item}
use Rattle.pl_syntax.specs.declared.whole.Item.TheVariants as item
use Rattle.pl_syntax.specs.declared.timelines.AstTimeline.{AstTimeline}
use Rattle.pl_syntax.specs.declared.timelines.AstTimeline.TheVariants as line
use Rattle.pl_syntax.specs.declared.kinds.AstKind.{AstKind}
use Rattle.pl_syntax.specs.declared.parameters.AstParam.{AstParam}
use Rattle.pl_syntax.specs.declared.alternatives.AstSlot.{AstSlot}
use Rattle.pl_syntax.specs.declared.alternatives.AstAlternative.{AstAlternative}
use Rattle.pl_syntax.specs.declared.expressions.AstExpr.{AstExpr}
use Rattle.pl_model.specs.declared.expressions.Expr.{Expr}
use Rattle.pl_model.specs.declared.parameters.Param.{Param}
use Rattle.pl_model.specs.declared.alternatives.Slot.{Slot}
use Rattle.pl_model.specs.declared.timelines.Timeline.{Timeline}
use Rattle.pl_model.specs.declared.timelines.Timeline.TheVariants as timeline
use Rattle.pl_model.specs.declared.alternatives.Alternative.{Alternative}
use Rattle.pl_model.specs.declared.kinds.Kind.{Kind}
use Rattle.pl_model.specs.Names as model
use Rattle.pl_model.specs.Names.{Differ, bound_number, HasDistinctStates, BindsOnce, HasDistinctSlots, HasDistinctParts}
use Rattle.pl_check.specs.declared.drafts.DraftAlternative.{DraftAlternative}
use Rattle.pl_check.specs.declared.drafts.DraftKind.{DraftKind}
use Rattle.pl_check.specs.Judgements.{pass, each, each_made}
use Rattle.pl_check.specs.Names.{Name, line_name, item_name, param_name, slot_name, binding_name, own_name, nothing_inside, distinct, twice_in_line, twice_in_slot, twice_in_alternative, twice_in_kind}
use Rattle.pl_check.specs.Finding.{known, kind_named, bindable_named, is_bindable_named, is_unequalled}
use Rattle.pl_check.specs.Numbering.{numbered, numbered_line, numbered_step, numbered_origin, numbered_param, numbered_binding, numbered_slot, numbered_order, numbered_alternative, state_number}
use Rattle.pl_lists.specs.Lists.{Pairwise}
use Rattle.pl_check.specs.Networks.{FinishesAlternative, FinishesKind, span_of}
use Rattle.pl_check.proofs.SizeLemmas.{then_passes}
use Rattle.pl_check.proofs.RangeLemmas.{each_passes}
use Rattle.pl_lists.proofs.Judging.{bind_ok}
use Rattle.pl_check.proofs.PairLemmas.{known_ok, ok_same, placed_at, pair_all, pair_map, each_pairs, Makes}
use Rattle.pl_check.proofs.MadeLemmas.{written_kinds, written_lines}
use Rattle.pl_check.proofs.DraftLemmas.{Numbers}
use Rattle.pl_check.proofs.NumberLemmas.{params_made}
use Rattle.pl_check.proofs.DistinctLemmas.{differ_head, differ_tail, differ_back, are_distinct}

-- ---- lists

-- what corresponds has one name
pub same_names : {X Y N : Type 0} (R : X → Y → Type 0) (f : X → N) (g : Y → N) → ((x : X) (y : Y) → R x y → f x ≡ g y) → (xs : List X) (ys : List Y) → Pairwise R xs ys → map f xs ≡ map g ys
same_names R f g k [] [] h = refl
same_names R f g k [] (y ∷ ys) h = absurd h
same_names R f g k (x ∷ xs) [] h = absurd h
same_names R f g k (x ∷ xs) (y ∷ ys) h = ap (λ n. n ∷ map f xs) (k x y h.0) ∙ ap (λ ns. g y ∷ ns) (same_names R f g k xs ys h.1)

map_own : (names : List Name) → map own_name names ≡ names
map_own [] = refl
map_own (n ∷ names) = ap (λ ns. n ∷ ns) (map_own names)

-- each of the one list differs from each of the other
abbrev AreApart : List Name → List Name → Type 0
AreApart xs ys = All (λ x. All (λ y. x ≢ y) ys) xs

differ_append : (xs ys : List Name) → Differ xs → Differ ys → AreApart xs ys → Differ (xs ++ ys)
differ_append [] ys d e a = e
differ_append (x ∷ xs) ys d e a =
    AllPairs-cons (λ m n. m ≢ n) x (xs ++ ys) (All-append (λ n. x ≢ n) xs ys (differ_head x xs d) (All-head (λ m. All (λ n. m ≢ n) ys) x xs a))
    (differ_append xs ys (differ_tail x xs d) e (All-tail (λ m. All (λ n. m ≢ n) ys) x xs a))

-- ---- timelines and kinds

abbrev pub kind_text : AstKind → Name
kind_text k = k.name

of_sorts : (P : Name → Type 0) (items : List Item) → All P (map item_name items) → All P (map line_name (written_lines items)) × All P (map kind_text (written_kinds items))
of_sorts P [] h = (All-nil P, All-nil P)
of_sorts P (item.Timeline l ∷ items) h =
    let rest = of_sorts P items (All-tail P (line_name l) (map item_name items) h) in
    (All-cons P (line_name l) (map line_name (written_lines items)) (All-head P (line_name l) (map item_name items) h) rest.0, rest.1)
of_sorts P (item.Kind k ∷ items) h =
    let rest = of_sorts P items (All-tail P k.name (map item_name items) h) in
    (rest.0, All-cons P k.name (map kind_text (written_kinds items)) (All-head P k.name (map item_name items) h) rest.1)

record HasOwnNames (items : List Item) : Type 0 where
  pub lines : Differ (map line_name (written_lines items))
  pub kinds : Differ (map kind_text (written_kinds items))
  pub across : AreApart (map line_name (written_lines items)) (map kind_text (written_kinds items))

has_own : (items : List Item) → Differ (map item_name items) → HasOwnNames items
has_own [] d = record { lines = d; kinds = d; across = All-nil (λ x. All (λ y. x ≢ y) []) }
has_own (item.Timeline l ∷ items) d =
    let rest = has_own items (differ_tail (line_name l) (map item_name items) d) in
    let apart = of_sorts (λ n. line_name l ≢ n) items (differ_head (line_name l) (map item_name items) d) in
    record {
      lines = AllPairs-cons (λ m n. m ≢ n) (line_name l) (map line_name (written_lines items)) apart.0 rest.lines;
      kinds = rest.kinds;
      across = All-cons (λ x. All (λ y. x ≢ y) (map kind_text (written_kinds items))) (line_name l) (map line_name (written_lines items)) apart.1 rest.across;
    }
has_own (item.Kind k ∷ items) d =
    let rest = has_own items (differ_tail k.name (map item_name items) d) in
    let apart = of_sorts (λ n. k.name ≢ n) items (differ_head k.name (map item_name items) d) in
    let front : All (λ x. x ≢ k.name) (map line_name (written_lines items)) = All-weaker (λ n. k.name ≢ n) (λ x. x ≢ k.name) (λ n f e. f (sym e)) (map line_name (written_lines items)) apart.0 in
    record {
      lines = rest.lines;
      kinds = AllPairs-cons (λ m n. m ≢ n) k.name (map kind_text (written_kinds items)) apart.1 rest.kinds;
      across = All-weaker (λ x. (x ≢ k.name) × All (λ y. x ≢ y) (map kind_text (written_kinds items))) (λ x. All (λ y. x ≢ y) (k.name ∷ map kind_text (written_kinds items)))
          (λ x both. All-cons (λ y. x ≢ y) k.name (map kind_text (written_kinds items)) both.0 both.1) (map line_name (written_lines items)) (λ i e lt. (front i e lt, rest.across i e lt));
    }

-- the names of timelines and kinds share one space
pub items_differ : (items : List Item) → Differ (map item_name items) → Differ (map line_name (written_lines items) ++ map kind_text (written_kinds items))
items_differ items d =
    let own = has_own items d in
    differ_append (map line_name (written_lines items)) (map kind_text (written_kinds items)) own.lines own.kinds own.across

pub line_named : (a : AstTimeline) (t : Timeline) → numbered_line a ≡ Ok t → line_name a ≡ model.line_name t
line_named (line.Capacity name most) t h = ap model.line_name (ok_same _ t h)
line_named (line.Level name least most start) t h = ap model.line_name (ok_same _ t h)
line_named (line.States name states start any steps) t h =
    let first = bind_ok (state_number states start) _ t h in
    let moves = bind_ok (each_made (numbered_step states) steps) _ t first.2 in
    ap model.line_name (ok_same _ t moves.2)

-- ---- states

pub states_differ : (a : AstTimeline) (t : Timeline) → numbered_line a ≡ Ok t → twice_in_line a ≡ pass → HasDistinctStates t
states_differ (line.Capacity name most) t h w = subst HasDistinctStates (ok_same _ t h) tt
states_differ (line.Level name least most start) t h w = subst HasDistinctStates (ok_same _ t h) tt
states_differ (line.States name states start any steps) t h w =
    let first = bind_ok (state_number states start) _ t h in
    let moves = bind_ok (each_made (numbered_step states) steps) _ t first.2 in
    subst HasDistinctStates (ok_same _ t moves.2) (subst Differ (map_own states) (are_distinct own_name nothing_inside [] states w).differ)

-- ---- parameters and slots

pub param_named_so : (params : List AstParam) (a : AstParam) (p : Param) → numbered_param params a ≡ Ok p → param_name a ≡ model.param_name p
param_named_so params a p h = let made = bind_ok (numbered_origin params a.origin) _ p h in ap model.param_name (ok_same _ p made.2)

pub slot_named_so : (items : List Item) (params : List AstParam) (a : AstSlot) (s : Slot) → numbered_slot items params a ≡ Ok s → slot_name a ≡ model.slot_name s
slot_named_so items params a s h =
    let kind = bind_ok (known a.kind (kind_named items a.kind)) _ s h in
    let bindings = bind_ok (each_made (numbered_binding params kind.0.1.params) a.bindings) _ s kind.2 in
    ap model.slot_name (ok_same _ s bindings.2)

-- ---- bindings

module _ (params of_slot : List AstParam) where
  abbrev Binds : Name → ℕ → Type 0
  Binds name p = bindable_named of_slot name ≡ Some p

  binds : (a : Name × AstExpr) (b : ℕ × Expr) → numbered_binding params of_slot a ≡ Ok b → Binds (binding_name a) (bound_number b)
  binds a b h =
      let left = bind_ok (known a.0 (bindable_named of_slot a.0)) _ b h in
      let right = bind_ok (numbered params a.1) _ b left.2 in
      known_ok a.0 (bindable_named of_slot a.0) left.0 left.1 ∙ ap (λ (x : ℕ × Expr). Some x.0) (ok_same _ b right.2)

  one_name : (m n : Name) (p q : ℕ) → Binds m p → Binds n q → p ≡ q → m ≡ n
  one_name m n p q h k e =
      let first = placed_at (is_bindable_named m) of_slot p h in
      let second = placed_at (is_bindable_named n) of_slot p (k ∙ ap Some (sym e)) in
      let found : first.0 ≡ second.0 = let same : Some first.0 ≡ Some second.0 = sym first.1 ∙ second.1 in cc in
      let of_first : first.0.name ≡ m = (bytes_decides first.0.name m).0 (and_parts (bytes_eq first.0.name m) (is_unequalled first.0.origin) first.2).0 in
      let of_second : second.0.name ≡ n = (bytes_decides second.0.name n).0 (and_parts (bytes_eq second.0.name n) (is_unequalled second.0.origin) second.2).0 in
      sym of_first ∙ ap (λ (x : AstParam). x.name) found ∙ of_second

  bindings_differ : (bs : List (Name × AstExpr)) (xs : List (ℕ × Expr)) → each_made (numbered_binding params of_slot) bs ≡ Ok xs → Differ (map binding_name bs) → Differ (map bound_number xs)
  bindings_differ bs xs h d =
      differ_back Binds (map binding_name bs) (map bound_number xs) (λ m n p q s t e. one_name m n p q s t e)
      (pair_map (Makes (numbered_binding params of_slot)) Binds binding_name bound_number binds bs xs (each_pairs (numbered_binding params of_slot) bs xs h)) d

slot_differs : (items : List Item) (params : List AstParam) (a : AstSlot) (s : Slot) → numbered_slot items params a ≡ Ok s → twice_in_slot a ≡ pass → BindsOnce s
slot_differs items params a s h t =
    let kind = bind_ok (known a.kind (kind_named items a.kind)) _ s h in
    let bindings = bind_ok (each_made (numbered_binding params kind.0.1.params) a.bindings) _ s kind.2 in
    let own = (are_distinct binding_name nothing_inside [] a.bindings t).differ in
    record { differ = subst (λ (x : Slot). Differ (map bound_number x.bindings)) (ok_same _ s bindings.2) (bindings_differ params kind.0.1.params a.bindings bindings.0 bindings.1 own) }

-- ---- alternatives and kinds

record HasDistinctDrafts (d : DraftAlternative) : Type 0 where
  pub slots : Differ (map model.slot_name d.slots)
  pub bindings : All BindsOnce d.slots

alternative_differs : (items : List Item) (params : List AstParam) (a : AstAlternative) (d : DraftAlternative) → numbered_alternative items params a ≡ Ok d → twice_in_alternative a ≡ pass → HasDistinctDrafts d
alternative_differs items params a d h t =
    let slots = bind_ok (each_made (numbered_slot items params) a.slots) _ d h in
    let orders = bind_ok (each_made (numbered_order a.slots) a.orders) _ d slots.2 in
    let pairs = each_pairs (numbered_slot items params) a.slots slots.0 slots.1 in
    let own = are_distinct slot_name twice_in_slot [] a.slots t in
    let names : map slot_name a.slots ≡ map model.slot_name slots.0 = same_names (Makes (numbered_slot items params)) slot_name model.slot_name (λ x y k. slot_named_so items params x y k) a.slots slots.0 pairs in
    let bindings : All BindsOnce slots.0 = pair_all (Makes (numbered_slot items params)) (λ x. twice_in_slot x ≡ pass) BindsOnce (λ x y w k. slot_differs items params x y k w) a.slots slots.0 own.passes pairs in
    let same : slots.0 ≡ d.slots = ap (λ (x : DraftAlternative). x.slots) (ok_same _ d orders.2) in
    record { slots = subst (λ ss. Differ (map model.slot_name ss)) same (subst Differ names own.differ); bindings = subst (All BindsOnce) same bindings }

pub kind_differs : (items : List Item) (horizon : ℤ) (spans : List (ℤ × ℤ)) (k : AstKind) (d : DraftKind) (m : Kind) → Numbers items k d → FinishesKind horizon spans d m → twice_in_kind k ≡ pass → HasDistinctParts m
kind_differs items horizon spans k d m numbers f t =
    let both = then_passes (distinct param_name nothing_inside [] k.params) (each twice_in_alternative k.alternatives) tt t in
    let own = (are_distinct param_name nothing_inside [] k.params both.0).differ in
    let named : map param_name k.params ≡ map model.param_name m.params =
    same_names (Makes (numbered_param k.params)) param_name model.param_name (λ x y n. param_named_so k.params x y n) k.params d.params (params_made k.params d.params numbers.params) ∙ ap (map model.param_name) (sym f.params) in
    let drafts : All HasDistinctDrafts d.alternatives =
    pair_all (Makes (numbered_alternative items k.params)) (λ a. twice_in_alternative a ≡ pass) HasDistinctDrafts (λ a x w n. alternative_differs items k.params a x n w) k.alternatives d.alternatives (each_passes twice_in_alternative k.alternatives both.1) numbers.alternatives in
    record {
      params = subst Differ named own;
      alternatives = pair_all (FinishesAlternative spans (span_of horizon d)) HasDistinctDrafts HasDistinctSlots
          (λ x a h g. record { slots = subst (λ ss. Differ (map model.slot_name ss)) (sym g.slots) h.slots; bindings = subst (All BindsOnce) (sym g.slots) h.bindings }) d.alternatives m.alternatives drafts f.alternatives;
    }
