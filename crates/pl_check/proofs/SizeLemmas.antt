-- What a tree's counts say of its parts, where they pass.
use Rattle.std.proofs.Common.{◌≡◌, ℕ, ◌+◌, ◌≤◌, Bool, true, false, cond, List, [], ◌∷◌, All, length, map, Ok, Err, refl, arith}
use Rattle.std.proofs.lemmas.Bool.Decides.{nat_tests}
use Rattle.std.proofs.lemmas.List.Elements.{All-nil, All-cons, All-weaker}
use Rattle.std.specs.Prelude.{nat_le}
use Rattle.pl_syntax.specs.declared.whole.Ast.{Ast}
use Rattle.pl_syntax.specs.declared.whole.Item.{Item}
use Rattle.pl_syntax.specs.declared.whole.Item.TheVariants as item
use Rattle.pl_syntax.specs.declared.timelines.AstTimeline.{AstTimeline}
use Rattle.pl_syntax.specs.declared.timelines.AstTimeline.TheVariants as line
use Rattle.pl_syntax.specs.declared.kinds.AstKind.{AstKind}
use Rattle.pl_syntax.specs.declared.alternatives.AstAlternative.{AstAlternative}
use Rattle.pl_check.specs.declared.fault.What.{What}
use Rattle.pl_check.specs.declared.fault.What.TheVariants as what
use Rattle.pl_check.specs.declared.fault.ModelFault.{ModelFault}
use Rattle.pl_check.specs.declared.fault.ModelFault.TheVariants as fault
use Rattle.pl_check.specs.Judgements.{Judged, Judgement, pass, ◌>>◌, at_most, at_most_from}
use Rattle.pl_check.specs.Counts.{few_nodes, counts_in_param, counts_in_reservation, counts_in_link, counts_in_slot, counts_in_order, counts_in_alternative, counts_in_kind, counts_in_state, counts_in_line, counts_in_items, counts_in}
use Rattle.pl_check.specs.Names.{Name, item_name}
use Rattle.pl_check.specs.Sizes.{IsScope, IsSmallAlternative, IsSmallKind, IsSmallLine, IsSmallItem}

-- both pass
pub then_passes : {Y : Type 0} (a : Judgement) (b : Judged Y) (y : Y) → (a >> b) ≡ Ok y → (a ≡ pass) × (b ≡ Ok y)
then_passes (Ok x) b y h = (refl, h)
then_passes (Err e) b y h = absurd (cc)

-- the test failed, and the rest passes
pub not_too_many : (b : Bool) (e : ModelFault) (later : Judgement) → cond b (Err e) later ≡ pass → (b ≡ false) × (later ≡ pass)
not_too_many true e later h = absurd (cc)
not_too_many false e later h = (refl, h)

pub below_from_test : (a b : ℕ) → nat_le a b ≡ false → b + 1 ≤ a
below_from_test a b h = grind (arith, nat_tests)

module _ {X : Type 0} (limit : ℕ) (w : What) (judge : X → Judgement) where
  few_from : (place : ℕ) (xs : List X) → place ≤ limit → at_most_from place limit w judge xs ≡ pass → (place + length xs ≤ limit) × All (λ x. judge x ≡ pass) xs
  few_from place [] le h = (omega arith, All-nil (λ x. judge x ≡ pass))
  few_from place (x ∷ xs) le h =
      let split = not_too_many (nat_le limit place) (fault.TooMany w) (judge x >> at_most_from (place + 1) limit w judge xs) h in
      let both = then_passes (judge x) (at_most_from (place + 1) limit w judge xs) tt split.1 in
      let rest = few_from (place + 1) xs (below_from_test limit place split.0) both.1 in
      (omega (arith, rest.0), All-cons (λ y. judge y ≡ pass) x xs both.0 rest.1)

  pub few : (xs : List X) → at_most limit w judge xs ≡ pass → (length xs ≤ limit) × All (λ x. judge x ≡ pass) xs
  few xs h = let found = few_from 0 xs (omega arith) h in (omega (arith, found.0), found.1)

pub small_alternative : (a : AstAlternative) → counts_in_alternative a ≡ pass → IsSmallAlternative a
small_alternative a h =
    let both = then_passes (at_most 16 what.Slots counts_in_slot a.slots) (at_most 64 what.Orders counts_in_order a.orders) tt h in
    ((few 16 what.Slots counts_in_slot a.slots both.0).0, (few 64 what.Orders counts_in_order a.orders both.1).0)

small_kind : (k : AstKind) → counts_in_kind k ≡ pass → IsSmallKind k
small_kind k h =
    let params = then_passes (at_most 16 what.Params counts_in_param k.params) _ tt h in
    let duration = then_passes (few_nodes k.duration) _ tt params.1 in
    let reservations = then_passes (at_most 32 what.Reservations counts_in_reservation k.reservations) _ tt duration.1 in
    let links = then_passes (at_most 16 what.Links counts_in_link k.links) (at_most 8 what.Alternatives counts_in_alternative k.alternatives) tt reservations.1 in
    let alternatives = few 8 what.Alternatives counts_in_alternative k.alternatives links.1 in
    record {
      params = (few 16 what.Params counts_in_param k.params params.0).0;
      alternatives = All-weaker (λ a. counts_in_alternative a ≡ pass) IsSmallAlternative small_alternative k.alternatives alternatives.1;
      few_alternatives = alternatives.0;
    }

pub small_line : (l : AstTimeline) → counts_in_line l ≡ pass → IsSmallLine l
small_line (line.Capacity name most) h = tt
small_line (line.Level name least most start) h = tt
small_line (line.States name states start any steps) h = (few 32 what.States counts_in_state states h).0

small_items : (lines kinds : ℕ) (items : List Item) → lines ≤ 256 → kinds ≤ 256 → counts_in_items lines kinds items ≡ pass → (lines + kinds + length items ≤ 512) × All IsSmallItem items
small_items lines kinds [] l k h = (omega arith, All-nil IsSmallItem)
small_items lines kinds (item.Timeline x ∷ items) l k h =
    let split = not_too_many (nat_le 256 lines) (fault.TooMany what.Timelines) (counts_in_line x >> counts_in_items (lines + 1) kinds items) h in
    let both = then_passes (counts_in_line x) (counts_in_items (lines + 1) kinds items) tt split.1 in
    let rest = small_items (lines + 1) kinds items (below_from_test 256 lines split.0) k both.1 in
    (omega (arith, rest.0), All-cons IsSmallItem (item.Timeline x) items (small_line x both.0) rest.1)
small_items lines kinds (item.Kind x ∷ items) l k h =
    let split = not_too_many (nat_le 256 kinds) (fault.TooMany what.Kinds) (counts_in_kind x >> counts_in_items lines (kinds + 1) items) h in
    let both = then_passes (counts_in_kind x) (counts_in_items lines (kinds + 1) items) tt split.1 in
    let rest = small_items lines (kinds + 1) items l (below_from_test 256 kinds split.0) both.1 in
    (omega (arith, rest.0), All-cons IsSmallItem (item.Kind x) items (small_kind x both.0) rest.1)

few_items : (ast : Ast) → counts_in ast ≡ pass → length ast.items ≤ 512
few_items ast h = omega (arith, (small_items 0 0 ast.items (omega arith) (omega arith) h).0)

all_small : (ast : Ast) → counts_in ast ≡ pass → All IsSmallItem ast.items
all_small ast h = (small_items 0 0 ast.items (omega arith) (omega arith) h).1

pub scope_of : (names : List Name) (ast : Ast) → names ≡ map item_name ast.items → counts_in ast ≡ pass → IsScope names ast.items
scope_of names ast e h = record { named = e; few = few_items ast h; small = all_small ast h }
