-- What a model's parts hold, where every row passes.
use Rattle.std.proofs.Common.{◌≡◌, ℕ, ◌<◌, ℤ, pos, neg_ℤ, true, List, Some, None, Ok, All, length, sym, ap, subst, ◌∙◌, arith}
use Rattle.std.specs.Prelude.{int_le, ◌&&◌}
use Rattle.std.proofs.lemmas.Option.{slice_get_within}
use Rattle.std.proofs.lemmas.Bool.{and_parts}
use Rattle.pl_syntax.specs.declared.whole.Item.{Item}
use Rattle.pl_syntax.specs.declared.timelines.AstTimeline.{AstTimeline}
use Rattle.pl_syntax.specs.declared.timelines.AstTimeline.TheVariants as line
use Rattle.pl_syntax.specs.declared.parameters.AstParam.{AstParam}
use Rattle.pl_syntax.specs.declared.parameters.AstOrigin.{AstOrigin}
use Rattle.pl_syntax.specs.declared.parameters.AstOrigin.TheVariants as origin
use Rattle.pl_syntax.specs.declared.links.AstLink.{AstLink}
use Rattle.pl_syntax.specs.declared.alternatives.AstSlot.{AstSlot}
use Rattle.pl_syntax.specs.declared.alternatives.AstOrder.{AstOrder}
use Rattle.pl_syntax.specs.declared.alternatives.AstAlternative.{AstAlternative}
use Rattle.pl_model.specs.declared.parameters.Param.{Param}
use Rattle.pl_model.specs.declared.parameters.Origin.{Origin}
use Rattle.pl_model.specs.declared.parameters.Origin.TheVariants.{Free, Dependent}
use Rattle.pl_model.specs.declared.links.Link.{Link}
use Rattle.pl_model.specs.declared.alternatives.Order.{Order}
use Rattle.pl_model.specs.declared.alternatives.Alternative.{Alternative}
use Rattle.pl_model.specs.declared.timelines.Timeline.{Timeline}
use Rattle.pl_model.specs.declared.timelines.Timeline.TheVariants.{Capacity, Level, States}
use Rattle.pl_model.specs.declared.whole.Model.{Model}
use Rattle.pl_model.specs.Values.{NamesBelow}
use Rattle.pl_model.specs.Checked.{IsAmount, IsLevel, IsDistance, IsStep, IsCheckedLine, IsOrigin, IsCheckedParam, IsCheckedLink, IsCheckedSlot, IsCheckedOrder, IsCheckedAlternative}
use Rattle.pl_model.specs.Schedules.{IsPlace}
use Rattle.pl_check.specs.declared.drafts.DraftAlternative.{DraftAlternative}
use Rattle.pl_check.specs.declared.fault.ModelFault.TheVariants as fault
use Rattle.pl_check.specs.declared.fault.What.TheVariants as what
use Rattle.pl_check.specs.Judgements.{pass, each, each_made, unless}
use Rattle.pl_check.specs.Sizes.{IsSmallLine, IsSmallAlternative}
use Rattle.pl_check.specs.Finding.{known, kind_named}
use Rattle.pl_check.specs.Numbering.{numbered, numbered_line, numbered_step, numbered_origin, numbered_param, numbered_link, numbered_slot, numbered_place, numbered_order, numbered_alternative, state_number}
use Rattle.pl_check.specs.Ranges.{is_between, is_amount, is_level, is_default, is_distance, range_in_line, range_in_param, range_in_origin, range_in_link, range_in_slot, range_in_order, range_in_alternative}
use Rattle.pl_check.specs.Networks.{FinishesAlternative}
use Rattle.pl_check.proofs.SizeLemmas.{then_passes}
use Rattle.pl_check.proofs.RangeLemmas.{test_passes, each_passes, between}
use Rattle.pl_lists.proofs.Judging.{bind_ok}
use Rattle.pl_lists.proofs.Listing.{pairwise_length}
use Rattle.pl_lists.proofs.Numbers.{le_from_test}
use Rattle.pl_check.proofs.PairLemmas.{known_ok, ok_same, pair_all, pair_with, all_such, each_pairs, Makes}
use Rattle.pl_check.proofs.MadeLemmas.{kind_found}
use Rattle.pl_check.proofs.ExpressionLemmas.{names_made}
use Rattle.pl_check.proofs.NumberLemmas.{IsMadeOf, origin_made, slot_made, place_made, state_below, step_made}

amount : (n : ℤ) → is_amount n ≡ true → IsAmount n
amount n h = between (pos 0) (pos 1000000000) n h

level : (n : ℤ) → is_level n ≡ true → IsLevel n
level n h = between (pos 0) (pos 1000000000000) n h

distance : (horizon : ℕ) (low high : ℤ) → is_distance (pos horizon) low high ≡ true → IsDistance horizon low high
distance horizon low high h =
    let both = and_parts (is_between (neg_ℤ (pos horizon)) (pos horizon) low && is_between (neg_ℤ (pos horizon)) (pos horizon) high) (int_le low high) h in
    let ends = and_parts (is_between (neg_ℤ (pos horizon)) (pos horizon) low) (is_between (neg_ℤ (pos horizon)) (pos horizon) high) both.0 in
    ((between (neg_ℤ (pos horizon)) (pos horizon) low ends.0).0, le_from_test low high both.1, (between (neg_ℤ (pos horizon)) (pos horizon) high ends.1).1)

-- ---- timelines

pub line_checked : (a : AstTimeline) (t : Timeline) → IsSmallLine a → numbered_line a ≡ Ok t → range_in_line t ≡ pass → IsCheckedLine t
line_checked a (Capacity name most) small h r = amount most (test_passes (is_amount most) (fault.Range what.Capacity) r)
line_checked a (Level name least most start) small h r =
    let all = test_passes (is_level least && is_level most && is_level start && int_le least most) (fault.Range what.Level) r in
    let ordered_too = and_parts (is_level least && is_level most && is_level start) (int_le least most) all in
    let start_too = and_parts (is_level least && is_level most) (is_level start) ordered_too.0 in
    let most_too = and_parts (is_level least) (is_level most) start_too.0 in
    (level least most_too.0, level most most_too.1, level start start_too.1, le_from_test least most ordered_too.1)
line_checked (line.Capacity n m) (States name states start any steps) small h r = absurd (cc h)
line_checked (line.Level n l m s) (States name states start any steps) small h r = absurd (cc h)
line_checked (line.States n ss s w ts) (States name states start any steps) small h r =
    let first = bind_ok (state_number ss s) _ (States name states start any steps) h in
    let moves = bind_ok (each_made (numbered_step ss) ts) _ (States name states start any steps) first.2 in
    let each_step : All (IsStep (length ss)) moves.0 = pair_all (Makes (numbered_step ss)) (λ x. Unit {0}) (IsStep (length ss)) (λ x y u m. step_made ss x y m) ts moves.0 (all_such ts) (each_pairs (numbered_step ss) ts moves.0 moves.1) in
    subst IsCheckedLine (ok_same _ (States name states start any steps) moves.2) (small, state_below ss s first.0 first.1, each_step)

-- ---- parameters

origin_checked : (params : List AstParam) (a : AstOrigin) (o : Origin) (low high : ℤ) → numbered_origin params a ≡ Ok o → is_default low high o ≡ true → IsOrigin (length params) low high o
origin_checked params a (Free None) low high h d = tt
origin_checked params a (Free (Some n)) low high h d = between low high n d
origin_checked params origin.Plain (Dependent e) low high h d = absurd (cc h)
origin_checked params (origin.Default n) (Dependent e) low high h d = absurd (cc h)
origin_checked params (origin.Equals w) (Dependent e) low high h d =
    let made = bind_ok (numbered params w) _ (Dependent e) h in
    let same : made.0 ≡ e = cc made.2 in
    subst (NamesBelow (length params)) same (names_made params w made.0 made.1)

pub param_checked : (params : List AstParam) (a : AstParam) (p : Param) → numbered_param params a ≡ Ok p → range_in_param p ≡ pass → IsCheckedParam (length params) p
param_checked params a p h r =
    let numbers = then_passes (unless (is_amount p.low && is_amount p.high && int_le p.low p.high && is_default p.low p.high p.origin) (fault.Range what.Param)) (range_in_origin p.origin) tt r in
    let all = test_passes (is_amount p.low && is_amount p.high && int_le p.low p.high && is_default p.low p.high p.origin) (fault.Range what.Param) numbers.0 in
    let default_too = and_parts (is_amount p.low && is_amount p.high && int_le p.low p.high) (is_default p.low p.high p.origin) all in
    let ordered_too = and_parts (is_amount p.low && is_amount p.high) (int_le p.low p.high) default_too.0 in
    let high_too = and_parts (is_amount p.low) (is_amount p.high) ordered_too.0 in
    record {
      least = amount p.low high_too.0;
      greatest = amount p.high high_too.1;
      ordered = le_from_test p.low p.high ordered_too.1;
      origin = origin_checked params a.origin p.origin p.low p.high (origin_made params a p h) default_too.1;
    }

-- ---- links

module _ (items : List Item) (model : Model) (made : IsMadeOf items model) where
  pub link_checked : (a : AstLink) (l : Link) → numbered_link items a ≡ Ok l → range_in_link (pos model.horizon) l ≡ pass → IsCheckedLink model l
  unfolding range_in_link
  link_checked a l h r =
      let kind = bind_ok (known a.kind (kind_named items a.kind)) _ l h in
      let stands = made.kinds kind.0.0 kind.0.1 (kind_found items a.kind kind.0 (known_ok a.kind (kind_named items a.kind) kind.0 kind.1)) in
      let same : kind.0.0 ≡ l.kind = ap (λ (x : Link). x.kind) (ok_same _ l kind.2) in
      record {
        kind = subst (λ n. n < length model.kinds) same (slice_get_within model.kinds kind.0.0 stands.0 stands.1);
        distance = distance model.horizon l.low l.high (test_passes (is_distance (pos model.horizon) l.low l.high) (fault.Range what.Link) r);
      }

  -- ---- alternatives

  order_checked : (slots : List AstSlot) (a : AstOrder) (o : Order) → numbered_order slots a ≡ Ok o → range_in_order (pos model.horizon) o ≡ pass → IsCheckedOrder model.horizon (length slots) o
  unfolding range_in_order
  order_checked slots a o h r =
      let first = bind_ok (numbered_place slots a.first) _ o h in
      let second = bind_ok (numbered_place slots a.second) _ o first.2 in
      let same = ok_same _ o second.2 in
      record {
        first = subst (IsPlace (length slots)) (ap (λ (x : Order). x.first) same) (place_made slots a.first first.0 first.1);
        second = subst (IsPlace (length slots)) (ap (λ (x : Order). x.second) same) (place_made slots a.second second.0 second.1);
        distance = distance model.horizon o.low o.high (test_passes (is_distance (pos model.horizon) o.low o.high) (fault.Range what.Order) r);
      }

  pub alternative_checked : (params : List AstParam) (spans : List (ℤ × ℤ)) (own : ℤ × ℤ) (a : AstAlternative) (d : DraftAlternative) (m : Alternative) → IsSmallAlternative a → numbered_alternative items params a ≡ Ok d → range_in_alternative (pos model.horizon) d ≡ pass → FinishesAlternative spans own d m → IsCheckedAlternative model (length params) m
  alternative_checked params spans own a d m small h r f =
      let slots = bind_ok (each_made (numbered_slot items params) a.slots) _ d h in
      let orders = bind_ok (each_made (numbered_order a.slots) a.orders) _ d slots.2 in
      let same = ok_same _ d orders.2 in
      let slot_pairs = each_pairs (numbered_slot items params) a.slots slots.0 slots.1 in
      let order_pairs = each_pairs (numbered_order a.slots) a.orders orders.0 orders.1 in
      let slots_are : slots.0 ≡ m.slots = ap (λ (x : DraftAlternative). x.slots) same ∙ sym f.slots in
      let orders_are : orders.0 ≡ m.orders = ap (λ (x : DraftAlternative). x.orders) same ∙ sym f.orders in
      let many_slots : length m.slots ≡ length a.slots = ap length (sym slots_are) ∙ pairwise_length (Makes (numbered_slot items params)) a.slots slots.0 slot_pairs in
      let many_orders : length m.orders ≡ length a.orders = ap length (sym orders_are) ∙ pairwise_length (Makes (numbered_order a.slots)) a.orders orders.0 order_pairs in
      let judged = then_passes (each range_in_slot d.slots) (each (range_in_order (pos model.horizon)) d.orders) tt r in
      let judged_orders : All (λ o. range_in_order (pos model.horizon) o ≡ pass) orders.0 = subst (All (λ o. range_in_order (pos model.horizon) o ≡ pass)) (sym (ap (λ (x : DraftAlternative). x.orders) same)) (each_passes (range_in_order (pos model.horizon)) d.orders judged.1) in
      let each_slot : All (IsCheckedSlot model (length params)) slots.0 = pair_all (Makes (numbered_slot items params)) (λ x. Unit {0}) (IsCheckedSlot model (length params)) (λ x y u k. slot_made items model params x y made k) a.slots slots.0 (all_such a.slots) slot_pairs in
      let each_order : All (IsCheckedOrder model.horizon (length a.slots)) orders.0 =
      pair_with (Makes (numbered_order a.slots)) (λ o. range_in_order (pos model.horizon) o ≡ pass) (IsCheckedOrder model.horizon (length a.slots)) (λ x y k j. order_checked a.slots x y k j) a.orders orders.0 order_pairs judged_orders in
      record {
        few_slots = omega (arith, many_slots, small.0);
        few_orders = omega (arith, many_orders, small.1);
        each_slot = f.offsets.each_slot ∙ sym (ap length f.slots);
        slots = subst (All (IsCheckedSlot model (length params))) slots_are each_slot;
        orders = subst (λ n. All (IsCheckedOrder model.horizon n) m.orders) (sym many_slots) (subst (All (IsCheckedOrder model.horizon (length a.slots))) orders_are each_order);
      }
