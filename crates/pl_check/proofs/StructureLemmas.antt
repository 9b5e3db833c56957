-- What the check answers is a checked model, in the sense that crates above cite.
use Rattle.std.proofs.Common.{◌≡◌, ℕ, ◌+◌, ◌<◌, ◌≤◌, ℤ, pos, ◌≤ℤ◌, true, List, [], ◌∷◌, ◌++◌, Some, Ok, Err, All, length, map, slice_get, refl, sym, ap, subst, ◌∙◌, arith}
use Rattle.std.proofs.lemmas.Int.{ints, clamps}
use Rattle.std.proofs.lemmas.List.Elements.{All-nil, All-cons, All-head, All-tail, All-weaker}
use Rattle.std.specs.Prelude.{nat_le, int_le, IfOk}
use Rattle.std.specs.Int.{int_max}
use Rattle.std.proofs.lemmas.Bool.{and_parts}
use Rattle.pl_syntax.specs.declared.whole.Ast.{Ast}
use Rattle.pl_syntax.specs.declared.whole.Item.{Item}
use Rattle.pl_syntax.specs.declared.whole.Item.TheVariants as item
use Rattle.pl_syntax.specs.declared.timelines.AstTimeline.{AstTimeline}
use Rattle.pl_syntax.specs.declared.kinds.AstKind.{AstKind}
use Rattle.pl_syntax.specs.declared.parameters.AstParam.{AstParam}
use Rattle.pl_syntax.specs.declared.alternatives.AstAlternative.{AstAlternative}
use Rattle.pl_syntax.specs.declared.expressions.AstExpr.{AstExpr}
use Rattle.pl_model.specs.declared.expressions.Expr.{Expr}
use Rattle.pl_model.specs.declared.parameters.Param.{Param}
use Rattle.pl_model.specs.declared.reservations.Reservation.{Reservation}
use Rattle.pl_model.specs.declared.links.Link.{Link}
use Rattle.pl_model.specs.declared.alternatives.Alternative.{Alternative}
use Rattle.pl_model.specs.declared.kinds.Kind.{Kind}
use Rattle.pl_model.specs.declared.timelines.Timeline.{Timeline}
use Rattle.pl_model.specs.declared.whole.Model.{Model}
use Rattle.pl_model.specs.Values.{NamesBelow}
use Rattle.pl_model.specs.Names as checked
use Rattle.pl_model.specs.Checked.{IsCheckedLine, IsCheckedParam, AreParamsRanked, IsReservation, IsCheckedLink, IsCheckedSlot, IsCheckedOrder, IsCheckedAlternative, IsCheckedKind, IsConsistent, IsChecked}
use Rattle.pl_model.specs.Names.{Differ, HasDistinctStates, HasDistinctParts}
use Rattle.pl_model.specs.Expressions.{nodes_of, HasSmallLiterals, IsSmallExpr, exprs_of, HasSmallExprs}
use Rattle.pl_model.specs.Bounds.{bounds_of}
use Rattle.pl_model.specs.Schedules as schedules
use Rattle.pl_model.specs.Schedules.{param_range, spans_of, HasLeastOffsets, IsPossible, IsTimedAlternative, IsTimedKind}
use Rattle.pl_model.proofs.Parts.{has_distinct_names, has_small_expressions, has_least_times, is_written}
use Rattle.pl_model.specs.Written.{IsWrittenLine, IsWrittenKind}
use Rattle.pl_syntax.specs.Answers.{ReadsText}
use Rattle.pl_check.specs.declared.fault.ModelFault.TheVariants as fault
use Rattle.pl_check.specs.declared.fault.What.TheVariants as what
use Rattle.pl_check.specs.declared.drafts.DraftAlternative.{DraftAlternative}
use Rattle.pl_check.specs.declared.drafts.DraftKind.{DraftKind}
use Rattle.pl_check.specs.declared.drafts.Draft.{Draft}
use Rattle.pl_check.specs.declared.drafts.Draft.TheVariants as draft
use Rattle.pl_check.specs.Judgements.{Judged, pass, ◌>>◌, ◌>>=◌, each, at_most, unless}
use Rattle.pl_check.specs.Names.{line_name, item_name, twice_in_line, twice_in_kind, twice_in_item, twice_in}
use Rattle.pl_check.specs.Counts.{few_nodes, counts_in_param, counts_in_reservation, counts_in_link, counts_in_alternative, counts_in_kind, counts_in_line, counts_in_items, counts_in}
use Rattle.pl_check.specs.Sizes.{IsSmallLine, IsSmallAlternative}
use Rattle.pl_check.specs.Numbering.{numbered, numbered_line, numbered_param, numbered_params, numbered_reservation, numbered_reservations, numbered_link, numbered_links, numbered_alternative, numbered_alternatives, numbered_duration, numbered_head, numbered_asks, numbered_kind, numbered_item, numbered_items}
use Rattle.pl_check.specs.Ranges.{range_in_line, range_in_param, range_in_reservation, range_in_duration, range_in_link, range_in_alternative, range_in_kind, range_in_draft, range_in, is_between, is_possible, duration_bounds}
use Rattle.pl_check.specs.Drafting.{lines_in, kinds_in}
use Rattle.pl_check.specs.Dependencies.{IsWellFounded}
use Rattle.pl_lists.specs.Lists.{Pairwise}
use Rattle.pl_check.specs.Networks.{FinishesAlternative, FinishesKind, cut_to, span_of}
use Rattle.pl_check.specs.Checked.{drafted, ranged, spans_in, IsModelOf, AnswersJudged, Answers, IsChecked as IsAnswered}
use Rattle.pl_check.proofs.SizeLemmas.{then_passes, not_too_many, below_from_test, few, small_line, small_alternative}
use Rattle.pl_check.proofs.RangeLemmas.{each_passes, of_kinds, horizon_passes, lead_passes}
use Rattle.pl_lists.proofs.Judging.{bind_ok}
use Rattle.pl_lists.proofs.Listing.{pairwise_length}
use Rattle.pl_lists.proofs.Numbers.{le_from_test}
use Rattle.pl_check.proofs.PairLemmas.{ok_same, pair_all, pair_with, pair_at, all_both, all_such, each_pairs, Makes}
use Rattle.pl_check.proofs.DraftLemmas.{Numbers, numbers_kind}
use Rattle.pl_check.proofs.MadeLemmas.{written_kinds, written_lines, kinds_such, lines_such, made_kinds, made_lines}
use Rattle.pl_check.proofs.ExpressionLemmas.{names_made}
use Rattle.pl_check.proofs.NumberLemmas.{IsMadeOf, params_made, reservation_made}
use Rattle.pl_check.proofs.PartLemmas.{line_checked, param_checked, link_checked, alternative_checked}
use Rattle.pl_check.proofs.DistinctLemmas.{are_distinct}
use Rattle.pl_check.proofs.DifferLemmas.{same_names, kind_text, items_differ, line_named, states_differ, kind_differs}
use Rattle.pl_check.proofs.ExprListLemmas.{exprs_written, exprs_drafted, exprs_made, exprs_kept}
use Rattle.pl_check.proofs.MeasureLemmas.{HasFewNodes, nodes_kept, exprs_few, exprs_small, duration_possible}
use Rattle.pl_check.proofs.OffsetLemmas.{HasPlaces, least_offsets}
use Rattle.pl_check.proofs.TextLemmas.{IsNamedLine, IsTextKind, IsTextItem, text_items}
use Rattle.pl_check.proofs.WrittenLemmas.{line_written, kind_written}
use Rattle.pl_check.proofs.RankedLemmas.{params_ranked, kinds_ranked, HasSlotsBelow}

-- ---- counts

record HasFew (k : AstKind) : Type 0 where
  pub params : length k.params ≤ 16
  pub reservations : length k.reservations ≤ 32
  pub links : length k.links ≤ 16
  pub alternatives : length k.alternatives ≤ 8
  pub small : All IsSmallAlternative k.alternatives
  pub exprs : All HasFewNodes (exprs_written k)

has_few : (k : AstKind) → counts_in_kind k ≡ pass → HasFew k
has_few k h =
    let params = then_passes (at_most 16 what.Params counts_in_param k.params) _ tt h in
    let duration = then_passes (few_nodes k.duration) _ tt params.1 in
    let reservations = then_passes (at_most 32 what.Reservations counts_in_reservation k.reservations) _ tt duration.1 in
    let links = then_passes (at_most 16 what.Links counts_in_link k.links) (at_most 8 what.Alternatives counts_in_alternative k.alternatives) tt reservations.1 in
    let alternatives = few 8 what.Alternatives counts_in_alternative k.alternatives links.1 in
    record {
      params = (few 16 what.Params counts_in_param k.params params.0).0;
      reservations = (few 32 what.Reservations counts_in_reservation k.reservations reservations.0).0;
      links = (few 16 what.Links counts_in_link k.links links.0).0;
      alternatives = alternatives.0;
      small = All-weaker (λ a. counts_in_alternative a ≡ pass) IsSmallAlternative small_alternative k.alternatives alternatives.1;
      exprs = exprs_few k h;
    }

record AreFew (lines kinds : ℕ) (items : List Item) : Type 0 where
  pub few_lines : lines + length (written_lines items) ≤ 256
  pub few_kinds : kinds + length (written_kinds items) ≤ 256
  pub each_line : All IsSmallLine (written_lines items)
  pub each_kind : All HasFew (written_kinds items)

are_few : (lines kinds : ℕ) (items : List Item) → lines ≤ 256 → kinds ≤ 256 → counts_in_items lines kinds items ≡ pass → AreFew lines kinds items
are_few lines kinds [] l k h = record { few_lines = omega (arith, l); few_kinds = omega (arith, k); each_line = All-nil IsSmallLine; each_kind = All-nil HasFew }
are_few lines kinds (item.Timeline x ∷ items) l k h =
    let split = not_too_many (nat_le 256 lines) (fault.TooMany what.Timelines) (counts_in_line x >> counts_in_items (lines + 1) kinds items) h in
    let both = then_passes (counts_in_line x) (counts_in_items (lines + 1) kinds items) tt split.1 in
    let rest = are_few (lines + 1) kinds items (below_from_test 256 lines split.0) k both.1 in
    record {
      few_lines = omega (arith, rest.few_lines);
      few_kinds = rest.few_kinds;
      each_line = All-cons IsSmallLine x (written_lines items) (small_line x both.0) rest.each_line;
      each_kind = rest.each_kind;
    }
are_few lines kinds (item.Kind x ∷ items) l k h =
    let split = not_too_many (nat_le 256 kinds) (fault.TooMany what.Kinds) (counts_in_kind x >> counts_in_items lines (kinds + 1) items) h in
    let both = then_passes (counts_in_kind x) (counts_in_items lines (kinds + 1) items) tt split.1 in
    let rest = are_few lines (kinds + 1) items l (below_from_test 256 kinds split.0) both.1 in
    record {
      few_lines = rest.few_lines;
      few_kinds = omega (arith, rest.few_kinds);
      each_line = rest.each_line;
      each_kind = All-cons HasFew x (written_kinds items) (has_few x both.0) rest.each_kind;
    }

-- ---- kinds

record HasRanges (horizon : ℕ) (d : DraftKind) : Type 0 where
  pub params : All (λ p. range_in_param p ≡ pass) d.params
  pub links : All (λ l. range_in_link (pos horizon) l ≡ pass) d.links
  pub alternatives : All (λ a. range_in_alternative (pos horizon) a ≡ pass) d.alternatives
  pub literals : All HasSmallLiterals (exprs_drafted d)
  pub possible : is_possible (pos horizon) (duration_bounds d) ≡ true

has_ranges : (horizon : ℕ) (d : DraftKind) → range_in_kind (pos horizon) d ≡ pass → HasRanges horizon d
has_ranges horizon d h =
    let params = then_passes (each range_in_param d.params) _ tt h in
    let duration = then_passes (range_in_duration (pos horizon) d) _ tt params.1 in
    let reservations = then_passes (each range_in_reservation d.reservations) _ tt duration.1 in
    let links = then_passes (each (range_in_link (pos horizon)) d.links) (each (range_in_alternative (pos horizon)) d.alternatives) tt reservations.1 in
    record {
      params = each_passes range_in_param d.params params.0;
      links = each_passes (range_in_link (pos horizon)) d.links links.0;
      alternatives = each_passes (range_in_alternative (pos horizon)) d.alternatives links.1;
      literals = exprs_small (pos horizon) d h;
      possible = duration_possible (pos horizon) d h;
    }

-- ---- durations

bounds_same : (horizon : ℤ) (spans : List (ℤ × ℤ)) (d : DraftKind) (m : Kind) → FinishesKind horizon spans d m → duration_bounds d ≡ schedules.duration_bounds m
bounds_same horizon spans d m f = ap (λ e. bounds_of e (map param_range d.params)) (sym f.duration) ∙ ap (λ ps. bounds_of m.duration (map param_range ps)) (sym f.params)

span_same : (horizon : ℕ) (spans : List (ℤ × ℤ)) (d : DraftKind) (m : Kind) → FinishesKind (pos horizon) spans d m → span_of (pos horizon) d ≡ schedules.span_of horizon m
span_same horizon spans d m f = ap (λ (b : ℤ × ℤ). (cut_to (pos horizon) b.0, cut_to (pos horizon) b.1)) (bounds_same (pos horizon) spans d m f)

possible_bounds : (horizon : ℕ) (b : ℤ × ℤ) → is_possible (pos horizon) b ≡ true → IsPossible horizon b
possible_bounds horizon b h = let both = and_parts (int_le (pos 1) b.1) (int_le b.0 (pos horizon)) h in (le_from_test (pos 1) b.1 both.0, le_from_test b.0 (pos horizon) both.1)

least_is : (horizon n : ℕ) (x : ℤ) → 1 ≤ horizon → x ≤ℤ pos horizon → pos n ≡ cut_to (pos horizon) x → pos n ≡ int_max x (pos 1)
least_is horizon n x one le e = omega (arith, ints, clamps, e, one, le)

-- ---- expressions

checked_expr : (e : Expr) → (nodes_of e ≤ 64) × HasSmallLiterals e → IsSmallExpr e
checked_expr e both = record { few_nodes = both.0; literals = both.1 }

few_kept : (params : List AstParam) (e : AstExpr) (x : Expr) → HasFewNodes e → numbered params e ≡ Ok x → nodes_of x ≤ 64
few_kept params e x few h = omega (arith, few, nodes_kept params e x h)

exprs_checked : (items : List Item) (spans : List (ℤ × ℤ)) (horizon : ℤ) (k : AstKind) (d : DraftKind) (m : Kind) → All HasFewNodes (exprs_written k) → Numbers items k d → All HasSmallLiterals (exprs_drafted d) → FinishesKind horizon spans d m → All IsSmallExpr (exprs_of m)
exprs_checked items spans horizon k d m few_each numbers literals f =
    let pairs = exprs_made items k d numbers.duration (params_made k.params d.params numbers.params) numbers.reservations numbers.alternatives in
    let nodes : All (λ x. nodes_of x ≤ 64) (exprs_drafted d) = pair_all (Makes (numbered k.params)) HasFewNodes (λ x. nodes_of x ≤ 64) (few_kept k.params) (exprs_written k) (exprs_drafted d) few_each pairs in
    subst (All IsSmallExpr) (exprs_kept horizon spans d m f) (All-weaker (λ x. (nodes_of x ≤ 64) × HasSmallLiterals x) IsSmallExpr checked_expr (exprs_drafted d) (all_both (λ x. nodes_of x ≤ 64) HasSmallLiterals (exprs_drafted d) nodes literals))

order_places : (model : Model) (params : ℕ) (a : Alternative) → IsCheckedAlternative model params a → All (HasPlaces (length a.slots)) a.orders
order_places model params a c = All-weaker (IsCheckedOrder model.horizon (length a.slots)) (HasPlaces (length a.slots)) (λ o h. (h.first, h.second)) a.orders c.orders

least_within : (horizon n : ℕ) (x : ℤ) → 1 ≤ horizon → pos n ≡ cut_to (pos horizon) x → (1 ≤ n) × (n ≤ horizon)
least_within horizon n x h e = (omega (arith, ints, clamps, e, h), omega (arith, ints, clamps, e, h))

module _ (items : List Item) (model : Model) (made : IsMadeOf items model) (spans : List (ℤ × ℤ)) where
  alternatives_checked : (params : List AstParam) (own : ℤ × ℤ) (written : List AstAlternative) (ds : List DraftAlternative) (ms : List Alternative) → All IsSmallAlternative written → Pairwise (Makes (numbered_alternative items params)) written ds → All (λ d. range_in_alternative (pos model.horizon) d ≡ pass) ds → Pairwise (FinishesAlternative spans own) ds ms → All (IsCheckedAlternative model (length params)) ms
  alternatives_checked params own written ds ms small numbers ranges finishes =
      pair_all (FinishesAlternative spans own) (λ d. ((a : AstAlternative) × IsSmallAlternative a × Makes (numbered_alternative items params) a d) × (range_in_alternative (pos model.horizon) d ≡ pass)) (IsCheckedAlternative model (length params))
      (λ d m h f. alternative_checked items model made params spans own h.0.0 d m h.0.1 h.0.2 h.1 f) ds ms
      (all_both (λ d. (a : AstAlternative) × IsSmallAlternative a × Makes (numbered_alternative items params) a d) (λ d. range_in_alternative (pos model.horizon) d ≡ pass) ds
      (pair_all (Makes (numbered_alternative items params)) IsSmallAlternative (λ d. (a : AstAlternative) × IsSmallAlternative a × Makes (numbered_alternative items params) a d) (λ a d s n. (a, s, n)) written ds small numbers) ranges)
      finishes

  kind_checked : (k : AstKind) (d : DraftKind) (m : Kind) → 1 ≤ model.horizon → HasFew k → Numbers items k d → HasRanges model.horizon d → IsWellFounded d → FinishesKind (pos model.horizon) spans d m → IsCheckedKind model m
  kind_checked k d m one few_parts numbers ranges founded f =
      let param_pairs = params_made k.params d.params numbers.params in
      let many : length d.params ≡ length k.params = pairwise_length (Makes (numbered_param k.params)) k.params d.params param_pairs in
      let drafted_params : All (IsCheckedParam (length k.params)) d.params = pair_with (Makes (numbered_param k.params)) (λ p. range_in_param p ≡ pass) (IsCheckedParam (length k.params)) (λ a p n r. param_checked k.params a p n r) k.params d.params param_pairs ranges.params in
      let own_params : All (IsCheckedParam (length d.params)) d.params = subst (λ n. All (IsCheckedParam n) d.params) (sym many) drafted_params in
      let drafted_reservations : All (IsReservation model.timelines (length k.params)) d.reservations = pair_all (Makes (numbered_reservation items k.params)) (λ x. Unit {0}) (IsReservation model.timelines (length k.params)) (λ a r u n. reservation_made items model made k.params a r n) k.reservations d.reservations (all_such k.reservations) numbers.reservations in
      let drafted_links : All (IsCheckedLink model) d.links = pair_with (Makes (numbered_link items)) (λ l. range_in_link (pos model.horizon) l ≡ pass) (IsCheckedLink model) (λ a l n r. link_checked items model made a l n r) k.links d.links numbers.links ranges.links in
      let all_alternatives : All (IsCheckedAlternative model (length k.params)) m.alternatives = alternatives_checked k.params (span_of (pos model.horizon) d) k.alternatives d.alternatives m.alternatives few_parts.small numbers.alternatives ranges.alternatives f.alternatives in
      let few_reservations : length d.reservations ≡ length k.reservations = pairwise_length (Makes (numbered_reservation items k.params)) k.reservations d.reservations numbers.reservations in
      let few_links : length d.links ≡ length k.links = pairwise_length (Makes (numbered_link items)) k.links d.links numbers.links in
      let few_drafts : length d.alternatives ≡ length k.alternatives = pairwise_length (Makes (numbered_alternative items k.params)) k.alternatives d.alternatives numbers.alternatives in
      let few_alternatives : length m.alternatives ≡ length d.alternatives = pairwise_length (FinishesAlternative spans (span_of (pos model.horizon) d)) d.alternatives m.alternatives f.alternatives in
      let same : length m.params ≡ length k.params = ap length f.params ∙ many in
      record {
        few_params = omega (arith, same, few_parts.params);
        few_reservations = omega (arith, ap length f.reservations, few_reservations, few_parts.reservations);
        few_links = omega (arith, ap length f.links, few_links, few_parts.links);
        few_alternatives = omega (arith, few_alternatives, few_drafts, few_parts.alternatives);
        params = subst (λ ps. All (IsCheckedParam (length ps)) ps) (sym f.params) own_params;
        ranks = subst AreParamsRanked (sym f.params) (params_ranked d founded own_params);
        duration = subst (λ n. NamesBelow n m.duration) (sym same) (subst (NamesBelow (length k.params)) (sym f.duration) (names_made k.params k.duration d.duration numbers.duration));
        least_duration = least_within model.horizon m.least_duration (duration_bounds d).0 one f.least;
        reservations = subst (λ n. All (IsReservation model.timelines n) m.reservations) (sym same) (subst (All (IsReservation model.timelines (length k.params))) (sym f.reservations) drafted_reservations);
        links = subst (All (IsCheckedLink model)) (sym f.links) drafted_links;
        alternatives = subst (λ n. All (IsCheckedAlternative model n) m.alternatives) (sym same) all_alternatives;
      }

-- ---- what else holds of a kind

-- a kind of the text that becomes this draft, and a timeline that becomes this one
abbrev Stands : List Item → DraftKind → Type 0
Stands items d = (k : AstKind) × (HasFew k × (twice_in_kind k ≡ pass)) × Makes (numbered_kind items) k d

abbrev StandsLine : Timeline → Type 0
StandsLine t = (a : AstTimeline) × (IsSmallLine a × (twice_in_line a ≡ pass)) × Makes numbered_line a t

abbrev Words : List Item → DraftKind → Type 0
Words items d = (k : AstKind) × IsTextKind k × Numbers items k d

abbrev draft_name : DraftKind → List ℕ
draft_name d = d.name

kind_timed : (model : Model) (spans : List (ℤ × ℤ)) (d : DraftKind) (m : Kind) → 1 ≤ model.horizon → spans ≡ spans_of model → HasRanges model.horizon d → IsCheckedKind model m → FinishesKind (pos model.horizon) spans d m → IsTimedKind model m
kind_timed model spans d m one own_spans ranges c f =
    let possible : IsPossible model.horizon (schedules.duration_bounds m) = subst (IsPossible model.horizon) (bounds_same (pos model.horizon) spans d m f) (possible_bounds model.horizon (duration_bounds d) ranges.possible) in
    let span : span_of (pos model.horizon) d ≡ schedules.span_of model.horizon m = span_same model.horizon spans d m f in
    record {
      possible = possible;
      least = least_is model.horizon m.least_duration (schedules.duration_bounds m).0 one possible.1 (f.least ∙ ap (λ (b : ℤ × ℤ). b.0) span);
      alternatives = pair_with (FinishesAlternative spans (span_of (pos model.horizon) d)) (IsCheckedAlternative model (length m.params)) (IsTimedAlternative model m)
          (λ a b g h. record {
            least = subst (λ x. HasLeastOffsets x (schedules.span_of model.horizon m) b) own_spans (subst (λ own. HasLeastOffsets spans own b) span (least_offsets spans (span_of (pos model.horizon) d) a b (order_places model (length m.params) b h) g));
            near = g.offsets.near;
          }) d.alternatives m.alternatives f.alternatives c.alternatives;
    }

-- ---- the drafts

record PassesRows (ast : Ast) (drafts : List Draft) : Type 0 where
  pub twice : twice_in ast ≡ pass
  pub counts : counts_in ast ≡ pass
  pub numbers : Pairwise (Makes (numbered_item ast.items)) ast.items drafts
  pub ranges : range_in ast.horizon ast.lead drafts ≡ pass

passes_rows : (ast : Ast) (drafts : List Draft) → drafted ast ≡ Ok drafts → PassesRows ast drafts
unfolding drafted
passes_rows ast drafts h =
    let twice = then_passes (twice_in ast) (counts_in ast >> (numbered_items ast.items >>= ranged ast)) drafts h in
    let counts = then_passes (counts_in ast) (numbered_items ast.items >>= ranged ast) drafts twice.1 in
    let numbers = bind_ok (numbered_items ast.items) (ranged ast) drafts counts.1 in
    let ranges = then_passes (range_in ast.horizon ast.lead numbers.0) (Ok numbers.0) drafts numbers.2 in
    let same : numbers.0 ≡ drafts = ok_same numbers.0 drafts ranges.1 in
    record {
      twice = twice.0;
      counts = counts.0;
      numbers = subst (Pairwise (Makes (numbered_item ast.items)) ast.items) same (each_pairs (numbered_item ast.items) ast.items numbers.0 numbers.1);
      ranges = subst (λ ds. range_in ast.horizon ast.lead ds ≡ pass) same ranges.0;
    }

of_lines : (P : Timeline → Type 0) (Q : Draft → Type 0) → ((l : Timeline) → Q (draft.Timeline l) → P l) → (drafts : List Draft) → All Q drafts → All P (lines_in drafts)
of_lines P Q f [] h = All-nil P
of_lines P Q f (draft.Kind k ∷ ds) h = of_lines P Q f ds (All-tail Q (draft.Kind k) ds h)
of_lines P Q f (draft.Timeline l ∷ ds) h = All-cons P l (lines_in ds) (f l (All-head Q (draft.Timeline l) ds h)) (of_lines P Q f ds (All-tail Q (draft.Timeline l) ds h))

each_range : (horizon lead : ℤ) (drafts : List Draft) → range_in horizon lead drafts ≡ pass → All (λ d. range_in_draft horizon d ≡ pass) drafts
each_range horizon lead drafts h =
    let both = then_passes (unless (is_between (pos 2) (pos 10000000) horizon) (fault.Range what.Horizon)) _ tt h in
    let rest = then_passes (unless (is_between (pos 1) horizon lead) (fault.Range what.Lead)) (each (range_in_draft horizon) drafts) tt both.1 in
    each_passes (range_in_draft horizon) drafts rest.1

line_ranges : (horizon : ℤ) (drafts : List Draft) → All (λ d. range_in_draft horizon d ≡ pass) drafts → All (λ l. range_in_line l ≡ pass) (lines_in drafts)
unfolding range_in_draft
line_ranges horizon drafts h = of_lines (λ l. range_in_line l ≡ pass) (λ d. range_in_draft horizon d ≡ pass) (λ l r. r) drafts h

kind_ranges : (horizon : ℤ) (drafts : List Draft) → All (λ d. range_in_draft horizon d ≡ pass) drafts → All (λ k. range_in_kind horizon k ≡ pass) (kinds_in drafts)
unfolding range_in_draft
kind_ranges horizon drafts h = of_kinds (λ k. range_in_kind horizon k ≡ pass) (λ d. range_in_draft horizon d ≡ pass) (λ k r. r) drafts h

-- ---- the model

made_of : (ast : Ast) (drafts : List Draft) (model : Model) → PassesRows ast drafts → IsModelOf ast drafts model → IsMadeOf ast.items model
made_of ast drafts model rows m =
    let kind_pairs = made_kinds ast.items ast.items drafts rows.numbers in
    let line_pairs = made_lines ast.items ast.items drafts rows.numbers in
    record {
      kinds = λ n k e.
          let d = pair_at (Makes (numbered_kind ast.items)) (written_kinds ast.items) (kinds_in drafts) n k kind_pairs e in
          let found = pair_at (FinishesKind ast.horizon (spans_in ast.horizon drafts)) (kinds_in drafts) model.kinds n d.0 m.kinds d.1 in
          (found.0, found.1, (numbers_kind ast.items k d.0 d.2).params ∙ ap Ok (sym found.2.params));
      lines = λ n l e.
          let t = pair_at (Makes numbered_line) (written_lines ast.items) (lines_in drafts) n l line_pairs e in
          (t.0, subst (λ ts. slice_get ts n ≡ Some t.0) (sym m.timelines) t.1, t.2);
    }

slots_below : (model : Model) (m : Kind) → IsCheckedKind model m → HasSlotsBelow (length model.kinds) m
slots_below model m c =
    All-weaker (IsCheckedAlternative model (length m.params)) (λ a. All (λ s. s.kind < length model.kinds) a.slots)
    (λ a h. All-weaker (IsCheckedSlot model (length m.params)) (λ s. s.kind < length model.kinds) (λ s g. g.kind) a.slots h.slots) m.alternatives c.alternatives

pub structural : (ast : Ast) (drafts : List Draft) (model : Model) → drafted ast ≡ Ok drafts → IsModelOf ast drafts model → IsConsistent model
structural ast drafts model h m =
    let rows = passes_rows ast drafts h in
    let made = made_of ast drafts model rows m in
    let spans : List (ℤ × ℤ) = spans_in ast.horizon drafts in
    let kinds : List DraftKind = kinds_in drafts in
    let distinct_items = are_distinct item_name twice_in_item [] ast.items rows.twice in
    let kinds_distinct : All (λ k. twice_in_kind k ≡ pass) (written_kinds ast.items) = kinds_such (λ k. twice_in_kind k ≡ pass) (λ x. twice_in_item x ≡ pass) (λ k h. h) ast.items distinct_items.passes in
    let lines_distinct : All (λ l. twice_in_line l ≡ pass) (written_lines ast.items) = lines_such (λ l. twice_in_line l ≡ pass) (λ x. twice_in_item x ≡ pass) (λ l h. h) ast.items distinct_items.passes in
    let few_items = are_few 0 0 ast.items (omega arith) (omega arith) rows.counts in
    let kind_pairs = made_kinds ast.items ast.items drafts rows.numbers in
    let line_pairs = made_lines ast.items ast.items drafts rows.numbers in
    let ranges = each_range ast.horizon ast.lead drafts rows.ranges in
    let horizon = horizon_passes ast.horizon ast.lead drafts rows.ranges in
    let lead = lead_passes ast.horizon ast.lead drafts rows.ranges in
    let own_horizon : (pos 2 ≤ℤ pos model.horizon) × (pos model.horizon ≤ℤ pos 10000000) = subst (λ x. (pos 2 ≤ℤ x) × (x ≤ℤ pos 10000000)) (sym m.horizon) horizon in
    let own_lead : (pos 1 ≤ℤ pos model.lead) × (pos model.lead ≤ℤ pos model.horizon) = subst (λ x. (pos 1 ≤ℤ pos model.lead) × (pos model.lead ≤ℤ x)) (sym m.horizon) (subst (λ x. (pos 1 ≤ℤ x) × (x ≤ℤ ast.horizon)) (sym m.lead) lead) in
    let one : 1 ≤ model.horizon = omega (arith, ints, own_horizon.0) in
    let finishes : Pairwise (FinishesKind (pos model.horizon) spans) kinds model.kinds = subst (λ x. Pairwise (FinishesKind x spans) kinds model.kinds) (sym m.horizon) m.kinds in
    let kind_range : All (λ k. range_in_kind (pos model.horizon) k ≡ pass) kinds = subst (λ x. All (λ k. range_in_kind x k ≡ pass) kinds) (sym m.horizon) (kind_ranges ast.horizon drafts ranges) in
    let own_spans : spans ≡ spans_of model =
    ap (λ h. map (span_of h) kinds) (sym m.horizon) ∙ same_names (FinishesKind (pos model.horizon) spans) (span_of (pos model.horizon)) (schedules.span_of model.horizon) (λ d k f. span_same model.horizon spans d k f) kinds model.kinds finishes in
    let numbered_kinds : All (Stands ast.items) kinds = pair_all (Makes (numbered_kind ast.items)) (λ k. HasFew k × (twice_in_kind k ≡ pass)) (Stands ast.items) (λ k d f n. (k, f, n)) (written_kinds ast.items) kinds (all_both HasFew (λ k. twice_in_kind k ≡ pass) (written_kinds ast.items) few_items.each_kind kinds_distinct) kind_pairs in
    let ranged_kinds = all_both (λ d. range_in_kind (pos model.horizon) d ≡ pass) IsWellFounded kinds kind_range m.params in
    let all_kinds : All (IsCheckedKind model) model.kinds =
    pair_all (FinishesKind (pos model.horizon) spans) (λ d. Stands ast.items d × ((range_in_kind (pos model.horizon) d ≡ pass) × IsWellFounded d)) (IsCheckedKind model)
    (λ d k p f. kind_checked ast.items model made spans p.0.0 d k one p.0.1.0 (numbers_kind ast.items p.0.0 d p.0.2) (has_ranges model.horizon d p.1.0) p.1.1 f) kinds model.kinds
    (all_both (Stands ast.items) (λ d. (range_in_kind (pos model.horizon) d ≡ pass) × IsWellFounded d) kinds numbered_kinds ranged_kinds) finishes in
    let kind_parts : All (λ d. Stands ast.items d × ((range_in_kind (pos model.horizon) d ≡ pass) × IsWellFounded d)) kinds = all_both (Stands ast.items) (λ d. (range_in_kind (pos model.horizon) d ≡ pass) × IsWellFounded d) kinds numbered_kinds ranged_kinds in
    let distinct_kinds : All HasDistinctParts model.kinds =
    pair_all (FinishesKind (pos model.horizon) spans) (λ d. Stands ast.items d × ((range_in_kind (pos model.horizon) d ≡ pass) × IsWellFounded d)) HasDistinctParts
    (λ d k p f. kind_differs ast.items (pos model.horizon) spans p.0.0 d k (numbers_kind ast.items p.0.0 d p.0.2) f p.0.1.1) kinds model.kinds kind_parts finishes in
    let small_kinds : All HasSmallExprs model.kinds =
    pair_all (FinishesKind (pos model.horizon) spans) (λ d. Stands ast.items d × ((range_in_kind (pos model.horizon) d ≡ pass) × IsWellFounded d)) HasSmallExprs
    (λ d k p f. record { each = exprs_checked ast.items spans (pos model.horizon) p.0.0 d k p.0.1.0.exprs (numbers_kind ast.items p.0.0 d p.0.2) (has_ranges model.horizon d p.1.0).literals f }) kinds model.kinds kind_parts finishes in
    let timed_kinds : All (IsTimedKind model) model.kinds =
    All-weaker (λ k. IsCheckedKind model k × (IsCheckedKind model k → IsTimedKind model k)) (IsTimedKind model) (λ k h. h.1 h.0) model.kinds
    (all_both (IsCheckedKind model) (λ k. IsCheckedKind model k → IsTimedKind model k) model.kinds all_kinds
    (pair_all (FinishesKind (pos model.horizon) spans) (λ d. Stands ast.items d × ((range_in_kind (pos model.horizon) d ≡ pass) × IsWellFounded d)) (λ k. IsCheckedKind model k → IsTimedKind model k)
    (λ d k p f c. kind_timed model spans d k one own_spans (has_ranges model.horizon d p.1.0) c f) kinds model.kinds kind_parts finishes)) in
    let distinct_states : All HasDistinctStates (lines_in drafts) =
    pair_all (Makes numbered_line) (λ a. twice_in_line a ≡ pass) HasDistinctStates (λ a t w n. states_differ a t n w) (written_lines ast.items) (lines_in drafts) lines_distinct line_pairs in
    let drafted_lines : All IsCheckedLine (lines_in drafts) =
    All-weaker (λ t. StandsLine t × (range_in_line t ≡ pass)) IsCheckedLine (λ t p. line_checked p.0.0 t p.0.1.0 p.0.2 p.1) (lines_in drafts)
    (all_both StandsLine (λ t. range_in_line t ≡ pass) (lines_in drafts)
    (pair_all (Makes numbered_line) (λ a. IsSmallLine a × (twice_in_line a ≡ pass)) StandsLine (λ a t f n. (a, f, n)) (written_lines ast.items) (lines_in drafts) (all_both IsSmallLine (λ a. twice_in_line a ≡ pass) (written_lines ast.items) few_items.each_line lines_distinct) line_pairs)
    (line_ranges ast.horizon drafts ranges)) in
    let many_kinds : length model.kinds ≡ length (written_kinds ast.items) = pairwise_length (FinishesKind (pos model.horizon) spans) kinds model.kinds finishes ∙ pairwise_length (Makes (numbered_kind ast.items)) (written_kinds ast.items) kinds kind_pairs in
    let many_lines : length model.timelines ≡ length (written_lines ast.items) = ap length m.timelines ∙ pairwise_length (Makes numbered_line) (written_lines ast.items) (lines_in drafts) line_pairs in
    let line_names : map line_name (written_lines ast.items) ≡ map checked.line_name model.timelines =
    same_names (Makes numbered_line) line_name checked.line_name line_named (written_lines ast.items) (lines_in drafts) line_pairs ∙ ap (map checked.line_name) (sym m.timelines) in
    let kind_names : map kind_text (written_kinds ast.items) ≡ map checked.kind_name model.kinds =
    same_names (Makes (numbered_kind ast.items)) kind_text draft_name (λ k d n. (numbers_kind ast.items k d n).name) (written_kinds ast.items) kinds kind_pairs
    ∙ same_names (FinishesKind (pos model.horizon) spans) draft_name checked.kind_name (λ d k f. sym f.name) kinds model.kinds finishes in
    record {
      horizon = (omega (arith, ints, own_horizon.0), omega (arith, ints, own_horizon.1));
      lead = (omega (arith, ints, own_lead.0), omega (arith, ints, own_lead.1));
      few_timelines = omega (arith, many_lines, few_items.few_lines);
      few_kinds = omega (arith, many_kinds, few_items.few_kinds);
      timelines = subst (All IsCheckedLine) (sym m.timelines) drafted_lines;
      kinds = all_kinds;
      ranks = kinds_ranked (pos model.horizon) spans kinds model.kinds m.contained finishes (All-weaker (IsCheckedKind model) (HasSlotsBelow (length model.kinds)) (slots_below model) model.kinds all_kinds);
      names = has_distinct_names model (record {
        items = subst (λ ns. Differ (ns ++ map checked.kind_name model.kinds)) line_names (subst (λ ns. Differ (map line_name (written_lines ast.items) ++ ns)) kind_names (items_differ ast.items distinct_items.differ));
        states = subst (All HasDistinctStates) (sym m.timelines) distinct_states;
        kinds = distinct_kinds;
      });
      expressions = has_small_expressions model (record { kinds = small_kinds });
      times = has_least_times model (record { kinds = timed_kinds });
    }

-- the drafts of a tree that the check answers with a model
module _ (ast : Ast) (model : Model) where
  answered : (rows : Judged (List Draft)) → drafted ast ≡ rows → AnswersJudged ast rows (Ok model) → (drafts : List Draft) × (drafted ast ≡ Ok drafts) × IsModelOf ast drafts model
  answered (Ok drafts) h a = (drafts, h, a)
  answered (Err fault.Memory) h a = absurd a
  answered (Err (fault.Twice n)) h a = absurd a
  answered (Err (fault.TooMany w)) h a = absurd a
  answered (Err (fault.Unknown n)) h a = absurd a
  answered (Err (fault.Range w)) h a = absurd a
  answered (Err (fault.Circular n p)) h a = absurd a
  answered (Err (fault.Recursive n)) h a = absurd a
  answered (Err (fault.NoSchedule n c l)) h a = absurd a

-- what the check answered for any tree
pub answered_consistent : (result : Judged Model) → IfOk result IsAnswered → IfOk result IsConsistent
answered_consistent (Ok model) h = structural h.ast h.drafts model h.rows h.passes
answered_consistent (Err e) h = tt

-- and for the tree of a text
pub answered_checked : (ast : Ast) (result : Judged Model) → Answers ast result → (text : List ℕ) → ReadsText text ast → IfOk result IsChecked
answered_checked ast (Err e) h text reads = tt
answered_checked ast (Ok model) h text reads =
    let found = answered ast model (drafted ast) refl h in
    let drafts : List Draft = found.0 in
    let rows = passes_rows ast drafts found.1 in
    let c = structural ast drafts model found.1 found.2 in
    let items = text_items text ast reads in
    let spans : List (ℤ × ℤ) = spans_in ast.horizon drafts in
    let lines : All IsWrittenLine (lines_in drafts) =
    pair_all (Makes numbered_line) IsNamedLine IsWrittenLine (λ a t n h. line_written a t h n) (written_lines ast.items) (lines_in drafts) (lines_such IsNamedLine IsTextItem (λ l h. h) ast.items items) (made_lines ast.items ast.items drafts rows.numbers) in
    let kinds : All (Words ast.items) (kinds_in drafts) =
    pair_all (Makes (numbered_kind ast.items)) IsTextKind (Words ast.items) (λ k d n h. (k, n, numbers_kind ast.items k d h)) (written_kinds ast.items) (kinds_in drafts) (kinds_such IsTextKind IsTextItem (λ k h. h) ast.items items) (made_kinds ast.items ast.items drafts rows.numbers) in
    record {
      horizon = c.horizon;
      lead = c.lead;
      few_timelines = c.few_timelines;
      few_kinds = c.few_kinds;
      timelines = c.timelines;
      kinds = c.kinds;
      ranks = c.ranks;
      names = c.names;
      expressions = c.expressions;
      times = c.times;
      written = is_written model (record {
        timelines = subst (All IsWrittenLine) (sym found.2.timelines) lines;
        kinds = pair_all (FinishesKind ast.horizon spans) (Words ast.items) IsWrittenKind (λ d k w f. kind_written ast.items ast.horizon spans w.0 d k w.2 f w.1) (kinds_in drafts) model.kinds kinds found.2.kinds;
      });
    }
