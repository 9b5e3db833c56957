-- One text has one model, and no line refuses it.
use Rattle.std.proofs.Common.{◌≡◌, ◌≢◌, ℕ, suc, ◌+◌, ◌*◌, ◌≤◌, ◌<◌, ℤ, pos, ◌≤ℤ◌, List, [], ◌∷◌, length, Result, Ok, Err, refl, sym, ap₂, ◌∙◌, subst, arith}
use Rattle.std.proofs.lemmas.Int.{ints}
use Rattle.std.specs.Prelude.{slice_index}
use Rattle.pl_text.specs.declared.token.Token.{Token as Piece}
use Rattle.pl_syntax.specs.declared.token.Token.{Token}
use Rattle.pl_syntax.specs.Faults.{Stop, Judged}
use Rattle.pl_stn.specs.declared.net.Net.{Net}
use Rattle.pl_stn.specs.Nets.{time_of}
use Rattle.pl_model.specs.declared.alternatives.Alternative.{Alternative}
use Rattle.pl_model.specs.declared.alternatives.Slot.{Slot}
use Rattle.pl_model.specs.declared.alternatives.Order.{Order}
use Rattle.pl_model.specs.declared.parameters.Param.{Param}
use Rattle.pl_model.specs.declared.expressions.Expr.{Expr}
use Rattle.pl_model.specs.declared.reservations.Reservation.{Reservation}
use Rattle.pl_model.specs.declared.links.Link.{Link}
use Rattle.pl_model.specs.declared.timelines.Timeline.{Timeline}
use Rattle.pl_model.specs.declared.kinds.Kind.{Kind}
use Rattle.pl_model.specs.declared.whole.Model.{Model}
use Rattle.pl_syntax.specs.declared.whole.Ast.{Ast}
use Rattle.pl_syntax.specs.declared.fault.SyntaxFault.{SyntaxFault}
use Rattle.pl_syntax.specs.declared.fault.SyntaxFault.TheVariants as syntax
use Rattle.pl_syntax.specs.Expressions.{limits}
use Rattle.pl_syntax.specs.Grammar.{Reads, ReadsFree}
use Rattle.pl_syntax.specs.Reading.{read_all}
use Rattle.pl_syntax.specs.Marks.{marks_of}
use Rattle.pl_syntax.specs.Answers.{ReadsText, longest, Answers as Read}
use Rattle.pl_syntax.proofs.ReadExact.{read_exact}
use Rattle.pl_syntax.proofs.Answered.{found_short, same_tokens}
use Rattle.pl_check.specs.declared.fault.ModelFault.{ModelFault}
use Rattle.pl_check.specs.declared.fault.ModelFault.TheVariants as fault
use Rattle.pl_check.specs.declared.drafts.Draft.{Draft}
use Rattle.pl_check.specs.declared.drafts.DraftAlternative.{DraftAlternative}
use Rattle.pl_check.specs.declared.drafts.DraftKind.{DraftKind}
use Rattle.pl_check.specs.Judgements as judge
use Rattle.pl_check.specs.Drafting.{kinds_in}
use Rattle.pl_lists.specs.Lists.{Pairwise}
use Rattle.pl_check.specs.Networks.{HasOffsets, FinishesAlternative, FinishesKind, net_of, span_of}
use Rattle.pl_check.specs.Checked.{drafted, spans_in, IsModelOf, AnswersJudged, Answers as Checked, PassesEachRow}
use Rattle.pl_check.proofs.ScheduleLemmas.{kinds_scheduled}
use Rattle.pl_check.proofs.AcceptanceLemmas.{accepted}
use Rattle.pl_check.proofs.StructureLemmas.{answered_checked}
use Rattle.pl_model.specs.Checked.{IsChecked}
use Rattle.pl_check.specs.Accepting.{IsModelText, IsRefusedAs, by_syntax, by_check}

-- ---- one tree

judged_one : (ts : List Token) (r : Result Ast Stop) (a b : Ast) → Judged (Reads limits) ReadsFree ts r → Reads limits ts a → Reads limits ts b → a ≡ b
judged_one ts (Ok d) a b j h g = sym (j.1 a h) ∙ j.1 b g
judged_one ts (Err s) a b j h g = absurd (j.0 a h)

pub one_tree : (text : List ℕ) (a b : Ast) → ReadsText text a → ReadsText text b → a ≡ b
one_tree text a b h g =
    let ts : List Token = marks_of text h.tokens in
    judged_one ts (read_all 32 32 ts) a b (read_exact 32 32 (omega arith) ts) h.reads
    (subst (λ (x : List Piece). Reads limits (marks_of text x) b) (same_tokens text g.tokens h.tokens g.lexed h.lexed) g.reads)

-- ---- the rows pass

passes_of : (ast : Ast) (j : judge.Judged (List Draft)) (m : Model) → drafted ast ≡ j → AnswersJudged ast j (Ok m) → PassesEachRow ast
passes_of ast (Ok drafts) m e h = record {
  drafts = drafts;
  rows = e;
  params = h.params;
  contained = h.contained;
  schedules = kinds_scheduled ast.horizon (spans_in ast.horizon drafts) (kinds_in drafts) m.kinds h.kinds;
}
passes_of ast (Err e) m is h = absurd h

not_both : (ast : Ast) (m : Model) (e : ModelFault) → e ≢ fault.Memory → Checked ast (Ok m) → Checked ast (Err e) → ⊥
not_both ast m (fault.Twice n) other h g = accepted ast (Err (fault.Twice n)) g (passes_of ast (drafted ast) m refl h)
not_both ast m (fault.TooMany n) other h g = accepted ast (Err (fault.TooMany n)) g (passes_of ast (drafted ast) m refl h)
not_both ast m (fault.Unknown n) other h g = accepted ast (Err (fault.Unknown n)) g (passes_of ast (drafted ast) m refl h)
not_both ast m (fault.Range n) other h g = accepted ast (Err (fault.Range n)) g (passes_of ast (drafted ast) m refl h)
not_both ast m (fault.Circular n p) other h g = accepted ast (Err (fault.Circular n p)) g (passes_of ast (drafted ast) m refl h)
not_both ast m (fault.Recursive n) other h g = accepted ast (Err (fault.Recursive n)) g (passes_of ast (drafted ast) m refl h)
not_both ast m (fault.NoSchedule n a c) other h g = accepted ast (Err (fault.NoSchedule n a c)) g (passes_of ast (drafted ast) m refl h)
not_both ast m fault.Memory other h g = other refl

pub syntax_apart : (text : List ℕ) (ast : Ast) (e : SyntaxFault) → e ≢ syntax.Memory → Read text (Err e) → length text ≤ longest → ReadsText text ast → ⊥
syntax_apart text ast syntax.TooLong other read short h = omega (arith, read, short)
syntax_apart text ast (syntax.BadByte p) other read short h = found_short text (Err (syntax.BadByte p)) read.1 ast h
syntax_apart text ast (syntax.BadNumber p) other read short h = found_short text (Err (syntax.BadNumber p)) read.1 ast h
syntax_apart text ast (syntax.BadName p) other read short h = found_short text (Err (syntax.BadName p)) read.1 ast h
syntax_apart text ast (syntax.TooDeep p) other read short h = found_short text (Err (syntax.TooDeep p)) read.1 ast h
syntax_apart text ast (syntax.Unexpected p) other read short h = found_short text (Err (syntax.Unexpected p)) read.1 ast h
syntax_apart text ast syntax.Memory other read short h = other refl

pub apart : (text line : List ℕ) (m : Model) → IsModelText text m → IsRefusedAs text line → ⊥
apart text line m h (by_syntax e other read is) = syntax_apart text h.ast e other read h.short h.reads
apart text line m h (by_check ast e short reads other checked is) =
    not_both ast m e other (subst (λ (x : Ast). Checked x (Ok m)) (one_tree text h.ast ast h.reads reads) h.passes) checked

-- ---- one model

same_numbers : (xs ys : List ℕ) → length xs ≡ length ys → ((i : ℕ) → i < length xs → slice_index xs i ≡ slice_index ys i) → xs ≡ ys
same_numbers [] [] e h = refl
same_numbers [] (y ∷ ys) e h = absurd (omega (arith, e))
same_numbers (x ∷ xs) [] e h = absurd (omega (arith, e))
same_numbers (x ∷ xs) (y ∷ ys) e h = ap₂ (λ (a : ℕ) (as_ : List ℕ). a ∷ as_) (h 0 (omega arith)) (same_numbers xs ys (omega (arith, e)) (λ i lt. h (suc i) (omega (arith, lt))))

pos_same : (m n : ℕ) → pos m ≡ pos n → m ≡ n
pos_same m n e = cc

offsets_same : (net : Net) (slots : ℕ) (xs ys : List ℕ) → 2 * slots + 2 ≡ net.points → HasOffsets net slots xs → HasOffsets net slots ys → xs ≡ ys
offsets_same net slots xs ys points h g = same_numbers xs ys (h.each_slot ∙ sym g.each_slot) (λ i lt.
    let below : i < slots = omega (arith, lt, h.each_slot) in
    let one : time_of h.times (2 * i + 2) ≤ℤ time_of g.times (2 * i + 2) = h.least g.times g.solution (2 * i + 2) (omega (arith, below, points)) in
    let two : time_of g.times (2 * i + 2) ≤ℤ time_of h.times (2 * i + 2) = g.least h.times h.solution (2 * i + 2) (omega (arith, below, points)) in
    omega (arith, ints, one, two, h.starts i below, g.starts i below))

abbrev alternative_by : List Slot → List Order → List ℕ → Alternative
alternative_by s o x = record { slots = s; orders = o; offsets = x }

alternatives_by : (s t : List Slot) (o p : List Order) (x y : List ℕ) → s ≡ t → o ≡ p → x ≡ y → alternative_by s o x ≡ alternative_by t p y
alternatives_by s t o p x y e f g = cc

abbrev kind_by : List ℕ → List Param → Expr → ℕ → List Reservation → List Link → List Alternative → Kind
kind_by n p d l r k a = record { name = n; params = p; duration = d; least_duration = l; reservations = r; links = k; alternatives = a }

kinds_by : (n n2 : List ℕ) (p p2 : List Param) (d d2 : Expr) (l l2 : ℕ) (r r2 : List Reservation) (k k2 : List Link) (a a2 : List Alternative) → n ≡ n2 → p ≡ p2 → d ≡ d2 → l ≡ l2 → r ≡ r2 → k ≡ k2 → a ≡ a2 → kind_by n p d l r k a ≡ kind_by n2 p2 d2 l2 r2 k2 a2
kinds_by n n2 p p2 d d2 l l2 r r2 k k2 a a2 e1 e2 e3 e4 e5 e6 e7 = cc

abbrev model_by : ℕ → ℕ → List Timeline → List Kind → Model
model_by h l t k = record { horizon = h; lead = l; timelines = t; kinds = k }

models_by : (h h2 l l2 : ℕ) (t t2 : List Timeline) (k k2 : List Kind) → h ≡ h2 → l ≡ l2 → t ≡ t2 → k ≡ k2 → model_by h l t k ≡ model_by h2 l2 t2 k2
models_by h h2 l l2 t t2 k k2 e1 e2 e3 e4 = cc

alternative_same : (spans : List (ℤ × ℤ)) (own : ℤ × ℤ) (d : DraftAlternative) (a b : Alternative) → FinishesAlternative spans own d a → FinishesAlternative spans own d b → a ≡ b
alternative_same spans own d a b h g =
    let slots = h.slots ∙ sym g.slots in
    let orders = h.orders ∙ sym g.orders in
    let offsets = offsets_same (net_of spans own d) (length d.slots) a.offsets b.offsets refl h.offsets g.offsets in
    alternatives_by a.slots b.slots a.orders b.orders a.offsets b.offsets slots orders offsets

module _ {X Y : Type 0} (R : X → Y → Type 0) (same : (x : X) (a b : Y) → R x a → R x b → a ≡ b) where
  pairwise_same : (xs : List X) (as_ bs : List Y) → Pairwise R xs as_ → Pairwise R xs bs → as_ ≡ bs
  pairwise_same [] [] [] h g = refl
  pairwise_same [] [] (b ∷ bs) h g = absurd g
  pairwise_same [] (a ∷ as_) bs h g = absurd h
  pairwise_same (x ∷ xs) [] bs h g = absurd h
  pairwise_same (x ∷ xs) (a ∷ as_) [] h g = absurd g
  pairwise_same (x ∷ xs) (a ∷ as_) (b ∷ bs) h g = ap₂ (λ (y : Y) (ys : List Y). y ∷ ys) (same x a b h.0 g.0) (pairwise_same xs as_ bs h.1 g.1)

kind_same : (horizon : ℤ) (spans : List (ℤ × ℤ)) (d : DraftKind) (a b : Kind) → FinishesKind horizon spans d a → FinishesKind horizon spans d b → a ≡ b
kind_same horizon spans d a b h g =
    let name = h.name ∙ sym g.name in
    let params = h.params ∙ sym g.params in
    let duration = h.duration ∙ sym g.duration in
    let least = pos_same a.least_duration b.least_duration (h.least ∙ sym g.least) in
    let reservations = h.reservations ∙ sym g.reservations in
    let links = h.links ∙ sym g.links in
    let alternatives = pairwise_same (FinishesAlternative spans (span_of horizon d)) (alternative_same spans (span_of horizon d)) d.alternatives a.alternatives b.alternatives h.alternatives g.alternatives in
    kinds_by a.name b.name a.params b.params a.duration b.duration a.least_duration b.least_duration a.reservations b.reservations a.links b.links a.alternatives b.alternatives name params duration least reservations links alternatives

model_same : (ast : Ast) (drafts : List Draft) (m n : Model) → IsModelOf ast drafts m → IsModelOf ast drafts n → m ≡ n
model_same ast drafts m n h g =
    let horizon = pos_same m.horizon n.horizon (h.horizon ∙ sym g.horizon) in
    let lead = pos_same m.lead n.lead (h.lead ∙ sym g.lead) in
    let timelines = h.timelines ∙ sym g.timelines in
    let kinds = pairwise_same (FinishesKind ast.horizon (spans_in ast.horizon drafts)) (kind_same ast.horizon (spans_in ast.horizon drafts)) (kinds_in drafts) m.kinds n.kinds h.kinds g.kinds in
    models_by m.horizon n.horizon m.lead n.lead m.timelines n.timelines m.kinds n.kinds horizon lead timelines kinds

answers_same : (ast : Ast) (j : judge.Judged (List Draft)) (m n : Model) → AnswersJudged ast j (Ok m) → AnswersJudged ast j (Ok n) → m ≡ n
answers_same ast (Ok drafts) m n h g = model_same ast drafts m n h g
answers_same ast (Err e) m n h g = absurd h

pub one_model : (text : List ℕ) (m n : Model) → IsModelText text m → IsModelText text n → m ≡ n
one_model text m n h g =
    answers_same g.ast (drafted g.ast) m n (subst (λ (x : Ast). Checked x (Ok m)) (one_tree text h.ast g.ast h.reads g.reads) h.passes) g.passes

-- ---- its model is a checked one

pub checked_model : (text : List ℕ) (m : Model) → IsModelText text m → IsChecked m
checked_model text m h = answered_checked h.ast (Ok m) h.passes text h.reads
