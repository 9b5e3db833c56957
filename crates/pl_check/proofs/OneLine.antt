-- The first fault of a text is one.
use Rattle.std.proofs.Common.{◌≡◌, ◌≢◌, ℕ, zero, suc, ◌+◌, ◌≤◌, ◌<◌, ℤ, List, [], ◌∷◌, ◌++◌, All, length, take, slice_get, Some, Ok, Err, refl, sym, ap, ap₂, ◌∙◌, subst, arith}
use Rattle.std.proofs.lemmas.List.{length-take, get_or-take}
use Rattle.std.proofs.lemmas.List.Elements.{All-get_or}
use Rattle.std.proofs.lemmas.Option.{slice_get_within, get_or_from_slice_get}
use Rattle.pl_lists.proofs.Elements.{all_at}
use Rattle.pl_text.specs.declared.token.Token.{Token as Piece}
use Rattle.pl_syntax.specs.declared.token.Token.{Token}
use Rattle.pl_syntax.specs.Tokens.{AreReal}
use Rattle.pl_syntax.specs.Faults.{Language, Begins, Trouble, too_deep, unexpected, IsFirstBad}
use Rattle.pl_model.specs.declared.parameters.Param.{Param}
use Rattle.pl_model.specs.declared.whole.Model.{Model}
use Rattle.pl_syntax.specs.declared.whole.Ast.{Ast}
use Rattle.pl_syntax.specs.declared.fault.SyntaxFault.{SyntaxFault}
use Rattle.pl_syntax.specs.declared.fault.SyntaxFault.TheVariants as syntax
use Rattle.pl_syntax.specs.Expressions.{limits}
use Rattle.pl_syntax.specs.Grammar.{Reads, ReadsFree}
use Rattle.pl_syntax.specs.Marks.{marks_of, place_of}
use Rattle.pl_syntax.specs.Answers.{IsFirstBadAt, Answers as Read}
use Rattle.pl_syntax.proofs.TextMarks.{marks_real, real_append}
use Rattle.pl_syntax.proofs.Answered.{same_tokens}
use Rattle.pl_check.specs.declared.fault.ModelFault.{ModelFault}
use Rattle.pl_check.specs.declared.fault.ModelFault.TheVariants as fault
use Rattle.pl_check.specs.declared.drafts.Draft.{Draft}
use Rattle.pl_check.specs.declared.drafts.DraftKind.{DraftKind}
use Rattle.pl_check.specs.Judgements as judge
use Rattle.pl_check.specs.Drafting.{kinds_in}
use Rattle.pl_check.specs.Cycles.{Graph, IsFirstCyclic}
use Rattle.pl_check.specs.Dependencies.{IsWellFounded, param_graph, IsFirstCircularIn, IsFirstCircular, IsFirstRecursive}
use Rattle.pl_check.specs.Networks.{span_of}
use Rattle.pl_check.specs.Schedules.{HasSchedule, IsScheduled, IsFirstConflict, IsFirstUnscheduled}
use Rattle.pl_check.specs.Checked.{drafted, spans_in, IsFault, AnswersDrafts, AnswersJudged, Answers as Checked}
use Rattle.pl_check.proofs.AcceptanceLemmas.{not_circular, not_recursive}
use Rattle.pl_check.specs.Refusals.{syntax_text, fault_text, refusal_line}
use Rattle.pl_check.specs.Accepting.{IsRefusedAs, by_syntax, by_check}
use Rattle.pl_check.proofs.Apart.{one_tree, syntax_apart}

same_place : (i j : ℕ) → (i < j → ⊥) → (j < i → ⊥) → i ≡ j
same_place zero zero f g = refl
same_place zero (suc j) f g = absurd (f (omega arith))
same_place (suc i) zero f g = absurd (g (omega arith))
same_place (suc i) (suc j) f g = ap (λ (n : ℕ). suc n) (same_place i j (λ l. f (omega (arith, l))) (λ l. g (omega (arith, l))))

-- ---- the first bad token

real_take : (j : ℕ) (ts : List Token) → AreReal ts → AreReal (take j ts)
real_take zero ts r = tt
real_take (suc j) [] r = tt
real_take (suc j) (t ∷ ts) r = (r.0, real_take j ts r.1)

split : (ts : List Token) (i j : ℕ) → i ≤ j → AreReal ts → (m : List Token) × (take j ts ≡ take i ts ++ m) × AreReal m
split ts zero j le r = (take j ts, refl, real_take j ts r)
split [] (suc i) zero le r = absurd (omega (arith, le))
split [] (suc i) (suc j) le r = ([], refl, tt)
split (t ∷ ts) (suc i) zero le r = absurd (omega (arith, le))
split (t ∷ ts) (suc i) (suc j) le r = let s = split ts i j (omega (arith, le)) r.1 in (s.0, ap (λ (x : List Token). t ∷ x) s.1, s.2)

assoc : (xs ys zs : List Token) → (xs ++ ys) ++ zs ≡ xs ++ (ys ++ zs)
assoc [] ys zs = refl
assoc (x ∷ xs) ys zs = ap (λ (l : List Token). x ∷ l) (assoc xs ys zs)

module _ {D : Type 0} (R F : Language D) (ts : List Token) (real : AreReal ts) where
  earlier : (i j : ℕ) → i ≤ j → Begins R (take j ts) → Begins R (take i ts)
  earlier i j le b =
      let s = split ts i j le real in
      let e : take j ts ++ b.0 ≡ take i ts ++ (s.0 ++ b.0) = ap (λ (x : List Token). x ++ b.0) s.1 ∙ assoc (take i ts) s.0 b.0 in
      (s.0 ++ b.0, b.1, subst (λ (x : List Token). R x b.1) e b.2, real_append s.0 b.0 s.2 b.3)

  not_before : (t u : Trouble) (i j : ℕ) → IsFirstBad R F ts t i → IsFirstBad R F ts u j → i < j → ⊥
  not_before t u i j f g lt = (f.there (omega (arith, lt, g.within))).0 (earlier (i + 1) j (omega (arith, lt)) g.before)

  pub bad_place : (t u : Trouble) (i j : ℕ) → IsFirstBad R F ts t i → IsFirstBad R F ts u j → i ≡ j
  bad_place t u i j f g = same_place i j (not_before t u i j f g) (not_before u t j i g f)

  -- the text cannot be too deep there and unexpected too
  pub not_both_troubles : (i : ℕ) → IsFirstBad R F ts too_deep i → IsFirstBad R F ts unexpected i → ⊥
  not_both_troubles i f g =
      let inside : i < length ts → ⊥ = λ lt. (g.there lt).1 (f.there lt).1 in
      let e = f.end (same_place i (length ts) inside (λ l. omega (arith, l, f.within))) in
      absurd cc

at_tokens : (text : List ℕ) (t : Trouble) (ts us : List Piece) (i : ℕ) → us ≡ ts → IsFirstBad (Reads limits) ReadsFree (marks_of text us) t i → IsFirstBad (Reads limits) ReadsFree (marks_of text ts) t i
at_tokens text t ts us i e h = subst (λ (x : List Piece). IsFirstBad (Reads limits) ReadsFree (marks_of text x) t i) e h

bad_same : (text : List ℕ) (t u : Trouble) (p q : ℕ) → IsFirstBadAt text t p → IsFirstBadAt text u q → p ≡ q
bad_same text t u p q f g =
    let e = same_tokens text g.tokens f.tokens g.lexed f.lexed in
    let i : f.index ≡ g.index = bad_place (Reads limits) ReadsFree (marks_of text f.tokens) (marks_real text f.tokens f.lexed) t u f.index g.index f.first (at_tokens text u f.tokens g.tokens g.index e g.first) in
    f.place ∙ ap₂ (λ (x : List Piece) (n : ℕ). place_of x n (length text)) (sym e) i ∙ sym g.place

bad_apart : (text : List ℕ) (p q : ℕ) → IsFirstBadAt text too_deep p → IsFirstBadAt text unexpected q → ⊥
bad_apart text p q f g =
    let e = same_tokens text g.tokens f.tokens g.lexed f.lexed in
    let there = at_tokens text unexpected f.tokens g.tokens g.index e g.first in
    let i : g.index ≡ f.index = sym (bad_place (Reads limits) ReadsFree (marks_of text f.tokens) (marks_real text f.tokens f.lexed) too_deep unexpected f.index g.index f.first there) in
    not_both_troubles (Reads limits) ReadsFree (marks_of text f.tokens) (marks_real text f.tokens f.lexed) f.index f.first (subst (λ (n : ℕ). IsFirstBad (Reads limits) ReadsFree (marks_of text f.tokens) unexpected n) i there)

pub one_syntax : (text : List ℕ) (e f : SyntaxFault) → e ≢ syntax.Memory → f ≢ syntax.Memory → Read text (Err e) → Read text (Err f) → e ≡ f
one_syntax text syntax.TooLong syntax.TooLong m n h g = refl
one_syntax text syntax.TooLong (syntax.BadByte q) m n h g = absurd (omega (arith, h, g.0))
one_syntax text syntax.TooLong (syntax.BadNumber q) m n h g = absurd (omega (arith, h, g.0))
one_syntax text syntax.TooLong (syntax.BadName q) m n h g = absurd (omega (arith, h, g.0))
one_syntax text syntax.TooLong (syntax.TooDeep q) m n h g = absurd (omega (arith, h, g.0))
one_syntax text syntax.TooLong (syntax.Unexpected q) m n h g = absurd (omega (arith, h, g.0))
one_syntax text syntax.TooLong syntax.Memory m n h g = absurd (n refl)
one_syntax text (syntax.BadByte p) syntax.TooLong m n h g = absurd (omega (arith, g, h.0))
one_syntax text (syntax.BadByte p) (syntax.BadByte q) m n h g = let e = sym h.1 ∙ g.1 in cc
one_syntax text (syntax.BadByte p) (syntax.BadNumber q) m n h g = let e = sym h.1 ∙ g.1 in absurd cc
one_syntax text (syntax.BadByte p) (syntax.BadName q) m n h g = let e = sym h.1 ∙ g.1 in absurd cc
one_syntax text (syntax.BadByte p) (syntax.TooDeep q) m n h g = let e = sym h.1 ∙ g.1.lexed in absurd cc
one_syntax text (syntax.BadByte p) (syntax.Unexpected q) m n h g = let e = sym h.1 ∙ g.1.lexed in absurd cc
one_syntax text (syntax.BadByte p) syntax.Memory m n h g = absurd (n refl)
one_syntax text (syntax.BadNumber p) syntax.TooLong m n h g = absurd (omega (arith, g, h.0))
one_syntax text (syntax.BadNumber p) (syntax.BadByte q) m n h g = let e = sym h.1 ∙ g.1 in absurd cc
one_syntax text (syntax.BadNumber p) (syntax.BadNumber q) m n h g = let e = sym h.1 ∙ g.1 in cc
one_syntax text (syntax.BadNumber p) (syntax.BadName q) m n h g = let e = sym h.1 ∙ g.1 in absurd cc
one_syntax text (syntax.BadNumber p) (syntax.TooDeep q) m n h g = let e = sym h.1 ∙ g.1.lexed in absurd cc
one_syntax text (syntax.BadNumber p) (syntax.Unexpected q) m n h g = let e = sym h.1 ∙ g.1.lexed in absurd cc
one_syntax text (syntax.BadNumber p) syntax.Memory m n h g = absurd (n refl)
one_syntax text (syntax.BadName p) syntax.TooLong m n h g = absurd (omega (arith, g, h.0))
one_syntax text (syntax.BadName p) (syntax.BadByte q) m n h g = let e = sym h.1 ∙ g.1 in absurd cc
one_syntax text (syntax.BadName p) (syntax.BadNumber q) m n h g = let e = sym h.1 ∙ g.1 in absurd cc
one_syntax text (syntax.BadName p) (syntax.BadName q) m n h g = let e = sym h.1 ∙ g.1 in cc
one_syntax text (syntax.BadName p) (syntax.TooDeep q) m n h g = let e = sym h.1 ∙ g.1.lexed in absurd cc
one_syntax text (syntax.BadName p) (syntax.Unexpected q) m n h g = let e = sym h.1 ∙ g.1.lexed in absurd cc
one_syntax text (syntax.BadName p) syntax.Memory m n h g = absurd (n refl)
one_syntax text (syntax.TooDeep p) syntax.TooLong m n h g = absurd (omega (arith, g, h.0))
one_syntax text (syntax.TooDeep p) (syntax.BadByte q) m n h g = let e = sym g.1 ∙ h.1.lexed in absurd cc
one_syntax text (syntax.TooDeep p) (syntax.BadNumber q) m n h g = let e = sym g.1 ∙ h.1.lexed in absurd cc
one_syntax text (syntax.TooDeep p) (syntax.BadName q) m n h g = let e = sym g.1 ∙ h.1.lexed in absurd cc
one_syntax text (syntax.TooDeep p) (syntax.TooDeep q) m n h g = ap (λ (x : ℕ). syntax.TooDeep x) (bad_same text too_deep too_deep p q h.1 g.1)
one_syntax text (syntax.TooDeep p) (syntax.Unexpected q) m n h g = absurd (bad_apart text p q h.1 g.1)
one_syntax text (syntax.TooDeep p) syntax.Memory m n h g = absurd (n refl)
one_syntax text (syntax.Unexpected p) syntax.TooLong m n h g = absurd (omega (arith, g, h.0))
one_syntax text (syntax.Unexpected p) (syntax.BadByte q) m n h g = let e = sym g.1 ∙ h.1.lexed in absurd cc
one_syntax text (syntax.Unexpected p) (syntax.BadNumber q) m n h g = let e = sym g.1 ∙ h.1.lexed in absurd cc
one_syntax text (syntax.Unexpected p) (syntax.BadName q) m n h g = let e = sym g.1 ∙ h.1.lexed in absurd cc
one_syntax text (syntax.Unexpected p) (syntax.TooDeep q) m n h g = absurd (bad_apart text q p g.1 h.1)
one_syntax text (syntax.Unexpected p) (syntax.Unexpected q) m n h g = ap (λ (x : ℕ). syntax.Unexpected x) (bad_same text unexpected unexpected p q h.1 g.1)
one_syntax text (syntax.Unexpected p) syntax.Memory m n h g = absurd (n refl)
one_syntax text syntax.Memory syntax.TooLong m n h g = absurd (m refl)
one_syntax text syntax.Memory (syntax.BadByte q) m n h g = absurd (m refl)
one_syntax text syntax.Memory (syntax.BadNumber q) m n h g = absurd (m refl)
one_syntax text syntax.Memory (syntax.BadName q) m n h g = absurd (m refl)
one_syntax text syntax.Memory (syntax.TooDeep q) m n h g = absurd (m refl)
one_syntax text syntax.Memory (syntax.Unexpected q) m n h g = absurd (m refl)
one_syntax text syntax.Memory syntax.Memory m n h g = absurd (m refl)

-- ---- the first fault of the checks

at_taken : {X : Type 0} (P : X → Type 0) (xs : List X) (n i : ℕ) (x : X) → i < n → All P (take n xs) → slice_get xs i ≡ Some x → P x
at_taken P xs n i x lt h e =
    let inside = slice_get_within xs i x e in
    subst P (get_or-take n xs i x lt ∙ get_or_from_slice_get xs i x x e) (All-get_or P (take n xs) i x (omega (arith, length-take n xs, lt, inside)) h)

found_same : {X : Type 0} (xs : List X) (i j : ℕ) (x y : X) → slice_get xs i ≡ Some x → slice_get xs j ≡ Some y → i ≡ j → x ≡ y
found_same xs i j x y e f same = let g = sym e ∙ ap (λ (n : ℕ). slice_get xs n) same ∙ f in cc

cyclic_same : (g : Graph) (a b : ℕ) → IsFirstCyclic g a → IsFirstCyclic g b → a ≡ b
cyclic_same g a b h k = same_place a b (λ lt. k.earlier.each a lt h.cyclic) (λ lt. h.earlier.each b lt k.cyclic)

not_founded : (k : DraftKind) (n p : List ℕ) → IsWellFounded k → IsFirstCircularIn k n p → ⊥
not_founded k n p w f = w.acyclic.each f.number f.first.vertex f.first.cyclic

circular_in : (k l : DraftKind) (n p m q : List ℕ) → k ≡ l → IsFirstCircularIn k n p → IsFirstCircularIn l m q → fault_text (fault.Circular n p) ≡ fault_text (fault.Circular m q)
circular_in k l n p m q e f g =
    let h : IsFirstCircularIn k m q = subst (λ (x : DraftKind). IsFirstCircularIn x m q) (sym e) g in
    let number = cyclic_same (param_graph k) f.number h.number f.first h.first in
    let stands = found_same k.params f.number h.number f.stands h.stands f.found h.found number in
    ap₂ (λ (x y : List ℕ). fault_text (fault.Circular x y)) (f.named ∙ sym h.named) (f.param_named ∙ ap (λ (x : Param). x.name) stands ∙ sym h.param_named)

circular_same : (kinds : List DraftKind) (n p m q : List ℕ) → IsFirstCircular kinds n p → IsFirstCircular kinds m q → fault_text (fault.Circular n p) ≡ fault_text (fault.Circular m q)
circular_same kinds n p m q f g =
    let place = same_place f.place g.place
    (λ lt. not_founded f.kind n p (at_taken IsWellFounded kinds g.place f.place f.kind lt g.earlier f.found) f.first)
    (λ lt. not_founded g.kind m q (at_taken IsWellFounded kinds f.place g.place g.kind lt f.earlier g.found) g.first) in
    circular_in f.kind g.kind n p m q (found_same kinds f.place g.place f.kind g.kind f.found g.found place) f.first g.first

recursive_same : (kinds : List DraftKind) (n m : List ℕ) → IsFirstRecursive kinds n → IsFirstRecursive kinds m → fault_text (fault.Recursive n) ≡ fault_text (fault.Recursive m)
recursive_same kinds n m f g =
    let place = cyclic_same _ f.place g.place f.first g.first in
    let kind = found_same kinds f.place g.place f.kind g.kind f.found g.found place in
    ap (λ (x : List ℕ). fault_text (fault.Recursive x)) (f.named ∙ ap (λ (x : DraftKind). x.name) kind ∙ sym g.named)

module _ (horizon : ℤ) (spans : List (ℤ × ℤ)) where
  conflict_not : (k : DraftKind) (n : List ℕ) (a : ℕ) (c : List ℕ) → IsScheduled horizon spans k → IsFirstConflict spans (span_of horizon k) k n a c → ⊥
  conflict_not k n a c s f = let t = all_at (HasSchedule spans (span_of horizon k)) k.alternatives a f.alternative s f.found in f.conflict.1 t.0 t.1

  conflict_before : (k : DraftKind) (n m : List ℕ) (a b : ℕ) (c d : List ℕ) → IsFirstConflict spans (span_of horizon k) k n a c → IsFirstConflict spans (span_of horizon k) k m b d → a < b → ⊥
  conflict_before k n m a b c d f g lt = let t = at_taken (HasSchedule spans (span_of horizon k)) k.alternatives b a f.alternative lt g.earlier f.found in f.conflict.1 t.0 t.1

  conflict_same : (k l : DraftKind) (n m : List ℕ) (a b : ℕ) (c d : List ℕ) → k ≡ l → IsFirstConflict spans (span_of horizon k) k n a c → IsFirstConflict spans (span_of horizon l) l m b d → fault_text (fault.NoSchedule n a c) ≡ fault_text (fault.NoSchedule m b d)
  conflict_same k l n m a b c d e f g =
      let h : IsFirstConflict spans (span_of horizon k) k m b d = subst (λ (x : DraftKind). IsFirstConflict spans (span_of horizon x) x m b d) (sym e) g in
      ap₂ (λ (x : List ℕ) (y : ℕ). fault_text (fault.NoSchedule x y c)) (f.named ∙ sym h.named) (same_place a b (conflict_before k n m a b c d f h) (conflict_before k m n b a d c h f))

  unscheduled_same : (kinds : List DraftKind) (n m : List ℕ) (a b : ℕ) (c d : List ℕ) → IsFirstUnscheduled horizon spans kinds n a c → IsFirstUnscheduled horizon spans kinds m b d → fault_text (fault.NoSchedule n a c) ≡ fault_text (fault.NoSchedule m b d)
  unscheduled_same kinds n m a b c d f g =
      let place = same_place f.place g.place
      (λ lt. conflict_not f.kind n a c (at_taken (IsScheduled horizon spans) kinds g.place f.place f.kind lt g.earlier f.found) f.first)
      (λ lt. conflict_not g.kind m b d (at_taken (IsScheduled horizon spans) kinds f.place g.place g.kind lt f.earlier g.found) g.first) in
      conflict_same f.kind g.kind n m a b c d (found_same kinds f.place g.place f.kind g.kind f.found g.found place) f.first g.first

is_fault : (e f : ModelFault) → f ≢ fault.Memory → IsFault {X = Model} e (Err f) → f ≡ e
is_fault e (fault.Twice n) m h = h
is_fault e (fault.TooMany n) m h = h
is_fault e (fault.Unknown n) m h = h
is_fault e (fault.Range n) m h = h
is_fault e (fault.Circular n p) m h = h
is_fault e (fault.Recursive n) m h = h
is_fault e (fault.NoSchedule n a c) m h = h
is_fault e fault.Memory m h = absurd (m refl)

drafts_same : (ast : Ast) (ds : List Draft) (e f : ModelFault) → e ≢ fault.Memory → f ≢ fault.Memory → AnswersDrafts ast ds (Err e) → AnswersDrafts ast ds (Err f) → fault_text e ≡ fault_text f
drafts_same ast ds (fault.Twice n) f m k h g = absurd h
drafts_same ast ds (fault.TooMany n) f m k h g = absurd h
drafts_same ast ds (fault.Unknown n) f m k h g = absurd h
drafts_same ast ds (fault.Range n) f m k h g = absurd h
drafts_same ast ds fault.Memory f m k h g = absurd (m refl)
drafts_same ast ds (fault.Circular n p) (fault.Twice n2) m k h g = absurd g
drafts_same ast ds (fault.Circular n p) (fault.TooMany n2) m k h g = absurd g
drafts_same ast ds (fault.Circular n p) (fault.Unknown n2) m k h g = absurd g
drafts_same ast ds (fault.Circular n p) (fault.Range n2) m k h g = absurd g
drafts_same ast ds (fault.Circular n p) fault.Memory m k h g = absurd (k refl)
drafts_same ast ds (fault.Circular n p) (fault.Circular n2 p2) m k h g = circular_same (kinds_in ds) n p n2 p2 h g
drafts_same ast ds (fault.Circular n p) (fault.Recursive n2) m k h g = absurd (not_circular (kinds_in ds) n p g.0 h)
drafts_same ast ds (fault.Circular n p) (fault.NoSchedule n2 a2 c2) m k h g = absurd (not_circular (kinds_in ds) n p g.0 h)
drafts_same ast ds (fault.Recursive n) (fault.Twice n2) m k h g = absurd g
drafts_same ast ds (fault.Recursive n) (fault.TooMany n2) m k h g = absurd g
drafts_same ast ds (fault.Recursive n) (fault.Unknown n2) m k h g = absurd g
drafts_same ast ds (fault.Recursive n) (fault.Range n2) m k h g = absurd g
drafts_same ast ds (fault.Recursive n) fault.Memory m k h g = absurd (k refl)
drafts_same ast ds (fault.Recursive n) (fault.Circular n2 p2) m k h g = absurd (not_circular (kinds_in ds) n2 p2 h.0 g)
drafts_same ast ds (fault.Recursive n) (fault.Recursive n2) m k h g = recursive_same (kinds_in ds) n n2 h.1 g.1
drafts_same ast ds (fault.Recursive n) (fault.NoSchedule n2 a2 c2) m k h g = absurd (not_recursive (kinds_in ds) n g.1 h.1)
drafts_same ast ds (fault.NoSchedule n a c) (fault.Twice n2) m k h g = absurd g
drafts_same ast ds (fault.NoSchedule n a c) (fault.TooMany n2) m k h g = absurd g
drafts_same ast ds (fault.NoSchedule n a c) (fault.Unknown n2) m k h g = absurd g
drafts_same ast ds (fault.NoSchedule n a c) (fault.Range n2) m k h g = absurd g
drafts_same ast ds (fault.NoSchedule n a c) fault.Memory m k h g = absurd (k refl)
drafts_same ast ds (fault.NoSchedule n a c) (fault.Circular n2 p2) m k h g = absurd (not_circular (kinds_in ds) n2 p2 h.0 g)
drafts_same ast ds (fault.NoSchedule n a c) (fault.Recursive n2) m k h g = absurd (not_recursive (kinds_in ds) n2 h.1 g.1)
drafts_same ast ds (fault.NoSchedule n a c) (fault.NoSchedule n2 a2 c2) m k h g = unscheduled_same ast.horizon (spans_in ast.horizon ds) (kinds_in ds) n n2 a a2 c c2 h.2 g.2

judged_same : (ast : Ast) (j : judge.Judged (List Draft)) (e f : ModelFault) → e ≢ fault.Memory → f ≢ fault.Memory → AnswersJudged ast j (Err e) → AnswersJudged ast j (Err f) → fault_text e ≡ fault_text f
judged_same ast (Ok ds) e f m k h g = drafts_same ast ds e f m k h g
judged_same ast (Err x) e f m k h g = ap fault_text (is_fault x e m h ∙ sym (is_fault x f k g))

pub one_line : (text a b : List ℕ) → IsRefusedAs text a → IsRefusedAs text b → a ≡ b
one_line text a b (by_syntax e m h is) (by_syntax f k g also) = is ∙ ap (λ (x : SyntaxFault). refusal_line (syntax_text x)) (one_syntax text e f m k h g) ∙ sym also
one_line text a b (by_syntax e m h is) (by_check ast f short reads k g also) = absurd (syntax_apart text ast e m h short reads)
one_line text a b (by_check ast e short reads m h is) (by_syntax f k g also) = absurd (syntax_apart text ast f k g short reads)
one_line text a b (by_check ast e short reads m h is) (by_check ast2 f short2 reads2 k g also) =
    let same : Checked ast (Err f) = subst (λ (x : Ast). Checked x (Err f)) (sym (one_tree text ast ast2 reads reads2)) g in
    is ∙ ap (λ (x : List ℕ). refusal_line x) (judged_same ast (drafted ast) e f m k h same) ∙ sym also
