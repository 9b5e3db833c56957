-- Lists of conflicts that are made of spans, musts and steps, as those change.
use Rattle.std.proofs.Common.{◌≡◌, ℕ, eqb, Bool, true, false, cond, List, [], ◌∷◌, ◌++◌, refl, ap, sym, ◌∙◌, subst}
use Rattle.std.specs.Prelude.{not, ◌||◌, ◌&&◌, map}
use Rattle.std.proofs.lemmas.Bool.{true≢false}
use Rattle.std.proofs.Math.Bool.{or-true, or-false, and-false, and-or_distrib_left}
use Rattle.pl_lists.specs.Lists.{is_among, left_out}
use Rattle.pl_points.specs.declared.span.Span.{Span}
use Rattle.pl_points.specs.declared.span.Change.{Change}
use Rattle.pl_points.specs.Spans.{span}
use Rattle.pl_points.specs.Changes.{same_span, IsChange}
use Rattle.pl_points.proofs.Alike.{exchange, same_exact}
use Rattle.pl_points.proofs.Rounds.{same_self}
use Rattle.pl_conflict.specs.declared.conflict.Conflict.{Conflict}
use Rattle.pl_conflict.specs.declared.conflict.Code.{Code}
use Rattle.pl_conflict.specs.declared.conflict.Code.TheVariants as code
use Rattle.pl_conflict.specs.Codes.{code_number}
use Rattle.pl_conflict.specs.Order.{has}
use Rattle.pl_conflict.proofs.Sorting.{same, same_is, has-append}
use Rattle.pl_level.specs.declared.reservation.LevelChange.{LevelChange}
use Rattle.pl_level.specs.Soundness.{AreChanges as AreLevelChanges}
use Rattle.pl_state.specs.declared.answer.BrokenMust.{BrokenMust}
use Rattle.pl_state.specs.declared.answer.BadSet.{BadSet}
use Rattle.pl_state.specs.declared.answer.StateChange.{StateChange}
use Rattle.pl_state.specs.Timelines.{AreChanges, same_broken, same_bad}
use Rattle.pl_state.proofs.Apart.{broken_exact, bad_exact}
use Rattle.pl_state.proofs.Grouping.{bad_itself, broken_itself}
use Rattle.pl_semantics.specs.declared.plan_state.PlanState.{PlanState}
use Rattle.pl_semantics.specs.Timelines.{outside, unmet_must, bad_step}
use Rattle.pl_semantics.proofs.Owning.{Each, each_map}
use Rattle.pl_update.specs.Timelines.Changed.{IsExchanged}

-- ---- what is left out was among them

left_among : {T : Type 0} (alike : T → T → Bool) (others xs : List T) (x : T) → is_among alike (left_out alike others xs) x ≡ true → is_among alike xs x ≡ true
left_among alike others [] x e = e
left_among alike others (y ∷ xs) x e = by (is_among alike others y) (alike y x) (left_among alike others xs x) refl e
  where
    by : (v w : Bool) → (is_among alike (left_out alike others xs) x ≡ true → is_among alike xs x ≡ true) → alike y x ≡ w → is_among alike (cond v (left_out alike others xs) (y ∷ left_out alike others xs)) x ≡ true → (w || is_among alike xs x) ≡ true
    by v true more f g = refl
    by true false more f g = more g
    by false false more f g = more (rw f at g)

-- ---- conflicts that are made of things, each of another one

module _ {X : Type 0} (make : X → Conflict) (read : Conflict → X) (back : (x : X) → read (make x) ≡ x) (alike : X → X → Bool) (exact : (x y : X) → alike x y ≡ true → x ≡ y) (itself : (x : X) → alike x x ≡ true) where
  form : Conflict → Bool
  form q = same q (make (read q))

  one_made : (q : Conflict) (x : X) → same q (make x) ≡ (form q && alike x (read q))
  unfolding form
  one_made q x = by (same q (make (read q))) refl (same q (make x)) refl (alike x (read q)) refl
    where
      same_is_at : (k j : Conflict) → k ≡ j → same q k ≡ false → same q j ≡ false
      same_is_at k j is e = sym (ap (same q) is) ∙ e

      by : (f : Bool) → same q (make (read q)) ≡ f → (m : Bool) → same q (make x) ≡ m → (a : Bool) → alike x (read q) ≡ a → m ≡ (f && a)
      by true e true g true h = refl
      by true e true g false h =
          let is : read q ≡ x = ap read (same_is q (make x) g) ∙ back x in
          sym (sym h ∙ (ap (alike x) is ∙ itself x))
      by true e false g true h =
          let is : make x ≡ make (read q) = ap make (exact x (read q) h) in
          sym (same_is_at (make x) (make (read q)) is g) ∙ e
      by true e false g false h = refl
      by false e true g a h =
          let is : read q ≡ x = ap read (same_is q (make x) g) ∙ back x in
          sym (sym e ∙ ap (λ y. same q (make y)) is ∙ g)
      by false e false g a h = refl

  made : (q : Conflict) (xs : List X) → has q (map make xs) ≡ (form q && is_among alike xs (read q))
  made q [] = sym (and-false (form q))
  made q (x ∷ xs) = ap (λ b. b || has q (map make xs)) (one_made q x) ∙ ap (λ b. (form q && alike x (read q)) || b) (made q xs) ∙ sym (and-or_distrib_left (form q) (alike x (read q)) (is_among alike xs (read q)))

  pub made_exchanged : (old new went came : List X) → went ≡ left_out alike new old → came ≡ left_out alike old new → IsExchanged (map make old) (map make new) (map make went) (map make came)
  made_exchanged old new went came gone more = record {
    members = λ q.
        let x = read q in
        let o = is_among alike old x in
        let w = is_among alike went x in
        let c = is_among alike came x in
        made q new ∙ (ap (λ b. form q && b) (exchange alike exact old new went came gone more x) ∙ (parts (form q) o w c
        ∙ (ap (λ b. (b && not (form q && w)) || (form q && c)) (sym (made q old)) ∙ (ap (λ b. (has q (map make old) && not b) || (form q && c)) (sym (made q went)) ∙ ap (λ b. (has q (map make old) && not (has q (map make went))) || b) (sym (made q came))))));
    left = λ q e. made q old ∙ within (form q) (is_among alike went (read q)) (is_among alike old (read q)) (λ h. left_among alike new old (read q) (sym (ap (λ l. is_among alike l (read q)) gone) ∙ h)) (sym (made q went) ∙ e);
    arrived = λ q e. made q new ∙ within (form q) (is_among alike came (read q)) (is_among alike new (read q)) (λ h. left_among alike old new (read q) (sym (ap (λ l. is_among alike l (read q)) more) ∙ h)) (sym (made q came) ∙ e);
  }
    where
      parts : (f o w c : Bool) → (f && ((o && not w) || c)) ≡ (((f && o) && not (f && w)) || (f && c))
      parts true o w c = refl
      parts false o w c = refl

      within : (f a b : Bool) → (a ≡ true → b ≡ true) → (f && a) ≡ true → (f && b) ≡ true
      within true a b goes e = goes e
      within false a b goes e = e

-- ---- two lists of which no conflict is of both

module _ (first : Conflict → Bool) where
  abbrev IsFirst : Conflict → Type 0
  IsFirst q = first q ≡ true

  abbrev IsOther : Conflict → Type 0
  IsOther q = first q ≡ false

  pub both_exchanged : (old new went came old' new' went' came' : List Conflict) → Each IsFirst old → Each IsFirst new → Each IsOther old' → Each IsOther new'
      → IsExchanged old new went came → IsExchanged old' new' went' came' → IsExchanged (old ++ old') (new ++ new') (went ++ went') (came ++ came')
  both_exchanged old new went came old' new' went' came' ones ones' others others' one two = record {
    members = λ q.
        has-append new new' q ∙ (table (first q) (has q old) (has q new) (has q went) (has q came) (has q old') (has q new') (has q went') (has q came')
        (ones q) (ones' q) (others q) (others' q) (one.left q) (one.arrived q) (two.left q) (two.arrived q) (one.members q) (two.members q)
        ∙ (ap (λ b. (b && not (has q went || has q went')) || (has q came || has q came')) (sym (has-append old old' q))
        ∙ (ap (λ b. (has q (old ++ old') && not b) || (has q came || has q came')) (sym (has-append went went' q))
        ∙ ap (λ b. (has q (old ++ old') && not (has q (went ++ went'))) || b) (sym (has-append came came' q)))));
    left = λ q e. has-append old old' q ∙ either (has q went) (has q went') (has q old) (has q old') (one.left q) (two.left q) (sym (has-append went went' q) ∙ e);
    arrived = λ q e. has-append new new' q ∙ either (has q came) (has q came') (has q new) (has q new') (one.arrived q) (two.arrived q) (sym (has-append came came' q) ∙ e);
  }
    where
      either : (a b c d : Bool) → (a ≡ true → c ≡ true) → (b ≡ true → d ≡ true) → (a || b) ≡ true → (c || d) ≡ true
      either true b c d f g e = rw (f refl) refl
      either false true c d f g e = rw (g refl) (or-true c)
      either false false c d f g e = absurd (cc)

      table : (f o n w c o' n' w' c' : Bool) → (o ≡ true → f ≡ true) → (n ≡ true → f ≡ true) → (o' ≡ true → f ≡ false) → (n' ≡ true → f ≡ false)
          → (w ≡ true → o ≡ true) → (c ≡ true → n ≡ true) → (w' ≡ true → o' ≡ true) → (c' ≡ true → n' ≡ true)
          → n ≡ ((o && not w) || c) → n' ≡ ((o' && not w') || c') → (n || n') ≡ (((o || o') && not (w || w')) || (c || c'))
      table true o n w c o' n' w' c' fo fn fo' fn' wo cn wo' cn' is is' =
          let eo' : o' ≡ false = never o' fo' in
          let en' : n' ≡ false = never n' fn' in
          let ew' : w' ≡ false = never w' (λ e. fo' (wo' e)) in
          let ec' : c' ≡ false = never c' (λ e. fn' (cn' e)) in
          rw (eo', en', ew', ec') (or-false n ∙ (is ∙ sym (ap (λ b. (b && not (w || false)) || (c || false)) (or-false o) ∙ (ap (λ b. (o && not b) || (c || false)) (or-false w) ∙ ap (λ b. (o && not w) || b) (or-false c)))))
        where
          never : (b : Bool) → (b ≡ true → true ≡ false) → b ≡ false
          never true h = absurd (true≢false (h refl))
          never false h = refl
      table false o n w c o' n' w' c' fo fn fo' fn' wo cn wo' cn' is is' =
          let eo : o ≡ false = never o fo in
          let en : n ≡ false = never n fn in
          let ew : w ≡ false = never w (λ e. fo (wo e)) in
          let ec : c ≡ false = never c (λ e. fn (cn e)) in
          rw (eo, en, ew, ec) is'
        where
          never : (b : Bool) → (b ≡ true → false ≡ true) → b ≡ false
          never true h = absurd (true≢false (sym (h refl)))
          never false h = refl

-- ---- spans

read_span : Conflict → Span
read_span q = span q.a q.b

span_back : (why : Code) (line : ℕ) (s : Span) → read_span (outside why line s) ≡ s
unfolding read_span
span_back why line s = refl

pub spans_exchanged : (why : Code) (line : ℕ) (old new : List Span) (change : Change) → IsChange old new change → IsExchanged (map (outside why line) old) (map (outside why line) new) (map (outside why line) change.went) (map (outside why line) change.came)
spans_exchanged why line old new change is = made_exchanged (outside why line) read_span (span_back why line) same_span same_exact same_self old new change.went change.came is.went is.came

is_low : Conflict → Bool
is_low q = eqb (code_number q.code) 10

pub levels_exchanged : (line : ℕ) (low low' high high' : List Span) (change : LevelChange) → AreLevelChanges low low' high high' change
    → IsExchanged (map (outside code.Low line) low ++ map (outside code.High line) high) (map (outside code.Low line) low' ++ map (outside code.High line) high')
    (map (outside code.Low line) change.low.went ++ map (outside code.High line) change.high.went) (map (outside code.Low line) change.low.came ++ map (outside code.High line) change.high.came)
unfolding is_low
levels_exchanged line low low' high high' change is =
    both_exchanged is_low (map (outside code.Low line) low) (map (outside code.Low line) low') (map (outside code.Low line) change.low.went) (map (outside code.Low line) change.low.came)
    (map (outside code.High line) high) (map (outside code.High line) high') (map (outside code.High line) change.high.went) (map (outside code.High line) change.high.came)
    (each_map (λ q. is_low q ≡ true) (outside code.Low line) low (λ s. refl)) (each_map (λ q. is_low q ≡ true) (outside code.Low line) low' (λ s. refl))
    (each_map (λ q. is_low q ≡ false) (outside code.High line) high (λ s. refl)) (each_map (λ q. is_low q ≡ false) (outside code.High line) high' (λ s. refl))
    (spans_exchanged code.Low line low low' change.low is.low) (spans_exchanged code.High line high high' change.high is.high)

-- ---- musts and steps

read_broken : Conflict → BrokenMust
read_broken q = record { id = q.subject; index = q.detail; from = q.a; to = q.b }

read_bad : Conflict → BadSet
read_bad q = record { at = q.a; id = q.subject; index = q.detail }

broken_back : (s : PlanState) (m : BrokenMust) → read_broken (unmet_must s m) ≡ m
unfolding read_broken
broken_back s m = refl

bad_back : (s : PlanState) (x : BadSet) → read_bad (bad_step s x) ≡ x
unfolding read_bad
bad_back s x = refl

is_must : Conflict → Bool
is_must q = eqb (code_number q.code) 12

pub states_exchanged : (s : PlanState) (broken broken' : List BrokenMust) (bad bad' : List BadSet) (change : StateChange) → AreChanges broken broken' bad bad' change
    → IsExchanged (map (unmet_must s) broken ++ map (bad_step s) bad) (map (unmet_must s) broken' ++ map (bad_step s) bad')
    (map (unmet_must s) change.musts_went ++ map (bad_step s) change.steps_went) (map (unmet_must s) change.musts_came ++ map (bad_step s) change.steps_came)
unfolding is_must
states_exchanged s broken broken' bad bad' change is =
    both_exchanged is_must (map (unmet_must s) broken) (map (unmet_must s) broken') (map (unmet_must s) change.musts_went) (map (unmet_must s) change.musts_came)
    (map (bad_step s) bad) (map (bad_step s) bad') (map (bad_step s) change.steps_went) (map (bad_step s) change.steps_came)
    (each_map (λ q. is_must q ≡ true) (unmet_must s) broken (λ m. refl)) (each_map (λ q. is_must q ≡ true) (unmet_must s) broken' (λ m. refl))
    (each_map (λ q. is_must q ≡ false) (bad_step s) bad (λ x. refl)) (each_map (λ q. is_must q ≡ false) (bad_step s) bad' (λ x. refl))
    (made_exchanged (unmet_must s) read_broken (broken_back s) same_broken broken_exact broken_itself broken broken' change.musts_went change.musts_came is.musts_went is.musts_came)
    (made_exchanged (bad_step s) read_bad (bad_back s) same_bad bad_exact bad_itself bad bad' change.steps_went change.steps_came is.steps_went is.steps_came)

-- ---- lists that were appended to an empty one

pub told : {X : Type 0} (make : X → Conflict) (xs ys : List X) (start out : List Conflict) → start ≡ [] → ys ≡ xs → out ≡ start ++ map make ys → out ≡ map make xs
told make xs ys start out none is e = e ∙ (ap (λ l. l ++ map make ys) none ∙ ap (map make) is)

pub told_more : {X : Type 0} (make : X → Conflict) (xs ys : List X) (front start out : List Conflict) → start ≡ front → ys ≡ xs → out ≡ start ++ map make ys → out ≡ front ++ map make xs
told_more make xs ys front start out same is e = e ∙ (ap (λ l. l ++ map make ys) same ∙ ap (λ l. front ++ map make l) is)

pub exchanged_by : (old new went came went' came' : List Conflict) → went' ≡ went → came' ≡ came → IsExchanged old new went came → IsExchanged old new went' came'
exchanged_by old new went came went' came' e f is = subst (λ l. IsExchanged old new l came') (sym e) (subst (λ l. IsExchanged old new went l) (sym f) is)
