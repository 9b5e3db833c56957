-- What a mending needs to know of the lists before it, for each change.
use Rattle.std.proofs.Common.{◌≡◌, ℕ, ◌+◌, ◌-◌, ◌≤◌, Bool, true, false, List, [], ◌∷◌, ◌++◌, take, drop, ap, sym, ◌∙◌, subst, refl, arith, min, max}
use Rattle.std.proofs.lemmas.List.{take-append-drop}
use Rattle.pl_points.specs.declared.span.Span.{Span}
use Rattle.pl_lists.specs.Lists.{front, back, left_out}
use Rattle.pl_points.specs.Spans.{span}
use Rattle.pl_points.specs.Standing.{without}
use Rattle.pl_state.specs.declared.present.Present.{Present}
use Rattle.pl_state.specs.declared.reservation.Setting.{Setting}
use Rattle.pl_state.specs.declared.reservation.Must.{Must}
use Rattle.pl_state.specs.declared.answer.BadSet.{BadSet}
use Rattle.pl_state.specs.declared.answer.BrokenMust.{BrokenMust}
use Rattle.pl_state.specs.Sets.{set_before, same_setting, with_set, AreInOrder, is_passed, is_allowed, state_from, bad_from}
use Rattle.pl_state.specs.declared.key.Key.{Key}
use Rattle.pl_state.specs.Keys.{AreSorted}
use Rattle.pl_state.specs.Musts.{must_key, same_must, with_must, broken_one, broken_all}
use Rattle.pl_state.specs.Near.{touches, next_moment, rest_after, comes_before, bad_before, bad_by, state_before, all_of, group_key, AreRightBut}
use Rattle.pl_state.specs.Present.{present_of, group_at, bad_at, IsRightBut}
use Rattle.pl_state.proofs.Lists.{left_middle}
use Rattle.pl_state.proofs.Grouping.{all_is, drop_drop}
use Rattle.pl_state.proofs.Parts.{one_keyed, knows_must, all_sorted}
use Rattle.pl_state.proofs.Renewing.{right_with, right_without}
use Rattle.pl_state.proofs.Orders.{order_with, order_without}
use Rattle.pl_state.proofs.Staying.{one_near, one_later, put_early, put_late, take_early, take_late, rebase_late}
use Rattle.pl_state.proofs.Steps.{bad_parts, back_both, front_past}
use Rattle.pl_state.proofs.Windows.{put_front, put_back, take_front, take_back, rebase_back, advance_back}

-- a list with items put in the place of others
parts_of : {T : Type 0} (old : List T) (i e : ℕ) → i ≤ e → old ≡ take i old ++ (take (e - i) (drop i old) ++ drop e old)
parts_of old i e le =
    let place : i + (e - i) ≡ e = omega (arith, le) in
    sym (take-append-drop i old) ∙ ap (λ l. take i old ++ l) (sym (take-append-drop (e - i) (drop i old)) ∙ ap (λ l. take (e - i) (drop i old) ++ l) (drop_drop i (e - i) old ∙ ap (λ n. drop n old) place))

pub exchanged_went : {T : Type 0} (same : T → T → Bool) → ((x : T) → same x x ≡ true) → (old fresh new : List T) (i e : ℕ) → i ≤ e → new ≡ take i old ++ (fresh ++ drop e old) → left_out same new (take (e - i) (drop i old)) ≡ left_out same new old
exchanged_went same itself old fresh new i e le is =
    let gone = take (e - i) (drop i old) in
    let middle : left_out same (take i old ++ (fresh ++ drop e old)) (take i old ++ (gone ++ drop e old)) ≡ left_out same (take i old ++ (fresh ++ drop e old)) gone = left_middle same itself (take i old) gone fresh (drop e old) in
    sym (ap (left_out same new) (parts_of old i e le) ∙ (ap (λ l. left_out same l (take i old ++ (gone ++ drop e old))) is ∙ (middle ∙ sym (ap (λ l. left_out same l gone) is))))

pub exchanged_came : {T : Type 0} (same : T → T → Bool) → ((x : T) → same x x ≡ true) → (old fresh new : List T) (i e : ℕ) → i ≤ e → new ≡ take i old ++ (fresh ++ drop e old) → left_out same old fresh ≡ left_out same old new
exchanged_came same itself old fresh new i e le is =
    let gone = take (e - i) (drop i old) in
    let middle : left_out same (take i old ++ (gone ++ drop e old)) (take i old ++ (fresh ++ drop e old)) ≡ left_out same (take i old ++ (gone ++ drop e old)) fresh = left_middle same itself (take i old) fresh gone (drop e old) in
    sym (ap (left_out same old) is ∙ (ap (λ l. left_out same l (take i old ++ (fresh ++ drop e old))) (parts_of old i e le) ∙ (middle ∙ sym (ap (λ l. left_out same l fresh) (parts_of old i e le)))))

-- what is told, by what was told
pub steps_mended : (al : ℕ → ℕ → Bool) (base h mo s a z : ℕ) (xs : List Setting) (old fresh : List BadSet) (i n : ℕ) → AreInOrder 0 xs → a ≤ z → a ≤ h
    → take i old ≡ front (bad_before a) old → drop i old ≡ back (bad_before a) old → drop n (drop i old) ≡ back (bad_by z) (drop i old)
    → front (bad_before a) old ≡ front (bad_before a) (bad_from al base h mo s xs) → back (bad_by z) old ≡ back (bad_by z) (bad_from al base h mo s xs)
    → fresh ≡ bad_from al base h mo (state_before base a s xs) (front (is_passed z) (back (comes_before a) xs))
    → take i old ++ (fresh ++ drop (i + n) old) ≡ bad_from al base h mo s xs
steps_mended al base h mo s a z xs old fresh i n ordered le under first rest behind same_front same_back is =
    let end : drop (i + n) old ≡ back (bad_by z) (bad_from al base h mo s xs) = sym (drop_drop i n old) ∙ (behind ∙ (ap (back (bad_by z)) rest ∙ (back_both a z old le ∙ same_back))) in
    ap (λ l. l ++ (fresh ++ drop (i + n) old)) (first ∙ same_front)
    ∙ (ap (λ l. front (bad_before a) (bad_from al base h mo s xs) ++ (l ++ drop (i + n) old)) is
    ∙ (ap (λ l. front (bad_before a) (bad_from al base h mo s xs) ++ (bad_from al base h mo (state_before base a s xs) (front (is_passed z) (back (comes_before a) xs)) ++ l)) end
    ∙ sym (bad_parts al base h mo s a z 0 xs ordered le under)))

-- what is told before and behind the window of a change
put_before : (al al' : ℕ → ℕ → Bool) (base h mo s a : ℕ) (u : Setting) (xs xs' : List Setting) (old : List BadSet) → AreInOrder 0 xs → a ≡ min u.at h → xs' ≡ with_set u xs → al' ≡ al → old ≡ bad_from al base h mo s xs → front (bad_before a) old ≡ front (bad_before a) (bad_from al' base h mo s xs')
put_before al al' base h mo s a u xs xs' old ordered from is_sets is_steps is =
    ap (front (bad_before a)) is ∙ (put_front al base h mo s a 0 u xs ordered (omega (arith, from)) ∙ (ap (λ l. front (bad_before a) (bad_from al base h mo s l)) (sym is_sets) ∙ ap (λ f. front (bad_before a) (bad_from f base h mo s xs')) (sym is_steps)))

put_behind : (al al' : ℕ → ℕ → Bool) (base h mo s z : ℕ) (u : Setting) (xs xs' : List Setting) (old : List BadSet) → AreInOrder 0 xs → z ≡ max (next_moment h (back (set_before u) xs)) (min u.at h) → xs' ≡ with_set u xs → al' ≡ al → old ≡ bad_from al base h mo s xs → back (bad_by z) old ≡ back (bad_by z) (bad_from al' base h mo s xs')
put_behind al al' base h mo s z u xs xs' old ordered to is_sets is_steps is =
    ap (back (bad_by z)) is ∙ (put_back al base h mo s z 0 u xs ordered (omega (arith, to)) (omega (arith, to)) ∙ (ap (λ l. back (bad_by z) (bad_from al base h mo s l)) (sym is_sets) ∙ ap (λ f. back (bad_by z) (bad_from f base h mo s xs')) (sym is_steps)))

take_before : (al al' : ℕ → ℕ → Bool) (base h mo s a : ℕ) (u : Setting) (xs xs' : List Setting) (old : List BadSet) → AreInOrder 0 xs → a ≡ min u.at h → xs' ≡ without same_setting u xs → al' ≡ al → old ≡ bad_from al base h mo s xs → front (bad_before a) old ≡ front (bad_before a) (bad_from al' base h mo s xs')
take_before al al' base h mo s a u xs xs' old ordered from is_sets is_steps is =
    ap (front (bad_before a)) is ∙ (take_front al base h mo s a 0 u xs ordered (omega (arith, from)) ∙ (ap (λ l. front (bad_before a) (bad_from al base h mo s l)) (sym is_sets) ∙ ap (λ f. front (bad_before a) (bad_from f base h mo s xs')) (sym is_steps)))

take_behind : (al al' : ℕ → ℕ → Bool) (base h mo s z : ℕ) (u : Setting) (xs xs' : List Setting) (old : List BadSet) → AreInOrder 0 xs → z ≡ max (next_moment h (rest_after same_setting u xs)) (min u.at h) → xs' ≡ without same_setting u xs → al' ≡ al → old ≡ bad_from al base h mo s xs → back (bad_by z) old ≡ back (bad_by z) (bad_from al' base h mo s xs')
take_behind al al' base h mo s z u xs xs' old ordered to is_sets is_steps is =
    ap (back (bad_by z)) is ∙ (take_back al base h mo s z 0 u xs ordered (omega (arith, to)) (omega (arith, to)) ∙ (ap (λ l. back (bad_by z) (bad_from al base h mo s l)) (sym is_sets) ∙ ap (λ f. back (bad_by z) (bad_from f base h mo s xs')) (sym is_steps)))

rebase_before : (al al' : ℕ → ℕ → Bool) (base h mo s w : ℕ) (xs xs' : List Setting) (old : List BadSet) → old ≡ bad_from al base h mo s xs → front (bad_before mo) old ≡ front (bad_before mo) (bad_from al' mo h mo w xs')
rebase_before al al' base h mo s w xs xs' old is = ap (front (bad_before mo)) is ∙ (front_past al base h mo s mo xs (omega arith) ∙ sym (front_past al' mo h mo w mo xs' (omega arith)))

rebase_behind : (al al' : ℕ → ℕ → Bool) (base h mo s w z : ℕ) (xs xs' : List Setting) (old : List BadSet) → AreInOrder 0 xs → base ≤ mo → mo ≤ z → z ≡ next_moment h (back (is_passed mo) xs) → xs' ≡ xs → al' ≡ al → old ≡ bad_from al base h mo s xs → back (bad_by z) old ≡ back (bad_by z) (bad_from al' mo h mo w xs')
rebase_behind al al' base h mo s w z xs xs' old ordered based low to is_sets is_steps is =
    ap (back (bad_by z)) is ∙ (rebase_back al base mo h s w z 0 xs ordered based low (omega (arith, to)) ∙ (ap (λ l. back (bad_by z) (bad_from al mo h mo w l)) (sym is_sets) ∙ ap (λ f. back (bad_by z) (bad_from f mo h mo w xs')) (sym is_steps)))

advance_before : (al al' : ℕ → ℕ → Bool) (base h mo now s : ℕ) (xs xs' : List Setting) (old : List BadSet) → mo ≤ now → old ≡ bad_from al base h mo s xs → front (bad_before mo) old ≡ front (bad_before mo) (bad_from al' base h now s xs')
advance_before al al' base h mo now s xs xs' old later is = ap (front (bad_before mo)) is ∙ (front_past al base h mo s mo xs (omega arith) ∙ sym (front_past al' base h now s mo xs' later))

advance_behind : (al al' : ℕ → ℕ → Bool) (base h mo now s : ℕ) (xs xs' : List Setting) (old : List BadSet) → AreInOrder 0 xs → mo ≤ now → xs' ≡ xs → al' ≡ al → old ≡ bad_from al base h mo s xs → back (bad_by now) old ≡ back (bad_by now) (bad_from al' base h now s xs')
advance_behind al al' base h mo now s xs xs' old ordered later is_sets is_steps is =
    ap (back (bad_by now)) is ∙ (advance_back al base h mo now s 0 xs ordered later ∙ (ap (λ l. back (bad_by now) (bad_from al base h now s l)) (sym is_sets) ∙ ap (λ f. back (bad_by now) (bad_from f base h now s xs')) (sym is_steps)))

-- both lists are right outside the window of each change
pub put_right : (any : Bool) (steps steps' : List (ℕ × ℕ)) (p : Present) (u : Setting) (xs xs' : List Setting) (ms : List Must) (b : List BrokenMust) (old : List BadSet) (near : Span) → AreInOrder 0 xs → steps' ≡ steps
    → near.from ≡ min u.at p.horizon → near.to ≡ max (next_moment p.horizon (back (set_before u) xs)) (min u.at p.horizon) → xs' ≡ with_set u xs
    → b ≡ broken_all (λ t. state_from p.base t p.value xs) p.moment p.horizon ms → old ≡ bad_at any steps p xs → IsRightBut near any steps' p xs' ms b old
put_right any steps steps' p u xs xs' ms b old near ordered is_steps from to is_sets is_broken is_bad = record {
  rising = omega (arith, from, to);
  bound = omega (arith, from);
  ordered = subst (λ l. AreInOrder 0 l) (sym is_sets) (order_with 0 u xs (omega arith) ordered);
  told = record {
    state = λ t. state_from p.base t p.value xs;
    moment = p.moment;
    told = is_broken ∙ all_is (λ t. state_from p.base t p.value xs) p.moment p.horizon ms;
    same = subst (λ l. (m : Must) → touches near m ≡ false → broken_one (λ t. state_from p.base t p.value xs) p.moment p.horizon m ≡ group_at p l m) (sym is_sets)
        (one_near (λ t. state_from p.base t p.value xs) (λ t. state_from p.base t p.value (with_set u xs)) p.moment p.horizon near (record {
          early = λ t _ _ lt. put_early p.base t p.value u xs (omega (arith, lt, from));
          late = λ t _ under late. put_late p.base t p.value 0 p.horizon u xs ordered under (omega (arith, late, to));
        }));
  };
  before = put_before (is_allowed any steps) (is_allowed any steps') p.base p.horizon p.moment p.value near.from u xs xs' old ordered from is_sets (ap (λ l. is_allowed any l) is_steps) is_bad;
  behind = put_behind (is_allowed any steps) (is_allowed any steps') p.base p.horizon p.moment p.value near.to u xs xs' old ordered to is_sets (ap (λ l. is_allowed any l) is_steps) is_bad;
}

pub take_right : (any : Bool) (steps steps' : List (ℕ × ℕ)) (p : Present) (u : Setting) (xs xs' : List Setting) (ms : List Must) (b : List BrokenMust) (old : List BadSet) (near : Span) → AreInOrder 0 xs → steps' ≡ steps
    → near.from ≡ min u.at p.horizon → near.to ≡ max (next_moment p.horizon (rest_after same_setting u xs)) (min u.at p.horizon) → xs' ≡ without same_setting u xs
    → b ≡ broken_all (λ t. state_from p.base t p.value xs) p.moment p.horizon ms → old ≡ bad_at any steps p xs → IsRightBut near any steps' p xs' ms b old
take_right any steps steps' p u xs xs' ms b old near ordered is_steps from to is_sets is_broken is_bad = record {
  rising = omega (arith, from, to);
  bound = omega (arith, from);
  ordered = subst (λ l. AreInOrder 0 l) (sym is_sets) (order_without 0 u xs ordered);
  told = record {
    state = λ t. state_from p.base t p.value xs;
    moment = p.moment;
    told = is_broken ∙ all_is (λ t. state_from p.base t p.value xs) p.moment p.horizon ms;
    same = subst (λ l. (m : Must) → touches near m ≡ false → broken_one (λ t. state_from p.base t p.value xs) p.moment p.horizon m ≡ group_at p l m) (sym is_sets)
        (one_near (λ t. state_from p.base t p.value xs) (λ t. state_from p.base t p.value (without same_setting u xs)) p.moment p.horizon near (record {
          early = λ t _ _ lt. take_early p.base t p.value u xs (omega (arith, lt, from));
          late = λ t _ under late. take_late p.base t p.value 0 p.horizon u xs ordered under (omega (arith, late, to));
        }));
  };
  before = take_before (is_allowed any steps) (is_allowed any steps') p.base p.horizon p.moment p.value near.from u xs xs' old ordered from is_sets (ap (λ l. is_allowed any l) is_steps) is_bad;
  behind = take_behind (is_allowed any steps) (is_allowed any steps') p.base p.horizon p.moment p.value near.to u xs xs' old ordered to is_sets (ap (λ l. is_allowed any l) is_steps) is_bad;
}

pub rebase_right : (any : Bool) (steps steps' : List (ℕ × ℕ)) (mo h base value state to : ℕ) (xs : List Setting) (ms : List Must) (b : List BrokenMust) (old : List BadSet) → AreInOrder 0 xs → steps' ≡ steps → mo ≤ h → base ≤ mo → mo ≤ to
    → to ≡ next_moment h (back (is_passed mo) xs)
    → b ≡ broken_all (λ t. state_from base t value xs) mo h ms → old ≡ bad_at any steps (present_of mo h base value) xs → IsRightBut (span mo to) any steps' (present_of mo h mo state) xs ms b old
rebase_right any steps steps' mo h base value state to xs ms b old ordered is_steps in_time based low is_to is_broken is_bad = record {
  rising = low;
  bound = in_time;
  ordered = ordered;
  told = record {
    state = λ t. state_from base t value xs;
    moment = mo;
    told = is_broken ∙ all_is (λ t. state_from base t value xs) mo h ms;
    same = one_near (λ t. state_from base t value xs) (λ t. state_from mo t state xs) mo h (span mo to) (record {
      early = λ t above _ lt. absurd (omega (arith, above, lt));
      late = λ t above under late. rebase_late base mo 0 h t value state xs ordered based above under (omega (arith, late, is_to));
    });
  };
  before = rebase_before (is_allowed any steps) (is_allowed any steps') base h mo value state xs xs old is_bad;
  behind = rebase_behind (is_allowed any steps) (is_allowed any steps') base h mo value state to xs xs old ordered based low is_to refl (ap (λ l. is_allowed any l) is_steps) is_bad;
}

pub advance_right : (any : Bool) (steps steps' : List (ℕ × ℕ)) (mo now h base value : ℕ) (xs : List Setting) (ms : List Must) (b : List BrokenMust) (old : List BadSet) → AreInOrder 0 xs → steps' ≡ steps → mo ≤ h → mo ≤ now
    → b ≡ broken_all (λ t. state_from base t value xs) mo h ms → old ≡ bad_at any steps (present_of mo h base value) xs → IsRightBut (span mo now) any steps' (present_of now h base value) xs ms b old
advance_right any steps steps' mo now h base value xs ms b old ordered is_steps in_time later is_broken is_bad = record {
  rising = later;
  bound = in_time;
  ordered = ordered;
  told = record {
    state = λ t. state_from base t value xs;
    moment = mo;
    told = is_broken ∙ all_is (λ t. state_from base t value xs) mo h ms;
    same = one_later (λ t. state_from base t value xs) mo now h later;
  };
  before = advance_before (is_allowed any steps) (is_allowed any steps') base h mo now value xs xs old later is_bad;
  behind = advance_behind (is_allowed any steps) (is_allowed any steps') base h mo now value xs xs old ordered later refl (ap (λ l. is_allowed any l) is_steps) is_bad;
}

-- what is broken is sorted, and right but for a must that came or went
pub broken_sorted : (p : Present) (sets : List Setting) (ms : List Must) (b : List BrokenMust) → b ≡ broken_all (λ t. state_from p.base t p.value sets) p.moment p.horizon ms → AreSorted must_key ms → AreSorted group_key b
broken_sorted p sets ms b is sorted =
    let state : ℕ → ℕ = λ t. state_from p.base t p.value sets in
    subst (λ l. AreSorted group_key l) (sym (is ∙ all_is state p.moment p.horizon ms)) (all_sorted (group_at p sets) (one_keyed state p.moment p.horizon) ms sorted)

pub need_right : (p : Present) (sets : List Setting) (u : Must) (k : Key) (ms ms' : List Must) (b : List BrokenMust) → b ≡ broken_all (λ t. state_from p.base t p.value sets) p.moment p.horizon ms → AreSorted must_key ms
    → ms' ≡ with_must u ms → k ≡ must_key u → AreRightBut (k ∷ []) (group_at p sets) ms' b
need_right p sets u k ms ms' b is sorted is_musts is_key =
    let state : ℕ → ℕ = λ t. state_from p.base t p.value sets in
    subst (λ l. AreRightBut (k ∷ []) (group_at p sets) l b) (sym is_musts)
    (subst (λ l. AreRightBut (k ∷ []) (group_at p sets) (with_must u ms) l) (sym (is ∙ all_is state p.moment p.horizon ms))
    (subst (λ j. AreRightBut (j ∷ []) (group_at p sets) (with_must u ms) (all_of (group_at p sets) ms)) (sym is_key) (right_with (group_at p sets) (one_keyed state p.moment p.horizon) u ms sorted)))

pub free_right : (p : Present) (sets : List Setting) (u : Must) (k : Key) (ms ms' : List Must) (b : List BrokenMust) → b ≡ broken_all (λ t. state_from p.base t p.value sets) p.moment p.horizon ms → AreSorted must_key ms
    → ms' ≡ without same_must u ms → k ≡ must_key u → AreRightBut (k ∷ []) (group_at p sets) ms' b
free_right p sets u k ms ms' b is sorted is_musts is_key =
    let state : ℕ → ℕ = λ t. state_from p.base t p.value sets in
    subst (λ l. AreRightBut (k ∷ []) (group_at p sets) l b) (sym is_musts)
    (subst (λ l. AreRightBut (k ∷ []) (group_at p sets) (without same_must u ms) l) (sym (is ∙ all_is state p.moment p.horizon ms))
    (subst (λ j. AreRightBut (j ∷ []) (group_at p sets) (without same_must u ms) (all_of (group_at p sets) ms)) (sym is_key) (right_without (group_at p sets) (one_keyed state p.moment p.horizon) knows_must u ms sorted)))
