-- A history's items, and what is read back of them.
use Rattle.std.proofs.Common.{◌≡◌, ℕ, zero, suc, ◌+◌, ◌-◌, ◌<◌, List, [], ◌∷◌, ◌++◌, length, map, true, false, Option, Some, None, refl, sym, ◌∙◌, ap, subst, arith, length-append}
use Rattle.std.specs.Prelude.{is_some}
use Rattle.std.specs.List.{filter_map, list_any}
use Rattle.std.proofs.lemmas.List.{append-nil, length-map}
use mathlib.Core.List.{IsPrefix}
use Rattle.pl_marks.specs.declared.author.Author.{Author}
use Rattle.pl_marks.specs.Marks.{Signed}
use Rattle.pl_model.specs.declared.whole.Model.{Model}
use Rattle.pl_entry.specs.declared.entry.Entry.{Entry}
use Rattle.pl_machine.specs.World.{World}
use Rattle.pl_machine.specs.Legal.{Legal, world_of, IsHistory}
use Rattle.pl_acts.specs.declared.noted.Noted.{Noted}
use Rattle.pl_acts.specs.declared.noted.Noted.TheVariants.{Opened, Made, Stopped}
use Rattle.pl_acts.specs.Items.{Signs, SignedEntry, made_of, entries_of, with_authors, signed_on, made_items, log_items, stop_items, items_of, entry_in, entries_in, model_in, opening_in, is_stop, stop_in, OfWorld, InWorld}

-- ---- how long a history is

stop_length : (s : Option Author) → is_some s ≡ true → length (stop_items s) ≡ 1
stop_length (Some a) e = refl
stop_length None e = absurd (cc)

no_stop : (s : Option Author) → is_some s ≡ false → stop_items s ≡ []
no_stop (Some a) e = absurd (cc)
no_stop None e = refl

with_length : (k : ℕ) (authors : List Author) (es : List Entry) → length (with_authors k authors es) ≡ length es
with_length (suc k) authors [] = refl
with_length (suc k) authors (e ∷ es) = ap suc (with_length k authors es)
with_length zero [] [] = refl
with_length zero [] (e ∷ es) = ap suc (with_length zero [] es)
with_length zero (a ∷ authors) [] = refl
with_length zero (a ∷ authors) (e ∷ es) = ap suc (with_length zero authors es)

pub made_length : (k : ℕ) (authors : List Author) (es : List Entry) → length (made_items k authors es) ≡ length es
made_length k authors es = length-map (with_authors k authors es) made_of ∙ with_length k authors es

log_length : (m : Model) (log : List Entry) (s : Signed) → length (log_items m log s) ≡ length log
log_length m [] s = refl
log_length m (first ∷ es) s = ap suc (made_length (s.opening - 1) s.authors es)

pub length_stopped : (m : Model) (log : List Entry) (s : Signs) → is_some s.stopper ≡ true → length (items_of m log s) ≡ length log + 1
unfolding items_of
length_stopped m log s e = omega (arith, length-append (log_items m log s.by) (stop_items s.stopper), log_length m log s.by, stop_length s.stopper e)

pub length_going : (m : Model) (log : List Entry) (s : Signs) → is_some s.stopper ≡ false → length (items_of m log s) ≡ length log
unfolding items_of
length_going m log s e = omega (arith, length-append (log_items m log s.by) (stop_items s.stopper), log_length m log s.by, ap length (no_stop s.stopper e))

-- ---- read back

stop_entries : (t : Option Author) → filter_map entry_in (stop_items t) ≡ []
stop_entries (Some a) = refl
stop_entries None = refl

pub made_entries : (xs : List SignedEntry) (t : Option Author) → filter_map entry_in (map made_of xs ++ stop_items t) ≡ entries_of xs
made_entries [] t = stop_entries t
made_entries (x ∷ xs) t = ap (λ (es : List Entry). x.1 ∷ es) (made_entries xs t)

pub entries_with : (k : ℕ) (authors : List Author) (es : List Entry) → entries_of (with_authors k authors es) ≡ es
entries_with (suc k) authors [] = refl
entries_with (suc k) authors (e ∷ es) = ap (λ (xs : List Entry). e ∷ xs) (entries_with k authors es)
entries_with zero [] [] = refl
entries_with zero [] (e ∷ es) = ap (λ (xs : List Entry). e ∷ xs) (entries_with zero [] es)
entries_with zero (a ∷ authors) [] = refl
entries_with zero (a ∷ authors) (e ∷ es) = ap (λ (xs : List Entry). e ∷ xs) (entries_with zero authors es)

pub entries_in_items : (m : Model) (log : List Entry) (s : Signs) → entries_in (items_of m log s) ≡ log
unfolding items_of
entries_in_items m [] s = stop_entries s.stopper
entries_in_items m (first ∷ es) s =
    let all = with_authors (s.by.opening - 1) s.by.authors es in
    ap (λ (xs : List Entry). first ∷ xs) (made_entries all s.stopper ∙ entries_with (s.by.opening - 1) s.by.authors es)

stop_stop : (t : Option Author) → list_any is_stop (stop_items t) ≡ is_some t
stop_stop (Some a) = refl
stop_stop None = refl

made_stop : (xs : List SignedEntry) (t : Option Author) → list_any is_stop (map made_of xs ++ stop_items t) ≡ is_some t
made_stop [] t = stop_stop t
made_stop (x ∷ xs) t = made_stop xs t

pub stop_in_items : (m : Model) (log : List Entry) (s : Signs) → stop_in (items_of m log s) ≡ is_some s.stopper
unfolding items_of
stop_in_items m [] s = stop_stop s.stopper
stop_in_items m (first ∷ es) s = made_stop (with_authors (s.by.opening - 1) s.by.authors es) s.stopper

pub model_in_items : (m : Model) (log : List Entry) (s : Signs) → Legal m log → model_in (items_of m log s) ≡ Some m
unfolding items_of
model_in_items m [] s legal = absurd legal
model_in_items m (first ∷ es) s legal = refl

-- what goes on from an opening has its model
pub model_in_prefix : (xs ys : List Noted) (m : Model) → IsPrefix xs ys → model_in xs ≡ Some m → model_in ys ≡ Some m
model_in_prefix [] ys m p e = absurd (cc)
model_in_prefix (Opened n k first ∷ xs) [] m p e = absurd (cc (p.1))
model_in_prefix (Opened n k first ∷ xs) (y ∷ ys) m p e = (let h : Opened n k first ≡ y = cc (p.1) in subst (λ (x : Noted). model_in (x ∷ ys) ≡ Some m) h e)
model_in_prefix (Made by first ∷ xs) ys m p e = absurd (cc)
model_in_prefix (Stopped by ∷ xs) ys m p e = absurd (cc)

pub opening_in_items : (m : Model) (log : List Entry) (s : Signs) → Legal m log → opening_in (items_of m log s) ≡ Some s.by.opening
unfolding items_of
opening_in_items m [] s legal = absurd legal
opening_in_items m (first ∷ es) s legal = refl

-- and as many entries were handed in
pub opening_in_prefix : (xs ys : List Noted) (k : ℕ) → IsPrefix xs ys → opening_in xs ≡ Some k → opening_in ys ≡ Some k
opening_in_prefix [] ys k p e = absurd (cc)
opening_in_prefix (Opened n j first ∷ xs) [] k p e = absurd (cc (p.1))
opening_in_prefix (Opened n j first ∷ xs) (y ∷ ys) k p e = (let h : Opened n j first ≡ y = cc (p.1) in subst (λ (x : Noted). opening_in (x ∷ ys) ≡ Some k) h e)
opening_in_prefix (Made by first ∷ xs) ys k p e = absurd (cc)
opening_in_prefix (Stopped by ∷ xs) ys k p e = absurd (cc)

-- ---- a history goes on

-- one more entry, which this author made
made_push : (k : ℕ) (authors : List Author) (a : Author) (es : List Entry) (e : Entry) → length es ≡ k + length authors
    → made_items k (authors ++ a ∷ []) (es ++ e ∷ []) ≡ made_items k authors es ++ Made (Some a) e ∷ []
made_push (suc k) authors a [] e long = absurd (omega (arith, long))
made_push (suc k) authors a (x ∷ es) e long = ap (λ (xs : List Noted). Made None x ∷ xs) (made_push k authors a es e (omega (arith, long)))
made_push zero [] a [] e long = refl
made_push zero [] a (x ∷ es) e long = absurd (omega (arith, long))
made_push zero (b ∷ authors) a [] e long = absurd (omega (arith, long))
made_push zero (b ∷ authors) a (x ∷ es) e long = ap (λ (xs : List Noted). Made (Some b) x ∷ xs) (made_push zero authors a es e (omega (arith, long)))

log_push : (m : Model) (log : List Entry) (s : Signed) (a : Author) (e : Entry) → Legal m log → 0 < s.opening → s.opening + length s.authors ≡ length log
    → log_items m (log ++ e ∷ []) (signed_on a s) ≡ log_items m log s ++ Made (Some a) e ∷ []
log_push m [] s a e legal some each = absurd legal
log_push m (first ∷ es) s a e legal some each = ap (λ (xs : List Noted). Opened m s.opening first ∷ xs) (made_push (s.opening - 1) s.authors a es e (omega (arith, some, each)))

-- before a stop
going_items : (m : Model) (log : List Entry) (s : Signs) → is_some s.stopper ≡ false → items_of m log s ≡ log_items m log s.by
unfolding items_of
going_items m log s going = ap (λ (xs : List Noted). log_items m log s.by ++ xs) (no_stop s.stopper going) ∙ append-nil (log_items m log s.by)

pub items_push : (m : Model) (log : List Entry) (s : Signs) (a : Author) (e : Entry) → Legal m log → is_some s.stopper ≡ false → 0 < s.by.opening → s.by.opening + length s.by.authors ≡ length log
    → items_of m (log ++ e ∷ []) (record s { by = signed_on a s.by }) ≡ items_of m log s ++ Made (Some a) e ∷ []
items_push m log s a e legal going some each =
    going_items m (log ++ e ∷ []) (record s { by = signed_on a s.by }) going
    ∙ log_push m log s.by a e legal some each
    ∙ ap (λ (xs : List Noted). xs ++ Made (Some a) e ∷ []) (sym (going_items m log s going))

stopped_items : (m : Model) (log : List Entry) (s : Signs) (a : Author) → items_of m log (record s { stopper = Some a }) ≡ log_items m log s.by ++ Stopped a ∷ []
unfolding items_of
stopped_items m log s a = refl

pub items_stopped : (m : Model) (log : List Entry) (s : Signs) (a : Author) → is_some s.stopper ≡ false → items_of m log (record s { stopper = Some a }) ≡ items_of m log s ++ Stopped a ∷ []
items_stopped m log s a going = stopped_items m log s a ∙ ap (λ (xs : List Noted). xs ++ Stopped a ∷ []) (sym (going_items m log s going))

-- ---- the world after a history

of_world : (P : World → Type 0) (o : Option Model) (es : List Entry) (m : Model) (log : List Entry) → o ≡ Some m → es ≡ log → P (world_of m log) → OfWorld o es P
of_world P o es m log is same p =
    let Q : Option Model → Type 0 = λ o. OfWorld o es P in
    let R : List Entry → Type 0 = λ xs. P (world_of m xs) in
    subst Q (sym is) (subst R (sym same) p)

pub in_world_of : (P : World → Type 0) (items : List Noted) (m : Model) (log : List Entry) (s : Signs) → items ≡ items_of m log s → Legal m log → P (world_of m log) → InWorld items P
in_world_of P items m log s is legal p =
    let Q : List Noted → Type 0 = λ xs. InWorld xs P in
    subst Q (sym is) (of_world P (model_in (items_of m log s)) (entries_in (items_of m log s)) m log (model_in_items m log s legal) (entries_in_items m log s) p)

pub in_world : (P : World → Type 0) (items : List Noted) (m : Model) (log : List Entry) (s : Signs) (w : World) → items ≡ items_of m log s → IsHistory m log w → P w → InWorld items P
in_world P items m log s w is history p = in_world_of P items m log s is history.legal (subst P history.world p)

pub stop_in_same : (items : List Noted) (m : Model) (log : List Entry) (s : Signs) → items ≡ items_of m log s → stop_in items ≡ is_some s.stopper
stop_in_same items m log s is = ap stop_in is ∙ stop_in_items m log s

-- ---- and back

back_of_world : (P : World → Type 0) (o : Option Model) (es : List Entry) (m : Model) (log : List Entry) → o ≡ Some m → es ≡ log → OfWorld o es P → P (world_of m log)
back_of_world P o es m log is same p =
    let Q : Option Model → Type 0 = λ o. OfWorld o es P in
    let R : List Entry → Type 0 = λ xs. P (world_of m xs) in
    subst R same (subst Q is p)

pub world_in : (P : World → Type 0) (items : List Noted) (m : Model) (log : List Entry) (s : Signs) (w : World) → items ≡ items_of m log s → IsHistory m log w → InWorld items P → P w
world_in P items m log s w is history p =
    subst P (sym history.world)
    (back_of_world P (model_in items) (entries_in items) m log (ap model_in is ∙ model_in_items m log s history.legal) (ap entries_in is ∙ entries_in_items m log s) p)

-- a front as long as the whole is the whole
pub prefix_whole : (xs ys : List Noted) → IsPrefix xs ys → length xs ≡ length ys → xs ≡ ys
prefix_whole [] [] on long = refl
prefix_whole [] (y ∷ ys) on long = absurd (omega arith)
prefix_whole (x ∷ xs) [] on long = absurd (omega arith)
prefix_whole (x ∷ xs) (y ∷ ys) on long =
    let rest : xs ≡ ys = prefix_whole xs ys (on.0, cc (on.1)) (omega arith) in
    let first : x ≡ y = cc (on.1) in
    ap (λ (zs : List Noted). x ∷ zs) rest ∙ ap (λ (z : Noted). z ∷ ys) first
