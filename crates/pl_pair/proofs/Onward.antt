-- What stands behind the front of a history that somebody has seen: how it goes on, and when nothing more may follow.
use Rattle.std.proofs.Common.{◌≡◌, ◌-◌, List, [], ◌∷◌, ◌++◌, map, Bool, true, false, not, Option, Some, None, refl, sym, ◌∙◌, ap, subst}
use Rattle.std.specs.Prelude.{◌&&◌}
use Rattle.std.specs.List.{list_any}
use Rattle.std.proofs.lemmas.Option.{same_Some}
use mathlib.Core.List.{IsPrefix}
use Rattle.pl_marks.specs.declared.author.Author.{Author}
use Rattle.pl_model.specs.declared.whole.Model.{Model}
use Rattle.pl_entry.specs.declared.event.Event.{Event}
use Rattle.pl_entry.specs.declared.event.Event.TheVariants as event
use Rattle.pl_entry.specs.declared.entry.Entry.{Entry}
use Rattle.pl_machine.specs.World.{World}
use Rattle.pl_machine.specs.Step.{is_enabled}
use Rattle.pl_machine.specs.Legal.{MayFollow, Legal, legal_from, world_of}
use Rattle.pl_acts.specs.declared.noted.Noted.{Noted}
use Rattle.pl_acts.specs.declared.noted.Noted.TheVariants.{Opened, Stopped}
use Rattle.pl_acts.specs.Items.{Signs, SignedEntry, made_of, with_authors, stop_items, items_of, entries_in, model_in, is_stop, stop_in, OfWorld, InWorld}
use Rattle.pl_acts.specs.Roles.{is_input}
use Rattle.pl_acts.specs.Seen.{IsPlan}
use Rattle.pl_acts.proofs.Items.{entries_in_items, model_in_items}
use Rattle.pl_pair.specs.Rounds.{IsBetween}
use Rattle.pl_machine.proofs.Going.{world_goes}
use Rattle.pl_pair.proofs.Ending.{enabled_going, steps_behind}
use Rattle.pl_pair.proofs.Feeding.{entries_on}

-- ---- how it goes on

-- further items of a history: entries with their authors, and a stop behind them where there is one
pub record MoreOf (more : List Noted) : Type 0 where
  pub signed : List SignedEntry
  pub stop : Option Author
  pub is : more ≡ map made_of signed ++ stop_items stop

nothing_of : (xs more : List Noted) → xs ++ more ≡ [] → more ≡ []
nothing_of [] more e = e
nothing_of (x ∷ xs) more e = absurd (cc)

more_made : (xs more : List Noted) (es : List SignedEntry) (s : Option Author) → xs ++ more ≡ map made_of es ++ stop_items s → MoreOf more
more_made [] more es s e = record { signed = es; stop = s; is = e }
more_made (x ∷ xs) more [] (Some by) e = record { signed = []; stop = None; is = nothing_of xs more (let h : x ∷ (xs ++ more) ≡ Stopped by ∷ [] = e in (cc)) }
more_made (x ∷ xs) more [] None e = absurd (cc)
more_made (x ∷ xs) more (y ∷ es) s e = more_made xs more es s (let h : x ∷ (xs ++ more) ≡ made_of y ∷ (map made_of es ++ stop_items s) = e in (cc))

some_items : (m : Model) (log : List Entry) (s : Signs) → Legal m log → (x : Noted) × (xs : List Noted) × (items_of m log s ≡ x ∷ xs)
unfolding items_of
some_items m [] s legal = absurd legal
some_items m (first ∷ es) s legal = (Opened m s.by.opening first, map made_of (with_authors (s.by.opening - 1) s.by.authors es) ++ stop_items s.stopper, refl)

items_more : (xs more : List Noted) (x : Noted) (m : Model) (log : List Entry) (s : Signs) → Legal m log → (x ∷ xs) ++ more ≡ items_of m log s → MoreOf more
unfolding items_of
items_more xs more x m [] s legal e = absurd legal
items_more xs more x m (first ∷ es) s legal e =
    let all = with_authors (s.by.opening - 1) s.by.authors es in
    more_made xs more all s.stopper (let h : x ∷ (xs ++ more) ≡ Opened m s.by.opening first ∷ (map made_of all ++ stop_items s.stopper) = e in (cc))

pub more_of : (front : List Noted) (m : Model) (log : List Entry) (s : Signs) → IsPlan front → Legal m log → (on : IsPrefix front (items_of m log s)) → MoreOf on.0
more_of front m log s plan legal on =
    let some = some_items plan.model plan.log plan.signs plan.legal in
    let is : front ≡ some.0 ∷ some.1 = plan.is ∙ some.2 in
    items_more some.1 on.0 some.0 m log s legal (ap (λ (xs : List Noted). xs ++ on.0) (sym is) ∙ on.1)

-- nothing stands behind a stop
stop_tail : (xs more : List Noted) (es : List SignedEntry) (s : Option Author) → xs ++ more ≡ map made_of es ++ stop_items s → list_any is_stop xs ≡ true → more ≡ []
stop_tail [] more es s e stops = absurd (cc)
stop_tail (x ∷ xs) more [] (Some by) e stops = nothing_of xs more (let h : x ∷ (xs ++ more) ≡ Stopped by ∷ [] = e in (cc))
stop_tail (x ∷ xs) more [] None e stops = absurd (cc)
stop_tail (x ∷ xs) more (y ∷ es) s e stops =
    let head : x ≡ made_of y = (let h : x ∷ (xs ++ more) ≡ made_of y ∷ (map made_of es ++ stop_items s) = e in (cc)) in
    let rest : xs ++ more ≡ map made_of es ++ stop_items s = (let h : x ∷ (xs ++ more) ≡ made_of y ∷ (map made_of es ++ stop_items s) = e in (cc)) in
    stop_tail xs more es s rest (subst (λ (z : Noted). list_any is_stop (z ∷ xs) ≡ true) head stops)

items_stop : (xs more : List Noted) (x : Noted) (m : Model) (log : List Entry) (s : Signs) → Legal m log → (x ∷ xs) ++ more ≡ items_of m log s → stop_in (x ∷ xs) ≡ true → more ≡ []
unfolding items_of
items_stop xs more x m [] s legal e stops = absurd legal
items_stop xs more x m (first ∷ es) s legal e stops =
    let all = with_authors (s.by.opening - 1) s.by.authors es in
    let head : x ≡ Opened m s.by.opening first = (let h : x ∷ (xs ++ more) ≡ Opened m s.by.opening first ∷ (map made_of all ++ stop_items s.stopper) = e in (cc)) in
    let rest : xs ++ more ≡ map made_of all ++ stop_items s.stopper = (let h : x ∷ (xs ++ more) ≡ Opened m s.by.opening first ∷ (map made_of all ++ stop_items s.stopper) = e in (cc)) in
    stop_tail xs more all s.stopper rest (subst (λ (z : Noted). stop_in (z ∷ xs) ≡ true) head stops)

pub nothing_behind_stop : (front : List Noted) (m : Model) (log : List Entry) (s : Signs) → IsPlan front → Legal m log → (on : IsPrefix front (items_of m log s)) → stop_in front ≡ true → on.0 ≡ []
nothing_behind_stop front m log s plan legal on stops =
    let some = some_items plan.model plan.log plan.signs plan.legal in
    let is : front ≡ some.0 ∷ some.1 = plan.is ∙ some.2 in
    items_stop some.1 on.0 some.0 m log s legal (ap (λ (xs : List Noted). xs ++ on.0) (sym is) ∙ on.1) (sym (ap stop_in is) ∙ stops)

-- ---- when nothing follows

not_both : (a b : Bool) → a ≡ true → (not a && b) ≡ true → ⊥
not_both true b e h = cc
not_both false b e h = cc

not_alone : (a : Bool) → a ≡ true → not a ≡ true → ⊥
not_alone true e h = cc
not_alone false e h = cc

closed_input : (w : World) (v : Event) → is_enabled w v ≡ true → w.closed ≡ true → is_input v ≡ true
closed_input w (event.Opened o) enabled closed = absurd (cc)
closed_input w (event.Input line) enabled closed = refl
closed_input w (event.Fix k m) enabled closed = absurd (not_both w.closed _ closed enabled)
closed_input w event.Rest enabled closed = absurd (not_both w.closed _ closed enabled)
closed_input w (event.Commit h) enabled closed = absurd (not_alone w.closed closed enabled)
closed_input w event.Dispatch enabled closed = absurd (not_both w.closed _ closed enabled)
closed_input w event.Close enabled closed = absurd (not_both w.closed _ closed enabled)

-- why nothing follows a history
pub data Rests (front : List Noted) : Type 0 where
  between : InWorld front IsBetween → Rests front
  over : InWorld front (λ w. w.done ≡ true) → Rests front
  stopped : stop_in front ≡ true → Rests front

-- what holds of the world after a history of this model
pub world_in : (P : World → Type 0) (seen : List Noted) (m : Model) → model_in seen ≡ Some m → InWorld seen P → P (world_of m (entries_in seen))
world_in P seen m is here =
    let Q : Option Model → Type 0 = λ o. OfWorld o (entries_in seen) P in
    subst Q is here

-- the entries of a front of a legal log are a legal log
pub legal_front : (front : List Noted) (m : Model) → IsPlan front → model_in front ≡ Some m → Legal m (entries_in front)
legal_front front m plan is =
    let same : plan.model ≡ m = same_Some plan.model m (sym (ap model_in plan.is ∙ model_in_items plan.model plan.log plan.signs plan.legal) ∙ is) in
    let entries : entries_in front ≡ plan.log = ap entries_in plan.is ∙ entries_in_items plan.model plan.log plan.signs in
    subst (λ (log : List Entry). Legal m log) (sym entries) (subst (λ (k : Model). Legal k plan.log) same plan.legal)

module _ (m : Model) (log : List Entry) (s : Signs) (legal : Legal m log) (front : List Noted) (plan : IsPlan front) (model : model_in front ≡ Some m) (on : IsPrefix front (items_of m log s)) where
  pub entries_whole : log ≡ entries_in front ++ entries_in on.0
  entries_whole = sym (entries_in_items m log s) ∙ entries_on front (items_of m log s) on

  behind_follows : (e : Entry) (es : List Entry) → entries_in on.0 ≡ e ∷ es → MayFollow (world_of m (entries_in front)) e
  behind_follows e es is =
      let whole : log ≡ entries_in front ++ e ∷ es = entries_whole ∙ ap (λ (xs : List Entry). entries_in front ++ xs) is in
      let steps : legal_from (world_of m (entries_in front)) (e ∷ es) = steps_behind m (entries_in front) (e ∷ es) (legal_front front m plan model) (subst (λ (l : List Entry). Legal m l) whole legal) in
      steps.0

  -- behind a history that is over there is no entry
  pub over_none : InWorld front (λ w. w.done ≡ true) → (e : Entry) (es : List Entry) → entries_in on.0 ≡ e ∷ es → ⊥
  over_none here e es is =
      let follows = behind_follows e es is in
      let done : (world_of m (entries_in front)).done ≡ true = world_in (λ w. w.done ≡ true) front m model here in
      let goes = world_goes m (entries_in front) (legal_front front m plan model) in
      let both : true ≡ false = sym done ∙ enabled_going (world_of m (entries_in front)) e.event follows.enabled goes in cc

  -- behind one between two rounds there is an input
  pub between_input : InWorld front IsBetween → (e : Entry) (es : List Entry) → entries_in on.0 ≡ e ∷ es → is_input e.event ≡ true
  between_input here e es is =
      let follows = behind_follows e es is in
      let between' = world_in IsBetween front m model here in
      closed_input (world_of m (entries_in front)) e.event follows.enabled between'.0

  pub stop_none : stop_in front ≡ true → entries_in on.0 ≡ []
  stop_none stops = ap entries_in (nothing_behind_stop front m log s plan legal on stops)
