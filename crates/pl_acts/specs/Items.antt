-- The list that a plan under its lock stands for: one item for each entry of its log, the first with the model and with how many entries were handed in, and a last one where it was stopped.
use Rattle.std.specs.Prelude.{ℕ, zero, suc, ◌-◌, List, [], ◌∷◌, ◌++◌, length, map, Bool, true, false, Option, Some, None}
use Rattle.std.specs.List.{filter_map, list_any}
use Rattle.pl_marks.specs.declared.author.Author.{Author}
use Rattle.pl_marks.specs.Marks.{Signed}
use Rattle.pl_model.specs.declared.whole.Model.{Model}
use Rattle.pl_entry.specs.declared.entry.Entry.{Entry}
use Rattle.pl_machine.specs.World.{World}
use Rattle.pl_machine.specs.Legal.{world_of}
use Rattle.pl_acts.specs.declared.noted.Noted.{Noted}
use Rattle.pl_acts.specs.declared.noted.Noted.TheVariants.{Opened, Made, Stopped}

-- What there is beside the log: who made its entries, and who stopped the plan behind it, if anybody did.
pub record Signs : Type 0 where
  pub by : Signed
  pub stopper : Option Author

-- as many entries as these were handed in, and nobody has done anything
abbrev pub handed_in : List Entry → Signs
handed_in log = record { by = record { opening = length log; authors = [] }; stopper = None }

-- one more entry of an author's
abbrev pub signed_on : Author → Signed → Signed
signed_on a s = record s { authors = s.authors ++ a ∷ [] }

-- an entry with its author, if it was not handed in
abbrev pub SignedEntry : Type 0
SignedEntry = Option Author × Entry

abbrev pub made_of : SignedEntry → Noted
made_of x = Made x.0 x.1

abbrev pub entries_of : List SignedEntry → List Entry
entries_of signed = map (λ (x : SignedEntry). x.1) signed

-- Entries behind the open one, the first so many of which were handed in, and who made those behind them.
abbrev pub with_authors : ℕ → List Author → List Entry → List SignedEntry
with_authors handed authors [] = []
with_authors (suc handed) authors (e ∷ entries) = (None, e) ∷ with_authors handed authors entries
with_authors zero [] (e ∷ entries) = (None, e) ∷ with_authors zero [] entries
with_authors zero (a ∷ authors) (e ∷ entries) = (Some a, e) ∷ with_authors zero authors entries

abbrev pub made_items : ℕ → List Author → List Entry → List Noted
made_items handed authors entries = map made_of (with_authors handed authors entries)

abbrev pub log_items : Model → List Entry → Signed → List Noted
log_items m [] s = []
log_items m (first ∷ entries) s = Opened m s.opening first ∷ made_items (s.opening - 1) s.authors entries

abbrev pub stop_items : Option Author → List Noted
stop_items (Some by) = Stopped by ∷ []
stop_items None = []

-- the items of a log of this model, and of what there is beside it
unfoldable pub items_of : Model → List Entry → Signs → List Noted
items_of m log s = log_items m log s.by ++ stop_items s.stopper

-- ---- read back

abbrev pub entry_in : Noted → Option Entry
entry_in (Opened m n e) = Some e
entry_in (Made by e) = Some e
entry_in (Stopped by) = None

-- the log
abbrev pub entries_in : List Noted → List Entry
entries_in items = filter_map entry_in items

-- the model
abbrev pub model_in : List Noted → Option Model
model_in [] = None
model_in (Opened m n e ∷ items) = Some m
model_in (Made by e ∷ items) = None
model_in (Stopped by ∷ items) = None

-- how many entries were handed in
abbrev pub opening_in : List Noted → Option ℕ
opening_in [] = None
opening_in (Opened m n e ∷ items) = Some n
opening_in (Made by e ∷ items) = None
opening_in (Stopped by ∷ items) = None

abbrev pub is_stop : Noted → Bool
is_stop (Opened m n e) = false
is_stop (Made by e) = false
is_stop (Stopped by) = true

-- who made the entry, if it was not handed in, or who stopped the plan
abbrev pub signer_in : Noted → Option Author
signer_in (Opened m n e) = None
signer_in (Made by e) = by
signer_in (Stopped by) = Some by

-- whether the plan was stopped
abbrev pub stop_in : List Noted → Bool
stop_in items = list_any is_stop items

abbrev pub OfWorld : Option Model → List Entry → (World → Type 0) → Type 0
OfWorld None entries P = ⊥
OfWorld (Some m) entries P = P (world_of m entries)

-- it holds of the world after these items
abbrev pub InWorld : List Noted → (World → Type 0) → Type 0
InWorld items P = OfWorld (model_in items) (entries_in items) P
