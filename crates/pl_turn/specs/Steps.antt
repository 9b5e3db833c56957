-- What each step of the lock does to the view of its pass, and what it tells.
use Rattle.std.specs.Prelude.{◌≡◌, ◌≢◌, ℕ, ◌+◌, ◌%◌, ◌^◌, ◌≤◌, true, false, max, List, [], ◌∷◌, ◌++◌, length, Option, Some, None}
use mathlib.Core.List.{IsPrefix}
use Rattle.atomic_table.specs.Table.{Me, Step, rest}
use Rattle.pl_turn.specs.declared.known.Known.{Known}
use Rattle.pl_turn.specs.History.{longer}
use Rattle.pl_turn.specs.Rule.{no_crew}

module _ {I : Type 0} where
  abbrev pub drawing : Known I → ℕ → Known I
  drawing k t = record k { ticket = Some t }

  abbrev pub receiving : Known I → List I → Known I
  receiving k log = record k { served = true; seen = log }

  abbrev pub adding : Known I → I → Known I
  adding k e = record k { seen = k.seen ++ e ∷ []; mine = k.mine ++ (length k.seen, e) ∷ [] }

  abbrev pub ending : Known I → Known I
  ending k = record k { ticket = None; served = false }

  -- the splitting pass counts a pass made
  abbrev pub splitting : Known I → Known I
  splitting k = record k { crew = record k.crew { made = k.crew.made + 1 } }

  -- the new pass has seen as much, and has no own entries
  abbrev pub newcomer : Known I → Known I
  newcomer k = record { ticket = None; served = false; seen = k.seen; heard = []; counted = k.counted; mine = []; crew = no_crew; spent = false }

  -- the taker keeps the other's own entries, and hears what the other has seen
  abbrev pub taking : Known I → Known I → Known I
  taking k other = record k { heard = other.seen; counted = max k.counted other.counted; crew = record k.crew { joined = k.crew.joined ++ other.mine ∷ [] } }

  abbrev pub learning : Known I → Known I
  learning k = record k { seen = longer k.seen k.heard; heard = [] }

  abbrev pub counting : Known I → ℕ → Known I
  counting k n = record k { counted = n }

-- a seat's view, and the slots in its hand
abbrev Sat : Type 0 → Type 0 → Type 0
Sat V I = Me (Option V) (Known I)

module _ {V I : Type 0} where
  -- the number found on the ticket word is the ticket, modulo 2 ^ 64
  abbrev pub Draws : Step (Option V) → Sat V I → ℕ → Sat V I → Type 0
  Draws s me n now = (t : ℕ) × (t % 2 ^ 64 ≡ n) × (now ≡ (drawing me.0 t, me.1))

  -- where the ticket is the one called, the slot is the seat's, and its value's list begins with all that was seen
  abbrev pub Serves : (V → List I) → Step (Option V) → Sat V I → ℕ → Sat V I → Type 0
  Serves entries s me n now = (t : ℕ) → me.0.ticket ≡ Some t
      → (t % 2 ^ 64 ≡ n → (v : V) × (now ≡ (receiving me.0 (entries v), (0, Some v) ∷ me.1)) × IsPrefix me.0.seen (entries v) × (me.0.counted ≤ length (entries v)))
      × (t % 2 ^ 64 ≢ n → now ≡ me)

  -- the number is the length of the history, which a pass in its turn has seen whole
  abbrev pub Measures : Step (Option V) → Sat V I → ℕ → Sat V I → Type 0
  Measures s me n now = (now ≡ me) × (me.0.served ≡ true → n ≡ length me.0.seen)

  -- the entry by which the value in hand is longer than what was seen joins the own list, at the number found
  abbrev pub Adds : (V → List I) → Step (Option V) → Sat V I → ℕ → Sat V I → Type 0
  Adds entries s me n now = (n ≡ length me.0.seen) × ((e : I) × (now ≡ (adding me.0 e, me.1)) × ((v : V) → me.1 ≡ (0, Some v) ∷ [] → entries v ≡ me.0.seen ++ e ∷ []))

  -- the ticket is gone, and the slot goes home
  abbrev pub Ends : Step (Option V) → Sat V I → ℕ → Sat V I → Type 0
  Ends s me n now = now ≡ (ending me.0, rest me.1)

  -- of what was seen and what was heard, the longer begins with both
  abbrev pub Learns : Step (Option V) → Sat V I → ℕ → Sat V I → Type 0
  Learns s me n now = (now ≡ (learning me.0, me.1)) × IsPrefix me.0.seen (longer me.0.seen me.0.heard) × IsPrefix me.0.heard (longer me.0.seen me.0.heard)

  -- the number is the length of the history, which is no shorter than what was seen or counted
  abbrev pub Counts : Step (Option V) → Sat V I → ℕ → Sat V I → Type 0
  Counts s me n now = (now ≡ (counting me.0 n, me.1)) × (length me.0.seen ≤ n) × (me.0.counted ≤ n)
