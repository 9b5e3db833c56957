-- The rule of the turn lock: what holds between any two steps of any passes.
-- Word 0 is the length of the history, word 1 the tickets drawn and word 2 the tickets called, both modulo 2 ^ 64. The one slot has the value.
use Rattle.std.specs.Prelude.{◌≡◌, ℕ, ◌+◌, ◌%◌, ◌^◌, ◌≤◌, ◌==◌, true, false, cond, List, [], ◌∷◌, length, Option, Some, None}
use Rattle.std.specs.List.{sum_by}
use mathlib.Core.Option.{some}
use mathlib.Core.List.{IsPrefix}
use lib.ListN.{get_elem?}
use Rattle.atomic_table.specs.Table.{State}
use Rattle.pl_turn.specs.declared.known.Known.{Known}
use Rattle.pl_turn.specs.declared.known.Crew.{Crew}
use Rattle.pl_turn.specs.History.{IsEachOnce, times_in}

-- 1 for a ticket, and 0 for none
abbrev pub is_ticket : Option ℕ → ℕ
is_ticket None = 0
is_ticket (Some u) = 1

-- 1 for this ticket, and 0 for another or none
abbrev pub is_this_ticket : ℕ → Option ℕ → ℕ
is_this_ticket t None = 0
is_this_ticket t (Some u) = cond (u == t) 1 0

module _ {I : Type 0} where
  -- how many tickets a view has
  abbrev pub tickets : Known I → ℕ
  tickets k = is_ticket k.ticket

  abbrev pub tickets_at : ℕ → Known I → ℕ
  tickets_at t k = is_this_ticket t k.ticket

  -- a view's own entries, and those of each pass that it took in
  abbrev pub own_lists : Known I → List (List (ℕ × I))
  own_lists k = k.mine ∷ k.crew.joined

  -- how often a place stands in a view's own lists
  abbrev pub owns : ℕ → Known I → ℕ
  owns place k = times_in place (own_lists k)

  abbrev pub spends : Known I → ℕ
  spends k = cond k.spent 1 0

  abbrev pub no_crew : Crew I
  no_crew = record { leads = false; opening = 0; made = 0; joined = [] }

  -- the view of the first pass, at the start
  abbrev pub starting : List I → Known I
  starting opening = record {
    ticket = None;
    served = false;
    seen = opening;
    heard = [];
    counted = 0;
    mine = [];
    crew = record { leads = true; opening = length opening; made = 0; joined = [] };
    spent = false;
  }

  -- the view that is left where a pass was joined
  abbrev pub gone : Known I
  gone = record { ticket = None; served = false; seen = []; heard = []; counted = 0; mine = []; crew = no_crew; spent = true }

  -- what the view k, the j-th, has to do with the history `log`, the ticket that was called last, and the passes made and joined
  pub record Fits (log : List I) (opening called made joined j : ℕ) (k : Known I) : Type 0 where
    -- the lists seen are beginnings of one history, and a number that was read is at most its length
    pub seen : IsPrefix k.seen log
    pub heard : IsPrefix k.heard log
    pub counted : k.counted ≤ length log
    -- who has the value has the ticket that was called, and has seen the whole history
    pub served : k.served ≡ true → (k.ticket ≡ Some called) × (k.seen ≡ log)
    -- one view at most, the first, knows of the passes made and joined
    pub leads : k.crew.leads ≡ true → (j ≡ 0) × (k.crew.opening ≡ opening) × (k.crew.made ≡ made) × (length k.crew.joined ≡ joined)
    pub follows : k.crew.leads ≡ false → k.crew.joined ≡ []
    -- of a pass that was joined nothing is left
    pub spent : k.spent ≡ true → k ≡ gone

  abbrev pub IsViewOf : List (Known I) → ℕ → Known I → Type 0
  IsViewOf views j k = get_elem? views j ≡ some k

  abbrev pub NobodyIsServed : List (Known I) → Type 0
  NobodyIsServed views = (j : ℕ) (k : Known I) → IsViewOf views j k → k.served ≡ false

module _ {V I : Type 0} (entries : V → List I) where
  -- a value lies in the slot, and stands for the history
  abbrev pub IsHome : State (Option V) (Known I) → List I → Type 0
  IsHome s log = (v : V) × (get_elem? s.homes 0 ≡ some (some (Some v))) × (entries v ≡ log)

  pub record Kept (s : State (Option V) (Known I)) : Type 0 where
    -- the one history, and how long it was as the lock was made
    pub log : List I
    pub opening : ℕ
    pub opened : opening ≤ length log
    -- the tickets drawn and called, and the passes made and joined, so far
    pub drawn : ℕ
    pub called : ℕ
    pub made : ℕ
    pub joined : ℕ
    pub words : s.words ≡ length log ∷ drawn % 2 ^ 64 ∷ called % 2 ^ 64 ∷ []
    -- as many views wait as tickets were drawn and not called yet, and each of these tickets has one view
    pub waiting : drawn ≡ called + sum_by tickets s.views
    pub each_ticket : IsEachOnce called drawn (λ t. sum_by (tickets_at t) s.views)
    -- the value is out with a view that is served, and else at home
    pub home : NobodyIsServed s.views → IsHome s log
    -- each place past the opening stands in one own list
    pub each_place : IsEachOnce opening (length log) (λ p. sum_by (owns p) s.views)
    pub each_view : (j : ℕ) (k : Known I) → IsViewOf s.views j k → Fits log opening called made joined j k
    -- the views are the first and those made from it, and as many are spent as were joined
    pub passes : (length s.views ≡ made + 1) × (made ≤ 1000) × (sum_by spends s.views ≡ joined)
