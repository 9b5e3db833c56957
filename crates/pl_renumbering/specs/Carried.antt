-- What carries ids of activities, under new ids: placed activities and what they break, demands of states and what is wrong there.
use Rattle.std.specs.Prelude.{ℕ}
use Rattle.pl_links.specs.declared.placed.Placed.{Placed}
use Rattle.pl_links.specs.declared.broken.Broken.{Broken}
use Rattle.pl_state.specs.declared.reservation.Setting.{Setting}
use Rattle.pl_state.specs.declared.reservation.Must.{Must}
use Rattle.pl_state.specs.declared.answer.BrokenMust.{BrokenMust}
use Rattle.pl_state.specs.declared.answer.BadSet.{BadSet}
use Rattle.pl_semantics.specs.declared.demand.Demand.{Demand}
use Rattle.pl_semantics.specs.declared.demand.Asked.{Asked}
use Rattle.pl_semantics.specs.declared.demand.Asked.TheVariants as asked
use Rattle.pl_renumbering.specs.Renumbered.{renumbered_place}

-- ---- links

abbrev pub renumbered_placed : (ℕ → ℕ) → Placed → Placed
renumbered_placed f p = record p { id = f p.id; parent = renumbered_place f p.parent }

abbrev pub renumbered_broken : (ℕ → ℕ) → Broken → Broken
renumbered_broken f b = record b { id = f b.id }

-- ---- states

abbrev pub renumbered_setting : (ℕ → ℕ) → Setting → Setting
renumbered_setting f x = record x { id = f x.id }

abbrev pub renumbered_must : (ℕ → ℕ) → Must → Must
renumbered_must f m = record m { id = f m.id }

abbrev pub renumbered_broken_must : (ℕ → ℕ) → BrokenMust → BrokenMust
renumbered_broken_must f m = record m { id = f m.id }

abbrev pub renumbered_bad_set : (ℕ → ℕ) → BadSet → BadSet
renumbered_bad_set f x = record x { id = f x.id }

-- ---- demands: those on capacities and levels carry no id

abbrev pub renumbered_asked : (ℕ → ℕ) → Asked → Asked
renumbered_asked f (asked.Use u) = asked.Use u
renumbered_asked f (asked.Effect e) = asked.Effect e
renumbered_asked f (asked.Set x) = asked.Set (renumbered_setting f x)
renumbered_asked f (asked.Must m) = asked.Must (renumbered_must f m)

abbrev pub renumbered_demand : (ℕ → ℕ) → Demand → Demand
renumbered_demand f d = record d { asked = renumbered_asked f d.asked }
