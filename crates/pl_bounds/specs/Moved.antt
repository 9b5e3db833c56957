-- What is asked for, moved along with the activities that ask.
use Rattle.std.specs.Prelude.{ℕ, ◌+◌, ◌-◌}
use Rattle.pl_semantics.specs.declared.demand.Demand.{Demand}
use Rattle.pl_semantics.specs.declared.demand.Asked.{Asked}
use Rattle.pl_semantics.specs.declared.demand.Asked.TheVariants as asked

abbrev pub moved_to : ℕ → ℕ → ℕ → ℕ
moved_to from to t = (t + to) - from

abbrev pub asked_moved : ℕ → ℕ → Asked → Asked
asked_moved from to (asked.Use u) = asked.Use (record u { from = moved_to from to u.from; to = moved_to from to u.to })
asked_moved from to (asked.Effect e) = asked.Effect (record e { at = moved_to from to e.at })
asked_moved from to (asked.Set x) = asked.Set (record x { at = moved_to from to x.at })
asked_moved from to (asked.Must m) = asked.Must (record m { from = moved_to from to m.from; to = moved_to from to m.to })

abbrev pub demand_moved : ℕ → ℕ → Demand → Demand
demand_moved from to d = record d { asked = asked_moved from to d.asked }
