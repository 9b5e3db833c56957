use Rattle.std.proofs.Common.{◌≡◌, drop}
use Rattle.std.specs.List.{flat_map}
use Rattle.pl_semantics.specs.Demands.{asked_of, set_in, must_in}
use Rattle.pl_detect.specs.Fresh.{with_sets, with_musts}
use Rattle.pl_detect.proofs.states.add_all.Given as goal

-- with the other sets and musts it is the timeline with all
abbrev pub invariant-loop-demand : goal.invariant-loop-demand
invariant-loop-demand l =
    record l.states { sets = with_sets l.states.sets (flat_map (asked_of set_in l.line) (drop l.demand-index l.demands)); musts = with_musts l.states.musts (flat_map (asked_of must_in l.line) (drop l.demand-index l.demands)) }
    ≡ record l.initial.states { sets = with_sets l.initial.states.sets (flat_map (asked_of set_in l.line) l.demands); musts = with_musts l.initial.states.musts (flat_map (asked_of must_in l.line) l.demands) }
