-- What is written of a forecast: how many spans, and then each in a line.
use Rattle.std.specs.Prelude.{ℕ, Bool, true, false, List, [], ◌∷◌, ◌++◌, length, flat_map, slice_get, codes, decimal}
use Rattle.std.specs.Option.{option_map_or}
use Rattle.pl_model.specs.declared.whole.Model.{Model}
use Rattle.pl_msg.specs.Names.{timeline_name}
use Rattle.pl_semantics.specs.declared.plan_state.PlanState.{PlanState}
use Rattle.pl_rate.specs.declared.outside.Outside.{Outside}
use Rattle.pl_rate.specs.declared.rate.Rate.{Rate}
use Rattle.pl_rate.specs.Fores.{forecast_of}
use Rattle.pl_report.specs.Lines.{line_with}

-- forecast spans NUMBER
abbrev pub spans_line : List Outside → List ℕ
spans_line all = line_with (codes "forecast spans") (decimal (length all) ∷ [])

-- the name of the timeline of this number
abbrev pub line_name : Model → ℕ → List ℕ
line_name m line = option_map_or timeline_name (slice_get m.timelines line) []

-- whether the level is above its most, or below its least
abbrev pub side_word : Bool → List ℕ
side_word true = codes "high"
side_word false = codes "low"

-- low|high NAME FROM TO
abbrev pub outside_line : Model → Outside → List ℕ
outside_line m o = line_with (side_word o.high) (line_name m o.level ∷ decimal o.from ∷ decimal o.to ∷ [])

abbrev pub outside_lines : Model → List Outside → List ℕ
outside_lines m all = flat_map (outside_line m) all

-- of these spans, in their order
unfoldable pub spans_text : Model → List Outside → List ℕ
spans_text m all = spans_line all ++ outside_lines m all

-- the forecast of the plan by these rates
abbrev pub forecast_text : PlanState → List Rate → List ℕ
forecast_text s rates = spans_text s.model (forecast_of s rates)
