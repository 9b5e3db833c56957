use Rattle.std.proofs.Common.{ap, ◌∙◌}
use Rattle.pl_board.specs.Boards.{Standing}
use Rattle.pl_rate.specs.Rates.{IsRateOf}
use Rattle.pl_report.proofs.OfModel.{items_fit}
use Rattle.pl_report.proofs.forecasts.forecast_text.Goals as goal

pub state_forecast-requires-clause-rates : goal.state_forecast-requires-clause-rates
state_forecast-requires-clause-rates c =
    items_fit IsRateOf c.args.machine.now.model c.args.machine.now.log c.args.machine.now.world c.state-state.result.now c.args.rates.now
    (c.log-log.ensures.history c.requires.unspoiled)
    (c.state-state.ensures.value ∙ ap (λ (b : Standing). b.state) c.board.ensures)
    c.requires.rates
