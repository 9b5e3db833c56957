pub use Rattle.pl_io.specs.Lines as ByteLines
pub use Rattle.pl_machine.specs.Legal
pub mod DemoModel
pub mod Demonstration
pub mod Flexes
pub mod Forecasts
pub mod Improvements
pub mod Lines
pub mod Reports
pub mod Sent
pub mod Verdicts
