pub use Rattle.pl_io.specs.Faults
pub use Rattle.pl_io.specs.Lines as ByteLines
pub mod Prefaces
pub mod Gives
pub mod Refusals
pub mod RateLines
pub mod PreferLines
