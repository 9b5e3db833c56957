pub use Rattle.pl_io.specs.Faults
pub use Rattle.pl_io.specs.Lines as ByteLines
pub use Rattle.pl_io.specs.Writes
pub mod Reads
pub mod Heads
pub mod Waits
pub mod Places
pub mod Stops
pub mod Words
pub mod Tokens
