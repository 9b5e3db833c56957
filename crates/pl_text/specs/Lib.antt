pub use Rattle.pl_lists.specs.Judgements
pub mod Bytes
pub mod Words
pub mod Tokens
pub mod Pieces
