pub use Rattle.pl_entry.specs.Bounds
pub use Rattle.pl_model.specs.Checked
pub mod Parsing
pub mod Rendering
pub mod Written
