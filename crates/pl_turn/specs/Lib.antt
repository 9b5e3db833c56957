pub use Rattle.atomic_table.specs.Table
pub use Rattle.atomic_table.specs.Seated
pub mod History
pub mod Rule
pub mod Steps
pub mod Passes
pub mod Owners
