pub use Rattle.pl_points.specs.Points
pub use Rattle.pl_lists.specs.Lists
pub mod Blocks
pub mod Mending
pub mod Laws
