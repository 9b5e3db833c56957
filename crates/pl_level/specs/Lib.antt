pub use Rattle.pl_points.specs.Points
pub use Rattle.pl_points.specs.Spans
pub use Rattle.pl_points.specs.Changes
pub use Rattle.pl_points.specs.Standing
pub mod Effects
pub mod Soundness
pub mod Bounds
