mod Once
mod Joining
mod MeasuredEnds
mod Watching
mod Linking
pub mod Crossing
