pub mod Renumbered
pub mod Carried
pub mod Normal
