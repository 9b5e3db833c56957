pub mod Differences
pub mod Fewest
pub mod Renames
pub mod Memories
