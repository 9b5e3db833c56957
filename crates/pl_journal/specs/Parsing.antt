pub mod Journal
pub mod Reads
pub mod Words
pub mod Moves
pub mod Replies
pub mod Entries
