pub mod Rounds
pub mod CutShort
