mod Blanks
mod Found
mod Logs
mod Judged
mod Steps
pub mod Lawful
pub mod Verdicts
pub mod OneAnswer
