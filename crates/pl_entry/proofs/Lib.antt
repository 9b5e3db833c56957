pub mod Steps
pub mod DueLaws
pub mod BestLaws
pub mod Growth
pub mod DueOn
