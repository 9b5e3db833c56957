pub mod AboutDemonstration
pub mod Texts
pub mod Inputs
pub mod Lines
pub mod Sending
pub mod OfModel
pub mod FewIds
pub mod Improving
