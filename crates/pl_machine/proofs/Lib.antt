pub mod Runs
pub mod Going
pub mod Admitted
pub mod Changes
pub mod Inputs
pub mod Ends
pub mod Granting
pub mod Repairs
pub mod Sends
pub mod Handed
pub mod Moves
pub mod Models
pub mod NextSteps
pub mod Proposed
pub mod Closes
pub mod Measured
pub mod Withdrawn
pub mod Crossing
pub mod Granted
pub mod Commits
pub mod Resting
pub mod Mending
pub mod Starts
mod Ticking
pub mod Calm
pub mod IdRanges
pub mod Looking
pub mod InOrder
pub mod Places
pub mod Due
mod Settled
mod Mended
pub mod ShortLogs
