mod Offsets
mod Slots
mod Swaps
mod Subtrees
mod Returning
mod Picking
mod Foremost
pub mod Trying
mod Kin
mod Onward
pub mod Along
pub mod Enough
mod Cuts
mod Remade
mod Grown
mod Branched
pub mod Made
pub mod Unmeasured
pub mod Drops
mod OneGoalLess
pub mod Keeping
pub mod Flags
mod Undetailed
