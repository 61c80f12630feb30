pub mod Laws
pub mod Members
pub mod Moves
pub mod Shifts
pub mod Steps
pub mod Points
pub mod Checks
