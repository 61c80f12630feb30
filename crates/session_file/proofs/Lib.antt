pub mod Appends
pub mod Moments
pub mod Turns
