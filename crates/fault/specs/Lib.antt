pub mod Numbers
pub mod Parts
pub mod Clears
pub mod Unmade
