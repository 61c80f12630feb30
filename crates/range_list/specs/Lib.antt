pub mod Ranges
pub mod Stated
pub mod View
