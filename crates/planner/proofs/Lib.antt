pub mod Recorded
pub mod Submitted
pub mod Viewed
pub mod Made
