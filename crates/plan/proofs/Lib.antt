pub mod Lists
pub mod Small
pub mod Order
pub mod Runs
pub mod Books
pub mod Whole
